use Rattle.std.proofs.Common.{◌∙◌, ℕ, List, ap, string_bytes}
use Rattle.cmd_words.specs.NamedPairs.{named_pair}
use Rattle.command_input.proofs.Pushed.{pushed_as}
use Rattle.command_input.proofs.generated.push_named.Goals as goal

pub returns : goal.returns
returns c =
    pushed_as named_pair c.args.named.now.items c.push.new.self.items (record { table = c.in_ok-table.table; file = c.in_ok-file.file }) (c.args.table.now, c.args.file.now)
    c.in_ok-push.ensures.items
    (ap (λ (table : List ℕ). (table, string_bytes c.in_ok-file.file)) c.in_ok-table.ensures.ok ∙ ap (λ (file : List ℕ). (c.args.table.now, file)) c.in_ok-file.ensures.ok)
