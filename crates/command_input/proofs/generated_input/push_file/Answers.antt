use Rattle.std.proofs.Common.{ℕ, List, ap}
use Rattle.outer_io.specs.Entries.{entry_of}
use Rattle.command_input.proofs.Pushed.{pushed_as}
use Rattle.command_input.proofs.generated_input.push_file.Goals as goal

pub returns : goal.returns
returns c =
    pushed_as entry_of c.args.files.now.items c.push.new.self.items (record { name = c.in_ok-name.name; bytes = c.args.bytes }) (c.args.name.now, c.args.bytes.items) c.in_ok-push.ensures.items
    (ap (λ (name : List ℕ). (name, c.args.bytes.items)) c.in_ok-name.ensures.ok)
