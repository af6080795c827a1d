use Rattle.std.proofs.Common.{◌==◌, ◌∙◌, ℕ, ap, length}
use Rattle.query_select.specs.Tokens.{is_word_byte}
use Rattle.query_select.proofs.Prefixes.{prefix_all}
use Rattle.query_select.proofs.writing.go_on_word.Goals as goal

pub returns : goal.returns
returns c = ap (λ (n : ℕ). n == length c.args.bytes.now) c.word_len.ensures ∙ prefix_all is_word_byte c.args.bytes.now
