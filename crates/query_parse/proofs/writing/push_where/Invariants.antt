use Rattle.std.proofs.Common.{◌≡◌, ◌++◌, take}
use Rattle.std.specs.Prelude.{codes}
use Rattle.std.specs.List.{flat_map}
use Rattle.query_parse.specs.Text.{equality_text}
use Rattle.query_parse.proofs.writing.push_where.Given as goal

abbrev pub invariant-loop-equality : goal.invariant-loop-equality
invariant-loop-equality l = l.text.items ≡ l.initial.text.items ++ flat_map (λ equality. codes " and " ++ equality_text equality) (take l.equality-index l.others)
