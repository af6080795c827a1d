use Rattle.std.proofs.Common.{◌≡◌, drop}
use Rattle.std.specs.List.{list_any}
use Rattle.std.specs.Str.{bytes_eq}
use Rattle.session_script.proofs.open_names.is_open.Given as goal

abbrev pub invariant-loop-other : goal.invariant-loop-other
invariant-loop-other l = list_any (λ x. bytes_eq x l.name) (drop l.other-index l.names) ≡ list_any (λ x. bytes_eq x l.name) l.names
