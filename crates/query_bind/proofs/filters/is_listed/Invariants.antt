use Rattle.std.proofs.Common.{◌≡◌, ◌==◌, ◌&&◌, drop}
use Rattle.std.specs.List.{list_any}
use Rattle.std.specs.Str.{bytes_eq}
use Rattle.bound_query.specs.declared.filters.Constant.{Constant}
use Rattle.query_bind.proofs.filters.is_listed.Given as goal

abbrev pub invariant-loop-constant : goal.invariant-loop-constant
invariant-loop-constant l =
    list_any (λ (c : Constant). (c.place == l.place) && bytes_eq c.bytes l.bytes) (drop l.constant-index l.constants)
    ≡ list_any (λ (c : Constant). (c.place == l.place) && bytes_eq c.bytes l.bytes) l.constants
