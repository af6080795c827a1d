use Rattle.std.proofs.Common.{◌≡◌, drop}
use Rattle.std.specs.List.{list_any}
use Rattle.std.specs.Str.{bytes_eq}
use Rattle.bound_query.specs.declared.bound.BoundItem.{BoundItem}
use Rattle.query_bind.proofs.names.has_alias.Given as goal

abbrev pub invariant-loop-item : goal.invariant-loop-item
invariant-loop-item l =
    list_any (λ (i : BoundItem). bytes_eq i.alias l.alias) (drop l.item-index l.items) ≡ list_any (λ (i : BoundItem). bytes_eq i.alias l.alias) l.items
