use Rattle.std.proofs.Common.{◌≡◌, drop, position}
use Rattle.std.specs.List.{position_from}
use Rattle.std.specs.Str.{bytes_eq}
use Rattle.anyk_model.specs.Query.{Item}
use Rattle.command_input.proofs.binding.item_of.Given as goal

abbrev pub invariant-loop-item : goal.invariant-loop-item
invariant-loop-item l =
    position_from (λ (i : Item). bytes_eq i.alias l.alias) l.item (drop l.item l.query.query.items) ≡ position (λ (i : Item). bytes_eq i.alias l.alias) l.query.query.items
