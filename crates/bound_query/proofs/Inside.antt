-- Columns that equalities name exist.
use Rattle.std.proofs.Common.{◌≡◌, ◌⊎◌, List, refl, sym, ap, subst, inl, inr}
use Rattle.std.specs.List.{AllByRecursion}
use Rattle.anyk_model.specs.Table.{Table}
use Rattle.anyk_model.specs.Query.{Item, Column, Equality, Side}
use Rattle.rankings.proofs.Members.{all_member}
use Rattle.bound_query.specs.Classes.{IsShared, Linked, same, forth, back}
use Rattle.bound_query.specs.NamedPlaces.{EqualityInside, IsInside, SideInside}

module _ (tables : List Table) (items : List Item) (es : List Equality) (all : AllByRecursion (EqualityInside tables items) es) where
  -- a column that is linked to another one exists
  pub linked_inside : (c d : Column) → Linked es c d → (c ≡ d) ⊎ IsInside tables items c
  linked_inside c d same = inl refl
  linked_inside c d (forth {e = e} {b = b} m is h) = inr (all_member (EqualityInside tables items) e es all m).left
  linked_inside c d (back {e = e} {b = b} m is h) =
      inr (subst (λ (s : Side). SideInside tables items s) is (all_member (EqualityInside tables items) e es all m).right)

  pub shared_inside : (c : Column) → IsShared es c → IsInside tables items c
  shared_inside c s = elim (linked_inside c s.other s.linked) [
    | inl e ↦ absurd (s.elsewhere (ap (λ (z : Column). z.item) (sym e)))
    | inr h ↦ h
  ]
