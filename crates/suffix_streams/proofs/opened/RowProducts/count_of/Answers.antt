use Rattle.std.proofs.Common.{◌≡◌, ℕ, suc, ◌<◌, ◌≤◌, ◌-◌, List, [], length, get_or, refl, sym, ap, ◌∙◌, arith}
use Rattle.std.proofs.lemmas.List.{get_or_past}
use Rattle.std.specs.declared.vec.Vec.{Vec}
use Rattle.suffix_streams.specs.OpenedRows.{list_numbered, HaveOwnLists}
use Rattle.suffix_streams.proofs.OpenedRows.{items_of, rows_of, row_is}
use Rattle.suffix_streams.proofs.ListEnds.{map_at}
use Rattle.suffix_streams.proofs.opened.RowProducts.count_of.Goals as goal

module _ {P Z : Type 0} (vs : List (Vec P Z)) (opened : List ℕ) (own : HaveOwnLists opened (length vs)) (rows : List (List P)) (seen : rows_of vs opened ≡ rows) (r n : ℕ) (at : n ≡ get_or opened r 0) where
  count_is : length (list_numbered (items_of vs) n) ≡ length (get_or rows r [])
  count_is = ap (λ m. length (list_numbered (items_of vs) m)) at ∙ ap length (sym (row_is (list_numbered (items_of vs)) refl opened r)) ∙ ap (λ z. length (get_or z r [])) seen

  list_in : 0 < n → n - 1 < length vs
  list_in some = omega (arith, some, at, own.within r)

  list_count : 0 < n → (v : Vec P Z) → v ≡ get_or vs (n - 1) v → length v.items ≡ length (get_or rows r [])
  list_count some v is =
      ap (λ v. length v.items) is ∙ ap length (sym (map_at (λ v. v.items) vs (n - 1) v [] (list_in some)))
      ∙ ap (λ m. length (list_numbered (items_of vs) m)) (next some) ∙ count_is
    where
      next : 0 < n → suc (n - 1) ≡ n
      next some = omega (arith, some)

none_is : (n : ℕ) → n ≤ 0 → 0 ≡ n
none_is n h = omega arith

pub returns-in-Some : goal.returns-in-Some
returns-in-Some g c =
    let at = c.in-Some.ensures.lookup.3.1 0 ∙ ap (λ l. get_or l c.args.row 0) c.deref.ensures.value in
    c.len.ensures ∙ c.index.result.now.ok.0
    ∙ list_count c.self.inside.lists.items c.self.inside.opened.items c.self.invariant c.args.self.now c.self.view_is c.args.row c.in-Some.field-0.now at c.if-number-gt0.true c.index.result.now c.index.ensures

pub returns-in_default : goal.returns-in_default
returns-in_default g c =
    let at = none_is c.in-Some.field-0.now c.if-number-gt0.false ∙ c.in-Some.ensures.lookup.3.1 0 ∙ ap (λ l. get_or l c.args.row 0) c.deref.ensures.value in
    count_is c.self.inside.lists.items c.self.inside.opened.items c.self.invariant c.args.self.now c.self.view_is c.args.row 0 at

pub returns-in_default-2 : goal.returns-in_default-2
returns-in_default-2 g c =
    let past : length c.deref.result.now ≤ c.args.row = rw c.in_default.is at c.get.ensures.lookup.3 in
    let at = sym (get_or_past c.deref.result.now c.args.row 0 past) ∙ ap (λ l. get_or l c.args.row 0) c.deref.ensures.value in
    count_is c.self.inside.lists.items c.self.inside.opened.items c.self.invariant c.args.self.now c.self.view_is c.args.row 0 at
