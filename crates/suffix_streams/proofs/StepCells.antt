-- The cells that a step of a product offers, and the change of the product.
use Rattle.std.proofs.Common.{◌≡◌, ◌↔◌, Bool, IsTrue, ℕ, zero, suc, ◌+◌, ◌<◌, ◌≤◌, Option, Some, None, IsSome, is_some, true, false, MatchOption, IfSome, List, [], ◌∷◌, length, get_or, slice_set, refl, sym, ap, ◌∙◌, subst, arith}
use Rattle.std.proofs.lemmas.List.Elements.{All-get_or}
use Rattle.stream_store.specs.declared.linked.Linked.{Linked}
use Rattle.std.specs.List.Sorted.{IsPermutation}
use Rattle.std.proofs.lemmas.List.Sorted.{length_permutation}
use Rattle.suffix_streams.specs.Offers.{offers}
use Rattle.take2_heap.specs.declared.entry.Entry.{Entry}
use Rattle.tdp_core.specs.TreeView.{NodeView, rows, child_count, group_named}
use Rattle.tdp_model.specs.KeyTuple.{KeyOf}
use Rattle.suffix_streams.specs.Links.{IsLinkedAt}
use Rattle.suffix_streams.specs.declared.cell.Cell.{Cell}
use Rattle.suffix_streams.specs.declared.stream.Found.{Found}
use Rattle.suffix_streams.specs.NodeStreamsView.{NodeStreamsView, HasHead, product_at, with_product}
use Rattle.suffix_streams.specs.Cells.{cell_down}
use Rattle.suffix_streams.specs.Rankings.{child}
use Rattle.suffix_streams.specs.TreeStreams.{node_list, group_list_of, node_of, group_of, lists_of, products_of, product_of, stream_of, part_known, IsStreamOf, IsStreams, IsCell, IsOffer}
use Rattle.suffix_streams.specs.Growing.{IsAnswered}
use Rattle.suffix_streams.proofs.Rankings.{kid}
use Rattle.suffix_streams.proofs.Stores.{node_length}
use Rattle.suffix_streams.proofs.Heads.{lists_at}
use Rattle.suffix_streams.proofs.Entries.{child_in, named_stream}

-- the first element of a list
pub first_of : {A : Type 0} (xs : List A) → 0 < length xs → (x : A) × (x ≡ get_or xs 0 x)
first_of [] l = absurd (omega arith)
first_of (x ∷ xs) l = (x, refl)

module _ {R : Type 0} (d : ℕ) (key : R → KeyOf d 16) (t : List (NodeView R)) (es : List (Linked (Found R))) (nodes : List (NodeStreamsView R)) (h : IsStreams d key t es nodes) (v r c : ℕ) (l : v < length t) (row : r < rows t v) (in_kids : c < child_count t v) (i : ℕ) where
  -- an entry of the group that a row names for a child is the group's first one if it is the first one of any group
  pub named_head : group_of es i ≡ group_named t v r c → HasHead (lists_of nodes (child t v c)) i → i ≡ (stream_of nodes (child t v c) (group_named t v r c)).head
  named_head own (g, in_groups, e) =
      let inside = (kid d key t h.tree v c in_kids).within in
      let s : IsStreamOf d key t es nodes (child t v c) g = h.streams (child t v c) g inside (omega (arith, in_groups, h.all_streams (child t v c) inside)) in
      let same : g ≡ group_named t v r c = sym s.head_group ∙ ap (λ z. group_of es z) (sym e) ∙ own in
      e ∙ ap (λ z. (stream_of nodes (child t v c) z).head) same

  pub head_of_named : i ≡ (stream_of nodes (child t v c) (group_named t v r c)).head → HasHead (lists_of nodes (child t v c)) i
  head_of_named e = (group_named t v r c, omega (arith, named_stream d key t es nodes h v r c l row in_kids, h.all_streams (child t v c) (kid d key t h.tree v c in_kids).within), e)

module _ {R : Type 0} (d : ℕ) (key : R → KeyOf d 16) (t : List (NodeView R)) (es : List (Linked (Found R))) (nodes : List (NodeStreamsView R)) (h : IsStreams d key t es nodes) (v r c : ℕ)
    (l : v < length t) (row : r < rows t v) (in_row : c < length (products_of nodes v r)) (cell : Cell) (some : 0 < length (product_of nodes v r c).frontier)
    (is_cell : (x : Entry R Cell) → (get_or (product_of nodes v r c).frontier 0 x).tag ≡ cell) where
  pub cell_known : IsCell d key t es nodes v r c cell
  cell_known =
      let x : (x : Entry R Cell) × (x ≡ get_or (product_of nodes v r c).frontier 0 x) = first_of (product_of nodes v r c).frontier some in
      let k : (x.0.tag.left < part_known nodes v r c) × (x.0.tag.right < length es) × (node_of es x.0.tag.right ≡ child t v c) × (group_of es x.0.tag.right ≡ group_named t v r c) =
      subst (λ (e : Entry R Cell). (e.tag.left < part_known nodes v r c) × (e.tag.right < length es) × (node_of es e.tag.right ≡ child t v c) × (group_of es e.tag.right ≡ group_named t v r c)) (sym x.1)
      (All-get_or (λ (e : Entry R Cell). (e.tag.left < part_known nodes v r c) × (e.tag.right < length es) × (node_of es e.tag.right ≡ child t v c) × (group_of es e.tag.right ≡ group_named t v r c)) (product_of nodes v r c).frontier 0 x.0 some (h.products v r c l row in_row).known) in
      let at : x.0.tag ≡ cell = ap (λ e. e.tag) x.1 ∙ is_cell x.0 in
      subst (λ (z : Cell). IsCell d key t es nodes v r c z) at (record { left = k.0; right = k.1; node = k.2; group = k.3 })

  pub down_cell_known : (b : Option ℕ) → IsAnswered d key t es cell.right b → IfSome (cell_down cell b) (IsCell d key t es nodes v r c)
  down_cell_known None e = tt
  down_cell_known (Some n) e =
      let at : IsLinkedAt (node_list es) (group_list_of es) cell.right (Some n) =
      subst (λ o. IsLinkedAt (node_list es) (group_list_of es) cell.right o) e (h.linked cell.right (omega (arith, cell_known.right, node_length es))) in
      record { left = cell_known.left; right = omega (arith, at.0, node_length es); node = at.1 ∙ cell_known.node; group = at.2 ∙ cell_known.group }

  pub beside_cell_known : (head : ℕ) → head ≡ (stream_of nodes (child t v c) (group_named t v r c)).head → (o : Option Cell)
      → MatchOption o (cell.right ≡ head → part_known nodes v r c ≤ cell.left + 1) (λ x. (cell.right ≡ head) × (cell.left + 1 < part_known nodes v r c) × (x ≡ record { left = cell.left + 1; right = head }))
      → IfSome o (IsCell d key t es nodes v r c)
  beside_cell_known head e None m = tt
  beside_cell_known head e (Some x) m =
      let s : IsStreamOf d key t es nodes (child t v c) (group_named t v r c) =
      h.streams (child t v c) (group_named t v r c) (kid d key t h.tree v c (child_in d key t es nodes h v r c l row in_row)).within (named_stream d key t es nodes h v r c l row (child_in d key t es nodes h v r c l row in_row)) in
      subst (λ (z : Cell). IsCell d key t es nodes v r c z) (sym m.2)
      (record { left = m.1; right = omega (arith, e, s.head_in); node = ap (λ z. node_of es z) e ∙ s.head_node; group = ap (λ z. group_of es z) e ∙ s.head_group })

-- What is beside a cell, by the head of the child's stream. In the first product one left part is known, so nothing is beside, whatever was told.
pub at_head : (c known head : ℕ) (cell : Cell) (beside : Bool) → (0 < c → IsTrue beside ↔ (cell.right ≡ head)) → (c ≡ 0 → known ≡ 1) → (o : Option Cell)
    → MatchOption o (IsTrue beside → known ≤ cell.left + 1) (λ x. IsTrue beside × (cell.left + 1 < known) × (x ≡ record { left = cell.left + 1; right = cell.right }))
    → MatchOption o (cell.right ≡ head → known ≤ cell.left + 1) (λ x. (cell.right ≡ head) × (cell.left + 1 < known) × (x ≡ record { left = cell.left + 1; right = head }))
at_head zero known head cell beside told one None m = λ e. omega (arith, one refl)
at_head zero known head cell beside told one (Some x) m = absurd (omega (arith, m.1, one refl))
at_head (suc c) known head cell beside told one None m = λ e. m ((told (omega arith)).1 e)
at_head (suc c) known head cell beside told one (Some x) m =
    let e : cell.right ≡ head = (told (omega arith)).0 m.0 in
    (e, m.1, m.2 ∙ ap (λ (i : ℕ). (let z : Cell = record { left = cell.left + 1; right = i } in z)) e)

-- if only one left part is known, no cell beside is offered
pub none_beside : {R : Type 0} (d : ℕ) (key : R → KeyOf d 16) (t : List (NodeView R)) (es : List (Linked (Found R))) (v r c : ℕ) (cell : Cell) (beside : Bool) (known : ℕ) → known ≤ 1 → (o : Option Cell) (e : Option (Entry R Cell))
    → MatchOption o (IsTrue beside → known ≤ cell.left + 1) (λ x. IsTrue beside × (cell.left + 1 < known) × (x ≡ record { left = cell.left + 1; right = cell.right })) → IsOffer d key t es v r c o e → IsSome e → ⊥
none_beside d key t es v r c cell beside known one (Some x) (Some e) m f s = omega (arith, one, m.1)
none_beside d key t es v r c cell beside known one (Some x) None m f s = f
none_beside d key t es v r c cell beside known one None (Some e) m f s = f
none_beside d key t es v r c cell beside known one None None m f s = cc

module _ {R : Type 0} (nodes : List (NodeStreamsView R)) (v r c : ℕ) (m n : NodeStreamsView R) (in_nodes : v < length nodes) (at : m ≡ get_or nodes v m) (changed : n ≡ with_product m r c (product_at n r c)) where
  -- a change of one product, in terms of the lists
  pub one_change : slice_set nodes v n ≡ slice_set nodes v (with_product (lists_of nodes v) r c (product_at n r c))
  one_change = ap (λ z. slice_set nodes v z) (changed ∙ ap (λ z. with_product z r c (product_at n r c)) (sym (lists_at nodes v m at in_nodes)))

-- a queue that has no top is empty
pub no_top : {A B : Type 0} (o : Option A) (xs : List B) → o ≡ None → (IsSome o ↔ (0 < length xs)) → xs ≡ []
no_top o [] e v = refl
no_top o (x ∷ xs) e v =
    let a : is_some o ≡ true = v.1 (omega arith) in
    let b : is_some o ≡ false = ap is_some e in
    absurd (clash a b)
  where
    clash : is_some o ≡ true → is_some o ≡ false → ⊥
    clash a b = cc

longer_by_one : {E : Type 0} (a b : Option E) (es : List E) → length (offers a b es) ≤ length es + 2
longer_by_one (Some x) (Some y) es = omega arith
longer_by_one (Some x) None es = omega arith
longer_by_one None (Some y) es = omega arith
longer_by_one None None es = omega arith

pub queue_longer : {E : Type 0} (a b : Option E) (top : E) (old new : List E) → IsPermutation (offers a b old) (top ∷ new) → length new ≤ length old + 1
queue_longer a b top old new p = omega (arith, length_permutation (offers a b old) (top ∷ new) p, longer_by_one a b old)
