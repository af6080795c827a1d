-- The store after an entry was added after all others and linked.
use Rattle.std.proofs.Common.{◌≡◌, ℕ, ◌<◌, Some, None, cond, nat_eq, List, [], ◌∷◌, ◌++◌, length, get_or, slice_set, sym, ap, ◌∙◌, subst, inl, inr, arith}
use Rattle.std.proofs.lemmas.Bool.{cases_lt}
use Rattle.std.proofs.lemmas.Bool.Decides.{nat_tests}
use Rattle.stream_store.specs.declared.linked.Linked.{Linked}
use Rattle.tdp_core.specs.TreeView.{NodeView, group_count}
use Rattle.suffix_streams.specs.declared.stream.Found.{Found}
use Rattle.suffix_streams.specs.TreeStreams.{node_of, group_of, next_of}
use Rattle.suffix_streams.specs.Growing.{IsStoreGrown}
use Rattle.suffix_streams.proofs.Stores.{with_entry, entry_length, old_node, old_group, new_node, new_group}
use Rattle.suffix_streams.proofs.Kept.{AreHeld}
use Rattle.suffix_streams.proofs.ListEnds.{at_more}

pub flipped : (a b : ℕ) → cond {A = ℕ} (nat_eq a b) 1 0 ≡ cond {A = ℕ} (nat_eq b a) 1 0
flipped a b = grind (arith, nat_tests)

pub entry_held : {R : Type 0} {q : ℕ} (es es' : List (Linked (Found R))) → IsStoreGrown q es es' → AreHeld es es'
entry_held es es' g = record { longer = g.longer; nodes = g.nodes; groups = g.groups; places = g.places }

pub entries_are : {R : Type 0} (es : List (Linked (Found R))) (last : ℕ) (f : Found R) (es1 es2 : List (Linked (Found R))) (id : ℕ) (d : Linked (Found R)) → last < length es → id ≡ length es
    → es1 ≡ es ++ (record { value = f; next = None } ∷ []) → es2 ≡ slice_set es1 last (record (get_or es1 last d) { next = Some id })
    → es2 ≡ slice_set (es ++ (record { value = f; next = None } ∷ [])) last (record (get_or es last d) { next = Some (length es) })
entries_are {R} es last f es1 es2 id d l i a b =
    let new : Linked (Found R) = record { value = f; next = None } in
    b ∙ ap (λ (z : List (Linked (Found R))). slice_set z last (record (get_or z last d) { next = Some id })) a
    ∙ ap (λ (y : Linked (Found R)). slice_set (es ++ (new ∷ [])) last (record y { next = Some id })) (at_more es new d last l)
    ∙ ap (λ (n : ℕ). slice_set (es ++ (new ∷ [])) last (record (get_or es last d) { next = Some n })) i

module _ {R : Type 0} (t : List (NodeView R)) (es : List (Linked (Found R))) (last : ℕ) (x : Found R) (linked : Linked (Found R)) (within : last < length es)
    (same : linked.value ≡ (get_or es last linked).value) (to : linked.next ≡ Some (length es)) (node : node_of es last ≡ x.node) (group : group_of es last ≡ x.group) (none : next_of es last ≡ None) where
  pub all_owned : x.node < length t → x.group < group_count t x.node → ((i : ℕ) → i < length es → (node_of es i < length t) × (group_of es i < group_count t (node_of es i)))
      → (i : ℕ) → i < length (with_entry es last x linked within same to node group none) → (node_of (with_entry es last x linked within same to node group none) i < length t)
      × (group_of (with_entry es last x linked within same to node group none) i < group_count t (node_of (with_entry es last x linked within same to node group none) i))
  all_owned l k owners i h = elim (cases_lt i (length es)) [
    | inl a ↦
        let n : node_of (with_entry es last x linked within same to node group none) i ≡ node_of es i = old_node es last x linked within same to node group none i a in
        let m : group_of (with_entry es last x linked within same to node group none) i ≡ group_of es i = old_group es last x linked within same to node group none i a in
        (omega (arith, n, (owners i a).0), subst (λ z. group_of (with_entry es last x linked within same to node group none) i < group_count t z) (sym n) (subst (λ z. z < group_count t (node_of es i)) (sym m) (owners i a).1))
    | inr a ↦
        let e : length es ≡ i = omega (arith, h, entry_length es last x linked within same to node group none) in
        subst (λ j. (node_of (with_entry es last x linked within same to node group none) j < length t) × (group_of (with_entry es last x linked within same to node group none) j < group_count t (node_of (with_entry es last x linked within same to node group none) j))) e
        (let n : node_of (with_entry es last x linked within same to node group none) (length es) ≡ x.node = new_node es last x linked within same to node group none in
        let m : group_of (with_entry es last x linked within same to node group none) (length es) ≡ x.group = new_group es last x linked within same to node group none in
        (omega (arith, n, l), subst (λ z. group_of (with_entry es last x linked within same to node group none) (length es) < group_count t z) (sym n) (subst (λ z. z < group_count t x.node) (sym m) k)))
  ]
