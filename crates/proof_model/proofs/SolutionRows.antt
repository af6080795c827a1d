-- Subtree solutions as lists of rows and as functions of the nodes, and how their keys tell the rows.
use Rattle.std.proofs.Common.{◌≡◌, ◌≢◌, ℕ, ◌<◌, ◌≤◌, cond, nat_eq, List, [], length, get_or}
use Rattle.std.proofs.Common.{refl, sym, ap, ◌∙◌, subst, inl, inr, arith}
use Rattle.std.proofs.lemmas.Bool.{cases_eq, cases_lt}
use Rattle.std.proofs.lemmas.Grind.{same_number_lists}
use Rattle.tdp_model.specs.Below.{is_below}
use Rattle.tdp_model.specs.TreeProblem.{IsTieFree}
use Rattle.tdp_model.proofs.Descent.{below_itself, below_less, below_once, below_parent}
use Rattle.tdp_model.proofs.Sums.{sum_same}
use Rattle.tdp_model.proofs.Ties.{slot_at}
use Rattle.proof_model.specs.Problem.{Problem, IsSolutionAt, key_at, place_in, row_in, size}
use Rattle.proof_model.specs.Laws.{IsProblem, IsSubtree, subtree_key}
use Rattle.proof_model.proofs.ItemPlaces.{place_each, place_inside, place_tells}
use Rattle.proof_model.proofs.Sums.{pick_eq, pick_ne}
use Rattle.tdp_model.proofs.Chosen.{choose}

-- the items of the nodes are less than `most`, and differ
pub record HasItems {K : Type 0} (t : Problem K) (most : ℕ) : Type 0 where
  pub within : (u : ℕ) → u < t.nodes → t.item u < most
  pub apart : (u v : ℕ) → u < v → v < t.nodes → t.item u ≢ t.item v

module _ {K : Type 0} (t : Problem K) (laws : IsProblem t) (most : ℕ) (items : HasItems t most) where
  abbrev below : ℕ → ℕ → ℕ
  below v u = is_below t.parent v u

  once : (v u : ℕ) → u < t.nodes → below v u ≤ 1
  once v u l = below_once t.nodes t.parent laws.parents_first u v u (omega arith) l

  is_one : (v u : ℕ) → u < t.nodes → 0 < below v u → below v u ≡ 1
  is_one v u l some = let o = once v u l in omega (arith, o, some)

  -- the node itself is below it
  pub own_below : (v : ℕ) → below v v ≡ 1
  own_below v = below_itself t.nodes t.parent laws.parents_first v v refl

  -- and the parent of another one
  pub parent_below : (v q : ℕ) → v < q → q < t.nodes → 0 < below v q → below v (t.parent q) ≡ 1
  parent_below v q less l some =
      sym (below_parent t.nodes t.parent laws.parents_first v q (omega (arith, less)) l (λ e. omega (arith, e, less)))
      ∙ is_one v q l some

  -- the place of a node's row is in the list
  pub row_inside : (v q : ℕ) → q < t.nodes → below v q ≡ 1 → place_in t v q < size t v
  row_inside v q l one = place_inside t.nodes (below v) t.item most (once v) items.within items.apart q l
      (omega (arith, one))

  -- ---- lists and functions

  -- lists with the same row for each node are the same
  pub rows_same : (v : ℕ) (a b : List ℕ) → length a ≡ size t v → length b ≡ size t v
      → ((q : ℕ) → q < t.nodes → below v q ≡ 1 → row_in t v a q ≡ row_in t v b q) → a ≡ b
  rows_same v a b of_a of_b same = same_number_lists a b (of_a ∙ sym of_b) (λ p l.
      let at = place_each t.nodes (below v) t.item most (once v) items.within items.apart p (omega (arith, l, of_a)) in
      subst (λ z. get_or a z 0 ≡ get_or b z 0) at.3 (same at.0 at.1 (is_one v at.0 at.1 at.2)))

  -- each place of a list has the row of a node
  pub node_at : (v : ℕ) (rows : List ℕ) → length rows ≡ size t v → (p : ℕ) → p < length rows
      → (q : ℕ) × (q < t.nodes) × (below v q ≡ 1) × (row_in t v rows q ≡ get_or rows p 0)
  node_at v rows count p l =
      let at = place_each t.nodes (below v) t.item most (once v) items.within items.apart p (omega (arith, l, count)) in
      (at.0, at.1, is_one v at.0 at.1 at.2, ap (λ z. get_or rows z 0) at.3)

  -- a node below another one is after it
  pub below_after : (v q : ℕ) → q < t.nodes → below v q ≡ 1 → q ≢ v → v < q
  below_after v q l one other = elim (cases_lt q v) [
    | inl less ↦ (let z = below_less t.nodes t.parent laws.parents_first v q l less in absurd (omega (arith, z, one)))
    | inr more ↦ omega (arith, more, other)
  ]

  -- a list that has these rows
  pub record IsListOf (v : ℕ) (s : ℕ → ℕ) (rows : List ℕ) : Type 0 where
    pub count : length rows ≡ size t v
    pub row : (q : ℕ) → q < t.nodes → below v q ≡ 1 → row_in t v rows q ≡ s q

  pub list_of : (v : ℕ) (s : ℕ → ℕ) → (rows : List ℕ) × IsListOf v s rows
  list_of v s =
      let chosen = choose (size t v) (λ p x. (q : ℕ) × (q < t.nodes) × (0 < below v q) × (place_in t v q ≡ p)
      × (x ≡ s q))
      (λ p l. let at = place_each t.nodes (below v) t.item most (once v) items.within items.apart p l in
      (s at.0, (at.0, at.1, at.2, at.3, refl))) in (
        chosen.list,
        record {
          count = chosen.count;
          row = λ q l one.
              let at = chosen.each (place_in t v q) (row_inside v q l one) in
              at.4 ∙ ap s (place_tells t.nodes (below v) t.item most
              (once v) items.within items.apart at.0 q at.1 l at.2
              (omega (arith, one)) at.3);
        },
      )

  -- a list of a solution's rows is a solution, with its key
  pub list_solves : (v : ℕ) (s : ℕ → ℕ) (rows : List ℕ) → IsListOf v s rows → IsSubtree t v s → IsSolutionAt t v rows
  list_solves v s rows list sub = record {
    node = sub.node;
    count = list.count;
    first = subst (t.IsRow v) (sym (list.row v sub.node (own_below v))) sub.first;
    others = λ q less l some.
        let p = laws.parents_first q (omega (arith, less)) l in
        subst (λ z. t.Fits q z (row_in t v rows q))
        (sym (list.row (t.parent q) (omega (arith, p, l)) (parent_below v q less l some)))
        (subst (λ z. t.Fits q (s (t.parent q)) z) (sym (list.row q l (is_one v q l some))) (sub.others q less l some));
  }

  pub list_key : (v : ℕ) (s : ℕ → ℕ) (rows : List ℕ) → IsListOf v s rows → key_at t v rows ≡ subtree_key t v s
  list_key v s rows list =
      sum_same t.Below t.add t.none laws.keys (λ q. cond (nat_eq (below v q) 1) (t.key q (row_in t v rows q)) t.none)
      (λ q. cond (nat_eq (below v q) 1) (t.key q (s q)) t.none) t.nodes 0 (λ q a b. elim (cases_eq (below v q) 1) [
        | inl one ↦ ap (λ r. cond (nat_eq (below v q) 1) (t.key q r) t.none) (list.row q (omega (arith, b)) one)
        | inr other ↦ pick_ne (below v q) 1 _ t.none other ∙ sym (pick_ne (below v q) 1 _ t.none other)
      ])

  -- a solution as a function of the nodes
  pub solution_subtree : (v : ℕ) (rows : List ℕ) → IsSolutionAt t v rows → IsSubtree t v (row_in t v rows)
  solution_subtree v rows h = record { node = h.node; first = h.first; others = h.others }

  -- ---- keys hold the rows

  module _ (slot : ℕ → K → ℕ)
      (free : IsTieFree K t.add t.none t.nodes t.key (λ q r. []) t.item (λ v r. r) slot) where
    key_slot : (v u : ℕ) (rows : List ℕ) → u < t.nodes → below v u ≡ 1
        → slot (t.item u) (key_at t v rows) ≡ row_in t v rows u
    key_slot v u rows l one =
        let part : ℕ → K = λ q. cond (nat_eq (below v q) 1) (t.key q (row_in t v rows q)) t.none in
        slot_at t.add t.none t.nodes t.parent t.key (λ q r. []) t.item (λ w r. r) slot free (t.item u) u part t.nodes 0
        (omega arith) (omega (arith, l)) (λ j a b n. elim (cases_eq (below v j) 1) [
          | inl is ↦
              ap (slot (t.item u)) (pick_eq (below v j) 1 (t.key j (row_in t v rows j)) t.none is)
              ∙ free.slot_other u j (row_in t v rows j) l (omega (arith, b)) (λ e. n (sym e))
          | inr not ↦ ap (slot (t.item u)) (pick_ne (below v j) 1 (t.key j (row_in t v rows j)) t.none not)
              ∙ free.slot_none (t.item u)
        ])
        ∙ ap (slot (t.item u)) (pick_eq (below v u) 1 (t.key u (row_in t v rows u)) t.none one)
        ∙ free.slot_own u (row_in t v rows u) l

    -- two lists with one key are the same
    pub keys_tell : (v : ℕ) (a b : List ℕ) → length a ≡ size t v → length b ≡ size t v → key_at t v a ≡ key_at t v b
        → a ≡ b
    keys_tell v a b of_a of_b same = rows_same v a b of_a of_b (λ q l one.
        sym (key_slot v q a l one) ∙ ap (slot (t.item q)) same ∙ key_slot v q b l one)
