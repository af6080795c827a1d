-- Subtrees of a raw tree.
use Rattle.std.proofs.Common.{◌≡◌, ℕ, ◌+◌, ◌*◌, ◌<◌, ◌≤◌, true, false, cond, nat_lt, List, length}
use Rattle.std.proofs.Common.{map, replicate, get_or, refl, sym, ap, subst, ◌∙◌, inl, inr, arith}
use Rattle.std.proofs.Math.ListN.{set}
use Rattle.std.proofs.lemmas.Bool.{cases_eq, cases_lt}
use Rattle.std.proofs.lemmas.Bool.Decides.{nat_tests}
use Rattle.std.proofs.lemmas.List.{get_or-set_same, get_or-set_other, get_or-replicate, length-map, length-replicate}
use Rattle.tdp_model.specs.TreeProblem.{sum_from}
use Rattle.tdp_model.proofs.Descent.{below_itself, below_less, below_once, below_parent}
use Rattle.tdp_model.proofs.Keys.{ascending_below}
use Rattle.tdp_core.specs.RawView.{AreShapes, RawView, raw_len, raw_number, rows_at, shape_item, shape_parent}
use Rattle.proof_check.specs.Subtrees.{AreAscending, AreBelow, raw_below, raw_place, raw_size}
use Rattle.proof_check.proofs.LeftOut.{sum_less, sum_more}

-- later rows have greater numbers
pub rows_ascend : {R : Type 0} (raw : RawView R) (v i j : ℕ) → AreAscending raw v → i < j → j < raw_len raw v
    → raw_number raw v i < raw_number raw v j
rows_ascend raw v i j up l h =
    let same = length-map (rows_at raw v) (λ x. x.row.row) in
    ascending_below (λ a b. a < b) (map (λ x. x.row.row) (rows_at raw v)) i j 0 up l (omega (arith, same))

module _ {R : Type 0} (raw : RawView R) (shaped : AreShapes raw.shapes) where
  abbrev pub m : ℕ
  m = length raw.shapes

  pub parents_first_lem : (q : ℕ) → 0 < q → q < m → shape_parent raw.shapes q < q
  parents_first_lem = shaped.parents_first

  pub parent_low : (q : ℕ) → q < m → shape_parent raw.shapes q ≤ q
  parent_low q l = elim (cases_lt 0 q) [
    | inl p ↦ omega (arith, parents_first_lem q p l)
    | inr z ↦
        let e : q ≡ 0 = omega arith in
        omega (arith, ap (shape_parent raw.shapes) e, shaped.root)
  ]

  -- ---- the flags of a subtree

  pub below_begun : (v : ℕ) → v < m → (q : ℕ) → q < v + 1 → q < m
      → get_or (set (replicate 16 0) v 1) q 0 ≡ raw_below raw v q
  below_begun v l q h i = elim (cases_eq q v) [
    | inl e ↦
        subst (λ k. get_or (set (replicate 16 0) v 1) k 0 ≡ raw_below raw v k) (sym e)
        (get_or-set_same (replicate 16 0) v 1 0 (let long = length-replicate {A = ℕ} 16 0 in let few = shaped.few_nodes in omega (arith, long, few))
        ∙ sym (below_itself m (shape_parent raw.shapes) parents_first_lem v v refl))
    | inr n ↦
        get_or-set_other (replicate 16 0) v q 1 0 n
        ∙ get_or-replicate 16 q 0 0 (let few = shaped.few_nodes in omega (arith, few))
        ∙ sym (below_less m (shape_parent raw.shapes) parents_first_lem v q i (omega (arith, n)))
  ]

  pub below_more : (v child : ℕ) (below : List ℕ) → v < child → child < m → length below ≡ 16
      → ((q : ℕ) → q < child → q < m → get_or below q 0 ≡ raw_below raw v q)
      → (q : ℕ) → q < child + 1 → q < m
      → get_or (set below child (get_or below (shape_parent raw.shapes child) 0)) q 0 ≡ raw_below raw v q
  below_more v child below l h long so q i j = elim (cases_eq q child) [
    | inl e ↦
        let up = parents_first_lem child (omega arith) h in
        subst (λ k. get_or (set below child (get_or below (shape_parent raw.shapes child) 0)) k 0 ≡ raw_below raw v k) (sym e)
        (get_or-set_same below child (get_or below (shape_parent raw.shapes child) 0) 0 (omega (arith, long, shaped.few_nodes))
        ∙ so (shape_parent raw.shapes child) up (omega (arith, up))
        ∙ sym (below_parent m (shape_parent raw.shapes) parents_first_lem v child (omega arith) h (λ e. omega arith)))
    | inr n ↦ get_or-set_other below child q (get_or below (shape_parent raw.shapes child) 0) 0 n ∙ so q (omega (arith, n)) j
  ]

  pub below_small : (v q : ℕ) → q < m → raw_below raw v q ≤ 1
  below_small v q l = below_once m (shape_parent raw.shapes) parents_first_lem q v q (omega arith) l

  pub below_after : (v q : ℕ) → q < m → 0 < raw_below raw v q → v ≤ q
  below_after v q l some = elim (cases_lt q v) [
    | inl h ↦ absurd (omega (arith, below_less m (shape_parent raw.shapes) parents_first_lem v q l h))
    | inr h ↦ h
  ]

  pub below_self : (v : ℕ) → raw_below raw v v ≡ 1
  below_self v = below_itself m (shape_parent raw.shapes) parents_first_lem v v refl

  -- the parent of another node of a subtree is in it
  pub below_up : (v q : ℕ) → v < q → q < m → 0 < raw_below raw v q → 0 < raw_below raw v (shape_parent raw.shapes q)
  below_up v q l h some = omega (arith, below_parent m (shape_parent raw.shapes) parents_first_lem v q (omega arith) h (λ e. omega arith))

  -- ---- sizes and places

  pub size_more : (v i size : ℕ) (below : List ℕ) → AreBelow raw v below → i < m
      → size ≡ sum_from ◌+◌ 0 (raw_below raw v) i 0 → size + get_or below i 0 ≡ sum_from ◌+◌ 0 (raw_below raw v) (i + 1) 0
  size_more v i size below are l e = omega (arith, sum_more (raw_below raw v) i, are i l)

  -- what node u counts for the place of node q
  abbrev pub before : ℕ → ℕ → ℕ → ℕ
  before v q u = raw_below raw v u * cond (nat_lt (shape_item raw.shapes u) (shape_item raw.shapes q)) 1 0

  times_one : (b x y : ℕ) → x < y → b * cond (nat_lt x y) 1 0 ≡ b
  times_one b x y l = let e : nat_lt x y ≡ true = grind (arith, nat_tests) in ap (λ t. b * cond t 1 0) e ∙ omega arith

  times_none : (b x y : ℕ) → y ≤ x → b * cond (nat_lt x y) 1 0 ≡ 0
  times_none b x y l = let e : nat_lt x y ≡ false = grind (arith, nat_tests) in ap (λ t. b * cond t 1 0) e ∙ omega arith

  pub place_more : (v q i place : ℕ) (below : List ℕ) → AreBelow raw v below → i < m
      → shape_item raw.shapes i < shape_item raw.shapes q
      → place ≡ sum_from ◌+◌ 0 (before v q) i 0 → place + get_or below i 0 ≡ sum_from ◌+◌ 0 (before v q) (i + 1) 0
  place_more v q i place below are l less e =
      omega (
        arith,
        sum_more (before v q) i,
        are i l,
        times_one (raw_below raw v i) (shape_item raw.shapes i) (shape_item raw.shapes q) less,
      )

  pub place_same : (v q i place : ℕ) → shape_item raw.shapes q ≤ shape_item raw.shapes i
      → place ≡ sum_from ◌+◌ 0 (before v q) i 0 → place ≡ sum_from ◌+◌ 0 (before v q) (i + 1) 0
  place_same v q i place more e =
      omega (
        arith,
        sum_more (before v q) i,
        times_none (raw_below raw v i) (shape_item raw.shapes i) (shape_item raw.shapes q) more,
      )

  pub place_within : (v q : ℕ) → q < m → 0 < raw_below raw v q → raw_place raw v q < raw_size raw v
  place_within v q l some =
      sum_less (raw_below raw v) (λ u. nat_lt (shape_item raw.shapes u) (shape_item raw.shapes q)) m 0 q (omega arith) (omega arith)
      some (grind (arith, nat_tests))
