-- Fronts of lists of whole numbers, and the order of members as that of one list.
use Rattle.std.proofs.Common.{◌≡◌, ◌<◌, ◌⊎◌, ◌↔◌, ◌∙◌, ◌++◌, ℕ, zero, suc, ℤ, pos, List, [], ◌∷◌, map, length, inl, inr, refl, sym, arith}
use Rattle.std.proofs.lemmas.List.{length-map}
use Rattle.anyk_model.specs.Table.{Table}
use Rattle.anyk_model.specs.Query.{Query, rank_of}
use Rattle.anyk_model.specs.Ranking.{IsBefore}
use Rattle.anyk_model.specs.TaggedRows.{HaveKeys, PrecedesTagged, Tagged, branch_at, sums_of, tagged_key}

-- lists of one length are compared before what follows them
pub front_before : (xs ys us vs : List ℤ) → length xs ≡ length ys → IsBefore xs ys ⊎ ((xs ≡ ys) × IsBefore us vs) → IsBefore (xs ++ us) (ys ++ vs)
front_before [] [] us vs l (inl p) = absurd p
front_before [] [] us vs l (inr p) = p.1
front_before [] (y ∷ ys) us vs l p = absurd (omega (arith, l))
front_before (x ∷ xs) [] us vs l p = absurd (omega (arith, l))
front_before (x ∷ xs) (y ∷ ys) us vs l (inl (inl p)) = inl p
front_before (x ∷ xs) (y ∷ ys) us vs l (inl (inr p)) = inr (p.0, front_before xs ys us vs (omega (arith, l)) (inl p.1))
front_before (x ∷ xs) (y ∷ ys) us vs l (inr p) =
    let head : x ≡ y = cc (p.0) in
    let tail : xs ≡ ys = cc (p.0) in
    inr (head, front_before xs ys us vs (omega (arith, l)) (inr (tail, p.1)))

pub before_front : (xs ys us vs : List ℤ) → length xs ≡ length ys → IsBefore (xs ++ us) (ys ++ vs) → IsBefore xs ys ⊎ ((xs ≡ ys) × IsBefore us vs)
before_front [] [] us vs l p = inr (refl, p)
before_front [] (y ∷ ys) us vs l p = absurd (omega (arith, l))
before_front (x ∷ xs) [] us vs l p = absurd (omega (arith, l))
before_front (x ∷ xs) (y ∷ ys) us vs l (inl p) = inl (inl p)
before_front (x ∷ xs) (y ∷ ys) us vs l (inr p) = elim (before_front xs ys us vs (omega (arith, l)) p.1) [
  | inl q ↦ inl (inr (p.0, q))
  | inr q ↦ inr ((λ i. p.0 i ∷ q.0 i), q.1)
]

keys_at : (keys : ℕ) (queries : List Query) → HaveKeys keys queries → (i : ℕ) → i < length queries → length (branch_at queries i).order ≡ keys
keys_at keys [] have i inside = absurd (omega arith)
keys_at keys (q ∷ queries) have zero inside = have.0
keys_at keys (q ∷ queries) have (suc i) inside = keys_at keys queries have.1 i (omega arith)

-- if all branches have as many order keys, members are in the order of one list of whole numbers
pub keys_agree_lem : (keys : ℕ) (queries : List Query) (tables : List Table) (a b : Tagged) → HaveKeys keys queries → a.branch < length queries → b.branch < length queries
    → PrecedesTagged queries tables a b ↔ IsBefore (tagged_key queries tables a) (tagged_key queries tables b)
keys_agree_lem keys queries tables a b have ina inb =
    let sums_a : List ℤ = sums_of queries tables a.branch a.rows in
    let sums_b : List ℤ = sums_of queries tables b.branch b.rows in
    let long : length sums_a ≡ length sums_b =
    length-map (branch_at queries a.branch).order (rank_of (branch_at queries a.branch) tables a.rows) ∙ keys_at keys queries have a.branch ina ∙ sym (keys_at keys queries have b.branch inb)
    ∙ sym (length-map (branch_at queries b.branch).order (rank_of (branch_at queries b.branch) tables b.rows)) in
    (λ p. front_before sums_a sums_b (map pos (a.branch ∷ a.rows)) (map pos (b.branch ∷ b.rows)) long p, λ p. before_front sums_a sums_b (map pos (a.branch ∷ a.rows)) (map pos (b.branch ∷ b.rows)) long p)
