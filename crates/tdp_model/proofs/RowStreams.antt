-- The rankings of a tree's rows and groups, as their queues enumerate them.
use Rattle.std.proofs.Common.{◌≡◌, ℕ, suc, ◌+◌, ◌<◌, List, [], ◌∷◌, length, arith}
use Rattle.rankings.specs.Order.{IsRanking}
use Rattle.tdp_model.specs.KeyLaws.{IsKeys}
use Rattle.tdp_model.specs.Remains.{Remains, total}
use Rattle.tdp_model.specs.Product.{Pair, pair_key, is_pair, stands_for}
use Rattle.tdp_model.specs.TreeProblem.{GroupHas, PartHas, IsTieFree}
use Rattle.tdp_model.proofs.Removal.{Remains-same}
use Rattle.tdp_model.proofs.Parts.{part_split, part_join}
use Rattle.tdp_model.proofs.SubtreeTies.{product_apart}
use Rattle.tdp_model.proofs.Products.{first_stands}
use Rattle.tdp_model.proofs.Streams.{product_remains}

module _ {K : Type 0} (Below : K → K → Type 0) (add : K → K → K) (none : K) (keys : IsKeys K Below add none)
    (m : ℕ) (parent : ℕ → ℕ) (rank : ℕ → ℕ → K) (group : ℕ → ℕ → List ℕ) (parents_first : (q : ℕ) → 0 < q → q < m → parent q < q)
    (item : ℕ → ℕ) (number : ℕ → ℕ → ℕ) (slot : ℕ → K → ℕ) (free : IsTieFree K add none m rank group item number slot) where
  -- A product's queue begins with one pair, and holds the ranking of the row's part with this child.
  pub product_begins : (d v r n c : ℕ) (xs ys zs : List K) → c ≡ suc v + n → c < m → parent c ≡ v
      → IsRanking K Below (PartHas add none m parent rank group d v r n) xs → IsRanking K Below (GroupHas add none m parent rank group d c r) ys
      → IsRanking K Below (PartHas add none m parent rank group d v r (suc n)) zs
      → Remains Pair K Below (pair_key add none xs ys) (total (stands_for (length xs) (length ys)) ((record { left = 0; right = 0 }) ∷ [])) zs
  unfolding total
  product_begins d v r n c xs ys zs at lc e rx ry rz =
      Remains-same Below (pair_key add none xs ys) (is_pair (length xs) (length ys)) (λ p. stands_for (length xs) (length ys) (record { left = 0; right = 0 }) p + 0) zs
      (λ p. omega (arith, first_stands (length xs) (length ys) p))
      (product_remains Below add none keys.order (PartHas add none m parent rank group d v r n) (GroupHas add none m parent rank group d c r) (PartHas add none m parent rank group d v r (suc n)) xs ys zs rx ry rz
      (λ a b ha hb. part_join Below add none keys m parent rank group d v r n c a b at e ha hb)
      (λ k h. part_split Below add none keys m parent rank group d v r n c k at e h)
      (λ a a' b b' ha ha' hb hb' s. product_apart Below add none keys m parent rank group parents_first item number slot free d v r n c a a' b b' at lc e ha ha' hb hb' s))
