-- The step bounds of a search.
use Rattle.std.proofs.Common.{◌≡◌, ◌≢◌, ℕ, suc, ◌+◌, ◌*◌, ◌<◌, ◌≤◌, cond, nat_eq, List, length, ap, ◌∙◌, inl, inr, arith}
use Rattle.std.proofs.lemmas.Bool.{cases_lt, cases_eq}
use Rattle.std.proofs.lemmas.Bool.Decides.{nat_tests}
use Rattle.rank_key.specs.Bits.{bit_length}
use Rattle.rank_key.proofs.BitLemmas.{bit_length_is, bit_length_rises}
use Rattle.tdp_core.specs.TreeView.{NodeView, parent, child_count}
use Rattle.tdp_core.specs.WellFormed.{IsFormed}
use Rattle.tdp_model.specs.Below.{is_below}
use Rattle.tdp_model.specs.KeyTuple.{KeyOf}
use Rattle.suffix_streams.specs.NodeStreamsView.{NodeStreamsView}
use Rattle.suffix_streams.specs.Rankings.{child}
use Rattle.suffix_streams.specs.TreeStreams.{product_of}
use Rattle.suffix_streams.specs.Growing.{AreQueuesGrown, IsWithinSteps, below_kids, subtree_size, kids_size}
use Rattle.suffix_streams.proofs.Rankings.{kid}
use Rattle.suffix_streams.proofs.Costs.{kids_other, kids_below_node, kids_smaller, kids_size_more, kids_many, below_itself_not}
use Rattle.suffix_streams.proofs.Searching.{no_queue}

pub some_bits : (k b : ℕ) → 1 ≤ k → bit_length (k + 1) ≤ b → 1 ≤ b
some_bits k b l h =
    let one : bit_length 1 ≡ 1 = bit_length_is 1 1 (omega arith) (λ z. omega arith) in
    omega (arith, h, one, bit_length_rises 1 (k + 1) (omega arith))

pub much : (s b : ℕ) → 20 * s ≤ 20 * s * (1 + b)
much s b = grind arith

share : (s k b : ℕ) → s ≤ k → 20 * s * (1 + b) ≤ 20 * k * (1 + b)
share s k b l = grind arith

spread : (a c b : ℕ) → 20 * (a + c) * (1 + b) ≡ 20 * a * (1 + b) + 20 * c * (1 + b)
spread a c b = grind arith

-- the steps at one child, and those below it
child_sum : (s0 s1 s3 s4 below left sub all b c : ℕ) → 1 ≤ b → s1 ≤ s0 + (14 + 4 * b + below) → s3 + 6 * c ≤ s1 + 1 + left → s4 ≤ s3 + 9 + 3 * b → below + 20 * (1 + b) ≤ sub → all ≡ left + sub → s4 + 6 * suc c ≤ s0 + all
child_sum s0 s1 s3 s4 below left sub all b c one a d e f g = omega (arith, one, a, d, e, f, g)

module _ {R : Type 0} (d : ℕ) (key : R → KeyOf d 16) (t : List (NodeView R)) (formed : IsFormed d key t) where
  -- the bound of a search that takes no steps
  pub none_within : (v c b s : ℕ) → c ≤ child_count t v → s + 6 * c ≤ s + 20 * kids_size t v c * (1 + b)
  none_within v c b s a = omega (arith, kids_many d key t formed v c a, much (kids_size t v c) b)

  -- a search with one more child
  pub child_within : (v c b s0 s1 s3 s4 : ℕ) → v < length t → c < child_count t v → 1 ≤ b → s1 ≤ s0 + (14 + 4 * b + 20 * kids_size t (child t v c) (child_count t (child t v c)) * (1 + b))
      → s3 + 6 * c ≤ s1 + 1 + 20 * kids_size t v c * (1 + b) → s4 ≤ s3 + 9 + 3 * b → s4 + 6 * suc c ≤ s0 + 20 * kids_size t v (suc c) * (1 + b)
  child_within v c b s0 s1 s3 s4 l a one x y z =
      let smaller : kids_size t (child t v c) (child_count t (child t v c)) + 1 ≤ subtree_size t (child t v c) = kids_smaller d key t formed (child t v c) (child_count t (child t v c)) (kid d key t formed v c a).within (omega arith) in
      let sub : 20 * kids_size t (child t v c) (child_count t (child t v c)) * (1 + b) + 20 * (1 + b) ≤ 20 * subtree_size t (child t v c) * (1 + b) =
      omega (arith, share (kids_size t (child t v c) (child_count t (child t v c)) + 1) (subtree_size t (child t v c)) b smaller, spread (kids_size t (child t v c) (child_count t (child t v c))) 1 b, one_share b) in
      let all : 20 * kids_size t v (suc c) * (1 + b) ≡ 20 * kids_size t v c * (1 + b) + 20 * subtree_size t (child t v c) * (1 + b) =
      ap (λ n. 20 * n * (1 + b)) (kids_size_more d key t formed v c) ∙ spread (kids_size t v c) (subtree_size t (child t v c)) b in
      child_sum s0 s1 s3 s4 (20 * kids_size t (child t v c) (child_count t (child t v c)) * (1 + b)) (20 * kids_size t v c * (1 + b)) (20 * subtree_size t (child t v c) * (1 + b)) (20 * kids_size t v (suc c) * (1 + b)) b c one x y z sub all
    where
      one_share : (b : ℕ) → 20 * 1 * (1 + b) ≡ 20 * (1 + b)
      one_share b = omega arith

  -- what a call takes at a node is within the node's own share
  pub subtree_within_steps : (nodes : List (NodeStreamsView R)) (visited : ℕ → ℕ) (v old new : ℕ) → v < length t → IsWithinSteps t nodes visited (λ b. 14 + 4 * b + 20 * kids_size t v (child_count t v) * (1 + b)) old new
      → IsWithinSteps t nodes visited (λ b. 20 * subtree_size t v * (1 + b)) old new
  subtree_within_steps nodes visited v old new l h k b one bits few queues =
      let smaller : kids_size t v (child_count t v) + 1 ≤ subtree_size t v = kids_smaller d key t formed v (child_count t v) l (omega arith) in
      omega (arith, h k b one bits few queues, share (kids_size t v (child_count t v) + 1) (subtree_size t v) b smaller, spread (kids_size t v (child_count t v)) 1 b)

  -- # The queues that a search meets

  -- the queues of the next children and of the node itself are as they were after a child's call
  pub queues_apart : (v c k : ℕ) (n m : List (NodeStreamsView R)) → length m ≡ length t → v < length t → c < child_count t v → 1 ≤ k → AreQueuesGrown (is_below (parent t) (child t v c)) n m
      → ((w r j : ℕ) → 0 < below_kids t v (suc c) w + cond (nat_eq w v) 1 0 → length (product_of n w r j).frontier ≤ k)
      → (w r j : ℕ) → 0 < below_kids t v c w + cond (nat_eq w v) 1 0 → length (product_of m w r j).frontier ≤ k
  queues_apart v c k n m same l a one grown few w r j some = elim (cases_lt w (length t)) [
    | inr past ↦ omega (arith, no_queue m w r j (omega (arith, past, same)))
    | inl in_tree ↦ omega (arith, one, grown w r j, few w r j (omega (arith, some)), apart w in_tree some)
  ]
    where
      not_here : (w v : ℕ) → w ≢ v → cond {A = ℕ} (nat_eq w v) 1 0 ≡ 0
      not_here w v e = grind (arith, nat_tests)

      apart : (w : ℕ) → w < length t → 0 < below_kids t v c w + cond (nat_eq w v) 1 0 → is_below (parent t) (child t v c) w ≡ 0
      apart w in_tree some = elim (cases_lt 0 (is_below (parent t) (child t v c) w)) [
        | inr z ↦ omega arith
        | inl p ↦ elim (cases_eq w v) [
          | inl e ↦ absurd (omega (arith, p, ap (λ z. below_kids t v (suc c) z) e, below_itself_not d key t formed v (suc c) l (omega arith)))
          | inr n ↦ absurd (omega (arith, some, not_here w v n, kids_other d key t formed v c c w in_tree a (omega arith) p))
        ]
      ]

  -- the queues below a node
  pub queues_below : (v c k : ℕ) (n m : List (NodeStreamsView R)) → length m ≡ length t → c ≤ child_count t v → 1 ≤ k → AreQueuesGrown (λ w. 0) n m
      → ((w r j : ℕ) → 0 < is_below (parent t) v w → length (product_of n w r j).frontier ≤ k)
      → (w r j : ℕ) → 0 < below_kids t v c w + cond (nat_eq w v) 1 0 → length (product_of m w r j).frontier ≤ k
  queues_below v c k n m same a one grown few w r j some = elim (cases_lt w (length t)) [
    | inr past ↦ omega (arith, no_queue m w r j (omega (arith, past, same)))
    | inl in_tree ↦ omega (arith, one, grown w r j, few w r j (omega (arith, some, kids_below_node d key t formed v c w in_tree a)))
  ]
