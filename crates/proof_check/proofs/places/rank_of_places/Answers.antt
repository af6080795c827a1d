use Rattle.std.proofs.Common.{◌≡◌, ◌+◌, ◌<◌, ℕ, false, true, nat_eq, length, sym, ap, subst, ◌∙◌, arith}
use Rattle.std.proofs.lemmas.Bool.Decides.{nat_tests}
use Rattle.tdp_model.specs.KeyTuple.{key_add}
use Rattle.rank_key.specs.Keys.{KeyFits}
use Rattle.proof_check.proofs.RankSums.{rank_begun, rank-is, rank_more, rank_skip, rank_sum, solution_within, sums_fit_lem}
use Rattle.proof_check.proofs.Counts.{below_count, ended}
use Rattle.proof_check.proofs.places.rank_of_places.Goals as goal
use Rattle.proof_check.proofs.places.rank_of_places.Goals.{then-below-at-eq1, else-below-at-eq1}

tests_true : (a b : ℕ) → a ≡ b → b ≡ 1 → nat_eq a 1 ≡ true
tests_true a b e f = grind (arith, nat_tests)

tests_false : (a b : ℕ) → a ≡ b → (b ≡ 1 → ⊥) → nat_eq a 1 ≡ false
tests_false a b e f = let n : a ≡ 1 → ⊥ = λ x. f (sym e ∙ x) in grind (arith, nat_tests)

pub loop-at-init : goal.loop-at-init
loop-at-init g c = c.zero-rank.ensures ∙ rank_begun g.R.Rank.KEYS g.R.Rank.key c.args.raw.now c.args.node c.args.places.now

pub row-row-requires-clause-row : goal.row-row-requires-clause-row
row-row-requires-clause-row g c =
    let inside : c.loop-at.at < length c.args.raw.now.shapes = below_count _ _ _ c.loop-at-test.true c.nodes-nodes.ensures.count in
    solution_within g.R.Rank.KEYS g.R.Rank.key c.args.raw.now c.nodes-nodes.ensures.formed.shaped c.args.node c.args.places.now
    c.requires.solution c.loop-at.at inside
    (tests_true _ _ (sym (c.subtree-below.ensures c.loop-at.at inside)) c.if-below-at-eq1.true)

pub join-rank-requires : goal.join-rank-requires
join-rank-requires g c =
    let inside : c.loop-at.at < length c.args.raw.now.shapes = below_count _ _ _ c.loop-at-test.true c.nodes-nodes.ensures.count in
    let sum = rank_more g.R.Rank.KEYS g.R.Rank.key c.args.raw.now c.args.node c.args.places.now c.loop-at.at
    (tests_true _ _ (sym (c.subtree-below.ensures c.loop-at.at inside)) c.if-below-at-eq1.true) in
    let fits = sums_fit_lem g.R.Rank.KEYS g.R.Rank.key c.args.raw.now c.args.node c.args.places.now c.nodes-nodes.ensures.formed
    (solution_within g.R.Rank.KEYS g.R.Rank.key c.args.raw.now c.nodes-nodes.ensures.formed.shaped c.args.node c.args.places.now
    c.requires.solution)
    (c.loop-at.at + 1) (omega (arith, inside)) in
    subst (λ k. KeyFits g.R.Rank.KEYS g.R.Rank.key (key_add g.R.Rank.KEYS 16 k (g.R.Rank.key c.row-row.result.rank))) (sym c.loop-at.invariant)
    (subst (λ k. KeyFits g.R.Rank.KEYS g.R.Rank.key (key_add g.R.Rank.KEYS 16
    (rank_sum g.R.Rank.KEYS g.R.Rank.key c.args.raw.now c.args.node c.args.places.now c.loop-at.at) k)) (sym c.row-row.ensures.rank)
    (subst (KeyFits g.R.Rank.KEYS g.R.Rank.key) sum fits))

pub loop-at-preserved : goal.loop-at-preserved
loop-at-preserved g c =
    let below = sym (c.subtree-below.ensures c.loop-at.at (below_count _ _ _ c.loop-at-test.true c.nodes-nodes.ensures.count)) in
    elim c.if-below-at-eq1.branch [
      | then-below-at-eq1 w ↦
          ap g.R.Rank.key w.rank-is ∙ w.join-rank.ensures.sum
          ∙ ap (λ k. key_add g.R.Rank.KEYS 16 k (g.R.Rank.key w.row-row.result.rank)) c.loop-at.invariant
          ∙ ap (key_add g.R.Rank.KEYS 16 (rank_sum g.R.Rank.KEYS g.R.Rank.key c.args.raw.now c.args.node c.args.places.now c.loop-at.at))
          w.row-row.ensures.rank
          ∙ sym (rank_more g.R.Rank.KEYS g.R.Rank.key c.args.raw.now c.args.node c.args.places.now c.loop-at.at
          (tests_true _ _ below w.if-below-at-eq1.true))
      | else-below-at-eq1 w ↦
          ap g.R.Rank.key w.rank-is ∙ c.loop-at.invariant
          ∙ sym (rank_skip g.R.Rank.KEYS g.R.Rank.key c.args.raw.now c.args.node c.args.places.now c.loop-at.at
          (tests_false _ _ below w.if-below-at-eq1.false))
    ]

pub returns : goal.returns
returns g c = λ query tables join rows few has placed.
    let end = ended _ _ c.loop-at.auto.at-end c.loop-at-test.false ∙ c.nodes-nodes.ensures.count in
    c.loop-at.invariant
    ∙ ap (rank_sum g.R.Rank.KEYS g.R.Rank.key c.args.raw.now c.args.node c.args.places.now) end
    ∙ rank-is query tables join g.R.Rank.KEYS g.R.Rank.key c.args.raw.now c.nodes-nodes.ensures.formed.shaped few has c.args.node rows
    c.args.places.now placed
