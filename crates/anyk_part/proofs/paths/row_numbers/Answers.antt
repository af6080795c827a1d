use Rattle.std.proofs.Common.{rules, ◌≡◌, ◌≢◌, ℕ, ◌+◌, ◌<◌, ◌≤◌, length, get_or, ◌∙◌, subst, arith}
use Rattle.std.proofs.Common.{ap, sym}
use Rattle.std.proofs.Math.ListN.{set, length-set}
use Rattle.tdp_core.specs.TreeView.{item, number}
use Rattle.anyk_part.proofs.Numbers.{numbers_are, own_next, others_next}
use Rattle.anyk_part.proofs.paths.row_numbers.Goals as goal

pub loop-node-preserved : goal.loop-node-preserved
loop-node-preserved g c =
    let t = c.args.tree.now in let l = c.loop-node.invariant in
    let n : ℕ = c.loop-node.node in
    let of : ℕ → ℕ = λ u. number t u (get_or c.args.chosen.now u 0) in
    let shaped = c.nodes-node-end.ensures.formed.shaped in
    let below : n < length t = search rules in
    let at : c.shape.result.now.item ≡ item t n = search rules in
    let is : c.row_at-row.result.row ≡ of n = c.row_at-row.ensures.number in
    let same : set c.loop-node.numbers (item t n) (of n) ≡ set c.loop-node.numbers c.shape.result.now.item c.row_at-row.result.row =
    ap (λ i. set c.loop-node.numbers i (of n)) (sym at) ∙ ap (λ r. set c.loop-node.numbers c.shape.result.now.item r) (sym is) in
    record {
      to = omega (arith, below);
      long = length-set c.loop-node.numbers c.shape.result.now.item c.row_at-row.result.row ∙ l.long;
      own = subst (λ xs. (u : ℕ) → u < n + 1 → get_or xs (item t u) 0 ≡ of u) same (own_next (length t) (item t) of shaped.items shaped.items_apart c.loop-node.numbers n below l.long l.own);
      others = subst (λ xs. (i : ℕ) → ((u : ℕ) → u < n + 1 → i ≢ item t u) → get_or xs i 0 ≡ 0) same (others_next (length t) (item t) of shaped.items shaped.items_apart c.loop-node.numbers n below l.long l.others);
      cost = omega (arith, l.cost, c.row_at-row.ensures.counted);
    }

pub returns-clause-numbers : goal.returns-clause-numbers
returns-clause-numbers g c =
    let t = c.args.tree.now in let l = c.loop-node.invariant in
    let end : length t ≤ c.loop-node.node = search rules in
    numbers_are g.R.Rank.KEYS g.R.Rank.key t c.nodes-node-end.ensures.formed c.requires.tie_free c.loop-node.numbers c.args.chosen.now l.long c.told-chosen c.requires.rows
    (λ u h. l.own u (omega (arith, h, end))) (λ i no_one. l.others i (λ u h. no_one u (omega (arith, h, l.to))))
