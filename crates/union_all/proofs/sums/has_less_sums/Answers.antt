use Rattle.std.proofs.Common.{◌≡◌, ◌≢◌, ◌<◌, ◌≤◌, ◌⊎◌, SFits, length, take, sym, ◌∙◌, inl, inr, arith, rules}
use mir.Syntax.{w128}
use mir.Val.{of_z, to_z}
use Rattle.std.proofs.lemmas.Bool.{cases_lt}
use Rattle.std.proofs.lemmas.Int.{to_z-of_z}
use Rattle.anyk_model.specs.Query.{rank_of}
use Rattle.union_all.proofs.Compared.{key_decides, key_passes, keys_end}
use Rattle.union_all.proofs.sums.has_less_sums.Goals as goal

pub returns-then-sum-other_sum : goal.returns-then-sum-other_sum
returns-then-sum-other_sum c =
    let one = c.args.one.now.query in
    let other = c.args.other.now.query in
    let fits : SFits w128 c.compared_sum-sum.result = search rules in
    let same : to_z w128 (of_z w128 c.compared_sum-sum.result) ≡ c.compared_sum-sum.result = simp to_z-of_z in
    let fits2 : SFits w128 c.compared_sum-other_sum.result = search rules in
    let same2 : to_z w128 (of_z w128 c.compared_sum-other_sum.result) ≡ c.compared_sum-other_sum.result = simp to_z-of_z in
    let in1 : c.loop-key.key < length one.order = omega (arith, c.loop-key-test.true, c.min-keys.ensures, c.keys.ensures.keys, c.keys-2.ensures.keys) in
    let in2 : c.loop-key.key < length other.order = omega (arith, c.loop-key-test.true, c.min-keys.ensures, c.keys.ensures.keys, c.keys-2.ensures.keys) in
    let apart : to_z w128 (of_z w128 c.compared_sum-sum.result) ≢ to_z w128 (of_z w128 c.compared_sum-other_sum.result) = search rules in
    sym (key_decides (rank_of one c.args.tables.now (take (length one.items) c.args.rows.now)) (rank_of other c.args.tables.now (take (length other.items) c.args.other_rows.now)) one.order other.order
    c.loop-key.key in1 in2 c.loop-key.invariant _ _ (same ∙ c.compared_sum-sum.ensures) (same2 ∙ c.compared_sum-other_sum.ensures) apart)

pub loop-key-preserved : goal.loop-key-preserved
loop-key-preserved c =
    let one = c.args.one.now.query in
    let other = c.args.other.now.query in
    let fits : SFits w128 c.compared_sum-sum.result = search rules in
    let same : to_z w128 (of_z w128 c.compared_sum-sum.result) ≡ c.compared_sum-sum.result = simp to_z-of_z in
    let fits2 : SFits w128 c.compared_sum-other_sum.result = search rules in
    let same2 : to_z w128 (of_z w128 c.compared_sum-other_sum.result) ≡ c.compared_sum-other_sum.result = simp to_z-of_z in
    let in1 : c.loop-key.key < length one.order = omega (arith, c.loop-key-test.true, c.min-keys.ensures, c.keys.ensures.keys, c.keys-2.ensures.keys) in
    let in2 : c.loop-key.key < length other.order = omega (arith, c.loop-key-test.true, c.min-keys.ensures, c.keys.ensures.keys, c.keys-2.ensures.keys) in
    let equal : to_z w128 (of_z w128 c.compared_sum-sum.result) ≡ to_z w128 (of_z w128 c.compared_sum-other_sum.result) = search rules in
    key_passes (rank_of one c.args.tables.now (take (length one.items) c.args.rows.now)) (rank_of other c.args.tables.now (take (length other.items) c.args.other_rows.now)) one.order other.order
    c.loop-key.key in1 in2 c.loop-key.invariant _ _ (same ∙ c.compared_sum-sum.ensures) (same2 ∙ c.compared_sum-other_sum.ensures) equal

pub returns : goal.returns
returns c =
    let one = c.args.one.now.query in
    let other = c.args.other.now.query in
    let k = c.loop-key.key in
    let end : k ≤ c.min-keys.result = search rules in
    let in1 : k ≤ length one.order = omega (arith, end, c.min-keys.ensures, c.keys.ensures.keys, c.keys-2.ensures.keys) in
    let in2 : k ≤ length other.order = omega (arith, end, c.min-keys.ensures, c.keys.ensures.keys, c.keys-2.ensures.keys) in
    let over : c.min-keys.result ≤ k = search rules in
    let ends : (length one.order ≤ k) ⊎ (length other.order ≤ k) = elim (cases_lt (length one.order) (length other.order)) [
      | inl l ↦ inl (omega (arith, over, c.min-keys.ensures, c.keys.ensures.keys, c.keys-2.ensures.keys, l))
      | inr l ↦ inr (omega (arith, over, c.min-keys.ensures, c.keys.ensures.keys, c.keys-2.ensures.keys, l))
    ] in
    sym (keys_end (rank_of one c.args.tables.now (take (length one.items) c.args.rows.now)) (rank_of other c.args.tables.now (take (length other.items) c.args.other_rows.now)) one.order other.order
    k _ _ c.keys-3.ensures.keys c.keys-4.ensures.keys in1 in2 ends c.loop-key.invariant)
