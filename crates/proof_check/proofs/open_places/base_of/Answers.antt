use Rattle.std.proofs.Common.{◌≡◌, ℕ, ◌<◌, ◌+◌, suc, Option, Some, option_map, unwrap_or, length, sym, ap, subst, ◌∙◌, inl, inr}
use Rattle.std.proofs.Common.{arith}
use Rattle.std.proofs.lemmas.Bool.{cases_lt}
use Rattle.tdp_model.specs.KeyTuple.{KeyOf, key_add, key_below, key_none}
use Rattle.tdp_model.specs.TreeProblem.{sum_from}
use Rattle.tdp_model.proofs.KeyTuples.{tuple_keys}
use Rattle.tdp_model.proofs.Sums.{sum_last}
use Rattle.rank_key.specs.Keys.{KeyFits}
use Rattle.tdp_core.specs.RawView.{IsRawFormed}
use Rattle.proof_model.specs.QueryProblem.{problem_in}
use Rattle.proof_check.proofs.Nodes.{all_nodes}
use Rattle.proof_check.specs.Levels.{IsBase, base_part}
use Rattle.proof_check.proofs.Known.{part_key, sum_fits}
use Rattle.proof_check.proofs.Counts.{at_list, below_count, ended, last_one, none_below}
use Rattle.proof_check.proofs.open_places.base_of.Goals as goal

pub loop-at-init : goal.loop-at-init
unfolding sum_from
loop-at-init g c = record { parts = λ q l. absurd (none_below _ l); sum = c.zero-base.ensures }

pub loop-at-preserved : goal.loop-at-preserved
loop-at-preserved g c =
    let d = g.R.Rank.KEYS in let at = c.loop-at.at in
    let part : ℕ → KeyOf d 16 =
    part_key c.args.join.now c.args.tree.now d g.R.Rank.key c.args.node c.args.start.now in
    let base : ℕ → Option (KeyOf d 16) =
    base_part c.args.join.now c.args.tree.now d g.R.Rank.key c.args.node c.args.start.now in
    let here : Some (g.R.Rank.key c.in_ok-part.part) ≡ base at = c.in_ok-part.ensures in
    let is : g.R.Rank.key c.in_ok-part.part ≡ part at = ap (λ z. unwrap_or z (key_none d 16)) here in
    let more : at + 1 ≡ suc at = omega arith in
    record {
      parts = λ q l. elim (cases_lt q at) [
        | inl less ↦ c.loop-at.invariant.parts q less
        | inr far ↦
            subst (λ z. base z ≡ Some (part z)) (sym (last_one _ _ l far)) (sym here ∙ ap Some is)
      ];
      sum = c.join-base.ensures.sum ∙ ap (λ z. key_add d 16 z (g.R.Rank.key c.in_ok-part.part)) c.loop-at.invariant.sum
          ∙ ap (λ z. key_add d 16 (sum_from (key_add d 16) (key_none d 16) part at 0) z) is
          ∙ sym (sum_last (key_below d 16) (key_add d 16) (key_none d 16) (tuple_keys d 16) part at 0 at (omega arith))
          ∙ ap (λ z. sum_from (key_add d 16) (key_none d 16) part z 0) (sym more);
    }

pub join-base-requires : goal.join-base-requires
join-base-requires g c =
    let d = g.R.Rank.KEYS in let key = g.R.Rank.key in let b = c.requires.ready.bounded in
    let join = c.args.join.now in let tree = c.args.tree.now in let at = c.loop-at.at in
    let t = problem_in b.query b.tables join in
    let part : ℕ → KeyOf d 16 = part_key join tree d key c.args.node c.args.start.now in
    let base : ℕ → Option (KeyOf d 16) = base_part join tree d key c.args.node c.args.start.now in
    let here : Some (key c.in_ok-part.part) ≡ base at = c.in_ok-part.ensures in
    let is : key c.in_ok-part.part ≡ part at = ap (λ z. unwrap_or z (key_none d 16)) here in
    let long = c.requires.ready.long in
    let node : c.args.node < t.nodes =
    at_list _ _ _ c.requires.ready.node (all_nodes b.query b.tables join c.requires.ready.ordered long) in
    let l : at < t.nodes =
    below_count _ _ _ c.loop-at-test.true (c.nodes-at-end.ensures.count ∙ ap (λ z. length z.raw.shapes) c.tree.view_is ∙ b.bounded.rows.nodes) in
    let formed : IsRawFormed d key tree.raw =
    subst (λ z. IsRawFormed d key z.raw) c.tree.view_is c.nodes-at-end.ensures.formed in
    let parts : (q : ℕ) → q < suc at → base q ≡ Some (part q) = λ q h. elim (cases_lt q at) [
      | inl less ↦ c.loop-at.invariant.parts q less
      | inr far ↦
          let e : q ≡ at = omega (arith, h, far) in
          subst (λ z. base z ≡ Some (part z)) (sym e) (sym here ∙ ap Some is)
    ] in
    let fits = sum_fits b.query b.tables join d key b.c tree b.few b.bounded c.requires.ready.ordered long c.args.node node
    c.args.start.now c.requires.rows part (suc at) l parts formed in
    let whole : sum_from (key_add d 16) (key_none d 16) part (suc at) 0
    ≡ key_add d 16 (key c.loop-at.base) (key c.in_ok-part.part) =
    sum_last (key_below d 16) (key_add d 16) (key_none d 16) (tuple_keys d 16) part at 0 at (omega arith)
    ∙ ap (λ z. key_add d 16 z (part at)) (sym c.loop-at.invariant.sum)
    ∙ ap (λ z. key_add d 16 (key c.loop-at.base) z) (sym is) in
    subst (KeyFits d key) whole fits

pub returns : goal.returns
returns g c =
    let d = g.R.Rank.KEYS in let b = c.requires.ready.bounded in let join = c.args.join.now in
    let part : ℕ → KeyOf d 16 = part_key join c.args.tree.now d g.R.Rank.key c.args.node c.args.start.now in
    let done : c.loop-at.at ≡ join.count =
    ended _ _ c.loop-at.auto.at-end c.loop-at-test.false ∙ c.nodes-at-end.ensures.count ∙ ap (λ z. length z.raw.shapes) c.tree.view_is
    ∙ b.bounded.rows.nodes ∙ all_nodes b.query b.tables join c.requires.ready.ordered c.requires.ready.long in (
      part,
      λ q l. c.loop-at.invariant.parts q (omega (arith, done, l)),
      subst (λ n. g.R.Rank.key c.loop-at.base ≡ sum_from (key_add d 16) (key_none d 16) part n 0) done c.loop-at.invariant.sum,
    )

pub returns-in_err-part : goal.returns-in_err-part
returns-in_err-part g c =
    let d = g.R.Rank.KEYS in let b = c.requires.ready.bounded in let join = c.args.join.now in
    let l : c.loop-at.at < join.count =
    below_count _ _ _ c.loop-at-test.true
    (c.nodes-at-end.ensures.count ∙ ap (λ z. length z.raw.shapes) c.tree.view_is ∙ b.bounded.rows.nodes
    ∙ all_nodes b.query b.tables join c.requires.ready.ordered c.requires.ready.long) in
    subst (λ r. IsBase join c.args.tree.now d g.R.Rank.key c.args.node c.args.start.now (option_map g.R.Rank.key r))
    (sym c.from_residual.ensures) (c.loop-at.at, l, sym c.in_err-part.ensures)

pub base_part-requires-clause-ready : goal.base_part-requires-clause-ready
base_part-requires-clause-ready g c = c.requires.ready

pub base_part-requires-clause-at : goal.base_part-requires-clause-at
base_part-requires-clause-at g c =
    let b = c.requires.ready.bounded in
    below_count _ _ _ c.loop-at-test.true
    (c.nodes-at-end.ensures.count ∙ ap (λ z. length z.raw.shapes) c.tree.view_is ∙ b.bounded.rows.nodes
    ∙ all_nodes b.query b.tables c.args.join.now c.requires.ready.ordered c.requires.ready.long)

pub base_part-requires-clause-rows : goal.base_part-requires-clause-rows
base_part-requires-clause-rows g c = c.requires.rows
