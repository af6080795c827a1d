use Rattle.std.proofs.Common.{◌≡◌, ◌<◌, ◌+◌, None, Some, length, get_or, sym, ap, subst, ◌∙◌, arith}
use Rattle.std.proofs.Math.ListN.{set}
use Rattle.std.proofs.lemmas.List.{get_or_default, length-set}
use Rattle.proof_check.specs.Levels.{AreLeast, IsLesser}
use Rattle.proof_check.proofs.Least.{least_kept, least_lowered, none_least}
use Rattle.proof_check.proofs.Counts.{at_list}
use Rattle.proof_check.proofs.deviations.least_of.Goals as goal
use Rattle.proof_check.proofs.deviations.least_of.Goals.{in-None, in-Some}

pub loop-n-init : goal.loop-n-init
loop-n-init g c = record {
  count = c.in_ok-least.ensures.count;
  least = none_least g.R.Rank.KEYS g.R.Rank.key c.args.branches.now c.in_ok-least.least.items c.in_ok-least.ensures.none;
}

pub lower-requires : goal.lower-requires
lower-requires g c = record {
  there =
      let here : get_or c.args.branches.now c.loop-n.n None ≡ Some c.in-Some.branch =
      get_or_default c.args.branches.now c.loop-n.n None c.index-branches-n.result c.loop-n-test.true
      ∙ sym c.index-branches-n.is ∙ c.in-Some.is in
      let n = c.loop-n.invariant.count in
      at_list _ _ _ (c.requires.within c.loop-n.n c.in-Some.branch c.loop-n-test.true here) (c.loop-n.least.ok.0 ∙ n);
}

pub loop-n-preserved : goal.loop-n-preserved
loop-n-preserved g c =
    let d = g.R.Rank.KEYS in let key = g.R.Rank.key in let branches = c.args.branches.now in
    let n = c.loop-n.n in
    let element : get_or branches n None ≡ c.index-branches-n.result =
    get_or_default branches n None c.index-branches-n.result c.loop-n-test.true ∙ sym c.index-branches-n.is in
    elim c.match-branch-2.branch [
      | in-None w ↦
          let same = ap (λ v. v.items) w.least-is in
          record {
            count = ap length same ∙ c.loop-n.invariant.count;
            least = subst (AreLeast d key (n + 1) branches) (sym same)
                (least_kept d key n branches c.loop-n.least.items c.loop-n.invariant.least (element ∙ w.in-None.is));
          }
      | in-Some w ↦
          let b = w.in-Some.branch in let old = c.loop-n.least.items in
          let here = element ∙ w.in-Some.is in
          let now = w.lower.ensures.0 in
          let within : b.group < length old =
          let size = c.loop-n.invariant.count in omega (arith, c.requires.within n b c.loop-n-test.true here, size) in
          let new : c.match-branch-2.least.items ≡ set old b.group (Some now) =
          ap (λ v. v.items) w.least-is ∙ w.lower.ensures.1 in
          record {
            count = ap length new ∙ length-set old b.group (Some now) ∙ c.loop-n.invariant.count;
            least = subst (AreLeast d key (n + 1) branches) (sym new)
                (least_lowered d key n branches old c.loop-n.invariant.least b here within now w.lower.ensures.2);
          }
    ]

pub returns : goal.returns
returns g c = record {
  count = c.loop-n.least.ok.0 ∙ c.loop-n.invariant.count;
  least =
      let done : c.loop-n.n ≡ length c.args.branches.now = let f = c.loop-n-test.false in omega (arith, c.loop-n.auto.n-end, f) in
      subst (λ m. AreLeast g.R.Rank.KEYS g.R.Rank.key m c.args.branches.now c.loop-n.least.items) done c.loop-n.invariant.least;
}
