use Rattle.std.proofs.Common.{◌<◌, ◌≤◌, [], ℕ, length, map, get_or, refl, sym, ap, subst, ◌∙◌, inl, inr, arith}
use Rattle.std.proofs.Math.ListN.{length-set, set}
use Rattle.std.proofs.lemmas.Bool.{cases_eq}
use Rattle.tdp_core.proofs.RawReads.{list_read}
use Rattle.proof_check.specs.Lines.{AreNamed}
use Rattle.proof_check.proofs.Pushed.{new_part, old_part, same_part}
use Rattle.std.proofs.lemmas.Result.{IfOk-from_err}
use Rattle.proof_check.proofs.Counts.{at_list, below_count, none_below, within_end}
use Rattle.proof_check.proofs.names.name_all.Goals as goal

pub name_groups-requires-clause-node : goal.name_groups-requires-clause-node
name_groups-requires-clause-node g c = below_count _ _ _ c.loop-node-test.true c.nodes-node-end.ensures.count

pub name_groups-requires-clause-groups : goal.name_groups-requires-clause-groups
name_groups-requires-clause-groups g c =
    let l : c.loop-node.node < length c.args.raw.now.shapes = below_count _ _ _ c.loop-node-test.true c.nodes-node-end.ensures.count in
    subst (λ xs. length xs ≤ 4194304)
    (list_read c.args.groups.now c.loop-node.node c.index-groups-node.result (at_list _ _ _ l c.requires.each_group) c.index-groups-node.is)
    (c.requires.few c.loop-node.node l)

pub returns : goal.returns
returns g c = record {
  named = λ v l.
      c.loop-node.invariant.named v (within_end _ _ _ (at_list _ _ _ l (c.nodes-node-end.ensures.count)) c.loop-node-test.false);
  ranks = c.loop-node.invariant.ranks;
}

pub returns-in_err-name_groups : goal.returns-in_err-name_groups
returns-in_err-name_groups g c = record {
  named = IfOk-from_err c.from_residual.result _ c.from_residual.ensures.0;
  ranks =
      let inside : c.loop-node.node < length c.loop-node.bounds = at_list _ _ _ (below_count _ _ _ c.loop-node-test.true c.nodes-node-end.ensures.count) c.loop-node.invariant.each_node in
      same_part (λ b. b.ranks.items) c.loop-node.bounds c.loop-node.node c.index-bounds-node.result c.name_groups.new.bounds inside
      (ap (λ r. r.items) c.name_groups.ensures.ranks)
      ∙ c.loop-node.invariant.ranks;
}

pub loop-node-init : goal.loop-node-init
loop-node-init g c = record { each_node = c.requires.each_node; named = λ v l. absurd (none_below _ l); ranks = refl }

pub loop-node-preserved : goal.loop-node-preserved
loop-node-preserved g c =
    let new = c.name_groups.new.bounds in
    let node : ℕ = c.loop-node.node in
    let inside : node < length c.loop-node.bounds = at_list _ _ _ (below_count _ _ _ c.loop-node-test.true c.nodes-node-end.ensures.count) c.loop-node.invariant.each_node in
    let there : node < length c.args.groups.now = at_list _ _ _ (below_count _ _ _ c.loop-node-test.true c.nodes-node-end.ensures.count) c.requires.each_group in
    let groups = list_read c.args.groups.now node c.index-groups-node.result there c.index-groups-node.is in
    record {
      each_node = length-set c.loop-node.bounds node new ∙ c.loop-node.invariant.each_node;
      named = λ v l. elim (cases_eq v node) [
        | inl e ↦ subst (λ u. AreNamed c.args.raw.now (get_or c.args.groups.now u []) u
            (get_or (map (λ b. b.own.items) (set c.loop-node.bounds node new)) u [])
            (get_or (map (λ b. b.named.items) (set c.loop-node.bounds node new)) u [])) (sym e)
            (subst (λ xs. AreNamed c.args.raw.now xs node (get_or (map (λ b. b.own.items) (set c.loop-node.bounds node new)) node [])
            (get_or (map (λ b. b.named.items) (set c.loop-node.bounds node new)) node [])) (sym groups)
            (subst (λ xs. AreNamed c.args.raw.now c.index-groups-node.result node xs
            (get_or (map (λ b. b.named.items) (set c.loop-node.bounds node new)) node []))
            (sym (new_part (λ b. b.own.items) c.loop-node.bounds node new [] inside))
            (subst (λ xs. AreNamed c.args.raw.now c.index-groups-node.result node new.own.items xs)
            (sym (new_part (λ b. b.named.items) c.loop-node.bounds node new [] inside)) c.in_ok-name_groups.ensures.named)))
        | inr e ↦
            subst (λ xs. AreNamed c.args.raw.now (get_or c.args.groups.now v []) v xs
            (get_or (map (λ b. b.named.items) (set c.loop-node.bounds node new)) v []))
            (sym (old_part (λ b. b.own.items) c.loop-node.bounds node v new [] e))
            (subst (λ xs. AreNamed c.args.raw.now (get_or c.args.groups.now v []) v
            (get_or (map (λ b. b.own.items) c.loop-node.bounds) v []) xs)
            (sym (old_part (λ b. b.named.items) c.loop-node.bounds node v new [] e))
            (c.loop-node.invariant.named v (omega (arith, l, e))))
      ];
      ranks = same_part (λ b. b.ranks.items) c.loop-node.bounds node c.index-bounds-node.result new inside
          (ap (λ r. r.items) c.name_groups.ensures.ranks)
          ∙ c.loop-node.invariant.ranks;
    }
