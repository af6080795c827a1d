use Rattle.std.proofs.Common.{◌≡◌, ◌≢◌, ◌+◌, ◌-◌, ◌<◌, ◌++◌, ◌∷◌, [], ℕ, length, get_or, refl, sym, ap, subst, ◌∙◌, inl, inr, arith}
use Rattle.std.proofs.Math.ListN.{set}
use Rattle.std.proofs.lemmas.List.{get_or-replicate, length-map, length-replicate}
use Rattle.tdp_core.proofs.RawReads.{list_read}
use Rattle.proof_model.specs.Certificate.{BoundLine}
use Rattle.proof_model.specs.ProofView.{bound_view, proof_view}
use Rattle.proof_model.specs.declared.fault.ProofFault.TheVariants as fault
use Rattle.proof_check.specs.Lines.{AreLineGroups}
use Rattle.proof_check.proofs.LineFaults.{groups_few, groups_more, line_is, node_read, node_within, rows_few, some_node_lem, twice}
use Rattle.std.proofs.lemmas.Result.{IfOk-from_err}
use Rattle.proof_check.proofs.Tellings.{told_err}
use Rattle.proof_check.proofs.Counts.{at_index, at_list, ended, few_more, none_below, up_to}
use Rattle.proof_check.proofs.groups.line_groups.Goals as goal

pub overflow_sub-node : goal.overflow_sub-node
overflow_sub-node g c =
    let h = c.requires.lines in let value = c.deref-bound-items.ensures.value in
    some_node_lem h.query h.tables h.join g.R.Rank.KEYS g.R.Rank.key c.args.raw.now c.nodes.ensures.formed.shaped h.tree c.args.proof.now
    c.args.tops.now h.ranks h.placed c.loop-line.line c.bound-item.result
    (subst (λ xs. c.loop-line.line < length xs) value c.loop-line-test.true)
    (subst (λ xs. c.bound-item.result ≡ get_or xs c.loop-line.line c.bound-item.result) value c.bound-item.is)

pub group_link-link-requires-clause-node : goal.group_link-link-requires-clause-node
group_link-link-requires-clause-node g c =
    let h = c.requires.lines in let value = c.deref-bound-items.ensures.value in
    node_within h.query h.tables h.join g.R.Rank.KEYS g.R.Rank.key c.args.raw.now c.nodes.ensures.formed.shaped h.tree c.args.proof.now
    c.args.tops.now h.ranks h.placed c.loop-line.line c.bound-item.result
    (subst (λ xs. c.loop-line.line < length xs) value c.loop-line-test.true)
    (subst (λ xs. c.bound-item.result ≡ get_or xs c.loop-line.line c.bound-item.result) value c.bound-item.is)

pub group_link-link-requires-clause-place : goal.group_link-link-requires-clause-place
group_link-link-requires-clause-place g c =
    let h = c.requires.lines in let value = c.deref-bound-items.ensures.value in
    let inside = subst (λ xs. c.loop-line.line < length xs) value c.loop-line-test.true in
    h.placed.within (c.bound-item.result.node - 1) c.loop-line.line inside
    (node_read h.query h.tables h.join g.R.Rank.KEYS g.R.Rank.key c.args.raw.now c.nodes.ensures.formed.shaped h.tree c.args.proof.now
    c.args.tops.now h.ranks h.placed c.loop-line.line c.bound-item.result inside
    (subst (λ xs. c.bound-item.result ≡ get_or xs c.loop-line.line c.bound-item.result) value c.bound-item.is))

pub index_mut-requires : goal.index_mut-requires
index_mut-requires g c =
    let h = c.requires.lines in let value = c.deref-bound-items.ensures.value in
    let low = node_within h.query h.tables h.join g.R.Rank.KEYS g.R.Rank.key c.args.raw.now c.nodes.ensures.formed.shaped h.tree c.args.proof.now
    c.args.tops.now h.ranks h.placed c.loop-line.line c.bound-item.result
    (subst (λ xs. c.loop-line.line < length xs) value c.loop-line-test.true)
    (subst (λ xs. c.bound-item.result ≡ get_or xs c.loop-line.line c.bound-item.result) value c.bound-item.is) in
    at_index (c.bound-item.result.node - 1) (length c.args.raw.now.shapes) (length c.loop-line.groups.items) c.loop-line.groups.len
    low c.loop-line.invariant.each_node c.loop-line.groups.ok.0

pub add_group-requires : goal.add_group-requires
add_group-requires g c =
    let h = c.requires.lines in let value = c.deref-bound-items.ensures.value in
    let inside = subst (λ xs. c.loop-line.line < length xs) value c.loop-line-test.true in
    let low = node_within h.query h.tables h.join g.R.Rank.KEYS g.R.Rank.key c.args.raw.now c.nodes.ensures.formed.shaped h.tree c.args.proof.now
    c.args.tops.now h.ranks h.placed c.loop-line.line c.bound-item.result inside
    (subst (λ xs. c.bound-item.result ≡ get_or xs c.loop-line.line c.bound-item.result) value c.bound-item.is) in
    let few = groups_few h.query h.tables h.join g.R.Rank.KEYS g.R.Rank.key c.args.raw.now c.nodes.ensures.formed.shaped h.tree
    (proof_view c.args.proof.now) (length c.args.proof.now.bounds.items) c.args.tops.now h.ranks h.placed c.loop-line.line
    (up_to c.loop-line.line (length c.args.proof.now.bounds.items) inside) c.loop-line.groups.items c.loop-line.invariant (c.bound-item.result.node - 1) low in
    let all = rows_few g.R.Rank.KEYS g.R.Rank.key c.args.raw.now c.nodes.ensures.formed (c.bound-item.result.node - 1) in
    let read = list_read c.loop-line.groups.items (c.bound-item.result.node - 1) c.index_mut.result.now
    (at_list (c.bound-item.result.node - 1) (length c.args.raw.now.shapes) (length c.loop-line.groups.items) low c.loop-line.invariant.each_node) c.index_mut.ensures.value in
    few_more _ _ 4194304 _ few all (ap length read)

pub returns-in-Ok-false : goal.returns-in-Ok-false
returns-in-Ok-false g c = record {
  groups = tt;
  fault = λ query tables join ranks has p.
      let shaped = c.nodes.ensures.formed.shaped in let items = c.args.proof.now.bounds.items in
      let none_at : BoundLine = record { line = 0; node = 0; rows = [] } in
      let value = c.deref-bound-items.ensures.value in
      let inside = subst (λ xs. c.loop-line.line < length xs) value c.loop-line-test.true in
      let is = subst (λ xs. c.bound-item.result ≡ get_or xs c.loop-line.line c.bound-item.result) value c.bound-item.is in
      let low = node_within query tables join g.R.Rank.KEYS g.R.Rank.key c.args.raw.now shaped has c.args.proof.now c.args.tops.now ranks p
      c.loop-line.line c.bound-item.result inside is in
      let node = node_read query tables join g.R.Rank.KEYS g.R.Rank.key c.args.raw.now shaped has c.args.proof.now c.args.tops.now ranks p
      c.loop-line.line c.bound-item.result inside is in
      let read = list_read c.loop-line.groups.items (c.bound-item.result.node - 1) c.index_mut.result.now
      (at_list (c.bound-item.result.node - 1) (length c.args.raw.now.shapes) (length c.loop-line.groups.items) low c.loop-line.invariant.each_node) c.index_mut.ensures.value in
      let at = c.in-Ok-false.ensures.there c.in-Ok-false.field-0-test in
      inr (
        c.loop-line.line,
        ap (λ x. fault.BoundTwice x.line) (sym (line_is items c.loop-line.line c.bound-item.result none_at inside is)),
        twice query tables join g.R.Rank.KEYS g.R.Rank.key c.args.raw.now shaped has (proof_view c.args.proof.now) (length items) c.args.tops.now
            ranks p c.loop-line.line (up_to c.loop-line.line (length c.args.proof.now.bounds.items) inside) c.loop-line.groups.items c.loop-line.invariant query.limit
            (c.bound-item.result.node - 1) at.0 (sym (length-map items bound_view)) low
            (subst (λ xs. at.0 < length xs) (sym read) at.1) inside node
            (ap (λ xs. get_or xs at.0 0) read ∙ at.2 ∙ c.group_link-link.ensures),
      );
}

pub loop-line-preserved : goal.loop-line-preserved
loop-line-preserved g c =
    let h = c.requires.lines in let shaped = c.nodes.ensures.formed.shaped in
    let value = c.deref-bound-items.ensures.value in
    let inside = subst (λ xs. c.loop-line.line < length xs) value c.loop-line-test.true in
    let is = subst (λ xs. c.bound-item.result ≡ get_or xs c.loop-line.line c.bound-item.result) value c.bound-item.is in
    let low = node_within h.query h.tables h.join g.R.Rank.KEYS g.R.Rank.key c.args.raw.now shaped h.tree c.args.proof.now c.args.tops.now
    h.ranks h.placed c.loop-line.line c.bound-item.result inside is in
    let node = node_read h.query h.tables h.join g.R.Rank.KEYS g.R.Rank.key c.args.raw.now shaped h.tree c.args.proof.now c.args.tops.now
    h.ranks h.placed c.loop-line.line c.bound-item.result inside is in
    let read = list_read c.loop-line.groups.items (c.bound-item.result.node - 1) c.index_mut.result.now
    (at_list (c.bound-item.result.node - 1) (length c.args.raw.now.shapes) (length c.loop-line.groups.items) low c.loop-line.invariant.each_node) c.index_mut.ensures.value in
    let absent = c.in-Ok-true.ensures.absent c.in-Ok-true.field-0-test in
    subst (λ xs. AreLineGroups c.args.raw.now (proof_view c.args.proof.now) c.args.tops.now (c.loop-line.line + 1)
    (set c.loop-line.groups.items (c.bound-item.result.node - 1) xs))
    (ap (λ xs. xs ++ (c.group_link-link.result ∷ [])) read ∙ sym (c.in-Ok-true.ensures.added c.in-Ok-true.field-0-test))
    (groups_more h.query h.tables h.join g.R.Rank.KEYS g.R.Rank.key c.args.raw.now shaped h.tree (proof_view c.args.proof.now)
    (length c.args.proof.now.bounds.items) c.args.tops.now h.ranks h.placed c.loop-line.line (up_to c.loop-line.line (length c.args.proof.now.bounds.items) inside)
    c.loop-line.groups.items c.loop-line.invariant (c.bound-item.result.node - 1) c.group_link-link.result low inside node
    c.group_link-link.ensures
    (subst (λ xs. (b : ℕ) → b < length xs → get_or xs b 0 ≢ c.group_link-link.result) (sym read) absent))

pub returns-in_err-groups : goal.returns-in_err-groups
returns-in_err-groups g c = record {
  groups = IfOk-from_err c.from_residual.result _ c.from_residual.ensures.0;
  fault = told_err c.from_residual.result fault.NoMemory _ c.from_residual.ensures.1 (λ query tables join ranks has p. inl refl);
}

pub returns-in-Err : goal.returns-in-Err
returns-in-Err g c = record {
  groups = tt;
  fault = λ query tables join ranks has p. inl refl;
}

pub returns : goal.returns
returns g c = record {
  groups =
      let all : c.loop-line.line ≡ length c.args.proof.now.bounds.items =
      ended _ _ c.loop-line.auto.line-end c.loop-line-test.false ∙ ap length c.deref-bound-items.ensures.value in
      subst (λ n. AreLineGroups c.args.raw.now (proof_view c.args.proof.now) c.args.tops.now n c.loop-line.groups.items) all
      c.loop-line.invariant;
  fault = tt;
}

pub bounds-bound-items-line : goal.bounds-bound-items-line
bounds-bound-items-line g c = c.loop-line-test.true

pub bounds-tops-line : goal.bounds-tops-line
bounds-tops-line g c =
    let inside = subst (λ xs. c.loop-line.line < length xs) c.deref-bound-items.ensures.value c.loop-line-test.true in
    omega (arith, inside, c.requires.lines.placed.count)

pub loop-line-init : goal.loop-line-init
loop-line-init g c =
    let none = c.in_ok-groups.ensures in let count = c.nodes.ensures.count in
    record {
      each_node = ap length none ∙ length-replicate c.nodes.result [] ∙ count;
      links = λ v l. ap (λ xs. get_or xs v []) none ∙ get_or-replicate c.nodes.result v [] [] (at_list _ _ _ l count);
      apart = λ v i j l m. absurd (none_below _ m);
    }
