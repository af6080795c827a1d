use Rattle.std.proofs.Common.{◌≡◌, ◌+◌, ◌-◌, ◌<◌, ◌++◌, ◌∷◌, [], ℕ, suc, length, map, get_or, refl, sym, ap, subst, ◌∙◌, inl, inr}
use Rattle.std.proofs.Math.ListN.{length-set, set}
use Rattle.std.proofs.lemmas.List.{length-map}
use Rattle.proof_model.specs.Certificate.{BoundLine}
use Rattle.proof_model.specs.ProofView.{proof_view}
use Rattle.proof_model.specs.declared.fault.ProofFault.TheVariants as fault
use Rattle.proof_model.specs.QueryProblem.{problem_in}
use Rattle.proof_model.specs.Valid.{bound_at}
use Rattle.proof_check.specs.Lines.{ArePlacedLines, line_node}
use Rattle.proof_check.specs.Places.{ArePlacesOf}
use Rattle.proof_check.proofs.LineFaults.{first_bad, line_is, line_number, lines_placed, none_read}
use Rattle.proof_check.proofs.Pushed.{part_more}
use Rattle.std.proofs.lemmas.Result.{IfOk-from_err}
use Rattle.proof_check.proofs.Tellings.{told_err}
use Rattle.proof_check.proofs.Counts.{at_list, ended, line_below, line_index, line_pred, line_some, line_suc, line_within, none_below}
use Rattle.proof_check.proofs.lines.placed_lines.Goals as goal

pub loop-bound-init : goal.loop-bound-init
loop-bound-init g c = record {
  each_node = c.in_ok-bounds.ensures.count ∙ c.nodes.ensures.count;
  placed = λ query tables join few has. record {
    count = ap length c.new-tops.ensures.items;
    each_node = length-map c.in_ok-bounds.bounds.items (λ b. b.ranks.items) ∙ c.in_ok-bounds.ensures.count ∙ c.nodes.ensures.count;
    solutions = λ i l. absurd (none_below _ l);
    within = λ v i l e. absurd (none_below _ l);
    numbers = λ v i l e. absurd (none_below _ l);
    keys = λ v l. ap (map g.R.Rank.key) (c.in_ok-bounds.ensures.empty v);
  };
}

pub returns-in_default : goal.returns-in_default
returns-in_default g c = record {
  placed = tt;
  each_node = tt;
  fault = λ query tables join few has.
      let items = c.args.proof.now.bounds.items in
      let none_at : BoundLine = record { line = 0; node = 0; rows = [] } in
      let value = c.deref-bound-items.ensures.value in
      let inside = subst (λ xs. c.loop-bound.bound-index < length xs) value c.loop-bound-test.true in
      let is = subst (λ xs. c.bound-item.result ≡ get_or xs c.loop-bound.bound-index c.bound-item.result) value c.bound-item.is in
      let p = c.loop-bound.invariant.placed query tables join few has in
      inr (
        c.loop-bound.bound-index,
        ap (λ x. fault.BadBound x.line) (sym (line_is items c.loop-bound.bound-index c.bound-item.result none_at inside is)),
        first_bad (problem_in query tables join) (proof_view c.args.proof.now) query.limit c.loop-bound.bound-index p.solutions
            (none_read query tables join c.args.proof.now c.loop-bound.bound-index c.bound-item.result inside is
            (c.in_default.ensures query tables join has)),
      );
}

pub overflow_sub-node : goal.overflow_sub-node
overflow_sub-node g c =
    let s = c.in-Some.ensures c.requires.problem.query c.requires.problem.tables c.requires.problem.join c.requires.problem.tree in
    line_some c.bound-item.result.node s.0 s.2

pub rank_of_places-rank-requires-clause-node : goal.rank_of_places-rank-requires-clause-node
rank_of_places-rank-requires-clause-node g c =
    let s = c.in-Some.ensures c.requires.problem.query c.requires.problem.tables c.requires.problem.join c.requires.problem.tree in
    line_below c.bound-item.result.node s.0 s.2 (length c.args.raw.now.shapes) s.1

pub rank_of_places-rank-requires-clause-solution : goal.rank_of_places-rank-requires-clause-solution
rank_of_places-rank-requires-clause-solution g c =
    let s = c.in-Some.ensures c.requires.problem.query c.requires.problem.tables c.requires.problem.join c.requires.problem.tree in
    record {
      query = c.requires.problem.query;
      tables = c.requires.problem.tables;
      join = c.requires.problem.join;
      rows = c.bound-item.result.rows.items;
      tree = c.requires.problem.tree;
      placed = subst (λ v. ArePlacesOf c.requires.problem.query c.requires.problem.tables c.requires.problem.join c.args.raw.now v
          c.bound-item.result.rows.items c.in-Some.places) (line_pred c.bound-item.result.node s.0 s.2) s.3;
    }

pub bounds-places-node : goal.bounds-places-node
bounds-places-node g c =
    let s = c.in-Some.ensures c.requires.problem.query c.requires.problem.tables c.requires.problem.join c.requires.problem.tree in
    line_within c.bound-item.result.node s.0 s.2 (length c.args.raw.now.shapes) 16 s.1 c.nodes.ensures.formed.shaped.few_nodes

pub index_mut-of_node-requires : goal.index_mut-of_node-requires
index_mut-of_node-requires g c =
    let s = c.in-Some.ensures c.requires.problem.query c.requires.problem.tables c.requires.problem.join c.requires.problem.tree in
    line_index c.bound-item.result.node s.0 s.2 (length c.args.raw.now.shapes) (length c.loop-bound.bounds.items) c.loop-bound.bounds.len
    s.1 c.loop-bound.invariant.each_node c.loop-bound.bounds.ok.0

pub loop-bound-preserved : goal.loop-bound-preserved
loop-bound-preserved g c =
    let node : ℕ = c.bound-item.result.node - 1 in
    let bounds = c.loop-bound.bounds.items in let old = c.index_mut-of_node.result.now in
    let s0 = c.in-Some.ensures c.requires.problem.query c.requires.problem.tables c.requires.problem.join c.requires.problem.tree in
    let room : c.bound-item.result.node - 1 < length bounds =
    at_list (c.bound-item.result.node - 1) (length c.args.raw.now.shapes) (length bounds)
    (line_below c.bound-item.result.node s0.0 s0.2 (length c.args.raw.now.shapes) s0.1) c.loop-bound.invariant.each_node in
    let ranks = part_more (λ b. b.ranks.items) bounds (c.bound-item.result.node - 1) old
    (record old { ranks = c.push-in-loop-bound.new.self }) c.rank_of_places-rank.result room c.index_mut-of_node.ensures.value
    c.in_ok-push-2.ensures.items in
    record {
      each_node = length-set bounds (c.bound-item.result.node - 1) (record old { ranks = c.push-in-loop-bound.new.self })
          ∙ c.loop-bound.invariant.each_node;
      placed = λ query tables join few has.
          let shaped = c.nodes.ensures.formed.shaped in let items = c.args.proof.now.bounds.items in
          let none_at : BoundLine = record { line = 0; node = 0; rows = [] } in
          let n : ℕ = c.loop-bound.bound-index in
          let value = c.deref-bound-items.ensures.value in
          let inside = subst (λ xs. c.loop-bound.bound-index < length xs) value c.loop-bound-test.true in
          let is = subst (λ xs. c.bound-item.result ≡ get_or xs c.loop-bound.bound-index c.bound-item.result) value c.bound-item.is in
          let s = c.in-Some.ensures query tables join has in
          let same = line_pred c.bound-item.result.node s.0 s.2 in
          let here : line_node (proof_view c.args.proof.now) c.loop-bound.bound-index ≡ suc (c.bound-item.result.node - 1) =
          (line_number items c.loop-bound.bound-index c.bound-item.result none_at inside is) ∙ line_suc c.bound-item.result.node s.0 s.2 in
          let placed = subst (λ rows. ArePlacesOf query tables join c.args.raw.now (c.bound-item.result.node - 1) rows c.in-Some.places)
          (sym (ap (λ x. x.rows) (line_is items c.loop-bound.bound-index c.bound-item.result none_at inside is)))
          (subst (λ v. ArePlacesOf query tables join c.args.raw.now v c.bound-item.result.rows.items c.in-Some.places) same s.3) in
          let rank = c.rank_of_places-rank.ensures query tables join
          (bound_at (problem_in query tables join) (proof_view c.args.proof.now) c.loop-bound.bound-index).rows few has placed in
          let low : c.bound-item.result.node - 1 < length c.args.raw.now.shapes =
          line_below c.bound-item.result.node s.0 s.2 (length c.args.raw.now.shapes) s.1 in
          let p = c.loop-bound.invariant.placed query tables join few has in
          subst (λ tops. ArePlacedLines query tables join g.R.Rank.KEYS g.R.Rank.key c.args.raw.now (proof_view c.args.proof.now)
          (c.loop-bound.bound-index + 1) tops
          (map (λ b. b.ranks.items) (set bounds (c.bound-item.result.node - 1) (record old { ranks = c.push-in-loop-bound.new.self }))))
          (sym c.in_ok-push.ensures.items)
          (subst (λ lists. ArePlacedLines query tables join g.R.Rank.KEYS g.R.Rank.key c.args.raw.now (proof_view c.args.proof.now)
          (c.loop-bound.bound-index + 1) (c.loop-bound.tops.items ++ (get_or c.in-Some.places (c.bound-item.result.node - 1) 0 ∷ [])) lists)
          (sym ranks)
          (lines_placed query tables join g.R.Rank.KEYS g.R.Rank.key c.args.raw.now shaped has (proof_view c.args.proof.now)
          c.loop-bound.bound-index c.loop-bound.tops.items (map (λ b. b.ranks.items) bounds) p (c.bound-item.result.node - 1)
          c.rank_of_places-rank.result c.in-Some.places low here placed rank));
    }

pub returns : goal.returns
returns g c = record {
  placed = λ query tables join few has.
      let end : c.loop-bound.bound-index ≡ length c.args.proof.now.bounds.items =
      ended _ _ c.loop-bound.auto.bound-index-end c.loop-bound-test.false ∙ (ap length c.deref-bound-items.ensures.value) in
      subst (λ k. ArePlacedLines query tables join g.R.Rank.KEYS g.R.Rank.key c.args.raw.now (proof_view c.args.proof.now) k
      c.loop-bound.tops.items (map (λ b. b.ranks.items) c.loop-bound.bounds.items)) end
      (c.loop-bound.invariant.placed query tables join few has);
  each_node = c.loop-bound.invariant.each_node;
  fault = tt;
}

pub returns-in_err-bounds : goal.returns-in_err-bounds
returns-in_err-bounds g c = record {
  placed = IfOk-from_err c.from_residual.result _ c.from_residual.ensures.0;
  each_node = IfOk-from_err c.from_residual.result _ c.from_residual.ensures.0;
  fault = told_err c.from_residual.result fault.NoMemory _ c.from_residual.ensures.1 (λ query tables join few has. inl refl);
}

pub returns-in_err-push : goal.returns-in_err-push
returns-in_err-push g c = record {
  placed = IfOk-from_err c.from_residual-in_err-push.result _ c.from_residual-in_err-push.ensures.0;
  each_node = IfOk-from_err c.from_residual-in_err-push.result _ c.from_residual-in_err-push.ensures.0;
  fault = told_err c.from_residual-in_err-push.result fault.NoMemory _ c.from_residual-in_err-push.ensures.1
      (λ query tables join few has. inl refl);
}

pub returns-in_err-push-2 : goal.returns-in_err-push-2
returns-in_err-push-2 g c =
    let r = c.from_residual-in_err-push-2.result in let e = c.from_residual-in_err-push-2.ensures in
    record {
      placed = IfOk-from_err r _ e.0;
      each_node = IfOk-from_err r _ e.0;
      fault = told_err r fault.NoMemory _ e.1 (λ query tables join few has. inl refl);
    }
