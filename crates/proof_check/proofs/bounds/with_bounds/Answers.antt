use Rattle.std.proofs.Common.{◌≡◌, ◌++◌, drop, take, [], length, map, get_or, sym, ap, subst, ◌∙◌}
use Rattle.std.proofs.lemmas.List.{length-map}
use Rattle.proof_model.specs.ProofView.{bound_view, proof_view}
use Rattle.proof_check.specs.BoundedRows.{IsBounded}
use Rattle.proof_check.specs.Lines.{AreLineGroups, ArePlacedLines}
use Rattle.proof_check.proofs.LineFaults.{groups_few, rows_few, tells_bad, tells_twice}
use Rattle.proof_check.proofs.NumberedGroups.{bounded}
use Rattle.proof_check.proofs.Pushed.{take_front}
use Rattle.proof_check.proofs.Tellings.{told_err}
use Rattle.proof_model.specs.declared.fault.ProofFault.TheVariants as fault
use Rattle.std.proofs.lemmas.Result.{IfOk-from_err}
use Rattle.proof_check.proofs.Counts.{few_more, no_more}
use Rattle.proof_check.proofs.bounds.with_bounds.Goals as goal

pub returns-in_err-tops : goal.returns-in_err-tops
returns-in_err-tops g c = record {
  bounded = IfOk-from_err c.from_residual.result _ c.from_residual.ensures.0;
  fault =
      told_err c.from_residual.result _ _ c.from_residual.ensures.1
      (tells_bad c.args.query.now.query c.args.tables.now c.args.join.now (proof_view c.args.proof.now) c.requires.shape
      c.in_err-tops.field-0.0
      (c.in_err-tops.ensures.fault c.args.query.now.query c.args.tables.now c.args.join.now c.requires.keys c.requires.rows));
}

pub line_groups-requires : goal.line_groups-requires
line_groups-requires g c = record {
  lines =
      record {
        query = c.args.query.now.query;
        tables = c.args.tables.now;
        join = c.args.join.now;
        ranks = map (λ b. b.ranks.items) c.in_ok-tops.field-0.bounds.items;
        tree = c.requires.rows;
        placed = subst (λ tops. ArePlacedLines c.args.query.now.query c.args.tables.now c.args.join.now g.R.Rank.KEYS g.R.Rank.key
            c.args.raw (proof_view c.args.proof.now) (length c.args.proof.now.bounds.items) tops
            (map (λ b. b.ranks.items) c.in_ok-tops.field-0.bounds.items)) (sym c.as_slice.ensures.value)
            (c.in_ok-tops.ensures.placed c.args.query.now.query c.args.tables.now c.args.join.now c.requires.keys c.requires.rows);
      };
}

pub returns-in_err-groups : goal.returns-in_err-groups
returns-in_err-groups g c = record {
  bounded = IfOk-from_err c.from_residual-in_err-groups.result _ c.from_residual-in_err-groups.ensures.0;
  fault =
      told_err c.from_residual-in_err-groups.result _ _ c.from_residual-in_err-groups.ensures.1
      (tells_twice c.args.query.now.query c.args.tables.now c.args.join.now (proof_view c.args.proof.now) c.requires.shape
      c.in_err-groups.field-0.0
      (c.in_err-groups.ensures.fault c.args.query.now.query c.args.tables.now c.args.join.now
      (map (λ b. b.ranks.items) c.in_ok-tops.field-0.bounds.items) c.requires.rows
      (subst (λ tops. ArePlacedLines c.args.query.now.query c.args.tables.now c.args.join.now g.R.Rank.KEYS g.R.Rank.key
      c.args.raw (proof_view c.args.proof.now) (length c.args.proof.now.bounds.items) tops
      (map (λ b. b.ranks.items) c.in_ok-tops.field-0.bounds.items)) (sym c.as_slice.ensures.value)
      (c.in_ok-tops.ensures.placed c.args.query.now.query c.args.tables.now c.args.join.now c.requires.keys c.requires.rows))));
}

pub name_all-requires-clause-few : goal.name_all-requires-clause-few
name_all-requires-clause-few g c = λ v l.
    let p = subst (λ tops. ArePlacedLines c.args.query.now.query c.args.tables.now c.args.join.now g.R.Rank.KEYS g.R.Rank.key
    c.args.raw (proof_view c.args.proof.now) (length c.args.proof.now.bounds.items) tops
    (map (λ b. b.ranks.items) c.in_ok-tops.field-0.bounds.items)) (sym c.as_slice.ensures.value)
    (c.in_ok-tops.ensures.placed c.args.query.now.query c.args.tables.now c.args.join.now c.requires.keys c.requires.rows) in
    let few = groups_few c.args.query.now.query c.args.tables.now c.args.join.now g.R.Rank.KEYS g.R.Rank.key c.args.raw
    c.nodes-nodes.ensures.formed.shaped c.requires.rows (proof_view c.args.proof.now) (length c.args.proof.now.bounds.items)
    c.as_slice.result.now (map (λ b. b.ranks.items) c.in_ok-tops.field-0.bounds.items) p (length c.args.proof.now.bounds.items)
    (no_more (length c.args.proof.now.bounds.items)) c.in_ok-groups.groups.items c.in_ok-groups.ensures.groups v l in
    let all = rows_few g.R.Rank.KEYS g.R.Rank.key c.args.raw c.nodes-nodes.ensures.formed v in
    few_more _ _ 4194304 _ few all (sym (ap (λ xs. length (get_or xs v [])) c.as_slice-2.ensures.value))

pub returns : goal.returns
returns g c = record {
  bounded =
      let query = c.args.query.now.query in let tables = c.args.tables.now in
      let join = c.args.join.now in let raw = c.args.raw in
      let certificate = proof_view c.args.proof.now in
      let items = c.args.proof.now.bounds.items in let shape = c.requires.shape in
      let all = sym (length-map items bound_view) in
      let ranks = ap (map (λ b. b.ranks.items)) (sym c.as_mut_slice.ensures.value) ∙ sym c.in_ok-name_all.ensures.ranks in
      let p = subst (λ k. ArePlacedLines query tables join g.R.Rank.KEYS g.R.Rank.key raw certificate k c.as_slice.result.now
      (map (λ b. b.ranks.items) c.name_all.new.bounds)) all
      (subst (λ lists. ArePlacedLines query tables join g.R.Rank.KEYS g.R.Rank.key raw certificate (length items) c.as_slice.result.now lists)
      ranks
      (subst (λ tops. ArePlacedLines query tables join g.R.Rank.KEYS g.R.Rank.key raw certificate (length items) tops
      (map (λ b. b.ranks.items) c.in_ok-tops.field-0.bounds.items)) (sym c.as_slice.ensures.value)
      (c.in_ok-tops.ensures.placed query tables join c.requires.keys c.requires.rows))) in
      let groups = subst (λ k. AreLineGroups raw certificate c.as_slice.result.now k c.as_slice-2.result.now) all
      (subst (AreLineGroups raw certificate c.as_slice.result.now (length items)) (sym c.as_slice-2.ensures.value)
      c.in_ok-groups.ensures.groups) in
      let each : length c.name_all.new.bounds ≡ length raw.shapes =
      sym (length-map c.name_all.new.bounds (λ b. b.ranks.items)) ∙ ap length (sym ranks)
      ∙ length-map c.in_ok-tops.field-0.bounds.items (λ b. b.ranks.items) ∙ c.in_ok-tops.ensures.each_node in
      let old = c.in_ok-tops.field-0.bounds in
      let same : take old.len (c.name_all.new.bounds ++ drop (length c.name_all.new.bounds) old.items) ≡ c.name_all.new.bounds =
      take_front c.name_all.new.bounds (drop (length c.name_all.new.bounds) old.items) old.len
      (old.ok.0 ∙ c.in_ok-tops.ensures.each_node ∙ sym each) in
      subst (λ bounds. IsBounded query tables join g.R.Rank.KEYS g.R.Rank.key certificate (record { raw = raw; bounds = bounds })) (sym same)
      (bounded query tables join g.R.Rank.KEYS g.R.Rank.key (record { raw = raw; bounds = c.name_all.new.bounds })
      c.nodes-nodes.ensures.formed.shaped certificate c.requires.rows shape.0 shape.1 c.as_slice.result.now c.as_slice-2.result.now
      p groups each c.in_ok-name_all.ensures.named);
  fault = tt;
}

pub returns-in_err-name_all : goal.returns-in_err-name_all
returns-in_err-name_all g c = record {
  bounded = IfOk-from_err c.from_residual-in_err-name_all.result _ c.from_residual-in_err-name_all.ensures.0;
  fault = told_err c.from_residual-in_err-name_all.result fault.NoMemory _ c.from_residual-in_err-name_all.ensures.1 tt;
}

pub placed_lines-requires : goal.placed_lines-requires
placed_lines-requires g c = record {
  problem =
      record {
        query = c.args.query.now.query;
        tables = c.args.tables.now;
        join = c.args.join.now;
        tree = c.requires.rows;
      };
}

pub name_all-requires-clause-each_group : goal.name_all-requires-clause-each_group
name_all-requires-clause-each_group g c = ap length c.as_slice-2.ensures.value ∙ c.in_ok-groups.ensures.groups.each_node

pub name_all-requires-clause-each_node : goal.name_all-requires-clause-each_node
name_all-requires-clause-each_node g c = ap length c.as_mut_slice.ensures.value ∙ c.in_ok-tops.ensures.each_node
