use Rattle.std.proofs.Common.{◌≡◌, ◌++◌, List, [], length, sym, ap, subst, ◌∙◌, rules}
use Rattle.anyk_model.specs.Output.{cut}
use Rattle.tdp_core.specs.TreeView.{NodeView}
use Rattle.tdp_core.specs.Solutions.{IsTreeRanking}
use Rattle.witness_key.specs.WitnessKey.{combinations_in}
use Rattle.proof_model.specs.Certificate.{BoundLine}
use Rattle.proof_model.specs.Writing.{header_text}
use Rattle.tdp_core.specs.WellFormed.{IsFormed}
use Rattle.proof_write.specs.Firsts.{AreBounds, AreTold}
use Rattle.proof_write.proofs.PlanProblem.{told}
use Rattle.proof_write.proofs.PlanText.{plan_text, text_parts}
use Rattle.proof_write.proofs.proving.prove.Goals as goal

pub push_bounds-requires : goal.push_bounds-requires
push_bounds-requires g c = record {
  told =
      let planned = c.requires.planned in
      subst (λ (tree : List (NodeView g.row.R.Denot)). AreTold tree) planned.4
      (told c.args.query.now planned.0 planned.1.tree planned.3.whole.reduced);
}

pub returns : goal.returns
returns g c = record {
  written = λ tables plan fits is same.
      let d = g.R.Rank.KEYS in
      let key = g.R.Rank.key in
      let query = c.args.query.now in
      let ranked = c.requires.rest in
      let there = c.in_ok-push_bounds.ensures in
      let bounds : List BoundLine = there.appended.0 in
      let ended = c.in_ok-ended.ensures in
      let back = sym same in
      let rest = g.E.Ranked.rest c.args.engine.now in
      let empty : c.new-text.result.items ≡ [] = search rules in
      plan_text d key query tables fits plan is
      (subst (λ (tree : List (NodeView g.row.R.Denot)). IsFormed d key tree) back there.formed)
      ranked.0
      (subst (λ (tree : List (NodeView g.row.R.Denot)). IsTreeRanking tree d key ranked.0) back ranked.1)
      rest ranked.2
      bounds (subst (λ (tree : List (NodeView g.row.R.Denot)). AreBounds tree
      (length tree) bounds) back there.appended.1) c.in_ok-ended.ended ended.ended
      c.push_last.new.text.items
      (text_parts bounds (cut query.query.limit (combinations_in query.query rest)) c.in_ok-ended.ended _ _ _ c.push_last.new.text.items
      (c.in_ok-push_header.ensures.appended
      ∙ ap (λ l. l ++ header_text) empty) there.appended.2 ended.appended c.in_ok-push_last.ensures.appended);
}
