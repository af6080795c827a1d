use Rattle.std.proofs.Common.{[], map, refl, ℕ, List}
use Rattle.answer_print.specs.StyleView.{style_view}
use Rattle.bound_query.specs.WeighedQuery.{BoundQuery}
use Rattle.outer_io.specs.declared.fault.PrintFault.TheVariants as fault
use Rattle.bound_query.proofs.Calls.{limit_below, limit_reached, limit_within}
use Rattle.outer_io.specs.Printing.{Printed}
use Rattle.outer_io.specs.SinkState.{state_of}
use Rattle.outer_io.proofs.Prints.{appends_nothing}
use Rattle.anyk_model.specs.TaggedRows.{tagged, Tagged}
use Rattle.anyk_model.specs.UnionOutput.{union_line_text}
use Rattle.command_output.proofs.Given.{cut_short, first_left, printed_all, printed_limit, stopped_short}
use Rattle.command_output.specs.UnionSteps.{IsMember}
use Rattle.command_output.proofs.UnionMembers.{itself, none_printed, paced_next, paced_same, printed_more, seen_by}
use Rattle.tdp_core.proofs.OptionFacts.{at_none, at_some}
use Rattle.command_output.proofs.Limits.{none_within, reached_within}
use Rattle.outer_io.proofs.HandedOn.{handed_on}
use Rattle.command_output.proofs.union.print_members.Given.{Over}
use Rattle.command_output.proofs.union.print_members.Goals.{At-loop-given}
use Rattle.command_output.proofs.union.print_members.Goals as goal
use Rattle.anyk_model.specs.Query.{Query}

-- the queries, and what is printed of a member
module _ (g : Over) (c : At-loop-given g) where
  abbrev all : List Query
  all = map (λ (q : BoundQuery). q.query) c.args.queries.now

  abbrev line : Tagged → List ℕ
  line = union_line_text all c.args.tables.now (style_view c.args.style.now)

pub loop-given-init : goal.loop-given-init
loop-given-init g c =
    let all = map (λ (q : BoundQuery). q.query) c.args.queries.now in
    let tables = c.args.tables.now in
    let f = union_line_text all tables (style_view c.args.style.now) in
    none_printed g.E.Ranked.share g.met.E.Ranked.share_rises all tables f c.args.merge.now _ _
    c.requires.members

pub returns-in_err-tagged : goal.returns-in_err-tagged
returns-in_err-tagged g c =
    let at = (goal.at.returns-in_err-tagged g c).At-loop-given in
    let low = limit_within c.args.limit c.loop-given._given _ _ c.unwrap_or-most.ensures c.loop-given-test.true in
    let refused = c.in_err-tagged.ensures.refused in
    let below = limit_below c.args.limit c.loop-given._given _ _ c.unwrap_or-most.ensures c.loop-given-test.true in
    record {
      printed =
          handed_on (Printed _ _ _) c.from_residual.result fault.NoMemory c.from_residual.ensures.1
          (stopped_short (IsMember (all g at) c.args.tables.now) (line g at) itself c.args.merge.now.rest c.loop-given._given c.args.limit c.loop-given.merge.rest (state_of g.S.Sink c.args.out.now) (state_of g.S.Sink c.loop-given.out) low c.loop-given.invariant.given);
      paced =
          paced_next g.E.Ranked.share g.met.E.Ranked.share_rises (all g at) c.args.tables.now (line g at) c.args.merge.now c.args.limit c.loop-given._given
          c.loop-given.merge (state_of g.S.Sink c.args.out.now) (state_of g.S.Sink c.loop-given.out) c.args.steps.now c.loop-given.steps c.loop-given.invariant refused.0 refused.1 _ _ refused.2 refused.4 below low _ [] (appends_nothing _);
    }

pub returns-in_default : goal.returns-in_default
returns-in_default g c =
    let at = (goal.at.returns-in_default g c).At-loop-given in
    let low = limit_within c.args.limit c.loop-given._given _ _ c.unwrap_or-most.ensures c.loop-given-test.true in
    let ended = at_none _ _ c.in_default.is c.in_ok-tagged.ensures.end in
    record {
      printed =
          printed_all (IsMember (all g at) c.args.tables.now) (line g at) itself c.args.merge.now.rest
          c.loop-given._given c.args.limit c.loop-given.merge.rest (state_of g.S.Sink c.args.out.now) (state_of g.S.Sink c.loop-given.out) low ended.0 c.loop-given.invariant.given;
      paced =
          let same = paced_same g.E.Ranked.share g.met.E.Ranked.share_rises (all g at) c.args.tables.now (line g at) c.args.merge.now c.args.limit c.loop-given._given
          c.loop-given.merge (state_of g.S.Sink c.args.out.now) (state_of g.S.Sink c.loop-given.out) c.args.steps.now c.loop-given.steps c.loop-given.invariant low in
          rw ended.2 same;
    }

-- the next member, as the queries of the call see it
pub print_member-requires-clause-member : goal.print_member-requires-clause-member
print_member-requires-clause-member g c =
    let at = (goal.at.print_member-requires-clause-member g c).At-loop-given in
    let head = seen_by c.loop-given.merge c.in-Some.tagged _ (all g at) _ c.loop-given.invariant.queries
    c.requires.queries (at_some _ _ _ c.in-Some.is c.in_ok-tagged.ensures.found).0 in
    first_left (IsMember (all g at) c.args.tables.now) (line g at) itself c.args.merge.now.rest
    c.loop-given._given _ _ _ c.loop-given.invariant.given.all head

pub returns-in_err-print_member : goal.returns-in_err-print_member
returns-in_err-print_member g c =
    let at = (goal.at.returns-in_err-print_member g c).At-loop-given in
    let found = at_some _ _ _ c.in-Some.is c.in_ok-tagged.ensures.found in
    let below = limit_below c.args.limit c.loop-given._given _ _ c.unwrap_or-most.ensures c.loop-given-test.true in
    let low = limit_within c.args.limit c.loop-given._given _ _ c.unwrap_or-most.ensures c.loop-given-test.true in
    let part = c.print_member.ensures.prefix in
    record {
      printed =
          let head = seen_by c.loop-given.merge c.in-Some.tagged _ (all g at) _ c.loop-given.invariant.queries
          c.requires.queries found.0 in
          handed_on (Printed _ _ _) c.from_residual-in_err-print_member.result c.in_err-print_member.field-0.0 c.from_residual-in_err-print_member.ensures.1
          (cut_short (IsMember (all g at) c.args.tables.now) (line g at) itself c.args.merge.now.rest
          c.loop-given._given (tagged 0 []) _ c.loop-given.merge.rest _ c.loop-given.invariant.given.rest head c.args.limit (state_of g.S.Sink c.args.out.now) (state_of g.S.Sink c.loop-given.out) (state_of g.S.Sink c.print_member.new.out) c.in_err-print_member.field-0.0 below
          c.loop-given.invariant.given c.in_err-print_member.ensures);
      paced =
          paced_next g.E.Ranked.share g.met.E.Ranked.share_rises (all g at) c.args.tables.now (line g at) c.args.merge.now c.args.limit c.loop-given._given
          c.loop-given.merge (state_of g.S.Sink c.args.out.now) (state_of g.S.Sink c.loop-given.out) c.args.steps.now c.loop-given.steps c.loop-given.invariant _ _ _ _ found.0 found.1 below low _ part.0 part.1;
    }

pub loop-given-preserved : goal.loop-given-preserved
loop-given-preserved g c =
    let at = (goal.at.loop-given-preserved g c).At-loop-given in
    let found = at_some _ _ _ c.in-Some.is c.in_ok-tagged.ensures.found in
    let head = seen_by c.loop-given.merge c.in-Some.tagged _ (all g at) _ c.loop-given.invariant.queries
    c.requires.queries found.0 in
    let printed = c.in_ok-print_member.ensures in
    printed_more g.E.Ranked.share g.met.E.Ranked.share_rises (all g at) c.args.tables.now (line g at) c.args.merge.now c.args.limit
    c.loop-given._given
    c.loop-given.merge (state_of g.S.Sink c.args.out.now) (state_of g.S.Sink c.loop-given.out) c.args.steps.now c.loop-given.steps c.loop-given.invariant _ _ _ _ head found.1 _ refl printed.whole printed.later

pub returns-then-is_none : goal.returns-then-is_none
returns-then-is_none g c =
    let at = (goal.at.returns-then-is_none g c).At-loop-given in
    let low = none_within c.args.limit c.args.limit c.loop-given._given refl c.if-is_none.ensures in
    record {
      printed =
          stopped_short (IsMember (all g at) c.args.tables.now) (line g at) itself c.args.merge.now.rest
          c.loop-given._given c.args.limit c.loop-given.merge.rest (state_of g.S.Sink c.args.out.now) (state_of g.S.Sink c.loop-given.out) low c.loop-given.invariant.given;
      paced =
          paced_same g.E.Ranked.share g.met.E.Ranked.share_rises (all g at) c.args.tables.now (line g at) c.args.merge.now c.args.limit c.loop-given._given
          c.loop-given.merge (state_of g.S.Sink c.args.out.now) (state_of g.S.Sink c.loop-given.out) c.args.steps.now c.loop-given.steps c.loop-given.invariant low;
    }

pub returns : goal.returns
returns g c =
    let at = (goal.at.returns g c).At-loop-given in
    let reached = limit_reached c.args.limit c.loop-given._given _ _ c.unwrap_or-most.ensures c.if-is_none.ensures c.loop-given-test.false c.loop-given.auto._given-end in
    record {
      printed =
          printed_limit (IsMember (all g at) c.args.tables.now) (line g at) itself c.args.merge.now.rest
          c.loop-given._given c.args.limit c.loop-given.merge.rest (state_of g.S.Sink c.args.out.now) (state_of g.S.Sink c.loop-given.out) reached c.loop-given.invariant.given;
      paced =
          paced_same g.E.Ranked.share g.met.E.Ranked.share_rises (all g at) c.args.tables.now (line g at) c.args.merge.now c.args.limit c.loop-given._given
          c.loop-given.merge (state_of g.S.Sink c.args.out.now) (state_of g.S.Sink c.loop-given.out) c.args.steps.now c.loop-given.steps c.loop-given.invariant (reached_within c.args.limit c.loop-given._given reached);
    }
