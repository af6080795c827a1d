use Rattle.std.proofs.Common.{subst}
use Rattle.plan_build.specs.RankedPlan.{IsRankedPlan, fixed_key, key_of_packed, key_of_wide_packed}
use Rattle.plan_build.proofs.Rooted.{whole_of}
use Rattle.plan_tests.proofs.reports.is_reported.Goals as goal

pub has_report-requires : goal.has_report-requires
has_report-requires c =
    let query = c.args.query.now in
    let tables = c.args.tables.now in
    let item = c.requires.plan.0 in
    record { plan = whole_of 1 key_of_packed query tables item c.in-Packed.plan (subst (IsRankedPlan query tables item) c.in-Packed.is c.requires.plan.1) }

pub has_report-requires-in-WidePacked : goal.has_report-requires-in-WidePacked
has_report-requires-in-WidePacked c =
    let query = c.args.query.now in
    let tables = c.args.tables.now in
    let item = c.requires.plan.0 in
    record { plan = whole_of 1 key_of_wide_packed query tables item c.in-WidePacked.plan (subst (IsRankedPlan query tables item) c.in-WidePacked.is c.requires.plan.1) }

pub has_report-requires-in-MiddleSum : goal.has_report-requires-in-MiddleSum
has_report-requires-in-MiddleSum c =
    let query = c.args.query.now in
    let tables = c.args.tables.now in
    let item = c.requires.plan.0 in
    record { plan = whole_of 1 (fixed_key 1 8) query tables item c.in-MiddleSum.plan (subst (IsRankedPlan query tables item) c.in-MiddleSum.is c.requires.plan.1) }

pub has_report-requires-in-Sum : goal.has_report-requires-in-Sum
has_report-requires-in-Sum c =
    let query = c.args.query.now in
    let tables = c.args.tables.now in
    let item = c.requires.plan.0 in
    record { plan = whole_of 1 (fixed_key 1 16) query tables item c.in-Sum.plan (subst (IsRankedPlan query tables item) c.in-Sum.is c.requires.plan.1) }

pub has_report-requires-in-SmallLex : goal.has_report-requires-in-SmallLex
has_report-requires-in-SmallLex c =
    let query = c.args.query.now in
    let tables = c.args.tables.now in
    let item = c.requires.plan.0 in
    record { plan = whole_of 2 (fixed_key 2 4) query tables item c.in-SmallLex.plan (subst (IsRankedPlan query tables item) c.in-SmallLex.is c.requires.plan.1) }

pub has_report-requires-in-Lex : goal.has_report-requires-in-Lex
has_report-requires-in-Lex c =
    let query = c.args.query.now in
    let tables = c.args.tables.now in
    let item = c.requires.plan.0 in
    record { plan = whole_of 8 (fixed_key 8 16) query tables item c.in-Lex.plan (subst (IsRankedPlan query tables item) c.in-Lex.is c.requires.plan.1) }
