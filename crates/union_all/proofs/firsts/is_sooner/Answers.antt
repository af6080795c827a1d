use Rattle.std.proofs.Common.{◌≡◌, ◌<◌, ◌+◌, ◌∙◌, ℕ, Option, Some, if◌then◌else◌, length, sym, ap, subst, arith}
use Rattle.anyk_model.specs.TaggedRows.{branch_at}
use Rattle.union_all.specs.Firsts.{IsFirstBranch}
use Rattle.union_all.specs.Merge.{lists_of, queries_of}
use Rattle.bound_query.specs.WeighedQuery.{BoundQuery}
use Rattle.union_all.proofs.Branches.{head_at, head_fits, less_told, list_at, query_at, query_fits}
use Rattle.union_all.proofs.Sooner.{compared_first, first_here, first_of, none_here, not_empty}
use Rattle.union_all.proofs.firsts.is_sooner.Goals as goal

earlier : (f b n : ℕ) → f < b → b < n → f < n
earlier f b n h k = omega (arith, h, k)

pub returns-in_default : goal.returns-in_default
returns-in_default g c =
    let branches = c.args.branches.now in
    none_here (queries_of branches) c.args.tables.now (lists_of branches) c.args.b c.args.first
    (list_at branches c.args.b c.requires.inside c.index-branches-b.result c.index-branches-b.is ∙ (rw c.in_default.is at c.head.ensures)) c.requires.first

pub returns-in_default-first : goal.returns-in_default-first
returns-in_default-first g c =
    let branches = c.args.branches.now in
    let here = rw c.in-Some.is at c.head.ensures in
    first_here (queries_of branches) c.args.tables.now (lists_of branches) c.args.b _ here.0
    (head_at branches c.args.b c.requires.inside c.index-branches-b.result c.index-branches-b.is c.in-Some.rows here.0 here.1) (rw c.in_default-first.is at c.requires.first)

pub offset_bounds-branches-first : goal.offset_bounds-branches-first
offset_bounds-branches-first g c =
    let was = subst (λ (o : Option ℕ). IsFirstBranch (queries_of c.args.branches.now) c.args.tables.now (lists_of c.args.branches.now) c.args.b o) c.in-Some-first.is c.requires.first in
    omega (arith, was.inside, c.requires.inside)

pub bounds-branches-first : goal.bounds-branches-first
bounds-branches-first g c =
    let was = subst (λ (o : Option ℕ). IsFirstBranch (queries_of c.args.branches.now) c.args.tables.now (lists_of c.args.branches.now) c.args.b o) c.in-Some-first.is c.requires.first in
    omega (arith, was.inside, c.requires.inside)

pub returns-in_default-head : goal.returns-in_default-head
returns-in_default-head g c =
    let branches = c.args.branches.now in
    let f = c.in-Some-first.first in
    let was = subst (λ (o : Option ℕ). IsFirstBranch (queries_of branches) c.args.tables.now (lists_of branches) c.args.b o) c.in-Some-first.is c.requires.first in
    let none = list_at branches f (earlier _ _ _ was.inside c.requires.inside) c.index-branches-first.result c.index-branches-first.is ∙ (rw c.in_default-head.is at c.head-2.ensures) in
    absurd (not_empty _ _ _ was.is_first none)

pub has_less_sums-requires-clause-fits : goal.has_less_sums-requires-clause-fits
has_less_sums-requires-clause-fits g c =
    query_fits c.args.branches.now c.args.b c.requires.inside c.index-branches-b.result c.index-branches-b.is c.args.tables.now c.requires.branches c.query.result.now c.query.ensures

pub has_less_sums-requires-clause-other_fits : goal.has_less_sums-requires-clause-other_fits
has_less_sums-requires-clause-other_fits g c =
    let branches = c.args.branches.now in
    let was = subst (λ (o : Option ℕ). IsFirstBranch (queries_of branches) c.args.tables.now (lists_of branches) c.args.b o) c.in-Some-first.is c.requires.first in
    query_fits branches c.in-Some-first.first (earlier _ _ _ was.inside c.requires.inside) c.index-branches-first.result c.index-branches-first.is
    c.args.tables.now c.requires.branches c.query-2.result.now c.query-2.ensures

pub has_less_sums-requires-clause-other_rows : goal.has_less_sums-requires-clause-other_rows
has_less_sums-requires-clause-other_rows g c =
    let branches = c.args.branches.now in
    let was = subst (λ (o : Option ℕ). IsFirstBranch (queries_of branches) c.args.tables.now (lists_of branches) c.args.b o) c.in-Some-first.is c.requires.first in
    let there = rw c.in-Some-head.is at c.head-2.ensures in
    head_fits branches c.in-Some-first.first (earlier _ _ _ was.inside c.requires.inside) c.index-branches-first.result c.index-branches-first.is c.args.tables.now c.requires.branches
    c.in-Some-head.other_rows there.0 there.1 c.query-2.result.now c.query-2.ensures

pub has_less_sums-requires-clause-rows : goal.has_less_sums-requires-clause-rows
has_less_sums-requires-clause-rows g c =
    let here = rw c.in-Some.is at c.head.ensures in
    head_fits c.args.branches.now c.args.b c.requires.inside c.index-branches-b.result c.index-branches-b.is c.args.tables.now c.requires.branches c.in-Some.rows here.0 here.1
    c.query.result.now c.query.ensures

pub returns : goal.returns
returns g c =
    let branches = c.args.branches.now in
    let queries = queries_of branches in
    let tables = c.args.tables.now in
    let lists = lists_of branches in
    let f = c.in-Some-first.first in
    let was = subst (λ (o : Option ℕ). IsFirstBranch queries tables lists c.args.b o) c.in-Some-first.is c.requires.first in
    let inside : f < length branches = earlier _ _ _ was.inside c.requires.inside in
    let here = rw c.in-Some.is at c.head.ensures in
    let there = rw c.in-Some-head.is at c.head-2.ensures in
    let own = head_at branches c.args.b c.requires.inside c.index-branches-b.result c.index-branches-b.is c.in-Some.rows here.0 here.1 in
    let other = head_at branches f inside c.index-branches-first.result c.index-branches-first.is c.in-Some-head.other_rows there.0 there.1 in
    let one : c.query.result.now.query ≡ branch_at queries c.args.b =
    ap (λ (q : BoundQuery). q.query) c.query.ensures ∙ sym (query_at branches c.args.b c.requires.inside c.index-branches-b.result c.index-branches-b.is) in
    let two : c.query-2.result.now.query ≡ branch_at queries f =
    ap (λ (q : BoundQuery). q.query) c.query-2.ensures ∙ sym (query_at branches f inside c.index-branches-first.result c.index-branches-first.is) in
    let less = less_told tables c.in-Some.rows c.in-Some-head.other_rows _ _ (branch_at queries c.args.b) (branch_at queries f) c.has_less_sums.result c.has_less_sums.ensures one two in
    subst (λ (o : Option ℕ). IsFirstBranch queries tables lists (c.args.b + 1) (if c.has_less_sums.result then Some c.args.b else o)) (sym c.in-Some-first.is)
    (compared_first queries tables lists c.args.b _ here.0 own f was c.has_less_sums.result _ (first_of _ _ _ _ _ was.is_first other) less)
