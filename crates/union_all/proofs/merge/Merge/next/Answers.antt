use Rattle.std.proofs.Common.{◌≡◌, ◌∙◌, ◌∷◌, [], None, List, get_or, length, slice_set, take, refl, sym, ap, subst, arith}
use Rattle.std.proofs.lemmas.List.{length-map}
use Rattle.std.proofs.lemmas.Result.{IfOk-from_err}
use Rattle.anyk_model.specs.Query.{Query}
use Rattle.anyk_model.specs.TaggedRows as union
use Rattle.anyk_model.specs.Union.{left_of}
use Rattle.union_all.specs.Firsts.{IsFirstBranch, tagged_view}
use Rattle.union_all.specs.Merge.{AreBranches, BranchView, IsCalled, MergeView, lists_of, queries_of}
use Rattle.union_all.proofs.Branches.{list_at, query_at}
use Rattle.tdp_core.proofs.OptionFacts.{at_none, at_some}
use Rattle.union_all.proofs.Sooner.{not_empty}
use Rattle.union_all.proofs.Stepping.{branches_kept, branches_taken, first_left, first_told, is_called, merged, none_left, on_error, rest_kept, rest_taken}
use Rattle.union_all.proofs.merge.Merge.next.Goals as goal

pub first_branch-requires : goal.first_branch-requires
first_branch-requires g c = subst (λ (l : List BranchView). AreBranches c.self.inside.tables.now l) (sym c.as_slice.ensures.value) c.self.invariant

pub returns-in_default : goal.returns-in_default
returns-in_default g c =
    let branches = c.self.inside.branches.items in
    let tables = c.self.inside.tables.now in
    let none = subst (λ (l : List BranchView). IsFirstBranch (queries_of l) tables (lists_of l) (length l) None) c.as_slice.ensures.value (rw c.in_default.is at c.first_branch.ensures) in
    let nothing : (merged tables branches).rest ≡ [] = none_left (queries_of branches) tables (lists_of branches) (length branches) (sym (length-map branches (λ (s : BranchView). s.left))) none in
    record {
      found = tt;
      end = (subst (λ (m : MergeView). m.rest ≡ []) c.self.view_is nothing, refl, refl);
      refused = tt;
    }

pub invariant_of-self : goal.invariant_of-self
invariant_of-self g c =
    let branches = c.self.inside.branches.items in
    let tables = c.self.inside.tables.now in
    let h = first_told tables c.as_slice.result.now c.self.inside.branches.items c.first_branch.result c.in-Some.first c.as_slice.ensures.value c.in-Some.is c.first_branch.ensures in
    branches_kept tables branches c.in-Some.first h.inside c.index_mut.result.now c.take.new.self c.index_mut.ensures.value c.take.ensures.bound c.self.invariant (c.in_err-rows.ensures.refused).0

pub returns-in_err-rows : goal.returns-in_err-rows
returns-in_err-rows g c =
    let branches = c.self.inside.branches.items in
    let tables = c.self.inside.tables.now in
    let first = c.in-Some.first in
    let h = first_told tables c.as_slice.result.now branches c.first_branch.result first c.as_slice.ensures.value c.in-Some.is c.first_branch.ensures in
    let x = c.index_mut.result.now in
    let y = c.take.new.self in
    let after = slice_set branches first y in
    let refused = c.in_err-rows.ensures.refused in
    let head = first_left (queries_of branches) tables (lists_of branches) (length branches) first (sym (length-map branches (λ (s : BranchView). s.left))) c.self.invariant.left h in
    let kept = rest_kept tables branches first h.inside x y c.index_mut.ensures.value c.take.ensures.bound c.self.invariant refused.0 in
    let called = is_called tables branches first h.inside x y c.index_mut.ensures.value c.take.ensures.bound g.E.Ranked.share c.args.steps.now c.take.new.steps refused.1 c.take.ensures.cost c.take.ensures.share in
    record {
      found = IfOk-from_err c.from_residual.result _ c.from_residual.ensures.0;
      end = IfOk-from_err c.from_residual.result _ c.from_residual.ensures.0;
      refused =
          on_error c.from_residual.result _ (subst
          (λ (m : MergeView). (t : union.Tagged) × (later : List union.Tagged) × (m.rest ≡ t ∷ later) × ((merged tables after).rest ≡ m.rest) × IsCalled g.E.Ranked.share m (merged tables after) t.branch c.args.steps.now c.take.new.steps)
          c.self.view_is
          (union.tagged first h.rows, left_of (queries_of branches) tables (slice_set (lists_of branches) first h.later), head, kept, called));
    }

-- the branch that was found has an answer left
pub invariant_of-self-in_default-2 : goal.invariant_of-self-in_default-2
invariant_of-self-in_default-2 g c =
    let branches = c.self.inside.branches.items in
    let tables = c.self.inside.tables.now in
    let first = c.in-Some.first in
    let h = first_told tables c.as_slice.result.now branches c.first_branch.result first c.as_slice.ensures.value c.in-Some.is c.first_branch.ensures in
    let none = (at_none _ _ c.in_default-2.is c.in_ok-rows.ensures.end).0 in
    absurd (not_empty (get_or (lists_of branches) first []) h.rows h.later h.is_first (list_at branches first h.inside c.index_mut.result.now c.index_mut.ensures.value ∙ none))

pub returns-in_default-2 : goal.returns-in_default-2
returns-in_default-2 g c =
    let branches = c.self.inside.branches.items in
    let tables = c.self.inside.tables.now in
    let first = c.in-Some.first in
    let h = first_told tables c.as_slice.result.now branches c.first_branch.result first c.as_slice.ensures.value c.in-Some.is c.first_branch.ensures in
    let none = (at_none _ _ c.in_default-2.is c.in_ok-rows.ensures.end).0 in
    record {
      found = tt;
      end = absurd (not_empty (get_or (lists_of branches) first []) h.rows h.later h.is_first (list_at branches first h.inside c.index_mut.result.now c.index_mut.ensures.value ∙ none));
      refused = tt;
    }

pub overflow_cast-result : goal.overflow_cast-result
overflow_cast-result g c =
    let tables = c.self.inside.tables.now in
    let h = first_told tables c.as_slice.result.now c.self.inside.branches.items c.first_branch.result c.in-Some.first c.as_slice.ensures.value c.in-Some.is c.first_branch.ensures in
    omega (arith, h.inside, c.self.invariant.few)

pub invariant_of-self-2 : goal.invariant_of-self-2
invariant_of-self-2 g c =
    let branches = c.self.inside.branches.items in
    let tables = c.self.inside.tables.now in
    let h = first_told tables c.as_slice.result.now c.self.inside.branches.items c.first_branch.result c.in-Some.first c.as_slice.ensures.value c.in-Some.is c.first_branch.ensures in
    branches_taken tables branches c.in-Some.first h.inside c.index_mut.result.now c.take.new.self c.index_mut.ensures.value c.take.ensures.bound c.self.invariant
    _ (at_some _ _ _ c.in-Some-2.is c.in_ok-rows.ensures.found).0

pub returns : goal.returns
returns g c =
    let branches = c.self.inside.branches.items in
    let tables = c.self.inside.tables.now in
    let first = c.in-Some.first in
    let h = first_told tables c.as_slice.result.now branches c.first_branch.result first c.as_slice.ensures.value c.in-Some.is c.first_branch.ensures in
    let x = c.index_mut.result.now in
    let y = c.take.new.self in
    let after = slice_set branches first y in
    let rows = c.in-Some-2.rows in
    let found = at_some _ _ _ c.in-Some-2.is c.in_ok-rows.ensures.found in
    record {
      found =
          let taken : x.left ≡ take (length (union.branch_at (queries_of branches) first).items) rows ∷ y.left =
          found.0 ∙ ap (λ (q : Query). take (length q.items) rows ∷ y.left) (sym (query_at branches first h.inside x c.index_mut.ensures.value)) in
          let head = rest_taken tables branches first h.inside x y c.index_mut.ensures.value c.take.ensures.bound c.self.invariant _ taken h in
          let called = is_called tables branches first h.inside x y c.index_mut.ensures.value c.take.ensures.bound g.E.Ranked.share c.args.steps.now c.take.new.steps found.1 c.take.ensures.cost c.take.ensures.share in
          subst
          (λ (m : MergeView). (m.rest ≡ tagged_view m.queries (record { branch = first; rows = rows }) ∷ (merged tables after).rest) × IsCalled g.E.Ranked.share m (merged tables after) first c.args.steps.now c.take.new.steps)
          c.self.view_is (head, called);
      end = tt;
      refused = tt;
    }
