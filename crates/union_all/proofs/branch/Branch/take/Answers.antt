use Rattle.std.proofs.Common.{◌≡◌, ◌≤◌, ◌+◌, ◌∷◌, ◌++◌, ◌∙◌, ℕ, List, Option, [], ap, length, refl, subst, sym, take, arith}
use Rattle.std.proofs.lemmas.Result.{IfOk-from_err}
use Rattle.tdp_core.specs.AnswerView.{AnswerView}
use Rattle.witness_key.specs.WitnessKey.{combinations_in}
use Rattle.union_all.specs.Merge.{BranchView, EngineView, HasCalled, first_of}
use Rattle.union_all.proofs.Heads.{head_taken, next_told, none_at_hand}
use Rattle.union_all.proofs.Stepping.{on_error}
use Rattle.union_all.proofs.branch.Branch.take.Goals as goal

at_most_more : (n k : ℕ) → n ≤ n + k
at_most_more n k = omega arith

within_share : (steps old due share : ℕ) → steps ≤ old + due → due ≤ share → steps ≤ old + share
within_share steps old due share h k = omega (arith, h, k)

pub returns-in_default : goal.returns-in_default
returns-in_default g c =
    let inside = c.self.inside in
    record {
      found = tt;
      end = (subst (λ (v : BranchView). v.left ≡ []) c.self.view_is (none_at_hand inside.query.now.query inside.head (g.E.Ranked.rest inside.engine) c.in_default.is c.self.invariant), refl, refl);
      refused = tt;
      bound = refl;
      cost = at_most_more _ _;
      share = at_most_more _ _;
    }

pub returns-in_err-next : goal.returns-in_err-next
returns-in_err-next g c =
    let inside = c.self.inside in
    let query = inside.query.now.query in
    let engine : EngineView = record { calls = g.E.Ranked.calls c.next.new.self; due = g.E.Ranked.due c.next.new.self; size = g.E.Ranked.size c.next.new.self } in
    let left : List (List ℕ) = first_of (length query.items) inside.head ++ combinations_in query (g.E.Ranked.rest c.next.new.self) in
    record {
      found = IfOk-from_err c.from_residual.result _ c.from_residual.ensures.0;
      end = IfOk-from_err c.from_residual.result _ c.from_residual.ensures.0;
      refused =
          on_error c.from_residual.result _ (subst (λ (v : BranchView). (left ≡ v.left) × HasCalled v.engine engine) c.self.view_is (
            ap (λ (rest : List AnswerView). first_of (length query.items) inside.head ++ combinations_in query rest) c.in_err-next.ensures.refused,
            record { calls = c.next.ensures.counted; size = c.next.ensures.size },
          ));
      bound = ap (λ (v : BranchView). v.bound) c.self.view_is;
      cost = subst (λ (v : BranchView). c.next.new.steps ≤ c.args.steps.now + v.engine.due) c.self.view_is c.next.ensures.cost;
      share =
          subst (λ (v : BranchView). c.next.new.steps ≤ c.args.steps.now + g.E.Ranked.share v.engine.size v.engine.calls) c.self.view_is
          (within_share _ _ _ _ c.next.ensures.cost (g.met.E.Ranked.due_within inside.engine));
    }

pub returns : goal.returns
returns g c =
    let inside = c.self.inside in
    let query = inside.query.now.query in
    let engine : EngineView = record { calls = g.E.Ranked.calls c.next.new.self; due = g.E.Ranked.due c.next.new.self; size = g.E.Ranked.size c.next.new.self } in
    let after : List (List ℕ) = combinations_in query (g.E.Ranked.rest c.next.new.self) in
    let told = c.in_ok-next.ensures in
    let left : combinations_in query (g.E.Ranked.rest inside.engine) ≡ first_of (length query.items) c.rows_of-self-inside.result ++ after =
    next_told query _ _ c.in_ok-next.next _ _ told.found told.end
    ∙ ap (λ (head : Option (List ℕ)). first_of (length query.items) head ++ after) (sym c.rows_of-self-inside.ensures) in
    record {
      found =
          subst
          (λ (v : BranchView). (v.left ≡ take (length v.bound.query.items) c.in-Some.rows ∷ (first_of (length query.items) c.rows_of-self-inside.result ++ after)) × HasCalled v.engine engine)
          c.self.view_is (
            head_taken query inside.head c.in-Some.rows (g.E.Ranked.rest inside.engine) _ c.in-Some.is left,
            record { calls = c.next.ensures.counted; size = c.next.ensures.size },
          );
      end = tt;
      refused = tt;
      bound = ap (λ (v : BranchView). v.bound) c.self.view_is;
      cost = subst (λ (v : BranchView). c.next.new.steps ≤ c.args.steps.now + v.engine.due) c.self.view_is c.next.ensures.cost;
      share =
          subst (λ (v : BranchView). c.next.new.steps ≤ c.args.steps.now + g.E.Ranked.share v.engine.size v.engine.calls) c.self.view_is
          (within_share _ _ _ _ c.next.ensures.cost (g.met.E.Ranked.due_within inside.engine));
    }
