-- Faults that tell the first flaw.
use Rattle.std.proofs.Common.{◌≡◌, ℕ, Result, Ok, Err, IfErr, List, refl, sym, subst, inl, inr}
use Rattle.std.specs.Result.{IsErrAnd}
use Rattle.anyk_model.specs.Table.{Table}
use Rattle.anyk_model.specs.Query.{Query}
use Rattle.join_tree.specs.declared.tree.JoinTree.{JoinTree}
use Rattle.bound_query.specs.Shape.{IsShape, Shape}
use Rattle.proof_model.specs.Certificate.{Certificate}
use Rattle.proof_model.specs.declared.fault.ProofFault.{ProofFault}
use Rattle.proof_model.specs.Faults.{TellsFlaw}
use Rattle.proof_model.specs.QueryProblem.{problem_in}
use Rattle.proof_model.specs.Valid.{IsFirstFlaw, no_answer, not_in_order}
use Rattle.proof_check.specs.Solutions.{IsFirstBad, IsFirstBehind, TellsBad, TellsBehind}

-- what is told of the fault that `?` hands on
pub told_err : {T : Type 0} (r : Result T ProofFault) (x : ProofFault) (P : ProofFault → Type 0)
    → IsErrAnd r (λ e. e ≡ x) → P x → IfErr r P
told_err (Ok y) x P is told = tt
told_err (Err e) x P is told = subst P (sym is) told

module _ (query : Query) (tables : List Table) (join : JoinTree) (c : Certificate) (shape : Shape)
    (is_shape : IsShape query tables (Ok shape)) (told : ProofFault) where
  pub tells_bad : TellsBad (problem_in query tables join) c told
      → ((i : ℕ) → IsFirstBad (problem_in query tables join) c i
      → IsFirstFlaw (problem_in query tables join) c query.limit (no_answer i))
      → TellsFlaw query tables join c told
  tells_bad (inl e) first = subst (TellsFlaw query tables join c) (sym e) tt
  tells_bad (inr h) first = subst (TellsFlaw query tables join c) (sym h.1) (shape, is_shape, no_answer h.0, refl, first h.0 h.2)

  pub tells_behind : TellsBehind (problem_in query tables join) c told
      → ((i : ℕ) → IsFirstBehind (problem_in query tables join) c i
      → IsFirstFlaw (problem_in query tables join) c query.limit (not_in_order i))
      → TellsFlaw query tables join c told
  tells_behind h first = subst (TellsFlaw query tables join c) (sym h.1) (shape, is_shape, not_in_order h.0, refl, first h.0 h.2)
