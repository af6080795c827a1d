-- The tree problem of a query is one, and a valid certificate has no flaw.
use Rattle.std.proofs.Common.{◌≡◌, ℕ, ◌+◌, ◌-◌, ◌<◌, List, length, slice_index, refl, sym, ◌∙◌, subst, inl, inr, arith}
use Rattle.std.proofs.Common.{Option}
use Rattle.tdp_model.proofs.KeyTuples.{tuple_keys}
use Rattle.anyk_model.specs.Table.{Table}
use Rattle.anyk_model.specs.Query.{Query}
use Rattle.proof_model.specs.Certificate.{Certificate}
use Rattle.proof_model.specs.Problem.{Problem}
use Rattle.proof_model.specs.QueryProblem.{problem_of}
use Rattle.proof_model.specs.Laws.{IsProblem}
use Rattle.proof_model.specs.Valid.{IsValid, Flaw, no_solution, bound_twice, weak, no_answer, not_in_order}
use Rattle.proof_model.specs.Valid.{wrong_count, missed, Holds, answer_key}

pub query_problem : (query : Query) (tables : List Table) (atoms parents : List ℕ) → 0 < length atoms
    → ((k : ℕ) → 0 < k → k < length atoms → slice_index parents k < k)
    → IsProblem (problem_of query tables atoms parents)
query_problem query tables atoms parents some first = record {
  keys = tuple_keys (length query.order) 16;
  some = some;
  parents_first = first;
  fits_row = λ q above row f. f.0;
  grouped_itself = λ q row. inr (λ a b s l. refl);
  grouped_back = λ q row other g. elim g [ inl z ↦ inl z | inr h ↦ inr (λ a b s l. sym (h a b s l)) ];
  fits_grouped = λ q above row other p f g r. elim g [
    | inl z ↦ absurd (omega (arith, z, p))
    | inr h ↦ (r, λ a b s l. sym (h a b s l) ∙ f.1 a b s l)
  ];
  fits_together = λ q above row other f g. inr (λ a b s l. f.1 a b s l ∙ sym (g.1 a b s l));
}

module _ {K : Type 0} (t : Problem K) (c : Certificate) (limit : Option ℕ) (valid : IsValid t c limit) where
  pub no_flaw : (f : Flaw) → Holds t c limit f → ⊥
  no_flaw (no_solution i) h = let b = valid.bounds i h.0 in h.1 b.0 b.1 b.2
  no_flaw (bound_twice j) h = valid.apart h.0 h.1 j h.2 h.3 h.4 h.5
  no_flaw (weak v) h = h.3 (valid.covered v h.0 h.1 h.2)
  no_flaw (no_answer i) h = h.1 (valid.answers i h.0)
  no_flaw (not_in_order i) h =
      let e : i - 1 + 1 ≡ i = omega (arith, h.0) in
      h.2 (subst (λ z. t.Below (answer_key t c (i - 1)) (answer_key t c z)) e
      (valid.ascending (i - 1) (omega (arith, e, h.1))))
  no_flaw wrong_count h = h valid.count
  no_flaw missed h = h.1 (valid.passed h.0)
