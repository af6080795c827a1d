use Rattle.std.proofs.Common.{◌≡◌, ℕ, List, [], ◌∷◌, ◌++◌, if◌then◌else◌, map, subst}
use Rattle.std.proofs.lemmas.Result.{IfOk-from_err}
use Rattle.proof_check.specs.Levels.{IsPairAt}
use Rattle.proof_check.specs.PairKeys.{pair_of}
use Rattle.proof_check.proofs.PairKeys.{pair_new, pair_stands, pairs_after}
use Rattle.proof_check.proofs.taken_rows.TakenRows.insert.Goals as goal

pub returns-in_err-insert_full : goal.returns-in_err-insert_full
returns-in_err-insert_full c = record {
  added = IfOk-from_err c.from_residual.result _ c.from_residual.ensures.0;
  stands = IfOk-from_err c.from_residual.result _ c.from_residual.ensures.0;
  new = IfOk-from_err c.from_residual.result _ c.from_residual.ensures.0;
}

pub returns : goal.returns
returns c = record {
  added =
      subst (λ (ks : List (ℕ × ℕ)). map pair_of c.insert_full.new.self.keys ≡ (if c.in_ok-insert_full.field-0.1 then ks ++ (c.args.number, c.args.row) ∷ [] else ks))
      c.self.view_is
      (pairs_after _ _ (c.args.number, c.args.row) c.in-Some.ensures.key _ c.in_ok-insert_full.ensures.keys _ c.in_ok-insert_full.ensures.added);
  stands =
      let s = c.in_ok-insert_full.ensures.stored in
      pair_stands _ _ (c.args.number, c.args.row) c.in-Some.ensures.key _ c.in_ok-insert_full.ensures.keys c.in_ok-insert_full.field-0.0 s.0 s.1 s.2;
  new = λ is.
      subst (λ (ks : List (ℕ × ℕ)). (k : ℕ) → IsPairAt ks k (c.args.number, c.args.row) → ⊥) c.self.view_is
      (pair_new _ _ (c.args.number, c.args.row) c.in-Some.ensures.key _ c.in_ok-insert_full.ensures.keys _ c.in_ok-insert_full.ensures.added is);
}
