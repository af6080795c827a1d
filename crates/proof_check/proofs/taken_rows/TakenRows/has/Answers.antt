use Rattle.std.proofs.Common.{◌≡◌, ◌↔◌, ℕ, List, IsTrue, true, false, subst, arith}
use Rattle.std.proofs.lemmas.Bool.{false≢true}
use Rattle.proof_check.specs.Levels.{IsPairAt}
use Rattle.proof_check.proofs.PairKeys.{small_number, there}
use Rattle.proof_check.proofs.taken_rows.TakenRows.has.Goals as goal

pub returns-in-Some : goal.returns-in-Some
returns-in-Some c =
    subst (λ (ks : List (ℕ × ℕ)). IsTrue c.contains.result ↔ ((k : ℕ) × IsPairAt ks k (c.args.number, c.args.row))) c.self.view_is
    (there _ _ (c.args.number, c.args.row) c.in-Some.ensures.key _ c.contains.ensures)

pub returns-in-None : goal.returns-in-None
returns-in-None c =
    subst (λ (ks : List (ℕ × ℕ)). false ≡ true ↔ ((k : ℕ) × IsPairAt ks k (c.args.number, c.args.row))) c.self.view_is
    ((λ h. absurd (false≢true h)), (λ h. absurd (let small = small_number _ h.0 _ h.1 in let great = c.in-None.ensures.none in omega (arith, small, great))))
