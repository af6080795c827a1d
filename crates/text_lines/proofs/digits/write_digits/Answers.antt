use Rattle.std.proofs.Common.{◌≡◌, ◌+◌, ◌-◌, ◌/◌, ◌∷◌, [], suc, ap, ◌∙◌, subst, drop, decimal, false, arith, rules}
use Rattle.std.specs.Fmt.{digits, digits_onto}
use Rattle.std.proofs.lemmas.Grind.{common_steps}
use Rattle.text_lines.proofs.DigitSteps.{digit_put, last_digit, more_digits, smaller}
use Rattle.text_lines.proofs.digits.write_digits.Goals as goal

pub digits-init : goal.digits-init
unfolding digits
digits-init c =
    let none : drop 20 c.args.digits.now ≡ [] = grind (arith, common_steps) in
    record {
      within = search rules;
      some = search rules;
      small = search rules;
      digits = ap (λ acc. digits_onto 64 10 false c.args.number acc) none;
    }

pub returns-then-rest-eq0-clause-digits : goal.returns-then-rest-eq0-clause-digits
returns-then-rest-eq0-clause-digits c =
    let fuel : 44 + c.digits.at ≡ suc (44 + (c.digits.at - 1)) = omega arith in
    let put = digit_put c.digits.digits c.digits.at c.digit.result c.digits-test.true (omega arith) in
    put ∙ ap (λ d. d ∷ drop c.digits.at c.digits.digits) c.digit.ensures
    ∙ last_digit (44 + (c.digits.at - 1)) c.digits.rest _ _ (subst (λ k. digits_onto k 10 false c.digits.rest (drop c.digits.at c.digits.digits) ≡ decimal c.args.number) fuel c.digits.invariant.digits) (search rules)

pub digits-preserved : goal.digits-preserved
digits-preserved c =
    let fuel : 44 + c.digits.at ≡ suc (44 + (c.digits.at - 1)) = omega arith in
    let put = digit_put c.digits.digits c.digits.at c.digit.result c.digits-test.true (omega arith) in
    record {
      within = search rules;
      some = search rules;
      small = smaller c.digits.rest c.digits.at c.digits-test.true c.digits.invariant.small;
      digits = ap (digits_onto (44 + (c.digits.at - 1)) 10 false (c.digits.rest / 10)) (put ∙ ap (λ d. d ∷ drop c.digits.at c.digits.digits) c.digit.ensures)
          ∙ more_digits (44 + (c.digits.at - 1)) c.digits.rest _ _ (subst (λ k. digits_onto k 10 false c.digits.rest (drop c.digits.at c.digits.digits) ≡ decimal c.args.number) fuel c.digits.invariant.digits) c.if-rest-eq0.false;
    }
