use Rattle.std.proofs.Common.{◌≡◌, true, refl, sym, ap, subst, ◌∙◌, inl, inr}
use Rattle.tdp_model.specs.KeyNumbers.{key_less}
use Rattle.tdp_model.proofs.KeyNumbers.{key_less_below, not_less_at_most}
use Rattle.std.proofs.lemmas.Option.{same_Some}
use Rattle.proof_check.proofs.deviations.lesser.Goals as goal

pub returns-then-less : goal.returns-then-less
returns-then-less g c =
    let d = g.R.Rank.KEYS in let key = g.R.Rank.key in
    record {
      below = inr refl;
      falls = λ k e. inl (key_less_below d 16 (key c.args.base) (key k)
          (subst (λ z. key_less d 16 (key c.args.base) (key z) ≡ true) (same_Some c.in-Some.known k (sym c.in-Some.is ∙ e))
          (sym c.less.ensures.order ∙ c.if-less.true)));
      one = inl refl;
    }

pub returns-else-less : goal.returns-else-less
returns-else-less g c =
    let d = g.R.Rank.KEYS in let key = g.R.Rank.key in
    record {
      below = not_less_at_most d 16 (key c.args.base) (key c.in-Some.known) (sym c.less.ensures.order ∙ c.if-less.false);
      falls = λ k e. inr (ap key (same_Some c.in-Some.known k (sym c.in-Some.is ∙ e)));
      one = inr c.in-Some.is;
    }
