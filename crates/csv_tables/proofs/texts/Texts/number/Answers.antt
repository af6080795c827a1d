use Rattle.std.proofs.Common.{◌≡◌, ◌<◌, ◌+◌, ℕ, List, Option, Some, None, [], get_or, length, refl, ◌∙◌, ap, subst, sym}
use Rattle.std.proofs.lemmas.Result.{IfOk-from_err}
use Rattle.table_store.specs.Values.{Extends, HasNumber, IsNumber, own_number, text_at, with_text}
use Rattle.table_store.proofs.Stands.{extends_same, on_err, with_field_own, with_field_text, with_text_extends}
use Rattle.csv_tables.proofs.Refusals.{none_on_ok}
use Rattle.csv_tables.proofs.texts.Texts.number.Goals as goal

own_is : (texts : List (List ℕ)) (field : List ℕ) (n : ℕ) → own_number field ≡ Some n → IsNumber texts field n
own_is texts field n own = subst (λ (o : Option ℕ). HasNumber texts o field n) (sym own) refl

placed_is : (texts : List (List ℕ)) (field : List ℕ) (place : ℕ) → own_number field ≡ None → place < length texts → text_at texts place ≡ field
    → IsNumber texts field (2147483648 + place)
placed_is texts field place none within shown =
    subst (λ (o : Option ℕ). HasNumber texts o field (2147483648 + place)) (sym none) (record { place = place; number = refl; within = within; stands = shown })

-- a field that is not its own number
text_is : (o : Option ℕ) (field : List ℕ) → o ≡ own_number field → ((n : ℕ) → o ≡ Some n → ⊥) → own_number field ≡ None
text_is None field is not_some = sym is
text_is (Some n) field is not_some = absurd (not_some n refl)

pub returns-in_err-place : goal.returns-in_err-place
returns-in_err-place c =
    let old = c.args.self.now in
    let r = c.from_residual.result in
    let e = c.from_residual.ensures.0 in
    record { texts = none_on_ok r _ e; number = IfOk-from_err r _ e; err = on_err r (subst (Extends old) (sym c.in_err-place.ensures.err) (extends_same old)) }

pub returns-then-place : goal.returns-then-place
returns-then-place c =
    let more = with_text_extends c.args.self.now c.get.result.now in
    record { texts = tt; number = tt; err = (more.0, c.in_ok-place.ensures.texts ∙ more.1) }

pub returns-in-Some : goal.returns-in-Some
returns-in-Some c =
    let own = sym c.own_number.ensures ∙ c.in-Some.is in
    record {
      texts = sym (with_field_own c.args.self.now (get_or c.args.fields.now c.args.at []) c.in-Some.number own);
      number = own_is c.args.self.now (get_or c.args.fields.now c.args.at []) c.in-Some.number own;
      err = tt;
    }

pub returns : goal.returns
returns c =
    let field = get_or c.args.fields.now c.args.at [] in
    let none = text_is c.own_number.result field c.own_number.ensures c.in_default.not-Some in
    let put = c.in_ok-place.ensures in
    record {
      texts = put.texts ∙ ap (with_text c.args.self.now) c.get.ensures ∙ sym (with_field_text c.args.self.now field none);
      number = placed_is c.put.new.self field c.in_ok-place.place none put.within (put.shown ∙ c.get.ensures);
      err = tt;
    }
