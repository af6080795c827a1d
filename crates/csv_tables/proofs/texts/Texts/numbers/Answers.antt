use Rattle.std.proofs.Common.{◌≡◌, ◌<◌, ◌+◌, ◌∷◌, ◌++◌, [], ◌∙◌, sym, ap, subst, take, length, get_or, arith, List, ℕ}
use Rattle.std.proofs.lemmas.List.{take_all, take_more}
use Rattle.std.proofs.lemmas.Result.{IfOk-from_err}
use Rattle.table_store.specs.Values.{Extends, StandsFor, with_field, with_fields}
use Rattle.table_store.proofs.Stands.{extends_same, extends_trans, on_err, stands_more, stands_push, with_field_extends, with_fields_extends, with_fields_push}
use Rattle.csv_tables.proofs.Refusals.{none_on_ok}
use Rattle.csv_tables.proofs.texts.Texts.numbers.Goals as goal

pub returns-in_err-reserve : goal.returns-in_err-reserve
returns-in_err-reserve c =
    let r = c.from_residual.result in
    let e = c.from_residual.ensures.0 in
    record { texts = none_on_ok r _ e; numbers = IfOk-from_err r _ e; err = on_err r (extends_same c.args.self.now) }

pub returns-in_err-number : goal.returns-in_err-number
returns-in_err-number c =
    let old = c.args.self.now in
    let before = with_fields_extends old (take c.loop-place.place c.args.fields.now) in
    let here : Extends old c.loop-place.self = (before.0, c.loop-place.invariant.0 ∙ before.1) in
    let r = c.from_residual-in_err-number.result in
    let e = c.from_residual-in_err-number.ensures.0 in
    record {
      texts = none_on_ok r _ e;
      numbers = IfOk-from_err r _ e;
      err = on_err r (extends_trans old c.loop-place.self c.number.new.self here c.in_err-number.ensures.err);
    }

pub returns : goal.returns
returns c =
    let fields = c.args.fields.now in
    let all = take_all c.loop-place.place fields (rw c.len-place-end.ensures at c.loop-place-test.false) in
    record {
      texts = c.loop-place.invariant.0 ∙ ap (with_fields c.args.self.now) all;
      numbers = subst (StandsFor c.loop-place.self c.loop-place.cells.items) all c.loop-place.invariant.1;
      err = tt;
    }

pub loop-place-preserved : goal.loop-place-preserved
loop-place-preserved c =
    let old = c.args.self.now in
    let before = c.loop-place.self in
    let new = c.number.new.self in
    let place = c.loop-place.place in
    let fields = take place c.args.fields.now in
    let field = get_or c.args.fields.now place [] in
    let inside : place < length c.args.fields.now = omega (arith, c.loop-place-test.true, c.len-place-end.ensures) in
    let step : take (place + 1) c.args.fields.now ≡ fields ++ field ∷ [] = take_more c.args.fields.now place [] inside in
    let here = with_field_extends before field in
    let more : Extends before new = (here.0, c.in_ok-number.ensures.texts ∙ here.1) in
    rw (step, c.push_reserved.ensures.items) (
      c.in_ok-number.ensures.texts ∙ ap (λ t. with_field t field) c.loop-place.invariant.0 ∙ sym (with_fields_push old fields field),
      stands_push new c.loop-place.cells.items fields c.in_ok-number.field-0 field
          (stands_more before new c.loop-place.cells.items fields more c.loop-place.invariant.1) c.in_ok-number.ensures.number,
      omega (arith, c.loop-place.invariant.2, c.push_reserved.ensures.len, c.push_reserved.ensures.capacity),
    )
