use Rattle.std.proofs.Common.{◌∙◌, [], sym, ap}
use Rattle.std.proofs.lemmas.Option.{get_or_from_slice_get}
use Rattle.std.proofs.lemmas.Result.{IfOk-from_err}
use Rattle.std.proofs.lemmas.Slice.Eq.{bytes_eq-Decides}
use Rattle.table_store.specs.Values.{with_text}
use Rattle.table_store.proofs.Stands.{on_err}
use Rattle.csv_tables.proofs.Refusals.{none_on_ok}
use Rattle.csv_tables.proofs.texts.Texts.put.Goals as goal

pub returns : goal.returns
returns c =
    let stored = c.in_ok-place.ensures.stored in
    record {
      texts = c.in_ok-place.ensures.keys ∙ ap (with_text c.self.inside.set.keys) c.in_ok-text.ensures ∙ ap (λ t. with_text t c.args.text.now) c.self.view_is;
      within = c.in_ok-place.ensures.within;
      shown = get_or_from_slice_get c.insert_full.new.self.keys c.in_ok-place.place stored.0 [] stored.1
          ∙ sym ((bytes_eq-Decides c.in_ok-text.text stored.0).0 stored.2) ∙ c.in_ok-text.ensures;
      err = tt;
    }

pub returns-in_err-place : goal.returns-in_err-place
returns-in_err-place c =
    let r = c.from_residual-in_err-place.result in
    let e = c.from_residual-in_err-place.ensures.0 in
    record {
      texts = none_on_ok r _ e;
      within = IfOk-from_err r _ e;
      shown = IfOk-from_err r _ e;
      err = on_err r (c.in_err-place.ensures.err ∙ c.self.view_is);
    }

pub returns-in_err-text : goal.returns-in_err-text
returns-in_err-text c =
    let r = c.from_residual.result in
    let e = c.from_residual.ensures.0 in
    record {
      texts = none_on_ok r _ e;
      within = IfOk-from_err r _ e;
      shown = IfOk-from_err r _ e;
      err = on_err r (λ _. c.args.self.now);
    }
