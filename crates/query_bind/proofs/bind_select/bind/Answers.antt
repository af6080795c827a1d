use Rattle.std.proofs.Common.{◌≡◌, ◌∙◌, ℕ, List, Option, Result, Ok, Err, None, refl, inl, sym, ap, subst}
use Rattle.std.specs.Prelude.{IfOk, OnOk, IfErr}
use Rattle.std.specs.Option.{option_or}
use Rattle.std.proofs.lemmas.Result.{err_from_is_err_and}
use Rattle.anyk_model.specs.Query.{Query}
use Rattle.anyk_model.specs.Table.{Table}
use Rattle.bound_query.specs.WeighedQuery.{BoundQuery, Fits}
use Rattle.query_select.specs.declared.select.Select.{Select}
use Rattle.query_select.specs.TextOrder.{AreInTextOrder, columns_of}
use Rattle.query_bind.specs.Answers.{IsBindFault}
use Rattle.query_bind.specs.Bind.{bind_fault, HasBinding}
use Rattle.query_bind.specs.Binding.{bound_query}
use Rattle.query_bind.specs.Names.{items_of, names_fault}
use Rattle.query_bind.specs.TextOrder.{IsFirstFailing, IsReferenceFault}
use Rattle.query_bind.specs.WeightFaults.{range_fault, weights_fault}
use Rattle.query_bind.specs.declared.fault.BindFault.{BindFault}
use Rattle.query_bind.proofs.Collect.{option_or_none, tells_before}
use Rattle.query_bind.proofs.SoundWeights.{keys_in_range, keys_weigh}
use Rattle.query_bind.proofs.TextOrder.{earliest}
use Rattle.query_bind.proofs.bind_select.bind.Goals as goal

-- what a result of binding says
record Says (select : Select) (tables : List Table) (which : List ℕ) (r : Result BoundQuery BindFault) : Type 0 where
  query : IfOk r (λ q. q.query ≡ bound_query select tables which)
  fits : IfOk r (λ q. Fits q tables)
  sound : OnOk r (bind_fault select tables which ≡ None)
  fault : IfErr r (IsBindFault (bind_fault select tables which))
  first : IfErr r (λ e. IsReferenceFault e → AreInTextOrder (columns_of select) → IsFirstFailing tables (items_of select.items which) (columns_of select) e)

says : (select : Select) (tables : List Table) (which : List ℕ) (r : Result BoundQuery BindFault) → HasBinding select tables which r → Says select tables which r
says select tables which (Ok q) h = record { query = h.query; fits = h.fits; sound = h.sound; fault = tt; first = tt }
says select tables which (Err e) h = record { query = tt; fits = tt; sound = tt; fault = h; first = earliest select tables which e h }

-- the first fault of the weights of a query, or of their range
abbrev weights_faults : List Table → Query → Option BindFault
weights_faults tables q = option_or (weights_fault tables q.items q.order) (range_fault tables q.items q.order)

pub returns-in_err-selection : goal.returns-in_err-selection
returns-in_err-selection c =
    let p = err_from_is_err_and c.from_residual.result c.from_residual.ensures.1 in
    let tables = c.args.tables.now in
    let select = c.args.select.now in
    let which = c.args.which.now in
    let h : HasBinding select tables which c.from_residual.result =
    rw (p.1, p.2) (tells_before (names_fault tables (items_of select.items which) select) (weights_faults tables (bound_query select tables which)) c.in_err-selection.field-0.0 c.in_err-selection.ensures) in
    let s = says select tables which c.from_residual.result h in
    record { query = s.query; fits = s.fits; sound = s.sound; fault = s.fault; earliest = s.first }

pub returns-in_err-weighed : goal.returns-in_err-weighed
returns-in_err-weighed c =
    let p = err_from_is_err_and c.from_residual-in_err-weighed.result c.from_residual-in_err-weighed.ensures.1 in
    let tables = c.args.tables.now in
    let select = c.args.select.now in
    let which = c.args.which.now in
    let e = c.in_err-weighed.field-0.0 in
    let names = c.in_ok-selection.ensures in
    let told = subst (λ (q : Query). IsBindFault (weights_faults tables q) e) names.query c.in_err-weighed.ensures in
    let h : HasBinding select tables which c.from_residual-in_err-weighed.result =
    rw (p.1, p.2) (subst (λ (o : Option BindFault). IsBindFault (option_or o (weights_faults tables (bound_query select tables which))) e) (sym names.sound) told) in
    let s = says select tables which c.from_residual-in_err-weighed.result h in
    record { query = s.query; fits = s.fits; sound = s.sound; fault = s.fault; earliest = s.first }

pub returns-in_err-variables : goal.returns-in_err-variables
returns-in_err-variables c =
    let p = err_from_is_err_and c.from_residual-in_err-variables.result c.from_residual-in_err-variables.ensures.1 in
    let tables = c.args.tables.now in
    let select = c.args.select.now in
    let which = c.args.which.now in
    let h : HasBinding select tables which c.from_residual-in_err-variables.result = rw (p.1, p.2) (inl refl) in
    let s = says select tables which c.from_residual-in_err-variables.result h in
    record { query = s.query; fits = s.fits; sound = s.sound; fault = s.fault; earliest = s.first }

pub returns : goal.returns
returns c =
    let tables = c.args.tables.now in
    let select = c.args.select.now in
    let which = c.args.which.now in
    let query : Query = c.in_ok-selection.selection in
    let names = c.in_ok-selection.ensures in
    let weights = c.in_ok-weighed.ensures in
    let faults = option_or_none (weights_fault tables query.items query.order) (range_fault tables query.items query.order) weights.1 in
    let structure = c.in_ok-variables.ensures.0 in
    let filters = c.in_ok-variables.ensures.1 in
    record {
      query = ap (λ (b : BoundQuery). b.query) c.new.ensures ∙ names.query;
      fits = subst (λ (b : BoundQuery). Fits b tables) (sym c.new.ensures) (record {
        some = names.some;
        within = names.within;
        weights = keys_weigh tables query.items query.order faults.0;
        range = keys_in_range tables query.items query.order faults.1;
        weighed = weights.0;
        variables = structure.variables;
        few = structure.few;
        listed = structure.listed;
        lists = structure.lists;
        filtered = filters.filtered;
        filters = filters.filters;
      });
      sound = ap (λ (o : Option BindFault). option_or o (weights_faults tables (bound_query select tables which))) names.sound
          ∙ ap (weights_faults tables) (sym names.query) ∙ weights.1;
      fault = tt;
      earliest = tt;
    }
