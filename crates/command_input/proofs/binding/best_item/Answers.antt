use Rattle.std.proofs.Common.{◌≡◌, ◌∙◌, None, Option, Some, Ok, Err, ℕ, List, refl, ap, sym, option_map, position, arith}
use Rattle.std.specs.Str.{bytes_eq}
use Rattle.anyk_model.specs.Query.{Item}
use Rattle.refusals.specs.Reason.{UnionBest, UnknownBest}
use Rattle.verdict.specs.AcceptedInput.{queries_in}
use Rattle.verdict.specs.Loading.{known_item}
use Rattle.command_input.proofs.Best.{best_one, best_several, one_within, shape_refused, shaped}
use Rattle.command_input.proofs.binding.best_item.Goals as goal

named_one : {A B : Type 0} (o : Option A) (x : A) → o ≡ Some x → o ≡ None → B
named_one o x is none = cc

pub returns-in-None : goal.returns-in-None
returns-in-None c = record {
  best =
      let queries = c.args.queries.now in
      let alias = c.in-Some-best_of.alias.now in
      let items = c.index-queries-0.result.query.items in
      let some = c.requires.some in
      let found : None ≡ position (λ (item : Item). bytes_eq item.alias alias) items =
      c.in-None.ensures.first ∙ ap (λ (a : List ℕ). position (λ (item : Item). bytes_eq item.alias a) items) c.as_bytes.ensures.value in
      rw c.in-Some-best_of.is
      (shaped (Some alias) (queries_in queries) (Err UnknownBest) c.in_default.ensures
      (ap known_item found ∙ sym (best_one alias queries c.index-queries-0.result some (omega (arith)) c.index-queries-0.is)));
  item = tt;
  unnamed = λ none. tt;
}

pub returns-then-queries-gt1 : goal.returns-then-queries-gt1
returns-then-queries-gt1 c = record {
  best =
      rw c.in-Some-best_of.is
      (shaped (Some c.in-Some-best_of.alias.now) (queries_in c.args.queries.now) (Err UnionBest) c.in_default.ensures (best_several c.in-Some-best_of.alias.now c.args.queries.now (omega (arith))));
  item = tt;
  unnamed = λ none. tt;
}

pub returns-in-Some-item_of : goal.returns-in-Some-item_of
returns-in-Some-item_of c = record {
  best =
      let queries = c.args.queries.now in
      let alias = c.in-Some-best_of.alias.now in
      let items = c.index-queries-0.result.query.items in
      let some = c.requires.some in
      let found : Some c.in-Some-item_of.item ≡ position (λ (item : Item). bytes_eq item.alias alias) items =
      c.in-Some-item_of.ensures.first ∙ ap (λ (a : List ℕ). position (λ (item : Item). bytes_eq item.alias a) items) c.as_bytes.ensures.value in
      rw c.in-Some-best_of.is
      (shaped (Some alias) (queries_in queries) (Ok (Some c.in-Some-item_of.item)) c.in_default.ensures
      (ap known_item found ∙ sym (best_one alias queries c.index-queries-0.result some (omega (arith)) c.index-queries-0.is)));
  item = one_within c.args.queries.now c.index-queries-0.result c.in-Some-item_of.item c.requires.some (omega (arith)) c.index-queries-0.is c.in-Some-item_of.ensures.within;
  unnamed = λ none. named_one c.args.best_of _ c.in-Some-best_of.is none;
}

pub returns-in-Some : goal.returns-in-Some
returns-in-Some c = record {
  best = shape_refused (option_map (λ alias. alias.now) c.args.best_of) (queries_in c.args.queries.now) c.in-Some.branch c.in-Some.ensures;
  item = tt;
  unnamed = λ none. tt;
}

pub returns-in_default-best_of : goal.returns-in_default-best_of
returns-in_default-best_of c = record {
  best = rw c.in_default-best_of.is (shaped None (queries_in c.args.queries.now) (Ok None) c.in_default.ensures refl);
  item = tt;
  unnamed = λ none. refl;
}
