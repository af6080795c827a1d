use Rattle.std.proofs.Common.{◌≡◌, ◌<◌, ◌≤◌, ◌+◌, ◌∙◌, ◌∷◌, ◌++◌, [], sym, ap, subst, length, map, take, get_or, arith, ℕ, List, Option}
use Rattle.std.proofs.lemmas.List.{get_or-map, length-map, map-append, take_all, take_more}
use Rattle.std.proofs.lemmas.Result.{err_from_is_err_and}
use Rattle.anyk_model.specs.Query.{OrderKey}
use Rattle.query_bind.specs.Fits.{KeysInside}
use Rattle.query_bind.specs.Measures.{HasKeys}
use Rattle.bound_query.specs.StoredParts.{items_view, key_view}
use Rattle.bound_query.specs.WeighedQuery.{ItemParts, key_parts}
use Rattle.bound_query.specs.WeighedView.{weighed_view}
use Rattle.query_bind.proofs.Measuring.{keys_fault, keys_more, no_fault, no_key_met, one_past}
use Rattle.bound_query.proofs.Lists.{all_at}
use Rattle.query_bind.proofs.weighing.weigh.Goals as goal

pub returns-in_err-sum : goal.returns-in_err-sum
returns-in_err-sum c =
    let p = err_from_is_err_and c.from_residual.result c.from_residual.ensures.1 in
    let keys = c.args.keys.now in
    let i = c.loop-i.i in
    let x = c.index-keys-i.result in
    let inside : i < length (map key_view keys) = omega (arith, length-map keys key_view) in
    let here : get_or (map key_view keys) i (key_view x) ≡ key_view x = get_or-map key_view keys i x (key_view x) c.loop-i-test.true ∙ ap key_view (sym c.index-keys-i.is) in
    rw (p.1, p.2) (keys_fault c.args.tables.now (items_view c.args.items.now) (map key_view keys) i c.loop-i.first c.loop-i.invariant.0
    (key_view x) c.in_err-sum.field-0.0 inside here c.in_err-sum.ensures)

pub loop-i-preserved : goal.loop-i-preserved
loop-i-preserved c =
    let tables = c.args.tables.now in
    let items = items_view c.args.items.now in
    let keys = c.args.keys.now in
    let order = map key_view keys in
    let i = c.loop-i.i in
    let x = c.index-keys-i.result in
    let inside : i < length order = omega (arith, length-map keys key_view) in
    let here : get_or order i (key_view x) ≡ key_view x = get_or-map key_view keys i x (key_view x) c.loop-i-test.true ∙ ap key_view (sym c.index-keys-i.is) in (
      subst (λ (o : Option ℕ). HasKeys tables items order (i + 1) o) (sym c.first_past-first.ensures)
          (keys_more tables items order i c.loop-i.first c.loop-i.invariant.0 (key_view x) c.in_ok-sum.sum inside here c.in_ok-sum.ensures.0.0 c.in_ok-sum.ensures.1),
      λ none.
          let met = no_key_met c.loop-i.first c.in_ok-sum.sum (i + 1) (sym c.first_past-first.ensures ∙ none) in
          let more : take (i + 1) order ≡ take i order ++ key_view x ∷ [] = take_more order i (key_view x) inside ∙ ap (λ (k : OrderKey). take i order ++ k ∷ []) here in
          ap (map weighed_view) c.in_ok-push.ensures.items ∙ map-append weighed_view c.loop-i.weighed.items (c.in_ok-sum.parts ∷ [])
          ∙ ap (λ (l : List (List ItemParts)). l ++ weighed_view c.in_ok-sum.parts ∷ []) (c.loop-i.invariant.1 met.0)
          ∙ ap (λ (l : List ItemParts). map (key_parts tables items) (take i order) ++ l ∷ []) (c.in_ok-sum.ensures.0.1 met.1)
          ∙ sym (ap (map (key_parts tables items)) more ∙ map-append (key_parts tables items) (take i order) (key_view x ∷ [])),
    )

pub weigh_key-requires : goal.weigh_key-requires
weigh_key-requires c =
    let keys = c.args.keys.now in
    let x = c.index-keys-i.result in
    subst (KeysInside c.args.tables.now c.args.items.now) (sym c.index-keys-i.is)
    (all_at (KeysInside c.args.tables.now c.args.items.now) keys c.loop-i.i x c.requires.inside c.loop-i-test.true)

pub returns-in-None : goal.returns-in-None
returns-in-None c =
    let tables = c.args.tables.now in
    let items = items_view c.args.items.now in
    let order = map key_view c.args.keys.now in
    let past : length order ≤ c.loop-i.i = let f = c.loop-i-test.false in omega (arith, f, length-map c.args.keys.now key_view) in (
      c.loop-i.invariant.1 c.in-None.is ∙ ap (map (key_parts tables items)) (take_all c.loop-i.i order past),
      no_fault tables items order c.loop-i.i c.loop-i.first c.loop-i.invariant.0 past c.in-None.is,
    )

pub returns-in-Some : goal.returns-in-Some
returns-in-Some c =
    let past : length (map key_view c.args.keys.now) ≤ c.loop-i.i = let f = c.loop-i-test.false in omega (arith, f, length-map c.args.keys.now key_view) in
    one_past c.args.tables.now (items_view c.args.items.now) (map key_view c.args.keys.now) c.loop-i.i c.loop-i.first c.loop-i.invariant.0 past c.in-Some.key c.in-Some.is

pub overflow_cast-i : goal.overflow_cast-i
overflow_cast-i c = omega (arith, c.requires.few, c.loop-i-test.true)

pub overflow_add-i : goal.overflow_add-i
overflow_add-i c = omega (arith, c.requires.few, c.loop-i-test.true)
