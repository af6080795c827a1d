use Rattle.std.proofs.Common.{◌≡◌, ◌<◌, ℕ, List, [], ◌∷◌, ◌++◌, length, map, take, get_or, sym, ap, ◌∙◌, arith}
use Rattle.std.proofs.lemmas.List.{get_or-map, length-map, map-append, take_all, take_more}
use Rattle.proof_model.specs.declared.proof.Listed.{Listed}
use Rattle.proof_check.proofs.checking.rows_of.Goals as goal

pub first_items-requires : goal.first_items-requires
first_items-requires c =
    let xs = c.args.answers.now in let i = c.loop-i.i in
    let at : get_or (map (λ (a : Listed). a.rows.items) xs) i [] ≡ c.index-answers-i.result.rows.items =
    get_or-map (λ (a : Listed). a.rows.items) xs i c.index-answers-i.result [] c.loop-i-test.true
    ∙ sym (ap (λ (a : Listed). a.rows.items) c.index-answers-i.is) in
    let its : c.deref.result.now ≡ c.index-answers-i.result.rows.items =
    c.deref.ensures.value ∙ sym (ap (λ (a : Listed). a.rows.items) c.index-answers-i.is) in
    omega (arith, ap length (its ∙ sym at) ∙ c.requires.each i c.loop-i-test.true, c.requires.few)

pub loop-i-preserved : goal.loop-i-preserved
loop-i-preserved c =
    let xs = c.args.answers.now in let i = c.loop-i.i in let n = c.args.items in
    let rows : List (List ℕ) = map (λ (a : Listed). a.rows.items) xs in
    let inside : i < length rows = let l = c.loop-i-test.true in omega (arith, l, length-map xs (λ (a : Listed). a.rows.items)) in
    let at : get_or rows i [] ≡ c.index-answers-i.result.rows.items =
    get_or-map (λ (a : Listed). a.rows.items) xs i c.index-answers-i.result [] c.loop-i-test.true
    ∙ sym (ap (λ (a : Listed). a.rows.items) c.index-answers-i.is) in
    let its : c.deref.result.now ≡ get_or rows i [] =
    c.deref.ensures.value ∙ sym (ap (λ (a : Listed). a.rows.items) c.index-answers-i.is) ∙ sym at in
    let new : take n c.first_items.result ≡ get_or rows i [] =
    ap (λ k. take k c.first_items.result) (sym (ap length its ∙ c.requires.each i c.loop-i-test.true)) ∙ c.first_items.ensures ∙ its in
    ap (map (take n)) c.in_ok-push.ensures.items
    ∙ map-append (take n) c.loop-i.found.items (c.first_items.result ∷ [])
    ∙ ap (λ ys. ys ++ take n c.first_items.result ∷ []) c.loop-i.invariant
    ∙ ap (λ y. take i rows ++ y ∷ []) new
    ∙ sym (take_more rows i [] inside)

pub returns : goal.returns
returns c = record {
  rows =
      let xs = c.args.answers.now in
      let rows : List (List ℕ) = map (λ (a : Listed). a.rows.items) xs in
      c.loop-i.invariant
      ∙ take_all c.loop-i.i rows (omega (arith, c.loop-i-test.false, length-map xs (λ (a : Listed). a.rows.items)));
  fault = tt;
}
