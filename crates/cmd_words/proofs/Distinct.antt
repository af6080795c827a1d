-- A set of names that is filled from the last on, and whether they are distinct.
use Rattle.std.proofs.Common.{◌≡◌, ◌<◌, ◌≤◌, ◌-◌, ℕ, zero, suc, List, [], ◌∷◌, Bool, true, false, cond, refl, sym, ap, subst, ◌∙◌, map, drop, drop-cons, get_or, length, arith}
use Rattle.std.specs.Prelude.{◌&&◌, ◌||◌, not}
use Rattle.std.specs.Ordering.{nat_cmp}
use Rattle.std.specs.List.{list_any}
use Rattle.std.specs.Str.{bytes_eq}
use Rattle.std.specs.String.{string_bytes}
use Rattle.std.specs.Cmp.Lexicographic.{slice_cmp}
use Rattle.std.specs.BTreeSet.{BTreeSet, Updates, contains}
use Rattle.std.proofs.lemmas.Bool.{and_right}
use Rattle.std.proofs.lemmas.Map.Text.{is_eq-slice_cmp}
use Rattle.cmd_words.specs.NamedPairs.{named_pair, are_distinct}
use Rattle.cmd_words.specs.declared.pairs.Named.{Named}
use denote.Ref.{Bor}

-- the set has the names of these tables
abbrev pub Holds : BTreeSet (Bor (List ℕ)) → List Named → Type 0
Holds names rest = (q : Bor (List ℕ)) → contains (λ x y. slice_cmp nat_cmp x.now y.now) names q ≡ list_any (λ pair. bytes_eq pair.0 q.now) (map named_pair rest)

cond_or : (a b : Bool) → cond a true b ≡ (a || b)
cond_or true b = refl
cond_or false b = refl

and_true : (a b : Bool) → b ≡ true → (a && b) ≡ a
and_true true b e = e
and_true false b e = refl

-- names of which some at the end are not distinct are not
pub repeats_before : (n : ℕ) (named : List Named) → are_distinct (map named_pair (drop n named)) ≡ false → are_distinct (map named_pair named) ≡ false
repeats_before zero named e = e
repeats_before (suc n) [] e = e
repeats_before (suc n) (one ∷ named) e = and_right _ _ (repeats_before n named e)

-- one name before those that the set has
module _ (names : BTreeSet (Bor (List ℕ))) (name : Bor (List ℕ)) (named : List Named) (at : ℕ) (first : Named) where
  back : 0 < at → at ≤ length named → first ≡ get_or named (at - 1) first → drop (at - 1) named ≡ first ∷ drop at named
  back some within is =
      let next : suc (at - 1) ≡ at = omega (arith, some) in
      drop-cons named (at - 1) first (omega (arith, some, within)) ∙ ap (λ x. x ∷ drop (suc (at - 1)) named) (sym is) ∙ ap (λ k. first ∷ drop k named) next

  module _ (some : 0 < at) (within : at ≤ length named) (is : first ≡ get_or named (at - 1) first) (same : string_bytes first.table ≡ name.now) (before : Holds names (drop at named)) where
    pub holds_more : (more : BTreeSet (Bor (List ℕ))) → Updates (λ x y. slice_cmp nat_cmp x.now y.now) names more name true → Holds more (drop (at - 1) named)
    holds_more more updates = subst (Holds more) (sym (back some within is)) (λ q.
        updates.0 q ∙ ap (λ b. cond b true (contains (λ x y. slice_cmp nat_cmp x.now y.now) names q)) (is_eq-slice_cmp name.now q.now ∙ ap (λ l. bytes_eq l q.now) (sym same))
        ∙ ap (cond (bytes_eq (string_bytes first.table) q.now) true) (before q)
        ∙ cond_or (bytes_eq (string_bytes first.table) q.now) (list_any (λ pair. bytes_eq pair.0 q.now) (map named_pair (drop at named))))

    -- it is new exactly where the names are distinct with it
    pub distinct_more : are_distinct (map named_pair (drop at named)) ≡ true → not (contains (λ x y. slice_cmp nat_cmp x.now y.now) names name) ≡ are_distinct (map named_pair (drop (at - 1) named))
    distinct_more distinct =
        ap not (before name ∙ ap (λ l. list_any (λ pair. bytes_eq pair.0 l) (map named_pair (drop at named))) (sym same)) ∙ sym (and_true _ _ distinct)
        ∙ ap (λ l. are_distinct (map named_pair l)) (sym (back some within is))
