-- The columns of the variables that two items share, found one after another.
use Rattle.std.proofs.Common.{◌≡◌, ◌<◌, ◌≤◌, ◌+◌, ℕ, List, [], ◌∷◌, ◌++◌, length, get_or, take, refl, sym, subst, ◌∙◌, inl, inr, arith, length-append}
use Rattle.std.proofs.lemmas.Bool.{cases_lt}
use Rattle.std.proofs.lemmas.List.{get_or_append_left, get_or_push}
use Rattle.anyk_model.specs.Query.{Column, Equality}
use Rattle.rankings.specs.Order.{IsMember}
use Rattle.bound_query.specs.Classes.{HasVariable}
use Rattle.bound_query.specs.WeighedQuery.{BoundQuery}
use Rattle.rankings.proofs.Members.{each_all, each_further}
use Rattle.bound_query.proofs.Witness.{linked_append, linked_back}
use Rattle.node_build.specs.Columns.{AreShared, IsColumnPair, StandTogether}

-- a variable has one column in an item
pub one_column : (es : List Equality) (variables : List Column) (item number p q : ℕ) → HasVariable es variables item number p → HasVariable es variables item number q → p ≡ q
one_column es variables item number p q a b =
    let forth = a.least q (linked_append (linked_back a.linked) b.linked) in
    let back = b.least p (linked_append (linked_back b.linked) a.linked) in
    omega (arith, forth, back)

module _ (bound : BoundQuery) (i j : ℕ) where
  abbrev Has : ℕ → ℕ → ℕ → Type 0
  Has item number place = HasVariable bound.query.equalities bound.variables item number place

  -- what is to be found of a variable
  abbrev Found : List ℕ → List ℕ → ℕ × ℕ → Type 0
  Found own other v = (q : ℕ) → Has j v.0 q → StandTogether own other v.1 q

  abbrev pub SoFar : List (ℕ × ℕ) → List ℕ → List ℕ → Type 0
  SoFar done own other = AreShared bound i j (λ v. IsMember v done) own other

  pub none_shared : (done : List (ℕ × ℕ)) → done ≡ [] → SoFar done [] []
  none_shared done none = record {
    same = refl;
    sound = λ k l. absurd (omega (arith, l));
    complete = λ v q m h. absurd (subst (λ (l : List (ℕ × ℕ)). IsMember v l) none m);
  }

  longer : (own other : List ℕ) (x y p q : ℕ) → length own ≡ length other → StandTogether own other p q → StandTogether (own ++ x ∷ []) (other ++ y ∷ []) p q
  longer own other x y p q same h =
      let w = h.within in
      record {
        place = h.place;
        within = omega (arith, w, length-append own (x ∷ []));
        first = get_or_append_left own (x ∷ []) 0 h.place h.within ∙ h.first;
        second = get_or_append_left other (y ∷ []) 0 h.place (omega (arith, w, same)) ∙ h.second;
      }

  last : (own other : List ℕ) (x y : ℕ) → length own ≡ length other → StandTogether (own ++ x ∷ []) (other ++ y ∷ []) x y
  last own other x y same = record {
    place = length own;
    within = omega (arith, length-append own (x ∷ []));
    first = get_or_push own x 0 (length own) refl;
    second = get_or_push other y 0 (length own) (sym same);
  }

  pair_more : (own other : List ℕ) (number x y : ℕ) → length own ≡ length other → Has i number x → Has j number y
      → ((k : ℕ) → k < length own → IsColumnPair bound i j (get_or own k 0) (get_or other k 0))
      → (k : ℕ) → k < length (own ++ x ∷ []) → IsColumnPair bound i j (get_or (own ++ x ∷ []) k 0) (get_or (other ++ y ∷ []) k 0)
  pair_more own other number x y same a b before k l = elim (cases_lt k (length own)) [
    | inl old ↦
        subst (λ (p : ℕ). IsColumnPair bound i j p (get_or (other ++ y ∷ []) k 0)) (sym (get_or_append_left own (x ∷ []) 0 k old))
        (subst (λ (q : ℕ). IsColumnPair bound i j (get_or own k 0) q) (sym (get_or_append_left other (y ∷ []) 0 k (omega (arith, old, same)))) (before k old))
    | inr new ↦
        let at : length own ≡ k = omega (arith, new, l, length-append own (x ∷ [])) in
        subst (λ (p : ℕ). IsColumnPair bound i j p (get_or (other ++ y ∷ []) k 0)) (sym (get_or_push own x 0 k at))
        (subst (λ (q : ℕ). IsColumnPair bound i j x q) (sym (get_or_push other y 0 k (sym same ∙ at))) (record { number = number; own = a; other = b }))
  ]

  -- a variable that both items have
  pub shared_more : (variables : List (ℕ × ℕ)) (n : ℕ) (v : ℕ × ℕ) (y : ℕ) (own other : List ℕ) → n < length variables → v ≡ get_or variables n v
      → Has i v.0 v.1 → Has j v.0 y → SoFar (take n variables) own other → SoFar (take (n + 1) variables) (own ++ v.1 ∷ []) (other ++ y ∷ [])
  shared_more variables n v y own other inside is a b before =
      let same = before.same in
      record {
        same = omega (arith, same, length-append own (v.1 ∷ []), length-append other (y ∷ []));
        sound = pair_more own other v.0 v.1 y same a b before.sound;
        complete = λ u q m h.
            each_further (Found (own ++ v.1 ∷ []) (other ++ y ∷ [])) variables n v inside is
            (λ w k r g. longer own other v.1 y w.1 r same (before.complete w r k g))
            (λ r g. subst (StandTogether (own ++ v.1 ∷ []) (other ++ y ∷ []) v.1) (one_column bound.query.equalities bound.variables j v.0 y r b g) (last own other v.1 y same))
            u m q h;
      }

  -- a variable that the other item has not
  pub shared_skip : (variables : List (ℕ × ℕ)) (n : ℕ) (v : ℕ × ℕ) (own other : List ℕ) → n < length variables → v ≡ get_or variables n v
      → ((q : ℕ) → Has j v.0 q → ⊥) → SoFar (take n variables) own other → SoFar (take (n + 1) variables) own other
  shared_skip variables n v own other inside is none before = record {
    same = before.same;
    sound = before.sound;
    complete = λ u q m h. each_further (Found own other) variables n v inside is (λ w k r g. before.complete w r k g) (λ r g. absurd (none r g)) u m q h;
  }

  -- all variables of the item
  pub shared_all : (variables : List (ℕ × ℕ)) (n : ℕ) (own other : List ℕ) → length variables ≤ n
      → ((v : ℕ × ℕ) → Has i v.0 v.1 → IsMember v variables) → SoFar (take n variables) own other → AreShared bound i j (λ v. Has i v.0 v.1) own other
  shared_all variables n own other all members h = record {
    same = h.same;
    sound = h.sound;
    complete = λ v q a b. each_all (Found own other) variables n all (λ w k r g. h.complete w r k g) v (members v a) q b;
  }
