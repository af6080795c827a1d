-- A stream that becomes longer by one entry.
use Rattle.std.proofs.Common.{◌≡◌, ℕ, zero, suc, ◌+◌, ◌<◌, Bool, true, false, cond, nat_eq, List, [], ◌∷◌, ◌++◌, length, take, get_or, slice_set, refl, sym, ap, ◌∙◌, arith}
use Rattle.std.specs.List.{All}
use Rattle.std.proofs.lemmas.List.Elements.{All-nil, All-cons, All-head, All-tail}
use Rattle.stream_store.specs.declared.linked.Linked.{Linked}
use Rattle.take2_heap.specs.declared.entry.Entry.{Entry}
use Rattle.tdp_model.specs.KeyTuple.{KeyOf}
use Rattle.suffix_streams.specs.declared.stream.Found.{Found}
use Rattle.suffix_streams.specs.declared.source.Source.{Source}
use Rattle.suffix_streams.specs.Frontiers.{AreFirst, AreFirstBy}
use Rattle.suffix_streams.specs.TreeStreams.{stream, node_size}
use Rattle.suffix_streams.proofs.ListEnds.{map_more}

later : {A : Type 0} (b c : Bool) (x a : A) (xs : List A) →
    cond b (cond c (x ∷ (xs ++ (a ∷ []))) (xs ++ (a ∷ []))) (xs ++ (a ∷ [])) ≡ cond b (cond c (x ∷ xs) xs) xs ++ (a ∷ [])
later true true x a xs = refl
later true false x a xs = refl
later false c x a xs = refl

true_not_false : true ≡ false → ⊥
true_not_false e = let h : cond {A = ℕ} true 1 0 ≡ cond {A = ℕ} false 1 0 = ap (λ b. cond {A = ℕ} b 1 0) e in omega (arith, h)

module _ {R : Type 0} where
  -- the new entry is the last of its own stream
  pub stream_own : (es : List (Linked (Found R))) (e : Linked (Found R)) (q g : ℕ) → nat_eq e.value.node q ≡ true → nat_eq e.value.group g ≡ true → stream (es ++ (e ∷ [])) q g ≡ stream es q g ++ (e.value.solution ∷ [])
  unfolding stream
  stream_own [] e q g a b = ap (λ z. cond z (cond (nat_eq e.value.group g) (e.value.solution ∷ []) []) []) a ∙ ap (λ z. cond z (e.value.solution ∷ []) []) b
  stream_own (x ∷ es) e q g a b =
      ap (λ z. cond (nat_eq x.value.node q) (cond (nat_eq x.value.group g) (x.value.solution ∷ z) z) z) (stream_own es e q g a b)
      ∙ later (nat_eq x.value.node q) (nat_eq x.value.group g) x.value.solution e.value.solution (stream es q g)

  -- it is in no other stream
  pub stream_other : (es : List (Linked (Found R))) (e : Linked (Found R)) (q g : ℕ) → cond (nat_eq e.value.node q) (nat_eq e.value.group g) false ≡ false → stream (es ++ (e ∷ [])) q g ≡ stream es q g
  unfolding stream
  stream_other [] e q g a = none (nat_eq e.value.node q) (nat_eq e.value.group g) e.value.solution a
    where
      none : (b c : Bool) (x : Entry R Source) → cond b c false ≡ false → cond b (cond c (x ∷ []) []) [] ≡ []
      none true true x e = absurd (true_not_false e)
      none true false x e = refl
      none false c x e = refl
  stream_other (x ∷ es) e q g a = ap (λ z. cond (nat_eq x.value.node q) (cond (nat_eq x.value.group g) (x.value.solution ∷ z) z) z) (stream_other es e q g a)

  -- the streams of the entry's node have one more entry together, and those of other nodes are as
  -- long as before
  pub node_size_more : (es : List (Linked (Found R))) (e : Linked (Found R)) (q : ℕ) → node_size (es ++ (e ∷ [])) q ≡ node_size es q + cond (nat_eq e.value.node q) 1 0
  unfolding node_size
  node_size_more [] e q = omega arith
  node_size_more (x ∷ es) e q = omega (arith, node_size_more es e q)

  -- setting a link changes no stream
  pub stream_linked : (es : List (Linked (Found R))) (i : ℕ) (x d : Linked (Found R)) (q g : ℕ) → x.value ≡ (get_or es i d).value → stream (slice_set es i x) q g ≡ stream es q g
  unfolding stream
  stream_linked [] i x d q g e = refl
  stream_linked (y ∷ es) zero x d q g e = ap (λ v. cond (nat_eq v.node q) (cond (nat_eq v.group g) (v.solution ∷ stream es q g) (stream es q g)) (stream es q g)) e
  stream_linked (y ∷ es) (suc i) x d q g e = ap (λ z. cond (nat_eq y.value.node q) (cond (nat_eq y.value.group g) (y.value.solution ∷ z) z) z) (stream_linked es i x d q g e)

take_one_more : {K : Type 0} (ks : List K) (n : ℕ) (d : K) → n < length ks → take n ks ++ (get_or ks n d ∷ []) ≡ take (suc n) ks
take_one_more [] n d l = absurd (omega arith)
take_one_more (k ∷ ks) zero d l = refl
take_one_more (k ∷ ks) (suc n) d l = ap (λ z. k ∷ z) (take_one_more ks n d (omega arith))

pub count_more : {A : Type 0} (xs : List A) (x : A) → length (xs ++ (x ∷ [])) ≡ suc (length xs)
count_more [] x = refl
count_more (y ∷ xs) x = ap suc (count_more xs x)

pub all_more : {A : Type 0} (P : A → Type 0) (xs : List A) (x : A) → All P xs → P x → All P (xs ++ (x ∷ []))
all_more P [] x a p = All-cons P x [] p (All-nil P)
all_more P (y ∷ xs) x a p = All-cons P y (xs ++ (x ∷ [])) (All-head P y xs a) (all_more P xs x (All-tail P y xs a) p)

-- The next member of the ranking is found.
pub first_more_by : {X : Type 0} (d : ℕ) (key_at : X → KeyOf d 16) (xs : List X) (x : X) (ks : List (KeyOf d 16)) (none : KeyOf d 16) → AreFirstBy d key_at xs ks → length xs < length ks → get_or ks (length xs) none ≡ key_at x → AreFirstBy d key_at (xs ++ (x ∷ [])) ks
first_more_by d key_at xs x ks none p l at = (
  omega (arith, count_more xs x),
  omega (arith, count_more xs x),
  map_more key_at xs x ∙ ap (λ z. z ++ (key_at x ∷ [])) p.2 ∙ ap (λ z. take (length xs) ks ++ (z ∷ [])) (sym at) ∙ take_one_more ks (length xs) none l ∙ ap (λ n. take n ks) (sym (count_more xs x)),
)

module _ {R : Type 0} (d : ℕ) (key : R → KeyOf d 16) where
  pub first_more : {T : Type 0} (xs : List (Entry R T)) (e : Entry R T) (ks : List (KeyOf d 16)) (none : KeyOf d 16) → AreFirst d key xs ks → length xs < length ks → get_or ks (length xs) none ≡ key e.rank → AreFirst d key (xs ++ (e ∷ [])) ks
  first_more {T} xs e ks none p l at = first_more_by d (λ (x : Entry R T). key x.rank) xs e ks none p l at
