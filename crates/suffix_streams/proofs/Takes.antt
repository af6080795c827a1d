-- What is given from a queue of what was offered.
use Rattle.std.proofs.Common.{◌≡◌, ℕ, ◌+◌, ◌*◌, ◌≤◌, false, true, Option, Some, None, IfSome, IfNone, List, [], ◌∷◌, length, refl, ap, ◌∙◌, subst, inl, inr, arith, ◌^◌, ◌<◌, ◌↔◌, IsSome, get_or, sym}
use Rattle.std.specs.List.{All}
use Rattle.std.specs.List.Sorted.{IsPermutation}
use Rattle.std.proofs.lemmas.Bool.{false≢true}
use Rattle.std.proofs.lemmas.List.Elements.{All-nil, All-cons, All-head, All-tail}
use Rattle.std.proofs.lemmas.List.Sorted.{All-permutation, IsPermutation-refl, IsPermutation-cons, IsPermutation-middle, IsPermutation-trans, length_permutation}
use Rattle.take2_heap.specs.declared.entry.Entry.{Entry}
use Rattle.take2_heap.specs.Order.{IsLeast}
use Rattle.take2_heap.specs.Heap.{Heap}
use Rattle.rank_key.specs.Bits.{bit_length}
use Rattle.rank_key.proofs.BitLemmas.{bit_length_rises}
use Rattle.tdp_model.specs.KeyTuple.{KeyOf, key_below}
use Rattle.tdp_model.specs.KeyNumbers.{key_less}
use Rattle.tdp_model.proofs.KeyTuples.{tuple_keys}
use Rattle.tdp_model.proofs.KeyNumbers.{key_less_below, not_less_at_most, at_most_not_less}
use Rattle.tdp_model.proofs.Keys.{at_most_trans}
use Rattle.suffix_streams.specs.declared.source.Source.{Source}
use Rattle.suffix_streams.specs.Offers.{offers}
use Rattle.suffix_streams.specs.Firsts.{IsGiven}

module _ {R T : Type 0} (d : ℕ) (key : R → KeyOf d 16) where
  abbrev NotBefore : Entry R T → Entry R T → Type 0
  NotBefore x y = key_less d 16 (key y.rank) (key x.rank) ≡ false

  least_all : (x : Entry R T) (es : List (Entry R T)) → IsLeast d key x es → All (NotBefore x) es
  least_all x [] l = All-nil (NotBefore x)
  least_all x (y ∷ es) l = All-cons (NotBefore x) y es l.0 (least_all x es l.1)

  all_least : (x : Entry R T) (es : List (Entry R T)) → All (NotBefore x) es → IsLeast d key x es
  all_least x [] a = tt
  all_least x (y ∷ es) a = (All-head (NotBefore x) y es a, all_least x es (All-tail (NotBefore x) y es a))

  -- nothing is before itself
  pub least_itself : (x : Entry R T) → key_less d 16 (key x.rank) (key x.rank) ≡ false
  least_itself x = at_most_not_less d 16 (key x.rank) (key x.rank) (inr refl)

  -- the least of a list, when it leaves
  pub least_left : (x : Entry R T) (old new : List (Entry R T)) → IsLeast d key x old → IsPermutation old (x ∷ new) → IsLeast d key x new
  least_left x old new l p = all_least x new (All-tail (NotBefore x) x new (All-permutation (NotBefore x) old (x ∷ new) p (least_all x old l)))

  -- what is not after the least is least
  pub least_before : (x y : Entry R T) (es : List (Entry R T)) → IsLeast d key y es → key_less d 16 (key y.rank) (key x.rank) ≡ false → IsLeast d key x es
  least_before x y [] l h = tt
  least_before x y (z ∷ es) l h = (
    at_most_not_less d 16 (key z.rank) (key x.rank) (at_most_trans (key_below d 16) (tuple_keys d 16).order (key x.rank) (key y.rank) (key z.rank) (not_less_at_most d 16 (key y.rank) (key x.rank) h) (not_less_at_most d 16 (key z.rank) (key y.rank) l.0)),
    least_before x y es l.1 h,
  )

  -- the top is before what comes in its place
  pub least_replaced : (x next : Entry R T) (old new : List (Entry R T)) → IsLeast d key x old → key_less d 16 (key x.rank) (key next.rank) ≡ true → IsPermutation (next ∷ old) (x ∷ new) → IsLeast d key x new
  least_replaced x next old new l h p = least_left x (next ∷ old) new (at_most_not_less d 16 (key next.rank) (key x.rank) (inl (key_less_below d 16 (key x.rank) (key next.rank) h)), l) p

module _ {E : Type 0} where
  pub offered_too : (a : Option E) (old new : List E) → IsPermutation old new → IsPermutation (offers a None old) (offers a None new)
  offered_too None old new p = p
  offered_too (Some x) old new p = IsPermutation-cons x old new p

  -- what is offered beside one more thing
  pub offered_past : (a b c : Option E) (t : E) (es : List E) → IsPermutation (offers c None (offers a b (t ∷ es))) (t ∷ offers a None (offers c None (offers b None es)))
  offered_past None None None t es = IsPermutation-refl (t ∷ es)
  offered_past None None (Some z) t es = IsPermutation-middle (z ∷ []) t es
  offered_past None (Some y) None t es = IsPermutation-middle (y ∷ []) t es
  offered_past None (Some y) (Some z) t es = IsPermutation-middle (z ∷ (y ∷ [])) t es
  offered_past (Some x) None None t es = IsPermutation-middle (x ∷ []) t es
  offered_past (Some x) None (Some z) t es = IsPermutation-trans _ _ _ (IsPermutation-middle (z ∷ (x ∷ [])) t es) (IsPermutation-cons t _ _ (IsPermutation-middle (z ∷ []) x es))
  offered_past (Some x) (Some y) None t es = IsPermutation-trans _ _ _ (IsPermutation-middle (y ∷ (x ∷ [])) t es) (IsPermutation-cons t _ _ (IsPermutation-middle (y ∷ []) x es))
  offered_past (Some x) (Some y) (Some z) t es = IsPermutation-trans _ _ _ (IsPermutation-middle (z ∷ (y ∷ (x ∷ []))) t es) (IsPermutation-cons t _ _ (IsPermutation-middle (z ∷ (y ∷ [])) x es))

  -- nothing was offered to what stays empty
  pub none_offered : (a : Option E) (old new : List E) → IsPermutation (offers a None old) new → new ≡ [] → (a ≡ None) × (old ≡ [])
  none_offered None [] new p e = (refl, refl)
  none_offered None (x ∷ old) new p e = let same = length_permutation (x ∷ old) new p in absurd (omega (arith, same, ap length e))
  none_offered (Some x) old new p e = let same = length_permutation (x ∷ old) new p in absurd (omega (arith, same, ap length e))

module _ {R : Type 0} (d : ℕ) (key : R → KeyOf d 16) (next left right : Option (Entry R Source)) (old new : List (Entry R Source)) where
  pub some_given : (o : Option (Entry R Source)) (e : Entry R Source) → o ≡ Some e → IsGiven d key next left right old new o → IsPermutation (offers next None (offers right None (offers left None old))) (e ∷ new) × IsLeast d key e new
  some_given None e is f = cc
  some_given (Some x) e is f = subst (λ (z : Entry R Source). IsPermutation (offers next None (offers right None (offers left None old))) (z ∷ new) × IsLeast d key z new) (same is) f
    where
      same : Some x ≡ Some e → x ≡ e
      same is = cc

  pub none_given : (o : Option (Entry R Source)) → o ≡ None → IsGiven d key next left right old new o → (next ≡ None) × (left ≡ None) × (right ≡ None) × (old ≡ [])
  none_given None is f = f
  none_given (Some x) is f = cc

-- the queue after two offers, and after one more was given or entered
module _ {R : Type 0} (d : ℕ) (key : R → KeyOf d 16) (next left right : Option (Entry R Source)) (h0 h1 h2 h3 : Heap R Source) (o : Option (Entry R Source)) (on_left : IsPermutation (offers left None h0.entries) h1.entries) (on_right : IsPermutation (offers right None h1.entries) h2.entries)
    (some : IfSome o (λ e. IsPermutation (offers next None h2.entries) (e ∷ h3.entries))) (none : IfNone o ((next ≡ None) × (h2.entries ≡ []) × (h3 ≡ h2))) where
  pub all_given : IfSome o (λ e. IsLeast d key e h3.entries) → IsGiven d key next left right h0.entries h3.entries o
  all_given least = cases o some none least
    where
      cases : (o : Option (Entry R Source)) → IfSome o (λ e. IsPermutation (offers next None h2.entries) (e ∷ h3.entries)) → IfNone o ((next ≡ None) × (h2.entries ≡ []) × (h3 ≡ h2)) → IfSome o (λ e. IsLeast d key e h3.entries) → IsGiven d key next left right h0.entries h3.entries o
      cases (Some e) p q l = (IsPermutation-trans _ _ _ (offered_too next _ _ (IsPermutation-trans _ _ _ (offered_too right _ _ on_left) on_right)) p, l)
      cases None p q l =
          let r = none_offered right h1.entries h2.entries on_right q.1 in
          let f = none_offered left h0.entries h1.entries on_left r.1 in
          (q.0, f.0, r.0, f.1)

  pub none_moved : (left ≡ None → h1 ≡ h0) → (right ≡ None → h2 ≡ h1) → o ≡ None → h3 ≡ h0
  none_moved same1 same2 is = cases o none is
    where
      cases : (o : Option (Entry R Source)) → IfNone o ((next ≡ None) × (h2.entries ≡ []) × (h3 ≡ h2)) → o ≡ None → h3 ≡ h0
      cases (Some e) q is = cc
      cases None q is =
          let r = none_offered right h1.entries h2.entries on_right q.1 in
          let f = none_offered left h0.entries h1.entries on_left r.1 in
          q.2 ∙ same2 r.0 ∙ same1 f.0

  longer : (a : Option (Entry R Source)) (es : List (Entry R Source)) → length es ≤ length (offers a None es)
  longer None es = omega arith
  longer (Some x) es = omega arith

  first_few : length h1.entries ≤ length h2.entries
  first_few = omega (arith, longer right h1.entries, length_permutation (offers right None h1.entries) h2.entries on_right)

  then_few : length h2.entries ≤ length h3.entries + 1
  then_few = cases o some none
    where
      cases : (o : Option (Entry R Source)) → IfSome o (λ e. IsPermutation (offers next None h2.entries) (e ∷ h3.entries)) → IfNone o ((next ≡ None) × (h2.entries ≡ []) × (h3 ≡ h2)) → length h2.entries ≤ length h3.entries + 1
      cases (Some e) p q = omega (arith, longer next h2.entries, length_permutation (offers next None h2.entries) (e ∷ h3.entries) p)
      cases None p q = omega (arith, ap length q.1)

  pub given_steps : (s0 s1 s2 s3 : ℕ) → s1 ≤ s0 + bit_length (length h1.entries) → s2 ≤ s1 + bit_length (length h2.entries) → s3 ≤ s2 + 1 + 2 * bit_length (length h2.entries) → s3 ≤ s0 + 1 + 4 * bit_length (length h3.entries + 1)
  given_steps s0 s1 s2 s3 a b c = omega (arith, a, b, c, bit_length_rises (length h1.entries) (length h3.entries + 1) (omega (arith, first_few, then_few)), bit_length_rises (length h2.entries) (length h3.entries + 1) then_few)

-- # One sum that was found, and a queue of the others

module _ {R T : Type 0} (d : ℕ) (key : R → KeyOf d 16) (old : Option (Entry R T)) (es : List (Entry R T)) (none : IfNone old (es ≡ [])) where
  pub one_there : IsSome old ↔ (0 < length (offers old None es))
  one_there = cases old none
    where
      cases : (o : Option (Entry R T)) → IfNone o (es ≡ []) → IsSome o ↔ (0 < length (offers o None es))
      cases (Some x) n = (λ s. omega arith, λ l. refl)
      cases None n = (λ s. absurd (false≢true s), λ l. absurd (omega (arith, l, ap length n)))

  pub one_first : IfSome old (λ e. (x : Entry R T) → e ≡ get_or (offers old None es) 0 x)
  one_first = cases old
    where
      cases : (o : Option (Entry R T)) → IfSome o (λ e. (x : Entry R T) → e ≡ get_or (offers o None es) 0 x)
      cases (Some y) = λ x. refl
      cases None = tt

  module _ (least : IfSome old (λ e. IsLeast d key e es)) where
    pub one_least : IfSome old (λ e. IsLeast d key e (offers old None es))
    one_least = cases old least
      where
        cases : (o : Option (Entry R T)) → IfSome o (λ e. IsLeast d key e es) → IfSome o (λ e. IsLeast d key e (offers o None es))
        cases (Some x) l = (least_itself d key x, l)
        cases None l = tt

    pub first_least : (x : Entry R T) → IsLeast d key (get_or (offers old None es) 0 x) (offers old None es)
    first_least x = cases old least none
      where
        cases : (o : Option (Entry R T)) → IfSome o (λ e. IsLeast d key e es) → IfNone o (es ≡ []) → IsLeast d key (get_or (offers o None es) 0 x) (offers o None es)
        cases (Some y) l n = (least_itself d key y, l)
        cases None l n = subst (λ z. IsLeast d key (get_or z 0 x) z) (sym n) tt

  -- es1 is the queue after an offer, and es2 after one more was given or entered
  pub one_moved : (down across o : Option (Entry R T)) (es1 es2 : List (Entry R T)) → 0 < length (offers old None es) → IsPermutation (offers across None es) es1 → IfSome o (λ e. IsPermutation (offers down None es1) (e ∷ es2))
      → IfNone o ((down ≡ None) × (es1 ≡ []) × (es2 ≡ es1)) → (x : Entry R T) → IsPermutation (offers down across (offers old None es)) (get_or (offers old None es) 0 x ∷ offers o None es2)
  one_moved down across o es1 es2 some offered given ended x = cases old none some
    where
      after : (o : Option (Entry R T)) → IfSome o (λ e. IsPermutation (offers down None es1) (e ∷ es2)) → IfNone o ((down ≡ None) × (es1 ≡ []) × (es2 ≡ es1)) → IsPermutation (offers down None (offers across None es)) (offers o None es2)
      after (Some e) p n = IsPermutation-trans _ _ _ (offered_too down (offers across None es) es1 offered) p
      after None p n = subst (λ z. IsPermutation (offers z None (offers across None es)) es2) (sym n.0) (subst (λ z. IsPermutation (offers across None es) z) (sym n.2) offered)

      cases : (q : Option (Entry R T)) → IfNone q (es ≡ []) → 0 < length (offers q None es) → IsPermutation (offers down across (offers q None es)) (get_or (offers q None es) 0 x ∷ offers o None es2)
      cases (Some t) n l = IsPermutation-trans _ _ _ (offered_past down across None t es) (IsPermutation-cons t _ _ (after o given ended))
      cases None n l = absurd (omega (arith, l, ap length n))

  pub one_more : length es < 2 ^ 64 → length (offers old None es) ≤ 2 ^ 64
  one_more l = cases old
    where
      cases : (o : Option (Entry R T)) → length (offers o None es) ≤ 2 ^ 64
      cases (Some x) = omega (arith, l)
      cases None = omega (arith, l)

  -- the steps of an offer and of what follows
  pub step_within : (across : Option (Entry R T)) (es1 : List (Entry R T)) (s0 s1 s2 : ℕ) → 0 < length (offers old None es) → IsPermutation (offers across None es) es1 → s1 ≤ s0 + bit_length (length es1) → s2 ≤ s1 + 1 + 2 * bit_length (length es1)
      → s2 ≤ s0 + 1 + 2 * bit_length (length (offers old None es)) + bit_length (length (offers old None es) + 1)
  step_within across es1 s0 s1 s2 some offered a b =
      let few : length es1 ≤ length (offers old None es) = cases old none some across offered in
      omega (arith, a, b, bit_length_rises (length es1) (length (offers old None es)) few, bit_length_rises (length es1) (length (offers old None es) + 1) (omega (arith, few)))
    where
      cases : (o : Option (Entry R T)) → IfNone o (es ≡ []) → 0 < length (offers o None es) → (a : Option (Entry R T)) → IsPermutation (offers a None es) es1 → length es1 ≤ length (offers o None es)
      cases None n l a p = absurd (omega (arith, l, ap length n))
      cases (Some x) n l None p = omega (arith, length_permutation es es1 p)
      cases (Some x) n l (Some y) p = omega (arith, length_permutation (y ∷ es) es1 p)

-- what follows from a queue of none
module _ {R T : Type 0} (next : Option (Entry R T)) (h1 h2 : Heap R T) where
  pub none_kept : (o : Option (Entry R T)) → IfNone o ((next ≡ None) × (h1.entries ≡ []) × (h2 ≡ h1)) → IfNone o (h2.entries ≡ [])
  none_kept None n = ap (λ (h : Heap R T). h.entries) n.2 ∙ n.1
  none_kept (Some e) n = tt

  pub none_same : (o : Option (Entry R T)) → IfNone o ((next ≡ None) × (h1.entries ≡ []) × (h2 ≡ h1)) → IfNone o ((next ≡ None) × (h1.entries ≡ []) × (h2.entries ≡ h1.entries))
  none_same None n = (n.0, n.1, ap (λ (h : Heap R T). h.entries) n.2)
  none_same (Some e) n = tt
