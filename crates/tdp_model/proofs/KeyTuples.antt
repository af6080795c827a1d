-- Keys of sums and slots are keys: a strict total order that adding keeps.
use Rattle.std.proofs.Common.{◌≡◌, ℕ, zero, suc, ◌+◌, ◌<◌, ◌⊎◌, ℤ, ◌+ℤ◌, ◌<ℤ◌, refl, sym, ap, ◌∙◌, subst, inl, inr, arith}
use Rattle.std.proofs.lemmas.Bool.{cases_lt}
use Rattle.std.proofs.lemmas.Int.{ints, by_lt_z}
use Rattle.rankings.specs.Order.{IsOrder}
use Rattle.tdp_model.specs.KeyLaws.{IsKeys}
use Rattle.tdp_model.specs.KeyTuple.{SlotsOf, KeyOf, slots_below, key_below, slots_add, key_add, slots_none, key_none, slot_in, slot_of}

compare_numbers : (a b : ℕ) → a < b ⊎ (a ≡ b) ⊎ b < a
compare_numbers a b = elim (cases_lt a b) [ inl l ↦ inl l | inr g ↦ elim (cases_lt b a) [ inl m ↦ inr (inr m) | inr h ↦ inr (inl (omega arith)) ] ]

compare_integers : (a b : ℤ) → a <ℤ b ⊎ (a ≡ b) ⊎ b <ℤ a
compare_integers a b =
    by_lt_z {P = a <ℤ b ⊎ (a ≡ b) ⊎ b <ℤ a} a b (λ l. inl l) (λ g. by_lt_z {P = a <ℤ b ⊎ (a ≡ b) ⊎ b <ℤ a} b a (λ m. inr (inr m)) (λ h. inr (inl (omega (arith, ints)))))

-- # One component before the others

module _ {A B : Type 0} (First : A → A → Type 0) (Rest : B → B → Type 0) where
  abbrev Pairs : A × B → A × B → Type 0
  Pairs a b = First a.0 b.0 ⊎ ((a.0 ≡ b.0) × Rest a.1 b.1)

  pair_transitive : ((x y z : A) → First x y → First y z → First x z) → ((x y z : B) → Rest x y → Rest y z → Rest x z) → (a b c : A × B) → Pairs a b → Pairs b c → Pairs a c
  pair_transitive f r a b c (inl p) (inl q) = inl (f a.0 b.0 c.0 p q)
  pair_transitive f r a b c (inl p) (inr q) = inl (subst (λ z. First a.0 z) q.0 p)
  pair_transitive f r a b c (inr p) (inl q) = inl (subst (λ z. First z c.0) (sym p.0) q)
  pair_transitive f r a b c (inr p) (inr q) = inr (p.0 ∙ q.0, r a.1 b.1 c.1 p.1 q.1)

  pair_irreflexive : ((x : A) → First x x → ⊥) → ((x : B) → Rest x x → ⊥) → (a : A × B) → Pairs a a → ⊥
  pair_irreflexive f r a (inl p) = f a.0 p
  pair_irreflexive f r a (inr p) = r a.1 p.1

  pair_compare : ((x y : A) → First x y ⊎ (x ≡ y) ⊎ First y x) → ((x y : B) → Rest x y ⊎ (x ≡ y) ⊎ Rest y x) → (a b : A × B) → Pairs a b ⊎ (a ≡ b) ⊎ Pairs b a
  pair_compare f r a b = elim (f a.0 b.0) [
    | inl p ↦ inl (inl p)
    | inr q ↦ elim q [
      | inl e ↦ elim (r a.1 b.1) [
        | inl p ↦ inl (inr (e, p))
        | inr s ↦ elim s [ inl g ↦ inr (inl (equal_pairs a b e g)) | inr p ↦ inr (inr (inr (sym e, p))) ]
      ]
      | inr p ↦ inr (inr (inl p))
    ]
  ]
    where
      equal_pairs : (a b : A × B) → a.0 ≡ b.0 → a.1 ≡ b.1 → a ≡ b
      equal_pairs a b e g = let both : A → B → A × B = λ x y. (x, y) in let h : both a.0 a.1 ≡ both b.0 b.1 = ap (λ x. both x a.1) e ∙ ap (λ y. both b.0 y) g in h

pub two : {A B : Type 0} (x y : A) (u v : B) → x ≡ y → u ≡ v → (let both : A → B → A × B = λ p q. (p, q) in both x u ≡ both y v)
two {A} {B} x y u v e g = let both : A → B → A × B = λ p q. (p, q) in ap (λ p. both p u) e ∙ ap (λ q. both y q) g

slots_order : (e : ℕ) → IsOrder (SlotsOf e) (slots_below e)
slots_order zero = record { transitive = λ a b c p q. p; irreflexive = λ a p. p; compare = λ a b. inr (inl refl) }
slots_order (suc e) =
    let r : IsOrder (SlotsOf e) (slots_below e) = slots_order e in
    record {
      transitive = pair_transitive (λ x y. x < y) (slots_below e) (λ x y z p q. omega arith) r.transitive;
      irreflexive = pair_irreflexive (λ x y. x < y) (slots_below e) (λ x p. omega arith) r.irreflexive;
      compare = pair_compare (λ x y. x < y) (slots_below e) compare_numbers r.compare;
    }

key_order : (d e : ℕ) → IsOrder (KeyOf d e) (key_below d e)
key_order zero e = slots_order e
key_order (suc d) e =
    let r : IsOrder (KeyOf d e) (key_below d e) = key_order d e in
    record {
      transitive = pair_transitive (λ x y. x <ℤ y) (key_below d e) (λ x y z p q. omega (arith, ints)) r.transitive;
      irreflexive = pair_irreflexive (λ x y. x <ℤ y) (key_below d e) (λ x p. omega (arith, ints)) r.irreflexive;
      compare = pair_compare (λ x y. x <ℤ y) (key_below d e) compare_integers r.compare;
    }

slots_assoc : (e : ℕ) (a b c : SlotsOf e) → slots_add e (slots_add e a b) c ≡ slots_add e a (slots_add e b c)
slots_assoc zero a b c = refl
slots_assoc (suc e) a b c = two _ _ _ _ (omega arith) (slots_assoc e a.1 b.1 c.1)

slots_comm : (e : ℕ) (a b : SlotsOf e) → slots_add e a b ≡ slots_add e b a
slots_comm zero a b = refl
slots_comm (suc e) a b = two _ _ _ _ (omega arith) (slots_comm e a.1 b.1)

slots_zero : (e : ℕ) (a : SlotsOf e) → slots_add e a (slots_none e) ≡ a
slots_zero zero a = refl
slots_zero (suc e) a = two _ _ _ _ (omega arith) (slots_zero e a.1)

slots_kept : (e : ℕ) (a b c : SlotsOf e) → slots_below e a b → slots_below e (slots_add e a c) (slots_add e b c)
slots_kept zero a b c h = h
slots_kept (suc e) a b c (inl p) = inl (omega arith)
slots_kept (suc e) a b c (inr p) = inr (ap (λ z. z + c.0) p.0, slots_kept e a.1 b.1 c.1 p.1)

key_assoc : (d e : ℕ) (a b c : KeyOf d e) → key_add d e (key_add d e a b) c ≡ key_add d e a (key_add d e b c)
key_assoc zero e a b c = slots_assoc e a b c
key_assoc (suc d) e a b c = two _ _ _ _ (omega (arith, ints)) (key_assoc d e a.1 b.1 c.1)

key_comm : (d e : ℕ) (a b : KeyOf d e) → key_add d e a b ≡ key_add d e b a
key_comm zero e a b = slots_comm e a b
key_comm (suc d) e a b = two _ _ _ _ (omega (arith, ints)) (key_comm d e a.1 b.1)

key_zero : (d e : ℕ) (a : KeyOf d e) → key_add d e a (key_none d e) ≡ a
key_zero zero e a = slots_zero e a
key_zero (suc d) e a = two _ _ _ _ (omega (arith, ints)) (key_zero d e a.1)

key_kept : (d e : ℕ) (a b c : KeyOf d e) → key_below d e a b → key_below d e (key_add d e a c) (key_add d e b c)
key_kept zero e a b c h = slots_kept e a b c h
key_kept (suc d) e a b c (inl p) = inl (omega (arith, ints))
key_kept (suc d) e a b c (inr p) = inr (ap (λ z. z +ℤ c.0) p.0, key_kept d e a.1 b.1 c.1 p.1)

pub tuple_keys : (d e : ℕ) → IsKeys (KeyOf d e) (key_below d e) (key_add d e) (key_none d e)
tuple_keys d e = record { order = key_order d e; add_assoc = key_assoc d e; add_comm = key_comm d e; add_none = key_zero d e; add_below = key_kept d e }

slot_in_add : (e i : ℕ) (a b : SlotsOf e) → slot_in e i (slots_add e a b) ≡ slot_in e i a + slot_in e i b
slot_in_add zero i a b = omega arith
slot_in_add (suc e) zero a b = refl
slot_in_add (suc e) (suc i) a b = slot_in_add e i a.1 b.1

pub slot_of_add : (d e i : ℕ) (a b : KeyOf d e) → slot_of d e i (key_add d e a b) ≡ slot_of d e i a + slot_of d e i b
slot_of_add zero e i a b = slot_in_add e i a b
slot_of_add (suc d) e i a b = slot_of_add d e i a.1 b.1

slot_in_none : (e i : ℕ) → slot_in e i (slots_none e) ≡ 0
slot_in_none zero i = refl
slot_in_none (suc e) zero = refl
slot_in_none (suc e) (suc i) = slot_in_none e i

pub slot_of_none : (d e i : ℕ) → slot_of d e i (key_none d e) ≡ 0
slot_of_none zero e i = slot_in_none e i
slot_of_none (suc d) e i = slot_of_none d e i
