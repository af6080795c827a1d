-- A combination is a witness exactly if its rows pass and agree.
use Rattle.std.proofs.Common.{◌≡◌, ◌↔◌, ◌<◌, ℕ, List, [], ◌∷◌, length, refl, sym, subst, ◌∙◌, inl, inr, Bool, true, false}
use Rattle.std.specs.List.{AllByRecursion}
use Rattle.std.specs.Str.{bytes_eq}
use Rattle.std.proofs.lemmas.Bool.{cases_eq}
use Rattle.std.proofs.lemmas.Slice.Eq.{bytes_eq-Decides}
use Rattle.anyk_model.specs.Table.{Table}
use Rattle.anyk_model.specs.Query.{Query, Column, Equality, Side, of_column, of_constant, Holds, IsCombination, IsWitness, row_counts, side_value, value_of}
use Rattle.rankings.specs.Order.{IsMember}
use Rattle.rankings.proofs.Members.{all_member}
use Rattle.bound_query.specs.Classes.{IsFixedTo, Linked, PassAndAgree, same, forth, back}
use Rattle.bound_query.specs.NamedPlaces.{EqualityInside, IsInside, SideInside, NamesExist}

-- the equality of two texts follows by contradiction
pub texts_stable : (xs ys : List ℕ) → ((xs ≡ ys → ⊥) → ⊥) → xs ≡ ys
texts_stable xs ys h = by_test (bytes_eq xs ys) refl
  where
    by_test : (b : Bool) → bytes_eq xs ys ≡ b → xs ≡ ys
    by_test true e = (bytes_eq-Decides xs ys).0 e
    by_test false e = absurd (h (λ p. let t : bytes_eq xs ys ≡ true = (bytes_eq-Decides xs ys).1 p in cc))

pub all_of_members : {A : Type 0} (P : A → Type 0) (xs : List A) → ((x : A) → IsMember x xs → P x) → AllByRecursion P xs
all_of_members P [] h = tt
all_of_members P (x ∷ xs) h = (h x (inl refl), all_of_members P xs (λ y m. h y (inr m)))

pub linked_append : {es : List Equality} {a b c : Column} → Linked es a b → Linked es b c → Linked es a c
linked_append same k = k
linked_append (forth m e h) k = forth m e (linked_append h k)
linked_append (back m e h) k = back m e (linked_append h k)

pub linked_back : {es : List Equality} {a b : Column} → Linked es a b → Linked es b a
linked_back same = same
linked_back (forth m e h) = linked_append (linked_back h) (back m e same)
linked_back (back m e h) = linked_append (linked_back h) (forth m e same)

module _ (query : Query) (tables : List Table) (rows : List ℕ) where
  abbrev value : Column → List ℕ
  value c = value_of query tables rows c

  abbrev AllHold : Type 0
  AllHold = AllByRecursion (Holds query tables rows) query.equalities

  holds_column : AllHold → (e : Equality) (b : Column) → IsMember e query.equalities → e.right ≡ of_column b → value e.left ≡ value b
  holds_column all e b m is =
      let h : value e.left ≡ side_value query tables rows e.right = all_member (Holds query tables rows) e query.equalities all m in
      subst (λ (s : Side). value e.left ≡ side_value query tables rows s) is h

  holds_constant : AllHold → (e : Equality) (bytes : List ℕ) → IsMember e query.equalities → e.right ≡ of_constant bytes → value e.left ≡ bytes
  holds_constant all e bytes m is =
      let h : value e.left ≡ side_value query tables rows e.right = all_member (Holds query tables rows) e query.equalities all m in
      subst (λ (s : Side). value e.left ≡ side_value query tables rows s) is h

  linked_value : AllHold → {a b : Column} → Linked query.equalities a b → value a ≡ value b
  linked_value all same = refl
  linked_value all (forth {e = e} {b = b} m is h) = holds_column all e b m is ∙ linked_value all h
  linked_value all (back {e = e} {b = b} m is h) = sym (holds_column all e b m is) ∙ linked_value all h

  fixed_value : AllHold → (c : Column) (bytes : List ℕ) → IsFixedTo query.equalities c bytes → value c ≡ bytes
  fixed_value all c bytes f = linked_value all f.linked ∙ holds_constant all f.equality bytes f.member f.constant

  pub witness_passes : AllHold → PassAndAgree query tables rows
  witness_passes all = record {
    pass = λ i inside. record {
      equal = λ a b h. linked_value all h;
      constant = λ a bytes f. fixed_value all (record { item = i; place = a }) bytes f;
    };
    agree = λ i j _ _ a b shared h. linked_value all h;
  }

  module _ (pairs : PassAndAgree query tables rows) where
    same_item : (a b : Column) → a.item < length query.items → Linked query.equalities a b → a.item ≡ b.item → value a ≡ value b
    same_item a b inside h is =
        let P : ℕ → Type 0 = λ n. Linked query.equalities a (record { item = n; place = b.place }) → value a ≡ value (record { item = n; place = b.place }) in
        subst P is ((pairs.pass a.item inside).equal a.place b.place) h

    not_different : (a b : Column) → a.item < length query.items → b.item < length query.items → Linked query.equalities a b → (value a ≡ value b → ⊥) → ⊥
    not_different a b ia ib h differ = elim (cases_eq a.item b.item) [
      | inl is ↦ differ (same_item a b ia h is)
      | inr other ↦ differ (pairs.agree a.item b.item ia ib a.place b.place (record {
        free = λ bytes f. differ ((pairs.pass a.item ia).constant a.place bytes f
            ∙ sym ((pairs.pass b.item ib).constant b.place bytes (record {
              equality = f.equality;
              member = f.member;
              constant = f.constant;
              linked = linked_append (linked_back h) f.linked;
            })));
        other = b;
        linked = h;
        elsewhere = λ is. other (sym is);
      }) h)
    ]

    column_holds : (e : Equality) (b : Column) → IsMember e query.equalities → e.right ≡ of_column b
        → e.left.item < length query.items → b.item < length query.items → value e.left ≡ value b
    column_holds e b m is ia ib =
        let h : Linked query.equalities e.left b = forth m is same in
        texts_stable (value e.left) (value b) (not_different e.left b ia ib h)

    constant_holds : (e : Equality) (bytes : List ℕ) → IsMember e query.equalities → e.right ≡ of_constant bytes
        → e.left.item < length query.items → value e.left ≡ bytes
    constant_holds e bytes m is ia =
        (pairs.pass e.left.item ia).constant e.left.place bytes (record { equality = e; member = m; constant = is; linked = same })

    side_holds : (e : Equality) (s : Side) → IsMember e query.equalities → e.right ≡ s → IsInside tables query.items e.left → SideInside tables query.items s
        → value e.left ≡ side_value query tables rows s
    side_holds e (of_column b) m is left right = column_holds e b m is left.item right.item
    side_holds e (of_constant bytes) m is left right = constant_holds e bytes m is left.item

    pub pass_witness : NamesExist query tables → AllHold
    pass_witness within = all_of_members (Holds query tables rows) query.equalities (λ e m.
        let inside = all_member (EqualityInside tables query.items) e query.equalities within.equalities m in
        side_holds e e.right m refl inside.left inside.right)

-- The law, for the crates above.
pub witness_iff : (query : Query) (tables : List Table) (rows : List ℕ) → NamesExist query tables
    → IsWitness query tables rows ↔ (IsCombination (row_counts query.items tables) rows × PassAndAgree query tables rows)
witness_iff query tables rows within = (
  λ w. (w.0, witness_passes query tables rows w.1),
  λ p. (p.0, pass_witness query tables rows p.1 within),
)
