-- The lists of opened rows.
use Rattle.std.proofs.Common.{◌≡◌, ◌≢◌, ℕ, zero, suc, ◌+◌, ◌-◌, ◌<◌, ◌≤◌, List, [], ◌∷◌, ◌++◌, map, length, get_or, slice_set, refl, sym, ap, ◌∙◌, subst, inl, inr, arith}
use Rattle.std.proofs.lemmas.Bool.{cases_lt, cases_eq}
use Rattle.std.proofs.lemmas.List.{get_or-set_same, get_or-set_other, get_or_past, length-set, same_lists}
use Rattle.std.specs.declared.vec.Vec.{Vec}
use Rattle.std.specs.Vec.{with_item}
use Rattle.suffix_streams.specs.OpenedRows.{list_numbered, HaveOwnLists}
use Rattle.suffix_streams.proofs.ListEnds.{any_default, at_end, at_more, map_at, map_length, map_more, row_inside, set_length, set_map}

-- the list of each row, if `f` is the list of each number
module _ {A : Type 0} (f : ℕ → List A) (none : f 0 ≡ []) where
  -- the list of a row is the one that its number stands for
  pub row_is : (opened : List ℕ) (r : ℕ) → get_or (map f opened) r [] ≡ f (get_or opened r 0)
  row_is [] r = sym none
  row_is (n ∷ opened) zero = refl
  row_is (n ∷ opened) (suc r) = row_is opened r

  -- a row with an element was opened
  pub row_opened : (opened : List ℕ) (r c : ℕ) → c < length (get_or (map f opened) r []) → (r < length opened) × (0 < get_or opened r 0)
  row_opened opened r c l =
      let inside : r < length (map f opened) = row_inside (map f opened) r c l in
      (omega (arith, inside, map_length f opened), some (get_or opened r 0) (subst (λ z. c < length z) (row_is opened r) l))
    where
      some : (n : ℕ) → c < length (f n) → 0 < n
      some zero l = absurd (omega (arith, l, ap length none))
      some (suc n) l = omega arith

-- the lists of two numberings, where one list differs
module _ {A : Type 0} (f f' : ℕ → List A) (none : f 0 ≡ []) (none' : f' 0 ≡ []) (opened : List ℕ) (count : ℕ) (own : HaveOwnLists opened count) (r : ℕ) (x : List A) where
  module _ (some : 0 < get_or opened r 0) (here : f' (get_or opened r 0) ≡ x) (other : (m : ℕ) → m ≤ count → m ≢ get_or opened r 0 → f' m ≡ f m) where
    -- the list of row r becomes `x`
    pub row_set : map f' opened ≡ slice_set (map f opened) r x
    row_set = same_lists (map f' opened) (slice_set (map f opened) r x) lengths each
      where
        lengths : length (map f' opened) ≡ length (slice_set (map f opened) r x)
        lengths = map_length f' opened ∙ sym (length-set (map f opened) r x ∙ map_length f opened)

        inside : r < length opened
        inside = elim (cases_lt r (length opened)) [
          | inl l ↦ l
          | inr l ↦ absurd (omega (arith, some, get_or_past opened r 0 l))
        ]

        at : (s : ℕ) → get_or (map f' opened) s [] ≡ get_or (slice_set (map f opened) r x) s []
        at s = elim (cases_eq s r) [
          | inl e ↦ subst (λ z. get_or (map f' opened) z [] ≡ get_or (slice_set (map f opened) r x) z []) (sym e)
              (row_is f' none' opened r ∙ here ∙ sym (get_or-set_same (map f opened) r x [] (omega (arith, inside, map_length f opened))))
          | inr n ↦ row_is f' none' opened s ∙ other (get_or opened s 0) (own.within s) (λ e. n (sym (own.apart r s some (sym e)))) ∙ sym (row_is f none opened s)
              ∙ sym (get_or-set_other (map f opened) r s x [] n)
        ]

        each : (s : ℕ) (d : List A) → s < length (map f' opened) → get_or (map f' opened) s d ≡ get_or (slice_set (map f opened) r x) s d
        each s d l = any_default (map f' opened) s d [] l ∙ at s ∙ any_default (slice_set (map f opened) r x) s [] d (omega (arith, l, lengths))

  module _ (inside : r < length opened) where
    abbrev numbers : List ℕ
    numbers = slice_set opened r (count + 1)

    number_own : get_or numbers r 0 ≡ count + 1
    number_own = get_or-set_same opened r (count + 1) 0 inside

    number_other : (s : ℕ) → s ≢ r → get_or numbers s 0 ≡ get_or opened s 0
    number_other s n = get_or-set_other opened r s (count + 1) 0 n

    -- row r has a list of its own, which was added
    pub own_added : HaveOwnLists numbers (count + 1)
    own_added = record { within = within; apart = apart }
      where
        within : (s : ℕ) → get_or numbers s 0 ≤ count + 1
        within s = elim (cases_eq s r) [
          | inl e ↦ omega (arith, ap (λ z. get_or numbers z 0) e, number_own)
          | inr n ↦ omega (arith, number_other s n, own.within s)
        ]

        apart : (s u : ℕ) → 0 < get_or numbers s 0 → get_or numbers s 0 ≡ get_or numbers u 0 → s ≡ u
        apart s u some same = elim (cases_eq s r) [
          | inl e ↦ elim (cases_eq u r) [
            | inl f ↦ e ∙ sym f
            | inr n ↦ absurd (omega (arith, same, ap (λ z. get_or numbers z 0) e, number_own, number_other u n, own.within u))
          ]
          | inr n ↦ elim (cases_eq u r) [
            | inl f ↦ absurd (omega (arith, same, ap (λ z. get_or numbers z 0) f, number_own, number_other s n, own.within s))
            | inr m ↦ own.apart s u (omega (arith, some, number_other s n)) (sym (number_other s n) ∙ same ∙ number_other u m)
          ]
        ]

    pub row_added : f' (count + 1) ≡ x → ((m : ℕ) → m ≤ count → f' m ≡ f m) → map f' numbers ≡ slice_set (map f opened) r x
    row_added here before = same_lists (map f' numbers) (slice_set (map f opened) r x) lengths each
      where
        lengths : length (map f' numbers) ≡ length (slice_set (map f opened) r x)
        lengths = omega (arith, map_length f' numbers, length-set opened r (count + 1), length-set (map f opened) r x, map_length f opened)

        at : (s : ℕ) → get_or (map f' numbers) s [] ≡ get_or (slice_set (map f opened) r x) s []
        at s = elim (cases_eq s r) [
          | inl e ↦ subst (λ z. get_or (map f' numbers) z [] ≡ get_or (slice_set (map f opened) r x) z []) (sym e)
              (row_is f' none' numbers r ∙ ap f' number_own ∙ here ∙ sym (get_or-set_same (map f opened) r x [] (omega (arith, inside, map_length f opened))))
          | inr n ↦ row_is f' none' numbers s ∙ ap f' (number_other s n) ∙ before (get_or opened s 0) (own.within s) ∙ sym (row_is f none opened s)
              ∙ sym (get_or-set_other (map f opened) r s x [] n)
        ]

        each : (s : ℕ) (d : List A) → s < length (map f' numbers) → get_or (map f' numbers) s d ≡ get_or (slice_set (map f opened) r x) s d
        each s d l = any_default (map f' numbers) s d [] l ∙ at s ∙ any_default (slice_set (map f opened) r x) s [] d (omega (arith, l, lengths))

-- the elements of lists
abbrev pub items_of : {P Z : Type 0} → List (Vec P Z) → List (List P)
items_of vs = map (λ v. v.items) vs

-- the list of each row, by its number
abbrev pub rows_of : {P Z : Type 0} → List (Vec P Z) → List ℕ → List (List P)
rows_of vs opened = map (list_numbered (items_of vs)) opened

module _ {P Z : Type 0} (vs : List (Vec P Z)) (opened : List ℕ) (own : HaveOwnLists opened (length vs)) (rows : List (List P)) (seen : rows_of vs opened ≡ rows) where
  abbrev lists : List (List P)
  lists = items_of vs

  -- an element of the list of a row of number n
  module _ (r c n : ℕ) (e : n ≡ get_or opened r n) (some : c < length (get_or rows r [])) where
    found : (r < length opened) × (0 < get_or opened r 0)
    found = row_opened (list_numbered lists) refl opened r c (subst (λ z. c < length (get_or z r [])) (sym seen) some)

    number_is : n ≡ get_or opened r 0
    number_is = e ∙ any_default opened r n 0 found.0

    pub number_some : 0 < n
    number_some = omega (arith, number_is, found.1)

    abbrev k : ℕ
    k = n - 1

    next : suc k ≡ get_or opened r 0
    next = omega (arith, number_is, number_some)

    pub list_in : k < length vs
    list_in = omega (arith, next, own.within r)

    row_here : list_numbered lists (suc k) ≡ get_or rows r []
    row_here = ap (λ m. list_numbered lists m) next ∙ sym (row_is (list_numbered lists) refl opened r) ∙ ap (λ z. get_or z r []) seen

    list_is : (v : Vec P Z) → v ≡ get_or vs k v → v.items ≡ get_or rows r []
    list_is v at = ap (λ v. v.items) at ∙ sym (map_at (λ v. v.items) vs k v [] list_in) ∙ row_here

    pub place_in : (v : Vec P Z) → v ≡ get_or vs k v → c < length v.items
    place_in v at = omega (arith, some, ap length (list_is v at))

    pub product_read : (v : Vec P Z) → v ≡ get_or vs k v → (d : P) → get_or v.items c d ≡ get_or (get_or rows r []) c d
    product_read v at d = ap (λ z. get_or z c d) (list_is v at)

    -- another element in its place
    module _ (v : Vec P Z) (at : v ≡ get_or vs k v) (p : P) where
      abbrev changed : List (Vec P Z)
      changed = slice_set vs k (with_item v c p)

      abbrev other_row : List P
      other_row = slice_set (get_or rows r []) c p

      lists_changed : items_of changed ≡ slice_set lists k other_row
      lists_changed = set_map (λ v. v.items) vs k (with_item v c p) ∙ ap (λ z. slice_set lists k (slice_set z c p)) (list_is v at)

      pub changed_own : HaveOwnLists opened (length changed)
      changed_own = subst (HaveOwnLists opened) (sym (set_length vs k (with_item v c p))) own

      pub changed_rows : rows_of changed opened ≡ slice_set rows r other_row
      changed_rows =
          ap (λ z. map (list_numbered z) opened) lists_changed
          ∙ row_set (list_numbered lists) (list_numbered (slice_set lists k other_row)) refl refl opened (length vs) own r other_row found.1 here other
          ∙ ap (λ z. slice_set z r other_row) seen
        where
          here : list_numbered (slice_set lists k other_row) (get_or opened r 0) ≡ other_row
          here = subst (λ m. list_numbered (slice_set lists k other_row) m ≡ other_row) next (get_or-set_same lists k other_row [] (omega (arith, list_in, map_length (λ (v : Vec P Z). v.items) vs)))

          other : (m : ℕ) → m ≤ length vs → m ≢ get_or opened r 0 → list_numbered (slice_set lists k other_row) m ≡ list_numbered lists m
          other zero l n = refl
          other (suc j) l n = get_or-set_other lists k j other_row [] (λ e. n (ap suc e ∙ next))

  -- one more list, for row r
  module _ (r : ℕ) (inside : r < length rows) (v : Vec P Z) where
    pub in_opened : r < length opened
    in_opened = omega (arith, inside, ap length seen, map_length (list_numbered lists) opened)

    pub opened_own : HaveOwnLists (slice_set opened r (length vs + 1)) (length vs + 1)
    opened_own = own_added (list_numbered lists) (list_numbered lists) refl refl opened (length vs) own r v.items in_opened

    pub opened_rows : rows_of (vs ++ (v ∷ [])) (slice_set opened r (length vs + 1)) ≡ slice_set rows r v.items
    opened_rows =
        ap (λ z. map (list_numbered z) (slice_set opened r (length vs + 1))) (map_more (λ v. v.items) vs v)
        ∙ row_added (list_numbered lists) (list_numbered (lists ++ (v.items ∷ []))) refl refl opened (length vs) own r v.items in_opened here before
        ∙ ap (λ z. slice_set z r v.items) seen
      where
        number : length vs + 1 ≡ suc (length lists)
        number = omega (arith, map_length (λ (v : Vec P Z). v.items) vs)

        here : list_numbered (lists ++ (v.items ∷ [])) (length vs + 1) ≡ v.items
        here = ap (λ n. list_numbered (lists ++ (v.items ∷ [])) n) number ∙ at_end lists v.items []

        before : (m : ℕ) → m ≤ length vs → list_numbered (lists ++ (v.items ∷ [])) m ≡ list_numbered lists m
        before zero l = refl
        before (suc j) l = at_more lists v.items [] j (omega (arith, l, map_length (λ (v : Vec P Z). v.items) vs))
