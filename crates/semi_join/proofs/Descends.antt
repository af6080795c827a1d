-- A row stays exactly where, for each child, some row that stays has the link that it names.
use Rattle.std.proofs.Common.{◌≡◌, ℕ, zero, suc, ◌+◌, ◌-◌, ◌<◌, ◌≤◌, ◌⊎◌, inl, inr, Bool, true, false, nat_eq, if◌then◌else◌, List, [], ◌∷◌, ◌++◌, map, length, get_or, refl, sym, ap, subst, ◌∙◌, arith}
use Rattle.std.specs.List.{list_any}
use Rattle.indexmap.specs.IndexSet.{insert_key, insert_all}
use Rattle.tdp_core.specs.RawView.{RawView, raw_len, shape_parent, child_link}
use Rattle.semi_join.specs.Reduction.{kept_rows, child_links, has_partners, group_link, child_nodes, group_links}
use Rattle.semi_join.proofs.FromLast.{links_last}
use Rattle.semi_join.proofs.Kids.{kids_after}
use Rattle.semi_join.proofs.Meets.{Stands, any_stands, stands_cond, last_cond, out_cond, met_each, each_met, kept_stands, stands_kept}

-- # Members of a list of inserted links

stands_if : (b : Bool) (ks : List ℕ) (k x : ℕ) → Stands x ks → Stands x (if b then ks else ks ++ (k ∷ []))
stands_if true ks k x s = s
stands_if false ks k x s = stands_cond true ks k x s

last_if : (b : Bool) (ks : List ℕ) (k : ℕ) → (b ≡ true → Stands k ks) → Stands k (if b then ks else ks ++ (k ∷ []))
last_if true ks k found = found refl
last_if false ks k found = last_cond true ks k refl

out_if : (b : Bool) (ks : List ℕ) (k x : ℕ) → Stands x (if b then ks else ks ++ (k ∷ [])) → Stands x ks ⊎ (x ≡ k)
out_if true ks k x s = inl s
out_if false ks k x s = elim (out_cond true ks k x s) [ inl p ↦ inl p | inr p ↦ inr p.1 ]

all_keep : (xs ks : List ℕ) (x : ℕ) → Stands x ks → Stands x (insert_all nat_eq ks xs)
all_keep [] ks x s = s
all_keep (y ∷ ys) ks x s = all_keep ys (insert_key nat_eq ks y) x (stands_if (list_any (nat_eq y) ks) ks y x s)

all_in : (xs ks : List ℕ) (x i : ℕ) → i < length xs → get_or xs i 0 ≡ x → Stands x (insert_all nat_eq ks xs)
all_in [] ks x i h e = absurd (omega arith)
all_in (y ∷ ys) ks x zero h e =
    all_keep ys (insert_key nat_eq ks y) x (subst (λ k. Stands k (insert_key nat_eq ks y)) e (last_if (list_any (nat_eq y) ks) ks y (any_stands y ks)))
all_in (y ∷ ys) ks x (suc i) h e = let less : i < length ys = omega arith in all_in ys (insert_key nat_eq ks y) x i less e

stands_cons : (x y : ℕ) (ys : List ℕ) → Stands x ys → Stands x (y ∷ ys)
stands_cons x y ys s = (suc s.0, omega (arith, s.1), s.2)

pub all_out : (xs ks : List ℕ) (x : ℕ) → Stands x (insert_all nat_eq ks xs) → Stands x ks ⊎ Stands x xs
all_out [] ks x s = inl s
all_out (y ∷ ys) ks x s = elim (all_out ys (insert_key nat_eq ks y) x s) [
  | inl p ↦ elim (out_if (list_any (nat_eq y) ks) ks y x p) [ inl q ↦ inl q | inr e ↦ inr (0, omega arith, sym e) ]
  | inr p ↦ inr (stands_cons x y ys p)
]

-- # Members of a list of values

pub map_read : (f : ℕ → ℕ) (xs : List ℕ) (i : ℕ) → i < length xs → (i < length (map f xs)) × (get_or (map f xs) i 0 ≡ f (get_or xs i 0))
map_read f [] i h = absurd (omega arith)
map_read f (x ∷ xs) zero h = (omega arith, refl)
map_read f (x ∷ xs) (suc i) h = let less : i < length xs = omega arith in let r = map_read f xs i less in (omega (arith, r.0), r.1)

pub map_within : (f : ℕ → ℕ) (xs : List ℕ) (i : ℕ) → i < length (map f xs) → i < length xs
map_within f [] i h = h
map_within f (x ∷ xs) zero h = omega arith
map_within f (x ∷ xs) (suc i) h = let less : i < length (map f xs) = omega arith in omega (arith, map_within f xs i less)

module _ {R : Type 0} (raw : RawView R) where
  -- the links of the groups of one of the last n nodes
  pub last_links_at : (n k : ℕ) → n ≤ length raw.shapes → k < n → get_or (links_last raw n) k [] ≡ group_links raw (length raw.shapes - n + k) (links_last raw (n - suc k))
  last_links_at zero k h l = absurd (omega arith)
  last_links_at (suc n) zero h l =
      let one : length raw.shapes - suc n ≡ length raw.shapes - suc n + 0 = omega arith in
      let two : n ≡ suc n - 1 = omega arith in
      ap (λ u. group_links raw u (links_last raw n)) one ∙ ap (λ j. group_links raw (length raw.shapes - suc n + 0) (links_last raw j)) two
  last_links_at (suc n) (suc k) h l =
      let less : k < n = omega arith in
      let small : n ≤ length raw.shapes = omega arith in
      let one : length raw.shapes - n + k ≡ length raw.shapes - suc n + suc k = omega arith in
      let two : n - suc k ≡ suc n - suc (suc k) = omega arith in
      last_links_at n k small less ∙ ap (λ u. group_links raw u (links_last raw (n - suc k))) one ∙ ap (λ j. group_links raw (length raw.shapes - suc n + suc k) (links_last raw j)) two

  -- the links of the groups of the nodes after v
  abbrev pub later_of : ℕ → List (List ℕ)
  later_of v = links_last raw (length raw.shapes - suc v)

  -- row r of node v stays
  pub record Stays (v r : ℕ) : Type 0 where
    pub row : r < raw_len raw v
    pub met : has_partners raw v (later_of v) r ≡ true

  -- some row of node u that stays has this own link
  abbrev pub HasLink : ℕ → ℕ → Type 0
  HasLink u x = (i : ℕ) × Stays u i × (group_link raw u i ≡ x)

  pub named_has : (u x : ℕ) → Stands x (group_links raw u (later_of u)) → HasLink u x
  named_has u x s = elim (all_out (map (group_link raw u) (kept_rows raw u (later_of u))) [] x s) [
    | inl p ↦ absurd (omega (arith, p.1))
    | inr p ↦
        let within = map_within (group_link raw u) (kept_rows raw u (later_of u)) p.0 p.1 in
        let r = map_read (group_link raw u) (kept_rows raw u (later_of u)) p.0 within in
        let i = get_or (kept_rows raw u (later_of u)) p.0 0 in
        let stays = stands_kept raw u (later_of u) (raw_len raw u) (get_or (kept_rows raw u (later_of u)) p.0 0) (p.0, within, refl) in
        (i, record { row = stays.0; met = stays.1 }, sym r.1 ∙ p.2)
  ]

  pub has_named : (u x : ℕ) → HasLink u x → Stands x (group_links raw u (later_of u))
  has_named u x s =
      let stands = kept_stands raw u (later_of u) (raw_len raw u) s.0 s.1.row s.1.met in
      let r = map_read (group_link raw u) (kept_rows raw u (later_of u)) stands.0 stands.1 in
      all_in (map (group_link raw u) (kept_rows raw u (later_of u))) [] x stands.0 r.0 (r.1 ∙ ap (group_link raw u) stands.2 ∙ s.2)

  module _ (v : ℕ) (inside : v < length raw.shapes) where
    abbrev pub child : ℕ → ℕ
    child c = get_or (child_nodes raw v) c 0

    pub links_of_child : (c : ℕ) → c < length (child_nodes raw v) → child_links raw v (later_of v) c ≡ group_links raw (child c) (later_of (child c))
    links_of_child c h =
        let after = kids_after (shape_parent raw.shapes) v (length raw.shapes - suc v) c h in
        let k = get_or (child_nodes raw v) c 0 - v - 1 in
        let small : length raw.shapes - suc v ≤ length raw.shapes = omega arith in
        let less : get_or (child_nodes raw v) c 0 - v - 1 < length raw.shapes - suc v = omega (arith, after.0, after.1) in
        let one : length raw.shapes - (length raw.shapes - suc v) + (get_or (child_nodes raw v) c 0 - v - 1) ≡ get_or (child_nodes raw v) c 0 = omega (arith, after.0, after.1) in
        let two : (length raw.shapes - suc v) - suc (get_or (child_nodes raw v) c 0 - v - 1) ≡ length raw.shapes - suc (get_or (child_nodes raw v) c 0) = omega (arith, after.0, after.1) in
        last_links_at (length raw.shapes - suc v) (get_or (child_nodes raw v) c 0 - v - 1) small less
        ∙ ap (λ u. group_links raw u (links_last raw ((length raw.shapes - suc v) - suc (get_or (child_nodes raw v) c 0 - v - 1)))) one
        ∙ ap (λ j. group_links raw (child c) (links_last raw j)) two

    -- a row that stays has, for each child, a row that stays with the link that it names
    pub stays_down : (r : ℕ) → Stays v r → (c : ℕ) → c < length (child_nodes raw v) → HasLink (child c) (child_link raw v r c)
    stays_down r s c h =
        named_has (child c) (child_link raw v r c) (subst (Stands (child_link raw v r c)) (links_of_child c h) (met_each raw v (later_of v) (length (child_nodes raw v)) r s.met c h))

    -- and a row with such rows stays
    pub stays_up : (r : ℕ) → r < raw_len raw v → ((c : ℕ) → c < length (child_nodes raw v) → HasLink (child c) (child_link raw v r c)) → Stays v r
    stays_up r h all = record {
      row = h;
      met = each_met raw v (later_of v) (length (child_nodes raw v)) r (λ c l. subst (Stands (child_link raw v r c)) (sym (links_of_child c l)) (has_named (child c) (child_link raw v r c) (all c l)));
    }
