-- The links that a row names for the children of its node, one child after another.
use Rattle.std.proofs.Common.{◌≡◌, ◌≢◌, ◌<◌, ◌≤◌, ◌+◌, ◌-◌, ℕ, zero, suc, cond, nat_eq, nat_lt, List, [], ◌∷◌, ◌++◌, length, get_or, refl, sym, ap, subst, ◌∙◌, inl, inr, arith, Vec, Global}
use Rattle.std.proofs.lemmas.Bool.{cases_eq}
use Rattle.std.proofs.lemmas.List.{get_or-map, get_or_append_left, get_or_push, length-map}
use Rattle.tdp_core.specs.TreeView.{kids_below}
use Rattle.tdp_core.proofs.Children.{child_place_within, kids_below_child, kids_below_first, kids_below_other}
use Rattle.join_tree.specs.declared.tree.JoinTree.{JoinTree}
use Rattle.anyk_model.specs.Table.{Table, table_at}
use Rattle.bound_query.specs.Items.{item_at}
use Rattle.bound_query.specs.WeighedQuery.{BoundQuery, Fits}
use Rattle.node_build.specs.Columns.{HaveColumns}
use Rattle.link_index.specs.NumberedLists.{AreMore}
use Rattle.node_build.specs.Links.{IsLink, NamesLinks, values_at}
use Rattle.node_build.specs.Nodes.{item_of, parent_of}
use Rattle.node_build.specs.Rows.{lists_of}
use Rattle.node_build.proofs.Agreement.{other_inside, own_inside}
use Rattle.node_build.proofs.Numbering.{link_kept}

-- ---- the children of a node

pub kids_first : (parent : ℕ → ℕ) (v : ℕ) → kids_below parent v 1 ≡ 0
kids_first parent v = kids_below_first parent v

-- fewer children than nodes
pub kids_few : (parent : ℕ → ℕ) (v n : ℕ) → kids_below parent v (suc n) ≤ n
kids_few parent v zero = let one : suc 0 ≡ 1 = refl in omega (arith, kids_below_first parent v)
kids_few parent v (suc n) =
    let before = kids_few parent v n in
    let next : suc n + 1 ≡ suc (suc n) = omega arith in
    let same = ap (kids_below parent v) next in
    elim (cases_eq (parent (suc n)) v) [
      | inl e ↦ omega (arith, kids_below_child parent v (suc n) (omega arith) e, before, same)
      | inr e ↦ omega (arith, kids_below_other parent v (suc n) e, before, same)
    ]

pub kids_below_lem : (parent : ℕ → ℕ) (v n : ℕ) → 1 ≤ n → kids_below parent v n + 1 ≤ n
kids_below_lem parent v zero some = absurd (omega (arith, some))
kids_below_lem parent v (suc n) some = let h = kids_few parent v n in omega (arith, h)

-- the same for two functions that agree
pub kids_ap : (parent other : ℕ → ℕ) (v n : ℕ) → ((q : ℕ) → q < n → parent q ≡ other q) → kids_below parent v n ≡ kids_below other v n
unfolding kids_below
kids_ap parent other v zero e = refl
kids_ap parent other v (suc n) e =
    let here = e n (omega arith) in
    (λ j. kids_ap parent other v n (λ q l. e q (omega (arith, l))) j + cond {A = ℕ} (nat_lt 0 n) (cond {A = ℕ} (nat_eq (here j) v) 1 0) 0)

kids_more : (parent : ℕ → ℕ) (v n k : ℕ) → kids_below parent v n ≤ kids_below parent v (k + n)
unfolding kids_below
kids_more parent v n zero = let same : 0 + n ≡ n = omega arith in omega (arith, ap (kids_below parent v) same)
kids_more parent v n (suc k) =
    let next : suc k + n ≡ suc (k + n) = omega arith in
    omega (arith, ap (kids_below parent v) next, kids_more parent v n k)

-- no fewer among more nodes
pub kids_rise : (parent : ℕ → ℕ) (v n m : ℕ) → n ≤ m → kids_below parent v n ≤ kids_below parent v m
kids_rise parent v n m l =
    let all : m - n + n ≡ m = omega (arith, l) in
    omega (arith, kids_more parent v n (m - n), ap (kids_below parent v) all)

-- ---- names

module _ (bound : BoundQuery) (tables : List Table) (join : JoinTree) (own above : List (List ℕ)) where
  abbrev Names : List (List (List ℕ)) → ℕ → ℕ → ℕ → List ℕ → Type 0
  Names = NamesLinks bound tables join own above

  pub names_none : (lists : List (List (List ℕ))) (v row : ℕ) (children : List ℕ) → Names lists v row 1 children
  names_none lists v row children q some l is = absurd (omega (arith, some, l))

  pub names_skip : (lists : List (List (List ℕ))) (v row n : ℕ) (children : List ℕ) → parent_of join n ≢ v → Names lists v row n children → Names lists v row (n + 1) children
  names_skip lists v row n children other so_far q some l is = elim (cases_eq q n) [
    | inl same ↦ absurd (other (ap (parent_of join) (sym same) ∙ is))
    | inr differ ↦ so_far q some (omega (arith, l, differ)) is
  ]

  pub names_more : (old new : List (List (List ℕ))) (v row n : ℕ) (children now : List ℕ) (link : ℕ) → AreMore old new → 0 < n → parent_of join n ≡ v
      → length children ≡ kids_below (parent_of join) v n → now ≡ children ++ link ∷ [] → Names old v row n children
      → IsLink new n link (values_at bound tables join own above v row (get_or above n [])) → Names new v row (n + 1) now
  names_more old new v row n children now link more past below count is so_far here q some l up = elim (cases_eq q n) [
    | inl same ↦
        let at : length children ≡ kids_below (parent_of join) v q = count ∙ ap (kids_below (parent_of join) v) (sym same) in
        let last : get_or now (kids_below (parent_of join) v q) 0 ≡ link =
        ap (λ (xs : List ℕ). get_or xs (kids_below (parent_of join) v q) 0) is ∙ get_or_push children link 0 (kids_below (parent_of join) v q) at in
        subst (λ (k : ℕ). IsLink new q k (values_at bound tables join own above v row (get_or above q []))) (sym last)
        (subst (λ (w : ℕ). IsLink new w link (values_at bound tables join own above v row (get_or above w []))) (sym same) here)
    | inr differ ↦
        let before : q < n = omega (arith, l, differ) in
        let step = child_place_within (parent_of join) q (n - (q + 1)) some in
        let all : n - (q + 1) + (q + 1) ≡ n = omega (arith, before) in
        let e = ap (kids_below (parent_of join) (parent_of join q)) all in
        let at_v = ap (λ (w : ℕ). kids_below (parent_of join) w q) up in
        let at_n = ap (λ (w : ℕ). kids_below (parent_of join) w n) up in
        let inside : kids_below (parent_of join) v q < length children = omega (arith, step, e, at_v, at_n, count) in
        let kept : get_or now (kids_below (parent_of join) v q) 0 ≡ get_or children (kids_below (parent_of join) v q) 0 =
        ap (λ (xs : List ℕ). get_or xs (kids_below (parent_of join) v q) 0) is ∙ get_or_append_left children (link ∷ []) 0 (kids_below (parent_of join) v q) inside in
        subst (λ (k : ℕ). IsLink new q k (values_at bound tables join own above v row (get_or above q []))) (sym kept)
        (link_kept old new q (get_or children (kids_below (parent_of join) v q) 0) (values_at bound tables join own above v row (get_or above q [])) more (so_far q some before up))
  ]

-- ---- the columns of a node

-- the list in a vector of some
pub list_at : (vs : List (Vec ℕ Global)) (i : ℕ) (v : Vec ℕ Global) → i < length vs → v ≡ get_or vs i v → get_or (lists_of vs) i [] ≡ v.items
list_at vs i v inside is = get_or-map (λ (w : Vec ℕ Global). w.items) vs i v [] inside ∙ ap (λ (w : Vec ℕ Global). w.items) (sym is)

pub lists_length : (vs : List (Vec ℕ Global)) → length (lists_of vs) ≡ length vs
lists_length vs = length-map vs (λ (w : Vec ℕ Global). w.items)

module _ (bound : BoundQuery) (tables : List Table) (fits : Fits bound tables) (join : JoinTree) (own above : List (List ℕ)) (columns : HaveColumns bound join join.count own above) where
  -- the columns of a child's parent are there
  pub above_there : (q v table : ℕ) (list : List ℕ) → 0 < q → q < join.count → parent_of join q ≡ v → list ≡ get_or above q [] → table ≡ (item_at bound.query.items (item_of join v)).table
      → (k : ℕ) → k < length list → get_or list k 0 < length (table_at tables table).names
  above_there q v table list some l up is at k inside =
      let h = other_inside bound tables fits (item_of join q) (item_of join (parent_of join q)) (get_or own q []) (get_or above q []) (columns.each q some l) k
      (subst (λ (xs : List ℕ). k < length xs) is inside) in
      let there : get_or list k 0 ≡ get_or (get_or above q []) k 0 = ap (λ (xs : List ℕ). get_or xs k 0) is in
      let wide : length (table_at tables table).names ≡ length (table_at tables (item_at bound.query.items (item_of join (parent_of join q))).table).names =
      ap (λ (t : ℕ). length (table_at tables t).names) (at ∙ ap (λ (w : ℕ). (item_at bound.query.items (item_of join w)).table) (sym up)) in
      omega (arith, h, there, wide)

  -- and so are a node's own
  pub own_there : (v table : ℕ) (list : List ℕ) → v < join.count → list ≡ get_or own v [] → table ≡ (item_at bound.query.items (item_of join v)).table
      → (k : ℕ) → k < length list → get_or list k 0 < length (table_at tables table).names
  own_there v table list l is at k inside = elim (cases_eq v 0) [
    | inl root ↦
        let none : list ≡ [] = is ∙ ap (λ (w : ℕ). get_or own w []) root ∙ columns.root in
        let short : length list ≡ 0 = ap length none in
        absurd (omega (arith, inside, short))
    | inr past ↦
        let h = own_inside bound tables fits (item_of join v) (item_of join (parent_of join v)) (get_or own v []) (get_or above v []) (columns.each v (omega (arith, past)) l) k
        (subst (λ (xs : List ℕ). k < length xs) is inside) in
        let there : get_or list k 0 ≡ get_or (get_or own v []) k 0 = ap (λ (xs : List ℕ). get_or xs k 0) is in
        let wide : length (table_at tables table).names ≡ length (table_at tables (item_at bound.query.items (item_of join v)).table).names =
        ap (λ (t : ℕ). length (table_at tables t).names) at in
        omega (arith, h, there, wide)
  ]
