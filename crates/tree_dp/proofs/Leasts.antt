-- Lists of the least ranks of groups: one more group, one more node, and how they are read.
use Rattle.std.proofs.Common.{◌≡◌, ◌≢◌, ℕ, suc, ◌+◌, ◌-◌, ◌<◌, List, [], ◌∷◌, ◌++◌, length, map, get_or, sym, ap, subst, ◌∙◌, inl, inr, arith}
use Rattle.std.proofs.Math.ListN.{set, get_or-append}
use Rattle.std.proofs.Math.Seq.{get_or-append_seam}
use Rattle.std.specs.declared.vec.Vec.{Vec}
use Rattle.std.proofs.lemmas.Bool.{cases_eq}
use Rattle.std.proofs.lemmas.List.{length-map, map-append, get_or-map, get_or-set_same, get_or-set_other}
use Rattle.tdp_model.specs.KeyTuple.{KeyOf, key_none}
use Rattle.tdp_core.specs.TreeView.{NodeView, node_at, group_count, members, best}
use Rattle.tree_dp.specs.Orders.{key_at}
use Rattle.tree_dp.specs.Progress.{AreLeastsFrom}

module _ {R : Type 0} (d : ℕ) (key : R → KeyOf d 16) where
  key_at_front : (xs : List R) (x : R) (i : ℕ) → i < length xs → key_at d key (xs ++ x ∷ []) i ≡ key_at d key xs i
  key_at_front xs x i l =
      ap (λ ks. get_or ks i (key_none d 16)) (map-append key xs (x ∷ [])) ∙ get_or-append (map key xs) (key x ∷ []) (key_none d 16) i (omega (arith, l, length-map xs key))

  key_at_last : (xs : List R) (x : R) (n : ℕ) → length xs ≡ n → key_at d key (xs ++ x ∷ []) n ≡ key x
  key_at_last xs x n long =
      ap (λ ks. get_or ks n (key_none d 16)) (map-append key xs (x ∷ []))
      ∙ ap (λ k. get_or (map key xs ++ key x ∷ []) k (key_none d 16)) (sym long ∙ sym (length-map xs key))
      ∙ get_or-append_seam (map key xs) (key x) [] (key_none d 16)

  -- one more group gets its order, and its least rank is put last
  pub leasts_pushed : (best leasts : List R) (least : R) (gs : List (List ℕ)) (n : ℕ) (new : List ℕ) → n < length gs → length leasts ≡ n
      → ((m : ℕ) → m < n → key_at d key leasts m ≡ key_at d key best (get_or (get_or gs m []) 0 0)) → key least ≡ key_at d key best (get_or new 0 0)
      → (m : ℕ) → m < n + 1 → key_at d key (leasts ++ least ∷ []) m ≡ key_at d key best (get_or (get_or (set gs n new) m []) 0 0)
  leasts_pushed best leasts least gs n new l long earlier here m h = elim (cases_eq m n) [
    | inl e ↦ subst (λ k. key_at d key (leasts ++ least ∷ []) k ≡ key_at d key best (get_or (get_or (set gs n new) k []) 0 0)) (sym e)
        (key_at_last leasts least n long ∙ here ∙ ap (λ xs. key_at d key best (get_or xs 0 0)) (sym (get_or-set_same gs n new [] l)))
    | inr other ↦ key_at_front leasts least m (omega arith) ∙ earlier m (omega arith) ∙ ap (λ xs. key_at d key best (get_or xs 0 0)) (sym (get_or-set_other gs n m new [] other))
  ]

-- a list that stands first, and the others behind it
first_list : {X : Type 0} (x : List X) (xs : List (List X)) (v w : ℕ) → w ≡ v → get_or (x ∷ xs) (w - v) [] ≡ x
first_list x xs v w e = let none : w - v ≡ 0 = omega arith in ap (λ k. get_or (x ∷ xs) k []) none

other_list : {X : Type 0} (x : List X) (xs : List (List X)) (v w : ℕ) → v < w → get_or (x ∷ xs) (w - v) [] ≡ get_or xs (w - (v + 1)) []
other_list x xs v w l = let more : w - v ≡ suc (w - (v + 1)) = omega arith in ap (λ k. get_or (x ∷ xs) k []) more

-- the least ranks of one more node, where only that node is put into another order
pub leasts_next : {R : Type 0} (d : ℕ) (key : R → KeyOf d 16) (t u : List (NodeView R)) (v : ℕ) (own : List R) (leasts : List (List R)) → length u ≡ length t
    → ((w : ℕ) → w ≢ v → node_at u w ≡ node_at t w) → v < length t → AreLeastsFrom d key t (v + 1) leasts → length own ≡ group_count u v
    → ((g : ℕ) → g < group_count u v → key_at d key own g ≡ best u d key v (get_or (members u v g) 0 0)) → AreLeastsFrom d key u v (own ∷ leasts)
leasts_next {R} d key t u v own leasts count others inside later long least = record {
  all_nodes = omega (arith, count, later.all_nodes);
  all_groups = λ w l h. elim (cases_eq w v) [
    | inl e ↦ ap length (first_list own leasts v w e) ∙ long ∙ ap (group_count u) (sym e)
    | inr other ↦ ap length (other_list own leasts v w (omega arith)) ∙ later.all_groups w (omega arith) (omega (arith, count)) ∙ ap (λ n. length n.groups) (sym (others w other))
  ];
  firsts = λ w g l h some. elim (cases_eq w v) [
    | inl e ↦ ap (λ xs. key_at d key xs g) (first_list own leasts v w e)
        ∙ subst (λ k. key_at d key own g ≡ best u d key k (get_or (members u k g) 0 0)) (sym e) (least g (subst (λ k. g < group_count u k) e some))
    | inr other ↦ ap (λ xs. key_at d key xs g) (other_list own leasts v w (omega arith))
        ∙ later.firsts w g (omega arith) (omega (arith, count)) (subst (λ n. g < length n.groups) (others w other) some)
        ∙ ap (λ n. key_at d key n.best (get_or (get_or n.groups g []) 0 0)) (sym (others w other))
  ];
}

-- a list that stands in a vector of its own
vector_read : {X Z : Type 0} (vs : List (Vec X Z)) (k : ℕ) (v : Vec X Z) → k < length vs → v ≡ get_or vs k v → get_or (map (λ u. u.items) vs) k [] ≡ v.items
vector_read vs k v l is = get_or-map (λ u. u.items) vs k v [] l ∙ ap (λ u. u.items) (sym is)

module _ {R Z : Type 0} (d : ℕ) (key : R → KeyOf d 16) (t : List (NodeView R)) (v : ℕ) (vs : List (Vec R Z)) (leasts : AreLeastsFrom d key t (v + 1) (map (λ u. u.items) vs)) (q : ℕ) (after : v < q)
    (inside : q < length t) where
  -- the list of a later node is among them
  pub node_within : q - v - 1 < length vs
  node_within = omega (arith, leasts.all_nodes, length-map vs (λ u. u.items), after, inside)

  module _ (own : Vec R Z) (is : own ≡ get_or vs (q - v - 1) own) where
    own_is_lem : get_or (map (λ u. u.items) vs) (q - (v + 1)) [] ≡ own.items
    own_is_lem = let place : q - (v + 1) ≡ q - v - 1 = omega arith in ap (λ k. get_or (map (λ u. u.items) vs) k []) place ∙ vector_read vs (q - v - 1) own node_within is

    pub group_within_lem : (g : ℕ) → g < group_count t q → g < length own.items
    group_within_lem g l = omega (arith, l, ap length own_is_lem, leasts.all_groups q (omega arith) inside)

    -- the least key of a group of a later node
    pub least_at : (g : ℕ) → g < group_count t q → key_at d key own.items g ≡ best t d key q (get_or (members t q g) 0 0)
    least_at g l = ap (λ xs. key_at d key xs g) (sym own_is_lem) ∙ leasts.firsts q g (omega arith) inside l
