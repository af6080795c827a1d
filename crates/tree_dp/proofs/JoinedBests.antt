-- The bests of a node's rows, with the least keys of one child's groups after the other.
use Rattle.std.proofs.Common.{◌≡◌, ◌≢◌, ℕ, suc, ◌+◌, ◌-◌, ◌*◌, ◌<◌, ◌≤◌, List, [], ◌∷◌, length, map, get_or, refl, sym, ap, subst, ◌∙◌, arith}
use Rattle.std.proofs.Math.ListN.{set}
use Rattle.std.proofs.Math.Nat.{mul-le-mul_left}
use Rattle.std.specs.declared.vec.Vec.{Vec}
use Rattle.std.proofs.lemmas.List.{get_or-map, get_or-set_other, get_or-set_same, length-map, map-set}
use Rattle.tdp_model.specs.KeyTuple.{KeyOf, key_below, key_add, key_none}
use Rattle.tdp_model.proofs.KeyTuples.{tuple_keys}
use Rattle.rank_key.specs.Keys.{KeyFits}
use Rattle.tdp_core.specs.TreeView.{NodeView, best, group, group_count, group_named, kids_below, members, node_at, parent, rank, rows}
use Rattle.tdp_core.specs.WellFormed.{IsLaidOut}
use Rattle.tree_dp.specs.Orders.{joined_at, key_at}
use Rattle.tree_dp.specs.Progress.{AreLeastsFrom, IsSolvedFrom}
use Rattle.tree_dp.proofs.FirstParts.{first_part, first_part_child, first_part_none}
use Rattle.tree_dp.proofs.LaterNodes.{child_within, first_part_fits, group_is, group_within}
use Rattle.tree_dp.proofs.Leasts.{group_within_lem, least_at}

module _ {R : Type 0} (d : ℕ) (key : R → KeyOf d 16) where
  pub key_read : (xs : List R) (i : ℕ) (x : R) → i < length xs → x ≡ get_or xs i x → key_at d key xs i ≡ key x
  key_read xs i x inside is = get_or-map key xs i x (key_none d 16) inside ∙ ap key (sym is)

  pub key_set : (xs : List R) (i : ℕ) (x : R) → i < length xs → key_at d key (set xs i x) i ≡ key x
  key_set xs i x inside = ap (λ l. get_or l i (key_none d 16)) (map-set key xs i x) ∙ get_or-set_same (map key xs) i (key x) (key_none d 16) (omega (arith, inside, length-map xs key))

  pub key_kept : (xs : List R) (i r : ℕ) (x : R) → r ≢ i → key_at d key (set xs i x) r ≡ key_at d key xs r
  key_kept xs i r x other = ap (λ l. get_or l r (key_none d 16)) (map-set key xs i x) ∙ get_or-set_other (map key xs) i r (key x) (key_none d 16) other

  keys_of_rows : {X : Type 0} (f : X → R) (xs : List X) → map key (map f xs) ≡ map (λ x. key (f x)) xs
  keys_of_rows f [] = refl
  keys_of_rows f (x ∷ xs) = ap (λ l. key (f x) ∷ l) (keys_of_rows f xs)

  -- the ranks of a node's rows, before there is any child
  module _ (t : List (NodeView R)) (v r : ℕ) where
    pub none_joined : (ranks : List R) (n : ℕ) → ranks ≡ map (λ x. x.rank) (node_at t v).rows → n ≡ 0
        → key_at d key ranks r ≡ first_part (key_below d 16) (key_add d 16) (key_none d 16) (tuple_keys d 16) (length t) (parent t) (rank t d key) (group t) (best t d key) v r n
    none_joined ranks n is zero =
        ap (λ l. key_at d key l r) is ∙ ap (λ l. get_or l r (key_none d 16)) (keys_of_rows (λ x. x.rank) (node_at t v).rows)
        ∙ sym (first_part_none (key_below d 16) (key_add d 16) (key_none d 16) (tuple_keys d 16) (length t) (parent t) (rank t d key) (group t) (best t d key) v r)
        ∙ ap (first_part (key_below d 16) (key_add d 16) (key_none d 16) (tuple_keys d 16) (length t) (parent t) (rank t d key) (group t) (best t d key) v r) (sym zero)

-- a child q of node v, whose list of least ranks is `own`, and a row r of v
module _ {R Z : Type 0} (d : ℕ) (key : R → KeyOf d 16) (t : List (NodeView R)) (laid : IsLaidOut d key t) (v : ℕ) (up : v < length t) (vs : List (Vec R Z)) (leasts : AreLeastsFrom d key t (v + 1) (map (λ u. u.items) vs))
    (q : ℕ) (after : v < q) (inside : q < length t) (is : parent t q ≡ v) (own : Vec R Z) (read : own ≡ get_or vs (q - v - 1) own) (named : List (List ℕ)) (names : named ≡ (node_at t v).to_child)
    (place : ℕ) (placed : place ≡ kids_below (parent t) v q) (r : ℕ) (row : r < rows t v) where
  some : 0 < q
  some = omega (arith, after)

  group_here : get_or (get_or named r []) place 0 ≡ group_named t v r (kids_below (parent t) v q)
  group_here = ap (λ l. get_or (get_or l r []) place 0) names ∙ ap (group_named t v r) placed

  pub place_there : place < length (get_or named r [])
  place_there = subst (λ l. place < length (get_or l r [])) (sym names) (subst (λ p. p < length (get_or (node_at t v).to_child r [])) (sym placed) (child_within d key t laid v r q some inside up is row))

  within : get_or (get_or named r []) place 0 < group_count t q
  within = subst (λ x. x < group_count t q) (sym group_here) (group_within d key t laid v r q some inside is row)

  pub group_there : get_or (get_or named r []) place 0 < length own.items
  group_there = group_within_lem d key t v vs leasts q after inside own read (get_or (get_or named r []) place 0) within

  pub one_joined : (ranks : List R) → key_at d key ranks r
      ≡ first_part (key_below d 16) (key_add d 16) (key_none d 16) (tuple_keys d 16) (length t) (parent t) (rank t d key) (group t) (best t d key) v r (q - suc v)
      → joined_at d key ranks named place own.items r
      ≡ first_part (key_below d 16) (key_add d 16) (key_none d 16) (tuple_keys d 16) (length t) (parent t) (rank t d key) (group t) (best t d key) v r (suc (q - suc v))
  one_joined ranks before =
      let at : q ≡ suc v + (q - suc v) = omega (arith, after) in
      let least : key_at d key own.items (get_or (get_or named r []) place 0) ≡ best t d key q (get_or (group t q r) 0 0) =
      least_at d key t v vs leasts q after inside own read (get_or (get_or named r []) place 0) within
      ∙ ap (λ x. best t d key q (get_or (members t q x) 0 0)) group_here
      ∙ ap (λ l. best t d key q (get_or l 0 0)) (sym (group_is d key t laid v r q some is)) in
      ap (λ k. key_add d 16 k (key_at d key own.items (get_or (get_or named r []) place 0))) before
      ∙ ap (key_add d 16 (first_part (key_below d 16) (key_add d 16) (key_none d 16) (tuple_keys d 16) (length t) (parent t) (rank t d key) (group t) (best t d key) v r (q - suc v))) least
      ∙ sym (first_part_child (key_below d 16) (key_add d 16) (key_none d 16) (tuple_keys d 16) (length t) (parent t) (rank t d key) (group t) (best t d key) v r (q - suc v) q at is)

  pub joined_fits : IsSolvedFrom d key t (v + 1) → (ranks : List R) → key_at d key ranks r
      ≡ first_part (key_below d 16) (key_add d 16) (key_none d 16) (tuple_keys d 16) (length t) (parent t) (rank t d key) (group t) (best t d key) v r (q - suc v)
      → KeyFits d key (joined_at d key ranks named place own.items r)
  joined_fits solved ranks before =
      let later = subst (IsSolvedFrom d key t) (let e : v + 1 ≡ suc v = omega arith in e) solved in
      let few : suc (q - suc v) ≤ length t - suc v = omega (arith, after, inside) in
      subst (KeyFits d key) (sym (one_joined ranks before)) (first_part_fits d key t laid v later r (suc (q - suc v)) up few row)

-- the steps of one child more
pub child_steps : (v q start before now n m : ℕ) → v < q → m ≡ n → before ≤ start + n * (q - suc v) → now ≤ before + m → now ≤ start + n * (q + 1 - suc v)
child_steps v q start before now n m past same h one =
    let more : q + 1 - suc v ≡ suc (q - suc v) = omega (arith, past) in
    omega (arith, h, one, same, ap (λ k. n * k) more)

pub no_child : (v q start before n : ℕ) → v < q → before ≤ start + n * (q - suc v) → before ≤ start + n * (q + 1 - suc v)
no_child v q start before n past h =
    let more : q + 1 - suc v ≡ suc (q - suc v) = omega (arith, past) in
    omega (arith, h, ap (λ k. n * k) more)

pub all_steps : (v q start now n nodes : ℕ) → q ≤ nodes → now ≤ start + n * (q - suc v) → now ≤ start + n * nodes
all_steps v q start now n nodes few h =
    let most = mul-le-mul_left n (let l : q - suc v ≤ nodes = omega (arith, few) in l) in
    omega (arith, h, most)
