-- The last nodes, from the last one back.
use Rattle.std.proofs.Common.{◌≡◌, ◌≢◌, ℕ, zero, suc, ◌+◌, ◌-◌, ◌*◌, ◌<◌, ◌≤◌, List, [], ◌∷◌, length, get_or, drop, sum_by, sym, ap, subst, ◌∙◌, arith}
use Rattle.std.proofs.Math.Nat.{mul-le-mul_left}
use Rattle.std.proofs.lemmas.List.Sums.{sum_by-cons}
use Rattle.tdp_core.specs.RawView.{RawView}
use Rattle.tdp_core.specs.TreeView.{NodeView}
use Rattle.semi_join.specs.Reduction.{AreFew, IsReducedNode, group_links}

module _ {R : Type 0} (raw : RawView R) where
  -- the links of the groups of each of the last n nodes
  abbrev pub links_last : ℕ → List (List ℕ)
  links_last zero = []
  links_last (suc n) = group_links raw (length raw.shapes - suc n) (links_last n) ∷ links_last n

  -- the parts are those of the last n nodes
  pub record AreReducedLast (n : ℕ) (parts : List (NodeView R)) : Type 0 where
    pub size : length parts ≡ n
    pub node : (k : ℕ) (part : NodeView R) → k < n → part ≡ get_or parts k part → IsReducedNode raw (length raw.shapes - n + k) (links_last (n - suc k)) part

pub rows_more : {X : Type 0} (rows : List (List X)) (v : ℕ) → v < length rows → sum_by length (drop v rows) ≡ length (get_or rows v []) + sum_by length (drop (suc v) rows)
rows_more [] v h = absurd (omega arith)
rows_more (n ∷ rows) zero h = sum_by-cons length n rows
rows_more (n ∷ rows) (suc v) h = let less : v < length rows = omega arith in rows_more rows v less

module _ {R : Type 0} (raw : RawView R) where
  -- the parts of no nodes
  pub from_none : (node : ℕ) (parts : List (NodeView R)) → node ≡ length raw.shapes → parts ≡ [] → AreReducedLast raw (length raw.shapes - node) parts
  from_none node parts all none =
      let count : length parts ≡ 0 = ap length none in
      record { size = omega (arith, count, all); node = λ k part l. absurd (omega (arith, l, all)) }

  pub links_none : (node : ℕ) (later : List (List ℕ)) → node ≡ length raw.shapes → later ≡ [] → later ≡ links_last raw (length raw.shapes - node)
  links_none node later all none =
      let zero_left : 0 ≡ length raw.shapes - node = omega (arith, all) in
      none ∙ ap (links_last raw) zero_left

  pub from_more : (n v : ℕ) (part : NodeView R) (parts : List (NodeView R)) → v + suc n ≡ length raw.shapes → AreReducedLast raw n parts → IsReducedNode raw v (links_last raw n) part → AreReducedLast raw (suc n) (part ∷ parts)
  from_more n v part parts s later here = record {
    size = ap suc later.size;
    node = at;
  }
    where
      at : (k : ℕ) (p : NodeView R) → k < suc n → p ≡ get_or (part ∷ parts) k p → IsReducedNode raw (length raw.shapes - suc n + k) (links_last raw (suc n - suc k)) p
      at zero p h e =
          let one : v ≡ length raw.shapes - suc n + 0 = omega arith in
          let two : n ≡ suc n - 1 = omega arith in
          subst (λ u. IsReducedNode raw u (links_last raw (suc n - 1)) p) one (subst (λ l. IsReducedNode raw v (links_last raw l) p) two (subst (IsReducedNode raw v (links_last raw n)) (sym e) here))
      at (suc k) p h e =
          let less : k < n = omega arith in
          let one : length raw.shapes - n + k ≡ length raw.shapes - suc n + suc k = omega arith in
          let two : n - suc k ≡ suc n - suc (suc k) = omega arith in
          subst (λ u. IsReducedNode raw u (links_last raw (suc n - suc (suc k))) p) one (subst (λ l. IsReducedNode raw (length raw.shapes - n + k) (links_last raw l) p) two (later.node k p less e))

  pub links_more : (n v : ℕ) (links : List ℕ) (later : List (List ℕ)) → v + suc n ≡ length raw.shapes → later ≡ links_last raw n → links ≡ group_links raw v later → (links ∷ later) ≡ links_last raw (suc n)
  links_more n v links later s e k =
      let one : length raw.shapes - suc n ≡ v = omega arith in
      ap (λ l. links ∷ l) e ∙ ap (λ x. x ∷ links_last raw n) (k ∙ ap (group_links raw v) e ∙ ap (λ u. group_links raw u (links_last raw n)) (sym one))

pub few_none : (later : List (List ℕ)) → later ≡ [] → AreFew later
few_none later none = λ k d l. absurd (omega (arith, l, ap length none))

pub few_more : (links : List ℕ) (later : List (List ℕ)) → length links ≤ 4194304 → AreFew later → AreFew (links ∷ later)
few_more links later h few = at
  where
    at : (k : ℕ) (d : List ℕ) → k < length (links ∷ later) → length (get_or (links ∷ later) k d) ≤ 4194304
    at zero d l = h
    at (suc k) d l = let less : k < length later = omega arith in few k d less

pub rows_all : {X : Type 0} (rows : List (List X)) (v : ℕ) → sum_by length (drop v rows) ≤ sum_by length rows
rows_all [] zero = omega arith
rows_all [] (suc v) = omega arith
rows_all (n ∷ rows) zero = omega arith
rows_all (n ∷ rows) (suc v) = omega (arith, rows_all rows v, sum_by-cons length n rows)

-- the steps of one more node
pub steps_more : {X : Type 0} (rows : List (List X)) (v node m start s0 s1 : ℕ) → v < length rows → node ≡ suc v → s0 ≤ start + sum_by length (drop node rows) * m → s1 ≤ s0 + length (get_or rows v []) * m
    → s1 ≤ start + sum_by length (drop v rows) * m
steps_more rows v node m start s0 s1 less is before one =
    let more = ap (λ x. x * m) (rows_more rows v less ∙ ap (λ k. length (get_or rows v []) + sum_by length (drop k rows)) (sym is)) in
    omega (arith, more, before, one)

-- and they are few
pub steps_few : {X : Type 0} (rows : List (List X)) (v m start s : ℕ) → s ≤ start + sum_by length (drop v rows) * m → s ≤ start + 2 * m * (1 + sum_by length rows)
steps_few rows v m start s h = let most = mul-le-mul_left m (rows_all rows v) in omega (arith, h, most)

-- # One node down, in plain numbers

pub record IsStepDown (node n : ℕ) : Type 0 where
  pub below : node - 1 < n
  pub is : node ≡ suc (node - 1)
  pub first : node - 1 < node
  pub sum : (node - 1) + suc (n - node) ≡ n
  pub more : suc (n - node) ≡ n - (node - 1)

pub step_down : (node later n : ℕ) → 0 < node → node + later ≡ n → IsStepDown node n
step_down node later n some count =
    record { below = omega (arith, some, count); is = omega (arith, some); first = omega (arith, some); sum = omega (arith, some, count); more = omega (arith, some, count) }

pub count_down : (node later more n : ℕ) → 0 < node → node + later ≡ n → more ≡ suc later → node - 1 + more ≡ n
count_down node later more n some count one = omega (arith, some, count, one)

pub less_apart : (u v : ℕ) → u < v → u ≢ v
less_apart u v l e = omega (arith, l, e)

pub less_before : (u node : ℕ) → u < node - 1 → u < node
less_before u node l = omega (arith, l)
