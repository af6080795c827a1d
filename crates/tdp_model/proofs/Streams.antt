-- What the queues of a product and of a group enumerate: the rankings of the sums and of the group.
use Rattle.std.proofs.Common.{◌≡◌, ℕ, ◌<◌, ◌≤◌, cond, nat_lt, List, length, get_or, sym, ap, ◌∙◌, subst, inl, inr, arith}
use Rattle.std.proofs.lemmas.Bool.{cases_lt}
use Rattle.std.proofs.lemmas.Bool.Decides.{nat_tests}
use Rattle.rankings.specs.Order.{IsOrder, IsAscending, IsRanking}
use Rattle.tdp_model.specs.Remains.{Remains}
use Rattle.tdp_model.specs.Product.{Pair, pair_key, is_pair, is_run, run_key}
use Rattle.tdp_model.proofs.Keys.{ascending_below}
use Rattle.rankings.proofs.Members.{get_member, member_get}

-- a place of an ascending list is determined by the key there
pub ascending_place : {K : Type 0} (Below : K → K → Type 0) (o : IsOrder K Below) (xs : List K) (i j : ℕ) (d : K) → IsAscending Below xs → i < length xs → j < length xs → get_or xs i d ≡ get_or xs j d → i ≡ j
ascending_place Below o xs i j d a l h e = elim (cases_lt i j) [
  | inl p ↦ absurd (o.irreflexive (get_or xs i d) (subst (λ z. Below (get_or xs i d) z) (sym e) (ascending_below Below xs i j d a p h)))
  | inr g ↦ elim (cases_lt j i) [
    | inl p ↦ absurd (o.irreflexive (get_or xs j d) (subst (λ z. Below (get_or xs j d) z) e (ascending_below Below xs j i d a p l)))
    | inr s ↦ omega arith
  ]
]

inside_numbers : (x m y n : ℕ) → 0 < cond (nat_lt x m) (cond (nat_lt y n) 1 0) 0 → (x < m) × (y < n)
inside_numbers x m y n h = (grind (arith, nat_tests), grind (arith, nat_tests))

inside_yes : (x m y n : ℕ) → x < m → y < n → 0 < cond (nat_lt x m) (cond (nat_lt y n) 1 0) 0
inside_yes x m y n a b = grind (arith, nat_tests)

inside_once : (x m y n : ℕ) → cond (nat_lt x m) (cond (nat_lt y n) 1 0) 0 ≤ 1
inside_once x m y n = grind (arith, nat_tests)

pair_of : ℕ → ℕ → Pair
pair_of i j = record { left = i; right = j }

same_pairs : (p q : Pair) → p.left ≡ q.left → p.right ≡ q.right → p ≡ q
unfolding pair_of
same_pairs p q e f = let g : pair_of p.left p.right ≡ pair_of q.left q.right = ap (λ i. pair_of i p.right) e ∙ ap (λ j. pair_of q.left j) f in g

-- The pairs of places of two rankings, with sums that determine their parts, have the ranking of the sums.
pub product_remains : {K : Type 0} (Below : K → K → Type 0) (add : K → K → K) (none : K) (o : IsOrder K Below) (HasA HasB HasC : K → Type 0) (xs ys zs : List K)
    → IsRanking K Below HasA xs → IsRanking K Below HasB ys → IsRanking K Below HasC zs
    → ((a b : K) → HasA a → HasB b → HasC (add a b)) → ((k : K) → HasC k → (a : K) × (b : K) × HasA a × HasB b × (k ≡ add a b))
    → ((a a' b b' : K) → HasA a → HasA a' → HasB b → HasB b' → add a b ≡ add a' b' → (a ≡ a') × (b ≡ b'))
    → Remains Pair K Below (pair_key add none xs ys) (is_pair (length xs) (length ys)) zs
product_remains {K} Below add none o HasA HasB HasC xs ys zs ra rb rc join split apart = record {
  once = λ p. inside_once p.left (length xs) p.right (length ys);
  apart = λ p q a b e.
      let la : (p.left < length xs) × (p.right < length ys) = inside_numbers p.left (length xs) p.right (length ys) a in
      let lb : (q.left < length xs) × (q.right < length ys) = inside_numbers q.left (length xs) q.right (length ys) b in
      let s : (get_or xs p.left none ≡ get_or xs q.left none) × (get_or ys p.right none ≡ get_or ys q.right none) =
      apart _ _ _ _ (ra.sound _ (get_member xs p.left none la.0)) (ra.sound _ (get_member xs q.left none lb.0))
      (rb.sound _ (get_member ys p.right none la.1)) (rb.sound _ (get_member ys q.right none lb.1)) e in
      same_pairs p q (ascending_place Below o xs p.left q.left none ra.ascending la.0 lb.0 s.0) (ascending_place Below o ys p.right q.right none rb.ascending la.1 lb.1 s.1);
  ascending = rc.ascending;
  complete = λ p a.
      let la : (p.left < length xs) × (p.right < length ys) = inside_numbers p.left (length xs) p.right (length ys) a in
      rc.complete _ (join _ _ (ra.sound _ (get_member xs p.left none la.0)) (rb.sound _ (get_member ys p.right none la.1)));
  sound = λ k h.
      let s : (a : K) × (b : K) × HasA a × HasB b × (k ≡ add a b) = split k (rc.sound k h) in
      let x : (i : ℕ) × (i < length xs) × (get_or xs i none ≡ s.0) = member_get xs s.0 none (ra.complete s.0 s.2) in
      let y : (i : ℕ) × (i < length ys) × (get_or ys i none ≡ s.1) = member_get ys s.1 none (rb.complete s.1 s.3) in (
        record { left = x.0; right = y.0 },
        inside_yes x.0 (length xs) y.0 (length ys) x.1 y.1,
        ap (λ z. add z (get_or ys y.0 none)) x.2 ∙ ap (λ z. add s.0 z) y.2 ∙ sym s.4,
      );
}

-- The places of the rankings of a group's rows have the ranking of the group.
pub group_remains : {K : Type 0} (Below : K → K → Type 0) (none : K) (o : IsOrder K Below) (n : ℕ) (Has : ℕ → K → Type 0) (HasC : K → Type 0) (lists : ℕ → List K) (zs : List K)
    → ((i : ℕ) → i < n → IsRanking K Below (Has i) (lists i)) → IsRanking K Below HasC zs
    → ((i : ℕ) (k : K) → i < n → Has i k → HasC k) → ((k : K) → HasC k → (i : ℕ) × (i < n) × Has i k)
    → ((i j : ℕ) (k : K) → i < n → j < n → Has i k → Has j k → i ≡ j)
    → Remains Pair K Below (run_key none lists) (is_run n (λ i. length (lists i))) zs
group_remains {K} Below none o n Has HasC lists zs rows rc join split apart = record {
  once = λ p. inside_once p.left n p.right (length (lists p.left));
  apart = λ p q a b e.
      let la : (p.left < n) × (p.right < length (lists p.left)) = inside_numbers p.left n p.right (length (lists p.left)) a in
      let lb : (q.left < n) × (q.right < length (lists q.left)) = inside_numbers q.left n q.right (length (lists q.left)) b in
      let ha : Has p.left (run_key none lists p) = (rows p.left la.0).sound _ (get_member (lists p.left) p.right none la.1) in
      let hb : Has q.left (run_key none lists q) = (rows q.left lb.0).sound _ (get_member (lists q.left) q.right none lb.1) in
      let s : p.left ≡ q.left = apart p.left q.left (run_key none lists p) la.0 lb.0 ha (subst (λ z. Has q.left z) (sym e) hb) in
      let t : get_or (lists p.left) p.right none ≡ get_or (lists p.left) q.right none = e ∙ ap (λ z. get_or (lists z) q.right none) (sym s) in
      let u : length (lists p.left) ≡ length (lists q.left) = ap (λ z. length (lists z)) s in
      same_pairs p q s (ascending_place Below o (lists p.left) p.right q.right none (rows p.left la.0).ascending la.1 (omega (arith, lb.1, u)) t);
  ascending = rc.ascending;
  complete = λ p a.
      let la : (p.left < n) × (p.right < length (lists p.left)) = inside_numbers p.left n p.right (length (lists p.left)) a in
      rc.complete _ (join p.left _ la.0 ((rows p.left la.0).sound _ (get_member (lists p.left) p.right none la.1)));
  sound = λ k h.
      let s : (i : ℕ) × (i < n) × Has i k = split k (rc.sound k h) in
      let x : (j : ℕ) × (j < length (lists s.0)) × (get_or (lists s.0) j none ≡ k) = member_get (lists s.0) k none ((rows s.0 s.1).complete k s.2) in
      (record { left = s.0; right = x.0 }, inside_yes s.0 n x.0 (length (lists s.0)) s.1 x.1, x.2);
}
