-- Chains of links stay what they are when the store grows.
use Rattle.std.proofs.Common.{◌≡◌, ℕ, zero, suc, ◌+◌, ◌-◌, ◌<◌, ◌≤◌, Option, Some, None, is_some, List, [], ◌∷◌, ◌++◌, length, take, drop, refl, sym, ap, ◌∙◌, subst, arith, append_assoc}
use Rattle.std.proofs.lemmas.Bool.{false≢true}
use Rattle.std.proofs.Math.ListN.{get_or-append, set}
use Rattle.std.proofs.lemmas.List.{get_or_at, length-append}
use Rattle.stream_store.specs.declared.linked.Linked.{Linked}
use Rattle.anyk_part.specs.declared.candidate.Link.{Link}
use Rattle.tdp_model.proofs.Sums.{length_end}
use Rattle.anyk_part.specs.Chains.{link_at, chain, IsChain}

pub chain_length : (links : List (Linked Link)) (n : ℕ) (last : Option ℕ) → IsChain links n last → length (chain links n last) ≡ n
unfolding chain IsChain
chain_length links zero last h = refl
chain_length links (suc n) last h =
    ap (λ o. length (chain links (suc n) o)) h.1 ∙ length_end (chain links n (link_at links h.0).before) (link_at links h.0).row ∙ ap suc (chain_length links n (link_at links h.0).before h.3)

link_kept : (links more : List (Linked Link)) (id : ℕ) → id < length links → link_at (links ++ more) id ≡ link_at links id
link_kept links more id l = ap (λ e. e.value) (get_or-append links more _ id l)

pub IsChain-kept : (links more : List (Linked Link)) (n : ℕ) (last : Option ℕ) → IsChain links n last → IsChain (links ++ more) n last
unfolding IsChain
IsChain-kept links more zero last h = h
IsChain-kept links more (suc n) last h = (
  h.0,
  h.1,
  omega (arith, length-append links more, h.2),
  subst (λ k. IsChain (links ++ more) n k.before) (sym (link_kept links more h.0 h.2)) (IsChain-kept links more n (link_at links h.0).before h.3),
)

pub chain_kept : (links more : List (Linked Link)) (n : ℕ) (last : Option ℕ) → IsChain links n last → chain (links ++ more) n last ≡ chain links n last
unfolding chain IsChain
chain_kept links more zero last h = refl
chain_kept links more (suc n) last h =
    ap (λ o. chain (links ++ more) (suc n) o) h.1
    ∙ ap (λ k. chain (links ++ more) n k.before ++ (k.row ∷ [])) (link_kept links more h.0 h.2)
    ∙ ap (λ z. z ++ ((link_at links h.0).row ∷ [])) (chain_kept links more n (link_at links h.0).before h.3)
    ∙ sym (ap (λ o. chain links (suc n) o) h.1)

link_new : (links : List (Linked Link)) (e : Linked Link) → link_at (links ++ (e ∷ [])) (length links) ≡ e.value
link_new links e = ap (λ x. x.value) (get_or_at links e [] _ (length links) refl)

-- a chain that a new link ends
pub IsChain-new : (links : List (Linked Link)) (e : Linked Link) (n : ℕ) → IsChain links n e.value.before → IsChain (links ++ (e ∷ [])) (suc n) (Some (length links))
unfolding IsChain
IsChain-new links e n h = (
  length links,
  refl,
  omega (arith, length-append links (e ∷ [])),
  subst (λ k. IsChain (links ++ (e ∷ [])) n k.before) (sym (link_new links e)) (IsChain-kept links (e ∷ []) n e.value.before h),
)

pub chain_new : (links : List (Linked Link)) (e : Linked Link) (n : ℕ) → IsChain links n e.value.before
    → chain (links ++ (e ∷ [])) (suc n) (Some (length links)) ≡ chain links n e.value.before ++ (e.value.row ∷ [])
unfolding chain
chain_new links e n h =
    ap (λ k. chain (links ++ (e ∷ [])) n k.before ++ (k.row ∷ [])) (link_new links e)
    ∙ ap (λ z. z ++ (e.value.row ∷ [])) (chain_kept links (e ∷ []) n e.value.before h)

-- # Where a chain has a last link

abbrev id_of : Option ℕ → ℕ
id_of None = 0
id_of (Some id) = id

-- a chain has none exactly if it has no link
pub chain_ends : (links : List (Linked Link)) (n : ℕ) → IsChain links n None → n ≡ 0
unfolding IsChain
chain_ends links zero h = refl
chain_ends links (suc n) h = absurd (false≢true (ap is_some h.1))

pub chain_begins : (links : List (Linked Link)) (last : Option ℕ) → IsChain links 0 last → last ≡ None
unfolding IsChain
chain_begins links last h = h

-- # A prefix read from its last link on

pub chain_rest : (links : List (Linked Link)) (n id : ℕ) → IsChain links n (Some id) → (0 < n) × (id < length links) × IsChain links (n - 1) (link_at links id).before
unfolding IsChain
chain_rest links zero id h = absurd (false≢true (sym (ap is_some h)))
chain_rest links (suc n) id h =
    let k : suc n - 1 ≡ n = omega arith in
    let same : h.0 ≡ id = sym (ap id_of h.1) in
    (omega arith, subst (λ i. i < length links) same h.2, subst (λ z. IsChain links z (link_at links id).before) (sym k) (subst (λ i. IsChain links n (link_at links i).before) same h.3))

pub chain_split : (links : List (Linked Link)) (n id : ℕ) → 0 < n → chain links n (Some id) ≡ chain links (n - 1) (link_at links id).before ++ ((link_at links id).row ∷ [])
unfolding chain
chain_split links zero id p = absurd (omega arith)
chain_split links (suc n) id p =
    let k : suc n - 1 ≡ n = omega arith in ap (λ z. chain links z (link_at links id).before ++ ((link_at links id).row ∷ [])) (sym k)

pub drop_set : (xs : List ℕ) (k count r : ℕ) → k < count → count ≤ length xs → drop k (take count (set xs k r)) ≡ r ∷ drop (k + 1) (take count xs)
drop_set [] k count r l h = absurd (omega arith)
drop_set (x ∷ xs) k zero r l h = absurd (omega arith)
drop_set (x ∷ xs) zero (suc count) r l h = refl
drop_set (x ∷ xs) (suc k) (suc count) r l h =
    let e : suc (k + 1) ≡ suc k + 1 = omega arith in
    drop_set xs k count r (omega arith) (omega arith) ∙ ap (λ z. r ∷ drop z (x ∷ take count xs)) e

pub prefix_turn : (links : List (Linked Link)) (chosen all : List ℕ) (n count id : ℕ) → 0 < n → n ≤ count → count ≤ length chosen
    → all ≡ chain links n (Some id) ++ drop n (take count chosen)
    → all ≡ chain links (n - 1) (link_at links id).before ++ drop (n - 1) (take count (set chosen (n - 1) (link_at links id).row))
prefix_turn links chosen all n count id p l h h0 =
    let row : ℕ = (link_at links id).row in
    let k : n ≡ (n - 1) + 1 = omega arith in
    h0
    ∙ ap (λ z. z ++ drop n (take count chosen)) (chain_split links n id p)
    ∙ append_assoc (chain links (n - 1) (link_at links id).before) (row ∷ []) (drop n (take count chosen))
    ∙ ap (λ m. chain links (n - 1) (link_at links id).before ++ (row ∷ drop m (take count chosen))) k
    ∙ ap (λ z. chain links (n - 1) (link_at links id).before ++ z) (sym (drop_set chosen (n - 1) count row (omega arith) h))

pub prefix_end : (links : List (Linked Link)) (all ys : List ℕ) (n : ℕ) → n ≡ 0 → all ≡ chain links n None ++ drop n ys → ys ≡ all
unfolding chain
prefix_end links all ys zero l e = sym e
prefix_end links all ys (suc n) l e = absurd (omega (arith, l))

-- ---- the beginning, where no row is read yet

none_left : (n : ℕ) (ys : List ℕ) → drop n (take n ys) ≡ []
none_left zero ys = refl
none_left (suc n) [] = refl
none_left (suc n) (y ∷ ys) = none_left n ys

same_end : (xs : List ℕ) → xs ≡ xs ++ []
same_end [] = refl
same_end (x ∷ xs) = ap (λ l. x ∷ l) (same_end xs)

pub prefix_start : (all ys : List ℕ) (n : ℕ) → all ≡ all ++ drop n (take n ys)
prefix_start all ys n = same_end all ∙ ap (λ l. all ++ l) (sym (none_left n ys))
