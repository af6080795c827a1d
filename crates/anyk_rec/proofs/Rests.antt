-- The answers that are left, from call to call, and the steps of a call.
use Rattle.std.proofs.Common.{◌≡◌, ℕ, ℤ, zero, suc, ◌+◌, ◌*◌, ◌^◌, ◌<◌, ◌≤◌, cond, nat_lt, Option, Some, None, IfSome, IfNone, List, [], ◌∷◌, length, drop, get_or, refl, sym, ap, ◌∙◌, subst, arith}
use Rattle.std.proofs.lemmas.Bool.Decides.{nat_tests}
use Rattle.rank_key.specs.Bits.{bit_length}
use Rattle.rank_key.proofs.BitLemmas.{bit_length_rises, bit_length_below}
use Rattle.tdp_model.specs.KeyTuple.{KeyOf, key_none}
use Rattle.tdp_model.specs.KeyNumbers.{numbers}
use Rattle.tdp_core.specs.declared.ranked.Answer.{Answer}
use Rattle.tdp_core.specs.AnswerView.{AnswerView, rows_of_key, answers_of, answer_of}
use Rattle.tdp_core.specs.Shares.{size_of, share_of}
use Rattle.tdp_core.specs.TreeView.{NodeView, group_count, row_count}
use Rattle.tdp_core.specs.WellFormed.{IsFormed, IsTieFreeTree}
use Rattle.tdp_core.specs.Solutions.{IsTreeRanking}
use Rattle.suffix_streams.specs.Rankings.{group_list}
use Rattle.suffix_streams.specs.StreamsView.{StreamsView, AreKept, Follows, entry_group, entry_place, entry_key}
use Rattle.suffix_streams.proofs.BeginRankings.{root_list_empty, root_ranks}
use Rattle.anyk_rec.specs.RecView.{RecView, rest_of, IsRootEntry, given_of}

drop_nothing : {K : Type 0} (n : ℕ) → drop {A = K} n [] ≡ []
drop_nothing zero = refl
drop_nothing (suc n) = refl

drop_head : {K : Type 0} (xs : List K) (n m : ℕ) (d : K) → n < length xs → m ≡ n + 1 → drop n xs ≡ get_or xs n d ∷ drop m xs
drop_head [] n m d l e = absurd (omega arith)
drop_head (x ∷ xs) zero m d l e = let one : m ≡ 1 = omega arith in ap (λ z. x ∷ drop z (x ∷ xs)) (sym one)
drop_head (x ∷ xs) (suc n) m d l e = let next : m ≡ suc (n + 1) = omega arith in drop_head xs n (n + 1) d (omega arith) refl ∙ ap (λ z. get_or xs n d ∷ drop z (x ∷ xs)) (sym next)

drop_all : {K : Type 0} (xs : List K) (n : ℕ) → length xs ≡ n → drop n xs ≡ []
drop_all [] n e = drop_nothing n
drop_all (x ∷ xs) zero e = absurd (omega arith)
drop_all (x ∷ xs) (suc n) e = drop_all xs n (omega arith)

module _ {R : Type 0} (d : ℕ) (key : R → KeyOf d 16) where
  -- of a tree without solutions
  pub rest_none : (r : RecView R) → group_count r.streams.tree 0 ≡ 0 → rest_of d key r ≡ []
  rest_none r none = ap (λ ks. answers_of d (drop r.given ks)) (root_list_empty d key r.streams.tree none) ∙ ap (answers_of d) (drop_nothing r.given)

  pub rest_end : (r : RecView R) → length (group_list d key r.streams.tree 0 0) ≡ r.given → rest_of d key r ≡ []
  rest_end r e = ap (answers_of d) (drop_all (group_list d key r.streams.tree 0 0) r.given e)

  pub rest_same : (r r' : RecView R) → r'.streams.tree ≡ r.streams.tree → r'.given ≡ r.given → rest_of d key r' ≡ rest_of d key r
  rest_same r r' t g = ap (λ t. answers_of d (drop r'.given (group_list d key t 0 0))) t ∙ ap (λ n. answers_of d (drop n (group_list d key r.streams.tree 0 0))) g

  -- one more answer is given
  pub rest_next : (r r' : RecView R) (a : Answer R) (k : KeyOf d 16) → r'.streams.tree ≡ r.streams.tree → r'.given ≡ r.given + 1 → r.given < length (group_list d key r.streams.tree 0 0)
      → k ≡ get_or (group_list d key r.streams.tree 0 0) r.given (key_none d 16) → key a.rank ≡ k → a.rows ≡ rows_of_key d 16 k
      → rest_of d key r ≡ (record { rows = a.rows; key = numbers d 16 (key a.rank) }) ∷ rest_of d key r'
  rest_next r r' a k t g l e rank rows =
      ap (answers_of d) (drop_head (group_list d key r.streams.tree 0 0) r.given r'.given (key_none d 16) l g)
      ∙ ap (λ z. answer_of d z ∷ answers_of d (drop r'.given (group_list d key r.streams.tree 0 0))) (sym e)
      ∙ ap (λ t. answer_of d k ∷ answers_of d (drop r'.given (group_list d key t 0 0))) (sym t)
      ∙ ap (λ rs. seen rs (numbers d 16 k) ∷ rest_of d key r') (sym rows) ∙ ap (λ z. seen a.rows (numbers d 16 z) ∷ rest_of d key r') (sym rank)
    where
      seen : List ℕ → List ℤ → AnswerView
      seen rs ns = record { rows = rs; key = ns }

  -- the key of an entry of the root's stream
  pub root_key : (s s' : StreamsView R) (e n : ℕ) → IsRootEntry s' e → s'.tree ≡ s.tree → entry_place s' e ≡ n → entry_key d key s' e ≡ get_or (group_list d key s.tree 0 0) n (key_none d 16)
  root_key s s' e n root t p =
      ap (λ q. get_or (group_list d key s'.tree q (entry_group s' e)) (entry_place s' e) (key_none d 16)) root.node
      ∙ ap (λ g. get_or (group_list d key s'.tree 0 g) (entry_place s' e) (key_none d 16)) root.group
      ∙ ap (λ t. get_or (group_list d key t 0 0) (entry_place s' e) (key_none d 16)) t
      ∙ ap (λ n. get_or (group_list d key s.tree 0 0) n (key_none d 16)) p

  -- before the first answer
  pub rest_begins : (t : List (NodeView R)) → IsFormed d key t → IsTieFreeTree t → (r : RecView R) → r.streams.tree ≡ t → r.given ≡ 0
      → (ks : List (KeyOf d 16)) × IsTreeRanking t d key ks × (rest_of d key r ≡ answers_of d ks)
  rest_begins t formed free r e g =
      (group_list d key t 0 0, root_ranks d key t formed free, ap (λ t. answers_of d (drop r.given (group_list d key t 0 0))) e ∙ ap (λ n. answers_of d (drop n (group_list d key t 0 0))) g)

-- the last entry given keeps its place
pub given_kept : {R : Type 0} (s s' : StreamsView R) (last : Option ℕ) → AreKept s s' → IfSome last (IsRootEntry s) → given_of s' last ≡ given_of s last
given_kept s s' None k root = refl
given_kept s s' (Some e) k root = ap (λ n. n + 1) (k.places e root.within)

pub root_kept : {R : Type 0} (s s' : StreamsView R) (last : Option ℕ) → AreKept s s' → IfSome last (IsRootEntry s) → IfSome last (IsRootEntry s')
root_kept s s' None k root = tt
root_kept s s' (Some e) k root = record { within = omega (arith, root.within, k.longer); node = k.nodes e root.within ∙ root.node; group = k.groups e root.within ∙ root.group }

-- the entry after one of the root's stream
module _ {R : Type 0} (d : ℕ) (key : R → KeyOf d 16) (s s' : StreamsView R) (e : ℕ) (kept : AreKept s s') (root : IsRootEntry s e) where
  -- e in the streams that may have grown
  still : IsRootEntry s' e
  still = root_kept s s' (Some e) kept root

  pub next_root : (o : Option ℕ) → Follows d key s' e o → IfSome o (IsRootEntry s')
  next_root None f = tt
  next_root (Some n) f = record { within = f.0.within; node = f.0.node ∙ still.node; group = f.0.group ∙ still.group }

  pub next_place : s'.tree ≡ s.tree → (o : Option ℕ) → Follows d key s' e o → IfSome o (λ n. (entry_place s' n ≡ entry_place s e + 1) × (entry_place s' n < length (group_list d key s.tree 0 0)))
  next_place same None f = tt
  next_place same (Some n) f =
      let own = next_root (Some n) f in (
        f.0.place ∙ ap (λ k. k + 1) (kept.places e root.within),
        subst (λ t. entry_place s' n < length (group_list d key t 0 0)) same
            (subst (λ g. entry_place s' n < length (group_list d key s'.tree 0 g)) own.group (subst (λ q. entry_place s' n < length (group_list d key s'.tree q (entry_group s' n))) own.node f.1)),
      )

  pub next_end : s'.tree ≡ s.tree → (o : Option ℕ) → Follows d key s' e o → IfNone o (length (group_list d key s.tree 0 0) ≡ entry_place s e + 1)
  next_end same (Some n) f = tt
  next_end same None f =
      ap (λ t. length (group_list d key t 0 0)) (sym same) ∙ ap (λ g. length (group_list d key s'.tree 0 g)) (sym still.group) ∙ ap (λ q. length (group_list d key s'.tree q (entry_group s' e))) (sym still.node)
      ∙ f ∙ ap (λ k. k + 1) (kept.places e root.within)

-- # Steps

some_digit : (n : ℕ) → 1 ≤ n → 1 ≤ bit_length n
some_digit n l = above (bit_length n) n l (bit_length_below n)
  where
    above : (b n : ℕ) → 1 ≤ n → n < 2 ^ b → 1 ≤ b
    above zero n l h = absurd (omega arith)
    above (suc b) n l h = omega arith

live_share : {R : Type 0} (t : List (NodeView R)) (calls : ℕ) → 0 < group_count t 0 → share_of (size_of t) calls ≡ 24 * (length t * (1 + bit_length (row_count t + (calls + 1) * length t)))
live_share t calls l = at (group_count t 0) (24 * (length t * (1 + bit_length (row_count t + (calls + 1) * length t)))) l
  where
    at : (g x : ℕ) → 0 < g → cond (nat_lt 0 g) x 0 ≡ x
    at g x l = grind (arith, nat_tests)

-- a call of the streams, and two reads of the entry, are within the bound
pub call_within : {R : Type 0} (t : List (NodeView R)) (before calls old new : ℕ) → 1 ≤ length t → 0 < group_count t 0 → before ≤ calls
    → new ≤ old + 20 * length t * (1 + bit_length (row_count t + (before + 1) * length t)) → new + (4 * length t + 4) ≤ old + share_of (size_of t) calls
call_within t before calls old new some live few cost =
    let n : ℕ = row_count t + (calls + 1) * length t in
    let more : (before + 1) * length t ≤ (calls + 1) * length t = times (before + 1) (calls + 1) (length t) (omega arith) in
    let much : 1 ≤ (calls + 1) * length t = product (calls + 1) (length t) (omega arith) some in
    let rises : bit_length (row_count t + (before + 1) * length t) ≤ bit_length n = bit_length_rises (row_count t + (before + 1) * length t) n (omega (arith, more)) in
    let digit : 1 ≤ bit_length n = some_digit n (omega (arith, much)) in
    omega (arith, cost, live_share t calls live, shares (length t) (bit_length (row_count t + (before + 1) * length t)) (bit_length n) some rises digit)
  where
    times : (a b k : ℕ) → a ≤ b → a * k ≤ b * k
    times a b k l = grind arith

    product : (a b : ℕ) → 1 ≤ a → 1 ≤ b → 1 ≤ a * b
    product a b l h = grind arith

    shares : (m a b : ℕ) → 1 ≤ m → a ≤ b → 1 ≤ b → 20 * m * (1 + a) + (4 * m + 4) ≤ 24 * (m * (1 + b))
    shares m a b s l h =
        let x : m * a ≤ m * b = grind arith in
        let y : m * 1 ≤ m * b = grind arith in
        omega (arith, x, y)
