-- One call of `next`, from the queue's top to the queue after the division of its region.
use Rattle.std.proofs.Common.{◌≡◌, ℕ, ◌+◌, ◌-◌, ◌*◌, ◌/◌, ◌^◌, ◌<◌, ◌≤◌, nat_lt, min, List, [], ◌∷◌, length, take, get_or, refl, sym, ap, ◌∙◌, subst, inl, inr, arith}
use Rattle.std.specs.List.{All}
use Rattle.std.proofs.lemmas.Bool.{cases_lt, cond-true, lt-ltb}
use Rattle.std.proofs.lemmas.List.{get_or-take}
use Rattle.stream_store.specs.declared.linked.Linked.{Linked}
use Rattle.take2_heap.specs.declared.entry.Entry.{Entry}
use Rattle.take2_heap.specs.Order as heaps
use Rattle.rank_key.specs.Bits.{bit_length}
use Rattle.rank_key.proofs.BitLemmas.{bit_length_rises, bit_length_half}
use Rattle.rankings.specs.Order.{ranked}
use Rattle.tdp_model.specs.KeyTuple.{KeyOf}
use Rattle.tdp_model.specs.KeyNumbers.{numbers}
use Rattle.tdp_model.specs.Regions.{in_regions, divided, best_of}
use Rattle.tdp_core.specs.AnswerView.{rows_of_key, answers_of}
use Rattle.tdp_core.specs.TreeView.{NodeView, rows}
use Rattle.anyk_part.specs.declared.candidate.Link.{Link}
use Rattle.anyk_part.specs.declared.candidate.Candidate.{Candidate}
use Rattle.tdp_core.specs.Shares.{most_steps}
use Rattle.anyk_part.specs.Candidates.{key_of_rows}
use Rattle.anyk_part.specs.Regions.{followers, Reached, region_of, regions_of, candidates_of, held_by, rest_keys, rest_of, IsEntry, IsPart}
use Rattle.anyk_part.specs.RemainingSolutions.{held_solutions}
use Rattle.anyk_part.proofs.Queues.{part_next, one_open, regions_seen}
use Rattle.anyk_part.proofs.WholeSolutions.{best_key}

-- the number of calls rises until its last value, which more entries than a list can have do not reach
few_next : (n n' m calls calls' : ℕ) → 1 ≤ m → m ≤ 16 → n ≤ 1 + 2 * (m * calls) → n < 2 ^ 64 → n' ≤ n + 2 * m → calls' ≡ min (calls + 1) (2 ^ 64 - 1) → n' ≤ 1 + 2 * (m * calls')
few_next n n' m calls calls' some few h limit more is = elim (cases_lt (calls + 1) (2 ^ 64)) [
  | inl l ↦
      let rises : calls' ≡ calls + 1 = is ∙ omega (arith, l) in
      let product : m * calls' ≡ m * calls + m = ap (λ k. m * k) rises ∙ omega arith in
      omega (arith, product, h, more)
  | inr last ↦
      let stays : calls' ≡ 2 ^ 64 - 1 = is ∙ omega (arith, last) in
      omega (arith, ap (λ k. m * k) stays, some, few, limit, more)
]

module _ {R : Type 0} (d : ℕ) (key : R → KeyOf d 16) (t : List (NodeView R)) (links links1 : List (Linked Link)) (entries entries1 : List (Entry R Candidate)) (calls : ℕ) (r : R) (tag : Candidate)
    (same_links : links1 ≡ links) (same_entries : entries1 ≡ entries) (part : IsPart d key t links entries calls) (some : 0 < length entries) (top : (e : Entry R Candidate) → get_or entries 0 e ≡ record { rank = r; tag = tag }) where
  -- the queue's top, whose division is at hand
  abbrev first : Entry R Candidate
  first = record { rank = r; tag = tag }

  pub top_entry : IsEntry d key t links1 (record { rank = r; tag = tag })
  top_entry = subst (λ ls. IsEntry d key t ls first) (sym same_links) (subst (λ e. IsEntry d key t links e) (top first) (part.each 0 first some))

  pub top_each : All (IsEntry d key t links1) entries1
  top_each = subst (λ es. All (IsEntry d key t links1) es) (sym same_entries) (subst (λ ls. All (IsEntry d key t ls) entries) (sym same_links) part.each)

  pub top_some : 0 < length entries1
  top_some = subst (λ es. 0 < length es) (sym same_entries) some

  pub top_next : (links' : List (Linked Link)) (entries' : List (Entry R Candidate)) (calls' : ℕ) → heaps.IsLeast d key (record { rank = r; tag = tag }) entries
      → ((s : List ℕ) → in_regions (followers t) (divided (followers t) (region_of links1 (length t) tag)) s + held_by t links1 entries1 s ≡ held_by t links1 (take 1 entries1) s + held_by t links' entries' s)
      → All (IsEntry d key t links') entries' → length entries < 2 ^ 64 → length entries' ≤ length entries1 + 2 * length t → calls' ≡ min (calls + 1) (2 ^ 64 - 1)
      → (rest_keys d key t (regions_of links (length t) entries) ≡ key r ∷ rest_keys d key t (regions_of links' (length t) entries')) × IsPart d key t links' entries' calls'
  top_next links' entries' calls' least held each limit more is =
      part_next d key t links links' entries entries' calls calls' first part some (sym (top first)) least
      (subst (λ es. (s : List ℕ) → in_regions (followers t) (divided (followers t) (region_of links (length t) tag)) s + held_by t links es s ≡ held_by t links (take 1 es) s + held_by t links' entries' s) same_entries
      (subst (λ ls. (s : List ℕ) → in_regions (followers t) (divided (followers t) (region_of ls (length t) tag)) s + held_by t ls entries1 s ≡ held_by t ls (take 1 entries1) s + held_by t links' entries' s) same_links held))
      each
      (few_next (length entries) (length entries') (length t) calls calls' part.formed.shaped.some_node part.formed.shaped.few_nodes part.few limit (subst (λ es. length entries' ≤ length es + 2 * length t) same_entries more) is)

  -- the rows that are chosen are those of the top's key
  pub top_key : (chosen : List ℕ) → take (length t) chosen ≡ best_of (followers t) (region_of links1 (length t) tag) → key_of_rows d key t (take (length t) chosen) ≡ key r
  top_key chosen e =
      ap (λ s. key_of_rows d key t s) e
      ∙ best_key d key t part.formed (part.live some) (region_of links1 (length t) tag) (one_open d key t links1 first top_entry)
      ∙ sym top_entry.ranked

-- # A call that divides no region

module _ {R : Type 0} (d : ℕ) (key : R → KeyOf d 16) (t : List (NodeView R)) (links links1 : List (Linked Link)) (entries entries1 : List (Entry R Candidate)) (same_links : links1 ≡ links) (same_entries : entries1 ≡ entries) where
  called : (calls calls' : ℕ) → IsPart d key t links entries calls → length entries ≤ 1 + 2 * (length t * calls') → IsPart d key t links1 entries1 calls'
  called calls calls' h few =
      subst (λ es. IsPart d key t links1 es calls') (sym same_entries)
      (subst (λ ls. IsPart d key t ls entries calls') (sym same_links) (record { formed = h.formed; tie_free = h.tie_free; live = h.live; each = h.each; remains = h.remains; few = few }))

  -- where memory is refused,
  pub part_refused : (calls calls' : ℕ) → IsPart d key t links entries calls → length entries < 2 ^ 64 → calls' ≡ min (calls + 1) (2 ^ 64 - 1) → IsPart d key t links1 entries1 calls'
  part_refused calls calls' h limit is = called calls calls' h
      (few_next (length entries) (length entries) (length t) calls calls' h.formed.shaped.some_node h.formed.shaped.few_nodes h.few limit (omega arith) is)

  -- or the queue is empty
  pub part_empty : (calls calls' : ℕ) → IsPart d key t links entries calls → length entries ≤ 0 → IsPart d key t links1 entries1 calls'
  part_empty calls calls' h none = called calls calls' h (omega (arith, none))

-- the rows of a whole solution are rows of their nodes
pub rows_in : {R : Type 0} (t : List (NodeView R)) (chosen : List ℕ) → Reached t 0 (take (length t) chosen) → (q : ℕ) → q < length t → get_or chosen q 0 < rows t q
rows_in t chosen h q l = subst (λ r. r < rows t q) (get_or-take (length t) chosen q 0 l) (h.1 q (omega (arith, h.0, l)))

-- the answers that are seen before and after
pub answer_found : {R : Type 0} (d : ℕ) (key : R → KeyOf d 16) (t : List (NodeView R)) (links links' : List (Linked Link)) (entries entries' : List (Entry R Candidate)) (r : R) (rows : List ℕ)
    → rest_keys d key t (regions_of links (length t) entries) ≡ key r ∷ rest_keys d key t (regions_of links' (length t) entries') → rows ≡ rows_of_key d 16 (key r)
    → rest_of d key t (candidates_of links (length t) entries) ≡ record { rows = rows; key = numbers d 16 (key r) } ∷ rest_of d key t (candidates_of links' (length t) entries')
answer_found d key t links links' entries entries' r rows e is =
    ap (λ rs. answers_of d (rest_keys d key t rs)) (regions_seen links (length t) entries)
    ∙ ap (λ ks. answers_of d ks) e
    ∙ ap (λ ns. record { rows = ns; key = numbers d 16 (key r) } ∷ answers_of d (rest_keys d key t (regions_of links' (length t) entries'))) (sym is)
    ∙ ap (λ rs. record { rows = rows; key = numbers d 16 (key r) } ∷ answers_of d (rest_keys d key t rs)) (sym (regions_seen links' (length t) entries'))

-- no answer is left where the queue is empty
pub answers_end : {R : Type 0} (d : ℕ) (key : R → KeyOf d 16) (t : List (NodeView R)) (links : List (Linked Link)) (entries : List (Entry R Candidate)) → length entries ≤ 0 → rest_of d key t (candidates_of links (length t) entries) ≡ []
unfolding held_solutions ranked
answers_end d key t links [] empty = refl
answers_end d key t links (e ∷ es) empty = absurd (omega arith)

-- # Steps

more_digits : (n x : ℕ) → n ≤ 2 * x + 1 → bit_length n ≤ bit_length x + 1
more_digits n x h = elim (cases_lt 0 n) [
  | inl some ↦ omega (arith, bit_length_half n some, bit_length_rises (n / 2) x (omega (arith, h)))
  | inr none ↦ omega (arith, bit_length_rises n x (omega (arith, none)))
]

times_more : (m a b : ℕ) → a ≤ b → m * a ≤ m * b
times_more m a b h = grind arith

times_one : (m b : ℕ) → 1 ≤ m → b ≤ m * b
times_one m b h = omega (arith, times_more b 1 m h)

-- a node's share of the steps
node_share : (m b c : ℕ) → 1 ≤ m → c ≤ b + 1 → m + (m * (10 + 4 * c) + 2 * c) + m ≤ 24 * (m * (1 + b))
node_share m b c some l = omega (arith, times_more m c (b + 1) l, times_one m b some, some, l)

-- the prefix, the division and the row numbers together
pub steps_within : (m rows groups calls n start_node before s1 s2 after : ℕ) → 1 ≤ m → 0 < groups → n ≤ 1 + 2 * (m * calls) → start_node ≤ m → s1 ≤ before + start_node
    → s2 ≤ s1 + m * (10 + 4 * bit_length (n + 2 * m)) + 2 * bit_length (n + 2 * m) → after ≤ s2 + m → after ≤ before + most_steps m rows groups calls
steps_within m rows groups calls n start_node before s1 s2 after some live few below a b c =
    let x : ℕ = rows + (calls + 1) * m in
    let digits : bit_length (n + 2 * m) ≤ bit_length x + 1 = more_digits (n + 2 * m) x (omega (arith, few)) in
    let is : most_steps m rows groups calls ≡ 24 * (m * (1 + bit_length x)) = cond-true (nat_lt 0 groups) (24 * (m * (1 + bit_length x))) 0 (lt-ltb 0 groups live) in
    omega (arith, node_share m (bit_length x) (bit_length (n + 2 * m)) some digits, is, below, a, b, c)
