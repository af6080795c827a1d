-- The division of a region, from its start to its end.
use Rattle.std.proofs.Common.{◌≡◌, ℕ, zero, suc, ◌+◌, ◌-◌, ◌*◌, ◌<◌, ◌≤◌, Bool, true, false, cond, Option, Some, None, IsSome, IfSome, ◌↔◌, List, [], ◌∷◌, ◌++◌, length, take, get_or, refl, sym, ap, ◌∙◌, subst, arith}
use Rattle.rank_key.specs.Bits.{bit_length}
use Rattle.rank_key.proofs.BitLemmas.{bit_length_rises}
use Rattle.std.specs.List.{All}
use Rattle.std.specs.List.Sorted.{IsPermutation}
use Rattle.std.proofs.lemmas.Bool.{false≢true, cond-true, cond-false}
use Rattle.std.proofs.lemmas.List.Sums.{sum_by-cons}
use Rattle.std.proofs.lemmas.List.Sorted.{sum_by-IsPermutation, All-permutation, length_permutation}
use Rattle.std.proofs.lemmas.List.Elements.{All-tail}
use Rattle.stream_store.specs.declared.linked.Linked.{Linked}
use Rattle.take2_heap.specs.declared.entry.Entry.{Entry}
use Rattle.tdp_model.specs.KeyTuple.{KeyOf}
use Rattle.tdp_model.specs.Regions.{in_region, in_regions, completion, deviations, opening, best_of, divided}
use Rattle.tdp_core.specs.TreeView.{NodeView}
use Rattle.anyk_part.specs.declared.candidate.Link.{Link}
use Rattle.anyk_part.specs.declared.candidate.Candidate.{Candidate}
use Rattle.anyk_part.specs.declared.candidate.ChosenRow.{ChosenRow}
use Rattle.anyk_part.specs.declared.candidate.Descent.{Descent}
use Rattle.anyk_part.specs.Chains.{chain}
use Rattle.anyk_part.specs.Regions.{followers, Reached, region_of, region_at, held_by, IsEntry}
use Rattle.anyk_part.specs.Walks.{IsDivided, best_from, divided_from, IsAt, IsChoice, IsDivision, row_at, start_region}
use Rattle.anyk_part.proofs.ChainLemmas.{chain_length}
use Rattle.anyk_part.proofs.Sites.{sum_by_first}
use Rattle.anyk_part.proofs.Steps.{link_of, at_after, chain_after, entries_after, held_after, held_kept, top_after}

module _ (members : List ℕ → List ℕ) where
  best_from_first : (n : ℕ) (pre : List ℕ) → best_from members n pre 0 ≡ completion members n pre
  unfolding best_from completion
  best_from_first zero pre = refl
  best_from_first (suc n) pre = refl

  divided_from_first : (n : ℕ) (pre : List ℕ) → divided_from members n pre 0 ≡ deviations members n pre
  unfolding divided_from deviations
  divided_from_first zero pre = refl
  divided_from_first (suc n) pre = refl

  best_from_next : (n : ℕ) (pre : List ℕ) (place : ℕ) → best_from members (suc n) pre place ≡ best_from members n (pre ++ (get_or (members pre) place 0 ∷ [])) 0
  unfolding best_from
  best_from_next n pre place = sym (best_from_first n (pre ++ (get_or (members pre) place 0 ∷ [])))

  divided_from_next : (n : ℕ) (pre : List ℕ) (place : ℕ) (s : List ℕ) → in_regions members (divided_from members (suc n) pre place) s
      ≡ in_region members (record { chosen = pre; place = 2 * place + 1; left = n }) s
      + (in_region members (record { chosen = pre; place = 2 * place + 2; left = n }) s + in_regions members (divided_from members n (pre ++ (get_or (members pre) place 0 ∷ [])) 0) s)
  unfolding divided_from in_regions
  divided_from_next n pre place s =
      ap (λ ds. in_region members (record { chosen = pre; place = 2 * place + 1; left = n }) s + (in_region members (record { chosen = pre; place = 2 * place + 2; left = n }) s + in_regions members ds s))
      (sym (divided_from_first n (pre ++ (get_or (members pre) place 0 ∷ []))))

-- the numbers of a step: what a walk has divided, and what it puts in
division_step : (stands stands' : Bool) (whole i j dev top here_top now next : ℕ) → whole ≡ (i + (j + dev)) + (cond stands 0 top + now)
    → i + (j + now) ≡ cond stands (cond stands' 0 here_top) 0 + next → (stands ≡ true → here_top ≡ top) → (stands' ≡ true → stands ≡ true) → whole ≡ dev + (cond stands' 0 top + next)
division_step true true whole i j dev top here_top now next a b p q = omega (arith, a, b)
division_step true false whole i j dev top here_top now next a b p q = omega (arith, a, b, p refl)
division_step false true whole i j dev top here_top now next a b p q = absurd (false≢true (q refl))
division_step false false whole i j dev top here_top now next a b p q = omega (arith, a, b)

module _ {R : Type 0} (d : ℕ) (key : R → KeyOf d 16) (t : List (NodeView R)) where
  pub division_init : (start : Descent) (links : List (Linked Link)) (before : List (Entry R Candidate)) → start.node < length t → start.top_stands ≡ true → All (IsEntry d key t links) before
      → IsDivision d key t start links before start links before
  unfolding best_of best_from divided divided_from opening
  division_init start links before l e all =
      let F : List ℕ → List ℕ = followers t in
      let pre : List ℕ = chain links start.node start.before in
      let one : suc (length t - suc start.node) ≡ length t - start.node = omega (arith, l) in record {
        from = omega arith;
        goal = subst (λ n. best_of F (start_region d key t links start) ≡ best_from F n pre start.place) one refl;
        held = λ s.
            subst (λ n. in_regions F (divided F (start_region d key t links start)) s + held_by t links before s
            ≡ in_regions F (divided_from F n pre start.place) s + (cond start.top_stands 0 (held_by t links (take 1 before) s) + held_by t links before s)) one
            (omega (arith, cond-true start.top_stands 0 (held_by t links (take 1 before) s) e));
        each = all;
        stands = λ _. (refl, λ s. refl);
        few = omega arith;
      }

  pub division_next : (whole : R) (start : Descent) (old_links : List (Linked Link)) (before : List (Entry R Candidate)) (w w' : Descent) (links links' : List (Linked Link)) (chosen : List ℕ)
      (entries entries' : List (Entry R Candidate)) → IsAt d key t whole w chosen links → w.node < length t → IsDivision d key t start old_links before w links entries → w'.node ≡ w.node + 1 → w'.place ≡ 0
      → chain links' w'.node w'.before ≡ chain links w.node w.before ++ (row_at d key t w links ∷ [])
      → All (IsEntry d key t links') entries'
      → ((s : List ℕ) → in_region (followers t) (region_at t (chain links w.node w.before) (2 * w.place + 1)) s
      + (in_region (followers t) (region_at t (chain links w.node w.before) (2 * w.place + 2)) s + held_by t links entries s)
      ≡ cond w.top_stands (cond w'.top_stands 0 (held_by t links (take 1 entries) s)) 0 + held_by t links' entries' s)
      → (w'.top_stands ≡ true → (w.top_stands ≡ true) × (entries' ≡ entries))
      → (w'.top_stands ≡ true → (s : List ℕ) → held_by t links' (take 1 entries') s ≡ held_by t links (take 1 entries) s)
      → length entries' ≤ length entries + 2
      → IsDivision d key t start old_links before w' links' entries'
  division_next whole start old_links before w w' links links' chosen entries entries' at l h en ep ec all step stands top few =
      let F : List ℕ → List ℕ = followers t in
      let pre : List ℕ = chain links w.node w.before in
      let n : ℕ = length t - suc w.node in
      let long : length pre ≡ w.node = chain_length links w.node w.before at.chained in
      let size : length t - w.node ≡ suc n = omega (arith, l) in
      let left : length t - w'.node ≡ n = omega (arith, en) in
      let next : List ℕ = pre ++ (row_at d key t w links ∷ []) in
      record {
        from = omega (arith, en, h.from);
        goal = h.goal
            ∙ ap (λ k. best_from F k pre w.place) size
            ∙ best_from_next F n pre w.place
            ∙ ap (λ k. best_from F k next 0) (sym left)
            ∙ ap (λ p. best_from F (length t - w'.node) p 0) (sym ec)
            ∙ ap (λ k. best_from F (length t - w'.node) (chain links' w'.node w'.before) k) (sym ep);
        held = λ s.
            let i : ℕ → ℕ → ℕ = λ place k. in_region F (record { chosen = pre; place = place; left = length t - suc k }) s in
            let dev : ℕ = in_regions F (divided_from F n next 0) s in
            let dev_is : dev ≡ in_regions F (divided_from F (length t - w'.node) (chain links' w'.node w'.before) w'.place) s =
            ap (λ k. in_regions F (divided_from F k next 0) s) (sym left)
            ∙ ap (λ p. in_regions F (divided_from F (length t - w'.node) p 0) s) (sym ec)
            ∙ ap (λ k. in_regions F (divided_from F (length t - w'.node) (chain links' w'.node w'.before) k) s) (sym ep) in
            let was : in_regions F (divided F (start_region d key t old_links start)) s + held_by t old_links before s
            ≡ (i (2 * w.place + 1) w.node + (i (2 * w.place + 2) w.node + dev)) + (cond w.top_stands 0 (held_by t old_links (take 1 before) s) + held_by t links entries s) =
            h.held s
            ∙ ap (λ k. in_regions F (divided_from F k pre w.place) s + (cond w.top_stands 0 (held_by t old_links (take 1 before) s) + held_by t links entries s)) size
            ∙ ap (λ z. z + (cond w.top_stands 0 (held_by t old_links (take 1 before) s) + held_by t links entries s)) (divided_from_next F n pre w.place s) in
            let now : i (2 * w.place + 1) w.node + (i (2 * w.place + 2) w.node + held_by t links entries s) ≡ cond w.top_stands (cond w'.top_stands 0 (held_by t links (take 1 entries) s)) 0 + held_by t links' entries' s =
            subst (λ k. i (2 * w.place + 1) k + (i (2 * w.place + 2) k + held_by t links entries s) ≡ cond w.top_stands (cond w'.top_stands 0 (held_by t links (take 1 entries) s)) 0 + held_by t links' entries' s) long (step s) in
            division_step w.top_stands w'.top_stands _ (i (2 * w.place + 1) w.node) (i (2 * w.place + 2) w.node) dev (held_by t old_links (take 1 before) s) (held_by t links (take 1 entries) s) (held_by t links entries s) (held_by t links' entries' s)
            was now (λ e. (h.stands e).1 s) (λ e. (stands e).0)
            ∙ ap (λ z. z + (cond w'.top_stands 0 (held_by t old_links (take 1 before) s) + held_by t links' entries' s)) dev_is;
        each = all;
        stands = λ e. ((stands e).1 ∙ (h.stands (stands e).0).0, λ s. top e s ∙ (h.stands (stands e).0).1 s);
        few = omega (arith, few, h.few, en, h.from);
      }

  -- # The end

  module _ (whole : R) (start : Descent) (old_links : List (Linked Link)) (before : List (Entry R Candidate)) (w : Descent) (links : List (Linked Link)) (chosen : List ℕ)
      (entries : List (Entry R Candidate)) (at : IsAt d key t whole w chosen links) (h : IsDivision d key t start old_links before w links entries) (done : length t ≤ w.node) where
    none_left : length t - w.node ≡ 0
    none_left = omega (arith, done)

    all_nodes : w.node ≡ length t
    all_nodes = omega (arith, done, at.to)

    division_best : take (length t) chosen ≡ best_of (followers t) (start_region d key t old_links start)
    unfolding best_from
    division_best =
        ap (λ n. take n chosen) (sym all_nodes)
        ∙ at.rows
        ∙ sym (h.goal ∙ ap (λ n. best_from (followers t) n (chain links w.node w.before) w.place) none_left)

    division_reached : Reached t 0 (take (length t) chosen)
    division_reached =
        subst (λ n. Reached t n (take (length t) chosen)) none_left
        (subst (λ p. Reached t (length t - w.node) p) (sym at.rows ∙ ap (λ n. take n chosen) all_nodes) at.reached)

    division_held : (s : List ℕ) → in_regions (followers t) (divided (followers t) (start_region d key t old_links start)) s + held_by t old_links before s
        ≡ cond w.top_stands 0 (held_by t old_links (take 1 before) s) + held_by t links entries s
    unfolding divided_from in_regions
    division_held s = h.held s ∙ ap (λ n. in_regions (followers t) (divided_from (followers t) n (chain links w.node w.before) w.place) s + (cond w.top_stands 0 (held_by t old_links (take 1 before) s) + held_by t links entries s)) none_left ∙ omega arith

    held_gone : w.top_stands ≡ false → (s : List ℕ) → in_regions (followers t) (divided (followers t) (start_region d key t old_links start)) s + held_by t old_links before s
        ≡ held_by t old_links (take 1 before) s + held_by t links entries s
    held_gone e s = omega (arith, division_held s, cond-false w.top_stands 0 (held_by t old_links (take 1 before) s) e)

    held_popped : w.top_stands ≡ true → (top : Entry R Candidate) (new : List (Entry R Candidate)) → 0 < length entries → top ≡ get_or entries 0 top → IsPermutation entries (top ∷ new) → (s : List ℕ)
        → in_regions (followers t) (divided (followers t) (start_region d key t old_links start)) s + held_by t old_links before s ≡ held_by t old_links (take 1 before) s + held_by t links new s
    held_popped e top new some first p s =
        let f : Entry R Candidate → ℕ = λ x. in_region (followers t) (region_of links (length t) x.tag) s in
        omega (
          arith,
          division_held s,
          cond-true w.top_stands 0 (held_by t old_links (take 1 before) s) e,
          sum_by-IsPermutation f entries (top ∷ new) p,
          sum_by-cons f top new,
          sum_by_first f entries top some,
          ap f first,
          (h.stands e).1 s,
        )

  -- # The choice at the last node, as one more step over the links that its own link would join

  module _ (whole : R) (start : Descent) (old_links : List (Linked Link)) (before : List (Entry R Candidate)) (w : Descent) (links : List (Linked Link)) (chosen : List ℕ)
      (entries : List (Entry R Candidate)) (at : IsAt d key t whole w chosen links) (h : IsDivision d key t start old_links before w links entries) (below : w.node < length t) (done : length t ≤ w.node + 1)
      (c : ChosenRow) (rows : List ℕ) (new : List (Entry R Candidate)) (k : IsChoice d key t w links chosen entries c rows new) where
    abbrev made : List (Linked Link)
    made = link_of d key t whole w chosen links at below c.row ∷ []

    abbrev end : Descent
    end = record { node = w.node + 1; place = 0; before = Some (length links); top_stands = c.top_stands }

    at_end : IsAt d key t whole end rows (links ++ made)
    at_end = at_after d key t whole w chosen links at below (length links) c.row rows (links ++ made) c.top_stands k.row k.put refl refl

    division_end : IsDivision d key t start old_links before end (links ++ made) new
    division_end =
        division_next whole start old_links before w end links (links ++ made) chosen entries new at below h refl refl
        (chain_after d key t whole w chosen links at below (length links) c.row (links ++ made) k.row refl refl)
        (entries_after d key t w links made (links ++ made) chosen entries c rows new k refl)
        (held_after d key t w links made (links ++ made) chosen entries c rows new k refl)
        k.stands
        (top_after d key t w links made (links ++ made) chosen entries c rows new k refl h.each)
        k.few

    choice_best : take (length t) rows ≡ best_of (followers t) (start_region d key t old_links start)
    choice_best = division_best whole start old_links before end (links ++ made) rows new at_end division_end done

    choice_reached : Reached t 0 (take (length t) rows)
    choice_reached = division_reached whole start old_links before end (links ++ made) rows new at_end division_end done

    pub choice_few : length new ≤ length before + 2 * length t
    choice_few = omega (arith, division_end.few, below)

    choice_gone : c.top_stands ≡ false → (s : List ℕ) → in_regions (followers t) (divided (followers t) (start_region d key t old_links start)) s + held_by t old_links before s
        ≡ held_by t old_links (take 1 before) s + held_by t links new s
    choice_gone e s =
        held_gone whole start old_links before end (links ++ made) rows new at_end division_end done e s
        ∙ ap (λ n. held_by t old_links (take 1 before) s + n) (held_kept d key t links made new k.each s)

    choice_full : c.top_stands ≡ true → 0 < length before → 0 < length new
    choice_full e some = subst (λ es. 0 < length es) (sym (division_end.stands e).0) some

    choice_entries : (top : Entry R Candidate) (rest : List (Entry R Candidate)) → IsPermutation new (top ∷ rest) → All (IsEntry d key t links) rest
    choice_entries top rest p = All-tail (IsEntry d key t links) top rest (All-permutation (IsEntry d key t links) new (top ∷ rest) p k.each)

    choice_popped : c.top_stands ≡ true → (top : Entry R Candidate) (rest : List (Entry R Candidate)) → 0 < length before → top ≡ get_or new 0 top → IsPermutation new (top ∷ rest) → (s : List ℕ)
        → in_regions (followers t) (divided (followers t) (start_region d key t old_links start)) s + held_by t old_links before s ≡ held_by t old_links (take 1 before) s + held_by t links rest s
    choice_popped e top rest some first p s =
        held_popped whole start old_links before end (links ++ made) rows new at_end division_end done e top rest (choice_full e some) first p s
        ∙ ap (λ n. held_by t old_links (take 1 before) s + n) (held_kept d key t links made rest (choice_entries top rest p) s)

    -- where the region is no longer at the queue's top,
    pub choice_stays : c.top_stands ≡ false → (grown : List (Linked Link)) → grown ≡ links → IsDivided d key t start old_links before rows grown new
    choice_stays e grown same =
        subst (λ ls. IsDivided d key t start old_links before rows ls new) (sym same)
        (record { best = choice_best; reached = choice_reached; held = choice_gone e; each = k.each; few = choice_few })

    -- and where it is taken from there
    pub choice_taken : c.top_stands ≡ true → 0 < length before → (grown : List (Linked Link)) → grown ≡ links → (top : Option (Entry R Candidate)) (rest : List (Entry R Candidate))
        → IsSome top ↔ (0 < length new) → IfSome top (λ e. e ≡ get_or new 0 e) → IfSome top (λ e. IsPermutation new (e ∷ rest)) → IsDivided d key t start old_links before rows grown rest
    choice_taken e some grown same None rest any first p = absurd (false≢true (any.1 (choice_full e some)))
    choice_taken e some grown same (Some x) rest any first p =
        subst (λ ls. IsDivided d key t start old_links before rows ls rest) (sym same)
        (record {
          best = choice_best;
          reached = choice_reached;
          held = choice_popped e x rest some first p;
          each = choice_entries x rest p;
          few = omega (arith, choice_few, length_permutation new (x ∷ rest) p);
        })

times_next : (a b k x y z : ℕ) → a ≡ b + 1 → y ≤ x + b * k → z ≤ y + k → z ≤ x + a * k
times_next a b k x y z e h i = let p : a * k ≡ b * k + k = ap (λ n. n * k) e ∙ omega arith in omega (arith, p, h, i)

times_within : (a b k x y z u : ℕ) → a ≤ b → y ≤ x + a * k → z ≤ y + u → z ≤ x + b * k + u
times_within a b k x y z u l h i = let p : a * k ≤ b * k = grind arith in omega (arith, p, h, i)

-- # One node more, in plain numbers

pub still_below : (last node next m : ℕ) → node < last → next ≡ node + 1 → last + 1 ≡ m → next < m
still_below last node next m before step count = omega (arith, before, step, count)

pub at_last : (last node m : ℕ) → last ≤ node → last + 1 ≡ m → m ≤ node + 1
at_last last node m done count = omega (arith, done, count)

pub room_left : (last node next spare left : ℕ) → node < last → next ≡ node + 1 → 2 * (last + 1 - node) ≤ spare → spare ≤ left + 2 → 2 * (last + 1 - next) ≤ left
room_left last node next spare left before step room used = omega (arith, before, step, room, used)

pub link_room_left : (last node next spare left : ℕ) → node < last → next ≡ node + 1 → last - node ≤ spare → spare ≤ left + 1 → last - next ≤ left
link_room_left last node next spare left before step room used = omega (arith, before, step, room, used)

pub node_steps : (start node next entries n m old before after : ℕ) → start ≤ node → next ≡ node + 1 → entries ≤ n + 2 * (node - start) → node < m
    → before ≤ old + (node - start) * (10 + 4 * bit_length (n + 2 * m)) → after ≤ before + 10 + 4 * bit_length (entries + 2)
    → after ≤ old + (next - start) * (10 + 4 * bit_length (n + 2 * m))
node_steps start node next entries n m old before after from step few below cost one =
    let digits = bit_length_rises (entries + 2) (n + 2 * m) (omega (arith, few, below)) in
    times_next (next - start) (node - start) (10 + 4 * bit_length (n + 2 * m)) old before after (omega (arith, step, from)) cost (omega (arith, one, digits))

-- the steps of all nodes, and of the pop that may come after them
pub all_steps : (start node entries n m old before after : ℕ) → start ≤ node → entries ≤ n + 2 * (node - start) → node < m
    → before ≤ old + (node - start) * (10 + 4 * bit_length (n + 2 * m)) → after ≤ before + 9 + 4 * bit_length (entries + 2)
    → (made last : ℕ) → made ≤ n + 2 * m → last ≤ after + 2 * bit_length made → last ≤ old + m * (10 + 4 * bit_length (n + 2 * m)) + 2 * bit_length (n + 2 * m)
all_steps start node entries n m old before after from few below cost one made last low pop =
    let end = node_steps start node (node + 1) entries n m old before after from refl few below cost (omega (arith, one)) in
    let popped = bit_length_rises made (n + 2 * m) low in
    times_within (node + 1 - start) m (10 + 4 * bit_length (n + 2 * m)) old after last (2 * bit_length (n + 2 * m)) (omega (arith, below)) end (omega (arith, pop, popped))
