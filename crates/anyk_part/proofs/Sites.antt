-- The candidates that deviate at one node.
use Rattle.std.proofs.Common.{◌≡◌, ◌↔◌, None, ℕ, suc, ◌+◌, ◌-◌, ◌^◌, ◌<◌, ◌≤◌, Bool, true, false, cond, List, [], ◌∷◌, ◌++◌, length, take, get_or, refl, sym, ap, ◌∙◌, subst, arith}
use Rattle.std.specs.List.{sum_by, All}
use Rattle.std.specs.List.Sorted.{IsPermutation}
use Rattle.std.proofs.lemmas.List.Sums.{sum_by-cons}
use Rattle.std.proofs.lemmas.List.Sorted.{sum_by-IsPermutation, All-permutation, length_permutation}
use Rattle.std.proofs.lemmas.List.Elements.{All-cons, All-tail}
use Rattle.stream_store.specs.declared.linked.Linked.{Linked}
use Rattle.take2_heap.specs.declared.entry.Entry.{Entry}
use Rattle.rank_key.specs.Keys.{CanSwap}
use Rattle.tdp_model.specs.KeyTuple.{KeyOf, key_below, key_add, key_none}
use Rattle.tdp_model.specs.Regions.{in_region, opening}
use Rattle.tdp_model.proofs.KeyTuples.{tuple_keys}
use Rattle.tdp_model.proofs.TreeStaged.{bound_parts}
use Rattle.tdp_core.specs.TreeView.{NodeView, parent, rows, members, group, rank, best}
use Rattle.tdp_core.proofs.TreeFacts as facts
use Rattle.anyk_part.specs.declared.candidate.Link.{Link}
use Rattle.anyk_part.specs.declared.candidate.Candidate.{Candidate}
use Rattle.anyk_part.specs.declared.candidate.Deviation.{Deviation}
use Rattle.anyk_part.specs.Chains.{chain, IsChain}
use Rattle.anyk_part.specs.Regions.{followers, Reached, least, region_of, region_at, held_by, IsEntry}
use Rattle.anyk_part.specs.Walks.{IsSite}
use Rattle.anyk_part.proofs.ChainLemmas.{chain_length, chain_ends, chain_begins}
use Rattle.anyk_part.proofs.LiveTrees.{tree, other}

pub sum_by_first : {X : Type 0} (f : X → ℕ) (xs : List X) (d : X) → 0 < length xs → sum_by f (take 1 xs) ≡ f (get_or xs 0 d)
sum_by_first f [] d h = absurd (omega arith)
sum_by_first f (x ∷ xs) d h = omega (arith, sum_by-cons f x [])

module _ {R : Type 0} (d : ℕ) (key : R → KeyOf d 16) (t : List (NodeView R)) (links : List (Linked Link)) (s : Deviation R) (h : IsSite d key t links s) where
  abbrev pub prefix : List ℕ
  prefix = chain links s.node s.before

  long : length prefix ≡ s.node
  long = chain_length links s.node s.before h.chained

  reach : Reached t (suc (length t - suc s.node)) prefix
  reach = (omega (arith, long, h.node), h.reached.1)

  abbrev pub others : KeyOf d 16
  others = other d key t h.formed h.live (length t - suc s.node) prefix

  least_at : (x : ℕ) → x < rows t s.node → least d key t (prefix ++ (x ∷ [])) ≡ key_add d 16 others (best t d key s.node x)
  least_at x l =
      subst (λ p. x < rows t p → least d key t (prefix ++ (x ∷ [])) ≡ key_add d 16 others (best t d key p x)) long
      (λ row. bound_parts (key_below d 16) (key_add d 16) (key_none d 16) (tuple_keys d 16) (length t) (parent t) (rank t d key) (group t) (best t d key) (λ v r. r < rows t v)
      (tree d key t h.formed h.live) (length t - suc s.node) prefix x reach.0 row) l

  pub members_are : followers t prefix ≡ members t s.node s.group
  members_are = ap (λ p. group t p (get_or prefix (parent t p) 0)) long ∙ ap (λ g. members t s.node g) (sym h.group)

  whole : key s.total ≡ key_add d 16 others (key s.best)
  whole = h.total ∙ least_at s.row h.row ∙ ap (λ z. key_add d 16 others z) (sym h.best)

  pub member_row : (place : ℕ) → place < length (members t s.node s.group) → get_or (members t s.node s.group) place 0 < rows t s.node
  member_row place l = facts.member_is_row d key t h.formed s.node s.group place h.node l

  pub can_swap : (x : ℕ) (new : KeyOf d 16) → x < rows t s.node → new ≡ best t d key s.node x → CanSwap d key (key s.total) (key s.best) new
  can_swap x new l e =
      subst (λ z. CanSwap d key z (key s.best) new) (sym h.total)
      (subst (λ z. CanSwap d key (least d key t (prefix ++ (s.row ∷ []))) z new) (ap (λ p. best t d key p s.row) long ∙ sym h.best)
      (subst (λ z. CanSwap d key (least d key t (prefix ++ (s.row ∷ []))) (best t d key (length prefix) s.row) z) (ap (λ p. best t d key p x) long ∙ sym e)
      (facts.can_swap d key t h.formed h.live (length t - suc s.node) prefix s.row x reach (subst (λ p. s.row < rows t p) (sym long) h.row) (subst (λ p. x < rows t p) (sym long) l))))

  pub node_small : s.node < 16
  node_small = omega (arith, h.node, h.formed.shaped.few_nodes)

  pub place_small : (place : ℕ) → place < length (members t s.node s.group) → place < 2 ^ 28
  place_small place l =
      omega (
        arith,
        l,
        facts.group_rows_within d key t h.formed s.node s.group h.node,
        facts.rows_within d key t h.formed s.node h.node,
      )

  -- no link is before the site exactly if it is at the first position
  pub site_begins : (s.before ≡ None) ↔ (s.node ≡ 0)
  site_begins = (λ e. chain_ends links s.node (subst (λ o. IsChain links s.node o) e h.chained), λ e. chain_begins links s.before (subst (λ n. IsChain links n s.before) e h.chained))

  -- the candidate at a place of the site
  abbrev pub candidate_at : ℕ → Candidate
  candidate_at place = record { position = s.node; place = place; before = s.before }

  pub new_entry : (r : R) (place x : ℕ) (new : KeyOf d 16) → place < length (members t s.node s.group) → x ≡ get_or (members t s.node s.group) place 0 → new ≡ best t d key s.node x
      → ((rest : KeyOf d 16) → key s.total ≡ key_add d 16 rest (key s.best) → key r ≡ key_add d 16 rest new)
      → (c : Candidate) → c ≡ candidate_at place → IsEntry d key t links (record { rank = r; tag = c })
  unfolding opening
  new_entry r place x new l ex e swapped c is =
      let row : x < rows t s.node = subst (λ z. z < rows t s.node) (sym ex) (member_row place l) in
      subst (λ k. IsEntry d key t links (record { rank = r; tag = k })) (sym is)
      (record {
        position = h.node;
        chained = h.chained;
        reached = h.reached;
        place = subst (λ ms. place < length ms) (sym members_are) l;
        ranked =
            swapped others whole
            ∙ ap (λ z. key_add d 16 others z) e
            ∙ sym (least_at x row)
            ∙ ap (λ z. least d key t (prefix ++ (z ∷ []))) ex
            ∙ ap (λ ms. least d key t (prefix ++ (get_or ms place 0 ∷ []))) (sym members_are);
      })

  same_region : (c : Candidate) (place : ℕ) → c ≡ candidate_at place → (u : List ℕ) → in_region (followers t) (region_of links (length t) c) u ≡ in_region (followers t) (region_at t prefix place) u
  same_region c place is u =
      ap (λ k. in_region (followers t) (region_of links (length t) k) u) is
      ∙ ap (λ n. in_region (followers t) (record { chosen = prefix; place = place; left = length t - suc n }) u) (sym long)

  pub held_replaced : (e : Entry R Candidate) (place : ℕ) → e.tag ≡ candidate_at place → (old new : List (Entry R Candidate)) → 0 < length old
      → IsPermutation (e ∷ old) (get_or old 0 e ∷ new) → (u : List ℕ)
      → in_region (followers t) (region_at t prefix place) u + held_by t links old u ≡ held_by t links (take 1 old) u + held_by t links new u
  held_replaced e place is old new some p u =
      let f : Entry R Candidate → ℕ = λ x. in_region (followers t) (region_of links (length t) x.tag) u in
      omega (
        arith,
        sum_by-IsPermutation f (e ∷ old) (get_or old 0 e ∷ new) p,
        sum_by-cons f e old,
        sum_by-cons f (get_or old 0 e) new,
        sum_by_first f old e some,
        same_region e.tag place is u,
      )

  pub held_pushed : (e : Entry R Candidate) (place : ℕ) → e.tag ≡ candidate_at place → (old new : List (Entry R Candidate)) → IsPermutation (e ∷ old) new → (u : List ℕ)
      → in_region (followers t) (region_at t prefix place) u + held_by t links old u ≡ 0 + held_by t links new u
  held_pushed e place is old new p u =
      let f : Entry R Candidate → ℕ = λ x. in_region (followers t) (region_of links (length t) x.tag) u in
      omega (arith, sum_by-IsPermutation f (e ∷ old) new p, sum_by-cons f e old, same_region e.tag place is u)

pub entries_put : {X : Type 0} (P : X → Type 0) (stands : Bool) (e : X) (old new : List X) → (stands ≡ true → IsPermutation (e ∷ old) (get_or old 0 e ∷ new)) → (stands ≡ false → IsPermutation (e ∷ old) new)
    → P e → All P old → All P new
entries_put P true e old new a b p all = All-tail P (get_or old 0 e) new (All-permutation P (e ∷ old) (get_or old 0 e ∷ new) (a refl) (All-cons P e old p all))
entries_put P false e old new a b p all = All-permutation P (e ∷ old) new (b refl) (All-cons P e old p all)

pub length_put : {X : Type 0} (stands : Bool) (e : X) (old new : List X) → (stands ≡ true → IsPermutation (e ∷ old) (get_or old 0 e ∷ new)) → (stands ≡ false → IsPermutation (e ∷ old) new)
    → length new ≤ length old + 1
length_put true e old new a b = omega (arith, length_permutation (e ∷ old) (get_or old 0 e ∷ new) (a refl))
length_put false e old new a b = omega (arith, length_permutation (e ∷ old) new (b refl))

module _ {R : Type 0} (d : ℕ) (key : R → KeyOf d 16) (t : List (NodeView R)) (links : List (Linked Link)) (s : Deviation R) (h : IsSite d key t links s) where
  pub held_put : (stands : Bool) (e : Entry R Candidate) (place : ℕ) → e.tag ≡ candidate_at d key t links s h place → (old new : List (Entry R Candidate)) → (stands ≡ true → 0 < length old)
      → (stands ≡ true → IsPermutation (e ∷ old) (get_or old 0 e ∷ new)) → (stands ≡ false → IsPermutation (e ∷ old) new)
      → (u : List ℕ) → in_region (followers t) (region_at t (prefix d key t links s h) place) u + held_by t links old u ≡ cond stands (held_by t links (take 1 old) u) 0 + held_by t links new u
  held_put true e place is old new some a b u = held_replaced d key t links s h e place is old new (some refl) (a refl) u
  held_put false e place is old new some a b u = held_pushed d key t links s h e place is old new (b refl) u
