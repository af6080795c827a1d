-- One node of the division of a region.
use Rattle.std.proofs.Common.{◌≡◌, ℕ, suc, Some, ◌+◌, ◌-◌, ◌*◌, ◌<◌, ◌≤◌, Bool, true, false, cond, nat_eq, None, List, [], ◌∷◌, ◌++◌, length, take, get_or, refl, sym, ap, ◌∙◌, subst, inl, inr, arith}
use Rattle.std.specs.List.{All}
use Rattle.std.proofs.Math.ListN.{set, length-set}
use Rattle.std.proofs.Math.Seq.{take-suc-set}
use Rattle.std.proofs.lemmas.List.{get_or-take, get_or_past}
use Rattle.std.proofs.lemmas.Bool.{cases_eq, cases_lt, eq-eqb, cond-true}
use Rattle.std.proofs.lemmas.List.Sums.{sum_by-cons}
use Rattle.std.proofs.lemmas.List.Elements.{All-head, All-tail, All-take}
use Rattle.stream_store.specs.declared.linked.Linked.{Linked}
use Rattle.take2_heap.specs.declared.entry.Entry.{Entry}
use Rattle.tdp_model.specs.KeyTuple.{KeyOf, key_below}
use Rattle.tdp_model.specs.StagedProblem.{IsStaged}
use Rattle.tdp_model.specs.Regions.{in_region, opening}
use Rattle.tdp_core.specs.TreeView.{NodeView, node_at, parent, rows, members, group_count, group_number, group_named, child_place, group, best}
use Rattle.tdp_core.proofs.TreeFacts.{member_is_row, rows_within, group_rows_within}
use Rattle.anyk_part.specs.declared.candidate.Link.{Link}
use Rattle.anyk_part.specs.declared.candidate.Candidate.{Candidate}
use Rattle.anyk_part.specs.declared.candidate.ChosenRow.{ChosenRow}
use Rattle.anyk_part.specs.declared.candidate.Descent.{Descent}
use Rattle.anyk_part.specs.Chains.{chain, IsChain}
use Rattle.anyk_part.specs.Regions.{followers, Reached, least, region_of, region_at, held_by, IsEntry}
use Rattle.anyk_part.specs.Walks.{IsSite, IsAt, IsChoice, row_at}
use Rattle.anyk_part.proofs.ChainLemmas.{chain_length, IsChain-kept, chain_kept, IsChain-new, chain_new}
use Rattle.anyk_part.proofs.LiveTrees.{staged}
use Rattle.tdp_model.proofs.PartNext.{none_past}

-- # Entries and a growing store

pub entry_kept : {R : Type 0} (d : ℕ) (key : R → KeyOf d 16) (t : List (NodeView R)) (links more : List (Linked Link)) (e : Entry R Candidate) → IsEntry d key t links e → IsEntry d key t (links ++ more) e
unfolding opening
entry_kept d key t links more e h =
    let same : chain (links ++ more) e.tag.position e.tag.before ≡ chain links e.tag.position e.tag.before = chain_kept links more e.tag.position e.tag.before h.chained in
    record {
      position = h.position;
      chained = IsChain-kept links more e.tag.position e.tag.before h.chained;
      reached = subst (λ p. Reached t (length t - e.tag.position) p) (sym same) h.reached;
      place = subst (λ p. e.tag.place < length (followers t p)) (sym same) h.place;
      ranked = h.ranked ∙ ap (λ p. least d key t (p ++ (get_or (followers t p) e.tag.place 0 ∷ []))) (sym same);
    }

pub held_kept : {R : Type 0} (d : ℕ) (key : R → KeyOf d 16) (t : List (NodeView R)) (links more : List (Linked Link)) (es : List (Entry R Candidate)) → All (IsEntry d key t links) es → (u : List ℕ)
    → held_by t (links ++ more) es u ≡ held_by t links es u
held_kept d key t links more [] all u = refl
held_kept d key t links more (e ∷ es) all u =
    let head : IsEntry d key t links e = All-head (IsEntry d key t links) e es all in
    let same : in_region (followers t) (region_of (links ++ more) (length t) e.tag) u ≡ in_region (followers t) (region_of links (length t) e.tag) u =
    ap (λ p. in_region (followers t) (record { chosen = p; place = e.tag.place; left = length t - suc e.tag.position }) u) (chain_kept links more e.tag.position e.tag.before head.chained) in
    omega (
      arith,
      same,
      held_kept d key t links more es (All-tail (IsEntry d key t links) e es all) u,
      sum_by-cons (λ x. in_region (followers t) (region_of (links ++ more) (length t) x.tag) u) e es,
      sum_by-cons (λ x. in_region (followers t) (region_of links (length t) x.tag) u) e es,
    )

-- The candidates of two places put in, of which i and j hold a solution: how many of what the queue held, of its top, and of what it
-- holds, do so too. The group may end before the first place,
pub put_none : (stands : Bool) (i j old top : ℕ) → i ≡ 0 → j ≡ 0 → i + (j + old) ≡ cond stands (cond stands 0 top) 0 + old
put_none true i j old top a b = omega (arith, a, b)
put_none false i j old top a b = omega (arith, a, b)

-- or before the second one,
pub put_once : (stood : Bool) (i j old top mid : ℕ) → i + old ≡ cond stood top 0 + mid → j ≡ 0 → i + (j + old) ≡ cond stood top 0 + mid
put_once true i j old top mid a b = omega (arith, a, b)
put_once false i j old top mid a b = omega (arith, a, b)

-- or after it
pub put_twice : (stood : Bool) (i j old top mid new : ℕ) → i + old ≡ cond stood top 0 + mid → j + mid ≡ 0 + new → i + (j + old) ≡ cond stood top 0 + new
put_twice true i j old top mid new a b = omega (arith, a, b)
put_twice false i j old top mid new a b = omega (arith, a, b)

module _ {R : Type 0} (d : ℕ) (key : R → KeyOf d 16) (t : List (NodeView R)) (whole : R) (w : Descent) (chosen : List ℕ) (links : List (Linked Link)) (h : IsAt d key t whole w chosen links) (l : w.node < length t) where
  abbrev pub so_far : List ℕ
  so_far = chain links w.node w.before

  abbrev pub row : ℕ
  row = row_at d key t w links

  long : length so_far ≡ w.node
  long = chain_length links w.node w.before h.chained

  -- the row chosen at an earlier node
  pub chosen_is : (q : ℕ) → q < w.node → get_or chosen q 0 ≡ get_or so_far q 0
  chosen_is q l = sym (get_or-take w.node chosen q 0 l) ∙ ap (λ xs. get_or xs q 0) h.rows

  same_number : group_number t w.node (get_or chosen (parent t w.node) 0) ≡ group_number t w.node (get_or so_far (parent t w.node) 0)
  same_number = elim (cases_eq w.node 0) [
    | inl e ↦
        cond-true (nat_eq w.node 0) 0 (group_named t (parent t w.node) (get_or chosen (parent t w.node) 0) (child_place t w.node)) (eq-eqb w.node 0 e)
        ∙ sym (cond-true (nat_eq w.node 0) 0 (group_named t (parent t w.node) (get_or so_far (parent t w.node) 0) (child_place t w.node)) (eq-eqb w.node 0 e))
    | inr n ↦ ap (λ r. group_number t w.node r) (chosen_is (parent t w.node) (h.formed.shaped.parents_first w.node (omega arith) l))
  ]

  -- the group of the number that is found holds what may follow
  pub group_is : (g : ℕ) → g ≡ group_number t w.node (get_or chosen (parent t w.node) 0) → members t w.node g ≡ followers t so_far
  group_is g e = ap (λ z. members t w.node z) (e ∙ same_number) ∙ sym (ap (λ p. group t p (get_or so_far (parent t p) 0)) long)

  pub row_is : (g r : ℕ) → g ≡ group_number t w.node (get_or chosen (parent t w.node) 0) → r ≡ get_or (members t w.node g) w.place 0 → r ≡ row
  row_is g r e f = f ∙ ap (λ ms. get_or ms w.place 0) (group_is g e)

  pub row_fits : (g r : ℕ) → g ≡ group_number t w.node (get_or chosen (parent t w.node) 0) → r ≡ get_or (members t w.node g) w.place 0 → r < rows t w.node
  row_fits g r e f =
      subst (λ z. z < rows t w.node) (sym f) (member_is_row d key t h.formed w.node g w.place l (subst (λ ms. w.place < length ms) (sym (group_is g e)) (h.place l)))

  -- the rows chosen before are rows of their nodes
  pub rows_before : (q : ℕ) → q < w.node → get_or chosen q 0 < rows t q
  rows_before q m = subst (λ r. r < rows t q) (sym (chosen_is q m)) (h.reached.1 q (omega (arith, long, m)))

  -- the walk's place is one of the group
  pub place_in : (g : ℕ) → g ≡ group_number t w.node (get_or chosen (parent t w.node) 0) → w.place < length (members t w.node g)
  place_in g e = subst (λ ms. w.place < length ms) (sym (group_is g e)) (h.place l)

  -- so it is one of the node's groups
  pub group_in : (g : ℕ) → g ≡ group_number t w.node (get_or chosen (parent t w.node) 0) → g < group_count t w.node
  group_in g e = elim (cases_lt g (group_count t w.node)) [
    | inl m ↦ m
    | inr past ↦ absurd (omega (arith, place_in g e, ap (λ ms. length ms) (get_or_past (node_at t w.node).groups g [] (omega (arith, past)))))
  ]

  pub node_small : w.node < 16
  node_small = omega (arith, l, h.formed.shaped.few_nodes)

  -- no solution has its row at a place past the group's end
  pub none_at : (g place : ℕ) → g ≡ group_number t w.node (get_or chosen (parent t w.node) 0) → length (members t w.node g) ≤ place → (u : List ℕ) → in_region (followers t) (region_at t so_far place) u ≡ 0
  none_at g place e far u = none_past (followers t) (region_at t so_far place) u (subst (λ ms. length ms ≤ place) (group_is g e) far)

  pub place_small : (g : ℕ) → g ≡ group_number t w.node (get_or chosen (parent t w.node) 0) → w.place < 4194304
  place_small g e =
      omega (
        arith,
        place_in g e,
        group_rows_within d key t h.formed w.node g l,
        rows_within d key t h.formed w.node l,
      )

  pub site_of : (g r : ℕ) (b : R) → g ≡ group_number t w.node (get_or chosen (parent t w.node) 0) → r ≡ get_or (members t w.node g) w.place 0 → key b ≡ best t d key w.node r
      → IsSite d key t links (record { total = whole; best = b; node = w.node; group = g; row = r; before = w.before })
  site_of g r b e f k = record {
    formed = h.formed;
    live = h.live;
    node = l;
    chained = h.chained;
    reached = h.reached;
    group = e ∙ same_number;
    row = row_fits g r e f;
    best = k;
    total = h.total l ∙ ap (λ z. least d key t (so_far ++ (z ∷ []))) (sym (row_is g r e f));
  }

  next_size : suc w.node ≡ w.node + 1
  next_size = omega arith

  -- the link of a row
  abbrev pub link_of : ℕ → Linked Link
  link_of r = record { value = record { row = r; before = w.before }; next = None }

  abbrev pub linked : Linked Link
  linked = link_of row

  pub chain_next : chain (links ++ (linked ∷ [])) (w.node + 1) (Some (length links)) ≡ so_far ++ (row ∷ [])
  chain_next = subst (λ n. chain (links ++ (linked ∷ [])) n (Some (length links)) ≡ so_far ++ (row ∷ [])) next_size (chain_new links linked w.node h.chained)

  abbrev pub law : IsStaged (KeyOf d 16) (key_below d 16) (followers t) (least d key t) (Reached t)
  law = staged d key t h.formed h.live

  reach : Reached t (suc (length t - (w.node + 1))) so_far
  reach = (omega (arith, h.reached.0), h.reached.1)

  next_reach : Reached t (length t - (w.node + 1)) (so_far ++ (row ∷ []))
  next_reach = law.step (length t - (w.node + 1)) so_far w.place reach (h.place l)

  open_reach : w.node + 1 < length t → Reached t (suc (length t - (w.node + 2))) (so_far ++ (row ∷ []))
  open_reach m = (omega (arith, next_reach.0), next_reach.1)

  pub at_next : (stands : Bool) → IsAt d key t whole (record { node = w.node + 1; place = 0; before = Some (length links); top_stands = stands }) (set chosen w.node row) (links ++ (linked ∷ []))
  at_next stands =
      let few = h.formed.shaped.few_nodes in record {
        formed = h.formed;
        live = h.live;
        to = omega (arith, l);
        long = length-set chosen w.node row ∙ h.long;
        chained = subst (λ n. IsChain (links ++ (linked ∷ [])) n (Some (length links))) next_size (IsChain-new links linked w.node h.chained);
        rows =
            subst (λ n. take n (set chosen w.node row) ≡ so_far ++ (row ∷ [])) next_size (take-suc-set chosen w.node row (omega (arith, h.long, l, few)) ∙ ap (λ xs. xs ++ (row ∷ [])) h.rows)
            ∙ sym chain_next;
        reached = subst (λ p. Reached t (length t - (w.node + 1)) p) (sym chain_next) next_reach;
        place = λ m. subst (λ p. 0 < length (followers t p)) (sym chain_next) (law.inhabited (length t - (w.node + 2)) (so_far ++ (row ∷ [])) (open_reach m));
        total = λ m.
            subst (λ p. key whole ≡ least d key t (p ++ (get_or (followers t p) 0 0 ∷ []))) (sym chain_next)
            (h.total l ∙ sym (law.first (length t - (w.node + 2)) (so_far ++ (row ∷ [])) (open_reach m)));
      }

  pub at_after : (id r : ℕ) (rows : List ℕ) (grown : List (Linked Link)) (stands : Bool) → r ≡ row → rows ≡ set chosen w.node r → grown ≡ links ++ (link_of r ∷ []) → id ≡ length links
      → IsAt d key t whole (record { node = w.node + 1; place = 0; before = Some id; top_stands = stands }) rows grown
  at_after id r rows grown stands same put more named =
      let At : ℕ → List ℕ → List (Linked Link) → Type 0 = λ i xs ls. IsAt d key t whole (record { node = w.node + 1; place = 0; before = Some i; top_stands = stands }) xs ls in
      subst (λ ls. At id rows ls) (sym more)
      (subst (λ xs. At id xs (links ++ (link_of r ∷ []))) (sym put)
      (subst (λ i. At i (set chosen w.node r) (links ++ (link_of r ∷ []))) (sym named)
      (subst (λ z. At (length links) (set chosen w.node z) (links ++ (link_of z ∷ []))) (sym same) (at_next stands))))

  pub chain_after : (id r : ℕ) (grown : List (Linked Link)) → r ≡ row → grown ≡ links ++ (link_of r ∷ []) → id ≡ length links → chain grown (w.node + 1) (Some id) ≡ so_far ++ (row ∷ [])
  chain_after id r grown same more named =
      let At : ℕ → List (Linked Link) → Type 0 = λ i ls. chain ls (w.node + 1) (Some i) ≡ so_far ++ (row ∷ []) in
      subst (λ ls. At id ls) (sym more)
      (subst (λ i. At i (links ++ (link_of r ∷ []))) (sym named)
      (subst (λ z. At (length links) (links ++ (link_of z ∷ []))) (sym same) chain_next))

-- # A choice, and the link that follows it

module _ {R : Type 0} (d : ℕ) (key : R → KeyOf d 16) (t : List (NodeView R)) (w : Descent) (links more grown : List (Linked Link)) (chosen : List ℕ) (before : List (Entry R Candidate)) (c : ChosenRow)
    (rows : List ℕ) (entries : List (Entry R Candidate)) (h : IsChoice d key t w links chosen before c rows entries) (is : grown ≡ links ++ more) where
  pub entries_after : All (IsEntry d key t grown) entries
  entries_after = λ k e l. subst (λ ls. IsEntry d key t ls (get_or entries k e)) (sym is) (entry_kept d key t links more (get_or entries k e) (h.each k e l))

  pub held_after : (u : List ℕ) → in_region (followers t) (region_at t (chain links w.node w.before) (2 * w.place + 1)) u
      + (in_region (followers t) (region_at t (chain links w.node w.before) (2 * w.place + 2)) u + held_by t links before u)
      ≡ cond w.top_stands (cond c.top_stands 0 (held_by t links (take 1 before) u)) 0 + held_by t grown entries u
  held_after u = h.held u ∙ ap (λ n. cond w.top_stands (cond c.top_stands 0 (held_by t links (take 1 before) u)) 0 + n)
      (sym (ap (λ ls. held_by t ls entries u) is ∙ held_kept d key t links more entries h.each u))

  pub top_after : All (IsEntry d key t links) before → c.top_stands ≡ true → (u : List ℕ) → held_by t grown (take 1 entries) u ≡ held_by t links (take 1 before) u
  top_after all e u =
      ap (λ ls. held_by t ls (take 1 entries) u) is
      ∙ ap (λ es. held_by t (links ++ more) (take 1 es) u) (h.stands e).1
      ∙ held_kept d key t links more (take 1 before) (All-take (IsEntry d key t links) 1 before all) u
