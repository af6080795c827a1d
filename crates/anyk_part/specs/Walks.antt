-- The division of a region by one answer, node by node.
use Rattle.std.specs.Prelude.{Bool, ◌≡◌, ℕ, ◌+◌, ◌-◌, ◌*◌, ◌<◌, ◌≤◌, zero, suc, true, cond, List, [], ◌∷◌, ◌++◌, length, take, slice_index, slice_set}
use Rattle.std.specs.List.{All}
use Rattle.stream_store.specs.declared.linked.Linked.{Linked}
use Rattle.take2_heap.specs.declared.entry.Entry.{Entry}
use Rattle.tdp_model.specs.KeyTuple.{KeyOf}
use Rattle.tdp_model.specs.Regions.{Region, in_region, in_regions, completion, deviations, best_of, divided}
use Rattle.tdp_core.specs.TreeView.{NodeView, parent, rows, group_count, group_number, best}
use Rattle.tdp_core.specs.WellFormed.{IsFormed}
use Rattle.anyk_part.specs.declared.candidate.Link.{Link}
use Rattle.anyk_part.specs.declared.candidate.Candidate.{Candidate}
use Rattle.anyk_part.specs.declared.candidate.ChosenRow.{ChosenRow}
use Rattle.anyk_part.specs.declared.candidate.Deviation.{Deviation}
use Rattle.anyk_part.specs.declared.candidate.Descent.{Descent}
use Rattle.anyk_part.specs.Chains.{chain, IsChain}
use Rattle.anyk_part.specs.Regions.{followers, Reached, least, region_at, held_by, IsEntry}

-- the best solution that begins with `pre` and then the member at a place, with n rows to follow
unfoldable pub best_from : (List ℕ → List ℕ) → ℕ → List ℕ → ℕ → List ℕ
best_from members zero pre place = pre
best_from members (suc n) pre place = completion members n
    (pre ++ (slice_index (members pre) place ∷ []))

-- the regions that deviate from it
unfoldable pub divided_from : (List ℕ → List ℕ) → ℕ → List ℕ → ℕ → List Region
divided_from members zero pre place = []
divided_from members (suc n) pre place =
    (record { chosen = pre; place = 2 * place + 1; left = n })
    ∷ ((record { chosen = pre; place = 2 * place + 2; left = n })
    ∷ deviations members n (pre ++ (slice_index (members pre) place ∷ [])))

-- n if the queue's top was there before and is no longer there, else 0
abbrev pub gone : Bool → Bool → ℕ → ℕ
gone stood stands n = cond stood (cond stands 0 n) 0

module _ {R : Type 0} (d : ℕ) (key : R → KeyOf d 16) (t : List (NodeView R)) where
  -- what the candidates that deviate at one node share is as it says
  pub record IsSite (links : List (Linked Link)) (s : Deviation R) : Type 0 where
    pub formed : IsFormed d key t
    pub live : 0 < group_count t 0
    pub node : s.node < length t
    pub chained : IsChain links s.node s.before
    pub reached : Reached t (length t - s.node) (chain links s.node s.before)
    pub group : s.group
        ≡ group_number t s.node (slice_index (chain links s.node s.before) (parent t s.node))
    pub row : s.row < rows t s.node
    pub best : key s.best ≡ best t d key s.node s.row
    pub total : key s.total ≡ least d key t (chain links s.node s.before ++ (s.row ∷ []))

  -- The division of a region has come to the walk's node: `chosen` are the rows before it, and
  -- `whole` is the rank of the region's best solution, which goes on with the member at the walk's
  -- place.
  pub record IsAt (whole : R) (w : Descent) (chosen : List ℕ)
      (links : List (Linked Link)) : Type 0 where
    pub formed : IsFormed d key t
    pub live : 0 < group_count t 0
    pub to : w.node ≤ length t
    pub long : length chosen ≡ 16
    pub chained : IsChain links w.node w.before
    pub rows : take w.node chosen ≡ chain links w.node w.before
    pub reached : Reached t (length t - w.node) (chain links w.node w.before)
    pub place : w.node < length t → w.place < length (followers t (chain links w.node w.before))
    pub total : w.node < length t
        → key whole ≡ least d key t
        (chain links w.node w.before
        ++ (slice_index (followers t (chain links w.node w.before)) w.place ∷ []))

  -- the row that the walk chooses
  abbrev pub row_at : Descent → List (Linked Link) → ℕ
  row_at w links = slice_index (followers t (chain links w.node w.before)) w.place

  -- The row of the walk's node is chosen, and the candidates that deviate from it are beside the
  -- entries that were there before.
  pub record IsChoice (w : Descent) (links : List (Linked Link)) (chosen : List ℕ)
      (before : List (Entry R Candidate)) (c : ChosenRow)
      (rows : List ℕ) (entries : List (Entry R Candidate)) : Type 0 where
    pub row : c.row ≡ row_at w links
    pub put : rows ≡ slice_set chosen w.node c.row
    pub each : All (IsEntry d key t links) entries
    pub held : (s : List ℕ)
        → in_region (followers t) (region_at t (chain links w.node w.before) (2 * w.place + 1)) s
        + (in_region (followers t) (region_at t (chain links w.node w.before) (2 * w.place + 2)) s
        + held_by t links before s)
        ≡ gone w.top_stands c.top_stands (held_by t links (take 1 before) s)
        + held_by t links entries s
    pub stands : c.top_stands ≡ true → (w.top_stands ≡ true) × (entries ≡ before)
    pub few : length entries ≤ length before + 2

  -- the region of which the division starts
  abbrev pub start_region : List (Linked Link) → Descent → Region
  start_region links w = record
      { chosen = chain links w.node w.before; place = w.place; left = length t - suc w.node }

  -- The division of the region `start` at the top of the queue `before`, so far: what the region
  -- holds is its best solution, the regions that are still to be put in, and what the queue now
  -- holds beside the others.
  pub record IsDivision (start : Descent) (old_links : List (Linked Link))
      (before : List (Entry R Candidate)) (w : Descent)
      (links : List (Linked Link)) (entries : List (Entry R Candidate)) : Type 0 where
    pub from : start.node ≤ w.node
    pub goal : best_of (followers t) (start_region old_links start)
        ≡ best_from (followers t) (length t - w.node) (chain links w.node w.before) w.place
    pub held : (s : List ℕ)
        → in_regions (followers t) (divided (followers t) (start_region old_links start)) s
        + held_by t old_links before s
        ≡ in_regions (followers t)
        (divided_from (followers t) (length t - w.node) (chain links w.node w.before) w.place) s
        + (cond w.top_stands 0 (held_by t old_links (take 1 before) s) + held_by t links entries s)
    pub each : All (IsEntry d key t links) entries
    pub stands : w.top_stands ≡ true
        → (entries ≡ before)
        × ((s : List ℕ) → held_by t links (take 1 entries) s
        ≡ held_by t old_links (take 1 before) s)
    pub few : length entries ≤ length before + 2 * (w.node - start.node)

  -- what the choice at a walk's node finds
  pub record CanChoose (whole : R) (w : Descent) (chosen : List ℕ) (links : List (Linked Link))
      (entries : List (Entry R Candidate)) : Type 0 where
    pub at : IsAt whole w chosen links
    pub node : w.node < length t
    pub each : All (IsEntry d key t links) entries
    pub top : w.top_stands ≡ true → 0 < length entries

  -- The walk `next` is one node further than w: the row of w's node is chosen and linked to those
  -- before it, and the candidates that deviate from it are beside the entries that were there
  -- before.
  pub record IsAdvanced (whole : R) (w : Descent) (links : List (Linked Link))
      (before : List (Entry R Candidate)) (next : Descent) (chosen : List ℕ)
      (more : List (Linked Link)) (entries : List (Entry R Candidate)) : Type 0 where
    pub node : next.node ≡ w.node + 1
    pub place : next.place ≡ 0
    pub at : IsAt whole next chosen more
    pub chain_is : chain more next.node next.before
        ≡ chain links w.node w.before ++ (row_at w links ∷ [])
    pub each : All (IsEntry d key t more) entries
    pub held : (s : List ℕ)
        → in_region (followers t) (region_at t (chain links w.node w.before) (2 * w.place + 1)) s
        + (in_region (followers t) (region_at t (chain links w.node w.before) (2 * w.place + 2)) s
        + held_by t links before s)
        ≡ gone w.top_stands next.top_stands (held_by t links (take 1 before) s)
        + held_by t more entries s
    pub stands : next.top_stands ≡ true → (w.top_stands ≡ true) × (entries ≡ before)
    pub top : next.top_stands ≡ true
        → (s : List ℕ) → held_by t more (take 1 entries) s ≡ held_by t links (take 1 before) s
    pub few : length entries ≤ length before + 2

  -- What a division leaves: the rows are those of the region's best solution, and the entries hold
  -- what else was held.
  pub record IsDivided (start : Descent) (old_links : List (Linked Link))
      (before : List (Entry R Candidate)) (rows : List ℕ) (links : List (Linked Link))
      (entries : List (Entry R Candidate)) : Type 0 where
    pub best : take (length t) rows ≡ best_of (followers t) (start_region old_links start)
    pub reached : Reached t 0 (take (length t) rows)
    pub held : (s : List ℕ)
        → in_regions (followers t) (divided (followers t) (start_region old_links start)) s
        + held_by t old_links before s
        ≡ held_by t old_links (take 1 before) s + held_by t links entries s
    pub each : All (IsEntry d key t links) entries
    pub few : length entries ≤ length before + 2 * length t
