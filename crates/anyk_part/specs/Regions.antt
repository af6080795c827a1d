-- What the candidates mean, and what the queue of them is.
use Rattle.std.specs.Prelude.{◌≡◌, ℕ, ◌+◌, ◌-◌, ◌*◌, ◌<◌, ◌≤◌, suc, List, length, map}
use Rattle.std.specs.List.{All, sum_by}
use Rattle.stream_store.specs.declared.linked.Linked.{Linked}
use Rattle.take2_heap.specs.declared.entry.Entry.{Entry}
use Rattle.tdp_model.specs.KeyTuple.{KeyOf, key_below, key_add, key_none}
use Rattle.tdp_model.specs.Regions.{Region, in_region, in_regions}
use Rattle.tdp_model.specs.TreeProblem.{rows_after, bound_of, IsReached}
use Rattle.tdp_model.specs.Queue.{rank_of}
use Rattle.tdp_model.specs.Remains.{Remains}
use Rattle.tdp_model.proofs.KeyTuples.{tuple_keys}
use Rattle.tdp_core.specs.AnswerView.{AnswerView, answers_of}
use Rattle.tdp_core.specs.TreeView.{NodeView, parent, rows, group, group_count, rank, best}
use Rattle.tdp_core.specs.WellFormed.{IsFormed, IsTieFreeTree}
use Rattle.anyk_part.specs.declared.candidate.Link.{Link}
use Rattle.anyk_part.specs.declared.candidate.Candidate.{Candidate}
use Rattle.anyk_part.specs.Chains.{chain, IsChain}
use Rattle.anyk_part.specs.RemainingSolutions.{ranking_of}

-- a candidate: its region, and its rank
pub record RankedRegion (R : Type 0) : Type 0 where
  pub region : Region
  pub rank : R

-- what an engine by regions is to its callers: the tree, the candidates in heap order, and the
-- number of calls so far
pub record PartView (R : Type 0) : Type 0 where
  pub tree : List (NodeView R)
  pub candidates : List (RankedRegion R)
  pub calls : ℕ

-- the region of a candidate over m nodes
abbrev pub region_of : List (Linked Link) → ℕ → Candidate → Region
region_of links m c = record
    { chosen = chain links c.position c.before; place = c.place; left = m - suc c.position }

module _ {R : Type 0} where
  -- the regions of the queue's entries
  abbrev pub regions_of : List (Linked Link) → ℕ → List (Entry R Candidate) → List Region
  regions_of links m es = map (λ e. region_of links m e.tag) es

  -- the candidates that the queue's entries are
  abbrev pub candidates_of : List (Linked Link) → ℕ → List (Entry R Candidate)
      → List (RankedRegion R)
  candidates_of links m es = map
      (λ e. record { region = region_of links m e.tag; rank = e.rank }) es

  -- the regions of these candidates
  abbrev pub regions : List (RankedRegion R) → List Region
  regions cs = map (λ c. c.region) cs

  -- the rows that may follow the rows `pre`
  abbrev pub followers : List (NodeView R) → List ℕ → List ℕ
  followers t = rows_after (parent t) (group t)

  -- n rows more make the rows `pre` one row for each node
  abbrev pub Reached : List (NodeView R) → ℕ → List ℕ → Type 0
  Reached t = IsReached (length t) (λ v r. r < rows t v)

  -- the region of the solutions that begin with the rows, and whose next row is in the subtree of a
  -- place
  abbrev pub region_at : List (NodeView R) → List ℕ → ℕ → Region
  region_at t pre place = record { chosen = pre; place = place; left = length t - suc (length pre) }

  -- how many of the entries hold the solution
  abbrev pub held_by : List (NodeView R) → List (Linked Link) → List (Entry R Candidate) → List ℕ
      → ℕ
  held_by t links es s = sum_by
      (λ e. in_region (followers t) (region_of links (length t) e.tag) s) es

  module _ (d : ℕ) (key : R → KeyOf d 16) (t : List (NodeView R)) where
    -- the least key of the solutions that begin with the rows
    abbrev pub least : List ℕ → KeyOf d 16
    least = bound_of (key_add d 16) (key_none d 16) (length t) (parent t) (rank t d key) (group t)
        (best t d key)

    -- the ranking of what the regions hold
    abbrev pub rest_keys : List Region → List (KeyOf d 16)
    rest_keys rs = ranking_of (key_below d 16) (tuple_keys d 16).order (followers t) least rs

    -- the answers that the candidates hold
    abbrev pub rest_of : List (RankedRegion R) → List AnswerView
    rest_of cs = answers_of d (rest_keys (regions cs))

    -- An entry of the queue: its links are in the store, its place is one of its group, and its
    -- rank is the least key of its region.
    pub record IsEntry (links : List (Linked Link)) (e : Entry R Candidate) : Type 0 where
      pub position : e.tag.position < length t
      pub chained : IsChain links e.tag.position e.tag.before
      pub reached : Reached t (length t - e.tag.position) (chain links e.tag.position e.tag.before)
      pub place : e.tag.place < length (followers t (chain links e.tag.position e.tag.before))
      pub ranked : key e.rank ≡ rank_of (followers t) least (region_of links (length t) e.tag)

    -- The queue's regions are disjoint and hold what is left, and each entry has the least key of
    -- its region as rank.
    pub record IsPart (links : List (Linked Link)) (entries : List (Entry R Candidate))
        (calls : ℕ) : Type 0 where
      pub formed : IsFormed d key t
      pub tie_free : IsTieFreeTree t
      pub live : 0 < length entries → 0 < group_count t 0
      pub each : All (IsEntry links) entries
      pub remains : Remains (List ℕ) (KeyOf d 16) (key_below d 16) least
          (in_regions (followers t) (regions_of links (length t) entries))
          (rest_keys (regions_of links (length t) entries))
      pub few : length entries ≤ 1 + 2 * (length t * calls)
