-- From a candidate to the start of the division of its region.
use Rattle.std.proofs.Common.{◌≡◌, ℕ, ◌<◌, List, length, take, arith}
use Rattle.stream_store.specs.declared.linked.Linked.{Linked}
use Rattle.take2_heap.specs.declared.entry.Entry.{Entry}
use Rattle.tdp_model.specs.KeyTuple.{KeyOf}
use Rattle.tdp_model.specs.Regions.{opening}
use Rattle.tdp_core.specs.TreeView.{NodeView, group_count}
use Rattle.tdp_core.specs.WellFormed.{IsFormed}
use Rattle.anyk_part.specs.declared.candidate.Link.{Link}
use Rattle.anyk_part.specs.declared.candidate.Candidate.{Candidate}
use Rattle.anyk_part.specs.declared.candidate.Descent.{Descent}
use Rattle.anyk_part.specs.Chains.{chain}
use Rattle.anyk_part.specs.Regions.{IsEntry}
use Rattle.anyk_part.specs.Walks.{IsAt}

-- the entry whose region's division starts at the walk
abbrev pub entry_of : {R : Type 0} → R → Descent → Entry R Candidate
entry_of r w = record { rank = r; tag = record { position = w.node; place = w.place; before = w.before } }

module _ {R : Type 0} (d : ℕ) (key : R → KeyOf d 16) (t : List (NodeView R)) (links : List (Linked Link)) where
  pub starts_at : (r : R) (w : Descent) (chosen : List ℕ) → IsFormed d key t → 0 < group_count t 0 → IsEntry d key t links (entry_of r w) → length chosen ≡ 16 → take w.node chosen ≡ chain links w.node w.before
      → IsAt d key t r w chosen links
  unfolding opening
  starts_at r w chosen formed live h long rows = record {
    formed = formed;
    live = live;
    to = omega (arith, h.position);
    long = long;
    chained = h.chained;
    rows = rows;
    reached = h.reached;
    place = λ _. h.place;
    total = λ _. h.ranked;
  }
