-- A group's queue at its start: the first solution of the first member.
use Rattle.std.proofs.Common.{◌≡◌, ℕ, ◌<◌, List, [], ◌∷◌, length, get_or, sym, ◌∙◌, subst, arith}
use Rattle.std.specs.List.{All}
use Rattle.std.proofs.lemmas.List.Elements.{All-nil, All-cons}
use Rattle.rankings.specs.Order.{IsRanking}
use Rattle.tdp_model.specs.Remains.{Remains, total}
use Rattle.tdp_model.specs.KeyTuple.{KeyOf, key_below, key_add, key_none, slot_of}
use Rattle.tdp_model.specs.Product.{Pair, run_key}
use Rattle.tdp_model.specs.TreeProblem.{RowHas}
use Rattle.tdp_model.proofs.KeyTuples.{tuple_keys}
use Rattle.take2_heap.specs.declared.entry.Entry.{Entry}
use Rattle.tdp_core.specs.TreeView.{NodeView, parent, item, number, members, group, rank, best}
use Rattle.tdp_core.specs.WellFormed.{IsFormed, IsTieFreeTree}
use Rattle.tdp_core.proofs.TreeFacts.{member_is_row, members_apart, tie_free_of}
use Rattle.suffix_streams.specs.Ahead.{IsAhead}
use Rattle.suffix_streams.specs.QueueEntries.{IsHeld, places, InRuns}
use Rattle.suffix_streams.specs.Reaches.{reaches}
use Rattle.suffix_streams.proofs.Held.{held_inside}
use Rattle.suffix_streams.proofs.Begins.{members_begin}
use Rattle.suffix_streams.proofs.BeginFirsts.{group_head, row_head}

module _ {R T : Type 0} (d : ℕ) (key : R → KeyOf d 16) (t : List (NodeView R)) (formed : IsFormed d key t) (free : IsTieFreeTree t) (at : T → Pair) (q g : ℕ) where
  -- the first member's first solution is ahead of the group's whole ranking, which it begins
  pub first_ahead : (e : Entry R T) (whole : List (KeyOf d 16)) (lists : ℕ → List (KeyOf d 16)) → q < length t → 0 < length (members t q g)
      → at e.tag ≡ record { left = 0; right = 0 } → key e.rank ≡ best t d key q (get_or (members t q g) 0 0)
      → IsRanking (KeyOf d 16) (key_below d 16) (λ k. (i : ℕ) × (i < length (members t q g)) × RowHas (key_add d 16) (key_none d 16) (length t) (parent t) (rank t d key) (group t) (length t) q (get_or (members t q g) i 0) k) whole
      → ((i : ℕ) → i < length (members t q g)
      → IsRanking (KeyOf d 16) (key_below d 16) (RowHas (key_add d 16) (key_none d 16) (length t) (parent t) (rank t d key) (group t) (length t) q (get_or (members t q g) i 0)) (lists i))
      → All (IsHeld d key (run_key (key_none d 16) lists) (InRuns d (length (members t q g)) lists) at) (e ∷ [])
      × IsAhead Pair (KeyOf d 16) (key_below d 16) (run_key (key_none d 16) lists) (reaches (length (members t q g)) (λ i. length (lists i))) (InRuns d (length (members t q g)) lists) whole 1 (places at (e ∷ []))
  first_ahead e whole lists l some place least whole_ranks rows_rank =
      let first : (0 < length (lists 0)) × (get_or (lists 0) 0 (key_none d 16) ≡ best t d key q (get_or (members t q g) 0 0)) =
      row_head d key t formed q (get_or (members t q g) 0 0) (lists 0) l (member_is_row d key t formed q g 0 l some) (rows_rank 0 some) in
      let held : All (IsHeld d key (run_key (key_none d 16) lists) (InRuns d (length (members t q g)) lists) at) (e ∷ []) =
      All-cons (IsHeld d key (run_key (key_none d 16) lists) (InRuns d (length (members t q g)) lists) at) e []
      (subst (λ z. InRuns d (length (members t q g)) lists z × (key e.rank ≡ run_key (key_none d 16) lists z)) (sym place) ((some, first.0), least ∙ sym first.1))
      (All-nil (IsHeld d key (run_key (key_none d 16) lists) (InRuns d (length (members t q g)) lists) at)) in (
        held,
        record {
          inside = held_inside d key (run_key (key_none d 16) lists) (InRuns d (length (members t q g)) lists) at (e ∷ []) held;
          some = omega arith;
          within = (group_head d key t formed q g whole l some whole_ranks).0;
          remains = subst (λ z. Remains Pair (KeyOf d 16) (key_below d 16) (run_key (key_none d 16) lists) (total (reaches (length (members t q g)) (λ i. length (lists i))) (z ∷ [])) whole) (sym place)
              (members_begin (key_below d 16) (key_add d 16) (key_none d 16) (tuple_keys d 16) (length t) (parent t) (rank t d key) (group t) formed.shaped.parents_first (item t) (number t) (slot_of d 16)
              (tie_free_of d key t formed free) (length t) q (members t q g) lists whole l (λ i j a b e. members_apart d key t formed q g i j l a b e) (λ i j a b e. free q g i j l a b e) rows_rank whole_ranks);
        },
      )
