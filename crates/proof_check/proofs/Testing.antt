-- From the beginnings that may be left to the ways to leave them.
use Rattle.std.proofs.Common.{◌≡◌, ℕ, ◌<◌, Option, None, Some, List, length, slice_index, slice_index_or}
use Rattle.std.proofs.Common.{refl, sym, ap, subst, ◌∙◌, arith}
use Rattle.std.specs.Option.{MatchOption}
use Rattle.join_tree.specs.declared.tree.JoinTree.{JoinTree}
use Rattle.tdp_model.specs.KeyTuple.{KeyOf, key_add}
use Rattle.tdp_core.specs.RawView.{raw_len}
use Rattle.proof_check.specs.BoundedRows.{BoundedView, bound_ranks}
use Rattle.proof_check.specs.declared.open_places.OpenPlace.{OpenPlace}
use Rattle.proof_check.specs.Levels.{AreOpenPlaces, AreLeast, CanLeave, FitsGroup, IsOpenPlace, IsInGroup, IsLeftAfter, IsLeftBefore, IsReady}
use Rattle.proof_check.specs.Levels.{HasLow, IsBase, IsGroupOf, IsNoOpenPlace, IsPairAt, IsPast, IsWay, list_at}
use Rattle.proof_check.proofs.Branching.{branch_fits, not_left, one_base, one_group}

module _ {R : Type 0} (join : JoinTree) (tree : BoundedView R) (d : ℕ) (key : R → KeyOf d 16) (p : ℕ)
    (starts : List (List ℕ)) (branches : List (Option (OpenPlace R)))
    (are : AreOpenPlaces join tree d key p starts branches) where
  branch_at_lem : (n : ℕ) (b : OpenPlace R) → n < length branches → slice_index_or branches n None ≡ Some b
      → IsOpenPlace join tree d key p (list_at starts n) b
  branch_at_lem n b l e =
      subst (λ o. MatchOption o (IsNoOpenPlace join tree d key p (list_at starts n)) (IsOpenPlace join tree d key p (list_at starts n)))
      e (are n l)

  -- what is known can be added to the ranks of the group's rows
  pub can_leave : IsReady join tree d key p → length branches ≡ length starts
      → ((n q : ℕ) → n < length starts → q < p → slice_index (list_at starts n) q < raw_len tree.raw q)
      → (n : ℕ) (b : OpenPlace R) → n < length branches → slice_index_or branches n None ≡ Some b
      → CanLeave join tree d key p b
  can_leave ready count rows n b l e =
      let at = branch_at_lem n b l e in (
        at.within,
        branch_fits join tree d key p (list_at starts n) ready.bounded ready.ordered ready.long ready.formed ready.node
            (λ q. rows n q (omega (arith, l, count))) b at,
      )

  module _ (pairs : List (ℕ × ℕ)) (last : Option (KeyOf d 16)) (count : length branches ≡ length starts) where
    pub way_from : (n : ℕ) (b : OpenPlace R) → n < length branches → slice_index_or branches n None ≡ Some b
        → IsLeftBefore join tree d key p pairs n last b
        → (m : ℕ) × ((i : ℕ) × ((k : KeyOf d 16) × IsWay join tree d key p starts pairs m i k × (IsPast d last k → ⊥)))
    way_from n b l e left =
        let at = branch_at_lem n b l e in (
          n,
          (
            left.row,
            (
              key_add d 16 (key b.base) left.low,
              record {
                number = omega (arith, l, count);
                group = b.group;
                within = at.within;
                is_group = at.group;
                base = key b.base;
                is_base = at.base;
                row = left.inside;
                untaken = left.untaken;
                low = left.low;
                has_low = left.has_low;
                whole = refl;
              },
              left.early,
            ),
          ),
        )

    pub way_past : ((n : ℕ) (b : OpenPlace R) → n < length branches → slice_index_or branches n None ≡ Some b
        → IsLeftAfter join tree d key p pairs n last b)
        → (n i : ℕ) (k : KeyOf d 16) → IsWay join tree d key p starts pairs n i k → IsPast d last k
    way_past after n i k way =
        by (slice_index_or branches n None) refl (are n l) (λ b e. after n b l e) k way.group way.base way.low way.within
        way.is_group way.is_base way.row way.untaken way.has_low way.whole
      where
        l : n < length branches
        l = let h = way.number in omega (arith, h, count)

        by : (o : Option (OpenPlace R)) → slice_index_or branches n None ≡ o
            → MatchOption (slice_index_or branches n None) (IsNoOpenPlace join tree d key p (list_at starts n))
            (IsOpenPlace join tree d key p (list_at starts n))
            → ((b : OpenPlace R) → slice_index_or branches n None ≡ Some b → IsLeftAfter join tree d key p pairs n last b)
            → (k : KeyOf d 16) (g : ℕ) (base low : KeyOf d 16) → g < length (bound_ranks tree p)
            → IsGroupOf join tree d key p (list_at starts n) g → IsBase join tree d key p (list_at starts n) (Some base)
            → IsInGroup join tree d key p g i → (((j : ℕ) × IsPairAt pairs j (n, i)) → ⊥)
            → HasLow join tree d key p i (Some low) → k ≡ key_add d 16 base low → IsPast d last k
        by None e match after k g base low within group is row new has whole =
            let none = subst (λ o. MatchOption o (IsNoOpenPlace join tree d key p (list_at starts n))
            (IsOpenPlace join tree d key p (list_at starts n))) e match in
            absurd (not_left join tree d key p (list_at starts n) g base none within group is)
        by (Some b) e match after k g base low within group is row new has whole =
            let at = subst (λ o. MatchOption o (IsNoOpenPlace join tree d key p (list_at starts n))
            (IsOpenPlace join tree d key p (list_at starts n))) e match in
            let same = one_group join tree d key p (list_at starts n) g b.group group at.group in
            let equal = one_base join tree d key p (list_at starts n) base (key b.base) is at.base in
            subst (IsPast d last) (sym (whole ∙ ap (λ z. key_add d 16 z low) equal))
            (after b e i low (subst (λ z. IsInGroup join tree d key p z i) same row) new has)

-- the least of what is known can be added too
pub least_fits : {R : Type 0} (join : JoinTree) (tree : BoundedView R) (d : ℕ) (key : R → KeyOf d 16) (p : ℕ)
    (branches : List (Option (OpenPlace R))) (least : List (Option R))
    → ((n : ℕ) (b : OpenPlace R) → n < length branches → slice_index_or branches n None ≡ Some b → CanLeave join tree d key p b)
    → AreLeast d key (length branches) branches least → (g : ℕ) (k : R) → slice_index_or least g None ≡ Some k
    → FitsGroup join tree d key p g (key k)
least_fits join tree d key p branches least can its g k e =
    let from = its.one g k e in
    let b : OpenPlace _ = from.1.0 in
    subst (λ h. FitsGroup join tree d key p h (key k)) from.1.3
    (subst (λ z. FitsGroup join tree d key p b.group (key z)) from.1.4 (can from.0 b from.1.1 from.1.2).1)
