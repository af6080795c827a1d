-- The first solution of a row, as the sum of first solutions.
use Rattle.std.proofs.Common.{◌≡◌, ℕ, zero, suc, ◌+◌, ◌<◌, ◌≤◌, List, length, get_or, refl, sym, ap, ◌∙◌, subst, arith}
use Rattle.stream_store.specs.declared.linked.Linked.{Linked}
use Rattle.tdp_core.specs.TreeView.{NodeView, rows, number, members, child_count, group_named}
use Rattle.tdp_core.specs.WellFormed.{IsFormed, IsTieFreeTree}
use Rattle.tdp_core.proofs.TreeFacts.{member_is_row}
use Rattle.tdp_model.specs.KeyTuple.{KeyOf, key_add, key_none}
use Rattle.tdp_model.specs.Product.{Pair}
use Rattle.suffix_streams.specs.declared.cell.Cell.{Cell}
use Rattle.suffix_streams.specs.declared.source.Source.{Source}
use Rattle.suffix_streams.specs.declared.stream.Found.{Found}
use Rattle.suffix_streams.specs.NodeStreamsView.{NodeStreamsView}
use Rattle.suffix_streams.specs.Rankings.{child, part_list, group_list}
use Rattle.suffix_streams.specs.TreeStreams.{stream_of, run_of, IsKnownPart, IsSumOf, HasOwnParts, IsStreams}
use Rattle.suffix_streams.specs.Firsts.{IsFirstCell, HasFirstParts}
use Rattle.suffix_streams.proofs.Rankings.{kid, named_in}
use Rattle.suffix_streams.proofs.Firsts.{first_sum, part_some}
use Rattle.suffix_streams.proofs.Entries.{named_stream}

module _ {R : Type 0} (d : ℕ) (key : R → KeyOf d 16) (t : List (NodeView R)) (formed : IsFormed d key t) (apart : IsTieFreeTree t) (es : List (Linked (Found R))) (nodes : List (NodeStreamsView R)) where
  pub first_sum_of : (v r c : ℕ) (cell : Cell) → v < length t → r < rows t v → c < child_count t v → IsFirstCell t es v r c cell → IsKnownPart nodes v r c 0 → IsSumOf d key t es nodes v r c 0 cell
  first_sum_of v r c cell l row in_kids x known =
      let inside = (kid d key t formed v c in_kids).within in
      let named = named_in d key t formed v r c row in_kids in
      let some = part_some d key t formed apart v r c l row (omega arith) in
      let more : suc c ≡ c + 1 = omega arith in
      record {
        left = subst (λ p. IsKnownPart nodes v r c p) (sym x.left) known;
        right = x.right;
        node = x.node;
        group = x.group;
        sum = ap (λ z. get_or (part_list d key t v r z) 0 (key_none d 16)) (sym more) ∙ (first_sum d key t formed apart v r c l row in_kids some).1
            ∙ ap (λ p. key_add d 16 (get_or (part_list d key t v r c) p (key_none d 16)) (get_or (group_list d key t (child t v c) (group_named t v r c)) 0 (key_none d 16))) (sym x.left)
            ∙ ap (λ p. key_add d 16 (get_or (part_list d key t v r c) cell.left (key_none d 16)) (get_or (group_list d key t (child t v c) (group_named t v r c)) p (key_none d 16))) (sym x.place);
      }

  -- the source of the first solution of member j has its parts
  pub first_own : (q g j : ℕ) (s : Source) → q < length t → j < length (members t q g) → run_of s ≡ record { left = j; right = 0 } → HasFirstParts t es q (get_or (members t q g) j 0) s.cell → s.row ≡ get_or (members t q g) j 0
      → s.number ≡ number t q (get_or (members t q g) j 0)
      → ((c : ℕ) → c ≤ child_count t q → IsKnownPart nodes q (get_or (members t q g) j 0) c 0) → HasOwnParts d key t es nodes q g s
  first_own q g j s l member run parts row numbered known = (
    row ∙ ap (λ (p : Pair). get_or (members t q g) p.left 0) (sym run),
    numbered ∙ ap (λ (p : Pair). number t q (get_or (members t q g) p.left 0)) (sym run),
    λ c kids.
        subst (λ (p : Pair). IsSumOf d key t es nodes q (get_or (members t q g) p.left 0) c p.right s.cell) (sym run)
        (first_sum_of q (get_or (members t q g) j 0) c s.cell l (member_is_row d key t formed q g j l member) (omega (arith, kids)) (parts c kids) (known c (omega (arith, kids)))),
    λ one. (parts 0 one).place ∙ ap (λ (p : Pair). p.right) (sym run),
  )

module _ {R : Type 0} (d : ℕ) (key : R → KeyOf d 16) (t : List (NodeView R)) (es : List (Linked (Found R))) (nodes : List (NodeStreamsView R)) (h : IsStreams d key t es nodes) where
  -- of each row the first solution is known
  pub first_known : (v r c : ℕ) → v < length t → r < rows t v → c ≤ child_count t v → IsKnownPart nodes v r c 0
  first_known v r zero l row few = record { found = λ some. omega arith; first = λ none. refl }
  first_known v r (suc c) l row few = record { found = λ some. (h.products v r c l row (omega (arith, few, h.whole_rows v r l row some))).sums.prefix.0; first = λ none. refl }

  -- the head of the last child's group is its last part
  pub head_first : (v r c : ℕ) → v < length t → r < rows t v → c < child_count t v → IsFirstCell t es v r c (record { left = 0; right = (stream_of nodes (child t v c) (group_named t v r c)).head })
  head_first v r c l row in_kids =
      let s = h.streams (child t v c) (group_named t v r c) (kid d key t h.tree v c in_kids).within (named_stream d key t es nodes h v r c l row in_kids) in
      record { left = refl; right = s.head_in; node = s.head_node; group = s.head_group; place = s.head_place }
