-- The rows of a node of a raw tree, in the columns that were taken out of it.
use Rattle.std.proofs.Common.{◌≡◌, ℕ, zero, suc, ◌+◌, ◌*◌, ◌≤◌, ◌<◌, true, false, cond, nat_eq, Some, List, [], ◌∷◌, ◌++◌, map, length, take, get_or, slice_get, refl, sym, ap, subst, ◌∙◌, arith}
use Rattle.std.proofs.Math.ListN.{set}
use Rattle.std.proofs.Math.Nat.{mul-le-mul_left}
use Rattle.std.proofs.lemmas.List.{take-set, take_more_set}
use Rattle.indexmap.specs.IndexSet.{insert_key}
use Rattle.tdp_core.specs.declared.parts.NodeRow.{NodeRow}
use Rattle.tdp_core.specs.RawView.{RawView, own_link, raw_len, raw_row_at}
use Rattle.tdp_core.proofs.RawReads.{length_within}
use Rattle.tdp_core.proofs.RawRowLists.{names_are, owns_are, rows_are, rows_length}
use Rattle.semi_join.specs.declared.group_links.GroupLinks.{GroupLinks}
use Rattle.semi_join.specs.Reduction.{ComeAfter, HasPlaceOf, IsSource, are_met, group_link, groups_met, groups_named, has_partners, links_named, links_of}
use Rattle.semi_join.proofs.Kids.{child_after, child_index}
use Rattle.semi_join.proofs.SoFar.{IsSoFar, drop_row, keep_row_lem, kids_below_lem}

-- there is a row at each place
pub some_at : {X : Type 0} (xs : List X) (i : ℕ) → i < length xs → (x : X) × (slice_get xs i ≡ Some x)
some_at [] i h = absurd (omega (arith, h))
some_at (x ∷ xs) zero h = (x, refl)
some_at (x ∷ xs) (suc i) h = some_at xs i (omega (arith, h))

-- a step for each child of each row, and one for its own link
pub node_steps : (old now n rows kids nodes : ℕ) → n ≡ rows → kids + 1 ≤ nodes → now ≤ old + n * (kids + 1) → now ≤ old + rows * nodes
node_steps old now n rows kids nodes same few h =
    let most = mul-le-mul_left n few in
    omega (arith, most, h, ap (λ (k : ℕ). k * nodes) same)

module _ {R : Type 0} (raw : RawView R) (v : ℕ) (later : List GroupLinks) (children : List ℕ) (rows : List (NodeRow R)) (owns : List ℕ) (named : List (List ℕ)) (s : IsSource raw v later children rows owns named) where
  pub count : length rows ≡ raw_len raw v
  count = sym (rows_length rows owns named s.whole) ∙ ap length s.taken

  pub few_rows : length rows ≤ 4194304
  few_rows =
      let few = s.done.few_rows in
      omega (arith, count, length_within raw.rows v, few)

  pub after : ComeAfter children v (length later)
  after = λ c h. ((child_after raw v children s.of_node c h).0, child_index raw v children s.of_node c h (length later) s.done.count)

  pub few_children : length children + 1 ≤ length raw.shapes
  few_children = subst (λ ks. length ks + 1 ≤ length raw.shapes) (sym s.of_node) (kids_below_lem raw v [] s.node)

  row_here : (i : ℕ) (row : NodeRow R) → slice_get rows i ≡ Some row → raw_row_at raw v i ≡ Some row
  row_here i row at = ap (λ l. slice_get (map (λ x. x.row) l) i) (sym s.taken) ∙ ap (λ l. slice_get l i) (rows_are rows owns named s.whole) ∙ at

  own_here : (i : ℕ) → own_link raw v i ≡ get_or owns i 0
  own_here i = ap (λ l. get_or (map (λ x. x.own) l) i 0) (sym s.taken) ∙ ap (λ l. get_or l i 0) (owns_are rows owns named s.whole)

  group_here : (i : ℕ) → cond (nat_eq v 0) 0 (get_or owns i 0) ≡ group_link raw v i
  group_here i = ap (cond (nat_eq v 0) 0) (sym (own_here i))

  names_here : (i : ℕ) → links_named raw v i ≡ get_or named i []
  names_here i = ap (λ l. get_or (map (λ x. x.children) l) i []) (sym s.taken) ∙ ap (λ l. get_or l i []) (names_are rows owns named s.whole)

  met_here : (i : ℕ) → are_met children v (map links_of later) (get_or named i []) (length children) ≡ has_partners raw v (map links_of later) i
  met_here i =
      ap (λ l. are_met children v (map links_of later) l (length children)) (sym (names_here i))
      ∙ ap (λ ks. are_met ks v (map links_of later) (links_named raw v i) (length ks)) s.of_node

  groups_here : (i : ℕ) → groups_met children v (map links_of later) (get_or named i []) (length children) ≡ groups_named raw v (map links_of later) i
  groups_here i =
      ap (λ l. groups_met children v (map links_of later) l (length children)) (sym (names_here i))
      ∙ ap (λ ks. groups_met ks v (map links_of later) (links_named raw v i) (length ks)) s.of_node

  -- row i stays, and stands at place `to` then
  module _ (i to : ℕ) (rows_now rows_new : List (NodeRow R)) (named_now named_new : List (List ℕ)) (links names numbers_now numbers_new : List ℕ) (row : NodeRow R)
      (so_far : IsSoFar raw v (map links_of later) i (take to rows_now) (take to named_now) links (take to numbers_now)) where
    pub row_stays : are_met children v (map links_of later) (get_or named i []) (length children) ≡ true → slice_get rows i ≡ Some row → rows_new ≡ set rows_now to row
        → named_new ≡ set named_now to (get_or named_new to []) → get_or named_new to [] ≡ groups_met children v (map links_of later) (get_or named i []) (length children)
        → names ≡ insert_key nat_eq links (cond (nat_eq v 0) 0 (get_or owns i 0)) → HasPlaceOf (cond (nat_eq v 0) 0 (get_or owns i 0)) names to numbers_now numbers_new
        → to < length rows_now → to < length named_now → to < length numbers_now
        → IsSoFar raw v (map links_of later) (i + 1) (take (to + 1) rows_new) (take (to + 1) named_new) names (take (to + 1) numbers_new)
    row_stays met at rows_is named_is groups names_is place in_rows in_named in_numbers =
        let own = group_here i in
        let put = subst (λ o. HasPlaceOf o names to numbers_now numbers_new) own place in
        keep_row_lem raw v (map links_of later) i (take to rows_now) (take (to + 1) rows_new) (take to named_now) (take (to + 1) named_new) links names (take to numbers_now) (take (to + 1) numbers_new) row
        so_far (sym (met_here i) ∙ met) (row_here i row at)
        (ap (take (to + 1)) rows_is ∙ take_more_set rows_now to row in_rows)
        (ap (take (to + 1)) named_is ∙ take_more_set named_now to (get_or named_new to []) in_named ∙ ap (λ ks. take to named_now ++ ks ∷ []) (groups ∙ groups_here i))
        (names_is ∙ ap (insert_key nat_eq links) own)
        (put.0, put.1, put.2, ap (take (to + 1)) put.3 ∙ take_more_set numbers_now to put.0 in_numbers)

  -- row i goes
  pub row_goes : (i to : ℕ) (rows_now : List (NodeRow R)) (named_now named_new : List (List ℕ)) (links numbers_now : List ℕ)
      → IsSoFar raw v (map links_of later) i (take to rows_now) (take to named_now) links (take to numbers_now)
      → are_met children v (map links_of later) (get_or named i []) (length children) ≡ false → named_new ≡ set named_now to (get_or named_new to [])
      → IsSoFar raw v (map links_of later) (i + 1) (take to rows_now) (take to named_new) links (take to numbers_now)
  row_goes i to rows_now named_now named_new links numbers_now so_far missed is =
      let same : take to named_new ≡ take to named_now = ap (take to) is ∙ take-set named_now to (get_or named_new to []) in
      drop_row raw v (map links_of later) i (take to rows_now) (take to named_new) links (take to numbers_now)
      (subst (λ ks. IsSoFar raw v (map links_of later) i (take to rows_now) ks links (take to numbers_now)) (sym same) so_far)
      (sym (met_here i) ∙ missed)
