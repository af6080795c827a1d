-- The next solution of a row with one child: the entry after the one of the child's group.
use Rattle.std.proofs.Common.{◌≡◌, ℕ, ◌+◌, ◌*◌, ◌<◌, ◌≤◌, Option, Some, None, IfSome, cond, nat_eq, List, length, get_or, refl, sym, ap, ◌∙◌, subst, inl, inr, arith}
use Rattle.std.proofs.lemmas.Bool.{cases_lt}
use Rattle.rank_key.specs.Keys.{KeyFits}
use Rattle.stream_store.specs.declared.linked.Linked.{Linked}
use Rattle.take2_heap.specs.declared.entry.Entry.{Entry}
use Rattle.tdp_core.specs.TreeView.{NodeView, parent, rank, child_count, group_named}
use Rattle.tdp_model.specs.Below.{is_below}
use Rattle.tdp_model.specs.KeyTuple.{KeyOf, key_add, key_none}
use Rattle.suffix_streams.specs.Links.{IsLinkedAt}
use Rattle.suffix_streams.specs.declared.cell.Cell.{Cell}
use Rattle.suffix_streams.specs.declared.source.Source.{Source}
use Rattle.suffix_streams.specs.declared.stream.Found.{Found}
use Rattle.suffix_streams.specs.NodeStreamsView.{NodeStreamsView}
use Rattle.suffix_streams.specs.Rankings.{child, part_list, group_list}
use Rattle.suffix_streams.specs.TreeStreams.{HasKey, IsKnownPart, IsSumOf, node_list, group_list_of, node_of, group_of, place_of, lists_of, products_of, IsStreams}
use Rattle.suffix_streams.specs.Growing.{IsGrown, IsExtended, IsAnswered, IsWithinSteps, below_kids, kids_size}
use Rattle.suffix_streams.specs.Exchanges.{CanExchange, IsChildOffer}
use Rattle.suffix_streams.specs.LastEntries.{IsRowTop, IsRowNext}
use Rattle.suffix_streams.proofs.Rankings.{kid, kid_below, own_some, own_first, part_fits, sum_fits}
use Rattle.suffix_streams.proofs.OneChild.{one_child_length, one_child_at}
use Rattle.suffix_streams.proofs.Stores.{node_length}
use Rattle.suffix_streams.proofs.Entries.{entry_key}
use Rattle.suffix_streams.proofs.Exchanges.{key_once}
use Rattle.suffix_streams.proofs.Searching.{extended_child}
use Rattle.suffix_streams.proofs.SearchCosts.{some_bits, child_within}

-- # Before the child is asked

pub record IsOnlyChild {R : Type 0} (d : ℕ) (key : R → KeyOf d 16) (t : List (NodeView R)) (es : List (Linked (Found R))) (n : List (NodeStreamsView R)) (v : ℕ) (s : Source) : Type 0 where
  pub one : child_count t v ≡ 1
  pub kid : 0 < child_count t v
  pub below : v < child t v 0
  pub within : child t v 0 < length t
  pub sum : IsSumOf d key t es n v s.row 0 s.place s.cell
  pub left : s.cell.left ≡ 0
  pub place : place_of es s.cell.right ≡ s.place

module _ {R : Type 0} {d : ℕ} {key : R → KeyOf d 16} {t : List (NodeView R)} {es : List (Linked (Found R))} {n : List (NodeStreamsView R)} {v g : ℕ} {top : Entry R Source} (h : IsStreams d key t es n) (is : IsRowTop d key t es n v g top) (one : child_count t v ≡ 1) where
  no_left : IsKnownPart n v top.tag.row 0 top.tag.cell.left → top.tag.cell.left ≡ 0
  no_left k = elim (cases_lt 0 (length (products_of n v top.tag.row))) [
    | inl some ↦ omega (arith, k.found some)
    | inr none ↦ k.first (omega (arith, none))
  ]

  pub only_child : IsOnlyChild d key t es n v top.tag
  only_child =
      let some : 0 < child_count t v = omega (arith, one) in
      let sum = subst (λ r. IsSumOf d key t es n v r 0 top.tag.place top.tag.cell) (sym is.member) (is.parts.2 0 one) in
      record { one = one; kid = some; below = kid_below d key t h.tree v 0 some; within = (kid d key t h.tree v 0 some).within; sum = sum; left = no_left sum.left; place = is.parts.3 one }

-- # After that

module _ {R : Type 0} {d : ℕ} {key : R → KeyOf d 16} {t : List (NodeView R)} {es b : List (Linked (Found R))} {n m : List (NodeStreamsView R)} {v g : ℕ} {top : Entry R Source} (is : IsRowTop d key t es n v g top) (only : IsOnlyChild d key t es n v top.tag)
    (h : IsStreams d key t b m) (grown : IsGrown (parent t) (node_of es top.tag.cell.right) es n b m) where
  abbrev row : ℕ
  row = top.tag.row

  abbrev at : ℕ
  at = top.tag.cell.right

  abbrev own : KeyOf d 16
  own = rank t d key v row

  abbrev ys : List (KeyOf d 16)
  ys = group_list d key t (child t v 0) (group_named t v row 0)

  by_child : IsGrown (parent t) (child t v 0) es n b m
  by_child = subst (λ q. IsGrown (parent t) q es n b m) only.sum.node grown

  own_lists : lists_of m v ≡ lists_of n v
  own_lists = by_child.above v only.below

  pub child_right : at < length b
  child_right = omega (arith, only.sum.right, by_child.store.longer)

  place_is : place_of b at ≡ top.tag.place
  place_is = by_child.store.places at only.sum.right ∙ only.place

  node_is : node_of b at ≡ child t v 0
  node_is = by_child.store.nodes at only.sum.right ∙ only.sum.node

  group_is : group_of b at ≡ group_named t v row 0
  group_is = by_child.store.groups at only.sum.right ∙ only.sum.group

  old_key : (top.tag.place < length ys) × HasKey d key b at (get_or ys top.tag.place (key_none d 16))
  old_key =
      let e = entry_key d key t b m h at (child t v 0) (group_named t v row 0) child_right node_is group_is in
      subst (λ p. (p < length ys) × HasKey d key b at (get_or ys p (key_none d 16))) place_is (e.1, e.2)

  record IsEntryAfter (i : ℕ) : Type 0 where
    pub within : i < length b
    pub node : node_of b i ≡ child t v 0
    pub group : group_of b i ≡ group_named t v row 0
    pub place : place_of b i ≡ top.tag.place + 1
    pub inside : top.tag.place + 1 < length ys
    pub key_is : HasKey d key b i (get_or ys (top.tag.place + 1) (key_none d 16))

  entry_after : (i : ℕ) → IsAnswered d key t b at (Some i) → IsEntryAfter i
  entry_after i e =
      let link : IsLinkedAt (node_list b) (group_list_of b) at (Some i) = subst (λ o. IsLinkedAt (node_list b) (group_list_of b) at o) e (h.linked at (omega (arith, child_right, node_length b))) in
      let in_store : i < length b = omega (arith, link.0, node_length b) in
      let place : place_of b i ≡ top.tag.place + 1 = link.3 ∙ ap (λ p. p + 1) place_is in
      let k = entry_key d key t b m h i (child t v 0) (group_named t v row 0) in_store (link.1 ∙ node_is) (link.2 ∙ group_is) in
      let k2 : (top.tag.place + 1 < length ys) × HasKey d key b i (get_or ys (top.tag.place + 1) (key_none d 16)) = subst (λ p. (p < length ys) × HasKey d key b i (get_or ys p (key_none d 16))) place (k.1, k.2) in
      record { within = in_store; node = link.1 ∙ node_is; group = link.2 ∙ group_is; place = place; inside = k2.0; key_is = k2.1 }

  pub child_below : (o : Option ℕ) → IsAnswered d key t b at o → IfSome o (λ i. i < length b)
  child_below None e = tt
  child_below (Some i) e = (entry_after i e).within

  whole : key top.rank ≡ key_add d 16 own (get_or ys top.tag.place (key_none d 16))
  whole = is.rank ∙ ap (λ c. get_or (part_list d key t v row c) top.tag.place (key_none d 16)) only.one ∙ one_child_at d key t h.tree v row is.node only.kid top.tag.place old_key.0

  pub child_exchange : (o : Option ℕ) → IsAnswered d key t b at o → IfSome o (CanExchange d key b (record { rank = top.rank; tag = top.tag.cell }))
  child_exchange None e = tt
  child_exchange (Some i) e = λ old new old_is new_is.
      let a = entry_after i e in
      let was : old ≡ get_or ys top.tag.place (key_none d 16) = key_once d key b at old _ child_right old_is old_key.1 in
      let will : new ≡ get_or ys (top.tag.place + 1) (key_none d 16) = key_once d key b i new _ a.within new_is a.key_is in
      record {
        rest = own;
        whole = whole ∙ ap (λ z. key_add d 16 own z) (sym was);
        rest_fits = subst (λ z. KeyFits d key z) (own_first d key t h.tree v row is.node) (part_fits d key t h.tree v row 0 0 is.node (omega arith) (own_some d key t h.tree v row is.node));
        swapped_fits = subst (λ z. KeyFits d key (key_add d 16 own z)) (sym will)
            (subst (λ z. KeyFits d key (key_add d 16 z (get_or ys (top.tag.place + 1) (key_none d 16)))) (own_first d key t h.tree v row is.node)
            (sum_fits d key t h.tree v row 0 0 (top.tag.place + 1) is.node only.kid (own_some d key t h.tree v row is.node) a.inside));
      }

  last_one : length (part_list d key t v row (child_count t v)) ≡ length ys
  last_one = ap (λ c. length (part_list d key t v row c)) only.one ∙ one_child_length d key t h.tree v row is.node only.kid

  key_at : (p : ℕ) → p < length ys → get_or (part_list d key t v row (child_count t v)) p (key_none d 16) ≡ key_add d 16 own (get_or ys p (key_none d 16))
  key_at p inside = ap (λ c. get_or (part_list d key t v row c) p (key_none d 16)) only.one ∙ one_child_at d key t h.tree v row is.node only.kid p inside

  still_left : IsKnownPart m v row 0 0
  still_left = record { found = λ some. omega arith; first = λ none. refl }

  pub child_next : (o : Option ℕ) (place : ℕ) (next : Option (Entry R Source)) → place ≡ top.tag.place + 1 → IsAnswered d key t b at o → IsChildOffer d key b top place o next → IsRowNext d key t b m v top.tag next
  child_next None place None p e x = record {
    none =
        let end : length ys ≡ top.tag.place + 1 = ap (λ q. length (group_list d key t q (group_named t v row 0))) (sym node_is) ∙ ap (λ k. length (group_list d key t (node_of b at) k)) (sym group_is) ∙ e ∙ ap (λ z. z + 1) place_is in
        omega (arith, end, last_one);
    source = tt;
    within = tt;
    known = tt;
    parts = tt;
    alone = tt;
    key_is = tt;
  }
  child_next None place (Some a) p e x = absurd x.1
  child_next (Some i) place None p e x = absurd x
  child_next (Some i) place (Some a) p e x =
      let k = entry_after i e in
      let tag_is : a.tag ≡ record top.tag { place = place; cell = a.tag.cell } = x.0 in
      let cell_is : a.tag.cell ≡ record { left = top.tag.cell.left; right = i } = x.1.0 in
      let at_left : a.tag.cell.left ≡ 0 = ap (λ (c : Cell). c.left) cell_is ∙ only.left in
      let at_right : a.tag.cell.right ≡ i = ap (λ (c : Cell). c.right) cell_is in
      let more : 1 ≡ 0 + 1 = omega arith in
      record {
        none = tt;
        source = (ap (λ (s : Source). s.member) tag_is, ap (λ (s : Source). s.place) tag_is ∙ p, ap (λ (s : Source). s.row) tag_is, ap (λ (s : Source). s.number) tag_is);
        within = omega (arith, k.inside, last_one);
        known = λ many. absurd (many only.one);
        parts = λ c kids.
            let none : 0 ≡ c = omega (arith, kids, only.one) in
            subst (λ c. IsSumOf d key t b m v row c (top.tag.place + 1) a.tag.cell) none
            (subst (λ (z : Cell). IsSumOf d key t b m v row 0 (top.tag.place + 1) z) (sym cell_is)
            (subst (λ z. IsSumOf d key t b m v row 0 (top.tag.place + 1) (record { left = z; right = i })) (sym only.left)
            (record {
              left = still_left;
              right = k.within;
              node = k.node;
              group = k.group;
              sum = ap (λ c. get_or (part_list d key t v row c) (top.tag.place + 1) (key_none d 16)) (sym more) ∙ one_child_at d key t h.tree v row is.node only.kid (top.tag.place + 1) k.inside
                  ∙ ap (λ z. key_add d 16 z (get_or ys (top.tag.place + 1) (key_none d 16))) (sym (own_first d key t h.tree v row is.node)) ∙ ap (λ z. key_add d 16 (get_or (part_list d key t v row 0) 0 (key_none d 16)) (get_or ys z (key_none d 16))) (sym k.place);
            })));
        alone = λ one. ap (λ z. place_of b z) at_right ∙ k.place;
        key_is = x.1.1 own _ _ old_key.1 k.key_is whole ∙ sym (key_at (top.tag.place + 1) k.inside);
      }

  pub child_extended : IsExtended t v row (child_count t v) es n b m
  child_extended = subst (λ c. IsExtended t v row c es n b m) (sym only.one) (extended_child d key t h.tree v row 0 is.node only.kid es b n m by_child)

  -- s2 are the steps at the end
  pub child_steps : (s0 s1 s2 : ℕ) → IsWithinSteps t n (is_below (parent t) (node_of es at)) (λ k. 14 + 4 * k + 20 * kids_size t (node_of es at) (child_count t (node_of es at)) * (1 + k)) s0 s1 → s2 ≤ s1 + 3
      → IsWithinSteps t n (λ w. below_kids t v (child_count t v) w + cond (nat_eq w v) 1 0) (λ k. 20 * kids_size t v (child_count t v) * (1 + k)) s0 (s2 + 3 * child_count t v)
  child_steps s0 s1 s2 steps last = subst (λ c. IsWithinSteps t n (λ w. below_kids t v c w + cond (nat_eq w v) 1 0) (λ k. 20 * kids_size t v c * (1 + k)) s0 (s2 + 3 * c)) (sym only.one) within
    where
      asked : IsWithinSteps t n (is_below (parent t) (child t v 0)) (λ k. 14 + 4 * k + 20 * kids_size t (child t v 0) (child_count t (child t v 0)) * (1 + k)) s0 s1
      asked = subst (λ q. IsWithinSteps t n (is_below (parent t) q) (λ k. 14 + 4 * k + 20 * kids_size t q (child_count t q) * (1 + k)) s0 s1) only.sum.node steps

      within : IsWithinSteps t n (λ w. below_kids t v 1 w + cond (nat_eq w v) 1 0) (λ k. 20 * kids_size t v 1 * (1 + k)) s0 (s2 + 3 * 1)
      within k b one bits few queues =
          let one_bit = some_bits k b one bits in
          let child : s1 ≤ s0 + (14 + 4 * b + 20 * kids_size t (child t v 0) (child_count t (child t v 0)) * (1 + b)) = asked k b one bits few (λ w r j some. queues w r j (omega (arith, some))) in
          let all = child_within d key t h.tree v 0 b s0 s1 s1 s2 is.node only.kid one_bit child (none_more s1 (20 * kids_size t v 0 * (1 + b))) (few_more s1 s2 b last) in
          omega (arith, all)
        where
          none_more : (s n : ℕ) → s + 6 * 0 ≤ s + 1 + n
          none_more s n = omega arith

          few_more : (s s' b : ℕ) → s' ≤ s + 3 → s' ≤ s + 9 + 3 * b
          few_more s s' b h = omega arith
