-- What the rows of a solution are read from: what an entry keeps, and the parts of a solution of a row.
use Rattle.std.proofs.Common.{◌≡◌, ◌≢◌, ℕ, zero, suc, ◌+◌, ◌<◌, None, List, [], length, get_or, sym, ap, ◌∙◌, subst, inl, inr, arith}
use Rattle.std.proofs.lemmas.Bool.{cases_lt}
use Rattle.std.proofs.lemmas.List.Elements.{All-get_or}
use Rattle.stream_store.specs.declared.linked.Linked.{Linked}
use Rattle.take2_heap.specs.declared.entry.Entry.{Entry}
use Rattle.tdp_core.specs.TreeView.{NodeView, rows, number, members, child_count, group_named}
use Rattle.tdp_core.specs.WellFormed.{IsTieFreeTree}
use Rattle.tdp_core.proofs.TreeFacts.{member_is_row}
use Rattle.tdp_model.specs.KeyTuple.{KeyOf, key_add, key_none}
use Rattle.tdp_model.specs.Product.{pair_key, run_key}
use Rattle.suffix_streams.specs.QueueEntries.{IsHeld, InProduct, InRuns}
use Rattle.suffix_streams.specs.declared.cell.Cell.{Cell}
use Rattle.suffix_streams.specs.declared.source.Source.{Source}
use Rattle.suffix_streams.specs.declared.stream.Found.{Found}
use Rattle.suffix_streams.specs.NodeStreamsView.{NodeStreamsView, product_at}
use Rattle.suffix_streams.specs.Rankings.{child, part_list, group_list}
use Rattle.suffix_streams.specs.TreeStreams.{IsKnownPart, IsSumOf, HasOwnParts, node_of, group_of, place_of, stream, lists_of, products_of, product_of, stream_of, part_known, row_known, pair_of, run_of, IsStreams}
use Rattle.suffix_streams.proofs.Stores.{node_value, group_value}
use Rattle.suffix_streams.proofs.Firsts.{first_by_at}
use Rattle.suffix_streams.proofs.FirstSums.{first_known, head_first, first_sum_of}
use Rattle.suffix_streams.proofs.ViewEntries.{entry_at}
use Rattle.suffix_streams.proofs.ViewPrefixes.{place_in_stream, entry_solution}

-- e is a known solution of a row of group g of node q
pub record IsTopKnown {R : Type 0} (d : ℕ) (key : R → KeyOf d 16) (t : List (NodeView R)) (es : List (Linked (Found R))) (nodes : List (NodeStreamsView R)) (q g : ℕ) (e : Entry R Source) : Type 0 where
  pub member : e.tag.member < length (members t q g)
  pub row : e.tag.row < rows t q
  pub parts : HasOwnParts d key t es nodes q g e.tag
  pub within : e.tag.place < length (part_list d key t q e.tag.row (child_count t q))
  pub rank : key e.rank ≡ get_or (part_list d key t q e.tag.row (child_count t q)) e.tag.place (key_none d 16)
  pub known : child_count t q ≢ 1 → e.tag.place < row_known nodes q e.tag.row

-- the solution of entry i, at node v, is one of the row that the entry keeps, and the sum of the parts that it keeps
pub record IsSolvedAt {R : Type 0} (d : ℕ) (key : R → KeyOf d 16) (t : List (NodeView R)) (es : List (Linked (Found R))) (nodes : List (NodeStreamsView R)) (i v : ℕ) (s : Source) : Type 0 where
  pub owner : node_of es i ≡ v
  pub node : v < length t
  pub row : s.row < rows t v
  pub number_is : s.number ≡ number t v s.row
  pub place : ℕ
  pub known : child_count t v ≢ 1 → IsKnownPart nodes v s.row (child_count t v) place
  pub parts : (c : ℕ) → child_count t v ≡ suc c → IsSumOf d key t es nodes v s.row c place s.cell
  pub same : get_or (part_list d key t v s.row (child_count t v)) place (key_none d 16) ≡ get_or (group_list d key t (node_of es i) (group_of es i)) (place_of es i) (key_none d 16)

module _ {R : Type 0} (d : ℕ) (key : R → KeyOf d 16) (t : List (NodeView R)) (es : List (Linked (Found R))) (nodes : List (NodeStreamsView R)) (h : IsStreams d key t es nodes) where
  -- a known solution of a row, by the row's products
  known_part : (v r place : ℕ) → v < length t → r < rows t v → place < row_known nodes v r → IsKnownPart nodes v r (child_count t v) place
  known_part v r place l row k = record {
    found = λ some. subst (λ z. place < part_known nodes v r z) (h.whole_rows v r l row some) k;
    first = λ none. let one : row_known nodes v r ≡ 1 = ap (λ z. part_known nodes v r z) none in omega (arith, one, k);
  }

  -- without children it is the first one
  pub known_own : (v r c place : ℕ) → c ≡ 0 → IsKnownPart nodes v r c place → place < part_known nodes v r c
  known_own v r zero place e k = elim (cases_lt 0 (length (products_of nodes v r))) [
    | inl some ↦ k.found some
    | inr none ↦ omega (arith, k.first (omega (arith, none)))
  ]
  known_own v r (suc c) place e k = absurd (omega arith)

  abbrev Known : ℕ → ℕ → Entry R Source → Type 0
  Known v g e = e.tag.place < row_known nodes v (get_or (members t v g) e.tag.member 0)

  abbrev Held : ℕ → ℕ → Entry R Source → Type 0
  Held v g = IsHeld d key (run_key (key_none d 16) (λ i. part_list d key t v (get_or (members t v g) i 0) (child_count t v)))
      (InRuns d (length (members t v g)) (λ i. part_list d key t v (get_or (members t v g) i 0) (child_count t v))) run_of

  pub entry_known : (i : ℕ) (f : Found R) → i < length es → ((x : Linked (Found R)) → (get_or es i x).value ≡ f) → IsTopKnown d key t es nodes f.node f.group f.solution
  entry_known i f l value =
      let own = h.owners i l in
      let x : Linked (Found R) = record { value = f; next = None } in
      let q : ℕ = node_of es i in
      let g : ℕ = group_of es i in
      let s = h.streams (node_of es i) (group_of es i) own.0 own.1 in
      let within : place_of es i < length (stream es (node_of es i) (group_of es i)) = place_in_stream d key t es nodes h i l in
      let e : Entry R Source = f.solution in
      let is : get_or (stream es (node_of es i) (group_of es i)) (place_of es i) f.solution ≡ f.solution = entry_at es i x f.solution l ∙ ap (λ z. z.solution) (value x) in
      let held : Held (node_of es i) (group_of es i) e = subst (Held (node_of es i) (group_of es i)) is (All-get_or (Held (node_of es i) (group_of es i)) (stream es (node_of es i) (group_of es i)) (place_of es i) f.solution within s.merge.kept) in
      let parts : HasOwnParts d key t es nodes (node_of es i) (group_of es i) e.tag =
      subst (λ (z : Entry R Source). HasOwnParts d key t es nodes (node_of es i) (group_of es i) z.tag) is (All-get_or (λ (z : Entry R Source). HasOwnParts d key t es nodes (node_of es i) (group_of es i) z.tag) (stream es (node_of es i) (group_of es i)) (place_of es i) f.solution within s.found_parts) in
      let same : get_or (members t (node_of es i) (group_of es i)) e.tag.member 0 ≡ e.tag.row = sym parts.0 in
      subst (λ v. IsTopKnown d key t es nodes v f.group e) (node_value es i x l ∙ ap (λ z. z.node) (value x)) (subst (λ k. IsTopKnown d key t es nodes (node_of es i) k e) (group_value es i x l ∙ ap (λ z. z.group) (value x))
      (record {
        member = held.0.0;
        row = subst (λ r. r < rows t (node_of es i)) same (member_is_row d key t h.tree (node_of es i) (group_of es i) e.tag.member own.0 held.0.0);
        parts = parts;
        within = subst (λ r. e.tag.place < length (part_list d key t (node_of es i) r (child_count t (node_of es i)))) same held.0.1;
        rank = held.1 ∙ ap (λ r. get_or (part_list d key t (node_of es i) r (child_count t (node_of es i))) e.tag.place (key_none d 16)) same;
        known = λ many. subst (λ r. e.tag.place < row_known nodes (node_of es i) r) same
            (subst (Known (node_of es i) (group_of es i)) is (All-get_or (Known (node_of es i) (group_of es i)) (stream es (node_of es i) (group_of es i)) (place_of es i) f.solution within (s.found_known many)));
      }))

  pub solved_at : (i : ℕ) (f : Found R) → i < length es → ((x : Linked (Found R)) → (get_or es i x).value ≡ f) → IsSolvedAt d key t es nodes i f.node f.solution.tag
  solved_at i f l value =
      let x : Linked (Found R) = record { value = f; next = None } in
      let k = entry_known i f l value in
      let owner : node_of es i ≡ f.node = node_value es i x l ∙ ap (λ z. z.node) (value x) in
      let node : f.node < length t = subst (λ v. v < length t) owner (h.owners i l).0 in
      record {
        owner = owner;
        node = node;
        row = k.row;
        number_is = k.parts.1 ∙ ap (number t f.node) (sym k.parts.0);
        place = f.solution.tag.place;
        known = λ many. known_part f.node f.solution.tag.row f.solution.tag.place node k.row (k.known many);
        parts = λ c kids. subst (λ r. IsSumOf d key t es nodes f.node r c f.solution.tag.place f.solution.tag.cell) (sym k.parts.0) (k.parts.2 c kids);
        same = sym k.rank ∙ (entry_solution d key t es nodes h i f l value).1;
      }

  -- of a row without products only this one is known
  pub first_cell : IsTieFreeTree t → (v r c place head : ℕ) → v < length t → r < rows t v → c < child_count t v → length (products_of nodes v r) ≡ 0 → IsKnownPart nodes v r (c + 1) place
      → head ≡ (stream_of nodes (child t v c) (group_named t v r c)).head → IsSumOf d key t es nodes v r c place (record { left = 0; right = head })
  first_cell apart v r c place head l row in_kids none known at =
      subst (λ p. IsSumOf d key t es nodes v r c p (record { left = 0; right = head })) (sym (known.first none))
      (subst (λ z. IsSumOf d key t es nodes v r c 0 (record { left = 0; right = z })) (sym at)
      (first_sum_of d key t h.tree apart es nodes v r c (record { left = 0; right = (stream_of nodes (child t v c) (group_named t v r c)).head }) l row in_kids (head_first d key t es nodes h v r c l row in_kids)
      (first_known d key t es nodes h v r c l row (omega (arith, in_kids)))))

  abbrev KnownCell : ℕ → ℕ → ℕ → Cell → Type 0
  KnownCell v r c x = (x.left < part_known nodes v r c) × (x.right < length es) × (node_of es x.right ≡ child t v c) × (group_of es x.right ≡ group_named t v r c)

  abbrev CellIn : ℕ → ℕ → ℕ → Cell → Type 0
  CellIn v r c x = InProduct d (part_list d key t v r c) (group_list d key t (child t v c) (group_named t v r c)) (pair_of es x)

  abbrev sum_of : ℕ → ℕ → ℕ → Cell → KeyOf d 16
  sum_of v r c x = pair_key (key_add d 16) (key_none d 16) (part_list d key t v r c) (group_list d key t (child t v c) (group_named t v r c)) (pair_of es x)

  -- the products of an opened row, in its node
  pub in_products : (v r c : ℕ) (n : NodeStreamsView R) → lists_of nodes v ≡ n → v < length t → r < rows t v → c < child_count t v → 0 < length (products_of nodes v r) → c < length (get_or n.products r [])
  in_products v r c n same l row in_kids some = subst (λ (m : NodeStreamsView R). c < length (get_or m.products r [])) same (omega (arith, in_kids, h.whole_rows v r l row some))

  pub in_found : (v r c place : ℕ) (n : NodeStreamsView R) → lists_of nodes v ≡ n → 0 < length (products_of nodes v r) → IsKnownPart nodes v r (c + 1) place → place < length (product_at n r c).found
  in_found v r c place n same some known =
      let more : c + 1 ≡ suc c = omega arith in
      subst (λ (m : NodeStreamsView R). place < length (product_at m r c).found) same (subst (λ z. place < part_known nodes v r z) more (known.found some))

  -- a solution of a product is the sum of its cell's parts
  pub product_cell : (v r c place : ℕ) (cell : Cell) → v < length t → r < rows t v → c < child_count t v → 0 < length (products_of nodes v r) → IsKnownPart nodes v r (c + 1) place
      → ((x : Cell) → cell ≡ get_or (product_of nodes v r c).found place x) → IsSumOf d key t es nodes v r c place cell
  product_cell v r c place cell l row in_kids some known is =
      let more : c + 1 ≡ suc c = omega arith in
      at (omega (arith, in_kids, h.whole_rows v r l row some)) (subst (λ z. place < part_known nodes v r z) more (known.found some))
    where
      at : c < length (products_of nodes v r) → place < length (product_of nodes v r c).found → IsSumOf d key t es nodes v r c place cell
      at in_row k =
          let x : Cell = get_or (product_of nodes v r c).found place cell in
          let p = h.products v r c l row in_row in
          let found : KnownCell v r c x = All-get_or (KnownCell v r c) (product_of nodes v r c).found place cell k p.found_known in
          let inside : CellIn v r c x = All-get_or (CellIn v r c) (product_of nodes v r c).found place cell k p.sums.kept in
          let whole : sum_of v r c x ≡ get_or (part_list d key t v r (suc c)) place (key_none d 16) = first_by_at d (sum_of v r c) (product_of nodes v r c).found (part_list d key t v r (suc c)) place cell p.sums.prefix k in
          let more : c + 1 ≡ suc c = omega arith in
          subst (λ (z : Cell). IsSumOf d key t es nodes v r c place z) (sym (is cell))
          (record {
            left = record { found = λ a. found.0; first = λ none. absurd (omega (arith, some, none)) };
            right = found.1;
            node = found.2;
            group = found.3;
            sum = ap (λ z. get_or (part_list d key t v r z) place (key_none d 16)) more ∙ sym whole;
          })
