-- The numbers of groups by links are those of bounds.
use Rattle.std.proofs.Common.{◌≡◌, ◌↔◌, ℕ, suc, ◌+◌, ◌-◌, ◌<◌, nat_eq, List, [], length, map, get_or, Some}
use Rattle.std.proofs.Common.{Ok, position, sym, ap, subst, ◌∙◌, inl, inr, arith}
use Rattle.std.specs.List.{range_with_len}
use Rattle.std.specs.List.Sorted.{IsStrictlyIncreasing}
use Rattle.std.proofs.lemmas.Bool.{cases_lt, cases_order}
use Rattle.std.proofs.lemmas.List.{get_or-map, length-map}
use Rattle.std.proofs.lemmas.List.FromFn.{get_or-range_with_len, length-range_with_len}
use Rattle.std.proofs.lemmas.List.Kept.{AllPairs-from_increasing, IsStrictlyIncreasing-filter}
use Rattle.anyk_model.specs.Table.{Table}
use Rattle.anyk_model.specs.Query.{Query}
use Rattle.join_tree.specs.declared.tree.JoinTree.{JoinTree}
use Rattle.bound_query.specs.Shape.{IsShape, Shape}
use Rattle.tdp_model.specs.KeyTuple.{KeyOf, key_none}
use Rattle.tdp_core.specs.RawView.{AreShapes, RawView, child_link, own_link, raw_len, raw_number, shape_child_place, shape_parent}
use Rattle.proof_model.specs.Certificate.{Certificate}
use Rattle.proof_model.specs.Problem.{Problem}
use Rattle.proof_model.specs.QueryProblem.{problem_in}
use Rattle.proof_model.specs.Valid.{Serves, StandsFor, bound_key}
use Rattle.proof_check.specs.BoundedRows.{BoundedView, HasProblemRows, IsBounded, bound_ranks, named_bound, own_bound, query_key}
use Rattle.proof_check.specs.Lines.{AreLineGroups, AreNamed, ArePlacedLines, group_link, line_node, lines_of, named_link}
use Rattle.proof_check.proofs.BoundLines.{lines_are}
use Rattle.proof_check.proofs.LineFaults.{group_iff, groups_apart, line_place, lines_long, link_own, place_line}
use Rattle.proof_check.proofs.Pushed.{found_there, there_found}
use Rattle.proof_check.proofs.PlacedSolutions.{from_nodes}

range_rises : (n : ℕ) → IsStrictlyIncreasing (range_with_len 0 n)
range_rises n k l =
    let size = length-range_with_len 0 n in
    omega (arith, get_or-range_with_len 0 n k 0 (omega (arith, l, size)), get_or-range_with_len 0 n (k + 1) 0 (omega (arith, l, size)))

module _ (query : Query) (tables : List Table) (join : JoinTree) {R : Type 0} (d : ℕ) (key : R → KeyOf d 16) (tree : BoundedView R)
    (shaped : AreShapes tree.raw.shapes) (c : Certificate) (has : HasProblemRows query tables join d key tree.raw)
    (shape : Shape) (is_shape : IsShape query tables (Ok shape)) (tops : List ℕ) (groups : List (List ℕ))
    (p : ArePlacedLines query tables join d key tree.raw c (length c.bounds) tops (map (λ b. b.ranks.items) tree.bounds))
    (g : AreLineGroups tree.raw c tops (length c.bounds) groups) (each : length tree.bounds ≡ length tree.raw.shapes)
    (named : (v : ℕ) → v < length tree.raw.shapes → AreNamed tree.raw (get_or groups v []) v
    (get_or (map (λ b. b.own.items) tree.bounds) v []) (get_or (map (λ b. b.named.items) tree.bounds) v [])) where
  abbrev t : Problem (KeyOf (length query.order) 16)
  t = problem_in query tables join

  abbrev raw : RawView R
  raw = tree.raw

  abbrev n : ℕ
  n = length c.bounds

  abbrev line : ℕ → ℕ → ℕ
  line v b = get_or (lines_of c v n) b 0

  abbrev links : ℕ → List ℕ
  links v = get_or groups v []

  inside : (v : ℕ) → v < t.nodes → v < length raw.shapes
  inside v l = from_nodes query tables join d key raw shaped has v l

  ranks_long : (v : ℕ) → v < length raw.shapes → length (bound_ranks tree v) ≡ length (lines_of c v n)
  ranks_long v l =
      sym (length-map (bound_ranks tree v) key) ∙ ap length (p.keys v l)
      ∙ length-map (lines_of c v n) (λ i. query_key query d (bound_key t c v i))

  links_long : (v : ℕ) → v < length raw.shapes → length (links v) ≡ length (bound_ranks tree v)
  links_long v l = lines_long query tables join d key raw shaped has c n tops (map (λ b. b.ranks.items) tree.bounds) p n (omega arith) groups g v l
      ∙ sym (ranks_long v l)

  -- no line of a node has two numbers
  one_number_lem : (v a b : ℕ) → v < length raw.shapes → a < length (bound_ranks tree v) → b < length (bound_ranks tree v)
      → line v a ≡ line v b → a ≡ b
  one_number_lem v a b l ha hb e =
      let long = ranks_long v l in
      let up = AllPairs-from_increasing (lines_of c v n) (IsStrictlyIncreasing-filter _ (range_with_len 0 n) (range_rises n)) in
      elim (cases_order a b) [
        | inl same ↦ same
        | inr (inl less) ↦
            absurd (omega (arith, up a b 0 less (omega (arith, hb, long)), e))
        | inr (inr more) ↦
            absurd (omega (arith, up b a 0 more (omega (arith, ha, long)), e))
      ]

  placed_line : (v b : ℕ) → v < length raw.shapes → b < length (links v)
      → (line v b < n) × (line_node c (line v b) ≡ suc v) × (get_or (links v) b 0 ≡ group_link raw v (get_or tops (line v b) 0))
  placed_line v b l h =
      place_line query tables join d key raw shaped has c n tops (map (λ b. b.ranks.items) tree.bounds) p n (omega arith) groups g v b l h

  place_of : (v i : ℕ) → v < length raw.shapes → i < n → line_node c i ≡ suc v
      → (b : ℕ) × (b < length (links v)) × (line v b ≡ i) × (get_or (links v) b 0 ≡ group_link raw v (get_or tops i 0))
  place_of v i l h e =
      line_place query tables join d key raw shaped has c n tops (map (λ b. b.ranks.items) tree.bounds) p n (omega arith) groups g v i l h e

  in_group : (v i j : ℕ) → v < length raw.shapes → i < raw_len raw v → j < raw_len raw v
      → (group_link raw v i ≡ group_link raw v j) ↔ t.IsGrouped v (raw_number raw v i) (raw_number raw v j)
  in_group v i j l h k = group_iff query tables join d key raw shaped has c n tops (map (λ b. b.ranks.items) tree.bounds) p v i j l h k

  -- lines of one node with one link are one line
  one_line : (v i j : ℕ) → i < n → j < n → line_node c i ≡ suc v → line_node c j ≡ suc v
      → group_link raw v (get_or tops i 0) ≡ group_link raw v (get_or tops j 0) → i ≡ j
  one_line v i j l h e f x = elim (cases_lt i j) [
    | inl y ↦ absurd (g.apart v i j y h e f x)
    | inr y ↦ elim (cases_lt j i) [
      | inl z ↦ absurd (g.apart v j i z l f e (sym x))
      | inr z ↦ omega (arith, y, z)
    ]
  ]

  -- a line that is found by a link
  found_line : (v link b : ℕ) → v < length raw.shapes → position (nat_eq link) (links v) ≡ Some b
      → (b < length (bound_ranks tree v)) × (line v b < n) × (line_node c (line v b) ≡ suc v)
      × (group_link raw v (get_or tops (line v b) 0) ≡ link)
  found_line v link b l e =
      let at = found_there link (links v) b e in
      let of_line = placed_line v b l at.0 in
      (omega (arith, at.0, links_long v l), of_line.0, of_line.1, sym of_line.2 ∙ at.1)

  line_found : (v link j : ℕ) → v < length raw.shapes → j < n → line_node c j ≡ suc v
      → group_link raw v (get_or tops j 0) ≡ link → (b : ℕ) × (position (nat_eq link) (links v) ≡ Some b) × (line v b ≡ j)
  line_found v link j l h e x =
      let at = place_of v j l h e in
      let found = there_found link (links v) at.0 at.1 (at.3 ∙ x) in
      let other = placed_line v found.0 l found.2 in
      (found.0, found.1, one_line v (line v found.0) j other.0 h other.1 e (sym other.2 ∙ found.3 ∙ sym x))

  stands : (v i b : ℕ) → v < length raw.shapes → i < raw_len raw v → own_bound tree v i ≡ Some b
      → (b < length (bound_ranks tree v)) × StandsFor t c v (raw_number raw v i) (line v b)
  stands v i b l h e =
      let f = found_line v (group_link raw v i) b l (sym ((named v l).own_numbers i h) ∙ e) in
      let grouped = (in_group v i (get_or tops (line v b) 0) l h (p.within v (line v b) f.1 f.2)).0 (sym f.3) in
      (f.0, ((f.1, f.2), subst (λ r. t.IsGrouped v (raw_number raw v i) r) (p.numbers v (line v b) f.1 f.2) grouped))

  stands_every : (v i j : ℕ) → v < length raw.shapes → i < raw_len raw v → StandsFor t c v (raw_number raw v i) j
      → (b : ℕ) × (own_bound tree v i ≡ Some b) × (line v b ≡ j)
  stands_every v i j l h s =
      let of_node = s.0 in
      let link = (in_group v i (get_or tops j 0) l h (p.within v j of_node.0 of_node.1)).1
      (subst (λ r. t.IsGrouped v (raw_number raw v i) r) (sym (p.numbers v j of_node.0 of_node.1)) s.1) in
      let f = line_found v (group_link raw v i) j l of_node.0 of_node.1 (sym link) in
      (f.0, (named v l).own_numbers i h ∙ f.1, f.2)

  -- ---- named groups

  module _ (q : ℕ) (some : 0 < q) (node : q < t.nodes) where
    up : shape_parent raw.shapes q ≡ t.parent q
    up = has.parents q node

    long_above : (r : ℕ) → r < raw_len raw (t.parent q) → r < raw_len raw (shape_parent raw.shapes q)
    long_above r h = subst (λ a. r < raw_len raw a) (sym up) h

    fits_iff : (r i : ℕ) → r < raw_len raw (t.parent q) → i < raw_len raw q
        → (own_link raw q i ≡ named_link raw q r) ↔ t.Fits q (raw_number raw (t.parent q) r) (raw_number raw q i)
    fits_iff r i h k =
        subst (λ a. (own_link raw q i ≡ child_link raw a r (shape_child_place raw.shapes q))
        ↔ t.Fits q (raw_number raw (t.parent q) r) (raw_number raw q i)) (sym up) (has.fits q r i some node h k)

    serves : (r b : ℕ) → r < raw_len raw (t.parent q) → named_bound tree q r ≡ Some b
        → (b < length (bound_ranks tree q)) × Serves t c q (raw_number raw (t.parent q) r) (line q b)
    serves r b h e =
        let l = inside q node in
        let f = found_line q (named_link raw q r) b l (sym ((named q l).named_numbers some r (long_above r h)) ∙ e) in
        let row = p.within q (line q b) f.1 f.2 in
        let fit = (fits_iff r (get_or tops (line q b) 0) h row).0 (sym (link_own raw q (get_or tops (line q b) 0) some) ∙ f.3) in
        (f.0, ((f.1, f.2), subst (λ x. t.Fits q (raw_number raw (t.parent q) r) x) (p.numbers q (line q b) f.1 f.2) fit))

    serves_every : (r j : ℕ) → r < raw_len raw (t.parent q) → Serves t c q (raw_number raw (t.parent q) r) j
        → (b : ℕ) × (named_bound tree q r ≡ Some b) × (line q b ≡ j)
    serves_every r j h s =
        let l = inside q node in
        let of_node = s.0 in
        let link = (fits_iff r (get_or tops j 0) h (p.within q j of_node.0 of_node.1)).1
        (subst (λ x. t.Fits q (raw_number raw (t.parent q) r) x) (sym (p.numbers q j of_node.0 of_node.1)) s.1) in
        let f = line_found q (named_link raw q r) j l of_node.0 of_node.1 (link_own raw q (get_or tops j 0) some ∙ link) in
        (f.0, (named q l).named_numbers some r (long_above r h) ∙ f.1, f.2)

  pub bounded : IsBounded query tables join d key c tree
  bounded = record {
    rows = has;
    shape = shape;
    is_shape = is_shape;
    each_node = each ∙ has.nodes;
    line = line;
    is_bound = λ v b l h.
        lines_are c v n b (omega (arith, h, ranks_long v (inside v l)));
    ranks = λ v b l h.
        let long = ranks_long v (inside v l) in
        ap (λ xs. get_or xs b (key_none d 16)) (p.keys v (inside v l))
        ∙ get_or-map (λ i. query_key query d (bound_key t c v i)) (lines_of c v n) b 0 (key_none d 16) (omega (arith, h, long));
    one_number = λ v a b l ha hb e. one_number_lem v a b (inside v l) ha hb e;
    own_length = λ v l. (named v (inside v l)).own_length;
    own_is = λ v i b l h e. stands v i b (inside v l) h e;
    own_every = λ v i j l h s. stands_every v i j (inside v l) h s;
    named_length = λ q some l. (named q (inside q l)).named_length some ∙ ap (raw_len raw) (has.parents q l);
    named_is = λ q r b some l h e. serves q some l r b h e;
    named_every = λ q r j some l h s. serves_every q some l r j h s;
    solutions = p.solutions;
    apart = λ v i j l e f x.
        groups_apart query tables join d key raw shaped has c n tops (map (λ b. b.ranks.items) tree.bounds) p n (omega arith) groups g
        v i j l f.0 e.1 f.1 x;
  }
