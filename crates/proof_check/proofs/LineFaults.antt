-- The first flaws of bound lines, and lines that are placed one after another.
use Rattle.std.proofs.Common.{◌≡◌, ◌≢◌, ◌↔◌, ℕ, suc, ◌+◌, ◌-◌, ◌<◌, ◌≤◌, cond, nat_eq, List, [], ◌∷◌, ◌++◌, length, map, get_or}
use Rattle.std.proofs.Common.{Option, None, Some, Ok, refl, sym, ap, subst, ◌∙◌, inl, inr, arith}
use Rattle.std.specs.Option.{MatchOption}
use Rattle.std.proofs.Math.ListN.{set, length-set}
use Rattle.std.proofs.lemmas.Bool.{cases_eq, cases_lt}
use Rattle.std.proofs.lemmas.Bool.Decides.{nat_tests}
use Rattle.std.proofs.lemmas.List.{get_or-map, get_or-set_same, get_or-set_other, length-map, map-append}
use Rattle.anyk_model.specs.Table.{Table}
use Rattle.anyk_model.specs.Query.{Query}
use Rattle.join_tree.specs.declared.tree.JoinTree.{JoinTree}
use Rattle.tdp_model.specs.Below.{is_below}
use Rattle.tdp_model.specs.KeyTuple.{KeyOf}
use Rattle.tdp_model.proofs.Sums.{get_end, get_front, length_end}
use Rattle.tdp_core.specs.RawView.{AreShapes, IsRawFormed, RawView, own_link, raw_len, raw_number}
use Rattle.tdp_core.proofs.RawReads.{length_within}
use Rattle.proof_model.specs.Certificate.{BoundLine, Certificate}
use Rattle.proof_model.specs.ProofView.{bound_view, proof_view}
use Rattle.proof_model.specs.declared.proof.Bound.{Bound}
use Rattle.proof_model.specs.declared.proof.Proof.{Proof}
use Rattle.proof_model.specs.declared.fault.ProofFault.{ProofFault}
use Rattle.bound_query.specs.Shape.{IsShape, Shape}
use Rattle.proof_model.specs.Faults.{TellsFlaw}
use Rattle.proof_model.specs.Problem.{IsSolutionAt, Problem}
use Rattle.proof_model.specs.QueryProblem.{problem_in}
use Rattle.proof_model.specs.Valid.{Flaw, Holds, IsBoundOf, IsEarlier, IsFirstFlaw, bound_at, bound_key, bound_row}
use Rattle.proof_model.specs.Valid.{no_solution, bound_twice, weak, no_answer, not_in_order, wrong_count, missed}
use Rattle.proof_check.specs.BoundedRows.{HasProblemRows, query_key}
use Rattle.proof_check.specs.Faults.{TellsBadBound, TellsBoundTwice}
use Rattle.proof_check.specs.Lines.{AreLineGroups, ArePlacedLines, group_link, line_node, lines_of}
use Rattle.proof_check.specs.Places.{ArePlacesOf}
use Rattle.proof_check.proofs.BoundLines.{lines_all, lines_are, lines_ascend, lines_more, lines_same}
use Rattle.proof_check.proofs.Pigeons.{pigeons}
use Rattle.proof_check.proofs.PlacedSolutions.{below_same, from_nodes, in_nodes}
use Rattle.proof_check.proofs.Subtrees.{below_self}
use Rattle.proof_check.proofs.Firsts.{later}

-- ---- a line

-- a line as it is read
pub line_is : (xs : List Bound) (n : ℕ) (b : Bound) (d : BoundLine) → n < length xs → b ≡ get_or xs n b
    → get_or (map bound_view xs) n d ≡ bound_view b
line_is xs n b d l e = get_or-map bound_view xs n b d l ∙ ap bound_view (sym e)

module _ (query : Query) (tables : List Table) (join : JoinTree) {R : Type 0} (raw : RawView R) (k : ℕ) (rows : List ℕ) where
  -- a node from 1 is a node from 0
  pub line_placed : (o : Option (List ℕ)) → k ≢ 0 → k ≤ length raw.shapes
      → MatchOption o (IsSolutionAt (problem_in query tables join) (k - 1) rows → ⊥) (ArePlacesOf query tables join raw (k - 1) rows)
      → MatchOption o ((v : ℕ) → k ≡ suc v → IsSolutionAt (problem_in query tables join) v rows → ⊥)
      (λ places. (v : ℕ) × (v < length raw.shapes) × (k ≡ suc v) × ArePlacesOf query tables join raw v rows places)
  line_placed None some few h = λ v e s.
      let same : v ≡ k - 1 = omega (arith, e) in
      h (subst (λ w. IsSolutionAt (problem_in query tables join) w rows) same s)
  line_placed (Some places) some few h = (k - 1, omega (arith, some, few), omega (arith, some), h)

pub line_number : (xs : List Bound) (n : ℕ) (b : Bound) (d : BoundLine) → n < length xs → b ≡ get_or xs n b
    → (get_or (map bound_view xs) n d).node ≡ b.node
line_number xs n b d l e = ap (λ x. x.node) (line_is xs n b d l e)

-- ---- first flaws

module _ {K : Type 0} (t : Problem K) (c : Certificate) (limit : Option ℕ) where
  abbrev AreSolved : ℕ → Type 0
  AreSolved n = (i : ℕ) → i < n → (v : ℕ) × ((bound_at t c i).node ≡ suc v) × IsSolutionAt t v (bound_at t c i).rows

  module _ (n : ℕ) (solved : AreSolved n) where
    none_before : (g : Flaw) → IsEarlier g (no_solution n) → Holds t c limit g → ⊥
    none_before (no_solution i) (inl l) h = absurd (omega (arith, l))
    none_before (no_solution i) (inr l) h = let s = solved i l.1 in h.1 s.0 s.1 s.2
    none_before (bound_twice i) e h = later 1 0 (omega arith) e
    none_before (weak v) e h = later 2 0 (omega arith) e
    none_before (no_answer i) e h = later 3 0 (omega arith) e
    none_before (not_in_order i) e h = later 4 0 (omega arith) e
    none_before wrong_count e h = later 5 0 (omega arith) e
    none_before missed e h = later 6 0 (omega arith) e

    pub first_bad : Holds t c limit (no_solution n) → IsFirstFlaw t c limit (no_solution n)
    first_bad h = record { holds = h; first = none_before }

  module _ (n : ℕ) (solved : AreSolved (length c.bounds))
      (apart : (v i j : ℕ) → i < j → j < n → IsBoundOf t c v i → IsBoundOf t c v j → t.IsGrouped v (bound_row t c v i) (bound_row t c v j) → ⊥)
    where
      none_twice : (g : Flaw) → IsEarlier g (bound_twice n) → Holds t c limit g → ⊥
      none_twice (no_solution i) e h = let s = solved i h.0 in h.1 s.0 s.1 s.2
      none_twice (bound_twice j) (inl l) h = absurd (omega (arith, l))
      none_twice (bound_twice j) (inr l) h = apart h.0 h.1 j h.2 l.1 h.3 h.4 h.5
      none_twice (weak v) e h = later 2 1 (omega arith) e
      none_twice (no_answer i) e h = later 3 1 (omega arith) e
      none_twice (not_in_order i) e h = later 4 1 (omega arith) e
      none_twice wrong_count e h = later 5 1 (omega arith) e
      none_twice missed e h = later 6 1 (omega arith) e

      pub first_twice : Holds t c limit (bound_twice n) → IsFirstFlaw t c limit (bound_twice n)
      first_twice h = record { holds = h; first = none_twice }

-- ---- one line more

same_node : (c : Certificate) (n v w : ℕ) → line_node c n ≡ suc v → line_node c n ≡ suc w → w ≡ v
same_node c n v w a b = omega (arith, a, b)

module _ (c : Certificate) {A B : Type 0} (f : A → B) (m : ℕ) (of_line : ℕ → ℕ → B) (lists : List (List A)) (n v : ℕ) (x : A)
    (each : length lists ≡ m) (inside : v < m) (node : line_node c n ≡ suc v)
    (so : (w : ℕ) → w < m → map f (get_or lists w []) ≡ map (of_line w) (lines_of c w n)) (now : f x ≡ of_line v n) where
  -- lists that have a part for each line
  pub parts_more : (w : ℕ) → w < m
      → map f (get_or (set lists v (get_or lists v [] ++ (x ∷ []))) w []) ≡ map (of_line w) (lines_of c w (n + 1))
  parts_more w l = elim (cases_eq w v) [
    | inl e ↦ subst (λ u. map f (get_or (set lists v (get_or lists v [] ++ (x ∷ []))) u []) ≡ map (of_line u) (lines_of c u (n + 1)))
        (sym e)
        (ap (map f) (get_or-set_same lists v (get_or lists v [] ++ (x ∷ [])) [] (omega (arith, each, inside)))
        ∙ map-append f (get_or lists v []) (x ∷ [])
        ∙ ap (λ ys. ys ++ (f x ∷ [])) (so v inside)
        ∙ ap (λ y. map (of_line v) (lines_of c v n) ++ (y ∷ [])) now
        ∙ sym (map-append (of_line v) (lines_of c v n) (n ∷ []))
        ∙ ap (map (of_line v)) (sym (lines_more c v n node)))
    | inr e ↦
        ap (map f) (get_or-set_other lists v w (get_or lists v [] ++ (x ∷ [])) [] e)
        ∙ so w l
        ∙ ap (map (of_line w)) (sym (lines_same c w n (λ s. e (same_node c n v w node s))))
  ]

map_same : (xs : List ℕ) → map (λ (x : ℕ). x) xs ≡ xs
map_same [] = refl
map_same (x ∷ xs) = ap (λ ys. x ∷ ys) (map_same xs)

module _ {R : Type 0} (raw : RawView R) where
  pub link_own : (v i : ℕ) → 0 < v → group_link raw v i ≡ own_link raw v i
  link_own v i l = below_root v (own_link raw v i) l
    where
      below_root : (v x : ℕ) → 0 < v → cond (nat_eq v 0) 0 x ≡ x
      below_root v x l = grind (arith, nat_tests)

  pub link_root : (v i : ℕ) → v ≡ 0 → group_link raw v i ≡ 0
  link_root v i e = at_root v (own_link raw v i) e
    where
      at_root : (v x : ℕ) → v ≡ 0 → cond (nat_eq v 0) 0 x ≡ 0
      at_root v x e = grind (arith, nat_tests)

-- a node has no more rows than the tree
pub rows_few : {R : Type 0} (d : ℕ) (key : R → KeyOf d 16) (raw : RawView R) → IsRawFormed d key raw → (v : ℕ) → raw_len raw v ≤ 4194304
rows_few d key raw formed v = let a = length_within raw.rows v in let b = formed.few_rows in omega (arith, a, b)

module _ (query : Query) (tables : List Table) (join : JoinTree) {R : Type 0} (d : ℕ) (key : R → KeyOf d 16) (raw : RawView R)
    (shaped : AreShapes raw.shapes) (has : HasProblemRows query tables join d key raw) (c : Certificate) where
  abbrev t : Problem (KeyOf (length query.order) 16)
  t = problem_in query tables join

  module _ (n : ℕ) (tops : List ℕ) (ranks : List (List R)) (p : ArePlacedLines query tables join d key raw c n tops ranks)
      (v : ℕ) (rank : R) (places : List ℕ) (inside : v < length raw.shapes) (node : line_node c n ≡ suc v)
      (placed : ArePlacesOf query tables join raw v (bound_at t c n).rows places)
      (now : key rank ≡ query_key query d (bound_key t c v n)) where
    abbrev more : List ℕ
    more = tops ++ (get_or places v 0 ∷ [])

    old : (i : ℕ) → i < n → get_or more i 0 ≡ get_or tops i 0
    old i l = get_front tops (get_or places v 0 ∷ []) i (let e = p.count in omega (arith, e, l))

    new : get_or more n 0 ≡ get_or places v 0
    new = get_end tops (get_or places v 0) n (sym p.count)

    self : 0 < is_below t.parent v v
    self = let a = below_same query tables join d key raw shaped has v v inside in let b = below_self raw shaped v in omega (arith, a, b)

    there : v < t.nodes
    there = in_nodes query tables join d key raw shaped has v inside

    at_node : (w : ℕ) → line_node c n ≡ suc w → w ≡ v
    at_node w e = same_node c n v w node e

    earlier : (i : ℕ) → i < n + 1 → i ≢ n → i < n
    earlier i l e = omega (arith, l, e)

    pub lines_placed : ArePlacedLines query tables join d key raw c (n + 1) more (set ranks v (get_or ranks v [] ++ (rank ∷ [])))
    lines_placed = record {
      count = length_end tops (get_or places v 0) ∙ (let e = p.count in omega (arith, e));
      each_node = length-set ranks v (get_or ranks v [] ++ (rank ∷ [])) ∙ p.each_node;
      solutions = λ i l. elim (cases_eq i n) [
        | inl e ↦ subst (λ k. (u : ℕ) × (line_node c k ≡ suc u) × IsSolutionAt t u (bound_at t c k).rows) (sym e)
            (v, node, placed.solution)
        | inr e ↦ p.solutions i (earlier i l e)
      ];
      within = λ w i l h. elim (cases_eq i n) [
        | inl e ↦
            let s = at_node w (ap (line_node c) (sym e) ∙ h) in
            let at = ap (λ k. get_or more k 0) e ∙ new in
            subst (λ u. get_or more i 0 < raw_len raw u) (sym s) (let a = placed.within v there self in omega (arith, at, a))
        | inr e ↦ let o = old i (earlier i l e) in let a = p.within w i (earlier i l e) h in omega (arith, o, a)
      ];
      numbers = λ w i l h. elim (cases_eq i n) [
        | inl e ↦
            let s = at_node w (ap (line_node c) (sym e) ∙ h) in
            subst (λ u. raw_number raw u (get_or more i 0) ≡ bound_row t c u i) (sym s)
            (subst (λ k. raw_number raw v (get_or more k 0) ≡ bound_row t c v k) (sym e)
            (ap (raw_number raw v) new ∙ placed.numbers v there self))
        | inr e ↦ ap (raw_number raw w) (old i (earlier i l e)) ∙ p.numbers w i (earlier i l e) h
      ];
      keys = parts_more c key (length raw.shapes) (λ u i. query_key query d (bound_key t c u i)) ranks n v rank p.each_node inside node
          p.keys now;
    }

  -- ---- groups

  module _ (n : ℕ) (tops : List ℕ) (ranks : List (List R)) (p : ArePlacedLines query tables join d key raw c n tops ranks) where
    pub line_within : (i : ℕ) → i < n → (v : ℕ) → line_node c i ≡ suc v → v < length raw.shapes
    line_within i l v e =
        let s = p.solutions i l in
        let same : v ≡ s.0 = (let f = s.1 in omega (arith, e, f)) in
        let h = s.2.node in
        from_nodes query tables join d key raw shaped has v (omega (arith, same, h))

    -- two rows have one link exactly if they are in one group
    pub group_iff : (v i j : ℕ) → v < length raw.shapes → i < raw_len raw v → j < raw_len raw v
        → (group_link raw v i ≡ group_link raw v j) ↔ t.IsGrouped v (raw_number raw v i) (raw_number raw v j)
    group_iff v i j l h k = elim (cases_lt 0 v) [
      | inl some ↦
          let iff = has.grouped v i j some (in_nodes query tables join d key raw shaped has v l) h k in
          let a = link_own raw v i some in
          let b = link_own raw v j some in
          (λ e. iff.0 (sym a ∙ e ∙ b), λ g. a ∙ iff.1 g ∙ sym b)
      | inr none ↦
          let z : v ≡ 0 = omega (arith, none) in
          (λ e. inl z, λ g. link_root raw v i z ∙ sym (link_root raw v j z))
    ]

    link_of : (i : ℕ) → i < n → (v : ℕ) → line_node c i ≡ suc v → (j : ℕ) → j < n → line_node c j ≡ suc v
        → (group_link raw v (get_or tops i 0) ≡ group_link raw v (get_or tops j 0)) ↔ t.IsGrouped v (bound_row t c v i) (bound_row t c v j)
    link_of i l v e j h f =
        let iff = group_iff v (get_or tops i 0) (get_or tops j 0) (line_within i l v e) (p.within v i l e) (p.within v j h f) in
        let a = p.numbers v i l e in
        let b = p.numbers v j h f in (
          λ x. subst (λ r. t.IsGrouped v r (bound_row t c v j)) a (subst (λ r. t.IsGrouped v (raw_number raw v (get_or tops i 0)) r) b (iff.0 x)),
          λ x. iff.1 (subst (λ r. t.IsGrouped v r (raw_number raw v (get_or tops j 0))) (sym a) (subst (λ r. t.IsGrouped v (bound_row t c v i) r) (sym b) x)),
        )

    module _ (k : ℕ) (few : k ≤ n) (groups : List (List ℕ)) (g : AreLineGroups raw c tops k groups) where
      -- lines of one group are not apart
      pub groups_apart : (v i j : ℕ) → i < j → j < k → line_node c i ≡ suc v → line_node c j ≡ suc v
          → t.IsGrouped v (bound_row t c v i) (bound_row t c v j) → ⊥
      groups_apart v i j l h e f x = g.apart v i j l h e f ((link_of i (omega (arith, l, h, few)) v e j (omega (arith, h, few)) f).1 x)

      pub lines_long : (v : ℕ) → v < length raw.shapes → length (get_or groups v []) ≡ length (lines_of c v k)
      lines_long v l = ap length (g.links v l) ∙ length-map (lines_of c v k) (λ i. group_link raw v (get_or tops i 0))

      link_at : (v b : ℕ) → v < length raw.shapes → b < length (get_or groups v [])
          → get_or (get_or groups v []) b 0 ≡ group_link raw v (get_or tops (get_or (lines_of c v k) b 0) 0)
      link_at v b l h =
          ap (λ xs. get_or xs b 0) (g.links v l)
          ∙ get_or-map (λ i. group_link raw v (get_or tops i 0)) (lines_of c v k) b 0 0 (let n = lines_long v l in omega (arith, h, n))

      -- each line has a place among those of its node
      pub line_place : (v i : ℕ) → v < length raw.shapes → i < k → line_node c i ≡ suc v
          → (b : ℕ) × (b < length (get_or groups v [])) × (get_or (lines_of c v k) b 0 ≡ i)
          × (get_or (get_or groups v []) b 0 ≡ group_link raw v (get_or tops i 0))
      line_place v i l h e =
          let at = lines_all c v k i h e in
          let in_lines = at.1 in
          let long = lines_long v l in
          let low : at.0 < length (get_or groups v []) = omega (arith, in_lines, long) in
          (at.0, low, at.2, link_at v at.0 l low ∙ ap (λ x. group_link raw v (get_or tops x 0)) at.2)

      -- and each place is that of a line
      pub place_line : (v b : ℕ) → v < length raw.shapes → b < length (get_or groups v [])
          → (get_or (lines_of c v k) b 0 < k) × (line_node c (get_or (lines_of c v k) b 0) ≡ suc v)
          × (get_or (get_or groups v []) b 0 ≡ group_link raw v (get_or tops (get_or (lines_of c v k) b 0) 0))
      place_line v b l h =
          let long = lines_long v l in
          let are = lines_are c v k b (omega (arith, h, long)) in
          (are.0, are.1, link_at v b l h)

      -- no group is there twice
      lines_differ : (v a b : ℕ) → a ≢ b → a < length (lines_of c v k) → b < length (lines_of c v k)
          → group_link raw v (get_or tops (get_or (lines_of c v k) a 0) 0) ≡ group_link raw v (get_or tops (get_or (lines_of c v k) b 0) 0) → ⊥
      lines_differ v a b ne l h e = elim (cases_lt a b) [
        | inl x ↦
            let up = lines_ascend c v k a b x h in
            let bi = lines_are c v k b h in
            let ai = lines_are c v k a l in
            g.apart v (get_or (lines_of c v k) a 0) (get_or (lines_of c v k) b 0) up bi.0 ai.1 bi.1 e
        | inr x ↦
            let up = lines_ascend c v k b a (omega (arith, x, ne)) l in
            let bi = lines_are c v k b h in
            let ai = lines_are c v k a l in
            g.apart v (get_or (lines_of c v k) b 0) (get_or (lines_of c v k) a 0) up ai.0 bi.1 ai.1 (sym e)
      ]

      pub groups_few : (v : ℕ) → v < length raw.shapes → length (get_or groups v []) ≤ raw_len raw v
      groups_few v l =
          let long = lines_long v l in
          let less = pigeons (raw_len raw v) (length (lines_of c v k)) (λ b. get_or tops (get_or (lines_of c v k) b 0) 0)
          (λ b h. let at = lines_are c v k b h in let low = at.0 in p.within v (get_or (lines_of c v k) b 0) (omega (arith, low, few)) at.1)
          (λ a b h i ne e. lines_differ v a b ne h i (ap (group_link raw v) e)) in
          omega (arith, long, less)

      -- the next line is the first whose group has a line before it
      pub twice : (limit : Option ℕ) (v b : ℕ) → n ≡ length c.bounds → v < length raw.shapes → b < length (get_or groups v []) → k < n
          → line_node c k ≡ suc v → get_or (get_or groups v []) b 0 ≡ group_link raw v (get_or tops k 0)
          → IsFirstFlaw t c limit (bound_twice k)
      twice limit v b all inside h room node same =
          let at = place_line v b inside h in
          let low = at.0 in
          let iff = link_of (get_or (lines_of c v k) b 0) (omega (arith, low, few)) v at.1 k room node in
          first_twice t c limit k (λ i l. p.solutions i (omega (arith, l, all)))
          (λ u i j l m e f. groups_apart u i j l m e.1 f.1) (
            v,
            get_or (lines_of c v k) b 0,
            at.0,
            (omega (arith, low, few, all), at.1),
            (omega (arith, room, all), node),
            iff.0 (sym at.2 ∙ same),
          )

      -- ---- one group more

      module _ (v : ℕ) (link : ℕ) (inside : v < length raw.shapes) (room : k < n) (node : line_node c k ≡ suc v)
          (is : link ≡ group_link raw v (get_or tops k 0))
          (absent : (b : ℕ) → b < length (get_or groups v []) → get_or (get_or groups v []) b 0 ≢ link) where
        pub groups_more : AreLineGroups raw c tops (k + 1) (set groups v (get_or groups v [] ++ (link ∷ [])))
        groups_more = record {
          each_node = length-set groups v (get_or groups v [] ++ (link ∷ [])) ∙ g.each_node;
          links = λ w l. sym (map_same (get_or (set groups v (get_or groups v [] ++ (link ∷ []))) w []))
              ∙ parts_more c (λ (x : ℕ). x) (length raw.shapes) (λ u i. group_link raw u (get_or tops i 0)) groups k v link g.each_node inside
              node (λ u h. map_same (get_or groups u []) ∙ g.links u h) is w l;
          apart = λ w i j l h e f. elim (cases_eq j k) [
            | inl x ↦
                let s : w ≡ v = same_node c k v w node (ap (line_node c) (sym x) ∙ f) in
                let at = line_place v i inside (omega (arith, l, x)) (e ∙ ap suc s) in
                λ y. absent at.0 at.1
                (at.3 ∙ subst (λ u. group_link raw u (get_or tops i 0) ≡ group_link raw u (get_or tops j 0)) s y
                ∙ ap (λ i. group_link raw v (get_or tops i 0)) x ∙ sym is)
            | inr x ↦ g.apart w i j l (omega (arith, h, x)) e f
          ];
        }

-- ---- a line that is read

module _ (query : Query) (tables : List Table) (join : JoinTree) {R : Type 0} (d : ℕ) (key : R → KeyOf d 16) (raw : RawView R)
    (shaped : AreShapes raw.shapes) (has : HasProblemRows query tables join d key raw) (proof : Proof) (tops : List ℕ)
    (ranks : List (List R))
    (p : ArePlacedLines query tables join d key raw (proof_view proof) (length proof.bounds.items) tops ranks) (i : ℕ) (b : Bound)
    (inside : i < length proof.bounds.items) (is : b ≡ get_or proof.bounds.items i b) where
  number_read : line_node (proof_view proof) i ≡ b.node
  number_read = line_number proof.bounds.items i b (record { line = 0; node = 0; rows = [] }) inside is

  pub some_node_lem : 1 ≤ b.node
  some_node_lem = let s = p.solutions i inside in let e = s.1 in let n = number_read in omega (arith, e, n)

  pub node_read : line_node (proof_view proof) i ≡ suc (b.node - 1)
  node_read = let n = number_read in let s = some_node_lem in omega (arith, n, s)

  pub node_within : b.node - 1 < length raw.shapes
  node_within =
      line_within query tables join d key raw shaped has (proof_view proof) (length proof.bounds.items) tops ranks p i inside (b.node - 1) node_read

-- the line is no solution
pub none_read : (query : Query) (tables : List Table) (join : JoinTree) (proof : Proof) (i : ℕ) (b : Bound)
    → i < length proof.bounds.items → b ≡ get_or proof.bounds.items i b
    → ((v : ℕ) → b.node ≡ suc v → IsSolutionAt (problem_in query tables join) v b.rows.items → ⊥)
    → Holds (problem_in query tables join) (proof_view proof) query.limit (no_solution i)
none_read query tables join proof i b inside is none =
    let none_at : BoundLine = record { line = 0; node = 0; rows = [] } in
    let read = line_is proof.bounds.items i b none_at inside is in
    let all = length-map proof.bounds.items bound_view in (
      omega (arith, all, inside),
      λ v e s. none v (sym (ap (λ x. x.node) read) ∙ e)
          (subst (λ rows. IsSolutionAt (problem_in query tables join) v rows) (ap (λ x. x.rows) read) s),
    )

-- ---- what is told

module _ (query : Query) (tables : List Table) (join : JoinTree) (c : Certificate)
    (shape : (shape : Shape) × IsShape query tables (Ok shape)) where
  pub tells_bad : (told : ProofFault) → TellsBadBound query tables join c told → TellsFlaw query tables join c told
  tells_bad told (inl e) = subst (TellsFlaw query tables join c) (sym e) tt
  tells_bad told (inr h) = subst (TellsFlaw query tables join c) (sym h.1) (shape.0, shape.1, no_solution h.0, refl, h.2)

  pub tells_twice : (told : ProofFault) → TellsBoundTwice query tables join c told → TellsFlaw query tables join c told
  tells_twice told (inl e) = subst (TellsFlaw query tables join c) (sym e) tt
  tells_twice told (inr h) = subst (TellsFlaw query tables join c) (sym h.1) (shape.0, shape.1, bound_twice h.0, refl, h.2)
