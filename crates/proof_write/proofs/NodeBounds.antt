-- The bounds of the groups of a node, and those of all nodes.
use Rattle.std.proofs.Common.{◌≡◌, ◌≢◌, ◌<◌, ◌≤◌, ◌+◌, ◌-◌, ◌⊎◌, ℕ, zero, suc, nat_eq, pos, List, [], ◌∷◌, ◌++◌, map}
use Rattle.std.proofs.Common.{length, get_or, refl, sym, ap, subst, ◌∙◌, inl, inr, arith, length-append}
use Rattle.std.specs.List.{flat_map}
use Rattle.std.specs.Cmp.Lexicographic.{slice_cmp}
use Rattle.std.specs.Ordering.{is_lt, nat_cmp}
use Rattle.std.proofs.lemmas.Bool.{cases_eq, cases_lt, cond-false, ne_eqb}
use Rattle.std.proofs.lemmas.Cmp.{nat_list_cmp_total}
use Rattle.std.proofs.lemmas.List.{get_or-map, get_or_append_left, get_or-append-add, length-map}
use Rattle.std.proofs.lemmas.List.Concat.{flat_map-cons}
use Rattle.std.proofs.lemmas.List.Elements.{All-get_or, All-from_get_or}
use Rattle.std.proofs.lemmas.List.Sorted.{All-permutation, Contains-permutation, IsPermutation-map}
use Rattle.std.proofs.lemmas.List.Sorted.{ranks_by, sorted_far}
use Rattle.std.proofs.lemmas.List.{get_or_default}
use Rattle.tdp_model.specs.Below.{is_below}
use Rattle.tdp_model.specs.KeyTuple.{KeyOf}
use Rattle.tdp_model.proofs.Descent.{below_itself, below_less, below_once, below_parent}
use Rattle.tdp_core.specs.TreeView.{NodeView, child_place, group, group_count, group_named, group_number, item}
use Rattle.tdp_core.specs.TreeView.{members, node_at, number, parent, rows}
use Rattle.tdp_core.specs.WellFormed.{IsFormed}
use Rattle.tdp_core.proofs.TreeFacts.{member_is_row}
use Rattle.anyk_model.specs.Ranking.{IsBefore}
use Rattle.proof_model.specs.Certificate.{BoundLine}
use Rattle.proof_model.specs.Writing.{bound_text}
use Rattle.proof_model.specs.WrittenProofs.{BoundBefore}
use Rattle.proof_write.specs.Firsts.{AreBounds, AreFirsts, AreTold, IsBoundLine, IsFirst, IsUnder, bound_at, listed}
use Rattle.proof_write.proofs.Groups.{distinct_moved, one_group}
use Rattle.proof_write.proofs.Listing.{AreAlike, alike_from, here_counted, listed_before}

-- ---- a node's lines

-- the lines of the first solutions of node v, from line n on
abbrev pub lines : ℕ → ℕ → List (List ℕ) → List BoundLine
lines n v [] = []
lines n v (numbers ∷ firsts) = (record { line = n; node = suc v; rows = listed numbers }) ∷ lines (n + 1) v firsts

lines_length : (n v : ℕ) (firsts : List (List ℕ)) → length (lines n v firsts) ≡ length firsts
lines_length n v [] = refl
lines_length n v (x ∷ firsts) = ap suc (lines_length (n + 1) v firsts)

lines_at : (n v : ℕ) (firsts : List (List ℕ)) (k : ℕ) (none : BoundLine) → k < length firsts
    → get_or (lines n v firsts) k none ≡ record { line = n + k; node = suc v; rows = listed (get_or firsts k []) }
lines_at n v [] k none l = absurd (omega (arith, l))
lines_at n v (x ∷ firsts) zero none l = let e : n
    ≡ n + 0 = omega arith in ap (λ (j : ℕ). record { line = j; node = suc v; rows = listed x }) e
lines_at n v (x ∷ firsts) (suc k) none l =
    let e : (n + 1) + k ≡ n + suc k = omega arith in
    lines_at (n + 1) v firsts k none (omega (arith, l))
    ∙ ap (λ (j : ℕ). record { line = j; node = suc v; rows = listed (get_or firsts k []) }) e

abbrev line_text : BoundLine → List ℕ
line_text b = bound_text b.node b.rows

pub lines_text : (n v : ℕ) (firsts : List (List ℕ))
    → flat_map (λ (b : BoundLine). bound_text b.node b.rows) (lines n v firsts)
    ≡ flat_map (λ rows. bound_text (v + 1) (listed rows)) firsts
lines_text n v [] = refl
lines_text n v (x ∷ firsts) =
    let e : suc v ≡ v + 1 = omega arith in
    flat_map-cons line_text (record { line = n; node = suc v; rows = listed x }) (lines (n + 1) v firsts)
    ∙ ap (λ l. bound_text (suc v) (listed x) ++ l) (lines_text (n + 1) v firsts)
    ∙ ap (λ k. bound_text k (listed x) ++ flat_map (λ rows. bound_text (v + 1) (listed rows)) firsts) e
    ∙ sym (flat_map-cons (λ rows. bound_text (v + 1) (listed rows)) x firsts)

module _ {R : Type 0} (d : ℕ) (key : R → KeyOf d 16) (tree : List (NodeView R)) (formed : IsFormed d key tree) where
  pub early : (q : ℕ) → 0 < q → q < length tree → parent tree q < q
  early = formed.shaped.parents_first

  -- the group that a row names is there
  pub named_within : (q r : ℕ) → 0 < q → q < length tree → r < rows tree (parent tree q)
      → group_number tree q r < group_count tree q
  named_within q r some l row =
      subst (λ g. g < group_count tree q)
      (sym (cond-false (nat_eq q 0) 0 (group_named tree (parent tree q) r (child_place tree q))
      (ne_eqb q 0 (λ e. omega (arith, e, some)))))
      (formed.named q r some l row)

  -- and so is its first row
  pub first_inside : (q r : ℕ) → 0 < q → q < length tree → r < rows tree (parent tree q)
      → (0 < length (group tree q r)) × (get_or (group tree q r) 0 0 < rows tree q)
  first_inside q r some l row =
      let full = formed.inhabited q (group_number tree q r) l (named_within q r some l row) in
      (full, member_is_row d key tree formed q (group_number tree q r) 0 l full)

  -- ---- one first solution

  module _ (v : ℕ) (node : v < length tree) where
    abbrev pub below : ℕ → ℕ
    below q = is_below (parent tree) v q

    pub once : (u : ℕ) → u < length tree → is_below (parent tree) v u ≤ 1
    once u l = below_once (length tree) (parent tree) early u v u (omega arith) l

    pub items_within : (u : ℕ) → u < length tree → item tree u < 16
    items_within = formed.shaped.items

    pub items_apart_lem : (u w : ℕ) → u < w → w < length tree → item tree u ≢ item tree w
    items_apart_lem u w less l e = let same = formed.shaped.items_apart u w (omega (arith, less, l)) l e in omega
        (arith, same, less)

    pub parent_under : (q : ℕ) → v < q → IsUnder tree v q → IsUnder tree v (parent tree q)
    parent_under q after u =
        let same = below_parent (length tree) (parent tree) early v q (omega (arith, after)) u.0
        (λ e. omega (arith, e, after)) in
        (omega (arith, early q (omega (arith, after)) u.0, u.0), omega (arith, same, u.1))

    pub itself : IsUnder tree v v
    itself = (node, (let b = below_itself (length tree) (parent tree) early v v refl in omega (arith, b)))

    pub under_from : (q : ℕ) → IsUnder tree v q → v ≤ q
    under_from q u = elim (cases_lt q v) [
      | inl less ↦ let z = below_less (length tree) (parent tree) early v q u.0 less in let s = u.1 in absurd
          (omega (arith, z, s))
      | inr more' ↦ more'
    ]

    module _ (g : ℕ) (group_there : g < group_count tree v) (numbers : List ℕ) (first : IsFirst tree v g numbers) where
      at_top : (q : ℕ) → v ≡ q → first.chosen q < rows tree q
      at_top q same =
          subst (λ z. first.chosen z < rows tree z) same
          (subst (λ x. x < rows tree v) (sym first.top)
          (member_is_row d key tree formed v g 0 node (formed.inhabited v g node group_there)))

      rows_there : (f q : ℕ) → q ≤ f → IsUnder tree v q → first.chosen q < rows tree q
      rows_there zero q e u = let from = under_from q u in at_top q (omega (arith, e, from))
      rows_there (suc f) q e u = elim (cases_lt v q) [
        | inr here ↦ let from = under_from q u in at_top q (omega (arith, here, from))
        | inl after ↦
            let row = rows_there f (parent tree q) (omega (arith, early q (omega (arith, after)) u.0, e)) (parent_under q after u) in
            subst (λ x. x < rows tree q) (sym (first.named q after u))
            (first_inside q (first.chosen (parent tree q)) (omega (arith, after)) u.0 row).1
      ]

      -- each row that is chosen is there
      pub row_there : (q : ℕ) → IsUnder tree v q → first.chosen q < rows tree q
      row_there q u = rows_there q q (omega arith) u

      module _ (told : AreTold tree) where
        pub positive : (q : ℕ) → q < length tree → 0 < is_below (parent tree) v q → 0 < get_or numbers (item tree q) 0
        positive q l some = omega (arith, first.own q (l, some), told.positive q (first.chosen q) l (row_there q (l, some)))

        pub absent : (i : ℕ) → ((u : ℕ) → u < length tree → 0 < is_below (parent tree) v u → item tree u ≢ i)
            → get_or numbers i 0 ≡ 0
        absent i none = first.others i (λ q u. none q u.0 u.1)

    -- the number of the group's first row
    pub top_number : (g : ℕ) (numbers : List ℕ) → IsFirst tree v g numbers
        → get_or numbers (item tree v) 0 ≡ number tree v (get_or (members tree v g) 0 0)
    top_number g numbers first = first.own v itself ∙ ap (number tree v) first.top

    -- first solutions have 0 at the same items
    pub firsts_alike : AreTold tree → (g h : ℕ) (xs ys : List ℕ) → g < group_count tree v → h < group_count tree v
        → IsFirst tree v g xs → IsFirst tree v h ys
        → AreAlike xs ys
    firsts_alike told g h xs ys lg lh x y =
        alike_from xs ys (x.count ∙ sym y.count) (λ i l.
        sym (here_counted (length tree) below (item tree) 16 once items_within items_apart_lem xs x.count
        (positive g lg xs x told) (absent g lg xs x told) i)
        ∙ here_counted (length tree) below (item tree) 16 once items_within items_apart_lem ys y.count
        (positive h lh ys y told) (absent h lh ys y told) i)

    -- ---- the first solutions of the node

    module _ (told : AreTold tree) (firsts : List (List ℕ)) (are : AreFirsts tree v firsts) where
      abbrev OfSome : List ℕ → Type 0
      OfSome numbers = (g : ℕ) × (g < group_count tree v) × IsFirst tree v g numbers

      -- each is that of a group
      pub each_first : (k : ℕ) → k < length firsts
          → (g : ℕ) × (g < group_count tree v) × IsFirst tree v g (get_or firsts k [])
      each_first k l =
          All-get_or OfSome firsts k [] l
          (All-permutation OfSome are.by_group firsts are.same
          (All-from_get_or OfSome are.by_group [] (λ g h.
          let inside : g < group_count tree v = (let n = are.count in omega (arith, n, h)) in
          (g, inside, are.each g inside))))

      -- and each group has one
      pub all_first : (g : ℕ) → g < group_count tree v
          → (k : ℕ) × (k < length firsts) × IsFirst tree v g (get_or firsts k [])
      all_first g l =
          let here : g < length are.by_group = (let n = are.count in omega (arith, n, l)) in
          let x : List ℕ = get_or are.by_group g [] in
          let found = Contains-permutation are.by_group firsts x are.same
          (g, here, get_or_default are.by_group g x [] here) in (
            found.0,
            found.1,
            subst (IsFirst tree v g) (sym (get_or_default firsts found.0 [] x found.1 ∙ found.2))
                (are.each g l),
          )

      abbrev top_of : List ℕ → ℕ
      top_of numbers = get_or numbers (item tree v) 0

      -- the first rows of two groups have different numbers
      tops_apart : (g h : ℕ) → g < h → h < length (map top_of are.by_group)
          → get_or (map top_of are.by_group) g 0 ≢ get_or (map top_of are.by_group) h 0
      tops_apart g h less l e =
          let n = are.count in
          let lh : h < group_count tree v = omega (arith, length-map are.by_group top_of, n, l) in
          let lg : g < group_count tree v = omega (arith, less, lh) in
          let full = λ (k : ℕ) (lk : k < group_count tree v). formed.inhabited v k node lk in
          let same : number tree v (get_or (members tree v g) 0 0) ≡ number tree v (get_or (members tree v h) 0 0) =
          sym (get_or-map top_of are.by_group g [] 0 (omega (arith, n, lg))
          ∙ top_number g (get_or are.by_group g []) (are.each g lg))
          ∙ e ∙ get_or-map top_of are.by_group h [] 0 (omega (arith, n, lh))
          ∙ top_number h (get_or are.by_group h []) (are.each h lh) in
          let one = one_group (rows tree v) (node_at tree v).groups (formed.grouped v node) g h 0 0 (full g lg)
          (full h lh)
          (told.apart v _ _ node (member_is_row d key tree formed v g 0 node (full g lg))
          (member_is_row d key tree formed v h 0 node (full h lh)) same) in
          omega (arith, one, less)

      -- so no two first solutions are the same
      firsts_apart : (i j : ℕ) → i < j → j < length firsts → get_or firsts i [] ≡ get_or firsts j [] → ⊥
      firsts_apart i j less l e =
          let size = length-map firsts top_of in
          let li : i < length firsts = omega (arith, less, l) in
          let same = distinct_moved (map top_of are.by_group) (map top_of firsts)
          (IsPermutation-map top_of are.by_group firsts are.same) tops_apart
          i j (omega (arith, size, li)) (omega (arith, size, l))
          (get_or-map top_of firsts i [] 0 li ∙ ap top_of e ∙ sym (get_or-map top_of firsts j [] 0 l)) in
          omega (arith, same, less)

      -- they ascend by their rows
      pub firsts_ascend : (i j : ℕ) → i < j → j < length firsts
          → IsBefore (map pos (listed (get_or firsts i []))) (map pos (listed (get_or firsts j [])))
      firsts_ascend i j less l =
          let x = each_first i (omega (arith, less, l)) in
          let y = each_first j l in
          listed_before (get_or firsts i []) (get_or firsts j [])
          (firsts_alike told x.0 y.0 (get_or firsts i []) (get_or firsts j []) x.1 y.1 x.2 y.2)
          (firsts_apart i j less l)
          (sorted_far (λ a b. is_lt (slice_cmp nat_cmp a b))
          (ranks_by nat_list_cmp_total (λ a. a)) firsts are.sorted i j [] (omega (arith, less)) l)

      -- ---- one node more

      module _ (bounds : List BoundLine) (so_far : AreBounds tree v bounds) where
        abbrev pub more : List BoundLine
        more = bounds ++ lines (length bounds + 2) v firsts

        more_length : length more ≡ length bounds + length firsts
        more_length = omega (arith, length-append bounds (lines (length bounds + 2) v firsts), lines_length (length bounds + 2) v firsts)

        old_at : (i : ℕ) → i < length bounds → bound_at tree more i ≡ bound_at tree bounds i
        old_at i l = get_or_append_left bounds (lines (length bounds + 2) v firsts) _ i l

        -- the line of the first solution at place k
        abbrev line_at : ℕ → BoundLine
        line_at k = record { line = length bounds + 2 + k; node = suc v; rows = listed (get_or firsts k []) }

        new_at : (k : ℕ) → k < length firsts → bound_at tree more (length bounds + k)
            ≡ line_at k
        new_at k l = get_or-append-add bounds (lines (length bounds + 2) v firsts) k _
            ∙ lines_at (length bounds + 2) v firsts k _ l

        find : (i : ℕ) → i < length more
            → (i < length bounds) ⊎ ((k : ℕ) × (k < length firsts) × (i ≡ length bounds + k))
        find i l = elim (cases_lt i (length bounds)) [
          | inl old ↦ inl old
          | inr new ↦ let n = more_length in inr (i - length bounds, omega (arith, n, l, new), omega (arith, new))
        ]

        old_node : (i : ℕ) → i < length bounds → (bound_at tree bounds i).node < suc v
        old_node i l = let f = so_far.firsts i l in let low = f.2 in let e = f.4.node in omega (arith, low, e)

        ordered : (i j : ℕ) → i < j → j < length more
            → BoundBefore (bound_at tree more i) (bound_at tree more j)
        ordered i j less l = elim (find j l) [
          | inl old ↦
              let li : i < length bounds = omega (arith, less, old) in
              subst (λ x. BoundBefore x (bound_at tree more j)) (sym (old_at i li))
              (subst (BoundBefore (bound_at tree bounds i)) (sym (old_at j old)) (so_far.ordered i j less old))
          | inr new ↦
              let k : ℕ = new.0 in
              let there : j ≡ length bounds + k = new.2 in
              let at : bound_at tree more j ≡ line_at k =
              ap (bound_at tree more) there ∙ new_at k new.1 in
              subst (BoundBefore (bound_at tree more i)) (sym at)
              (elim (find i (omega (arith, less, l))) [
                | inl old ↦
                    subst (λ (x : BoundLine). BoundBefore x (line_at k)) (sym (old_at i old))
                    (inl (old_node i old))
                | inr other ↦
                    let h : ℕ = other.0 in
                    let here : i ≡ length bounds + h = other.2 in
                    let before : h < k = omega (arith, less, here, there) in
                    subst (λ (x : BoundLine). BoundBefore x (line_at k))
                    (sym (ap (bound_at tree more) here ∙ new_at h other.1))
                    (inr (refl, firsts_ascend h k before new.1))
              ])
        ]

        line_numbers : (i : ℕ) → i < length more → (bound_at tree more i).line ≡ i + 2
        line_numbers i l = elim (find i l) [
          | inl old ↦ ap (λ (b : BoundLine). b.line) (old_at i old) ∙ so_far.lines i old
          | inr new ↦
              let k : ℕ = new.0 in
              let there : i ≡ length bounds + k = new.2 in
              ap (λ (b : BoundLine). b.line) (ap (bound_at tree more) there ∙ new_at k new.1) ∙ omega (arith, there)
        ]

        each_bound : (i : ℕ) → i < length more
            → (w g : ℕ) × (w < v + 1) × (g < group_count tree w) × IsBoundLine tree w g (bound_at tree more i)
        each_bound i l = elim (find i l) [
          | inl old ↦
              let f = so_far.firsts i old in
              (f.0, f.1, omega (arith, f.2), f.3, subst (IsBoundLine tree f.0 f.1) (sym (old_at i old)) f.4)
          | inr new ↦
              let k : ℕ = new.0 in
              let f = each_first k new.1 in
              let at = ap (bound_at tree more) new.2 ∙ new_at k new.1 in (
                v,
                f.0,
                omega arith,
                f.1,
                subst (IsBoundLine tree v f.0) (sym at)
                    (record { node = refl; numbers = get_or firsts k []; first = f.2; rows = refl }),
              )
        ]

        all_bound : (w g : ℕ) → w < v + 1 → g < group_count tree w
            → (i : ℕ) × (i < length more) × IsBoundLine tree w g (bound_at tree more i)
        all_bound w g low lg = elim (cases_eq w v) [
          | inl e ↦
              let f = all_first g (subst (λ z. g < group_count tree z) e lg) in
              let k : ℕ = f.0 in
              let lk : k < length firsts = f.1 in
              let n = more_length in (
                length bounds + k,
                omega (arith, n, lk),
                subst (λ z. IsBoundLine tree z g (bound_at tree more (length bounds + k))) (sym e)
                    (subst (IsBoundLine tree v g) (sym (new_at k lk))
                    (record { node = refl; numbers = get_or firsts k []; first = f.2; rows = refl })),
              )
          | inr other ↦
              let f = so_far.each w g (omega (arith, low, other)) lg in
              let li = f.1 in
              (f.0, omega (arith, more_length, li), subst (IsBoundLine tree w g) (sym (old_at f.0 li)) f.2)
        ]

        pub bounds_more : AreBounds tree (v + 1) (bounds ++ lines (length bounds + 2) v firsts)
        bounds_more = record { ordered = ordered; lines = line_numbers; firsts = each_bound; each = all_bound }
