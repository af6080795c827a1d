-- The rows that are chosen down a subtree, node by node.
use Rattle.std.proofs.Common.{◌≡◌, ◌≢◌, ◌<◌, ◌+◌, ℕ, List, length, get_or, slice_index, slice_index_or, Option}
use Rattle.std.proofs.Common.{Some, None, option_map, unwrap_or, replicate, refl, sym, ap, subst, ◌∙◌, inl, inr, ◌⊎◌}
use Rattle.std.proofs.Common.{arith}
use Rattle.std.proofs.Math.ListN.{set}
use Rattle.std.proofs.lemmas.Bool.{cases_eq, cases_lt}
use Rattle.std.proofs.lemmas.List.{get_or-replicate, get_or-set_other, get_or-set_same, get_or_past, length-set}
use Rattle.std.proofs.lemmas.List.{length-replicate}
use Rattle.tdp_model.specs.Below.{is_below}
use Rattle.tdp_model.specs.KeyTuple.{KeyOf}
use Rattle.tdp_model.proofs.Descent.{below_parent}
use Rattle.tdp_core.specs.TreeView.{NodeView, group, item, members, number, parent, rows}
use Rattle.tdp_core.specs.WellFormed.{IsFormed}
use Rattle.proof_write.specs.Firsts.{IsFirst, IsUnder}
use Rattle.proof_write.proofs.NodeBounds.{itself, parent_under, under_from}

-- the row that is chosen at a node, or 0
abbrev pub row_at : List (Option ℕ) → ℕ → ℕ
row_at chosen q = unwrap_or (slice_index_or chosen q None) 0

-- the nodes before node n have a row if they are in the subtree of node v
pub record HasChosen {R : Type 0} (tree : List (NodeView R)) (v g n : ℕ) (chosen : List (Option ℕ))
    (numbers : List ℕ) : Type 0 where
  pub long : length chosen ≡ 16
  pub count : length numbers ≡ 16
  pub under : (q : ℕ) → q < n → IsUnder tree v q
      → (row : ℕ) × (slice_index_or chosen q None ≡ Some row) × (row < rows tree q)
  pub elsewhere : (q : ℕ) → (q < n → IsUnder tree v q → ⊥) → slice_index_or chosen q None ≡ None
  pub top : row_at chosen v ≡ slice_index (members tree v g) 0
  pub named : (q : ℕ) → v < q → q < n → IsUnder tree v q
      → row_at chosen q ≡ slice_index (group tree q (row_at chosen (parent tree q))) 0
  pub own : (q : ℕ) → q < n → IsUnder tree v q → slice_index numbers (item tree q) ≡ number tree q (row_at chosen q)
  pub others : (i : ℕ) → ((q : ℕ) → q < n → IsUnder tree v q → item tree q ≢ i) → slice_index numbers i ≡ 0

none_at : (k q : ℕ) → get_or {A = Option ℕ} (replicate k None) q None ≡ None
none_at k q = elim (cases_lt q k) [
  | inl inside ↦ get_or-replicate k q None None inside
  | inr past ↦ let none : Option ℕ = None in get_or_past (replicate k none) q none
      (let n = length-replicate k none in omega (arith, n, past))
]

zero_at : (k q : ℕ) → get_or {A = ℕ} (replicate k 0) q 0 ≡ 0
zero_at k q = elim (cases_lt q k) [
  | inl inside ↦ get_or-replicate k q 0 0 inside
  | inr past ↦ let none : ℕ = 0 in get_or_past (replicate k none) q none
      (let n = length-replicate k none in omega (arith, n, past))
]

module _ {R : Type 0} (d : ℕ) (key : R → KeyOf d 16) (tree : List (NodeView R)) (formed : IsFormed d key tree)
    (v g : ℕ) (node : v < length tree) where
  -- a node is in the subtree or not
  pub is_under : (q : ℕ) → q < length tree → IsUnder tree v q ⊎ (is_below (parent tree) v q ≡ 0)
  is_under q l = elim (cases_lt 0 (is_below (parent tree) v q)) [
    | inl some ↦ inl (l, some)
    | inr none ↦ inr (omega (arith, none))
  ]

  -- a node after v is in the subtree if and only if its parent is
  under_down : (q : ℕ) → v < q → q < length tree → IsUnder tree v (parent tree q) → IsUnder tree v q
  under_down q after l u =
      let same = below_parent (length tree) (parent tree) formed.shaped.parents_first v q (omega (arith, after)) l
      (λ e. omega (arith, e, after)) in
      (l, omega (arith, same, u.1))

  abbrev nones : List (Option ℕ)
  nones = replicate 16 None

  abbrev zeros : List ℕ
  zeros = replicate 16 0

  -- at first only v has a row
  pub chosen_start : (row : ℕ) → row ≡ slice_index (members tree v g) 0 → row < rows tree v
      → HasChosen tree v g (v + 1) (set nones v (Some row)) (set zeros (item tree v) (number tree v row))
  chosen_start row is inside =
      let room : v < length nones = (let n = length-replicate 16 (let none : Option ℕ = None in none) in omega
      (arith, n, formed.shaped.few_nodes, node)) in
      let place : item tree v < length zeros =
      (let n = length-replicate 16 (let none : ℕ = 0 in none) in let i = formed.shaped.items v node in omega
      (arith, n, i)) in
      let here : get_or (set nones v (Some row)) v None ≡ Some row = get_or-set_same nones v (Some row) None room in
      let only : (q : ℕ) → q < v + 1 → IsUnder tree v q
      → q ≡ v = λ q low u. (let from = under_from d key tree formed v node q u in omega (arith, low, from)) in
      record {
        long = length-set nones v (Some row) ∙ length-replicate 16 (let none : Option ℕ = None in none);
        count = length-set zeros (item tree v) (number tree v row) ∙ length-replicate 16 (let none : ℕ = 0 in none);
        under = λ q low u. (
          row,
          subst (λ z. get_or (set nones v (Some row)) z None ≡ Some row) (sym (only q low u)) here,
          subst (λ z. row < rows tree z) (sym (only q low u)) inside,
        );
        elsewhere = λ q gone. elim (cases_eq q v) [
          | inl e ↦ absurd (gone (omega (arith, e)) (subst (IsUnder tree v) (sym e) (itself d key tree formed v node)))
          | inr other ↦ get_or-set_other nones v q (Some row) None other ∙ none_at 16 q
        ];
        top = ap (λ o. unwrap_or o 0) here ∙ is;
        named = λ q after low u. absurd (omega (arith, after, low));
        own = λ q low u.
            subst (λ z. get_or (set zeros (item tree v) (number tree v row)) (item tree z) 0
            ≡ number tree z (row_at (set nones v (Some row)) z)) (sym (only q low u))
            (get_or-set_same zeros (item tree v) (number tree v row) 0 place
            ∙ sym (ap (λ o. number tree v (unwrap_or o 0)) here));
        others = λ i none.
            get_or-set_other zeros (item tree v) i (number tree v row) 0 (λ e. none v (omega arith) (itself d key tree formed v node) (sym e))
            ∙ zero_at 16 i;
      }

  module _ (n : ℕ) (chosen : List (Option ℕ)) (numbers : List ℕ) (so_far : HasChosen tree v g n chosen numbers) where
    -- a row that is chosen is one of its node, which is in the subtree
    pub chosen_under : (q row : ℕ) → q < n → q < length tree → get_or chosen q None ≡ Some row
        → IsUnder tree v q × (row < rows tree q)
    chosen_under q row low l is = elim (is_under q l) [
      | inl u ↦
          let found = so_far.under q low u in
          (u, subst (λ r. r < rows tree q) (sym ((let e : Some row ≡ Some found.0 = sym is ∙ found.1 in cc))) found.2)
      | inr z ↦
          let none = so_far.elsewhere q (λ _ u. let s = u.1 in omega (arith, s, z)) in
          let e : Some row ≡ None = sym is ∙ none in
          absurd (cc)
    ]

    module _ (after : v < n) (l : n < length tree) where
      pub up_early : parent tree n < n
      up_early = formed.shaped.parents_first n (omega (arith, after)) l

      up_inside : parent tree n < length tree
      up_inside = let low = up_early in omega (arith, low, l)

      -- if its parent has no row, node n has none
      pub chosen_none : get_or chosen (parent tree n) None ≡ None → HasChosen tree v g (n + 1) chosen numbers
      chosen_none none =
          let not_under : IsUnder tree v n → ⊥ = λ u.
          (let found = so_far.under (parent tree n) up_early (parent_under d key tree formed v node n after u) in
          let e : None ≡ Some found.0 = sym none ∙ found.1 in absurd (cc)) in
          let low : (q : ℕ) → q < n + 1 → IsUnder tree v q → q < n = λ q h u. elim (cases_eq q n) [
            | inl e ↦ absurd (not_under (subst (IsUnder tree v) e u))
            | inr other ↦ omega (arith, h, other)
          ] in
          record {
            long = so_far.long;
            count = so_far.count;
            under = λ q h u. so_far.under q (low q h u) u;
            elsewhere = λ q h. so_far.elsewhere q (λ k u. h (omega (arith, k)) u);
            top = so_far.top;
            named = λ q a h u. so_far.named q a (low q h u) u;
            own = λ q h u. so_far.own q (low q h u) u;
            others = λ i h. so_far.others i (λ q k u. h q (omega (arith, k)) u);
          }

      -- else it has the first row of the group that its parent's row names
      module _ (above row : ℕ) (at_parent : get_or chosen (parent tree n) None ≡ Some above)
          (is : row ≡ slice_index (group tree n above) 0) (inside : row < rows tree n) where
        under_n : IsUnder tree v n
        under_n = under_down n after l ((chosen_under (parent tree n) above up_early up_inside at_parent).0)

        here : get_or (set chosen n (Some row)) n None ≡ Some row
        here = get_or-set_same chosen n (Some row) None
            (let few = formed.shaped.few_nodes in let c = so_far.long in omega (arith, c, few, l))

        kept : (q : ℕ) → q ≢ n → get_or (set chosen n (Some row)) q None ≡ get_or chosen q None
        kept q other = get_or-set_other chosen n q (Some row) None other

        kept_row : (q : ℕ) → q ≢ n → row_at (set chosen n (Some row)) q ≡ row_at chosen q
        kept_row q other = ap (λ o. unwrap_or o 0) (kept q other)

        item_apart : (q : ℕ) → q < n → item tree q ≢ item tree n
        item_apart q low e =
            let same = formed.shaped.items_apart q n (omega (arith, low, l)) l e in omega (arith, same, low)

        under2 : (q : ℕ) → q < n + 1 → IsUnder tree v q
            → (r : ℕ) × (get_or (set chosen n (Some row)) q None ≡ Some r) × (r < rows tree q)
        under2 q h u = elim (cases_eq q n) [
          | inl e ↦ (
            row,
            subst (λ z. get_or (set chosen n (Some row)) z None ≡ Some row) (sym e) here,
            subst
                (λ z. row < rows tree z) (sym e) inside,
          )
          | inr other ↦ let found = so_far.under q (omega (arith, h, other)) u in
              (found.0, kept q other ∙ found.1, found.2)
        ]

        named2 : (q : ℕ) → v < q → q < n + 1 → IsUnder tree v q
            → row_at (set chosen n (Some row)) q
            ≡ slice_index (group tree q (row_at (set chosen n (Some row)) (parent tree q))) 0
        named2 q a h u = elim (cases_eq q n) [
          | inl e ↦
              let at : row_at (set chosen n (Some row)) (parent tree n) ≡ above =
              kept_row (parent tree n) (λ x. omega (arith, x, up_early)) ∙ ap (λ o. unwrap_or o 0) at_parent in
              subst (λ z. row_at (set chosen n (Some row)) z
              ≡ slice_index (group tree z (row_at (set chosen n (Some row)) (parent tree z))) 0) (sym e)
              (ap (λ o. unwrap_or o 0) here ∙ is ∙ ap (λ r. slice_index (group tree n r) 0) (sym at))
          | inr other ↦
              let low : q < n = omega (arith, h, other) in
              kept_row q other ∙ so_far.named q a low u
              ∙ ap (λ r. slice_index (group tree q r) 0)
              (sym (kept_row (parent tree q) (λ x. omega (arith, x, formed.shaped.parents_first q (omega (arith, a)) u.0, low))))
        ]

        own2 : (q : ℕ) → q < n + 1 → IsUnder tree v q
            → slice_index (set numbers (item tree n) (number tree n row)) (item tree q)
            ≡ number tree q (row_at (set chosen n (Some row)) q)
        own2 q h u = elim (cases_eq q n) [
          | inl e ↦
              subst (λ z. slice_index (set numbers (item tree n) (number tree n row)) (item tree z)
              ≡ number tree z (row_at (set chosen n (Some row)) z)) (sym e)
              (get_or-set_same numbers (item tree n) (number tree n row) 0
              (let i = formed.shaped.items n l in let c = so_far.count in omega (arith, c, i))
              ∙ sym (ap (λ o. number tree n (unwrap_or o 0)) here))
          | inr other ↦
              let low : q < n = omega (arith, h, other) in
              get_or-set_other numbers (item tree n) (item tree q) (number tree n row) 0 (item_apart q low)
              ∙ so_far.own q low u ∙ ap (number tree q) (sym (kept_row q other))
        ]

        pub chosen_more : HasChosen tree v g (n + 1) (set chosen n (Some row))
            (set numbers (item tree n) (number tree n row))
        chosen_more = record {
          long = length-set chosen n (Some row) ∙ so_far.long;
          count = length-set numbers (item tree n) (number tree n row) ∙ so_far.count;
          under = under2;
          elsewhere = λ q none.
              let other : q ≢ n = λ e. none (omega (arith, e)) (subst (IsUnder tree v) (sym e) under_n) in
              kept q other ∙ so_far.elsewhere q (λ low u. none (omega (arith, low)) u);
          top = kept_row v (λ e. omega (arith, e, after)) ∙ so_far.top;
          named = named2;
          own = own2;
          others = λ i none.
              get_or-set_other numbers (item tree n) i (number tree n row) 0 (λ e. none n (omega arith) under_n (sym e))
              ∙ so_far.others i (λ q low u. none q (omega (arith, low)) u);
        }

    -- node n has a row if its parent has one
    module _ (after : v < n) (l : n < length tree) (result : Option ℕ)
        (is : result ≡ option_map (λ row. slice_index (group tree n row) 0) (get_or chosen (parent tree n) None)) where
      by_none : (o : Option ℕ) → get_or chosen (parent tree n) None ≡ o
          → result ≡ option_map (λ row. slice_index (group tree n row) 0) o → result ≡ None
          → HasChosen tree v g (n + 1) chosen numbers
      by_none None e f none = chosen_none after l e
      by_none (Some above) e f none = (let x : None ≡ Some (slice_index (group tree n above) 0) = sym none
          ∙ f in absurd (cc))

      pub next_none : result ≡ None → HasChosen tree v g (n + 1) chosen numbers
      next_none none = by_none (get_or chosen (parent tree n) None) refl is none

      by_some : (row : ℕ) (o : Option ℕ) → get_or chosen (parent tree n) None ≡ o
          → result ≡ option_map (λ r. slice_index (group tree n r) 0) o → result ≡ Some row
          → row < rows tree n → HasChosen tree v g (n + 1) (set chosen n (Some row))
          (set numbers (item tree n) (number tree n row))
      by_some row None e f some inside = (let x : Some row ≡ None = sym some ∙ f in absurd (cc))
      by_some row (Some above) e f some inside =
          let x : Some row ≡ Some (slice_index (group tree n above) 0) = sym some ∙ f in
          let same : row ≡ slice_index (group tree n above) 0 = cc in
          chosen_more after l above row e same inside

      pub next_some : (row : ℕ) → result ≡ Some row → row < rows tree n
          → HasChosen tree v g (n + 1) (set chosen n (Some row)) (set numbers (item tree n) (number tree n row))
      next_some row some inside = by_some row (get_or chosen (parent tree n) None) refl is some inside

    -- all nodes have their rows
    pub chosen_all : n ≡ length tree → IsFirst tree v g numbers
    chosen_all all =
        let low : (q : ℕ) → IsUnder tree v q → q < n = λ q u. (let l = u.0 in omega (arith, l, all)) in
        record {
          count = so_far.count;
          chosen = row_at chosen;
          top = so_far.top;
          named = λ q a u. so_far.named q a (low q u) u;
          own = λ q u. so_far.own q (low q u) u;
          others = λ i none. so_far.others i (λ q _ u. none q u);
        }
