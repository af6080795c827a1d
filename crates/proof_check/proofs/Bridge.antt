-- Ways to leave the answers, told by places, are the open choices of the certificate.
use Rattle.std.proofs.Common.{◌≡◌, ◌≢◌, ◌⊎◌, ℕ, suc, ◌-◌, ◌<◌, ◌≤◌, cond, nat_le, Some}
use Rattle.std.proofs.Common.{option_map, unwrap_or, List, length, slice_index, refl, sym, ap, subst, ◌∙◌, inl, inr, arith}
use Rattle.std.proofs.lemmas.Bool.{cases_lt, cases_eq, cases_order}
use Rattle.std.proofs.lemmas.List.{length-map}
use Rattle.anyk_model.specs.Table.{Table}
use Rattle.anyk_model.specs.Query.{Query}
use Rattle.join_tree.specs.Rerooting.{IsTree}
use Rattle.join_tree.specs.declared.tree.JoinTree.{JoinTree}
use Rattle.tdp_model.specs.KeyTuple.{KeyOf, key_add, key_none}
use Rattle.tdp_model.specs.TreeProblem.{sum_from}
use Rattle.tdp_model.proofs.Keys.{ascending_below}
use Rattle.tdp_model.proofs.Sums.{sum_same}
use Rattle.tdp_core.specs.RawView.{raw_len, raw_number, raw_rank, rows_at}
use Rattle.proof_model.specs.Certificate.{Certificate}
use Rattle.proof_model.specs.Problem.{Problem}
use Rattle.proof_model.specs.QueryProblem.{problem_in}
use Rattle.proof_model.specs.Laws.{IsProblem}
use Rattle.proof_model.specs.Valid.{Begins, IsBoundOf, OpenChoice, Serves, StandsFor, answer_row, bound_key}
use Rattle.proof_model.specs.Valid.{bound_row, choice_key}
use Rattle.proof_model.proofs.Choices.{pick_le, pick_gt}
use Rattle.proof_model.proofs.Sums.{pick_eq, pick_ne}
use Rattle.proof_check.specs.BoundedRows.{BoundedView, IsBounded, bound_ranks, named_bound, own_bound, query_key, rank_of_bound}
use Rattle.proof_check.specs.LowBounds.{AreServed, IsLow, low_key}
use Rattle.proof_check.specs.RowPlaces.{ArePlaced, place_at}
use Rattle.proof_check.proofs.LowKeys.{low_some}
use Rattle.proof_check.proofs.LowParts.{AreNamed, low_part}
use Rattle.proof_check.proofs.Nodes.{all_nodes, stored_parent}
use Rattle.proof_check.proofs.Keys.{choice_term}
use Rattle.proof_check.specs.Levels.{AreBeginnings, HasLow, IsBase, IsGroupOf, IsPairAt, IsWay, base_part, list_at}
use Rattle.proof_check.proofs.Known.{all_below, all_rows, choice_bound, choice_is, choice_row, laws, solved}

module _ {R : Type 0} (query : Query) (tables : List Table) (join : JoinTree) (d : ℕ) (key : R → KeyOf d 16)
    (c : Certificate) (tree : BoundedView R) (few : length query.order ≤ d)
    (bounded : IsBounded query tables join d key c tree) (ordered : IsTree join.count join.atom join.parent)
    (long : length join.atom ≡ 16) (places : List (List ℕ)) (placed : ArePlaced query tables join c tree.raw places)
    (p : ℕ) (node : p < (problem_in query tables join).nodes) (numbers : List ℕ) (starts : List (List ℕ))
    (pairs : List (ℕ × ℕ)) (beginnings : AreBeginnings p places numbers starts pairs) where
  abbrev pub t : Problem (KeyOf (length query.order) 16)
  t = problem_in query tables join

  abbrev pub W : KeyOf (length query.order) 16 → KeyOf d 16
  W k = query_key query d k

  pub some : 0 < t.nodes
  some = omega (arith, node)

  pub rules' : IsProblem t
  rules' = laws query tables join d key c tree few bounded ordered long some

  -- rows of one node with one number are one row
  pub one_row : (v i j : ℕ) → v < t.nodes → i < raw_len tree.raw v → j < raw_len tree.raw v
      → raw_number tree.raw v i ≡ raw_number tree.raw v j → i ≡ j
  one_row v i j l a b e =
      let size = length-map (rows_at tree.raw v) (λ x. x.row.row) in
      let up = bounded.rows.ascending v l in
      elim (cases_order i j) [
        | inl same ↦ same
        | inr (inl less) ↦
            let h = ascending_below (λ a b. a < b) _ i j 0 up less (omega (arith, size, b)) in absurd (omega (arith, h, e))
        | inr (inr more) ↦
            let h = ascending_below (λ a b. a < b) _ j i 0 up more (omega (arith, size, a)) in absurd (omega (arith, h, e))
      ]

  pub answer : (i : ℕ) → i < length places → i < length c.answers
  answer i l = let n = placed.count in omega (arith, n, l)

  -- a beginning has rows
  pub start_within : (n : ℕ) → n < length starts → (q : ℕ) → q < p → slice_index (list_at starts n) q < raw_len tree.raw q
  start_within n l q h = elim (beginnings.prefixes.begun n l) [
    | inl z ↦ absurd (omega (arith, z, h))
    | inr b ↦ subst (λ r. r < raw_len tree.raw q) (sym (b.2 q h))
        (placed.within b.0 q (answer b.0 b.1) (omega (arith, h, node)))
  ]

  -- an answer whose rows begin as a beginning has its number
  pub answer_number : (n i : ℕ) → n < length starts → i < length places
      → ((q : ℕ) → q < p → answer_row t c i q ≡ raw_number tree.raw q (slice_index (list_at starts n) q))
      → slice_index numbers i ≡ n
  answer_number n i ln li rows =
      beginnings.prefixes.apart (slice_index numbers i) n (beginnings.prefixes.within i li) ln
      (λ q h. sym (beginnings.prefixes.begins i li q h)
      ∙ one_row q (place_at places i q) (slice_index (list_at starts n) q) (omega (arith, h, node))
      (placed.within i q (answer i li) (omega (arith, h, node))) (start_within n ln q h)
      (placed.rows i q (answer i li) (omega (arith, h, node)) ∙ rows q h))

  pub numbered_row : (n i : ℕ) → i < length places → slice_index numbers i ≡ n → (q : ℕ) → q < p
      → answer_row t c i q ≡ raw_number tree.raw q (slice_index (list_at starts n) q)
  numbered_row n i li e q h =
      sym (placed.rows i q (answer i li) (omega (arith, h, node)))
      ∙ ap (raw_number tree.raw q) (beginnings.prefixes.begins i li q h
      ∙ ap (λ m. slice_index (list_at starts m) q) e)

  module _ (n i : ℕ) (k : KeyOf d 16) (way : IsWay join tree d key p starts pairs n i k) where
    abbrev pub start : List ℕ
    start = list_at starts n

    pub inside : (q : ℕ) → q < p → slice_index start q < raw_len tree.raw q
    inside = start_within n way.number

    pub low-is : IsLow query tables join d c p (raw_number tree.raw p i) (Some way.low)
    low-is = way.has_low query tables c few bounded

    abbrev pub served : ℕ → ℕ
    served = low-is.0.0

    pub serve : AreServed t c p (raw_number tree.raw p i) served
    serve = low-is.0.1

    pub parts : (q : ℕ) → q < t.nodes → base_part join tree d key p start q ≡ Some (way.is_base.0 q)
    parts q l = way.is_base.1 q (let e = all_nodes query tables join ordered long in omega (arith, e, l))

    abbrev pub rows : ℕ → ℕ
    rows = all_rows query tables join d key c tree few bounded ordered long p node start inside i way.row.0 served serve
        way.is_base.0 parts

    abbrev pub below : ℕ → ℕ
    below = all_below query tables join d key c tree few bounded ordered long p node start inside i way.row.0 served serve
        way.is_base.0 parts

    pub last_row : rows p ≡ raw_number tree.raw p i
    last_row = pick_eq p p (raw_number tree.raw p i) _ refl

    pub early_row : (q : ℕ) → q < p → rows q ≡ raw_number tree.raw q (slice_index start q)
    early_row q h = pick_ne q p (raw_number tree.raw p i) _ (λ e. omega (arith, e, h))

    pub fits : (p ≡ 0) ⊎ t.Fits p (rows (t.parent p)) (rows p)
    fits = elim way.is_group [
      | inl z ↦ inl z.0
      | inr g ↦
          let up = stored_parent query tables join p node in
          let d' : t.parent p < p = rules'.parents_first p g.0 node in
          let l : slice_index start (slice_index join.parent p) < raw_len tree.raw (t.parent p) =
          subst (λ u. slice_index start u < raw_len tree.raw (t.parent p)) up (inside (t.parent p) d') in
          let named = bounded.named_is p (slice_index start (slice_index join.parent p)) way.group g.0 node l g.1 in
          let own = bounded.own_is p i way.group node way.row.0 way.row.1 in
          let there : rows (t.parent p) ≡ raw_number tree.raw (t.parent p) (slice_index start (slice_index join.parent p)) =
          early_row (t.parent p) d' ∙ ap (λ u. raw_number tree.raw (t.parent p) (slice_index start u)) up in
          inr (subst (λ r. t.Fits p r (rows p)) (sym there) (subst (t.Fits p _) (sym last_row)
          (rules'.fits_grouped p _ (bound_row t c p (bounded.line p way.group)) (raw_number tree.raw p i) g.0 named.1.1
          (rules'.grouped_back p (raw_number tree.raw p i) (bound_row t c p (bounded.line p way.group)) own.1.1)
          (bounded.rows.is_row p i node way.row.0))))
    ]

    pub begun : (p ≡ 0) ⊎ ((j : ℕ) × Begins t c j rows p)
    begun = elim (beginnings.prefixes.begun n way.number) [
      | inl z ↦ inl z
      | inr b ↦ inr (
        b.0,
        (
          answer b.0 b.1,
          λ q h.
              sym (placed.rows b.0 q (answer b.0 b.1) (omega (arith, h, node)))
              ∙ ap (raw_number tree.raw q) (sym (b.2 q h)) ∙ sym (early_row q h),
        ),
      )
    ]

    pub unlisted : (j : ℕ) → Begins t c j rows p → answer_row t c j p ≢ rows p
    unlisted j b e =
        let l : j < length places = let x = placed.count in let y = b.0 in omega (arith, x, y) in
        let row : place_at places j p ≡ i = one_row p (place_at places j p) i node (placed.within j p b.0 node)
        way.row.0 (placed.rows j p b.0 node ∙ e ∙ last_row) in
        way.untaken ((beginnings.taken n i).1 (j, l, answer_number n j way.number l (λ q h. b.1 q h ∙ early_row q h), row))

    abbrev pub way-choice : OpenChoice t c
    way-choice = record {
      at = p;
      rows = rows;
      below = below;
      node = node;
      begun = begun;
      row = choice_row query tables join d key c tree few bounded ordered long p node start inside i way.row.0 served serve
          way.is_base.0 parts p (omega arith);
      fits = fits;
      unlisted = unlisted;
      bound = choice_bound query tables join d key c tree few bounded ordered long p node start inside i way.row.0 served
          serve way.is_base.0 parts;
    }

    pub way_key : k ≡ W (choice_key t c way-choice)
    way_key =
        way.whole ∙ ap (λ z. key_add d 16 z way.low) way.is_base.2
        ∙ ap (λ z. key_add d 16 (sum_from (key_add d 16) (key_none d 16) way.is_base.0 z 0) way.low)
        (sym (all_nodes query tables join ordered long))
        ∙ ap (λ z. key_add d 16 (sum_from (key_add d 16) (key_none d 16) way.is_base.0 t.nodes 0) z)
        (low-is.1 served serve)
        ∙ choice_is query tables join d key c tree few bounded ordered long p node start inside i way.row.0 served serve
        way.is_base.0 parts

  module _ (o : OpenChoice t c) (at : o.at ≡ p) where
    -- the number of the beginning
    pub begins : (n : ℕ) × (n < length starts)
        × ((q : ℕ) → q < p → raw_number tree.raw q (slice_index (list_at starts n) q) ≡ o.rows q)
    begins = elim o.begun [
      | inl z ↦ (0, beginnings.prefixes.first (sym at ∙ z), λ q h. absurd (omega (arith, z, at, h)))
      | inr b ↦
          let l : b.0 < length places = let x = placed.count in let y = b.1.0 in omega (arith, x, y) in (
            slice_index numbers b.0,
            beginnings.prefixes.within b.0 l,
            λ q h. sym (numbered_row (slice_index numbers b.0) b.0 l refl q h) ∙ b.1.1 q (omega (arith, at, h)),
          )
    ]

    abbrev pub n : ℕ
    n = begins.0

    pub n_within : n < length starts
    n_within = begins.1

    pub n_rows : (q : ℕ) → q < p → raw_number tree.raw q (slice_index (list_at starts n) q) ≡ o.rows q
    n_rows = begins.2

    pub its_row : t.IsRow p (o.rows p)
    its_row = subst (λ v. t.IsRow v (o.rows v)) at o.row

    pub placed_row : (i : ℕ) × (i < raw_len tree.raw p) × (raw_number tree.raw p i ≡ o.rows p)
    placed_row = bounded.rows.every_row p (o.rows p) node its_row

    abbrev pub i : ℕ
    i = placed_row.0

    pub i_within : i < raw_len tree.raw p
    i_within = placed_row.1

    pub i_row : raw_number tree.raw p i ≡ o.rows p
    i_row = placed_row.2

    pub o_bound : (q : ℕ) → p < q → q < t.nodes → t.parent q ≤ p → Serves t c q (o.rows (t.parent q)) (o.below q)
    o_bound q past l low = o.bound q (omega (arith, at, past)) l (omega (arith, at, low))

    pub o_serve : AreServed t c p (raw_number tree.raw p i) o.below
    o_serve q past l e = subst (λ r. Serves t c q r (o.below q)) (ap o.rows e ∙ sym i_row) (o_bound q past l (omega (arith, e)))

    -- # The rank of its row with the bounds that it names

    pub o_named : AreNamed d key tree t.parent p i (t.nodes - suc p)
    o_named q past h e =
        let l : q < t.nodes = omega (arith, h, node) in
        let named = bounded.named_every q i (o.below q) (omega (arith, past)) l
        (subst (λ v. i < raw_len tree.raw v) (sym e) i_within)
        (subst (λ v. Serves t c q (raw_number tree.raw v i) (o.below q)) (sym e) (o_serve q past l e)) in
        (named.0, named.1)

    abbrev pub low : KeyOf d 16
    low = low_part d key tree t.parent p i (t.nodes - suc p)

    pub has_low_lem : HasLow join tree d key p i (Some low)
    has_low_lem query' tables' c' few' bounded' =
        low_some query' tables' join d key c' tree few' bounded' p i node i_within
        (low_part d key tree t.parent p i (t.nodes - suc p)) o_named refl

    pub low_key_lem : low ≡ W (low_key t c p (raw_number tree.raw p i) o.below)
    low_key_lem = (has_low_lem query tables c few bounded).1 o.below o_serve

    -- # What is known before

    abbrev pub above' : ℕ → ℕ
    above' q = slice_index (list_at starts n) (slice_index join.parent q)

    pub above_row : (q : ℕ) → q < t.nodes → t.parent q < p
        → (above' q < raw_len tree.raw (t.parent q)) × (raw_number tree.raw (t.parent q) (above' q) ≡ o.rows (t.parent q))
    above_row q l h =
        subst (λ u. (slice_index (list_at starts n) u < raw_len tree.raw (t.parent q))
        × (raw_number tree.raw (t.parent q) (slice_index (list_at starts n) u) ≡ o.rows (t.parent q))) (stored_parent query tables join q l)
        (start_within n n_within (t.parent q) h, n_rows (t.parent q) h)

    pub o_above : (q : ℕ) → p < q → q < t.nodes → t.parent q < p → (b : ℕ) × (named_bound tree q (above' q) ≡ Some b)
    o_above q past l h =
        let row = above_row q l h in
        let named = bounded.named_every q (above' q) (o.below q) (omega (arith, past)) l row.0
        (subst (λ r. Serves t c q r (o.below q)) (sym row.1) (o_bound q past l (omega (arith, h)))) in
        (named.0, named.1)

    pub o_part : (q : ℕ) → q < t.nodes → (k : KeyOf d 16) × (base_part join tree d key p (list_at starts n) q ≡ Some k)
    o_part q l = elim (cases_lt q p) [
      | inl less ↦ (
        raw_rank tree.raw d key q (slice_index (list_at starts n) q),
        pick_le (suc q) p (Some (raw_rank tree.raw d key q (slice_index (list_at starts n) q))) _ less,
      )
      | inr more ↦
          let first = pick_gt (suc q) p (Some (raw_rank tree.raw d key q (slice_index (list_at starts n) q)))
          (cond (nat_le q p) (Some (key_none d 16)) (cond (nat_le (suc (slice_index join.parent q)) p)
          (option_map (rank_of_bound tree d key q) (named_bound tree q (above' q))) (Some (key_none d 16))))
          (omega (arith, more)) in
          elim (cases_lt p q) [
            | inr at' ↦ (key_none d 16, first ∙ pick_le q p (Some (key_none d 16)) _ at')
            | inl past ↦
                let up = stored_parent query tables join q l in
                elim (cases_lt (t.parent q) p) [
                  | inl h ↦
                      let b = o_above q past l h in (
                        rank_of_bound tree d key q b.0,
                        first ∙ pick_gt q p (Some (key_none d 16)) _ past
                            ∙ pick_le (suc (slice_index join.parent q)) p
                            (option_map (rank_of_bound tree d key q) (named_bound tree q (above' q)))
                            (Some (key_none d 16)) (omega (arith, up, h))
                            ∙ ap (option_map (rank_of_bound tree d key q)) b.1,
                      )
                  | inr high ↦ (
                    key_none d 16,
                    first ∙ pick_gt q p (Some (key_none d 16)) _ past
                        ∙ pick_gt (suc (slice_index join.parent q)) p
                        (option_map (rank_of_bound tree d key q) (named_bound tree q (above' q)))
                        (Some (key_none d 16)) (omega (arith, up, high)),
                  )
                ]
          ]
    ]

    abbrev pub f : ℕ → KeyOf d 16
    f q = unwrap_or (base_part join tree d key p (list_at starts n) q) (key_none d 16)

    pub f_part : (q : ℕ) → q < t.nodes → base_part join tree d key p (list_at starts n) q ≡ Some (f q)
    f_part q l =
        let k = o_part q l in
        k.1 ∙ sym (ap (λ z. Some (unwrap_or z (key_none d 16))) k.1)

    abbrev pub base : KeyOf d 16
    base = sum_from (key_add d 16) (key_none d 16) f t.nodes 0

    pub is_base_lem : IsBase join tree d key p (list_at starts n) (Some base)
    is_base_lem =
        let e = all_nodes query tables join ordered long in (
          f,
          λ q h. f_part q (omega (arith, e, h)),
          ap (λ z. sum_from (key_add d 16) (key_none d 16) f z 0) e,
        )

    -- # Its group

    pub stands : (j : ℕ) × (b : ℕ) × (own_bound tree p i ≡ Some b) × (bounded.line p b ≡ j)
        × IsBoundOf t c p j × t.IsGrouped p (o.rows p) (bound_row t c p j)
    stands =
        let covered = placed.covered p (o.rows p) node its_row o.below
        (subst (λ r. AreServed t c p r o.below) i_row o_serve) in
        let own = bounded.own_every p i covered.0 node i_within
        (subst (λ r. StandsFor t c p r covered.0) (sym i_row) covered.1) in
        (covered.0, own.0, own.1, own.2, covered.1.0, covered.1.1)

    abbrev pub g : ℕ
    g = stands.1

    pub in_group : own_bound tree p i ≡ Some g
    in_group = stands.2

    pub g_within : g < length (bound_ranks tree p)
    g_within = (bounded.own_is p i g node i_within in_group).0

    pub g_line : bounded.line p g ≡ stands.0
    g_line = stands.3

    pub is_group_lem : IsGroupOf join tree d key p (list_at starts n) g
    is_group_lem = elim (cases_eq p 0) [
      | inl z ↦
          let root : (v : ℕ) → v ≡ 0 → (a b : ℕ) → t.IsGrouped v a b = λ v e a b. inl e in
          let zero : 0 < length (bound_ranks tree p) = let h = g_within in omega (arith, h) in
          inl (
            z,
            elim (cases_order (bounded.line p 0) (bounded.line p g)) [
              | inl e ↦ sym (bounded.one_number p 0 g node zero g_within e)
              | inr (inl less) ↦ absurd (bounded.apart p (bounded.line p 0) (bounded.line p g) less
                  (bounded.is_bound p 0 node zero) (bounded.is_bound p g node g_within) (root p z _ _))
              | inr (inr more) ↦ absurd (bounded.apart p (bounded.line p g) (bounded.line p 0) more
                  (bounded.is_bound p g node g_within) (bounded.is_bound p 0 node zero) (root p z _ _))
            ],
          )
      | inr x ↦
          let some' : 0 < p = omega (arith, x) in
          let row = above_row p node (rules'.parents_first p some' node) in
          let j = stands.0 in
          let fit : t.Fits p (o.rows (t.parent p)) (o.rows p) = elim o.fits [
            | inl z ↦ absurd (omega (arith, z, at, x))
            | inr h ↦ subst (λ v. t.Fits v (o.rows (t.parent v)) (o.rows v)) at h
          ] in
          let serves : Serves t c p (raw_number tree.raw (t.parent p) (above' p)) j =
          subst (λ r. Serves t c p r j) (sym row.1) (
            stands.4,
            rules'.fits_grouped p (o.rows (t.parent p)) (o.rows p) (bound_row t c p j) some' fit stands.5
                (solved query tables join d key c tree few bounded ordered long p j stands.4).first,
          ) in
          let named = bounded.named_every p (above' p) j some' node row.0 serves in
          let within' = (bounded.named_is p (above' p) named.0 some' node row.0 named.1).0 in
          inr (some', named.1 ∙ ap Some (bounded.one_number p named.0 g node within' g_within (named.2 ∙ sym g_line)))
    ]

    pub untaken : ((j : ℕ) × IsPairAt pairs j (n, i)) → ⊥
    untaken h =
        let taken = (beginnings.taken n i).0 h in
        let j = taken.0 in
        o.unlisted j (
          answer j taken.1,
          λ q l. let l' : q < p = omega (arith, l, at) in numbered_row n j taken.1 taken.2 q l' ∙ n_rows q l',
        )
        (subst (λ v. answer_row t c j v ≡ o.rows v) (sym at)
        (sym (placed.rows j p (answer j taken.1) node) ∙ ap (raw_number tree.raw p) taken.3 ∙ i_row))

    pub choice_way : IsWay join tree d key p starts pairs n i (key_add d 16 base low)
    choice_way = record {
      number = n_within;
      group = g;
      within = g_within;
      is_group = is_group_lem;
      base = base;
      is_base = is_base_lem;
      row = (i_within, in_group);
      untaken = untaken;
      low = low;
      has_low = has_low_lem;
      whole = refl;
    }

    -- # Its key

    abbrev pub rows' : ℕ → ℕ
    rows' = all_rows query tables join d key c tree few bounded ordered long p node (list_at starts n)
        (start_within n n_within) i i_within o.below o_serve f f_part

    abbrev pub below' : ℕ → ℕ
    below' = all_below query tables join d key c tree few bounded ordered long p node (list_at starts n)
        (start_within n n_within) i i_within o.below o_serve f f_part

    pub all_row : (q : ℕ) → q ≤ p → rows' q ≡ o.rows q
    all_row q h = elim (cases_eq q p) [
      | inl e ↦ pick_eq q p (raw_number tree.raw p i) _ e ∙ i_row ∙ ap o.rows (sym e)
      | inr x ↦ pick_ne q p (raw_number tree.raw p i) _ x ∙ n_rows q (omega (arith, h, x))
    ]

    pub all_bound : (q : ℕ) → p < q → q < t.nodes → t.parent q ≤ p → below' q ≡ o.below q
    all_bound q past l h = elim (cases_eq (t.parent q) p) [
      | inl e ↦ pick_eq (t.parent q) p (o.below q) _ e
      | inr x ↦
          let low' : t.parent q < p = omega (arith, h, x) in
          let row = above_row q l low' in
          let named = bounded.named_every q (above' q) (o.below q) (omega (arith, past)) l row.0
          (subst (λ r. Serves t c q r (o.below q)) (sym row.1) (o_bound q past l h)) in
          pick_ne (t.parent q) p (o.below q) _ x
          ∙ ap (λ z. unwrap_or (option_map (bounded.line q) z) 0) named.1 ∙ named.2
    ]

    pub term_same : (q : ℕ) → q < t.nodes → choice_term t c p rows' below' q ≡ choice_term t c o.at o.rows o.below q
    term_same q l = elim (cases_lt p q) [
      | inr early ↦
          pick_le q p (t.key q (rows' q)) _ early ∙ ap (t.key q) (all_row q early)
          ∙ sym (pick_le q o.at (t.key q (o.rows q)) _ (omega (arith, early, at)))
      | inl past ↦
          pick_gt q p (t.key q (rows' q)) _ past
          ∙ elim (cases_lt p (t.parent q)) [
            | inr h ↦
                pick_le (t.parent q) p (bound_key t c q (below' q)) t.none h
                ∙ ap (bound_key t c q) (all_bound q past l h)
                ∙ sym (pick_le (t.parent q) o.at (bound_key t c q (o.below q)) t.none (omega (arith, h, at)))
            | inl h ↦
                pick_gt (t.parent q) p (bound_key t c q (below' q)) t.none h
                ∙ sym (pick_gt (t.parent q) o.at (bound_key t c q (o.below q)) t.none (omega (arith, h, at)))
          ]
          ∙ sym (pick_gt q o.at (t.key q (o.rows q)) _ (omega (arith, past, at)))
    ]

    pub choice_value : key_add d 16 base low ≡ W (choice_key t c o)
    choice_value =
        ap (λ z. key_add d 16 base z) low_key_lem
        ∙ choice_is query tables join d key c tree few bounded ordered long p node (list_at starts n)
        (start_within n n_within) i i_within o.below o_serve f f_part
        ∙ ap W (sum_same t.Below t.add t.none rules'.keys (choice_term t c p rows' below')
        (choice_term t c o.at o.rows o.below) t.nodes 0 (λ q _ l. term_same q (omega (arith, l))))
