-- Placed rows are subtree solutions of a query's problem, and those alone.
use Rattle.std.proofs.Common.{◌≡◌, ℕ, zero, suc, ◌+◌, ◌*◌, ◌<◌, ◌≤◌, cond, nat_eq, nat_lt, List, length, get_or}
use Rattle.std.proofs.Common.{refl, sym, ap, subst, ◌∙◌, inl, inr, arith}
use Rattle.std.proofs.lemmas.Bool.{cases_eq}
use Rattle.anyk_model.specs.Table.{Table}
use Rattle.anyk_model.specs.Query.{Query}
use Rattle.join_tree.specs.declared.tree.JoinTree.{JoinTree}
use Rattle.tdp_model.specs.Below.{ascends, is_below}
use Rattle.tdp_model.specs.KeyTuple.{KeyOf}
use Rattle.tdp_model.specs.TreeProblem.{sum_from}
use Rattle.tdp_core.specs.RawView.{AreShapes, RawView, child_link, own_link, raw_len, raw_number}
use Rattle.tdp_core.specs.RawView.{shape_child_place, shape_item, shape_parent}
use Rattle.bound_query.proofs.NodeSums.{sum_same}
use Rattle.proof_model.specs.Problem.{IsSolutionAt, Problem, place_in, row_in, size}
use Rattle.proof_model.specs.QueryProblem.{problem_in}
use Rattle.proof_check.specs.BoundedRows.{HasProblemRows}
use Rattle.proof_check.specs.Places.{ArePlacesOf}
use Rattle.proof_check.specs.Subtrees.{ArePlacedBefore, HasLinkOf, raw_below, raw_place, raw_size}
use Rattle.proof_check.proofs.Subtrees.{before, below_after, below_self, below_up, parent_low}

-- subtrees are the same if parents are
module _ (m : ℕ) (f g : ℕ → ℕ) (low : (q : ℕ) → q < m → f q ≤ q) (agree : (q : ℕ) → q < m → f q ≡ g q) where
  pub ascends_same : (n v q : ℕ) → q < m → ascends f n v q ≡ ascends g n v q
  unfolding ascends
  ascends_same zero v q l = refl
  ascends_same (suc n) v q l =
      ap (λ w. cond (nat_eq q v) 1 (cond (nat_eq q 0) 0 w))
      (ascends_same n v (f q) (let h = low q l in omega (arith, h)) ∙ ap (ascends g n v) (agree q l))

module _ (query : Query) (tables : List Table) (join : JoinTree) {R : Type 0} (d : ℕ) (key : R → KeyOf d 16) (raw : RawView R)
    (shaped : AreShapes raw.shapes) (has : HasProblemRows query tables join d key raw) where
  abbrev pub t : Problem (KeyOf (length query.order) 16)
  t = problem_in query tables join

  abbrev m : ℕ
  m = length raw.shapes

  pub in_nodes : (q : ℕ) → q < m → q < t.nodes
  in_nodes q l = let n = has.nodes in omega (arith, n)

  pub from_nodes : (q : ℕ) → q < t.nodes → q < m
  from_nodes q l = let n = has.nodes in omega (arith, n)

  pub below_same : (v q : ℕ) → q < m → raw_below raw v q ≡ is_below t.parent v q
  below_same v q l = ascends_same m (shape_parent raw.shapes) t.parent (parent_low raw shaped) (λ u h. has.parents u (in_nodes u h)) q v q l

  pub place_same : (v q : ℕ) → q < m → raw_place raw v q ≡ place_in t v q
  place_same v q l =
      sum_same (before raw shaped v q) (λ u. is_below t.parent v u * cond (nat_lt (t.item u) (t.item q)) 1 0) m 0
      (λ u a b.
      let h : u < m = omega (arith, b) in
      ap (λ b. b * cond (nat_lt (shape_item raw.shapes u) (shape_item raw.shapes q)) 1 0) (below_same v u h)
      ∙ ap (λ x. is_below t.parent v u * cond (nat_lt x (shape_item raw.shapes q)) 1 0) (has.items u (in_nodes u h))
      ∙ ap (λ x. is_below t.parent v u * cond (nat_lt (t.item u) x) 1 0) (has.items q (in_nodes q l)))
      ∙ ap (λ n. sum_from ◌+◌ 0 (λ u. is_below t.parent v u * cond (nat_lt (t.item u) (t.item q)) 1 0) n 0) has.nodes

  pub size_same : (v : ℕ) → raw_size raw v ≡ size t v
  size_same v =
      sum_same (raw_below raw v) (is_below t.parent v) m 0 (λ u a b. below_same v u (omega (arith, b)))
      ∙ ap (λ n. sum_from ◌+◌ 0 (is_below t.parent v) n 0) has.nodes

  pub row_same : (v : ℕ) (rows : List ℕ) (q : ℕ) → q < m → get_or rows (raw_place raw v q) 0 ≡ row_in t v rows q
  row_same v rows q l = ap (λ i. get_or rows i 0) (place_same v q l)

  module _ (v : ℕ) (rows : List ℕ) (s : IsSolutionAt t v rows) where
    pub size_of : length rows ≡ raw_size raw v
    size_of = s.count ∙ sym (size_same v)

    has_row : (q : ℕ) → q < m → 0 < raw_below raw v q → t.IsRow q (row_in t v rows q)
    has_row q l some = elim (cases_eq q v) [
      | inl e ↦ subst (λ k. t.IsRow k (row_in t v rows k)) (sym e) s.first
      | inr e ↦
          (s.others q (let a = below_after raw shaped v q l some in omega (arith, a, e)) (in_nodes q l)
          (let b = below_same v q l in omega (arith, b, some))).0
    ]

    -- each of its rows has a place
    pub found : (q : ℕ) → q < m → 0 < raw_below raw v q
        → (i : ℕ) × (i < raw_len raw q) × (raw_number raw q i ≡ get_or rows (raw_place raw v q) 0)
    found q l some =
        let e = has.every_row q (row_in t v rows q) (in_nodes q l) (has_row q l some) in
        (e.0, e.1, e.2 ∙ sym (row_same v rows q l))

    -- and each of its rows has the link that the row above it names
    pub must_link : (q r i : ℕ) → v < q → q < m → 0 < raw_below raw v q → r < raw_len raw (shape_parent raw.shapes q)
        → raw_number raw (shape_parent raw.shapes q) r ≡ get_or rows (raw_place raw v (shape_parent raw.shapes q)) 0
        → i < raw_len raw q → raw_number raw q i ≡ get_or rows (raw_place raw v q) 0 → HasLinkOf raw q r i
    must_link q r i far l some rl rn il ic = along rl rn
      where
        lower : t.parent q < m
        lower = let p = has.parents q (in_nodes q l) in let h = parent_low raw shaped q l in omega (arith, p, h)

        fits : t.Fits q (row_in t v rows (t.parent q)) (row_in t v rows q)
        fits = s.others q far (in_nodes q l) (let b = below_same v q l in omega (arith, b, some))

        at : r < raw_len raw (t.parent q) → raw_number raw (t.parent q) r ≡ get_or rows (raw_place raw v (t.parent q)) 0
            → own_link raw q i ≡ child_link raw (t.parent q) r (shape_child_place raw.shapes q)
        at rl rn =
            (has.fits q r i (omega arith) (in_nodes q l) rl il).1
            (subst (λ a. t.Fits q a (raw_number raw q i)) (sym (rn ∙ row_same v rows (t.parent q) lower))
            (subst (λ b. t.Fits q (row_in t v rows (t.parent q)) b) (sym (ic ∙ row_same v rows q l)) fits))

        along : r < raw_len raw (shape_parent raw.shapes q)
            → raw_number raw (shape_parent raw.shapes q) r ≡ get_or rows (raw_place raw v (shape_parent raw.shapes q)) 0
            → HasLinkOf raw q r i
        along = subst (λ p. r < raw_len raw p → raw_number raw p r ≡ get_or rows (raw_place raw v p) 0
            → own_link raw q i ≡ child_link raw p r (shape_child_place raw.shapes q)) (sym (has.parents q (in_nodes q l))) at

  module _ (v : ℕ) (rows places : List ℕ) (inside : v < m) (count : length rows ≡ raw_size raw v) (p : ArePlacedBefore raw v rows places m) where
    number_is : (q : ℕ) → q < m → 0 < raw_below raw v q → raw_number raw q (get_or places q 0) ≡ row_in t v rows q
    number_is q l some = p.numbers q l some ∙ row_same v rows q l

    raw_some : (q : ℕ) → q < m → 0 < is_below t.parent v q → 0 < raw_below raw v q
    raw_some q l some = let b = below_same v q l in omega (arith, b, some)

    solved : (q : ℕ) → v < q → q < m → 0 < raw_below raw v q → t.Fits q (row_in t v rows (t.parent q)) (row_in t v rows q)
    solved q far l some =
        let same = has.parents q (in_nodes q l) in
        let lower : t.parent q < m = omega (arith, same, parent_low raw shaped q l) in
        let up : 0 < raw_below raw v (t.parent q) =
        subst (λ k. 0 < raw_below raw v k) same (below_up raw shaped v q far l some) in
        let link : own_link raw q (get_or places q 0)
        ≡ child_link raw (t.parent q) (get_or places (t.parent q) 0) (shape_child_place raw.shapes q) =
        subst (λ k. own_link raw q (get_or places q 0) ≡ child_link raw k (get_or places k 0) (shape_child_place raw.shapes q)) same
        (p.linked q far l some) in
        let fit = (has.fits q (get_or places (t.parent q) 0) (get_or places q 0) (omega arith) (in_nodes q l)
        (p.within (t.parent q) lower up) (p.within q l some)).0 link in
        subst (λ a. t.Fits q a (row_in t v rows q)) (number_is (t.parent q) lower up)
        (subst (λ b. t.Fits q (raw_number raw (t.parent q) (get_or places (t.parent q) 0)) b) (number_is q l some) fit)

    pub whole : ArePlacesOf query tables join raw v rows places
    whole =
        let self : 0 < raw_below raw v v = omega (arith, below_self raw shaped v) in
        record {
          solution = record {
            node = in_nodes v inside;
            count = count ∙ size_same v;
            first = subst (λ r. t.IsRow v r) (number_is v inside self)
                (has.is_row v (get_or places v 0) (in_nodes v inside) (p.within v inside self));
            others = λ q far l some. solved q far (from_nodes q l) (raw_some q (from_nodes q l) some);
          };
          within = λ q l some. p.within q (from_nodes q l) (raw_some q (from_nodes q l) some);
          numbers = λ q l some. number_is q (from_nodes q l) (raw_some q (from_nodes q l) some);
          outside = λ q h. p.outside q (λ l. below_same v q l ∙ h (in_nodes q l));
        }
