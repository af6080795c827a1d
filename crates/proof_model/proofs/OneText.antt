-- The text that is written for a query is one text.
use Rattle.std.proofs.Common.{◌≡◌, ◌⊎◌, ℕ, ◌<◌, ◌++◌, pos, List, [], ◌∷◌, map, length, Result, Ok}
use Rattle.std.proofs.Common.{sym, ap, ◌∙◌, subst, inl, inr, arith}
use Rattle.std.specs.List.{flat_map}
use Rattle.std.proofs.lemmas.List.Folds.{flat_map-map}
use Rattle.rankings.specs.Order.{BelowAll, IsAscending, IsMember}
use Rattle.rankings.proofs.Unique.{ascending_unique_lem}
use Rattle.tdp_model.specs.KeyTuple.{slot_of}
use Rattle.tdp_model.specs.Remains.{AtMost}
use Rattle.tdp_model.specs.TreeProblem.{IsTieFree}
use Rattle.anyk_model.specs.Table.{Table}
use Rattle.anyk_model.specs.Query.{Query}
use Rattle.anyk_model.specs.Output.{cut}
use Rattle.anyk_model.specs.Ranking.{IsBefore, ranking_of}
use Rattle.anyk_model.specs.ListOrder.{before_asym}
use Rattle.bound_query.specs.Shape.{Flaw, IsShape, Shape}
use Rattle.bound_query.proofs.OneShape.{one_shape}
use Rattle.proof_model.specs.Certificate.{AnswerLine, BoundLine, Certificate}
use Rattle.proof_model.specs.Writing.{answer_text, bound_text, header_text, last_text, proof_text}
use Rattle.proof_model.specs.Problem.{Problem, key_at, row_in}
use Rattle.proof_model.specs.ProofTexts.{IsProofText}
use Rattle.proof_model.specs.QueryProblem.{problem_of}
use Rattle.proof_model.specs.Valid.{bound_at}
use Rattle.proof_model.specs.WrittenProofs.{BoundBefore, IsFirstOfGroup, IsWritten}
use Rattle.proof_model.specs.Laws.{IsProblem}
use Rattle.proof_model.proofs.MapPlaces.{member_at, place_of}
use Rattle.proof_model.proofs.QueryItems.{keys_hold, node_items, tree_problem}
use Rattle.proof_model.proofs.SolutionRows.{HasItems, keys_tell}

-- ---- a bound without its line

abbrev Named : Type 0
Named = ℕ × List ℕ

abbrev named : BoundLine → Named
named b = (b.node, b.rows)

abbrev NamedBefore : Named → Named → Type 0
NamedBefore a b = (a.0 < b.0) ⊎ ((a.0 ≡ b.0) × IsBefore (map pos a.1) (map pos b.1))

named_asym : (a b : Named) → NamedBefore a b → NamedBefore b a → ⊥
named_asym a b (inl p) (inl q) = omega (arith, p, q)
named_asym a b (inl p) (inr q) = let e = q.0 in omega (arith, p, e)
named_asym a b (inr p) (inl q) = let e = p.0 in omega (arith, e, q)
named_asym a b (inr p) (inr q) = before_asym (map pos a.1) (map pos b.1) p.1 q.1

below_named : (b : BoundLine) (list : List BoundLine) → BelowAll BoundBefore b list
    → BelowAll NamedBefore (named b) (map named list)
below_named b [] h = tt
below_named b (x ∷ list) h = (h.0, below_named b list h.1)

ascending_named : (list : List BoundLine) → IsAscending BoundBefore list → IsAscending NamedBefore (map named list)
ascending_named [] h = tt
ascending_named (b ∷ list) h = (below_named b list h.0, ascending_named list h.1)

-- ---- the bounds

module _ {K : Type 0} (t : Problem K) (laws : IsProblem t) (most : ℕ) (items : HasItems t most) (slot : ℕ → K → ℕ)
    (free : IsTieFree K t.add t.none t.nodes t.key (λ q r. []) t.item (λ v r. r) slot) where
  both_most : (a b : K) → AtMost t.Below a b → AtMost t.Below b a → a ≡ b
  both_most a b (inl p) (inl q) = absurd (laws.keys.order.irreflexive a (laws.keys.order.transitive a b a p q))
  both_most a b (inl p) (inr q) = sym q
  both_most a b (inr p) q = p

  -- two firsts of one group are the same rows
  pub firsts_same : (c d : Certificate) (v : ℕ) (a b : List ℕ) → IsFirstOfGroup t c v a → IsFirstOfGroup t d v b
      → t.IsGrouped v (row_in t v a v) (row_in t v b v) → a ≡ b
  firsts_same c d v a b x y g =
      keys_tell t laws most items slot free v a b x.solution.count y.solution.count
      (both_most (key_at t v a) (key_at t v b) (x.least b y.solution (laws.grouped_back v _ _ g))
      (y.least a x.solution g))

  -- each bound of one certificate is a bound of the other
  goes : (c d : Certificate) (xs ys : List (List ℕ)) → IsWritten t c xs → IsWritten t d ys
      → (z : Named) → IsMember z (map named c.bounds) → IsMember z (map named d.bounds)
  goes c d xs ys w u z m =
      let none : BoundLine = record { line = 0; node = 0; rows = [] } in
      let at = place_of named none c.bounds z m in
      let first = w.firsts at.0 at.1 in
      let other = u.each first.0 (bound_at t c at.0).rows first.2.solution in
      let there = u.firsts other.0 other.1.0.0 in
      let node : there.0 ≡ first.0 = omega (arith, sym there.1 ∙ other.1.0.1) in
      let rows : (bound_at t c at.0).rows ≡ (bound_at t d other.0).rows =
      firsts_same c d first.0 (bound_at t c at.0).rows (bound_at t d other.0).rows first.2
      (subst (λ n. IsFirstOfGroup t d n (bound_at t d other.0).rows) node there.2) other.1.1 in
      let same : named (bound_at t d other.0) ≡ z =
      (λ i. ((other.1.0.1 ∙ sym first.1) i, sym rows i)) ∙ sym at.2 in
      subst (λ n. IsMember n (map named d.bounds)) same (member_at named none d.bounds other.0 other.1.0.0)

  pub bounds_same : (c d : Certificate) (xs ys : List (List ℕ)) → IsWritten t c xs → IsWritten t d ys
      → map named c.bounds ≡ map named d.bounds
  bounds_same c d xs ys w u =
      ascending_unique_lem NamedBefore named_asym (map named c.bounds) (map named d.bounds)
      (ascending_named c.bounds w.ordered) (ascending_named d.bounds u.ordered)
      (goes c d xs ys w u) (goes d c ys xs u w)

-- ---- the text

abbrev named_text : Named → List ℕ
named_text b = bound_text b.0 b.1

bounds_text : (xs ys : List BoundLine) → map named xs ≡ map named ys
    → flat_map (λ (b : BoundLine). bound_text b.node b.rows) xs
    ≡ flat_map (λ (b : BoundLine). bound_text b.node b.rows) ys
bounds_text xs ys e = sym (flat_map-map named_text named xs) ∙ ap (flat_map named_text) e
    ∙ flat_map-map named_text named ys

answers_text : (xs ys : List AnswerLine) → map (λ (a : AnswerLine). a.rows) xs ≡ map (λ (a : AnswerLine). a.rows) ys
    → flat_map (λ (a : AnswerLine). answer_text a.rows) xs ≡ flat_map (λ (a : AnswerLine). answer_text a.rows) ys
answers_text xs ys e =
    sym (flat_map-map answer_text (λ (a : AnswerLine). a.rows) xs) ∙ ap (flat_map answer_text) e
    ∙ flat_map-map answer_text (λ (a : AnswerLine). a.rows) ys

texts_same : (c d : Certificate) → map named c.bounds ≡ map named d.bounds
    → map (λ (a : AnswerLine). a.rows) c.answers ≡ map (λ (a : AnswerLine). a.rows) d.answers → c.ended ≡ d.ended
    → proof_text c ≡ proof_text d
texts_same c d bounds answers ended =
    let a = answers_text c.answers d.answers answers in
    λ i. header_text ++ ((bounds_text c.bounds d.bounds bounds) i ++ (a i ++ last_text (ended i)))

module _ (query : Query) (tables : List Table) where
  abbrev Found : Shape → Certificate → Type 0
  Found shape c =
      IsWritten (problem_of query tables shape.atoms shape.parents) c (cut query.limit (ranking_of query tables))

  found_same : (s : Shape) (c d : Certificate) → IsShape query tables (Ok s) → Found s c → Found s d
      → map named c.bounds ≡ map named d.bounds
  found_same s c d is w u =
      let hung = is.0.hung in
      bounds_same (problem_of query tables s.atoms s.parents) (tree_problem query tables s.atoms s.parents hung)
      (length query.items)
      (node_items query tables s.atoms s.parents hung) (slot_of (length query.order) 16)
      (keys_hold query tables s.atoms s.parents hung)
      c d _ _ w u

  pub one_text_lem : (a b : List ℕ) → IsProofText query tables a → IsProofText query tables b → a ≡ b
  one_text_lem a b x y =
      let shapes : x.0 ≡ y.0 = same_shape (one_shape query tables (Ok x.0) (Ok y.0) x.1 y.1) in
      let other : Found x.0 y.2 = subst (λ s. Found s y.2) (sym shapes) y.3 in
      x.5 ∙ texts_same x.2 y.2 (found_same x.0 x.2 y.2 x.1 x.3 other) (x.3.answers ∙ sym y.3.answers) (x.4 ∙ sym y.4)
      ∙ sym y.5
    where
      same_shape : {s u : Shape} → ◌≡◌ {A = Result Shape Flaw} (Ok s) (Ok u) → s ≡ u
      same_shape e = cc
