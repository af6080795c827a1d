-- The steps of the calls that give members, one after another.
use Rattle.std.proofs.Common.{◌≡◌, ◌≢◌, ◌≤◌, ◌<◌, ◌+◌, ◌==◌, ◌∷◌, ◌++◌, [], ℕ, zero, suc, Bool, true, false, List, filter, length, refl, sym, ap, subst, ◌∙◌, arith, ◌⊎◌, inl, inr}
use Rattle.std.proofs.lemmas.Bool.{cases_eq, cases_lt, eq-eqb}
use Rattle.std.proofs.lemmas.List.{get_or_past, length-append}
use Rattle.std.proofs.lemmas.List.Elements.{filter-append}
use Rattle.tdp_core.specs.AnswerView.{counted}
use Rattle.bound_query.specs.Steps.{steps_for}
use Rattle.bound_query.proofs.Pacing.{steps_more, steps_next}
use Rattle.anyk_model.specs.TaggedRows.{Tagged}
use Rattle.anyk_model.specs.Union.{members_in}
use Rattle.union_all.specs.Merge.{EngineView, IsCalled, MergeView, engine_at}
use Rattle.command_output.specs.UnionSteps.{steps_from, union_steps}

-- ---- members of a branch

members_append : (b : ℕ) (xs ys : List Tagged) → members_in b (xs ++ ys) ≡ members_in b xs + members_in b ys
members_append b xs ys =
    let of_b : Tagged → Bool = λ m. m.branch == b in
    ap length (filter-append of_b xs ys) ∙ length-append (filter of_b xs) (filter of_b ys)

one_of : (b : ℕ) (m : Tagged) → m.branch ≡ b → members_in b (m ∷ []) ≡ 1
one_of b m e = by (m.branch == b) (eq-eqb m.branch b e)
  where
    by : (t : Bool) → t ≡ true → length (filter (λ (x : Tagged). t) (m ∷ [])) ≡ 1
    by true h = refl
    by false h = cc

-- ---- steps of the calls

module _ (share : List ℕ → ℕ → ℕ) (rises : (s : List ℕ) (c d : ℕ) → c ≤ d → share s c ≤ share s d) where
  rises_at : (e : EngineView) (c d : ℕ) → c ≤ d → share e.size (e.calls + c) ≤ share e.size (e.calls + d)
  rises_at e c d h = rises e.size (e.calls + c) (e.calls + d) (omega (arith, h))

  -- members that are added add steps
  pub steps_rise : (xs ys : List Tagged) (b : ℕ) (engines : List EngineView)
      → steps_from share xs b engines ≤ steps_from share (xs ++ ys) b engines
  steps_rise xs ys b [] = omega arith
  steps_rise xs ys b (e ∷ engines) =
      let here = steps_more (λ n. share e.size (e.calls + n)) (rises_at e) (members_in b xs) (members_in b (xs ++ ys))
      (omega (arith, members_append b xs ys)) in
      omega (arith, here, steps_rise xs ys (b + 1) engines)

  -- one call more of one engine
  steps_one : (e : EngineView) (i : ℕ) → steps_for (λ n. share e.size (e.calls + n)) i + share e.size (e.calls + i)
      ≤ steps_for (λ n. share e.size (e.calls + n)) (i + 1)
  steps_one e i =
      let all = steps_next (λ n. share e.size (e.calls + n)) (rises_at e) i 0
      (steps_for (λ n. share e.size (e.calls + n)) i)
      (steps_for (λ n. share e.size (e.calls + n)) i + share e.size (e.calls + i)) (omega arith) (omega arith) in
      omega (arith, all)

  -- one member more of branch b + j
  pub steps_add : (xs : List Tagged) (m : Tagged) (b j : ℕ) (engines : List EngineView) → m.branch ≡ b + j
      → j < length engines
      → steps_from share xs b engines + share (engine_at engines j).size
      ((engine_at engines j).calls + members_in m.branch xs)
      ≤ steps_from share (xs ++ m ∷ []) b engines
  steps_add xs m b j [] is inside = absurd (omega (arith, inside))
  steps_add xs m b zero (e ∷ engines) is inside =
      let same : m.branch ≡ b = omega (arith, is) in
      let one : members_in b (xs ++ m ∷ []) ≡ members_in b xs + 1 =
      members_append b xs (m ∷ []) ∙ ap (λ n. members_in b xs + n) (one_of b m same) in
      let here = subst (λ n. steps_for (λ k. share e.size (e.calls + k)) (members_in b xs) + share e.size
      (e.calls + members_in b xs)
      ≤ steps_for (λ k. share e.size (e.calls + k)) n) (sym one) (steps_one e (members_in b xs)) in
      let call : share e.size (e.calls + members_in m.branch xs) ≡ share e.size (e.calls + members_in b xs) =
      ap (λ n. share e.size (e.calls + members_in n xs)) same in
      omega (arith, here, steps_rise xs (m ∷ []) (b + 1) engines, call)
  steps_add xs m b (suc j) (e ∷ engines) is inside =
      let here = steps_more (λ n. share e.size (e.calls + n)) (rises_at e) (members_in b xs)
      (members_in b (xs ++ m ∷ [])) (omega (arith, members_append b xs (m ∷ []))) in
      omega (arith, here, steps_add xs m (b + 1) j engines (omega (arith, is)) (omega (arith, inside)))

-- ---- engines that gave members

-- these members were given, and each branch's engine was called for its own ones and for no others
pub record AreCalled (share : List ℕ → ℕ → ℕ) (old new : List EngineView) (given : List Tagged) (before now : ℕ) :
    Type 0 where
  pub count : length new ≡ length old
  pub size : (b : ℕ) → (engine_at new b).size ≡ (engine_at old b).size
  pub few : (b : ℕ) → (engine_at new b).calls ≤ (engine_at old b).calls + members_in b given
  pub spent : now ≤ before + union_steps share old given

-- none was given yet
pub none_called : (share : List ℕ → ℕ → ℕ) (engines : List EngineView) (steps : ℕ)
    → AreCalled share engines engines [] steps steps
none_called share engines steps = record {
  count = refl;
  size = λ b. refl;
  few = λ b. omega arith;
  spent = omega arith;
}

-- a call counts only at an engine that is there
called_inside : (share : List ℕ → ℕ → ℕ) (old new : MergeView) (b before now : ℕ) → IsCalled share old new b before now
    → b < length old.engines
called_inside share old new b before now h = elim (cases_lt b (length old.engines))
    [ inl inside ↦ inside | inr past ↦ absurd (none past) ]
  where
    none : length old.engines ≤ b → ⊥
    none past =
        let none_there : EngineView = record { calls = 0; due = 0; size = [] } in
        let first = ap (λ (e : EngineView). e.calls) (get_or_past old.engines b none_there past) in
        let later = ap (λ (e : EngineView). e.calls) (get_or_past new.engines b none_there
        (let count = h.count in omega (arith, count, past))) in
        omega (arith, first, later, h.called.calls)

module _ (share : List ℕ → ℕ → ℕ) (rises : (s : List ℕ) (c d : ℕ) → c ≤ d → share s c ≤ share s d) where
  -- one member more
  pub called_more : (first : List EngineView) (old new : MergeView) (given : List Tagged) (m : Tagged)
      (before now later : ℕ)
      → AreCalled share first old.engines given before now → IsCalled share old new m.branch now later
      → AreCalled share first new.engines (given ++ m ∷ []) before later
  called_more first old new given m before now later h one = record {
    count = one.count ∙ h.count;
    size = λ b. by_size b (cases_eq b m.branch);
    few = λ b. by_few b (cases_eq b m.branch);
    spent =
        let there = called_inside share old new m.branch now later one in
        let inside : m.branch < length first = omega (arith, there, h.count) in
        let own = engine_at first m.branch in
        let now_own = engine_at old.engines m.branch in
        let at_most : share now_own.size now_own.calls ≤ share own.size (own.calls + members_in m.branch given) =
        subst (λ (s : List ℕ). share s now_own.calls ≤ share own.size (own.calls + members_in m.branch given))
        (sym (h.size m.branch))
        (rises own.size now_own.calls (own.calls + members_in m.branch given) (h.few m.branch)) in
        omega (arith, h.spent, one.share, at_most, steps_add share rises given m 0 m.branch first (omega arith) inside);
  }
    where
      by_size : (b : ℕ) → (b ≡ m.branch) ⊎ (b ≢ m.branch)
          → (engine_at new.engines b).size ≡ (engine_at first b).size
      by_size b (inl same) = subst (λ n. (engine_at new.engines n).size ≡ (engine_at first n).size) (sym same)
          (one.called.size ∙ h.size m.branch)
      by_size b (inr other) = ap (λ (e : EngineView). e.size) (one.others b other) ∙ h.size b

      by_few : (b : ℕ) → (b ≡ m.branch) ⊎ (b ≢ m.branch)
          → (engine_at new.engines b).calls ≤ (engine_at first b).calls + members_in b (given ++ m ∷ [])
      by_few b (inl same) =
          let here : (engine_at new.engines m.branch).calls ≤ (engine_at first m.branch).calls + members_in m.branch
          (given ++ m ∷ []) =
          let counts : (engine_at new.engines m.branch).calls ≡ counted (engine_at old.engines m.branch).calls =
          one.called.calls in
          omega (arith, counts, h.few m.branch, members_append m.branch given (m ∷ []), one_of m.branch m refl) in
          subst (λ n. (engine_at new.engines n).calls ≤ (engine_at first n).calls + members_in n (given ++ m ∷ []))
          (sym same) here
      by_few b (inr other) =
          omega (arith, ap (λ (e : EngineView). e.calls) (one.others b other), h.few b, members_append b given (m ∷ []))
