-- Branches that are begun one after another.
use Rattle.std.proofs.Common.{◌≡◌, ◌<◌, ◌≤◌, ◌+◌, ◌∙◌, ℕ, None, List, [], ◌∷◌, ◌++◌, map, length, take, get_or, refl, sym, ap, subst, append-nil, arith, length-append, length-take-le}
use Rattle.std.specs.List.{All, sum_by}
use Rattle.std.proofs.lemmas.List.{get_or-map, length-map, map-append, take_all, take_more}
use Rattle.std.proofs.lemmas.List.Elements.{All-from_get_or, All-get_or}
use Rattle.std.proofs.lemmas.List.Sums.{sum_by-append, sum_by-cons, sum_by_push}
use Rattle.anyk_model.specs.Table.{Table}
use Rattle.anyk_model.specs.Query.{Query}
use Rattle.bound_query.specs.WeighedQuery.{BoundQuery, Fits}
use Rattle.tdp_core.specs.AnswerView.{AnswerView}
use Rattle.witness_key.specs.WitnessKey.{combinations_in}
use Rattle.union_all.specs.Merge.{AreBegun, AreBranches, AreLeft, BranchView, EngineView, HasCalled, HasGrown, HaveBegun, engines_of, rests_of}

abbrev pub queries_bound : List BoundQuery → List Query
queries_bound bounds = map (λ (q : BoundQuery). q.query) bounds

called_more : (olds news : List EngineView) (old new : EngineView) → AreBegun olds news → HasCalled old new → AreBegun (olds ++ old ∷ []) (news ++ new ∷ [])
called_more [] [] old new all one = (one, tt)
called_more [] (n ∷ news) old new all one = absurd all
called_more (o ∷ olds) [] old new all one = absurd all
called_more (o ∷ olds) (n ∷ news) old new all one = (all.0, called_more olds news old new all.1 one)

module _ {E : Type 0} (rest : E → List AnswerView) (seen : E → EngineView) (due : E → ℕ) where
  rests_more : (queries : List Query) (engines : List E) (query : Query) (engine : E) → length queries ≡ length engines
      → rests_of rest (queries ++ query ∷ []) (engines ++ engine ∷ []) ≡ rests_of rest queries engines ++ combinations_in query (rest engine) ∷ []
  rests_more [] [] query engine same = refl
  rests_more [] (e ∷ engines) query engine same = absurd (omega (arith, same))
  rests_more (q ∷ queries) [] query engine same = absurd (omega (arith, same))
  rests_more (q ∷ queries) (e ∷ engines) query engine same =
      ap (λ (l : List (List (List ℕ))). combinations_in q (rest e) ∷ l) (rests_more queries engines query engine (omega (arith, same)))

  -- the branches of the engines so far, of all queries
  pub record HasBegun (bounds : List BoundQuery) (engines : List E) (branches : List BranchView) (before now : ℕ) : Type 0 where
    pub within : length engines ≤ length bounds
    pub begun : HaveBegun rest seen (take (length engines) bounds) engines branches
    pub cost : now ≤ before + sum_by due engines

  pub none_begun : (bounds : List BoundQuery) (before : ℕ) → HasBegun bounds [] [] before before
  none_begun bounds before = record { within = omega arith; begun = record { bounds = refl; lists = refl; called = tt }; cost = omega arith }

  begun_one : (bounds : List BoundQuery) (engines : List E) (branches : List BranchView) (q : BoundQuery) (engine : E) (branch : BranchView)
      → length bounds ≡ length engines → HaveBegun rest seen bounds engines branches → branch.bound ≡ q → branch.left ≡ combinations_in q.query (rest engine)
      → HasCalled (seen engine) branch.engine → HaveBegun rest seen (bounds ++ q ∷ []) (engines ++ engine ∷ []) (branches ++ branch ∷ [])
  begun_one bounds engines branches q engine branch same was bound left called = record {
    bounds = map-append (λ (b : BranchView). b.bound) branches (branch ∷ []) ∙ (λ i. was.bounds i ++ bound i ∷ []);
    lists = map-append (λ (b : BranchView). b.left) branches (branch ∷ [])
        ∙ (λ i. was.lists i ++ left i ∷ [])
        ∙ sym (rests_more (queries_bound bounds) engines q.query engine (length-map bounds (λ (x : BoundQuery). x.query) ∙ same))
        ∙ ap (λ (l : List Query). rests_of rest l (engines ++ engine ∷ [])) (sym (map-append (λ (x : BoundQuery). x.query) bounds (q ∷ [])));
    called = subst (λ (l : List EngineView). AreBegun l (engines_of (branches ++ branch ∷ []))) (sym (map-append seen engines (engine ∷ [])))
        (subst (λ (l : List EngineView). AreBegun (map seen engines ++ seen engine ∷ []) l) (sym (map-append (λ (b : BranchView). b.engine) branches (branch ∷ [])))
        (called_more (map seen engines) (engines_of branches) (seen engine) branch.engine was.called called));
  }

  pub begun_more : (bounds : List BoundQuery) (engines : List E) (branches after : List BranchView) (before now new : ℕ) (q : BoundQuery) (engine : E)
      → HasBegun bounds engines branches before now → length engines < length bounds → get_or bounds (length engines) q ≡ q
      → HasGrown rest seen q engine branches after → new ≤ now + due engine → HasBegun bounds (engines ++ engine ∷ []) after before new
  begun_more bounds engines branches after before now new q engine was inside at grown cost =
      let n = length engines in
      let more : length (engines ++ engine ∷ []) ≡ n + 1 = let h = length-append engines (engine ∷ []) in omega (arith, h) in
      let taken : take (length (engines ++ engine ∷ [])) bounds ≡ take n bounds ++ q ∷ [] =
      ap (λ (k : ℕ). take k bounds) more ∙ take_more bounds n q inside ∙ ap (λ (x : BoundQuery). take n bounds ++ x ∷ []) at in
      let sums = sum_by_push due engines engine in
      let spent = was.cost in
      let one = begun_one (take n bounds) engines branches q engine grown.branch (length-take-le n bounds (omega (arith, inside))) was.begun grown.bound grown.left grown.called in
      record {
        within = omega (arith, more, inside);
        begun = subst (λ (l : List BoundQuery). HaveBegun rest seen l (engines ++ engine ∷ []) after) (sym taken)
            (subst (λ (l : List BranchView). HaveBegun rest seen (take n bounds ++ q ∷ []) (engines ++ engine ∷ []) l) (sym grown.grown) one);
        cost = omega (arith, sums, spent, cost);
      }

  -- there is a query for one engine more, and as many branches as engines so far
  pub record HasNext (bounds : List BoundQuery) (yielded : List E) (branches : List BranchView) : Type 0 where
    pub inside : length yielded < length bounds
    pub count : length branches ≡ length yielded

  pub has_next : (bounds : List BoundQuery) (engines yielded left later : List E) (engine : E) (branches : List BranchView) (before now : ℕ) → length engines ≡ length bounds
      → yielded ++ left ≡ engines → left ≡ engine ∷ later → HasBegun bounds yielded branches before now → HasNext bounds yielded branches
  has_next bounds engines yielded left later engine branches before now each whole more was =
      let sizes = ap length whole in
      let parts = length-append yielded left in
      let one = ap length more in
      let inside : length yielded < length bounds = omega (arith, sizes, parts, one, each) in
      record {
        inside = inside;
        count = sym (length-map branches (λ (b : BranchView). b.bound)) ∙ ap length was.begun.bounds ∙ length-take-le (length yielded) bounds (omega (arith, inside));
      }

  -- the next engine's call is paid for
  pub cost_within : (bounds : List BoundQuery) (engines yielded left later : List E) (engine : E) (branches : List BranchView) (before now new : ℕ)
      → yielded ++ left ≡ engines → left ≡ engine ∷ later → HasBegun bounds yielded branches before now → new ≤ now + due engine → new ≤ before + sum_by due engines
  cost_within bounds engines yielded left later engine branches before now new whole more was cost =
      let all : sum_by due (yielded ++ engine ∷ later) ≡ sum_by due engines = ap (λ (l : List E). sum_by due (yielded ++ l)) (sym more) ∙ ap (sum_by due) whole in
      let spent = was.cost in
      omega (arith, all, spent, cost, sum_by-append due yielded (engine ∷ later), sum_by-cons due engine later)

  -- the branches of all engines
  pub all_begun : (bounds : List BoundQuery) (engines yielded left : List E) (branches : List BranchView) (before now : ℕ) → length engines ≡ length bounds
      → yielded ++ left ≡ engines → left ≡ [] → HasBegun bounds yielded branches before now
      → HaveBegun rest seen bounds engines branches × (now ≤ before + sum_by due engines)
  all_begun bounds engines yielded left branches before now each whole none was =
      let same : yielded ≡ engines = sym (append-nil yielded) ∙ ap (λ (l : List E). yielded ++ l) (sym none) ∙ whole in
      let size = ap length same in
      let all : take (length yielded) bounds ≡ bounds = take_all (length yielded) bounds (omega (arith, size, each)) in (
        subst (λ (l : List E). HaveBegun rest seen bounds l branches) same (subst (λ (l : List BoundQuery). HaveBegun rest seen l yielded branches) all was.begun),
        subst (λ (l : List E). now ≤ before + sum_by due l) same was.cost,
      )

-- # Branches of all queries

own_queries : (branches : List BranchView) → map (λ (b : BranchView). b.bound.query) branches ≡ queries_bound (map (λ (b : BranchView). b.bound) branches)
own_queries [] = refl
own_queries (b ∷ branches) = ap (λ (l : List Query). b.bound.query ∷ l) (own_queries branches)

pub same_queries : (bounds : List BoundQuery) (branches : List BranchView) → map (λ (b : BranchView). b.bound) branches ≡ bounds
    → map (λ (b : BranchView). b.bound.query) branches ≡ queries_bound bounds
same_queries bounds branches each = own_queries branches ∙ ap queries_bound each

abbrev none : BranchView
none = record {
  bound = record { query = record { items = []; equalities = []; order = []; list = []; limit = None }; weighed = []; variables = []; lists = []; filters = [] };
  left = [];
  engine = record { calls = 0; due = 0; size = [] };
}

pub all_branches : (tables : List Table) (bounds : List BoundQuery) (branches : List BranchView) (lists : List (List (List ℕ)))
    → map (λ (b : BranchView). b.bound) branches ≡ bounds → map (λ (b : BranchView). b.left) branches ≡ lists → length bounds ≤ 8
    → All (λ (q : BoundQuery). Fits q tables) bounds → AreLeft (queries_bound bounds) tables lists → AreBranches tables branches
all_branches tables bounds branches lists each left few fits are =
    let count : length branches ≡ length bounds = sym (length-map branches (λ (b : BranchView). b.bound)) ∙ ap length each in
    record {
      few = omega (arith, count, few);
      fit = All-from_get_or (λ (b : BranchView). Fits b.bound tables) branches none (λ i inside.
          let own = All-get_or (λ (q : BoundQuery). Fits q tables) bounds i none.bound (omega (arith, inside, count)) fits in
          let same : get_or bounds i none.bound ≡ (get_or branches i none).bound = ap (λ (l : List BoundQuery). get_or l i none.bound) (sym each) ∙ get_or-map (λ (b : BranchView). b.bound) branches i none none.bound inside in
          subst (λ (q : BoundQuery). Fits q tables) same own);
      left = subst (λ (q : List Query). AreLeft q tables (map (λ (b : BranchView). b.left) branches)) (sym (same_queries bounds branches each))
          (subst (λ (l : List (List (List ℕ))). AreLeft (queries_bound bounds) tables l) (sym left) are);
    }
