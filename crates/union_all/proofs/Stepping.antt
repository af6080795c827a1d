-- One call of a merge: one branch was called, and the others are as they were.
use Rattle.std.proofs.Common.{◌≡◌, ◌<◌, ◌≤◌, ◌+◌, ◌∙◌, ℕ, Option, Some, Ok, Err, OnErr, Result, List, [], ◌∷◌, length, get_or, inl, inr, sym, ap, subst, arith, length-set}
use Rattle.std.specs.List.{All, AllByRecursion}
use Rattle.std.proofs.Math.ListN.{set}
use Rattle.std.proofs.lemmas.Bool.{cases_eq, cases_lt}
use Rattle.std.proofs.lemmas.List.{get_or-map, get_or-set_other, get_or-set_same, get_or_past, length-map, map-set, set-get_or}
use Rattle.std.proofs.lemmas.List.Elements.{All-get_or, All-set}
use Rattle.std.proofs.Math.Seq.{map-set_same}
use Rattle.anyk_model.specs.Table.{Table}
use Rattle.anyk_model.specs.Query.{IsCombination, Query, row_counts}
use Rattle.bound_query.specs.WeighedQuery.{BoundQuery, Fits}
use Rattle.anyk_model.specs.TaggedRows.{Tagged, branch_at, tagged}
use Rattle.anyk_model.specs.Union.{left_of}
use Rattle.anyk_model.proofs.Merging.{merge_end, merge_step, some_list, tail_up}
use Rattle.union_all.specs.Firsts.{HasFirst, IsFirstBranch}
use Rattle.union_all.specs.Merge.{AreBranches, AreLeft, BranchView, EngineView, HasCalled, IsCalled, MergeView, engine_at, engines_of, lists_of, queries_of}
use Rattle.union_all.proofs.Branches.{list_at}

-- a merge of these branches, as contracts see it
abbrev pub merged : List Table → List BranchView → MergeView
merged tables branches = record {
  queries = queries_of branches;
  rest = left_of (queries_of branches) tables (lists_of branches);
  engines = engines_of branches;
}

-- the first branch, of those that a slice of them shows
pub first_told : (tables : List Table) (slice branches : List BranchView) (o : Option ℕ) (first : ℕ) → slice ≡ branches → o ≡ Some first
    → IsFirstBranch (queries_of slice) tables (lists_of slice) (length slice) o → HasFirst (queries_of branches) tables (lists_of branches) (length branches) first
first_told tables slice branches o first is at h =
    subst (λ (l : List BranchView). HasFirst (queries_of l) tables (lists_of l) (length l) first) is
    (subst (λ (o : Option ℕ). IsFirstBranch (queries_of slice) tables (lists_of slice) (length slice) o) at h)

-- what holds of any result
pub on_error : {A X : Type 0} (result : Result A X) (P : Type 0) → P → OnErr result P
on_error (Ok a) P p = tt
on_error (Err e) P p = p

-- nothing is left if no branch has anything left
pub none_left : (queries : List Query) (tables : List Table) (lists : List (List (List ℕ))) (n : ℕ) → n ≡ length lists → ((c : ℕ) → c < n → get_or lists c [] ≡ []) → left_of queries tables lists ≡ []
none_left queries tables lists n all none = merge_end queries tables lists (λ c. elim (cases_lt c n) [ inl l ↦ none c l | inr l ↦ get_or_past lists c [] (omega (arith, all, l)) ])

-- the first of all heads is the head of what is left
pub first_left : (queries : List Query) (tables : List Table) (lists : List (List (List ℕ))) (n b : ℕ) → n ≡ length lists → AreLeft queries tables lists → (h : HasFirst queries tables lists n b)
    → left_of queries tables lists ≡ tagged b h.rows ∷ left_of queries tables (set lists b h.later)
first_left queries tables lists n b all left h =
    merge_step queries tables lists b h.rows h.later left.ascending h.is_first
    (λ c other others apart is. let inside = some_list lists c other others is in h.least c other others (omega (arith, inside, all)) apart is)

module _ (tables : List Table) (branches : List BranchView) (b : ℕ) (inside : b < length branches) (x y : BranchView) (at : x ≡ get_or branches b x) (bound : y.bound ≡ x.bound) where
  abbrev after : List BranchView
  after = set branches b y

  same_queries : queries_of after ≡ queries_of branches
  same_queries = map-set_same (λ (s : BranchView). s.bound.query) branches b y x (ap (λ (q : BoundQuery). q.query) bound ∙ ap (λ (s : BranchView). s.bound.query) at)

  one_list : lists_of after ≡ set (lists_of branches) b y.left
  one_list = map-set (λ (s : BranchView). s.left) branches b y

  one_engine : engines_of after ≡ set (engines_of branches) b y.engine
  one_engine = map-set (λ (s : BranchView). s.engine) branches b y

  engine_was : engine_at (engines_of branches) b ≡ x.engine
  engine_was =
      get_or-map (λ (s : BranchView). s.engine) branches b x (record { calls = 0; due = 0; size = [] }) inside ∙ ap (λ (s : BranchView). s.engine) (sym at)

  engine_is : engine_at (engines_of after) b ≡ y.engine
  engine_is =
      ap (λ (l : List EngineView). engine_at l b) one_engine
      ∙ get_or-set_same (engines_of branches) b y.engine (record { calls = 0; due = 0; size = [] }) (omega (arith, inside, length-map branches (λ (s : BranchView). s.engine)))

  pub is_called : (most : List ℕ → ℕ → ℕ) (before now : ℕ) → HasCalled x.engine y.engine → now ≤ before + x.engine.due → now ≤ before + most x.engine.size x.engine.calls
      → IsCalled most (merged tables branches) (merged tables after) b before now
  is_called most before now called cost share = record {
    queries = same_queries;
    count = ap length one_engine ∙ length-set (engines_of branches) b y.engine;
    others = λ c apart. ap (λ (l : List EngineView). engine_at l c) one_engine ∙ get_or-set_other (engines_of branches) b c y.engine (record { calls = 0; due = 0; size = [] }) apart;
    called = subst (λ (e : EngineView). HasCalled e (engine_at (engines_of after) b)) (sym engine_was) (subst (λ (e : EngineView). HasCalled x.engine e) (sym engine_is) called);
    cost = subst (λ (e : EngineView). now ≤ before + e.due) (sym engine_was) cost;
    share = subst (λ (e : EngineView). now ≤ before + most e.size e.calls) (sym engine_was) share;
  }

  module _ (all : AreBranches tables branches) where
    fits : All (λ (s : BranchView). Fits s.bound tables) after
    fits =
        All-set (λ (s : BranchView). Fits s.bound tables) branches b y
        (subst (λ (q : BoundQuery). Fits q tables) (sym (bound ∙ ap (λ (s : BranchView). s.bound) at)) (All-get_or (λ (s : BranchView). Fits s.bound tables) branches b x inside all.fit)) all.fit

    few : length after ≤ 8
    few = let h = length-set branches b y in let f = all.few in omega (arith, h, f)

    branches_after : AreLeft (queries_of branches) tables (set (lists_of branches) b y.left) → AreBranches tables after
    branches_after left = record {
      few = few;
      fit = fits;
      left = subst (λ (q : List Query). AreLeft q tables (lists_of after)) (sym same_queries)
          (subst (λ (l : List (List (List ℕ))). AreLeft (queries_of branches) tables l) (sym one_list) left);
    }

    -- the branch has what it had
    same_lists : y.left ≡ x.left → set (lists_of branches) b y.left ≡ lists_of branches
    same_lists same = ap (set (lists_of branches) b) (same ∙ sym (list_at branches b inside x at)) ∙ set-get_or (lists_of branches) b []

    pub branches_kept : y.left ≡ x.left → AreBranches tables after
    branches_kept same = branches_after (subst (λ (l : List (List (List ℕ))). AreLeft (queries_of branches) tables l) (sym (same_lists same)) all.left)

    pub rest_kept : y.left ≡ x.left → left_of (queries_of after) tables (lists_of after) ≡ left_of (queries_of branches) tables (lists_of branches)
    rest_kept same =
        ap (λ (q : List Query). left_of q tables (lists_of after)) same_queries ∙ ap (left_of (queries_of branches) tables) (one_list ∙ same_lists same)

    module _ (rows : List ℕ) (taken : x.left ≡ rows ∷ y.left) where
      head : get_or (lists_of branches) b [] ≡ rows ∷ y.left
      head = list_at branches b inside x at ∙ taken

      combinations : (c : ℕ) → AllByRecursion (IsCombination (row_counts (branch_at (queries_of branches) c).items tables)) (get_or (set (lists_of branches) b y.left) c [])
      combinations c = elim (cases_eq c b) [
        | inl e ↦
            let own : get_or (set (lists_of branches) b y.left) b [] ≡ y.left =
            get_or-set_same (lists_of branches) b y.left [] (omega (arith, inside, length-map branches (λ (s : BranchView). s.left))) in
            let was = subst (λ (l : List (List ℕ)). AllByRecursion (IsCombination (row_counts (branch_at (queries_of branches) b).items tables)) l) head (all.left.combinations b) in
            subst (λ (k : ℕ). AllByRecursion (IsCombination (row_counts (branch_at (queries_of branches) k).items tables)) (get_or (set (lists_of branches) b y.left) k [])) (sym e)
            (subst (λ (l : List (List ℕ)). AllByRecursion (IsCombination (row_counts (branch_at (queries_of branches) b).items tables)) l) (sym own) was.1)
        | inr d ↦
            subst (λ (l : List (List ℕ)). AllByRecursion (IsCombination (row_counts (branch_at (queries_of branches) c).items tables)) l)
            (sym (get_or-set_other (lists_of branches) b c y.left [] d)) (all.left.combinations c)
      ]

      -- the branch has one combination less
      pub branches_taken : AreBranches tables after
      branches_taken = branches_after (record { ascending = tail_up (queries_of branches) tables (lists_of branches) b rows y.left all.left.ascending head; combinations = combinations })

      pub rest_taken : (h : HasFirst (queries_of branches) tables (lists_of branches) (length branches) b)
          → left_of (queries_of branches) tables (lists_of branches) ≡ tagged b rows ∷ left_of (queries_of after) tables (lists_of after)
      rest_taken h =
          let same : h.rows ∷ h.later ≡ rows ∷ y.left = sym h.is_first ∙ head in
          let first : h.rows ≡ rows = cc same in
          let later : h.later ≡ y.left = cc same in
          first_left (queries_of branches) tables (lists_of branches) (length branches) b (sym (length-map branches (λ (s : BranchView). s.left))) all.left h
          ∙ (λ i. tagged b (first i) ∷ left_of (queries_of branches) tables (set (lists_of branches) b (later i)))
          ∙ ap (λ (l : List Tagged). tagged b rows ∷ l) (sym (ap (λ (q : List Query). left_of q tables (lists_of after)) same_queries ∙ ap (left_of (queries_of branches) tables) one_list))
