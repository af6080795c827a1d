-- The branches of a merge, one by one.
use Rattle.std.proofs.Common.{◌≡◌, ◌<◌, ◌∙◌, ℕ, ℤ, Bool, None, List, [], ◌∷◌, map, length, take, get_or, sym, ap, subst}
use Rattle.std.specs.List.{AllByRecursion}
use Rattle.std.proofs.lemmas.List.{get_or-map}
use Rattle.std.proofs.lemmas.List.Elements.{All-get_or}
use Rattle.anyk_model.specs.Table.{Table}
use Rattle.anyk_model.specs.Query.{IsCombination, Query, rank_of, row_counts}
use Rattle.anyk_model.specs.Ranking.{is_before}
use Rattle.bound_query.specs.WeighedQuery.{BoundQuery, Fits}
use Rattle.anyk_model.specs.TaggedRows.{branch_at}
use Rattle.union_all.specs.Merge.{AreBranches, BranchView, lists_of, queries_of}

-- the sums of the rows of a query's items as they are compared
abbrev pub sums_in : List Table → List ℕ → Query → List ℤ
sums_in tables rows query = map (rank_of query tables (take (length query.items) rows)) query.order

-- the same comparison, of the same queries
pub less_told : (tables : List Table) (rows others : List ℕ) (one two : Query) (other_one other_two : Query) (result : Bool)
    → result ≡ is_before (sums_in tables rows one) (sums_in tables others two) → one ≡ other_one → two ≡ other_two
    → result ≡ is_before (sums_in tables rows other_one) (sums_in tables others other_two)
less_told tables rows others one two other_one other_two result is first second =
    is ∙ (λ i. is_before (sums_in tables rows (first i)) (sums_in tables others (second i)))

module _ (branches : List BranchView) (b : ℕ) (inside : b < length branches) (x : BranchView) (at : x ≡ get_or branches b x) where
  -- what is left of the branch
  pub list_at : get_or (lists_of branches) b [] ≡ x.left
  list_at = get_or-map (λ (s : BranchView). s.left) branches b x [] inside ∙ ap (λ (s : BranchView). s.left) (sym at)

  -- its query
  pub query_at : branch_at (queries_of branches) b ≡ x.bound.query
  query_at =
      get_or-map (λ (s : BranchView). s.bound.query) branches b x (record { items = []; equalities = []; order = []; list = []; limit = None }) inside
      ∙ ap (λ (s : BranchView). s.bound.query) (sym at)

  -- its first combination
  pub head_at : (rows : List ℕ) (later : List (List ℕ)) → x.left ≡ take (length x.bound.query.items) rows ∷ later
      → get_or (lists_of branches) b [] ≡ take (length (branch_at (queries_of branches) b).items) rows ∷ later
  head_at rows later is = list_at ∙ is ∙ ap (λ (q : Query). take (length q.items) rows ∷ later) (sym query_at)

  -- is one of its rows
  pub head_fits : (tables : List Table) → AreBranches tables branches → (rows : List ℕ) (later : List (List ℕ)) → x.left ≡ take (length x.bound.query.items) rows ∷ later
      → (q : BoundQuery) → q ≡ x.bound → IsCombination (row_counts q.query.items tables) (take (length q.query.items) rows)
  head_fits tables all rows later is q bound =
      let one = subst (λ (l : List (List ℕ)). AllByRecursion (IsCombination (row_counts (branch_at (queries_of branches) b).items tables)) l) (head_at rows later is) (all.left.combinations b) in
      let own : branch_at (queries_of branches) b ≡ q.query = query_at ∙ ap (λ (s : BoundQuery). s.query) (sym bound) in
      subst (λ (k : Query). IsCombination (row_counts k.items tables) (take (length k.items) rows)) own one.0

  -- its query fits the tables
  pub query_fits : (tables : List Table) → AreBranches tables branches → (q : BoundQuery) → q ≡ x.bound → Fits q tables
  query_fits tables all q bound =
      let one = All-get_or (λ (s : BranchView). Fits s.bound tables) branches b x inside all.fit in
      subst (λ (k : BoundQuery). Fits k tables) (ap (λ (s : BranchView). s.bound) (sym at) ∙ sym bound) one
