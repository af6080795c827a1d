-- The first branch that is not of the first one's shape.
use Rattle.std.proofs.Common.{◌≡◌, ◌+◌, ◌<◌, ◌≤◌, ◌∷◌, [], ℕ, suc, Bool, true, false, if◌then◌else◌, List, length, drop, get_or, Option, Some, None, refl, sym, ap, ◌∙◌, arith}
use Rattle.std.proofs.lemmas.List.{drop_all, drop_more}
use Rattle.std.proofs.lemmas.Bool.{and_parts}
use Rattle.anyk_model.specs.Query.{OrderKey, Query}
use Rattle.refusals.specs.Reason.{BranchShape, Reason}
use Rattle.anyk_model.specs.TaggedRows.{HaveKeys}
use Rattle.verdict.specs.Loading.{have_directions, have_one_shape, odd_branch, odd_from}

-- as many keys
same_keys : (keys others : List OrderKey) → have_directions keys others ≡ true → length keys ≡ length others
same_keys [] [] h = refl
same_keys [] (other ∷ others) h = cc
same_keys (key ∷ keys) [] h = cc
same_keys (key ∷ keys) (other ∷ others) h = ap suc (same_keys keys others (and_parts _ _ h).1)

-- another number of keys
pub other_keys : (keys others : List OrderKey) → (length keys ≡ length others → ⊥) → have_directions keys others ≡ false
other_keys keys others differ = by (have_directions keys others) refl
  where
    by : (b : Bool) → have_directions keys others ≡ b → b ≡ false
    by true is = absurd (differ (same_keys keys others is))
    by false is = refl

keys_from : (first : Query) (number : ℕ) (queries : List Query) → odd_from first number queries ≡ None → HaveKeys (length first.order) queries
keys_from first number [] h = tt
keys_from first number (query ∷ queries) h = by (have_one_shape first query) refl h (keys_from first (number + 1) queries)
  where
    by : (b : Bool) → have_one_shape first query ≡ b → (if b then odd_from first (number + 1) queries else Some (BranchShape number)) ≡ None
        → (odd_from first (number + 1) queries ≡ None → HaveKeys (length first.order) queries) → HaveKeys (length first.order) (query ∷ queries)
    by true is h later = (sym (same_keys first.order query.order (and_parts _ _ is).1), later h)
    by false is h later = cc

-- branches of one shape have as many keys
pub keys_none_odd : (queries : List Query) → odd_branch queries ≡ None → (keys : ℕ) × HaveKeys keys queries
keys_none_odd [] h = (0, tt)
keys_none_odd (first ∷ queries) h = (length first.order, (refl, keys_from first 2 queries h))

odd_from_told : (first : Query) (number : ℕ) (queries : List Query) (e : Reason) → odd_from first number queries ≡ Some e → (branch : ℕ) × (e ≡ BranchShape branch)
odd_from_told first number [] e h = cc
odd_from_told first number (query ∷ queries) e h = by (have_one_shape first query) h (odd_from_told first (number + 1) queries e)
  where
    by : (b : Bool) → (if b then odd_from first (number + 1) queries else Some (BranchShape number)) ≡ Some e
        → (odd_from first (number + 1) queries ≡ Some e → (branch : ℕ) × (e ≡ BranchShape branch)) → (branch : ℕ) × (e ≡ BranchShape branch)
    by true h later = later h
    by false h later = (number, cc)

-- the reason names a branch
pub odd_told : (queries : List Query) (e : Reason) → odd_branch queries ≡ Some e → (branch : ℕ) × (e ≡ BranchShape branch)
odd_told [] e h = cc
odd_told (first ∷ queries) e h = odd_from_told first 2 queries e h

-- ---- the branches, one after another

-- the first such branch from the branch at b on
abbrev pub odd_after : List Query → ℕ → Option Reason
odd_after [] b = None
odd_after (first ∷ queries) b = odd_from first (b + 1) (drop b (first ∷ queries))

pub odd_begins : (queries : List Query) → odd_after queries 1 ≡ odd_branch queries
odd_begins [] = refl
odd_begins (first ∷ queries) = refl

odd_step : (queries : List Query) (b : ℕ) (first query : Query) → b < length queries → first ≡ get_or queries 0 first → query ≡ get_or queries b query
    → odd_after queries b ≡ (if have_one_shape first query then odd_after queries (b + 1) else Some (BranchShape (b + 1)))
odd_step [] b first query inside zeroth is = absurd (omega arith)
odd_step (x ∷ queries) b first query inside zeroth is =
    ap (odd_from x (b + 1)) (drop_more (x ∷ queries) b query inside)
    ∙ ap (λ (q : Query). if have_one_shape x q then odd_from x (b + 1 + 1) (drop (b + 1) (x ∷ queries)) else Some (BranchShape (b + 1))) (sym is)
    ∙ ap (λ (q : Query). if have_one_shape q query then odd_from x (b + 1 + 1) (drop (b + 1) (x ∷ queries)) else Some (BranchShape (b + 1))) (sym zeroth)

-- the branch at b has the shape
pub shape_kept : (queries : List Query) (b : ℕ) (first query : Query) → b < length queries → first ≡ get_or queries 0 first → query ≡ get_or queries b query
    → have_one_shape first query ≡ true → odd_after queries b ≡ odd_branch queries → odd_after queries (b + 1) ≡ odd_branch queries
shape_kept queries b first query inside zeroth is same so_far =
    sym (odd_step queries b first query inside zeroth is
    ∙ ap (λ (h : Bool). if h then odd_after queries (b + 1) else Some (BranchShape (b + 1))) same)
    ∙ so_far

-- it has not
pub shape_odd : (queries : List Query) (b : ℕ) (first query : Query) → b < length queries → first ≡ get_or queries 0 first → query ≡ get_or queries b query
    → have_one_shape first query ≡ false → odd_after queries b ≡ odd_branch queries → Some (BranchShape (b + 1)) ≡ odd_branch queries
shape_odd queries b first query inside zeroth is other so_far =
    sym (sym so_far ∙ odd_step queries b first query inside zeroth is
    ∙ ap (λ (h : Bool). if h then odd_after queries (b + 1) else Some (BranchShape (b + 1))) other)

-- all have it
pub shapes_same : (queries : List Query) (b : ℕ) → length queries ≤ b → odd_after queries b ≡ odd_branch queries → None ≡ odd_branch queries
shapes_same queries b end so_far = sym (sym so_far ∙ by queries end)
  where
    by : (queries : List Query) → length queries ≤ b → odd_after queries b ≡ None
    by [] end = refl
    by (first ∷ queries) end = ap (odd_from first (b + 1)) (drop_all b (first ∷ queries) end)
