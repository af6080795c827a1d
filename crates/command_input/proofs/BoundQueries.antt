-- The queries of selects that are bound one after another.
use Rattle.std.proofs.Common.{◌≡◌, ◌+◌, ◌<◌, ◌≤◌, ◌∷◌, ◌++◌, [], ℕ, suc, zero, List, length, drop, take, get_or, Option, None, option_map, Result, Ok, Err, refl, sym, ap, subst, ◌∙◌, arith}
use Rattle.std.proofs.lemmas.List.{append_assoc, append-nil, drop_all, drop_at, drop_more, length-append, length-drop, length_push, map-append, take_at}
use Rattle.std.proofs.lemmas.List.Elements.{All-nil, All-push}
use Rattle.std.specs.Prelude.{IsErrAnd}
use Rattle.std.specs.List.{All, AllByRecursion, position_or_len}
use Rattle.std.specs.Str.{bytes_eq}
use Rattle.anyk_model.specs.Query.{Query}
use Rattle.anyk_model.specs.Table.{Table}
use Rattle.query_bind.specs.Answers.{IsBindFault}
use Rattle.query_bind.specs.Bind.{bind_fault}
use Rattle.query_bind.specs.Binding.{bound_query}
use Rattle.query_bind.specs.declared.fault.BindFault.{BindFault}
use Rattle.query_bind.specs.declared.fault.BindFault.TheVariants as bind
use Rattle.bound_query.specs.WeighedQuery.{BoundQuery, Fits}
use Rattle.query_select.specs.declared.select.ItemRef.{ItemRef}
use Rattle.query_select.specs.declared.select.Select.{Select}
use Rattle.refusals.specs.Reason.{Reason}
use Rattle.verdict.specs.Faults.{of_bind}
use Rattle.verdict.specs.Loading.{all_items, are_several, bound_as, bound_from, table_numbers, told_branch}
use Rattle.verdict.specs.StageResults.{Pure}
use Rattle.session_script.specs.Script.{unless}
use Rattle.verdict.specs.Stages.{Is, then_by}
use Rattle.verdict.specs.AcceptedInput.{queries_in}
use Rattle.command_input.specs.StageViews.{BindsEach}
use Rattle.command_input.proofs.AllItems.{items_left, pure_as}
use Rattle.command_input.proofs.Faults.{bind_refused}

-- ---- the numbers of the tables of items

pub numbers_append : (names : List (List ℕ)) (xs ys : List ItemRef) → table_numbers names (xs ++ ys) ≡ table_numbers names xs ++ table_numbers names ys
numbers_append names [] ys = refl
numbers_append names (x ∷ xs) ys = ap (λ (l : List ℕ). position_or_len (λ other. bytes_eq other x.table) names ∷ l) (numbers_append names xs ys)

pub numbers_length : (names : List (List ℕ)) (xs : List ItemRef) → length (table_numbers names xs) ≡ length xs
numbers_length names [] = refl
numbers_length names (x ∷ xs) = ap suc (numbers_length names xs)

pub all_take : {A : Type 0} (P : A → Type 0) (n : ℕ) (xs : List A) → AllByRecursion P xs → AllByRecursion P (take n xs)
all_take P zero xs all = tt
all_take P (suc n) [] all = tt
all_take P (suc n) (x ∷ xs) all = (all.0, all_take P n xs all.1)

pub all_drop : {A : Type 0} (P : A → Type 0) (n : ℕ) (xs : List A) → AllByRecursion P xs → AllByRecursion P (drop n xs)
all_drop P zero xs all = all
all_drop P (suc n) [] all = tt
all_drop P (suc n) (x ∷ xs) all = all_drop P n xs all.1

-- ---- the queries

-- the queries that come after others
abbrev after : List Query → Result (List Query) Reason → Result (List Query) Reason
after queries r = then_by r (λ later. Ok (queries ++ later))

after_none : (r : Result (List Query) Reason) → after [] r ≡ r
after_none (Ok queries) = refl
after_none (Err e) = refl

-- one query, and then others
abbrev and_then : Result Query Reason → Result (List Query) Reason → Result (List Query) Reason
and_then one others = then_by one (λ query. then_by others (λ queries. Ok (query ∷ queries)))

after_one : (queries : List Query) (query : Query) (r : Result (List Query) Reason) → after queries (and_then (Ok query) r) ≡ after (queries ++ query ∷ []) r
after_one queries query (Ok later) = ap Ok (sym (append_assoc queries (query ∷ []) later))
after_one queries query (Err e) = refl

-- all selects bound one after another, with the numbers of their branches
abbrev all_bound : List (List ℕ) → List Table → List Select → Result (List Query) Reason
all_bound names tables selects = bound_from names tables (are_several selects) 1 selects

-- the numbers of the tables of the items of the selects up to i were used, and the selects up to i are bound to these queries
pub record HasQueries (selects : List Select) (tables : List Table) (i : ℕ) (rest : List ℕ) (queries : List BoundQuery) : Type 0 where
  pub left : length rest ≡ length (all_items (drop i selects))
  pub known : AllByRecursion (λ t. t < length tables) rest
  pub count : length queries ≡ i
  pub fits : All (λ (q : BoundQuery). Fits q tables) queries

-- they are the queries by the numbers of the tables among these names
pub record HasNamed (names : List (List ℕ)) (selects : List Select) (tables : List Table) (i : ℕ) (rest : List ℕ) (queries : List BoundQuery) : Type 0 where
  pub numbers : rest ≡ table_numbers names (all_items (drop i selects))
  pub bound : after (queries_in queries) (bound_from names tables (are_several selects) (i + 1) (drop i selects)) ≡ all_bound names tables selects

-- both, for any names that the numbers are among
pub record IsBinding (selects : List Select) (tables : List Table) (which : List ℕ) (i : ℕ) (rest : List ℕ) (queries : List BoundQuery) : Type 0 where
  pub so_far : HasQueries selects tables i rest queries
  pub named : (names : List (List ℕ)) → which ≡ table_numbers names (all_items selects) → HasNamed names selects tables i rest queries

pub no_queries : (selects : List Select) (tables : List Table) (which : List ℕ) → length which ≡ length (all_items selects)
    → AllByRecursion (λ t. t < length tables) which → IsBinding selects tables which 0 which []
no_queries selects tables which as_many known = record {
  so_far = record {
    left = as_many;
    known = known;
    count = refl;
    fits = All-nil (λ (q : BoundQuery). Fits q tables);
  };
  named = λ names numbers. record { numbers = numbers; bound = after_none (all_bound names tables selects) };
}

module _ (selects : List Select) (tables : List Table) (i : ℕ) (select : Select) (rest : List ℕ) (queries : List BoundQuery)
    (inside : i < length selects) (is : select ≡ get_or selects i select) where
  module _ (so_far : HasQueries selects tables i rest queries) where
    left_is : length rest ≡ length select.items + length (all_items (drop (i + 1) selects))
    left_is = so_far.left ∙ ap length (items_left selects i select inside is) ∙ length-append select.items (all_items (drop (i + 1) selects))

    -- there are as many numbers as the select has items
    pub enough : length select.items ≤ length rest
    enough = let whole = left_is in omega (arith, whole)

    pub own_many : length (take (length select.items) rest) ≡ length select.items
    own_many = taken (length select.items) rest enough
      where
        taken : (n : ℕ) (xs : List ℕ) → n ≤ length xs → length (take n xs) ≡ n
        taken zero xs h = refl
        taken (suc n) [] h = absurd (omega arith)
        taken (suc n) (x ∷ xs) h = ap suc (taken n xs (omega arith))

    -- the select at i is bound to a query
    pub queries_more : (left : List ℕ) (query : BoundQuery) (now : List BoundQuery) → left ≡ drop (length select.items) rest → Fits query tables
        → now ≡ queries ++ query ∷ [] → HasQueries selects tables (i + 1) left now
    queries_more left query now left_drop fits pushed =
        let P : List ℕ → Type 0 = AllByRecursion (λ t. t < length tables) in
        let Q : List BoundQuery → Type 0 = All (λ (q : BoundQuery). Fits q tables) in
        let longer : length now ≡ length queries + 1 = ap length pushed ∙ length_push queries query in
        let so_many = so_far.count in
        let whole = left_is in
        let shorter : length left ≡ length (drop (length select.items) rest) = ap length left_drop in
        let dropped = length-drop (length select.items) rest in
        record {
          left = omega (arith, whole, shorter, dropped);
          known = subst P (sym left_drop) (all_drop (λ t. t < length tables) (length select.items) rest so_far.known);
          count = omega (arith, longer, so_many);
          fits = subst Q (sym pushed) (All-push (λ (q : BoundQuery). Fits q tables) queries query so_far.fits fits);
        }

  abbrev bound_by : List ℕ → Option ℕ → Result Query Reason
  bound_by own branch = unless (option_map (of_bind branch) (bind_fault select tables own)) (bound_query select tables own)

  module _ (names : List (List ℕ)) (so_far : HasNamed names selects tables i rest queries) where
    abbrev later : Result (List Query) Reason
    later = bound_from names tables (are_several selects) (i + 1 + 1) (drop (i + 1) selects)

    abbrev here : Result Query Reason
    here = bound_as (told_branch (are_several selects) (i + 1)) names tables select

    rest_is : rest ≡ table_numbers names select.items ++ table_numbers names (all_items (drop (i + 1) selects))
    rest_is = so_far.numbers ∙ ap (table_numbers names) (items_left selects i select inside is)
        ∙ numbers_append names select.items (all_items (drop (i + 1) selects))

    own_is_lem : take (length select.items) rest ≡ table_numbers names select.items
    own_is_lem = ap (take (length select.items)) rest_is ∙ take_at (table_numbers names select.items) _ (length select.items) (numbers_length names select.items)

    later_is : drop (length select.items) rest ≡ table_numbers names (all_items (drop (i + 1) selects))
    later_is = ap (drop (length select.items)) rest_is ∙ drop_at (table_numbers names select.items) _ (length select.items) (numbers_length names select.items)

    bound_here : (own : List ℕ) (branch : Option ℕ) → own ≡ take (length select.items) rest → branch ≡ told_branch (are_several selects) (i + 1)
        → bound_by own branch ≡ here
    bound_here own branch own_is branch_is =
        ap (λ (w : List ℕ). bound_by w branch) (own_is ∙ own_is_lem) ∙ ap (bound_by (table_numbers names select.items)) branch_is

    whole_is : after (queries_in queries) (and_then here later) ≡ all_bound names tables selects
    whole_is =
        sym (ap (λ (l : List Select). after (queries_in queries) (bound_from names tables (are_several selects) (i + 1) l))
        (drop_more selects i select inside ∙ ap (λ (s : Select). s ∷ drop (i + 1) selects) (sym is)))
        ∙ so_far.bound

    -- the query is the one that the names give
    pub named_more : (own left : List ℕ) (query : BoundQuery) (now : List BoundQuery)
        → own ≡ take (length select.items) rest → left ≡ drop (length select.items) rest
        → query.query ≡ bound_query select tables own → bind_fault select tables own ≡ None → now ≡ queries ++ query ∷ []
        → HasNamed names selects tables (i + 1) left now
    named_more own left query now own_is left_is means sound pushed =
        let branch = told_branch (are_several selects) (i + 1) in
        let bound : Ok query.query ≡ bound_by own branch =
        ap Ok means ∙ sym (ap (λ (fault : Option BindFault). unless (option_map (of_bind branch) fault) (bound_query select tables own)) sound) in
        let shown : queries_in now ≡ queries_in queries ++ query.query ∷ [] = ap queries_in pushed ∙ map-append (λ (q : BoundQuery). q.query) queries (query ∷ []) in
        record {
          numbers = left_is ∙ later_is;
          bound = ap (λ (l : List Query). after l later) shown ∙ sym (after_one (queries_in queries) query.query later)
              ∙ ap (λ (r : Result Query Reason). after (queries_in queries) (and_then r later)) (bound ∙ bound_here own branch own_is refl) ∙ whole_is;
        }

    -- it is refused
    pub queries_refused : (own : List ℕ) (branch : Option ℕ) (e : Reason) → own ≡ take (length select.items) rest
        → branch ≡ told_branch (are_several selects) (i + 1) → Pure (Is (bound_by own branch)) (Err e) → Pure (Is (all_bound names tables selects)) (Err e)
    queries_refused own branch e own_is branch_is =
        pure_as (Is (bound_by own branch)) (Is (all_bound names tables selects)) e
        (λ h. ap (λ (r : Result Query Reason). after (queries_in queries) (and_then r later)) (h ∙ bound_here own branch own_is branch_is) ∙ whole_is)

  module _ (which : List ℕ) (binding : IsBinding selects tables which i rest queries) where
    pub binding_more : (own left : List ℕ) (query : BoundQuery) (now : List BoundQuery)
        → own ≡ take (length select.items) rest → left ≡ drop (length select.items) rest
        → query.query ≡ bound_query select tables own → bind_fault select tables own ≡ None → Fits query tables → now ≡ queries ++ query ∷ []
        → IsBinding selects tables which (i + 1) left now
    binding_more own left query now own_is left_is means sound fits pushed = record {
      so_far = queries_more binding.so_far left query now left_is fits pushed;
      named = λ names numbers. named_more names (binding.named names numbers) own left query now own_is left_is means sound pushed;
    }

    -- it has a fault
    pub each_refused : (own : List ℕ) (fault : BindFault) → own ≡ take (length select.items) rest → IsBindFault (bind_fault select tables own) fault
        → BindsEach selects tables which queries (Err fault)
    each_refused own fault own_is tells =
        let so_many = binding.so_far.count in
        let branch = told_branch (are_several selects) (length queries + 1) in
        let same : branch ≡ told_branch (are_several selects) (i + 1) = ap (λ (n : ℕ). told_branch (are_several selects) (n + 1)) so_many in
        let refused = bind_refused branch (bind_fault select tables own) (bound_query select tables own) fault tells in
        record {
          bound = λ names numbers. queries_refused names (binding.named names numbers) own branch (of_bind branch fault) own_is same refused;
          count = tt;
          fits = tt;
          few = omega (arith, so_many, inside);
        }

    -- memory was refused
    pub each_stopped : (r : Result (Unit {0}) BindFault) (now : List BoundQuery) → IsErrAnd r (λ e. e ≡ bind.NoMemory) → now ≡ queries
        → BindsEach selects tables which now r
    each_stopped (Ok done) now gives same = absurd gives
    each_stopped (Err fault) now gives same =
        let so_many = binding.so_far.count in
        let as_many = ap length same in
        rw gives (record { bound = λ names numbers. tt; count = tt; fits = tt; few = omega (arith, so_many, inside, as_many) })

-- all selects are bound
queries_end : (names : List (List ℕ)) (selects : List Select) (tables : List Table) (i : ℕ) (rest : List ℕ) (queries : List BoundQuery) → length selects ≤ i
    → HasNamed names selects tables i rest queries → Is (all_bound names tables selects) (Ok (queries_in queries))
queries_end names selects tables i rest queries end h =
    sym (sym h.bound
    ∙ ap (λ (l : List Select). after (queries_in queries) (bound_from names tables (are_several selects) (i + 1) l)) (drop_all i selects end)
    ∙ ap Ok (append-nil (queries_in queries)))

pub each_end : (selects : List Select) (tables : List Table) (which : List ℕ) (i : ℕ) (rest : List ℕ) (queries : List BoundQuery) → length selects ≤ i → i ≤ length selects
    → IsBinding selects tables which i rest queries → BindsEach selects tables which queries (Ok tt)
each_end selects tables which i rest queries end within h =
    let so_many = h.so_far.count in
    record {
      bound = λ names numbers. queries_end names selects tables i rest queries end (h.named names numbers);
      count = omega (arith, so_many, end, within);
      fits = h.so_far.fits;
      few = tt;
    }
