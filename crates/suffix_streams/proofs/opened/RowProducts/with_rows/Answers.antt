use Rattle.std.proofs.Common.{◌≡◌, ℕ, suc, zero, List, [], length, map, get_or, replicate, refl, ap, ◌∙◌, arith}
use Rattle.suffix_streams.specs.OpenedRows.{HaveOwnLists, list_numbered}
use Rattle.suffix_streams.proofs.Errors.{none_given}
use Rattle.suffix_streams.proofs.ListEnds.{map_length}
use Rattle.suffix_streams.proofs.opened.RowProducts.with_rows.Goals as goal

unopened : {A : Type 0} (lists : List (List A)) (n r : ℕ) → get_or (map (list_numbered lists) (replicate n 0)) r [] ≡ []
unopened lists zero r = refl
unopened lists (suc n) zero = refl
unopened lists (suc n) (suc r) = unopened lists n r

-- no row has a list
numbers : (n r : ℕ) → ◌≡◌ {A = ℕ} (get_or (replicate n 0) r 0) 0
numbers zero r = refl
numbers (suc n) zero = refl
numbers (suc n) (suc r) = numbers n r

own : (n count : ℕ) → HaveOwnLists (replicate n 0) count
own n count = record { within = λ r. omega (arith, numbers n r); apart = λ r s some same. absurd (omega (arith, some, numbers n r)) }

all : (n : ℕ) → length {A = ℕ} (replicate n 0) ≡ n
all zero = refl
all (suc n) = ap suc (all n)

pub invariant_of-result : goal.invariant_of-result
invariant_of-result g c = rw (c.in_ok-opened.ensures.items_if_clones_equal (λ y same. same)) (own c.args.rows _)

pub returns : goal.returns
returns g c =
    record {
      count = rw (c.in_ok-opened.ensures.items_if_clones_equal (λ y same. same)) (map_length _ (replicate c.args.rows 0) ∙ all c.args.rows);
      none = λ r. rw (c.in_ok-opened.ensures.items_if_clones_equal (λ y same. same)) (unopened _ c.args.rows r);
    }

pub returns-in_err-opened : goal.returns-in_err-opened
returns-in_err-opened g c =
    record {
      count = none_given _ c.from_residual-in_err-opened.result c.from_residual-in_err-opened.ensures.0;
      none = none_given _ c.from_residual-in_err-opened.result c.from_residual-in_err-opened.ensures.0;
    }

pub returns-in_err-of_lists : goal.returns-in_err-of_lists
returns-in_err-of_lists g c =
    record {
      count = none_given _ c.from_residual-in_err-of_lists.result c.from_residual-in_err-of_lists.ensures.0;
      none = none_given _ c.from_residual-in_err-of_lists.result c.from_residual-in_err-of_lists.ensures.0;
    }
