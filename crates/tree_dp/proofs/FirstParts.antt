-- The key of a row with the least keys of its first children's groups.
use Rattle.std.proofs.Common.{◌≡◌, ◌≢◌, ℕ, suc, ◌+◌, nat_eq, List, get_or, sym, ap, ◌∙◌}
use Rattle.std.proofs.lemmas.Bool.{eq-eqb, ne_eqb, cond-true, cond-false}
use Rattle.tdp_model.specs.KeyLaws.{IsKeys}
use Rattle.tdp_model.specs.TreeProblem.{sum_from, least_of, kid_part}
use Rattle.tdp_model.proofs.Sums.{sum_last}

module _ {K : Type 0} (Below : K → K → Type 0) (add : K → K → K) (none : K) (keys : IsKeys K Below add none)
    (m : ℕ) (parent : ℕ → ℕ) (rank : ℕ → ℕ → K) (group : ℕ → ℕ → List ℕ) (best : ℕ → ℕ → K) (v r : ℕ) where
  -- the row with those of its children that are among the n nodes after v
  abbrev pub first_part : ℕ → K
  first_part n = add (rank v r) (sum_from add none (kid_part add none m parent rank group best v r) n (suc v))

  pub first_part_none : first_part 0 ≡ rank v r
  unfolding sum_from
  first_part_none = keys.add_none (rank v r)

  first_part_next : (n q : ℕ) → q ≡ suc v + n → first_part (suc n) ≡ add (first_part n) (kid_part add none m parent rank group best v r q)
  first_part_next n q e =
      ap (add (rank v r)) (sum_last Below add none keys (kid_part add none m parent rank group best v r) n (suc v) q e)
      ∙ sym (keys.add_assoc (rank v r) (sum_from add none (kid_part add none m parent rank group best v r) n (suc v)) (kid_part add none m parent rank group best v r q))

  pub first_part_child : (n q : ℕ) → q ≡ suc v + n → parent q ≡ v → first_part (suc n) ≡ add (first_part n) (best q (get_or (group q r) 0 0))
  unfolding kid_part
  first_part_child n q e child = first_part_next n q e ∙ ap (add (first_part n)) (cond-true (nat_eq (parent q) v) (least_of add none m parent rank group best q r) none (eq-eqb (parent q) v child))

  pub first_part_other : (n q : ℕ) → q ≡ suc v + n → parent q ≢ v → first_part (suc n) ≡ first_part n
  unfolding kid_part
  first_part_other n q e other =
      first_part_next n q e ∙ ap (add (first_part n)) (cond-false (nat_eq (parent q) v) (least_of add none m parent rank group best q r) none (ne_eqb (parent q) v other)) ∙ keys.add_none (first_part n)
