-- The steps of a run, from those of its plan, its engine and its calls.
use Rattle.std.proofs.Common.{◌≡◌, ◌≤◌, ◌+◌, ◌*◌, ℕ, List, Bool, true, false, cond, nat_lt, length, ap, subst, arith}
use Rattle.std.proofs.lemmas.Nat.{mul-le}
use Rattle.anyk_model.specs.Table.{Table}
use Rattle.anyk_model.specs.Query.{Query, row_counts}
use Rattle.bound_query.specs.KeyParts.{sum_of_all}
use Rattle.bound_query.specs.Shape.{Shape}
use Rattle.rank_key.specs.Bits.{bit_length}
use Rattle.tdp_model.specs.KeyTuple.{KeyOf}
use Rattle.tdp_core.specs.TreeView.{NodeView, group_count, row_count}
use Rattle.tdp_core.specs.Shares.{most_steps, share_of, size_of}
use Rattle.bound_query.specs.Steps.{steps_for}
use Rattle.bound_query.proofs.Shares.{shares}
use Rattle.plan_build.specs.Plan.{PlanView}
use Rattle.bound_query.specs.Report.{total_rows}
use Rattle.bound_query.specs.RunBounds.{cost_over}

-- a call's share is within the share of the bound
share_within : (m n g c : ℕ) → most_steps m n g c ≤ 24 * (m * (1 + bit_length (n + (c + 1) * m)))
share_within m n g c = by (nat_lt 0 g)
  where
    by : (b : Bool) → cond b (24 * (m * (1 + bit_length (n + (c + 1) * m)))) 0 ≤ 24 * (m * (1 + bit_length (n + (c + 1) * m)))
    by true = omega arith
    by false = omega arith

-- with more rows in all, there are more steps
prepared_within : (l t b : ℕ) → t ≤ b → 16 * (l * l * (1 + t)) ≤ 16 * (l * l * (1 + b))
prepared_within l t b h = let more = mul-le (l * l) (1 + t) (l * l) (1 + b) (omega arith) (omega (arith, h)) in omega (arith, more)

module _ {R : Type 0} (d : ℕ) (key : R → KeyOf d 16) (query : Query) (tables : List Table) (some : 1 ≤ length query.items) (shape : Shape) where
  abbrev table_total : ℕ
  table_total = sum_of_all (row_counts query.items tables)

  module _ (plan : PlanView R) (m_same : length plan.tree ≡ length query.items) (n_few : row_count plan.tree ≤ total_rows query tables shape) where
    -- when memory ran out for the engine
    pub started : (before prepared now calls : ℕ) → prepared ≤ before + 16 * (length query.items * length query.items * (1 + table_total))
        → now ≤ prepared + 16 * (length plan.tree * (1 + row_count plan.tree)) → now ≤ before + cost_over query tables shape calls
    started before prepared now calls first second =
        let b = total_rows query tables shape in
        let all = shares (length query.items) b (row_count plan.tree) calls (λ k. 0) some n_few (λ k. omega arith) in
        let engine : 16 * (length plan.tree * (1 + row_count plan.tree)) ≡ 16 * (length query.items * (1 + row_count plan.tree)) = ap (λ m. 16 * (m * (1 + row_count plan.tree))) m_same in
        omega (arith, first, second, prepared_within (length query.items) table_total b (omega arith), all, engine)

    -- with this many calls
    pub called : (before prepared made now calls : ℕ) → prepared ≤ before + 16 * (length query.items * length query.items * (1 + table_total))
        → made ≤ prepared + 16 * (length plan.tree * (1 + row_count plan.tree)) → now ≤ made + steps_for (λ n. share_of (size_of plan.tree) (0 + n)) calls
        → now ≤ before + cost_over query tables shape calls
    called before prepared made now calls first second third =
        let b = total_rows query tables shape in
        let n = row_count plan.tree in
        let more = prepared_within (length query.items) table_total b (omega arith) in
        let all = shares (length query.items) b n calls (λ k. share_of (size_of plan.tree) (0 + k)) some n_few each in
        omega (arith, first, second, third, more, all, ap (λ m. 16 * (m * (1 + n))) m_same)
      where
        each : (k : ℕ) → share_of (size_of plan.tree) (0 + k) ≤ 24 * (length query.items * (1 + bit_length (row_count plan.tree + (k + 1) * length query.items)))
        each k =
            let none : 0 + k ≡ k = omega arith in
            let one = share_within (length plan.tree) (row_count plan.tree) (group_count plan.tree 0) k in
            let moved = ap (share_of (size_of plan.tree)) none in
            omega (arith, one, ap (λ m. 24 * (m * (1 + bit_length (row_count plan.tree + (k + 1) * m)))) m_same, moved)

    -- by an engine over that tree that was not called yet
    pub called_by : (tree : List (NodeView R)) (earlier : ℕ) → tree ≡ plan.tree → earlier ≡ 0 → (before prepared made now calls : ℕ)
        → prepared ≤ before + 16 * (length query.items * length query.items * (1 + table_total)) → made ≤ prepared + 16 * (length plan.tree * (1 + row_count plan.tree))
        → now ≤ made + steps_for (λ n. share_of (size_of tree) (earlier + n)) calls → now ≤ before + cost_over query tables shape calls
    called_by tree earlier same none before prepared made now calls first second third =
        called before prepared made now calls first second
        (subst (λ t. now ≤ made + steps_for (λ n. share_of (size_of t) (0 + n)) calls) same
        (subst (λ k. now ≤ made + steps_for (λ n. share_of (size_of tree) (k + n)) calls) none third))
