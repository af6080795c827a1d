use Rattle.std.proofs.Common.{◌≡◌, ◌+◌, ℕ, Option, length, sym, subst, arith}
use Rattle.union_all.specs.Firsts.{IsFirstBranch}
use Rattle.union_all.specs.Merge.{lists_of, queries_of}
use Rattle.union_all.proofs.firsts.first_branch.Goals.{then-is_sooner, else-is_sooner}
use Rattle.union_all.proofs.firsts.first_branch.Goals as goal

pub loop-b-init : goal.loop-b-init
loop-b-init g c n inside = absurd (omega arith)

pub is_sooner-requires-clause-first : goal.is_sooner-requires-clause-first
is_sooner-requires-clause-first g c = c.loop-b.invariant

pub loop-b-preserved : goal.loop-b-preserved
loop-b-preserved g c =
    let branches = c.args.branches.now in
    let tables = c.args.tables.now in
    elim c.if-is_sooner.branch [
      | then-is_sooner w ↦
          subst (λ (o : Option ℕ). IsFirstBranch (queries_of branches) tables (lists_of branches) (c.loop-b.b + 1) o) (sym w.first-is) (rw w.if-is_sooner.true at c.is_sooner.ensures)
      | else-is_sooner w ↦
          subst (λ (o : Option ℕ). IsFirstBranch (queries_of branches) tables (lists_of branches) (c.loop-b.b + 1) o) (sym w.first-is) (rw w.if-is_sooner.false at c.is_sooner.ensures)
    ]

pub returns : goal.returns
returns g c =
    let branches = c.args.branches.now in
    let all : c.loop-b.b ≡ length branches = omega arith in
    subst (λ (n : ℕ). IsFirstBranch (queries_of branches) c.args.tables.now (lists_of branches) n c.loop-b.first) all c.loop-b.invariant
