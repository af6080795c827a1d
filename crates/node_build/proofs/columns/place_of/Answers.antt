use Rattle.std.proofs.Common.{◌≡◌, ◌≤◌, ◌+◌, ℕ, List, [], ◌∷◌, ◌++◌, length, get_or, take, sym, ap, subst, inl, inr, arith}
use Rattle.std.proofs.lemmas.List.{take_all, take_more}
use Rattle.rankings.specs.Order.{IsMember}
use Rattle.rankings.proofs.Members.{get_member, member_parts}
use Rattle.node_build.proofs.columns.place_of.Goals as goal

pub returns-then-variable-number-clause-found : goal.returns-then-variable-number-clause-found
returns-then-variable-number-clause-found c =
    let xs = c.args.variables.now in
    let i = c.loop-variable.variable-index in
    let x : ℕ × ℕ = get_or xs i (0, 0) in
    let same : x.0 ≡ c.args.number = c.if-variable-number.true in
    subst (λ (n : ℕ). IsMember {K = ℕ × ℕ} (n, x.1) xs) same (get_member xs i (0, 0) (omega arith))

pub loop-variable-preserved : goal.loop-variable-preserved
loop-variable-preserved c place m =
    let xs = c.args.variables.now in
    let i = c.loop-variable.variable-index in
    let x : ℕ × ℕ = get_or xs i (0, 0) in
    let more : take (i + 1) xs ≡ take i xs ++ x ∷ [] = take_more xs i (0, 0) (omega arith) in
    elim (member_parts (c.args.number, place) x (take i xs) (subst (λ (l : List (ℕ × ℕ)). IsMember (c.args.number, place) l) more m)) [
      | inl old ↦ c.loop-variable.invariant place old
      | inr e ↦ c.if-variable-number.false (ap (λ (p : ℕ × ℕ). p.0) (sym e))
    ]

pub returns-clause-missing : goal.returns-clause-missing
returns-clause-missing c place m =
    let xs = c.args.variables.now in
    let i = c.loop-variable.variable-index in
    let all : length xs ≤ i = omega arith in
    c.loop-variable.invariant place (subst (λ (l : List (ℕ × ℕ)). IsMember (c.args.number, place) l) (sym (take_all i xs all)) m)
