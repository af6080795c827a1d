use Rattle.std.proofs.Common.{◌<◌, ◌≤◌, ◌+◌, ℕ, List, [], ◌∷◌, ◌++◌, length, get_or, refl, take, sym, subst, arith}
use Rattle.bound_query.proofs.Lists.{at_any}
use Rattle.rankings.proofs.Members.{get_member}
use Rattle.node_build.proofs.Sharing.{SoFar, none_shared, shared_all, shared_more, shared_skip}
use Rattle.node_build.proofs.columns.shared_columns.Goals as goal

pub loop-variable-preserved-in_default : goal.loop-variable-preserved-in_default
loop-variable-preserved-in_default c =
    let xs = c.variables_of-variable-items.result.now in
    let i = c.loop-variable.variable-index in
    let v : ℕ × ℕ = get_or xs i (0, 0) in
    let inside : i < length xs = omega arith in
    shared_skip c.args.query.now c.args.item c.args.other xs i v c.loop-variable.columns.items c.loop-variable.other_columns.items inside (at_any xs i (0, 0) v inside)
    (λ q h. c.in_default.ensures.missing q ((c.variables_of-others.ensures.variables.members (v.0, q)).1 h)) c.loop-variable.invariant

pub loop-variable-preserved : goal.loop-variable-preserved
loop-variable-preserved c =
    let xs = c.variables_of-variable-items.result.now in
    let i = c.loop-variable.variable-index in
    let v : ℕ × ℕ = get_or xs i (0, 0) in
    let inside : i < length xs = omega arith in
    let here = shared_more c.args.query.now c.args.item c.args.other xs i v c.in-Some.place c.loop-variable.columns.items c.loop-variable.other_columns.items inside (at_any xs i (0, 0) v inside)
    ((c.variables_of-variable-items.ensures.variables.members v).0 (get_member xs i (0, 0) inside))
    ((c.variables_of-others.ensures.variables.members (v.0, c.in-Some.place)).0 c.in-Some.ensures.found) c.loop-variable.invariant in
    subst (λ (l : List ℕ). SoFar c.args.query.now c.args.item c.args.other (take (i + 1) xs) l c.push-in-loop-variable.new.self.items) (sym c.in_ok-push.ensures.items)
    (subst (λ (l : List ℕ). SoFar c.args.query.now c.args.item c.args.other (take (i + 1) xs) (c.loop-variable.columns.items ++ v.1 ∷ []) l) (sym c.in_ok-push-2.ensures.items) here)

pub returns : goal.returns
returns c =
    let xs = c.variables_of-variable-items.result.now in
    let i = c.loop-variable.variable-index in
    let all : length xs ≤ i = omega arith in
    shared_all c.args.query.now c.args.item c.args.other xs i c.loop-variable.columns.items c.loop-variable.other_columns.items all
    (λ v h. (c.variables_of-variable-items.ensures.variables.members v).1 h) c.loop-variable.invariant

pub loop-variable-init : goal.loop-variable-init
loop-variable-init c =
    let first = take 0 c.variables_of-variable-items.result.now in
    subst (λ (l : List ℕ). SoFar c.args.query.now c.args.item c.args.other first l c.new-other_columns.result.items) (sym c.new-columns.ensures.items)
    (subst (SoFar c.args.query.now c.args.item c.args.other first []) (sym c.new-other_columns.ensures.items) (none_shared c.args.query.now c.args.item c.args.other first refl))
