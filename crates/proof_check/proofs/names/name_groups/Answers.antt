use Rattle.std.proofs.Common.{◌≡◌, ℕ, ◌<◌, ◌≤◌, None, Some, refl, sym, ap, subst, arith}
use Rattle.std.proofs.lemmas.Result.{IfOk-from_err}
use Rattle.tdp_core.specs.RawView.{shape_children}
use Rattle.std.proofs.lemmas.Option.{same_Some}
use Rattle.proof_check.proofs.Naming.{named_from, named_root}
use Rattle.proof_check.proofs.names.name_groups.Goals as goal

parent_within : (p q node n : ℕ) → p ≡ q → q < node → node < n → p < n
parent_within p q node n e low inside = omega (arith, e, low, inside)

no_child : (q n : ℕ) → None ≡ Some q → q < n
no_child q n e = cc

at_root : (n : ℕ) → n ≤ 0 → 0 < n → ⊥
at_root n l some = omega (arith, l, some)

pub row_numbers-requires-clause-child : goal.row_numbers-requires-clause-child
row_numbers-requires-clause-child g c q e = no_child q _ e

pub child_place-child-requires-clause-below_root : goal.child_place-child-requires-clause-below_root
child_place-child-requires-clause-below_root g c = c.if-node-gt0.true

pub child_place-child-requires-clause-node : goal.child_place-child-requires-clause-node
child_place-child-requires-clause-node g c = c.requires.node

pub row_numbers-requires-then-node-gt0-clause-groups : goal.row_numbers-requires-then-node-gt0-clause-groups
row_numbers-requires-then-node-gt0-clause-groups g c = c.requires.groups

pub returns-else-node-gt0 : goal.returns-else-node-gt0
returns-else-node-gt0 g c = record {
  named = named_root c.args.raw.now c.args.groups.now c.args.node c.in_ok-own.own.items _ (at_root _ c.if-node-gt0.false)
      c.in_ok-own.ensures;
  ranks = refl;
}

pub returns-in_err-own : goal.returns-in_err-own
returns-in_err-own g c = record {
  named = IfOk-from_err c.from_residual.result _ c.from_residual.ensures.0;
  ranks = refl;
}

pub row_numbers-requires-then-node-gt0-clause-node : goal.row_numbers-requires-then-node-gt0-clause-node
row_numbers-requires-then-node-gt0-clause-node g c =
    parent_within _ _ _ _ (ap (λ s. s.parent) c.shape.ensures) c.child_place-child.ensures.above c.requires.node

pub row_numbers-requires-then-node-gt0-clause-child : goal.row_numbers-requires-then-node-gt0-clause-child
row_numbers-requires-then-node-gt0-clause-child g c q e =
    let shapes = c.args.raw.now.shapes in
    subst (λ x. x < shape_children shapes c.shape.result.now.parent) (same_Some c.child_place-child.result q e)
    (subst (λ p. c.child_place-child.result < shape_children shapes p) (sym (ap (λ s. s.parent) c.shape.ensures))
    c.child_place-child.ensures.within)

pub returns-in_ok-named : goal.returns-in_ok-named
returns-in_ok-named g c = record {
  named = named_from c.args.raw.now c.args.groups.now c.args.node c.shape.result.now.parent c.child_place-child.result
      c.in_ok-own.own.items c.in_ok-named.named.items (ap (λ s. s.parent) c.shape.ensures) c.child_place-child.ensures.place
      c.in_ok-own.ensures c.in_ok-named.ensures;
  ranks = refl;
}

pub returns-in_err-named : goal.returns-in_err-named
returns-in_err-named g c = record {
  named = IfOk-from_err c.from_residual-in_err-named.result _ c.from_residual-in_err-named.ensures.0;
  ranks = refl;
}
