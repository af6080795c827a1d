use Rattle.std.proofs.Common.{◌≡◌, ◌+◌, ◌<◌, ◌≤◌, ℕ, List, length, get_or, inr, nat_eq, sym, ap, subst, ◌∙◌, arith}
use Rattle.std.proofs.lemmas.Bool.{ne_eqb, cond-false}
use Rattle.tdp_model.specs.KeyTuple.{KeyOf}
use Rattle.tdp_core.specs.TreeView.{NodeView, child_count, child_place, group_count, group_named, group_number, parent, rows, members}
use Rattle.tdp_core.specs.WellFormed.{IsFormed}
use Rattle.tdp_core.proofs.TreeFacts.{member_is_row, group_number_within}
use Rattle.tree_dp.proofs.FirstWalk.{root_lives}
use Rattle.tdp_core.proofs.LoopCounts.{then_less, within_few}
use Rattle.tree_dp.proofs.first_answer.first_row.Goals as goal

two_steps : (start one two : ℕ) → one ≡ start + 1 → two ≡ one + 1 → two ≤ start + 2
two_steps start one two h k = omega (arith, h, k)

below_it : (t q p : ℕ) → p ≡ q → q < t → p < t
below_it t q p e l = omega (arith, e, l)

pub bounds-chosen-above : goal.bounds-chosen-above
bounds-chosen-above g c =
    let low = c.requires.formed.shaped.parents_first c.args.node c.requires.below c.requires.node in
    within_few _ _ _ (below_it _ _ _ (ap (λ s. s.parent) c.shape.ensures) low) c.requires.long

pub group_of-group-requires-clause-node : goal.group_of-group-requires-clause-node
group_of-group-requires-clause-node g c =
    let low = c.requires.formed.shaped.parents_first c.args.node c.requires.below c.requires.node in
    then_less _ _ _ (below_it _ _ _ (ap (λ s. s.parent) c.shape.ensures) low) c.requires.node

pub group_of-group-requires-clause-child : goal.group_of-group-requires-clause-child
group_of-group-requires-clause-child g c =
    subst (λ p. c.child_place-place.result < child_count c.args.tree.now p) (sym (ap (λ s. s.parent) c.shape.ensures))
    c.child_place-place.ensures.within

pub group_of-group-requires-clause-row : goal.group_of-group-requires-clause-row
group_of-group-requires-clause-row g c =
    let low = c.requires.formed.shaped.parents_first c.args.node c.requires.below c.requires.node in
    c.requires.above c.shape.result.now.parent (below_it _ _ _ (ap (λ s. s.parent) c.shape.ensures) low)

module _ {R : Type 0} (d : ℕ) (key : R → KeyOf d 16) (t : List (NodeView R)) (formed : IsFormed d key t) (q : ℕ) (chosen : List ℕ) (below : 0 < q) (node : q < length t)
    (reached : (p : ℕ) → p < q → get_or chosen p 0 < rows t p) where
  -- the group that is named is one of the node's
  named_within : group_number t q (get_or chosen (parent t q) 0) < group_count t q
  named_within =
      group_number_within d key t formed q (get_or chosen (parent t q) 0) (root_lives d key t formed (get_or chosen 0 0) (reached 0 below)) node
      (inr (reached (parent t q) (formed.shaped.parents_first q below node)))

  -- the group that was read, by the parent and the place there that were read
  named_is : (above place group : ℕ) → above ≡ parent t q → place ≡ child_place t q → group ≡ group_named t above (get_or chosen above 0) place
      → group ≡ group_number t q (get_or chosen (parent t q) 0)
  named_is above place group is at named =
      named
      ∙ ap (group_named t above (get_or chosen above 0)) at
      ∙ ap (λ p. group_named t p (get_or chosen p 0) (child_place t q)) is
      ∙ sym (cond-false (nat_eq q 0) 0 (group_named t (parent t q) (get_or chosen (parent t q) 0) (child_place t q)) (ne_eqb q 0 (λ e. omega (arith, e, below))))

pub member-requires-clause-group : goal.member-requires-clause-group
member-requires-clause-group g c =
    let t = c.args.tree.now in
    let q = c.args.node in
    let named = named_is g.R.Rank.KEYS g.R.Rank.key t c.requires.formed q c.args.chosen.now c.requires.below c.requires.node c.requires.above
    c.shape.result.now.parent c.child_place-place.result c.group_of-group.result (ap (λ s. s.parent) c.shape.ensures) c.child_place-place.ensures.place c.group_of-group.ensures.named in
    below_it _ _ _ named (named_within g.R.Rank.KEYS g.R.Rank.key t c.requires.formed q c.args.chosen.now c.requires.below c.requires.node c.requires.above)

pub member-requires-clause-place : goal.member-requires-clause-place
member-requires-clause-place g c =
    c.requires.formed.inhabited c.args.node c.group_of-group.result c.requires.node (member-requires-clause-group g c)

pub returns : goal.returns
returns g c =
    let t = c.args.tree.now in
    let q = c.args.node in
    let d = g.R.Rank.KEYS in
    let key = g.R.Rank.key in
    let n = c.group_of-group.result in
    let named = named_is d key t c.requires.formed q c.args.chosen.now c.requires.below c.requires.node c.requires.above
    c.shape.result.now.parent c.child_place-place.result n (ap (λ s. s.parent) c.shape.ensures) c.child_place-place.ensures.place c.group_of-group.ensures.named in
    let within = below_it _ _ _ named (named_within d key t c.requires.formed q c.args.chosen.now c.requires.below c.requires.node c.requires.above) in
    let full = c.requires.formed.inhabited q n c.requires.node within in
    record {
      first = c.member.ensures.member ∙ ap (λ n. get_or (members t q n) 0 0) named;
      row = below_it _ _ _ c.member.ensures.member (member_is_row d key t c.requires.formed q n 0 c.requires.node full);
      cost = two_steps c.args.steps.now c.group_of-group.new.steps c.member.new.steps c.group_of-group.ensures.counted c.member.ensures.counted;
    }
