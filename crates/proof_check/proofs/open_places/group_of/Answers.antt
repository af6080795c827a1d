use Rattle.std.proofs.Common.{◌≡◌, ◌<◌, ℕ, List, Option, None, Some, length, slice_index, refl, sym, ap, subst, ◌∙◌, inl, inr, arith}
use Rattle.std.specs.Option.{MatchOption}
use Rattle.join_tree.specs.declared.tree.JoinTree.{JoinTree}
use Rattle.tdp_model.specs.KeyTuple.{KeyOf}
use Rattle.tdp_core.specs.RawView.{raw_len}
use Rattle.proof_check.specs.BoundedRows.{BoundedView, bound_ranks, named_bound}
use Rattle.proof_model.specs.QueryProblem.{problem_in}
use Rattle.proof_check.proofs.Nodes.{all_nodes, stored_parent}
use Rattle.proof_check.specs.Levels.{IsGroupOf}
use Rattle.proof_check.proofs.Counts.{at_list, some_of}
use Rattle.proof_check.proofs.open_places.group_of.Goals as goal

pub named_number-requires-clause-node : goal.named_number-requires-clause-node
named_number-requires-clause-node g c =
    let b = c.requires.ready.bounded in
    at_list _ _ _ c.requires.ready.node
    (b.bounded.each_node ∙ all_nodes b.query b.tables c.args.join.now c.requires.ready.ordered c.requires.ready.long)

pub named_number-requires-clause-above : goal.named_number-requires-clause-above
named_number-requires-clause-above g c =
    let b = c.requires.ready.bounded in let join = c.args.join.now in let q = c.args.node in
    let t = problem_in b.query b.tables join in
    let long = c.requires.ready.long in
    let l : q < t.nodes = at_list _ _ _ c.requires.ready.node (all_nodes b.query b.tables join c.requires.ready.ordered long) in
    let some : 0 < q = some_of q q refl c.if-node-eq0.false in
    let up = stored_parent b.query b.tables join q l in
    let row : slice_index c.args.start.now (slice_index join.parent q) < raw_len c.args.tree.now.raw (t.parent q) =
    subst (λ u. slice_index c.args.start.now (slice_index join.parent q) < raw_len c.args.tree.now.raw u) (sym up)
    (c.requires.rows (slice_index join.parent q) (c.requires.ready.ordered.earlier q some c.requires.ready.node)) in
    subst (λ n. slice_index c.args.start.now (slice_index join.parent q) < n) (sym (b.bounded.named_length q some l)) row

pub returns : goal.returns
returns g c =
    let b = c.requires.ready.bounded in let join = c.args.join.now in let tree = c.args.tree.now in
    let q = c.args.node in
    let t = problem_in b.query b.tables join in
    let long = c.requires.ready.long in
    let l : q < t.nodes = at_list _ _ _ c.requires.ready.node (all_nodes b.query b.tables join c.requires.ready.ordered long) in
    let some : 0 < q = some_of q q refl c.if-node-eq0.false in
    let above : ℕ = slice_index c.args.start.now (slice_index join.parent q) in
    let row : above < raw_len tree.raw (t.parent q) =
    subst (λ u. above < raw_len tree.raw u) (sym (stored_parent b.query b.tables join q l))
    (c.requires.rows (slice_index join.parent q) (c.requires.ready.ordered.earlier q some c.requires.ready.node)) in
    subst (λ o. MatchOption o
    ((h : ℕ) → h < length (bound_ranks tree q) → IsGroupOf join tree g.R.Rank.KEYS g.R.Rank.key q c.args.start.now h → ⊥)
    (λ h. (h < length (bound_ranks tree q)) × IsGroupOf join tree g.R.Rank.KEYS g.R.Rank.key q c.args.start.now h))
    (sym c.named_number.ensures)
    (found q above tree join g.R.Rank.KEYS g.R.Rank.key c.args.start.now some refl
    (λ n e. (b.bounded.named_is q above n some l row e).0) (named_bound tree q above) refl)
  where
    found : {R : Type 0} (q above : ℕ) (tree : BoundedView R)
        (join : JoinTree) (d : ℕ)
        (key : R → KeyOf d 16) (start : List ℕ) → 0 < q
        → above ≡ slice_index start (slice_index join.parent q)
        → ((n : ℕ) → named_bound tree q above ≡ Some n → n < length (bound_ranks tree q))
        → (o : Option ℕ) → named_bound tree q above ≡ o
        → MatchOption o ((h : ℕ) → h < length (bound_ranks tree q) → IsGroupOf join tree d key q start h → ⊥)
        (λ h. (h < length (bound_ranks tree q)) × IsGroupOf join tree d key q start h)
    found q above tree join d key start some at inside None e =
        λ h l group. elim group [
          | inl z ↦ absurd (let x = z.0 in omega (arith, x, some))
          | inr x ↦ absurd (let clash : None ≡ Some h = sym e ∙ ap (named_bound tree q) at ∙ x.1 in
              let no : None ≡ Some h → ⊥ = λ w. cc in no clash)
        ]
    found q above tree join d key start some at inside (Some n) e = (inside n e, inr (some, ap (named_bound tree q) (sym at) ∙ e))

pub returns-then-bound_count-eq0 : goal.returns-then-bound_count-eq0
returns-then-bound_count-eq0 g c h l group =
    let none = c.if-bound_count-eq0.true in let e = c.bound_count.ensures in absurd (omega (arith, l, none, e))

pub returns-else-bound_count-eq0 : goal.returns-else-bound_count-eq0
returns-else-bound_count-eq0 g c =
    let e = c.bound_count.ensures in (omega (arith, c.if-bound_count-eq0.false, e), inl (c.if-node-eq0.true, refl))
