use Rattle.std.proofs.Common.{◌≡◌, ◌∷◌, ◌∙◌, [], length, get_or, sym, ap, append_assoc, arith, rules}
use Rattle.std.specs.Vec.Iter.{into_iter_items}
use Rattle.std.proofs.lemmas.List.{nil_from_length}
use Rattle.std.proofs.lemmas.Result.{IfOk-from_err}
use Rattle.union_all.proofs.Begun.{all_begun, begun_more, cost_within, has_next, none_begun}
use Rattle.union_all.proofs.merge.begin.Goals as goal

pub loop-engine-init : goal.loop-engine-init
loop-engine-init g c =
    let whole : into_iter_items c.into_iter-engine-iterator.result ≡ c.args.engines.items = search rules in
    (tt, tt, whole, rw c.requires.none (none_begun _ _ _ c.args.queries.now c.args.steps.now))

pub offset_bounds-queries-len : goal.offset_bounds-queries-len
offset_bounds-queries-len g c =
    let at = c.loop-engine in
    let next = has_next _ _ _ c.args.queries.now c.args.engines.items at.yielded (into_iter_items at.engine-iterator) (into_iter_items c.next.new.self) c.in-Some.engine at.branches.items _ _
    c.requires.each at.invariant.2 c.in-Some.ensures.steps.0 at.invariant.3 in
    omega (arith, next.inside, next.count, c.len.ensures)

pub bounds-queries-len : goal.bounds-queries-len
bounds-queries-len g c =
    let at = c.loop-engine in
    let next = has_next _ _ _ c.args.queries.now c.args.engines.items at.yielded (into_iter_items at.engine-iterator) (into_iter_items c.next.new.self) c.in-Some.engine at.branches.items _ _
    c.requires.each at.invariant.2 c.in-Some.ensures.steps.0 at.invariant.3 in
    omega (arith, next.inside, next.count, c.len.ensures)

pub loop-engine-preserved : goal.loop-engine-preserved
loop-engine-preserved g c =
    let at = c.loop-engine in
    let x = c.in-Some.engine in
    let q = c.index-queries-len.result in
    let steps : into_iter_items at.engine-iterator ≡ x ∷ into_iter_items c.next.new.self = c.in-Some.ensures.steps.0 in
    let next = has_next _ _ _ c.args.queries.now c.args.engines.items at.yielded (into_iter_items at.engine-iterator) (into_iter_items c.next.new.self) x at.branches.items _ _
    c.requires.each at.invariant.2 steps at.invariant.3 in
    let count : c.len.result ≡ length at.branches.items = c.len.ensures ∙ at.branches.ok.0 in
    let index = sym (c.index-queries-len.is ∙ ap (λ k. get_or c.args.queries.now k q) (count ∙ next.count)) in (
      tt,
      tt,
      append_assoc at.yielded (x ∷ []) (into_iter_items c.next.new.self) ∙ rw (← steps) at.invariant.2,
      begun_more _ _ _ c.args.queries.now at.yielded at.branches.items c.push_begun.new.branches.items c.args.steps.now at.steps c.push_begun.new.steps q x at.invariant.3 next.inside index
          c.in_ok-push_begun.ensures.grown c.push_begun.ensures.cost,
    )

pub returns : goal.returns
returns g c =
    let at = c.loop-engine in
    let none : into_iter_items at.engine-iterator ≡ [] = search (rules, nil_from_length) in
    let all = all_begun _ _ _ c.args.queries.now c.args.engines.items at.yielded (into_iter_items at.engine-iterator) at.branches.items _ _
    c.requires.each at.invariant.2 none at.invariant.3 in
    record { begun = all.0; cost = all.1 }

pub returns-in_err-push_begun : goal.returns-in_err-push_begun
returns-in_err-push_begun g c =
    let at = c.loop-engine in
    record {
      begun = IfOk-from_err c.from_residual.result _ c.from_residual.ensures.0;
      cost =
          cost_within _ _ _ c.args.queries.now c.args.engines.items at.yielded (into_iter_items at.engine-iterator) (into_iter_items c.next.new.self) c.in-Some.engine at.branches.items c.args.steps.now at.steps c.push_begun.new.steps
          at.invariant.2 c.in-Some.ensures.steps.0 at.invariant.3 c.push_begun.ensures.cost;
    }
