use Rattle.std.proofs.Common.{◌<◌, ◌≤◌, ◌^◌, ◌∷◌, [], ◌∙◌, Err, Ok, None, length, sym, subst, ap, arith}
use Rattle.std.proofs.lemmas.Result.{IfOk-from_err}
use Rattle.plan_build.specs.Plans.{ArePrepared, HavePlans}
use Rattle.node_build.specs.Nodes.{CapsBelow}
use Rattle.plan_build.specs.RankedPlan.{HasRoom, packed_room}
use Rattle.std.specs.List.{All}
use Rattle.std.proofs.lemmas.List.Elements.{All-weaker}
use Rattle.bound_query.specs.WeighedQuery.{BoundQuery, Fits}
use Rattle.command_input.specs.Input.{InputView, loaded_of}
use Rattle.verdict.specs.AcceptedInput.{found_of, queries_in}
use Rattle.verdict.specs.StageResults.{Pure}
use Rattle.verdict.specs.Verdict.{IsShaped}
use Rattle.anyk_top.specs.Plans.{IsOnePlan, plan_reason, shape_in, shapes_of}
use Rattle.command_input.proofs.Handing.{handed_on}
use Rattle.command_input.proofs.Inputs.{input_view}
use Rattle.anyk_top.proofs.PlanList.{caps_each, flawed_shown, keys_within, one_found, one_item, one_plan, one_prepared, one_refused, planned_shown, several_found, several_refused}
use Rattle.command_input.proofs.Singletons.{only_one}
use Rattle.anyk_top.proofs.planning.plans_of.Goals as goal

pub returns-in-Err : goal.returns-in-Err
returns-in-Err g c =
    let input = input_view c.input.inside in
    let query = c.index-queries-0.result in
    let only = sym c.as_slice-queries.ensures.value ∙ only_one c.as_slice-queries.result.now query
    c.if-queries-eq1.true c.index-queries-0.is in
    let reason = plan_reason None c.in-Err.fault in
    record {
      shaped = subst (λ (i : InputView). Pure (IsShaped (loaded_of i)) (Err reason)) c.input.view_is
          (one_refused input query reason only (flawed_shown query.query input.tables c.in-Err.fault c.in-Err.ensures.refusal));
      plans = tt;
      cost = subst (λ (i : InputView). ArePrepared (queries_in i.queries) i.tables c.args.steps.now c.prepare_ranked.new.steps) c.input.view_is
          (one_prepared input query only c.args.steps.now c.prepare_ranked.new.steps c.in-Err.ensures.cost);
    }

pub returns-in-Ok : goal.returns-in-Ok
returns-in-Ok g c =
    let input = input_view c.input.inside in
    let query = c.index-queries-0.result in
    let only = sym c.as_slice-queries.ensures.value ∙ only_one c.as_slice-queries.result.now query
    c.if-queries-eq1.true c.index-queries-0.is in
    let plan = c.in-Ok.plan in
    let shape = shape_in plan in
    record {
      shaped = subst (λ (i : InputView). IsShaped (loaded_of i) (Ok (found_of (loaded_of i) (shape ∷ [])))) c.input.view_is
          (one_found input query shape only (planned_shown query input.tables input.best plan c.in-Ok.ensures.plan));
      plans = subst (λ (i : InputView). IsOnePlan i.queries i.tables i.best plan) c.input.view_is
          (one_plan c.input.inside.queries.items c.input.inside.tables c.input.inside.best query only plan c.in-Ok.ensures.plan);
      cost = subst (λ (i : InputView). ArePrepared (queries_in i.queries) i.tables c.args.steps.now c.prepare_ranked.new.steps) c.input.view_is
          (one_prepared input query only c.args.steps.now c.prepare_ranked.new.steps c.in-Ok.ensures.cost);
    }

pub have_packed_room-requires : goal.have_packed_room-requires
have_packed_room-requires g c = (c.input.inside.tables, rw c.as_slice-queries.ensures.value c.input.invariant.fits)

pub plans_for-requires-clause-keys : goal.plans_for-requires-clause-keys
plans_for-requires-clause-keys g c =
    let input = input_view c.input.inside in
    let room : All (λ q. HasRoom q input.tables (packed_room 4)) input.queries =
    rw c.as_slice-queries.ensures.value at
    ((c.have_packed_room.ensures input.tables (rw c.as_slice-queries.ensures.value c.input.invariant.fits)).0 c.if-have_packed_room.true) in
    subst (λ (i : InputView). All (λ q. length q.query.order ≤ 1) i.queries) c.input.view_is
    (All-weaker (λ q. HasRoom q input.tables (packed_room 4)) (λ q. length q.query.order ≤ 1) (λ q r. r.keys) input.queries room)

pub plans_for-requires-clause-slots : goal.plans_for-requires-clause-slots
plans_for-requires-clause-slots g c few =
    let input = input_view c.input.inside in
    let room : All (λ q. HasRoom q input.tables (packed_room 4)) input.queries =
    rw c.as_slice-queries.ensures.value at
    ((c.have_packed_room.ensures input.tables (rw c.as_slice-queries.ensures.value c.input.invariant.fits)).0 c.if-have_packed_room.true) in
    subst (λ (i : InputView). All (λ q. length q.query.items ≤ 4) i.queries) c.input.view_is
    (All-weaker (λ q. HasRoom q input.tables (packed_room 4)) (λ q. length q.query.items ≤ 4) (λ q r. r.items) input.queries room)

pub plans_for-requires-clause-limit : goal.plans_for-requires-clause-limit
plans_for-requires-clause-limit g c =
    let input = input_view c.input.inside in
    let room : All (λ q. HasRoom q input.tables (packed_room 4)) input.queries =
    rw c.as_slice-queries.ensures.value at
    ((c.have_packed_room.ensures input.tables (rw c.as_slice-queries.ensures.value c.input.invariant.fits)).0 c.if-have_packed_room.true) in
    subst (λ (i : InputView). All (λ q. CapsBelow (2 ^ 43) q i.tables) i.queries) c.input.view_is
    (All-weaker (λ q. HasRoom q input.tables (packed_room 4)) (λ q. CapsBelow (2 ^ 43) q input.tables) (λ q r. r.limit) input.queries room)

pub have_packed_room-requires-else-have_packed_room : goal.have_packed_room-requires-else-have_packed_room
have_packed_room-requires-else-have_packed_room g c = (c.input.inside.tables, rw c.as_slice-queries.ensures.value c.input.invariant.fits)

pub plans_for-requires-then-have_packed_room-2-clause-keys : goal.plans_for-requires-then-have_packed_room-2-clause-keys
plans_for-requires-then-have_packed_room-2-clause-keys g c =
    let input = input_view c.input.inside in
    let room : All (λ q. HasRoom q input.tables (packed_room 7)) input.queries =
    rw c.as_slice-queries.ensures.value at
    ((c.have_packed_room-else-have_packed_room.ensures input.tables (rw c.as_slice-queries.ensures.value c.input.invariant.fits)).0 c.if-have_packed_room-2.true) in
    subst (λ (i : InputView). All (λ q. length q.query.order ≤ 1) i.queries) c.input.view_is
    (All-weaker (λ q. HasRoom q input.tables (packed_room 7)) (λ q. length q.query.order ≤ 1) (λ q r. r.keys) input.queries room)

pub plans_for-requires-then-have_packed_room-2-clause-slots : goal.plans_for-requires-then-have_packed_room-2-clause-slots
plans_for-requires-then-have_packed_room-2-clause-slots g c few =
    let input = input_view c.input.inside in
    let room : All (λ q. HasRoom q input.tables (packed_room 7)) input.queries =
    rw c.as_slice-queries.ensures.value at
    ((c.have_packed_room-else-have_packed_room.ensures input.tables (rw c.as_slice-queries.ensures.value c.input.invariant.fits)).0 c.if-have_packed_room-2.true) in
    subst (λ (i : InputView). All (λ q. length q.query.items ≤ 7) i.queries) c.input.view_is
    (All-weaker (λ q. HasRoom q input.tables (packed_room 7)) (λ q. length q.query.items ≤ 7) (λ q r. r.items) input.queries room)

pub plans_for-requires-then-have_packed_room-2-clause-limit : goal.plans_for-requires-then-have_packed_room-2-clause-limit
plans_for-requires-then-have_packed_room-2-clause-limit g c =
    let input = input_view c.input.inside in
    let room : All (λ q. HasRoom q input.tables (packed_room 7)) input.queries =
    rw c.as_slice-queries.ensures.value at
    ((c.have_packed_room-else-have_packed_room.ensures input.tables (rw c.as_slice-queries.ensures.value c.input.invariant.fits)).0 c.if-have_packed_room-2.true) in
    subst (λ (i : InputView). All (λ q. CapsBelow (2 ^ 43) q i.tables) i.queries) c.input.view_is
    (All-weaker (λ q. HasRoom q input.tables (packed_room 7)) (λ q. CapsBelow (2 ^ 43) q input.tables) (λ q r. r.limit) input.queries room)

pub plans_for-requires-then-have_places-clause-limit : goal.plans_for-requires-then-have_places-clause-limit
plans_for-requires-then-have_places-clause-limit g c =
    subst (λ (i : InputView). All (λ q. CapsBelow (2 ^ 127) q i.tables) i.queries) c.input.view_is
    (caps_each c.input.inside.tables c.input.inside.queries.items c.input.invariant.fits)

pub plans_for-requires-then-keys-le1-clause-keys : goal.plans_for-requires-then-keys-le1-clause-keys
plans_for-requires-then-keys-le1-clause-keys g c =
    let keys = c.input.invariant.keys in
    let few = c.if-keys-le1.true in
    let count = c.keys.ensures.keys in
    subst (λ (i : InputView). All (λ q. length q.query.order ≤ 1) i.queries) c.input.view_is
    (keys_within keys.0 1 c.input.inside.queries.items c.index-queries-0.result keys.1
    (rw c.as_slice-queries.ensures.value at c.index-queries-0.is) c.input.invariant.some (omega (arith, few, count)))

pub plans_for-requires-then-keys-le1-clause-limit : goal.plans_for-requires-then-keys-le1-clause-limit
plans_for-requires-then-keys-le1-clause-limit g c =
    subst (λ (i : InputView). All (λ q. CapsBelow (2 ^ 127) q i.tables) i.queries) c.input.view_is
    (caps_each c.input.inside.tables c.input.inside.queries.items c.input.invariant.fits)

pub plans_for-requires-else-keys-le1-clause-keys : goal.plans_for-requires-else-keys-le1-clause-keys
plans_for-requires-else-keys-le1-clause-keys g c =
    let keys = c.input.invariant.keys in
    let few = c.keys.ensures.limit in
    let count = c.keys.ensures.keys in
    subst (λ (i : InputView). All (λ q. length q.query.order ≤ 8) i.queries) c.input.view_is
    (keys_within keys.0 8 c.input.inside.queries.items c.index-queries-0.result keys.1
    (rw c.as_slice-queries.ensures.value at c.index-queries-0.is) c.input.invariant.some (omega (arith, few, count)))

pub plans_for-requires-else-keys-le1-clause-limit : goal.plans_for-requires-else-keys-le1-clause-limit
plans_for-requires-else-keys-le1-clause-limit g c =
    subst (λ (i : InputView). All (λ q. CapsBelow (2 ^ 127) q i.tables) i.queries) c.input.view_is
    (caps_each c.input.inside.tables c.input.inside.queries.items c.input.invariant.fits)

pub prepare_ranked-requires-clause-fits : goal.prepare_ranked-requires-clause-fits
prepare_ranked-requires-clause-fits g c =
    let query = c.index-queries-0.result in
    let some = c.input.invariant.some in
    subst (λ q. Fits q c.input.inside.tables) (sym (rw c.as_slice-queries.ensures.value at c.index-queries-0.is))
    (c.input.invariant.fits 0 query (omega (arith, some)))

pub prepare_ranked-requires-clause-item : goal.prepare_ranked-requires-clause-item
prepare_ranked-requires-clause-item g c =
    let query = c.index-queries-0.result in
    let only = sym c.as_slice-queries.ensures.value ∙ only_one c.as_slice-queries.result.now query
    c.if-queries-eq1.true c.index-queries-0.is in
    one_item c.input.inside.best c.input.inside.queries.items query only c.input.invariant.item
