use Rattle.std.proofs.Common.{arith}
use Rattle.node_build.proofs.Shaped.{caps_small}
use Rattle.plan_build.proofs.Rooms.{denied, lex_least, middle_least, packed_least, small_lex_least, sum_least, wide_packed_least}
use Rattle.plan_build.proofs.ranked_plan.prepare_ranked.Goals as goal

pub prepare_of-requires-clause-ranks : goal.prepare_of-requires-clause-ranks
prepare_of-requires-clause-ranks g c =
    let room = (c.has_packed_room.ensures c.args.tables.now c.requires.fits).0 c.if-has_packed_room.true in
    record { fits = c.requires.fits; keys = room.keys; items = room.items; limit = room.limit }

pub prepare_of-requires-then-has_packed_room-2-clause-ranks : goal.prepare_of-requires-then-has_packed_room-2-clause-ranks
prepare_of-requires-then-has_packed_room-2-clause-ranks g c =
    let room = (c.has_packed_room-else-has_packed_room.ensures c.args.tables.now c.requires.fits).0 c.if-has_packed_room-2.true in
    record { fits = c.requires.fits; keys = room.keys; items = room.items; limit = room.limit }

pub prepare_of-requires-then-has_places-clause-ranks : goal.prepare_of-requires-then-has_places-clause-ranks
prepare_of-requires-then-has_places-clause-ranks g c =
    let places = c.has_places.ensures.0 c.if-has_places.true in
    record { fits = c.requires.fits; keys = places.0; items = places.1; limit = caps_small c.args.query.now c.args.tables.now c.requires.fits }

pub prepare_of-requires-then-has_places-2-clause-ranks : goal.prepare_of-requires-then-has_places-2-clause-ranks
prepare_of-requires-then-has_places-2-clause-ranks g c =
    let places = c.has_places-else-has_places.ensures.0 c.if-has_places-2.true in
    record { fits = c.requires.fits; keys = places.0; items = places.1; limit = caps_small c.args.query.now c.args.tables.now c.requires.fits }

pub prepare_of-requires-then-has_places-3-clause-ranks : goal.prepare_of-requires-then-has_places-3-clause-ranks
prepare_of-requires-then-has_places-3-clause-ranks g c =
    let places = c.has_places-else-has_places-2.ensures.0 c.if-has_places-3.true in
    record { fits = c.requires.fits; keys = places.0; items = places.1; limit = caps_small c.args.query.now c.args.tables.now c.requires.fits }

pub prepare_of-requires-else-has_places-3-clause-ranks : goal.prepare_of-requires-else-has_places-3-clause-ranks
prepare_of-requires-else-has_places-3-clause-ranks g c = record { fits = c.requires.fits; keys = omega arith; items = omega arith; limit = caps_small c.args.query.now c.args.tables.now c.requires.fits }

pub returns-in-Ok : goal.returns-in-Ok
returns-in-Ok g c =
    record {
      plan = c.in-Ok.ensures.plan;
      smallest = packed_least c.args.query.now c.args.tables.now c.requires.fits c.in-Ok.plan ((c.has_packed_room.ensures c.args.tables.now c.requires.fits).0 c.if-has_packed_room.true);
      refusal = tt;
      cost = c.in-Ok.ensures.cost;
    }

pub returns-in-Err : goal.returns-in-Err
returns-in-Err g c = record { plan = tt; smallest = tt; refusal = c.in-Err.ensures.refusal; cost = c.in-Err.ensures.cost }

pub returns-in-Ok-prepare_of : goal.returns-in-Ok-prepare_of
returns-in-Ok-prepare_of g c =
    record {
      plan = c.in-Ok-prepare_of.ensures.plan;
      smallest = wide_packed_least c.args.query.now c.args.tables.now c.requires.fits c.in-Ok-prepare_of.plan (denied c.has_packed_room.result c.if-has_packed_room.false (c.has_packed_room.ensures c.args.tables.now c.requires.fits))
          ((c.has_packed_room-else-has_packed_room.ensures c.args.tables.now c.requires.fits).0 c.if-has_packed_room-2.true);
      refusal = tt;
      cost = c.in-Ok-prepare_of.ensures.cost;
    }

pub returns-in-Err-prepare_of : goal.returns-in-Err-prepare_of
returns-in-Err-prepare_of g c = record { plan = tt; smallest = tt; refusal = c.in-Err-prepare_of.ensures.refusal; cost = c.in-Err-prepare_of.ensures.cost }

pub returns-in-Ok-prepare_of-2 : goal.returns-in-Ok-prepare_of-2
returns-in-Ok-prepare_of-2 g c =
    record {
      plan = c.in-Ok-prepare_of-2.ensures.plan;
      smallest = middle_least c.args.query.now c.args.tables.now c.requires.fits (denied c.has_packed_room-else-has_packed_room.result c.if-has_packed_room-2.false (c.has_packed_room-else-has_packed_room.ensures c.args.tables.now c.requires.fits)) c.in-Ok-prepare_of-2.plan (c.has_places.ensures.0 c.if-has_places.true);
      refusal = tt;
      cost = c.in-Ok-prepare_of-2.ensures.cost;
    }

pub returns-in-Err-prepare_of-2 : goal.returns-in-Err-prepare_of-2
returns-in-Err-prepare_of-2 g c = record { plan = tt; smallest = tt; refusal = c.in-Err-prepare_of-2.ensures.refusal; cost = c.in-Err-prepare_of-2.ensures.cost }

pub returns-in-Ok-prepare_of-3 : goal.returns-in-Ok-prepare_of-3
returns-in-Ok-prepare_of-3 g c =
    record {
      plan = c.in-Ok-prepare_of-3.ensures.plan;
      smallest = small_lex_least c.args.query.now c.args.tables.now c.requires.fits (denied c.has_packed_room-else-has_packed_room.result c.if-has_packed_room-2.false (c.has_packed_room-else-has_packed_room.ensures c.args.tables.now c.requires.fits)) c.in-Ok-prepare_of-3.plan (c.has_places-else-has_places.ensures.0 c.if-has_places-2.true);
      refusal = tt;
      cost = c.in-Ok-prepare_of-3.ensures.cost;
    }

pub returns-in-Err-prepare_of-3 : goal.returns-in-Err-prepare_of-3
returns-in-Err-prepare_of-3 g c = record { plan = tt; smallest = tt; refusal = c.in-Err-prepare_of-3.ensures.refusal; cost = c.in-Err-prepare_of-3.ensures.cost }

pub returns-in-Ok-prepare_of-4 : goal.returns-in-Ok-prepare_of-4
returns-in-Ok-prepare_of-4 g c =
    record {
      plan = c.in-Ok-prepare_of-4.ensures.plan;
      smallest = sum_least c.args.query.now c.args.tables.now c.requires.fits (denied c.has_packed_room-else-has_packed_room.result c.if-has_packed_room-2.false (c.has_packed_room-else-has_packed_room.ensures c.args.tables.now c.requires.fits)) (denied c.has_places.result c.if-has_places.false c.has_places.ensures)
          (denied c.has_places-else-has_places.result c.if-has_places-2.false c.has_places-else-has_places.ensures)
          c.in-Ok-prepare_of-4.plan (c.has_places-else-has_places-2.ensures.0 c.if-has_places-3.true);
      refusal = tt;
      cost = c.in-Ok-prepare_of-4.ensures.cost;
    }

pub returns-in-Err-prepare_of-4 : goal.returns-in-Err-prepare_of-4
returns-in-Err-prepare_of-4 g c = record { plan = tt; smallest = tt; refusal = c.in-Err-prepare_of-4.ensures.refusal; cost = c.in-Err-prepare_of-4.ensures.cost }

pub returns-in-Ok-prepare_of-5 : goal.returns-in-Ok-prepare_of-5
returns-in-Ok-prepare_of-5 g c =
    record {
      plan = c.in-Ok-prepare_of-5.ensures.plan;
      smallest = lex_least c.args.query.now c.args.tables.now c.requires.fits (denied c.has_packed_room-else-has_packed_room.result c.if-has_packed_room-2.false (c.has_packed_room-else-has_packed_room.ensures c.args.tables.now c.requires.fits)) (denied c.has_places.result c.if-has_places.false c.has_places.ensures)
          (denied c.has_places-else-has_places.result c.if-has_places-2.false c.has_places-else-has_places.ensures)
          c.in-Ok-prepare_of-5.plan (denied c.has_places-else-has_places-2.result c.if-has_places-3.false c.has_places-else-has_places-2.ensures) (omega arith, omega arith);
      refusal = tt;
      cost = c.in-Ok-prepare_of-5.ensures.cost;
    }

pub returns-in-Err-prepare_of-5 : goal.returns-in-Err-prepare_of-5
returns-in-Err-prepare_of-5 g c = record { plan = tt; smallest = tt; refusal = c.in-Err-prepare_of-5.ensures.refusal; cost = c.in-Err-prepare_of-5.ensures.cost }
