use Rattle.std.proofs.Common.{◌++◌, take, arith, rules, length-append, length-take-le}
use Rattle.request_frames.proofs.Taking.{GoesOn-held, GoesOn-trans, took_more}
use Rattle.request_frames.proofs.reader.FrameReader.skip.Goals as goal

pub bytes-preserved : goal.bytes-preserved
bytes-preserved g c =
    let before = c.bytes.invariant in
    let fill = c.fill.ensures in
    let held = c.fill.new.self in
    let step = c.min-step.result in
    let front = length-take-le step held (search rules) in
    record {
      goes_on = GoesOn-held _ _ _ (GoesOn-trans _ _ _ before.goes_on fill.goes_on);
      within = search rules;
      took = (
        before.took.0 ++ take step held,
        omega (arith, length-append before.took.0 (take step held), before.took.1, front),
        took_more _ _ held _ _ before.took.0 step before.took.2 fill.kept c.advance.ensures,
      );
    }
