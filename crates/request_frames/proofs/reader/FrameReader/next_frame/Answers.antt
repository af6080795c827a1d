use Rattle.std.proofs.Common.{◌≡◌, length, arith, rules, subst}
use Rattle.std.proofs.lemmas.List.{take_at}
use Rattle.outer_io.proofs.HandedOn.{handed_on}
use Rattle.request_frames.specs.Frames.{HasFrame}
use Rattle.request_frames.specs.Reading.{BrokeOff, FrameRead, left, source_of}
use Rattle.request_frames.proofs.Frames.{broke_bytes, broke_head, took_frame}
use Rattle.request_frames.proofs.Heads.{no_head}
use Rattle.request_frames.proofs.Lacking.{text_begins}
use Rattle.request_frames.proofs.reader.FrameReader.next_frame.Goals as goal

pub returns-in_err-take-clause-read : goal.returns-in_err-take-clause-read
returns-in_err-take-clause-read g c =
    let old = source_of g.F.Shelf c.args.self.now c.args.shelf.now in
    let mid = source_of g.F.Shelf c.take.new.self c.take.new.shelf in
    handed_on (FrameRead c.args.most old mid) _ c.in_err-take.field-0.0 c.from_residual.ensures.1
    (broke_head old mid c.in_err-take.field-0.0 c.in_err-take.ensures.broke_off)

pub returns-in_default-clause-read : goal.returns-in_default-clause-read
returns-in_default-clause-read g c =
    let old = source_of g.F.Shelf c.args.self.now c.args.shelf.now in
    let mid = source_of g.F.Shelf c.take.new.self c.take.new.shelf in
    let head = c.take.new.bytes in
    text_begins HasFrame (left old) (left mid) head c.in_ok-take.ensures.took
    (λ more f. no_head head more (search rules) c.in_default.ensures f)

pub returns-in_err-skip-clause-read : goal.returns-in_err-skip-clause-read
returns-in_err-skip-clause-read g c =
    let old = source_of g.F.Shelf c.args.self.now c.args.shelf.now in
    let mid = source_of g.F.Shelf c.take.new.self c.take.new.shelf in
    let new = source_of g.F.Shelf c.skip.new.self c.skip.new.shelf in
    let taken = c.in_ok-take.ensures in
    handed_on (FrameRead c.args.most old new) _ c.in_err-skip.field-0.0 c.from_residual-in_err-skip.ensures.1
    (broke_bytes old mid new c.take.new.bytes c.in-Some.size c.in_err-skip.field-0.0 c.in-Some.ensures taken.goes_on taken.took
    c.in_err-skip.ensures.broke_off)

pub returns-then-size-most-clause-read : goal.returns-then-size-most-clause-read
returns-then-size-most-clause-read g c =
    let old = source_of g.F.Shelf c.args.self.now c.args.shelf.now in
    let mid = source_of g.F.Shelf c.take.new.self c.take.new.shelf in
    let new = source_of g.F.Shelf c.skip.new.self c.skip.new.shelf in
    let left_out = c.in_ok-skip.ensures.took in
    took_frame c.args.most old mid new c.take.new.bytes left_out.0 c.in-Some.size _ c.in-Some.ensures c.in_ok-take.ensures.took left_out.2 left_out.1
    (omega (arith, left_out.1, c.if-size-most.true))

pub returns-in_err-skip-2-clause-read : goal.returns-in_err-skip-2-clause-read
returns-in_err-skip-2-clause-read g c =
    let old = source_of g.F.Shelf c.args.self.now c.args.shelf.now in
    let mid = source_of g.F.Shelf c.take.new.self c.take.new.shelf in
    let new = source_of g.F.Shelf c.skip-then-is_err.new.self c.skip-then-is_err.new.shelf in
    let taken = c.in_ok-take.ensures in
    handed_on (FrameRead c.args.most old new) _ c.in_err-skip-2.field-0.0 c.from_residual-in_err-skip-2.ensures.1
    (broke_bytes old mid new c.take.new.bytes c.in-Some.size c.in_err-skip-2.field-0.0 c.in-Some.ensures taken.goes_on taken.took
    c.in_err-skip-2.ensures.broke_off)

pub returns-then-is_err-clause-read : goal.returns-then-is_err-clause-read
returns-then-is_err-clause-read g c =
    let old = source_of g.F.Shelf c.args.self.now c.args.shelf.now in
    let mid = source_of g.F.Shelf c.take.new.self c.take.new.shelf in
    let new = source_of g.F.Shelf c.skip-then-is_err.new.self c.skip-then-is_err.new.shelf in
    let left_out = c.in_ok-skip-2.ensures.took in
    took_frame c.args.most old mid new c.take.new.bytes left_out.0 c.in-Some.size _ c.in-Some.ensures c.in_ok-take.ensures.took left_out.2 left_out.1 tt

pub returns-in_err-take-2-clause-read : goal.returns-in_err-take-2-clause-read
returns-in_err-take-2-clause-read g c =
    let old = source_of g.F.Shelf c.args.self.now c.args.shelf.now in
    let mid = source_of g.F.Shelf c.take.new.self c.take.new.shelf in
    let new = source_of g.F.Shelf c.take-2.new.self c.take-2.new.shelf in
    let taken = c.in_ok-take.ensures in
    let room : length c.as_mut_slice.result.now ≡ c.in-Some.size = search rules in
    handed_on (FrameRead c.args.most old new) _ c.in_err-take-2.field-0.0 c.from_residual-in_err-take-2.ensures.1
    (broke_bytes old mid new c.take.new.bytes c.in-Some.size c.in_err-take-2.field-0.0 c.in-Some.ensures taken.goes_on taken.took
    (subst (λ n. BrokeOff n mid new c.in_err-take-2.field-0.0) room c.in_err-take-2.ensures.broke_off))

pub returns-clause-read : goal.returns-clause-read
returns-clause-read g c =
    let old = source_of g.F.Shelf c.args.self.now c.args.shelf.now in
    let mid = source_of g.F.Shelf c.take.new.self c.take.new.shelf in
    let new = source_of g.F.Shelf c.take-2.new.self c.take-2.new.shelf in
    let bytes = c.take-2.new.bytes in
    let long : length bytes ≡ c.in-Some.size = search rules in
    took_frame c.args.most old mid new c.take.new.bytes bytes c.in-Some.size _ c.in-Some.ensures c.in_ok-take.ensures.took c.in_ok-take-2.ensures.took long
    (take_at bytes _ _ (search rules), omega (arith, long, c.if-size-most.false))
