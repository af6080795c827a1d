use Rattle.std.proofs.Common.{[], ◌++◌, refl}
use Rattle.std.proofs.KnownBytes.{Consumes-trans}
use Rattle.outer_io.proofs.HandedOn.{handed_on}
use Rattle.request_frames.specs.Frames.{HasFrame}
use Rattle.request_frames.specs.Reading.{RequestRead, left, source_of}
use Rattle.request_frames.specs.Requests.{HasRequest}
use Rattle.request_frames.proofs.Lacking.{first_frame, lacks_after, second_frame, third_frame}
use Rattle.request_frames.proofs.Taking.{GoesOn-trans, Keeps-nothing}
use Rattle.request_frames.proofs.request.read_request.Goals as goal

pub returns-in_err-next_frame-clause-read : goal.returns-in_err-next_frame-clause-read
returns-in_err-next_frame-clause-read g c =
    let old = source_of g.F.Shelf c.args.reader.now c.args.shelf.now in
    let filled = source_of g.F.Shelf c.fill.new.self c.fill.new.shelf in
    let new = source_of g.F.Shelf c.next_frame.new.self c.next_frame.new.shelf in
    let fault = c.in_err-next_frame.field-0.0 in
    handed_on (RequestRead old new) _ fault c.from_residual-in_err-next_frame.ensures.1
    (lacks_after HasRequest HasFrame old filled new [] c.in_ok-fill.ensures.goes_on (Keeps-nothing _ _ c.in_ok-fill.ensures.kept)
    (λ more r. first_frame more r) fault c.in_err-next_frame.ensures.read)

pub returns-in_err-next_frame-2-clause-read : goal.returns-in_err-next_frame-2-clause-read
returns-in_err-next_frame-2-clause-read g c =
    let old = source_of g.F.Shelf c.args.reader.now c.args.shelf.now in
    let filled = source_of g.F.Shelf c.fill.new.self c.fill.new.shelf in
    let first = source_of g.F.Shelf c.next_frame.new.self c.next_frame.new.shelf in
    let new = source_of g.F.Shelf c.next_frame-2.new.self c.next_frame-2.new.shelf in
    let fault = c.in_err-next_frame-2.field-0.0 in
    let words = c.in_ok-next_frame.ensures.read in
    handed_on (RequestRead old new) _ fault c.from_residual-in_err-next_frame-2.ensures.1
    (lacks_after HasRequest HasFrame old first new words.text (GoesOn-trans _ _ _ c.in_ok-fill.ensures.goes_on c.in_ok-next_frame.ensures.goes_on)
    (Consumes-trans (left old) (left filled) (left first) [] words.text (Keeps-nothing _ _ c.in_ok-fill.ensures.kept) words.took)
    (λ more r. second_frame words.text words.bytes more words.is_frame r) fault c.in_err-next_frame-2.ensures.read)

pub returns-in_err-next_frame-3-clause-read : goal.returns-in_err-next_frame-3-clause-read
returns-in_err-next_frame-3-clause-read g c =
    let old = source_of g.F.Shelf c.args.reader.now c.args.shelf.now in
    let filled = source_of g.F.Shelf c.fill.new.self c.fill.new.shelf in
    let first = source_of g.F.Shelf c.next_frame.new.self c.next_frame.new.shelf in
    let second = source_of g.F.Shelf c.next_frame-2.new.self c.next_frame-2.new.shelf in
    let new = source_of g.F.Shelf c.next_frame-3.new.self c.next_frame-3.new.shelf in
    let fault = c.in_err-next_frame-3.field-0.0 in
    let words = c.in_ok-next_frame.ensures.read in
    let query = c.in_ok-next_frame-2.ensures.read in
    let on = GoesOn-trans _ _ _ (GoesOn-trans _ _ _ c.in_ok-fill.ensures.goes_on c.in_ok-next_frame.ensures.goes_on) c.in_ok-next_frame-2.ensures.goes_on in
    let took = Consumes-trans (left old) (left filled) (left first) [] words.text (Keeps-nothing _ _ c.in_ok-fill.ensures.kept) words.took in
    handed_on (RequestRead old new) _ fault c.from_residual-in_err-next_frame-3.ensures.1
    (lacks_after HasRequest HasFrame old second new (words.text ++ query.text) on
    (Consumes-trans (left old) (left first) (left second) words.text query.text took query.took)
    (λ more r. third_frame words.text query.text words.bytes query.bytes more words.is_frame query.is_frame r) fault c.in_err-next_frame-3.ensures.read)

pub returns-clause-read : goal.returns-clause-read
returns-clause-read g c =
    let old = source_of g.F.Shelf c.args.reader.now c.args.shelf.now in
    let filled = source_of g.F.Shelf c.fill.new.self c.fill.new.shelf in
    let first = source_of g.F.Shelf c.next_frame.new.self c.next_frame.new.shelf in
    let second = source_of g.F.Shelf c.next_frame-2.new.self c.next_frame-2.new.shelf in
    let new = source_of g.F.Shelf c.next_frame-3.new.self c.next_frame-3.new.shelf in
    let words = c.in_ok-next_frame.ensures.read in
    let query = c.in_ok-next_frame-2.ensures.read in
    let side = c.in_ok-next_frame-3.ensures.read in
    let start = Consumes-trans (left old) (left filled) (left first) [] words.text (Keeps-nothing _ _ c.in_ok-fill.ensures.kept) words.took in
    record {
      text = words.text ++ (query.text ++ side.text);
      request = record { words = words.bytes; query = query.bytes; side = side.bytes };
      took = Consumes-trans (left old) (left first) (left new) words.text (query.text ++ side.text) start
          (Consumes-trans (left first) (left second) (left new) query.text side.text query.took side.took);
      is_request = record {
        words = words.text;
        query = query.text;
        side = side.text;
        words_frame = words.is_frame;
        query_frame = query.is_frame;
        side_frame = side.is_frame;
        parts = refl;
      };
      is_kept = record { words = words.is_kept; query = query.is_kept; side = side.is_kept };
    }
