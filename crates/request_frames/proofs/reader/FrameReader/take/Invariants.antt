use Rattle.std.proofs.Common.{◌-◌, ◌≡◌, ◌≤◌, length, take}
use Rattle.std.specs.Io.KnownBytes.{Consumes}
use Rattle.request_frames.specs.Reading.{GoesOn, left, source_of}
use Rattle.request_frames.proofs.reader.FrameReader.take.Given as goal

abbrev pub invariant-bytes : goal.invariant-bytes
invariant-bytes g l =
    let old = source_of g.F.Shelf l.fn.self l.fn.shelf in
    let new = source_of g.F.Shelf l.self l.shelf in
    record {
      goes_on : GoesOn old new;
      within : l.at ≤ length l.bytes;
      size : length l.bytes ≡ length l.initial.bytes;
      took : Consumes (left old) (left new) (take l.at l.bytes);
    }

abbrev pub decreases-bytes : goal.decreases-bytes
decreases-bytes g l = length l.initial.bytes - l.at
