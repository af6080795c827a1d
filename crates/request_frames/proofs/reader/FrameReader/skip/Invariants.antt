use Rattle.std.proofs.Common.{◌-◌, ◌≡◌, ◌≤◌, List, ℕ, length}
use Rattle.std.specs.Io.KnownBytes.{Consumes}
use Rattle.request_frames.specs.Reading.{GoesOn, left, source_of}
use Rattle.request_frames.proofs.reader.FrameReader.skip.Given as goal

abbrev pub invariant-bytes : goal.invariant-bytes
invariant-bytes g l =
    let old = source_of g.F.Shelf l.fn.self l.fn.shelf in
    let new = source_of g.F.Shelf l.self l.shelf in
    record {
      goes_on : GoesOn old new;
      within : l.at ≤ l.count;
      took : (part : List ℕ) × (length part ≡ l.at) × Consumes (left old) (left new) part;
    }

abbrev pub decreases-bytes : goal.decreases-bytes
decreases-bytes g l = l.count - l.at
