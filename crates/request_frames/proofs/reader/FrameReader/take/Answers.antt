use Rattle.std.proofs.Common.{◌≡◌, ◌+◌, ◌-◌, ◌++◌, ◌∙◌, ap, sym, subst, take, rules}
use Rattle.std.specs.Io.KnownBytes.{Consumes}
use Rattle.std.proofs.lemmas.Slice.{take-put_mid}
use borrow.Rule.Slice.PartMut.{put_mid}
use Rattle.request_frames.specs.Reading.{left, source_of}
use Rattle.request_frames.proofs.Taking.{GoesOn-held, GoesOn-trans, took_more}
use Rattle.request_frames.proofs.reader.FrameReader.take.Goals as goal

pub bytes-preserved : goal.bytes-preserved
bytes-preserved g c =
    let old = source_of g.F.Shelf c.args.self.now c.args.shelf.now in
    let filled = source_of g.F.Shelf c.fill.new.self c.fill.new.shelf in
    let new = source_of g.F.Shelf c.advance.new.self c.fill.new.shelf in
    let before = c.bytes.invariant in
    let fill = c.fill.ensures in
    let at = c.bytes.at in
    let count = c.min-count.result in
    let bytes = c.bytes.bytes in
    let put = put_mid at (at + count - at) bytes c.copy_from_slice.new.self in
    let written : take (at + count) put ≡ take at bytes ++ take count filled.held =
    take-put_mid at (at + count - at) bytes c.copy_from_slice.new.self (at + count) (search rules) before.within
    ∙ ap (λ l. take at bytes ++ l) (search rules) in
    record {
      goes_on = GoesOn-held old filled new.held (GoesOn-trans _ _ _ before.goes_on fill.goes_on);
      within = search rules;
      size = search rules;
      took =
          subst (Consumes (left old) (left new)) (sym written)
          (took_more (left old) _ filled.held new.held filled.rest (take at bytes) count before.took fill.kept c.advance.ensures);
    }
