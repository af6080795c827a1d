-- What a call for a frame gave.
use Rattle.std.proofs.Common.{◌≡◌, ◌≤◌, ℕ, List, [], ◌++◌, length, refl, sym, subst}
use Rattle.std.specs.Io.KnownBytes.{Consumes}
use Rattle.std.proofs.KnownBytes.{Consumes-nil, Consumes-trans}
use Rattle.request_frames.specs.Frames.{HasFrame, IsHead, IsKept}
use Rattle.request_frames.specs.Reading.{BrokeOff, GoesOn, LacksBy, Source, TookFrame, left}
use Rattle.request_frames.specs.declared.fault.RequestFault.{RequestFault}
use Rattle.request_frames.specs.declared.frame.Frame.{Frame}
use Rattle.request_frames.proofs.Heads.{frame_head_room, frame_room}
use Rattle.request_frames.proofs.Lacking.{broke_lacks, lacks_after}
use Rattle.request_frames.proofs.Taking.{GoesOn-refl}

-- the head was not read whole
pub broke_head : (old new : Source) (fault : RequestFault) → BrokeOff 9 old new fault → LacksBy HasFrame old new fault
broke_head old new fault b =
    lacks_after HasFrame (λ text. 9 ≤ length text) old old new [] (GoesOn-refl old) (Consumes-nil (left old)) (λ more f. frame_head_room more f) fault
    (broke_lacks 9 old new fault b)

-- the bytes after a head were not
pub broke_bytes : (old mid new : Source) (head : List ℕ) (size : ℕ) (fault : RequestFault) → IsHead head size → GoesOn old mid → Consumes (left old) (left mid) head
    → BrokeOff size mid new fault → LacksBy HasFrame old new fault
broke_bytes old mid new head size fault h on took b =
    lacks_after HasFrame (λ text. size ≤ length text) old mid new head on took (λ more f. frame_room head more size h f) fault
    (broke_lacks size mid new fault b)

-- a head was taken, and then as many bytes as it says
pub took_frame : (most : ℕ) (old mid new : Source) (head bytes : List ℕ) (size : ℕ) (kept : Frame) → IsHead head size → Consumes (left old) (left mid) head
    → Consumes (left mid) (left new) bytes → length bytes ≡ size → IsKept most bytes kept → TookFrame most old new kept
took_frame most old mid new head bytes size kept h first second long is = record {
  text = head ++ bytes;
  bytes = bytes;
  took = Consumes-trans (left old) (left mid) (left new) head bytes first second;
  is_frame = record { head = head; is_head = subst (IsHead head) (sym long) h; parts = refl };
  is_kept = is;
}
