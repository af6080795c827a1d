-- What reading does to the text that is left.
use Rattle.std.specs.Prelude.{◌≡◌, ◌≤◌, ◌<◌, ℕ, List, [], length, Option, Some, None, Result, Ok, Err, IfSome}
use Rattle.std.specs.Io.KnownBytes.{Consumes, IsAtEnd, prepend_known}
use Rattle.outer_io.specs.Counts.{Rose}
use Rattle.outer_io.specs.Files.{Files}
use Rattle.outer_io.specs.declared.shelf.Shelf.{Ghosts}
use Rattle.request_frames.specs.Frames.{IsFrame, HasFrame, IsKept}
use Rattle.request_frames.specs.Requests.{Request, IsRequest, HasRequest, IsKeptRequest}
use Rattle.request_frames.specs.declared.fault.RequestFault.{RequestFault}
use Rattle.request_frames.specs.declared.fault.RequestFault.TheVariants as fault
use Rattle.request_frames.specs.declared.frame.Frame.{Frame}
use Rattle.request_frames.specs.declared.request.Request.{Request as KeptRequest}

-- what is known and counted of a reader and its shelf
pub record Source : Type 0 where
  -- the bytes that the reader holds: they were read and are not taken yet
  pub held : List ℕ
  -- what is left of the shelf's open file
  pub rest : Option (List ℕ)
  pub files : Option Files
  pub misses : ℕ
  pub faults : ℕ
  pub taken : ℕ

-- this of a reader that holds these bytes, and of a shelf
abbrev pub source_of : {F : Type 0} → Ghosts F → List ℕ → F → Source
source_of counts held shelf = record {
  held = held;
  rest = counts.rest shelf;
  files = counts.files shelf;
  misses = counts.misses shelf;
  faults = counts.faults shelf;
  taken = counts.taken shelf;
}

-- the text that is left, if it is known
abbrev pub left : Source → Option (List ℕ)
left source = prepend_known source.held source.rest

-- the files stay, and no count falls
pub record GoesOn (old new : Source) : Type 0 where
  pub files : new.files ≡ old.files
  pub misses : old.misses ≤ new.misses
  pub faults : old.faults ≤ new.faults
  pub taken : old.taken ≤ new.taken

-- reading broke off: at the end of the text, or since the shelf failed
abbrev pub BreaksBy : Source → Source → RequestFault → Type 0
BreaksBy old new fault.Bad = IsAtEnd (left new)
BreaksBy old new fault.Failed = Rose old.faults new.faults

-- Reading broke off before `count` bytes were taken. Every byte that was read is taken.
pub record BrokeOff (count : ℕ) (old new : Source) (fault : RequestFault) : Type 0 where
  pub part : List ℕ
  pub fewer : length part < count
  pub took : Consumes (left old) (left new) part
  pub none : new.held ≡ []
  pub cause : BreaksBy old new fault

-- a frame was taken, and this was kept of it
pub record TookFrame (most : ℕ) (old new : Source) (kept : Frame) : Type 0 where
  pub text : List ℕ
  pub bytes : List ℕ
  pub took : Consumes (left old) (left new) text
  pub is_frame : IsFrame text bytes
  pub is_kept : IsKept most bytes kept

-- The shelf failed before the text that was read, of what was left, had what is looked for.
pub record FailedWithin (Has : List ℕ → Type 0) (old new : Source) : Type 0 where
  pub part : List ℕ
  pub took : Consumes (left old) new.rest part
  pub lacks : Has part → ⊥
  pub cause : Rose old.faults new.faults

-- why there is no frame, or no request: the text that is left does not begin with one, if it is
-- known, or the shelf failed first
abbrev pub LacksBy : (List ℕ → Type 0) → Source → Source → RequestFault → Type 0
LacksBy Has old new fault.Bad = IfSome (left old) (λ text. Has text → ⊥)
LacksBy Has old new fault.Failed = FailedWithin Has old new

-- what a call for a frame gave
abbrev pub FrameRead : ℕ → Source → Source → Result Frame RequestFault → Type 0
FrameRead most old new (Ok kept) = TookFrame most old new kept
FrameRead most old new (Err fault) = LacksBy HasFrame old new fault

-- a request was taken, and this was kept of it
pub record TookRequest (old new : Source) (kept : KeptRequest) : Type 0 where
  pub text : List ℕ
  pub request : Request
  pub took : Consumes (left old) (left new) text
  pub is_request : IsRequest text request
  pub is_kept : IsKeptRequest request kept

-- What a call for a request gave: none if the text is at its end.
abbrev pub RequestRead : Source → Source → Result (Option KeptRequest) RequestFault → Type 0
RequestRead old new (Ok None) = IsAtEnd (left old)
RequestRead old new (Ok (Some kept)) = TookRequest old new kept
RequestRead old new (Err fault) = LacksBy HasRequest old new fault
