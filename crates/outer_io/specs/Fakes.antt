-- A shelf and a sink in memory that fail at calls of given numbers.
use Rattle.std.specs.Prelude.{ℕ, ◌==◌, ◌&&◌, ◌||◌, ◌-◌, ◌++◌, nat_lt, not, Bool, List, [], length, take, drop, Option, Some, None, min, unwrap_or, is_some, if◌then◌else◌}
use Rattle.std.specs.List.{list_any}
use Rattle.outer_io.specs.Holding.{Holding}
use Rattle.outer_io.specs.Counts.{saturating}
use Rattle.outer_io.specs.Files.{bytes_of}

pub record FailingShelf : Type 0 where
  pub holding : Holding
  -- the numbers of the calls that fail
  pub failing : List ℕ
  pub calls : ℕ
  pub faults : ℕ

abbrev pub has_number : List ℕ → ℕ → Bool
has_number numbers n = list_any (λ number. number == n) numbers

-- whether the next call fails
abbrev pub fails_next : FailingShelf → Bool
fails_next s = has_number s.failing (saturating s.calls 1)

-- the shelf after a call that fails, which left it holding this
abbrev pub failed_with : FailingShelf → Holding → FailingShelf
failed_with s holding = record {
  holding = holding;
  failing = s.failing;
  calls = saturating s.calls 1;
  faults = saturating s.faults 1;
}

-- the shelf after a call that does not fail, which left it holding this
abbrev pub went_with : FailingShelf → Holding → FailingShelf
went_with s holding = record
    { holding = holding; failing = s.failing; calls = saturating s.calls 1; faults = s.faults }

-- with no file open
abbrev pub closed : Holding → Holding
closed h = record { files = h.files; rest = []; misses = h.misses; taken = h.taken }

-- after a call of `open` that does not fail: the file of the name is open, or none and a miss is
-- counted
abbrev pub opened : Holding → List ℕ → Holding
opened h name = record {
  files = h.files;
  rest = unwrap_or (bytes_of h.files name) [];
  misses = if is_some (bytes_of h.files name) then h.misses else saturating h.misses 1;
  taken = h.taken;
}

-- after a read of n bytes
abbrev pub read_on : Holding → ℕ → Holding
read_on h n = record
    { files = h.files; rest = drop n h.rest; misses = h.misses; taken = saturating h.taken n }

-- after a call of `open`
abbrev pub after_open : FailingShelf → List ℕ → FailingShelf
after_open s name = if fails_next s then failed_with s (closed s.holding) else went_with s
    (opened s.holding name)

-- after a call of `read` with room for n bytes
abbrev pub after_read : FailingShelf → ℕ → FailingShelf
after_read s n = if fails_next s then failed_with s s.holding else went_with s
    (read_on s.holding (min n (length s.holding.rest)))

pub record FailingSink : Type 0 where
  pub bytes : List ℕ
  -- how many more bytes there is room for
  pub room : ℕ
  -- how many bytes a call takes at most
  pub most : ℕ
  -- the numbers of the calls that fail, and of those that take nothing
  pub failing : List ℕ
  pub zeros : List ℕ
  pub calls : ℕ
  pub faults : ℕ

-- how many of n bytes the next call takes, or none if it fails
abbrev pub answer_to : FailingSink → ℕ → Option ℕ
answer_to s n =
    if has_number s.failing (saturating s.calls 1) then None
    else (if has_number s.zeros (saturating s.calls 1) then Some 0
    else (if s.room == 0 && nat_lt 0 n then None
    else Some (min n (min s.most s.room))))

-- the number of bytes that the next call takes of n
abbrev pub taken_of : FailingSink → ℕ → ℕ
taken_of s n = unwrap_or (answer_to s n) 0

-- whether the next call counts a fault: it fails, or takes nothing of some bytes
abbrev pub is_fault : FailingSink → ℕ → Bool
is_fault s n = not (is_some (answer_to s n)) || (taken_of s n == 0 && nat_lt 0 n)

-- after a call of `write` with this piece
abbrev pub after_write : FailingSink → List ℕ → FailingSink
after_write s piece = record {
  bytes = s.bytes ++ take (taken_of s (length piece)) piece;
  room = s.room - taken_of s (length piece);
  most = s.most;
  failing = s.failing;
  zeros = s.zeros;
  calls = saturating s.calls 1;
  faults = if is_fault s (length piece) then saturating s.faults 1 else s.faults;
}
