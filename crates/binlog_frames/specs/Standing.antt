-- Where a reader stands in a file.
use Rattle.std.specs.Prelude.{◌≡◌, ℕ, ◌+◌, ◌%◌, ◌^◌, Bool, true, ◌&&◌, nat_lt, ◌==◌, List, [], ◌∷◌, ◌++◌, ◌⊎◌, length, drop, slice_index, Option, Some, None, Result, Ok, Err, if◌then◌else◌}
use Rattle.binlog_frames.specs.declared.fault.FaultKind.{FaultKind}
use Rattle.binlog_frames.specs.declared.fault.FaultKind.TheVariants as faults
use Rattle.binlog_frames.specs.declared.fault.FrameFault.{FrameFault}
use Rattle.binlog_frames.specs.declared.event.LoggedEvent.{LoggedEvent}
use Rattle.binlog_frames.specs.declared.stage.FileStage.{FileStage}
use Rattle.binlog_frames.specs.declared.stage.FileStage.TheVariants.{First, Later}
use Rattle.binlog_frames.specs.Spelling.{Framed, len_of, tail_len}
use Rattle.binlog_frames.specs.Reading.{first_at, later_at, is_checked}
use Rattle.binlog_frames.specs.Views.{view}

pub record Standing : Type 0 where
  pub stage : FileStage
  -- where the next event begins
  pub offset : ℕ
  -- the bytes from there on that have come
  pub left : List ℕ

abbrev pub start : Standing
start = record { stage = First; offset = 0; left = [] }

abbrev pub at_offset : ℕ → Result (Option Framed) FaultKind → Result (Option Framed) FrameFault
at_offset offset (Err kind) = Err (record { kind = kind; offset = offset })
at_offset offset (Ok found) = Ok found

-- the bytes begin with those of a binary log
unfoldable pub has_magic : List ℕ → Bool
has_magic bytes = (slice_index bytes 0 == 0xFE) && ((slice_index bytes 1 == 0x62) && ((slice_index bytes 2 == 0x69) && (slice_index bytes 3 == 0x6E)))

-- the bytes begin with those of a binary log that is encrypted
unfoldable pub is_encrypted : List ℕ → Bool
is_encrypted bytes = (slice_index bytes 0 == 0xFD) && ((slice_index bytes 1 == 0x62) && ((slice_index bytes 2 == 0x69) && (slice_index bytes 3 == 0x6E)))

-- what is wrong with bytes that don't begin with those of a binary log
abbrev pub no_magic : List ℕ → FaultKind
no_magic bytes = if is_encrypted bytes then faults.Encrypted else faults.Magic

-- the first event, behind the file's four bytes
unfoldable pub opening_at : List ℕ → Result (Option Framed) FrameFault
opening_at left =
    if nat_lt (length left) 4 then Ok None
    else if has_magic left then at_offset 4 (first_at (drop 4 left))
    else Err (record { kind = no_magic left; offset = 0 })

-- what comes next
abbrev pub front_from : FileStage → ℕ → List ℕ → Result (Option Framed) FrameFault
front_from First offset left = opening_at left
front_from (Later checked) offset left = at_offset offset (later_at checked offset left)

abbrev pub front_at : Standing → Result (Option Framed) FrameFault
front_at s = front_from s.stage s.offset s.left

-- behind an event
abbrev pub passed_from : FileStage → ℕ → List ℕ → Framed → Standing
passed_from First offset left d = record { stage = Later (is_checked d); offset = (4 + len_of true d) % 2 ^ 64; left = drop (len_of true d) (drop 4 left) }
passed_from (Later checked) offset left e = record { stage = Later checked; offset = (offset + len_of checked e) % 2 ^ 64; left = drop (len_of checked e) left }

abbrev pub passed : Standing → Framed → Standing
passed s e = passed_from s.stage s.offset s.left e

-- where the next event begins: the first one behind the file's four bytes
abbrev pub begin_from : FileStage → ℕ → ℕ
begin_from First offset = 4
begin_from (Later checked) offset = offset

abbrev pub begin_of : Standing → ℕ
begin_of s = begin_from s.stage s.offset

-- how many bytes the checksum of the next event takes: the first one has a checksum in each file
abbrev pub tail_from : FileStage → ℕ
tail_from First = 4
tail_from (Later checked) = tail_len checked

abbrev pub tail_of : Standing → ℕ
tail_of s = tail_from s.stage

-- what is answered
abbrev pub IsFront : Result (Option LoggedEvent) FrameFault → Result (Option Framed) FrameFault → Type 0
IsFront (Ok None) read = read ≡ Ok None
IsFront (Ok (Some e)) read = read ≡ Ok (Some (view e))
IsFront (Err f) read = read ≡ Err f

-- what is wrong, if the file ends here
unfoldable pub unfinished_from : FileStage → ℕ → List ℕ → Option FrameFault
unfinished_from First offset left = Some (record { kind = faults.Truncated; offset = if nat_lt (length left) 4 then 0 else 4 })
unfinished_from (Later checked) offset left = if length left == 0 then None else Some (record { kind = faults.Truncated; offset = offset })

abbrev pub unfinished : Standing → Option FrameFault
unfinished s = unfinished_from s.stage s.offset s.left

-- the same place, with more bytes
abbrev pub with_more : Standing → List ℕ → Standing
with_more s more = record s { left = s.left ++ more }

-- these events come one after another
abbrev pub Follows : Standing → List Framed → Standing → Type 0
Follows s [] t = s ≡ t
Follows s (e ∷ es) t = (front_at s ≡ Ok (Some e)) × Follows (passed s e) es t

-- before bytes that are all there
abbrev pub before : List ℕ → Standing
before bytes = record { stage = First; offset = 0; left = bytes }

-- all bytes are these events, by reading
pub record EndsWell (bytes : List ℕ) (es : List Framed) : Type 0 where
  pub last : Standing
  pub follows : Follows (before bytes) es last
  pub none : front_at last ≡ Ok None
  pub finished : unfinished last ≡ None

abbrev pub IsFaultAt : Standing → FrameFault → Type 0
IsFaultAt s f = (front_at s ≡ Err f) ⊎ ((front_at s ≡ Ok None) × (unfinished s ≡ Some f))

-- behind these events this is wrong, by reading
pub record EndsBadly (bytes : List ℕ) (es : List Framed) (f : FrameFault) : Type 0 where
  pub last : Standing
  pub follows : Follows (before bytes) es last
  pub wrong : IsFaultAt last f
