-- What follows of files: what is read is in the grammar, and the other way round.
use Rattle.std.specs.Prelude.{◌≡◌, ◌≢◌, ℕ, ◌<◌, List, ◌∷◌, ◌++◌, Bool, Err, slice_index, true, ◌+◌, ◌%◌, ◌^◌, length}
use Rattle.binlog_frames.specs.declared.fault.FrameFault.{FrameFault}
use Rattle.binlog_frames.specs.Spelling.{Framed, IsFile, Begins, IsLater, event_text}
use Rattle.binlog_frames.specs.Reading.{is_checked}
use Rattle.crc32.specs.Laws.{AreBytes as ArePlain, IsBurst, SealedBurstsShow}
use Rattle.binlog_frames.specs.Standing.{EndsWell, EndsBadly, front_at}

abbrev pub AreBytes : List ℕ → Type 0
AreBytes bytes = (i : ℕ) → slice_index bytes i < 256

-- bytes are a file of one row of events at most
abbrev pub OneReading : Type 0
OneReading =
    (bytes : List ℕ) (a b : Bool) (d e : Framed) (ds es : List Framed) → IsFile bytes a d ds → IsFile bytes b e es
    → (a ≡ b) × (◌≡◌ {A = List Framed} (d ∷ ds) (e ∷ es))

-- what is read to the end is a file of these events
pub record FileOf (bytes : List ℕ) (all : List Framed) : Type 0 where
  pub checked : Bool
  pub first : Framed
  pub others : List Framed
  pub parts : all ≡ first ∷ others
  pub file : IsFile bytes checked first others

abbrev pub FoundIsFile : Type 0
FoundIsFile = (bytes : List ℕ) (es : List Framed) → AreBytes bytes → EndsWell bytes es → FileOf bytes es

-- a file is read to its end
abbrev pub FileIsFound : Type 0
FileIsFound = (bytes : List ℕ) (checked : Bool) (d : Framed) (es : List Framed) → IsFile bytes checked d es → EndsWell bytes (d ∷ es)

-- bytes end in one way
abbrev pub OneEnd : Type 0
OneEnd =
    ((bytes : List ℕ) (ds es : List Framed) → EndsWell bytes ds → EndsWell bytes es → ds ≡ es)
    × ((bytes : List ℕ) (ds es : List Framed) (f g : FrameFault) → EndsBadly bytes ds f → EndsBadly bytes es g → (ds ≡ es) × (f ≡ g))
    × ((bytes : List ℕ) (ds es : List Framed) (f : FrameFault) → EndsWell bytes ds → EndsBadly bytes es f → ⊥)

-- bytes with a fault are no file
abbrev pub FaultIsNoFile : Type 0
FaultIsNoFile = (bytes : List ℕ) (ds es : List Framed) (f : FrameFault) (checked : Bool) (d : Framed) → EndsBadly bytes ds f → IsFile bytes checked d es → ⊥

-- a fault that `front` gave is one, whatever comes
abbrev pub FaultStays : Type 0
FaultStays =
    (bytes more : List ℕ) (ds es : List Framed) (f : FrameFault) (checked : Bool) (d : Framed) (bad : EndsBadly bytes ds f) → front_at bad.last ≡ Err f
    → IsFile (bytes ++ more) checked d es → ⊥

-- Bytes of which at most 32 bits in a row are not those of an event, its checksum's too, are no event in that place. The premise is a law of
-- crc32, `sealed_bursts_show`.
abbrev pub DamageShows : Type 0
DamageShows =
    SealedBurstsShow → (offset : ℕ) (e f : Framed) (bytes : List ℕ) → IsLater true e → IsLater true f → ArePlain (event_text true offset e) → ArePlain bytes
    → IsBurst (event_text true offset e) bytes → bytes ≢ event_text true offset e → bytes ≢ event_text true offset f

-- the events before a fault are those of the grammar, and the fault's offset is where what is left begins, as a number of 64 bits
pub record IsPlace (bytes : List ℕ) (d : Framed) (es : List Framed) (f : FrameFault) (rest : List ℕ) : Type 0 where
  pub before : Begins bytes (is_checked d) d es rest
  pub offset : (f.offset + length rest) % 2 ^ 64 ≡ length bytes % 2 ^ 64

abbrev pub FaultPlace : Type 0
FaultPlace =
    (bytes : List ℕ) (d : Framed) (es : List Framed) (f : FrameFault) → AreBytes bytes → (bad : EndsBadly bytes (d ∷ es) f)
    → IsPlace bytes d es f bad.last.left
