-- Events with the offsets at which they begin, and what a reader has read.
use Rattle.std.specs.Prelude.{◌≡◌, ℕ, ◌+◌, ◌%◌, ◌^◌, Bool, true, List, [], ◌∷◌, ◌++◌, length, ◌<◌}
use Rattle.binlog_frames.specs.declared.fault.FrameFault.{FrameFault}
use Rattle.binlog_frames.specs.Spelling.{Framed, len_of, offset_after}
use Rattle.binlog_frames.specs.Reading.{is_checked}
use Rattle.binlog_frames.specs.Standing.{Standing, begin_of, tail_of, before, Follows, EndsBadly}

-- an event, the offset at which it begins, and how many bytes it takes, as numbers of 64 bits
pub record Placed : Type 0 where
  pub offset : ℕ
  pub len : ℕ
  pub event : Framed

-- events behind the FORMAT_DESCRIPTION, from this offset on
unfoldable pub placed_later : Bool → ℕ → List Framed → List Placed
placed_later checked offset [] = []
placed_later checked offset (e ∷ es) =
    record { offset = offset; len = len_of checked e % 2 ^ 64; event = e } ∷ placed_later checked (offset_after checked offset e) es

-- the events of a file: the first one is behind the file's four bytes
unfoldable pub placed : List Framed → List Placed
placed [] = []
placed (d ∷ es) = record { offset = 4; len = len_of true d % 2 ^ 64; event = d } ∷ placed_later (is_checked d) (offset_after true 4 d) es

-- the event that is next
abbrev pub placed_at : Standing → Framed → Placed
placed_at s e = record { offset = begin_of s; len = (19 + length e.body + tail_of s) % 2 ^ 64; event = e }

-- what was read of bytes stays read where others come behind them
abbrev pub StaysRead : Standing → Standing → List ℕ → Type 0
StaysRead s t piece = (bytes : List ℕ) (es : List Framed) → Follows (before bytes) es s → Follows (before (bytes ++ piece)) es t

-- one event more was read, in its place
pub record HasRead (s t : Standing) (e : Framed) (bytes : List ℕ) (es : List Framed) : Type 0 where
  pub follows : Follows (before bytes) (es ++ e ∷ []) t
  pub place : placed (es ++ e ∷ []) ≡ placed es ++ placed_at s e ∷ []

-- behind what was read this event was read, and fewer bytes are left
pub record ReadsOn (s t : Standing) (e : Framed) : Type 0 where
  pub reads : (bytes : List ℕ) (es : List Framed) → Follows (before bytes) es s → HasRead s t e bytes es
  pub fewer : length t.left < length s.left

-- behind what was read this is wrong, whatever comes
abbrev pub StaysWrong : Standing → FrameFault → Type 0
StaysWrong s f = (bytes more : List ℕ) (es : List Framed) → Follows (before bytes) es s → EndsBadly (bytes ++ more) es f
