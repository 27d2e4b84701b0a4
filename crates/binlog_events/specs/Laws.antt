-- What follows of lists of events. The premises are laws of binlog_frames, `one_end` and `file_is_found`.
use Rattle.std.specs.Prelude.{◌≡◌, ℕ, Bool, List, ◌∷◌, Option, None}
use Rattle.binlog_frames.specs.declared.fault.FrameFault.{FrameFault}
use Rattle.binlog_frames.specs.Spelling.{Framed, IsFile}
use Rattle.binlog_frames.specs.Laws.{OneEnd, FileIsFound}
use Rattle.binlog_events.specs.declared.row_lines.EventDetail.{EventDetail}
use Rattle.binlog_events.specs.Listing.{Lists, lines_of}

-- bytes have one list, and one first fault
abbrev pub OneList : Type 0
OneList = OneEnd → (d : EventDetail) (bytes a b : List ℕ) (f g : Option FrameFault) → Lists d bytes a f → Lists d bytes b g → (a ≡ b) × (f ≡ g)

-- of a file the list is that of its events, and there is no fault
abbrev pub FileIsListed : Type 0
FileIsListed =
    OneEnd → FileIsFound → (d : EventDetail) (bytes text : List ℕ) (f : Option FrameFault) (checked : Bool) (e : Framed) (es : List Framed)
    → IsFile bytes checked e es → Lists d bytes text f → (f ≡ None) × (text ≡ lines_of d (e ∷ es))
