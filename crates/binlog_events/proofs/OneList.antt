-- Bytes have one list of events.
use Rattle.std.proofs.Common.{◌≡◌, ℕ, Bool, List, ◌∷◌, Option, Some, None, refl, sym, ap, ◌∙◌}
use Rattle.binlog_frames.specs.declared.fault.FrameFault.{FrameFault}
use Rattle.binlog_frames.specs.Spelling.{Framed, IsFile}
use Rattle.binlog_frames.specs.Laws.{OneEnd, FileIsFound}
use Rattle.binlog_events.specs.declared.row_lines.EventDetail.{EventDetail}
use Rattle.binlog_events.specs.Listing.{Lists, lines_of}

pub one_list : OneEnd → (d : EventDetail) (bytes a b : List ℕ) (f g : Option FrameFault) → Lists d bytes a f → Lists d bytes b g → (a ≡ b) × (f ≡ g)
one_list one d bytes a b None None h k = (h.lines ∙ ap (lines_of d) (one.0 bytes h.events k.events h.ends k.ends) ∙ sym k.lines, refl)
one_list one d bytes a b None (Some g) h k = absurd (one.2 bytes h.events k.events g h.ends k.ends)
one_list one d bytes a b (Some f) None h k = absurd (one.2 bytes k.events h.events f k.ends h.ends)
one_list one d bytes a b (Some f) (Some g) h k =
    let same = one.1 bytes h.events k.events f g h.ends k.ends in
    (h.lines ∙ ap (lines_of d) same.0 ∙ sym k.lines, ap Some same.1)

pub file_list : OneEnd → FileIsFound → (d : EventDetail) (bytes text : List ℕ) (f : Option FrameFault) (checked : Bool) (e : Framed) (es : List Framed)
    → IsFile bytes checked e es → Lists d bytes text f → (f ≡ None) × (text ≡ lines_of d (e ∷ es))
file_list one found d bytes text None checked e es file h = (refl, h.lines ∙ ap (lines_of d) (one.0 bytes h.events (e ∷ es) h.ends (found bytes checked e es file)))
file_list one found d bytes text (Some f) checked e es file h = absurd (one.2 bytes (e ∷ es) h.events f (found bytes checked e es file) h.ends)
