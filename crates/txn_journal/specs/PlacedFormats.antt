-- Formats whose texts may have places before entries.
use Rattle.std.specs.Prelude.{◌≡◌, ◌⊎◌, ◌||◌, ◌&&◌, ℕ, Bool, true, false, List, Result, Ok, Err}
use Rattle.gtid_set.specs.declared.fault.SetFault.{SetFault}
use Rattle.row_images.specs.Words.{others}
use Rattle.txn_journal.specs.Lines.{◌>>=◌}
use Rattle.txn_journal.specs.Stream.{Judge}
use Rattle.txn_journal.specs.Formats.{Format}
use Rattle.txn_journal.specs.Places.{place_in, HasPlaceCause, is_place_line, is_entry_line, PlacedLine, without_places, placed_text, StandBeforeEntries, WritesPlaced, EndsPlaced}
use Rattle.txn_journal.specs.declared.fault.Cause.{Cause}
use Rattle.txn_journal.specs.declared.fault.Cause.TheVariants as causes
use Rattle.txn_journal.specs.declared.placed.Placed.{Placed}

-- ---- one line more

-- the line of a place changes nothing of what has been made
abbrev pub place_line : {S : Type 0} → S → List ℕ → Result (Placed S) Cause
place_line s line = do
  place ← place_in (others line)
  Ok (record { made = s; is_placed = true })

abbrev pub plain_line : {S : Type 0} → Result S Cause → Result (Placed S) Cause
plain_line made = do
  s ← made
  Ok (record { made = s; is_placed = false })

-- a line that may be that of a place
abbrev pub judge_either : {S : Type 0} → Bool → Judge S → S → List ℕ → Result (Placed S) Cause
judge_either true judge s line = place_line s line
judge_either false judge s line = plain_line (judge s line)

-- a line behind a place, which has to begin an entry
abbrev pub judge_entry : {S : Type 0} → Bool → Judge S → S → List ℕ → Result (Placed S) Cause
judge_entry true judge s line = plain_line (judge s line)
judge_entry false judge s line = Err causes.Keyword

abbrev pub judge_behind : {S : Type 0} → Bool → (S → Bool) → Judge S → S → List ℕ → Result (Placed S) Cause
judge_behind true takes judge s line = judge_entry (is_entry_line line) judge s line
judge_behind false takes judge s line = judge_either (takes s && is_place_line line) judge s line

-- a line where places are taken as `takes` says
unfoldable pub judge_placed : {S : Type 0} → (S → Bool) → Judge S → Judge (Placed S)
judge_placed takes judge p line = judge_behind p.is_placed takes judge p.made line

-- a set is full where a line that is no place has made it so
abbrev pub IsFullPlaced : {S : Type 0} → (SetFault → S → Type 0) → SetFault → Placed S → Type 0
IsFullPlaced full fault p = (p.is_placed ≡ false) × full fault p.made

-- ---- what is wrong with a line

abbrev pub HasCauseEither : (f : Format) → Bool → f.State → List ℕ → Cause → Type 0
HasCauseEither f true s line cause = HasPlaceCause line cause
HasCauseEither f false s line cause = f.HasCause s line cause

abbrev pub HasCauseOfEntry : (f : Format) → Bool → f.State → List ℕ → Cause → Type 0
HasCauseOfEntry f true s line cause = f.HasCause s line cause
HasCauseOfEntry f false s line cause = cause ≡ causes.Keyword

abbrev pub HasCauseBehind : (f : Format) → (f.State → Bool) → Bool → f.State → List ℕ → Cause → Type 0
HasCauseBehind f takes true s line cause = HasCauseOfEntry f (is_entry_line line) s line cause
HasCauseBehind f takes false s line cause = HasCauseEither f (takes s && is_place_line line) s line cause

-- ---- formats

-- the lines that have made this, in order
pub record HasPlacedLines (f : Format) (takes : f.State → Bool) (p : Placed f.State) (ls : List (PlacedLine f.Line)) : Type 0 where
  pub made : f.HasLines p.made (without_places ls)
  pub stand : StandBeforeEntries f.line_text false p.is_placed ls
  pub taken : p.is_placed ≡ true → takes p.made ≡ true

-- The same format, but that where `takes` says so the place of the entry that comes next may stand. A text with places begins with this
-- header.
abbrev pub placed : (f : Format) → (f.State → Bool) → List ℕ → Format
placed f takes header = record {
  Line = PlacedLine f.Line;
  State = Placed f.State;
  Value = f.Value;
  start = record { made = f.start; is_placed = false };
  judge = judge_placed takes f.judge;
  is_last = λ p. f.is_last p.made;
  value = λ p. f.value p.made;
  IsFull = IsFullPlaced f.IsFull;
  line_text = placed_text f.line_text;
  Writes = WritesPlaced f.line_text header f.Writes;
  AlmostWrites = λ bytes v. WritesPlaced f.line_text header f.AlmostWrites bytes v ⊎ EndsPlaced f.line_text header f.Writes bytes v;
  is_open = λ p. p.is_placed || f.is_open p.made;
  is_inside = f.is_inside;
  HasLines = HasPlacedLines f takes;
  HasCause = λ p line cause. HasCauseBehind f takes p.is_placed p.made line cause;
}
