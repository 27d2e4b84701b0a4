-- Each event adds what it means to what the entries and what is open denote.
use Rattle.std.proofs.Common.{◌≡◌, Bool, true, false, cond, not, ◌&&◌, List, [], ◌∷◌, ◌++◌, map, Option, Some, None, Result, Ok, refl, sym, ap, ◌∙◌, append_assoc, append-nil}
use Rattle.std.specs.List.{flat_map}
use Rattle.std.specs.FinSet as set
use Rattle.std.proofs.lemmas.Bool.{and_parts}
use Rattle.std.proofs.lemmas.List.{map_push}
use Rattle.std.proofs.lemmas.Grind.{flat_map-append}
use Rattle.gtid_set.specs.Sets.{Gtids}
use Rattle.gtid_text.specs.declared.Gtid.{Gtid}
use Rattle.journal.specs.declared.Entry.{Entry}
use Rattle.rows.specs.declared.change.Change.{Change}
use Rattle.log_transactions.specs.Events.{Event, Opens, Precedes, Names, Begins, Varies, Rows, Row, Commits, Maintains}
use Rattle.log_transactions.specs.Files.{has_come}
use Rattle.log_transactions.specs.Machine.{LogState, is_idle, is_named, is_begun, entry_of, behind, unless, row_refusal, refusal, taken, and_then, runs, start}
use Rattle.log_transactions.specs.Meaning.{EventMeaning, Of, Changed, Committed, means, meaning, executed_before, varied_in, StatementsEnd, NoGap, meaning_of_entry, meaning_of_entries, AreOfLog}
use Rattle.log_transactions.specs.declared.fault.EventRefusal.{EventRefusal}
use Rattle.log_transactions.specs.declared.fault.EventRefusal.TheVariants as refusals
use Rattle.log_transactions.specs.declared.stages.TransactionStage.{TransactionStage}
use Rattle.log_transactions.specs.declared.stages.TransactionStage.TheVariants as stages

-- ---- events that are taken

and_then_taken : (o : Option EventRefusal) (u : LogState) (next : LogState → Result LogState EventRefusal) (t : LogState) → and_then (taken o u) next ≡ Ok t → (o ≡ None) × (next u ≡ Ok t)
and_then_taken None u next t h = (refl, h)
and_then_taken (Some reason) u next t h = absurd cc

same_state : (s t : LogState) → (let r : Result LogState EventRefusal = Ok s in r) ≡ Ok t → s ≡ t
same_state s t e = cc

unless_none : (reason : EventRefusal) (b : Bool) → unless reason b ≡ None → b ≡ true
unless_none reason true e = refl
unless_none reason false e = absurd cc

if_not_none : (b : Bool) (reason : EventRefusal) (o : Option EventRefusal) → cond (not b) (Some reason) o ≡ None → b ≡ true
if_not_none true reason o e = refl
if_not_none false reason o e = absurd cc

-- ---- what a state denotes

abbrev spelled_open : TransactionStage → Gtid → List Change → List EventMeaning
spelled_open stages.Idle gtid changes = []
spelled_open stages.Named gtid changes = Of gtid ∷ []
spelled_open stages.Begun gtid changes = Of gtid ∷ map Changed changes

abbrev spelled : LogState → List EventMeaning
spelled s = meaning_of_entries s.entries ++ spelled_open s.stage s.gtid s.changes

-- a transaction that has not begun has no changes
abbrev IsQuiet : LogState → Type 0
IsQuiet s = is_begun s.stage ≡ false → s.changes ≡ []

record Tells (s : LogState) (e : Event) : Type 0 where
  spells : spelled (behind s e) ≡ spelled s ++ means e
  quiet : IsQuiet (behind s e)

idle_not_begun : (stage : TransactionStage) → is_idle stage ≡ true → is_begun stage ≡ false
idle_not_begun stages.Idle e = refl
idle_not_begun _ e = absurd cc

named_not_begun : (stage : TransactionStage) → is_named stage ≡ true → is_begun stage ≡ false
named_not_begun stages.Named e = refl
named_not_begun _ e = absurd cc

flat_map_more : {A B : Type 0} (f : A → List B) (xs : List A) (x : A) → flat_map f (xs ++ x ∷ []) ≡ flat_map f xs ++ f x
flat_map_more f xs x = flat_map-append f xs (x ∷ []) ∙ ap (λ ys. flat_map f xs ++ ys) (append-nil (f x))

name_spelled : (es : List EventMeaning) (stage : TransactionStage) (old new : Gtid) (cs : List Change) → is_idle stage ≡ true → es ++ Of new ∷ [] ≡ (es ++ spelled_open stage old cs) ++ Of new ∷ []
name_spelled es stages.Idle old new cs e = ap (λ (xs : List EventMeaning). xs ++ Of new ∷ []) (sym (append-nil es))
name_spelled es _ old new cs e = absurd cc

begin_spelled : (es : List EventMeaning) (stage : TransactionStage) (g : Gtid) (cs : List Change) → is_named stage ≡ true → cs ≡ [] → es ++ (Of g ∷ map Changed cs) ≡ (es ++ spelled_open stage g cs) ++ []
begin_spelled es stages.Named g cs e none = ap (λ (xs : List Change). es ++ (Of g ∷ map Changed xs)) none ∙ sym (append-nil (es ++ Of g ∷ []))
begin_spelled es _ g cs e none = absurd cc

row_spelled : (es : List EventMeaning) (stage : TransactionStage) (g : Gtid) (cs : List Change) (c : Change) → is_begun stage ≡ true → es ++ spelled_open stage g (cs ++ c ∷ []) ≡ (es ++ spelled_open stage g cs) ++ Changed c ∷ []
row_spelled es stages.Begun g cs c e = ap (λ (xs : List EventMeaning). es ++ (Of g ∷ xs)) (map_push Changed cs c) ∙ sym (append_assoc es (Of g ∷ map Changed cs) (Changed c ∷ []))
row_spelled es _ g cs c e = absurd cc

commit_spelled : (entries : List Entry) (stage : TransactionStage) (g : Gtid) (cs : List Change) → is_begun stage ≡ true → meaning_of_entries (entries ++ entry_of g cs ∷ []) ++ [] ≡ (meaning_of_entries entries ++ spelled_open stage g cs) ++ Committed ∷ []
commit_spelled entries stages.Begun g cs e =
    append-nil (meaning_of_entries (entries ++ entry_of g cs ∷ []))
    ∙ flat_map_more meaning_of_entry entries (entry_of g cs)
    ∙ sym (append_assoc (meaning_of_entries entries) (Of g ∷ map Changed cs) (Committed ∷ []))
commit_spelled entries _ g cs e = absurd cc

maintenance_spelled : (entries : List Entry) (stage : TransactionStage) (g : Gtid) (cs : List Change) → is_named stage ≡ true → meaning_of_entries (entries ++ entry_of g [] ∷ []) ++ [] ≡ (meaning_of_entries entries ++ spelled_open stage g cs) ++ Committed ∷ []
maintenance_spelled entries stages.Named g cs e =
    append-nil (meaning_of_entries (entries ++ entry_of g [] ∷ []))
    ∙ flat_map_more meaning_of_entry entries (entry_of g [])
    ∙ sym (append_assoc (meaning_of_entries entries) (Of g ∷ []) (Committed ∷ []))
maintenance_spelled entries _ g cs e = absurd cc

row_begun : (s : LogState) (c : Change) → row_refusal s c ≡ None → is_begun s.stage ≡ true
row_begun s c may = (and_parts (is_begun s.stage) s.is_over (if_not_none (is_begun s.stage && s.is_over) refusals.Transaction _ may)).0

tells : (s : LogState) (e : Event) → IsQuiet s → refusal s e ≡ None → Tells s e
tells s (Names g) quiet may =
    let idle = unless_none refusals.Gtid (is_idle s.stage) may in record {
      spells = name_spelled (meaning_of_entries s.entries) s.stage s.gtid g s.changes idle;
      quiet = λ b. quiet (idle_not_begun s.stage idle);
    }
tells s Begins quiet may =
    let named = unless_none refusals.Transaction (is_named s.stage) may in record {
      spells = begin_spelled (meaning_of_entries s.entries) s.stage s.gtid s.changes named (quiet (named_not_begun s.stage named));
      quiet = λ b. absurd (let bad : true ≡ false = b in cc);
    }
tells s (Row c) quiet may =
    let begun = row_begun s c may in record {
      spells = row_spelled (meaning_of_entries s.entries) s.stage s.gtid s.changes c begun;
      quiet = λ b. absurd (let bad : true ≡ false = sym begun ∙ b in cc);
    }
tells s Commits quiet may =
    let begun = (and_parts (not s.is_open) (is_begun s.stage) (unless_none refusals.Transaction (not s.is_open && is_begun s.stage) may)).1 in record {
      spells = commit_spelled s.entries s.stage s.gtid s.changes begun;
      quiet = λ b. refl;
    }
tells s Maintains quiet may =
    let named = unless_none refusals.Transaction (is_named s.stage) may in record {
      spells = maintenance_spelled s.entries s.stage s.gtid s.changes named;
      quiet = λ b. quiet (named_not_begun s.stage named);
    }
tells s _ quiet may = record { spells = sym (append-nil (spelled s)); quiet = quiet }

runs_tell : (s : LogState) (es : List Event) (t : LogState) → IsQuiet s → runs s es ≡ Ok t → spelled t ≡ spelled s ++ meaning es
runs_tell s [] t quiet h = ap spelled (sym (same_state s t h)) ∙ sym (append-nil (spelled s))
runs_tell s (e ∷ es) t quiet h =
    let p = and_then_taken (refusal s e) (behind s e) (λ u. runs u es) t h in
    let first = tells s e quiet p.0 in
    runs_tell (behind s e) es t first.quiet p.1
    ∙ ap (λ (xs : List EventMeaning). xs ++ meaning es) first.spells
    ∙ append_assoc (spelled s) (means e) (meaning es)

idle_spelled : (xs : List EventMeaning) (stage : TransactionStage) (g : Gtid) (cs : List Change) → is_idle stage ≡ true → xs ++ spelled_open stage g cs ≡ xs
idle_spelled xs stages.Idle g cs e = append-nil xs
idle_spelled xs _ g cs e = absurd cc

-- ---- what was executed before

either : (b : Bool) (x : Gtids) → x ≡ cond b x x
either true x = refl
either false x = refl

-- where no GTID has come, sets are read
abbrev before_in : Bool → Gtids → List Event → Gtids
before_in fresh previous es = cond fresh (executed_before previous es) previous

joined : (fresh : Bool) (previous gtids : Gtids) (es : List Event) → before_in fresh (cond fresh (set.union previous gtids) previous) es ≡ before_in fresh previous (Precedes gtids ∷ es)
joined true previous gtids es = refl
joined false previous gtids es = refl

before_passed : (s : LogState) (e : Event) (es : List Event) → before_in (behind s e).is_fresh (behind s e).previous es ≡ before_in s.is_fresh s.previous (e ∷ es)
before_passed s (Precedes gtids) es = joined s.is_fresh s.previous gtids es
before_passed s (Names gtid) es = either s.is_fresh s.previous
before_passed s _ es = refl

runs_before : (s : LogState) (es : List Event) (t : LogState) → runs s es ≡ Ok t → t.previous ≡ before_in s.is_fresh s.previous es
runs_before s [] t h = ap (λ (u : LogState). u.previous) (sym (same_state s t h)) ∙ either s.is_fresh s.previous
runs_before s (e ∷ es) t h =
    let p = and_then_taken (refusal s e) (behind s e) (λ u. runs u es) t h in
    runs_before (behind s e) es t p.1 ∙ before_passed s e es

-- ---- columns

varied_passed : (s : LogState) (e : Event) (es : List Event) → varied_in (behind s e).varied es ≡ varied_in s.varied (e ∷ es)
varied_passed s (Varies table column collation) es = refl
varied_passed s _ es = refl

runs_vary : (s : LogState) (es : List Event) (t : LogState) → runs s es ≡ Ok t → t.varied ≡ varied_in s.varied es
runs_vary s [] t h = ap (λ (u : LogState). u.varied) (sym (same_state s t h))
runs_vary s (e ∷ es) t h =
    let p = and_then_taken (refusal s e) (behind s e) (λ u. runs u es) t h in
    runs_vary (behind s e) es t p.1 ∙ varied_passed s e es

-- ---- statements and files

is_closed : (b : Bool) → not b ≡ true → b ≡ false
is_closed true e = absurd cc
is_closed false e = refl

statement_passed : (s : LogState) (e : Event) (es : List Event) → refusal s e ≡ None → StatementsEnd (behind s e).is_open es → StatementsEnd s.is_open (e ∷ es)
statement_passed s (Rows ends) es may rest = rest
statement_passed s Commits es may rest =
    let ended = and_parts (not s.is_open) (is_begun s.stage) (unless_none refusals.Transaction (not s.is_open && is_begun s.stage) may) in
    (is_closed s.is_open ended.0, rest)
statement_passed s _ es may rest = rest

runs_end : (s : LogState) (es : List Event) (t : LogState) → runs s es ≡ Ok t → StatementsEnd s.is_open es
runs_end s [] t h = tt
runs_end s (e ∷ es) t h =
    let p = and_then_taken (refusal s e) (behind s e) (λ u. runs u es) t h in
    statement_passed s e es p.0 (runs_end (behind s e) es t p.1)

gap_passed : (s : LogState) (e : Event) (es : List Event) → refusal s e ≡ None → NoGap (behind s e).file (behind s e).come es → NoGap s.file s.come (e ∷ es)
gap_passed s Opens es may rest = rest
gap_passed s (Precedes gtids) es may rest = (unless_none refusals.Gap (has_come s.file s.come gtids) may, rest)
gap_passed s (Names gtid) es may rest = rest
gap_passed s _ es may rest = rest

runs_gapless : (s : LogState) (es : List Event) (t : LogState) → runs s es ≡ Ok t → NoGap s.file s.come es
runs_gapless s [] t h = tt
runs_gapless s (e ∷ es) t h =
    let p = and_then_taken (refusal s e) (behind s e) (λ u. runs u es) t h in
    gap_passed s e es p.0 (runs_gapless (behind s e) es t p.1)

-- ---- the events of a log

pub events_told : (opening : Gtids) (es : List Event) (s : LogState) → runs (start opening) es ≡ Ok s → is_idle s.stage ≡ true → AreOfLog opening es s.previous s.entries s.varied
events_told opening es s h idle = record {
  state = s;
  run = h;
  ended = idle;
  means = sym (runs_tell (start opening) es s (λ b. refl) h) ∙ idle_spelled (meaning_of_entries s.entries) s.stage s.gtid s.changes idle;
  before = runs_before (start opening) es s h;
  varies = runs_vary (start opening) es s h;
  statements = runs_end (start opening) es s h;
  gapless = runs_gapless (start opening) es s h;
}
