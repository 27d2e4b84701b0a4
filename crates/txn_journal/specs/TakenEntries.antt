-- Entries that are taken whole.
use Rattle.std.specs.Prelude.{◌≡◌, ℕ, true, false, nat_le, List, [], ◌∷◌, length, Bool, Some, Result, Ok, Err}
use Rattle.std.specs.List.{list_all, AllByRecursion}
use Rattle.std.specs.FinSet as set
use Rattle.std.specs.declared.alloc.AllocError.{AllocError}
use Rattle.gtid_text.specs.declared.Gtid.{Gtid}
use Rattle.rows.specs.declared.change.Change.{Change}
use Rattle.rows.specs.declared.schema.Table.{Table}
use Rattle.journal.specs.Writing.{is_number}
use Rattle.txn_journal.specs.Words.{IsOneLine}
use Rattle.txn_journal.specs.Stream.{Judge}
use Rattle.txn_journal.specs.Lines.{◌>>=◌}
use Rattle.txn_journal.specs.Machine.{Standing, fits, join_entry}
use Rattle.txn_journal.specs.EntryLines.{ended}
use Rattle.txn_journal.specs.declared.fault.Cause.{Cause}
use Rattle.txn_journal.specs.declared.lines.LinePlace.TheVariants.{Between}
use Rattle.txn_journal.specs.declared.lines.Version.TheVariants.{One}

-- what lines make, one after another
abbrev pub judge_all : {S : Type 0} → Judge S → S → List (List ℕ) → Result S Cause
judge_all judge s [] = Ok s
judge_all judge s (l ∷ ls) = judge s l >>= λ t. judge_all judge t ls

-- a text is this many whole lines, which make this
pub record Makes {S : Type 0} (judge : Judge S) (text : List ℕ) (count : ℕ) (old new : S) : Type 0 where
  pub lines : List (List ℕ)
  pub parts : text ≡ ended lines
  pub whole : AllByRecursion IsOneLine lines
  pub number : count ≡ length lines
  pub made : judge_all judge old lines ≡ Ok new

-- A call that takes the lines of a text has made what they make, or answered false and changed nothing, unless out of memory.
abbrev pub TakesText : {S : Type 0} → Judge S → Result Bool AllocError → List ℕ → ℕ → S → S → Type 0
TakesText judge (Ok true) text count old new = Makes judge text count old new
TakesText judge (Ok false) text count old new = new ≡ old
TakesText judge (Err _) text count old new = Unit {0}

-- nothing is wrong with an entry of version 1 of this GTID and these changes, if it comes next
pub record MayFollow (tables : List Table) (s : Standing) (gtid : Gtid) (changes : List Change) : Type 0 where
  pub place : s.place ≡ Between
  pub version : s.version ≡ One
  pub nothing_open : s.changes ≡ []
  pub number : is_number gtid.number ≡ true
  pub room : nat_le 4294967294 s.count ≡ false
  pub unseen : set.contains s.seen gtid ≡ false
  pub fit : list_all (fits (Some tables)) changes ≡ true

-- such an entry joins the others
abbrev pub with_entry : Standing → Gtid → List Change → Standing
with_entry s gtid changes = join_entry (record s { gtid = gtid; stamp = 0 }) (record { gtid = gtid; txn = record { changes = changes } })

-- A call that takes an entry whole has joined it to the others, or answered false and changed nothing, unless out of memory.
abbrev pub JoinsEntry : List Table → Result Bool AllocError → Gtid → List Change → Standing → Standing → Type 0
JoinsEntry tables (Ok true) gtid changes old new = MayFollow tables old gtid changes × (new ≡ with_entry old gtid changes)
JoinsEntry tables (Ok false) gtid changes old new = new ≡ old
JoinsEntry tables (Err _) gtid changes old new = Unit {0}
