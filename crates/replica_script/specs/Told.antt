-- How a script takes its lines.
use Rattle.std.specs.Prelude.{◌≡◌, ℕ, ◌==◌, Bool, true, false, not, List, [], ◌∷◌, Some, None, is_some, Result, codes, if◌then◌else◌}
use Rattle.std.specs.Str.{bytes_eq}
use Rattle.txn_journal.specs.declared.lines.Version.{Version}
use Rattle.txn_journal.specs.declared.lines.Version.TheVariants.{One, Three}
use Rattle.replica_script.specs.declared.answer.Asking.{Asking}
use Rattle.replica_script.specs.declared.answer.Stop.{Stop}
use Rattle.replica_script.specs.declared.script.Script.{Script}
use Rattle.replica_script.specs.declared.script.Stage.{Stage}
use Rattle.replica_script.specs.Scripts.{ending}

-- before the first line, and behind a line of three hyphens: nothing is declared, and what follows is of version 1
pub record IsFresh (asking : Asking) (stage : Stage) : Type 0 where
  pub asking_is : stage.asking ≡ asking
  pub version_is : stage.version ≡ One
  pub none_declared : stage.declared.is_begun ≡ false
  pub no_replicas : stage.replicas ≡ None
  pub no_transaction : stage.pending ≡ None

-- before the first line
pub record IsStart (asking : Asking) (script : Script) : Type 0 where
  pub fresh : IsFresh asking script.stage
  pub not_stopped : script.stopped ≡ None

-- a line that is passed over: an empty one, or a comment
abbrev pub is_passed_over : List ℕ → Bool
is_passed_over [] = true
is_passed_over (first ∷ more) = first == 35

-- version 3 begins: only before any table, reference or row, and once; nothing else changes
pub record BeginsThree (old new : Stage) : Type 0 where
  pub was_one : old.version ≡ One
  pub none_declared : old.declared.is_begun ≡ false
  pub next : new ≡ record old { version = Three }

-- the version of what follows a declaration
abbrev pub version_declared : Version → List ℕ → Version
version_declared version line = if bytes_eq line (codes "version 3") then Three else version

-- the version of what follows a line, whether a declaration is due there or not: three hyphens go back to version 1
abbrev pub version_after : Version → Bool → List ℕ → Version
version_after version declares line =
    if bytes_eq line (codes "---") then One
    else if declares then version_declared version line
    else version

-- the same of a stage; within a transaction the version stays
abbrev pub next_version : Stage → List ℕ → Version
next_version old line = if is_some old.pending then old.version else version_after old.version (not (is_some old.replicas)) line

-- a line was taken and answered by this text: one that is passed over by nothing, and it changes nothing; outside a transaction one of three
-- hyphens by itself; a declaration of version 3 by nothing
pub record IsTaken (old : Stage) (line text : List ℕ) (new : Stage) : Type 0 where
  pub passed_over : is_passed_over line ≡ true → (text ≡ []) × (new ≡ old)
  pub afresh : old.pending ≡ None → line ≡ codes "---" → (text ≡ codes "---\n") × IsFresh old.asking new
  pub begun : old.pending ≡ None → old.replicas ≡ None → line ≡ codes "version 3" → (text ≡ []) × BeginsThree old new
  pub version : new.version ≡ next_version old line

-- a script took a line and answered it; no line is answered after a stop
pub record IsTold (before : Script) (line text : List ℕ) (after : Script) : Type 0 where
  pub went_on : before.stopped ≡ None
  pub goes_on : after.stopped ≡ None
  pub taken : IsTaken before.stage line text after.stage

-- why a line has no answer: after a stop that stop, at every line
abbrev pub IsStoppedBy : Script → List ℕ → Stop → Type 0
IsStoppedBy before line stop = (first : Stop) → before.stopped ≡ Some first → stop ≡ first

-- how a script has ended if no line follows
abbrev pub script_end : Script → Result (Unit {0}) Stop
script_end script = ending script.stopped (is_some script.stage.pending)
