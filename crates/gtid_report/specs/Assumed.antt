-- What a verdict on a bundle rests on, as it is printed. The words and their order are our own.
use Rattle.std.specs.Prelude.{ℕ, Bool, true, false, not, ◌&&◌, nat_lt, List, [], ◌∷◌, ◌++◌, length, codes, flat_map, if◌then◌else◌}
use Rattle.std.specs.List.{list_any}
use Rattle.txn_journal.specs.Assumptions.{assumption_text, says_rows}
use Rattle.txn_journal.specs.BundleStates.{BundleValue}
use Rattle.txn_journal.specs.declared.assumptions.Assumption.{Assumption}
use Rattle.txn_journal.specs.declared.assumptions.Assumption.TheVariants.{References}
use Rattle.world.specs.declared.verdict.Verdict.{Verdict}
use Rattle.world.specs.declared.verdict.Verdict.TheVariants.{Sound}
use Rattle.gtid_report.specs.VerdictLines.{verdict_line}

abbrev pub says_references : Assumption → Bool
says_references References = true
says_references _ = false

-- No audit looks at foreign keys: that is assumed where the bundle has some, whether a line says so or not.
abbrev pub is_implied : BundleValue → Bool
is_implied b = nat_lt 0 (length b.references) && not (list_any says_references b.assumptions)

-- with `references` in its place: `rows` alone comes after it
abbrev pub with_references : List Assumption → List Assumption
with_references [] = References ∷ []
with_references (a ∷ said) = if says_rows a then References ∷ a ∷ said else a ∷ with_references said

-- what a verdict on the bundle rests on, in the order of the lines
abbrev pub assumed : BundleValue → List Assumption
assumed b = if is_implied b then with_references b.assumptions else b.assumptions

-- ---- as text

-- one more, after a comma
abbrev pub next_condition : Assumption → List ℕ
next_condition a = codes ", " ++ assumption_text a

abbrev pub conditions : List Assumption → List ℕ
conditions [] = []
conditions (a ∷ said) = assumption_text a ++ flat_map next_condition said

-- `sound`, if nothing is assumed
abbrev pub sound_line : List Assumption → List ℕ
sound_line [] = codes "sound"
sound_line (a ∷ said) = codes "sound if " ++ conditions (a ∷ said)

-- Sound is said with its conditions; all other verdicts are as without them
abbrev pub verdict_line_under : List Assumption → Verdict → List ℕ
verdict_line_under said Sound = sound_line said
verdict_line_under said v = verdict_line v

-- a line for each
abbrev pub assume_line : Assumption → List ℕ
assume_line a = codes "assume " ++ (assumption_text a ++ codes "\n")

abbrev pub assume_lines : List Assumption → List ℕ
assume_lines said = flat_map assume_line said
