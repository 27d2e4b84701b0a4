-- What else does not apply after a verdict.
use Rattle.std.specs.Prelude.{◌≡◌, ℕ, Bool, true, false, ◌||◌, ◌==◌, nat_lt, List, [], ◌∷◌, Option, Some, Result, Ok, Err, if◌then◌else◌}
use Rattle.std.specs.List.{list_any, AllByRecursion}
use Rattle.std.specs.FinMap as finmap
use Rattle.gtid_text.specs.declared.Gtid.{Gtid}
use Rattle.rows.specs.declared.change.RowFault.{RowFault}
use Rattle.rows.specs.declared.schema.Table.{Table}
use Rattle.rows.specs.Apply.{Rows, apply}
use Rattle.history.specs.Sources.{World, of_source, entries_in}
use Rattle.history.specs.Sources as history
use Rattle.world.specs.declared.verdict.Verdict.{Verdict}
use Rattle.world.specs.declared.verdict.Verdict.TheVariants.{DoesNotApply}
use Rattle.world.specs.Audit.{first_fault}

-- the first transaction of a source that is refused, its source's list taken alone from the opening rows, and why
abbrev pub refused_alone : World → ℕ → Option (Gtid × RowFault)
refused_alone world source = first_fault world.schema (entries_in world (of_source source)) world.opening_rows

-- the verdict reports the first transaction of its source that is refused
abbrev pub IsRefusalNamed : World → Verdict → Type 0
IsRefusalNamed world (DoesNotApply g fault) = refused_alone world g.source ≡ Some (g, fault)
IsRefusalNamed world _ = ⊥

-- the verdict reports a transaction of this source
abbrev pub is_of_refusal : ℕ → Verdict → Bool
is_of_refusal source (DoesNotApply g fault) = g.source == source
is_of_refusal source _ = false

-- the verdict reports a transaction that does not apply
abbrev pub is_refusal : Verdict → Bool
is_refusal (DoesNotApply g fault) = true
is_refusal _ = false

-- the verdict reports a transaction of a greater source
abbrev pub is_greater_refusal : ℕ → Verdict → Bool
is_greater_refusal source (DoesNotApply g fault) = nat_lt source g.source
is_greater_refusal source _ = false

-- these report transactions of greater sources than that of the verdict
abbrev pub AreGreaterRefusals : Verdict → List Verdict → Type 0
AreGreaterRefusals (DoesNotApply g fault) vs = AllByRecursion (λ v. is_greater_refusal g.source v ≡ true) vs
AreGreaterRefusals _ vs = Unit {0}

-- each reports a transaction of a greater source than those before
abbrev pub AreRefusalsAscending : List Verdict → Type 0
AreRefusalsAscending [] = Unit {0}
AreRefusalsAscending (v ∷ vs) = AreGreaterRefusals v vs × AreRefusalsAscending vs

-- Where a transaction does not apply by the verdict, each of these reports the first that is refused in its source's list taken alone;
-- every source whose list taken alone is refused is that of the verdict or of one of these, and of one alone, since sources are ascending.
-- After another verdict there is none.
pub record AreOtherRefusals (world : World) (v : Verdict) (list : List Verdict) : Type 0 where
  pub named : AllByRecursion (IsRefusalNamed world) list
  pub every : is_refusal v ≡ true → (source : ℕ) (fault : Gtid × RowFault) → refused_alone world source ≡ Some fault → (is_of_refusal source v || list_any (is_of_refusal source) list) ≡ true
  pub rising : AreRefusalsAscending (v ∷ list)
  pub none : is_refusal v ≡ false → list ≡ []

-- ---- the pass over the transactions

-- a refused transaction is reported, and after it what `behind` has; else the search goes on from the rows that are left
abbrev pub refused_or : history.Entry → Result Rows RowFault → (Rows → List Verdict) → List Verdict → List Verdict
refused_or e (Ok rows) more behind = more rows
refused_or e (Err fault) more behind = DoesNotApply e.0 fault ∷ behind

-- for each greater source the first of these that is refused, one after another; the others of its source are passed over
abbrev pub refused_from : List Table → ℕ → List history.Entry → Rows → List Verdict
refused_from schema passed [] rows = []
refused_from schema passed (e ∷ es) rows =
    if nat_lt passed e.0.source then refused_or e (apply schema e.1 rows) (refused_from schema passed es) (refused_from schema e.0.source es rows)
    else refused_from schema passed es rows

-- if by the verdict a transaction does not apply, what is refused of greater sources
abbrev pub other_refusals : World → Verdict → List Verdict
other_refusals world (DoesNotApply g fault) = refused_from world.schema g.source (finmap.entries world.contents) world.opening_rows
other_refusals world _ = []
