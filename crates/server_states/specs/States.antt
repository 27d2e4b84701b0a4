-- The executed sets of several servers, compared. (MySQL 8.0 Reference Manual, "Functions Used with Global Transaction Identifiers
-- (GTIDs)" and "GTID Life Cycle", for sets and gaps; the lines are our own.)
use Rattle.std.specs.Prelude.{◌≡◌, ◌⊎◌, ℕ, ◌+◌, ◌<◌, ◌≤◌, nat_le, nat_lt, true, false, List, [], ◌∷◌, ◌++◌, codes, Result, Ok, Err, if◌then◌else◌}
use Rattle.std.specs.FinSet as set
use Rattle.gtid_text.specs.declared.Gtid.{Gtid}
use Rattle.gtid_text.specs.declared.Span.{Span}
use Rattle.gtid_set.specs.Sets.{Gtids, gtid, interval, source_count, most_sources}
use Rattle.gtid_set.specs.Runs.{runs}
use Rattle.txn_journal.specs.WrittenSets.{set_text}
use Rattle.gtid_report.specs.SetAnswers.{◌>>=◌, small}
use Rattle.gtid_report.specs.declared.fault.Fault.{Fault}
use Rattle.gtid_report.specs.declared.fault.Fault.TheVariants.{Memory, Refused}
use Rattle.gtid_report.specs.declared.refusal.Refusal.TheVariants.{SourcesFull}
use Rattle.server_states.specs.Servers.{ServerValue, servers_in}

-- a set that has not too many sources or intervals
abbrev pub whole : Gtids → Result Gtids Fault
whole s = if nat_lt most_sources (source_count s) then Err (Refused SourcesFull) else small s

-- ---- several sets

-- what one at least has, and what two at least have
pub record TogetherValue : Type 0 where
  pub all : Gtids
  pub shared : Gtids

abbrev pub none : TogetherValue
none = record { all = set.empty; shared = set.empty }

-- with one set more
abbrev pub with_set : TogetherValue → Gtids → Result TogetherValue Fault
with_set t s =
    small (set.intersection t.all s) >>= λ again.
    whole (set.union t.shared again) >>= λ shared.
    whole (set.union t.all s) >>= λ all.
    Ok (record { all = all; shared = shared })

abbrev pub with_servers : TogetherValue → List ServerValue → Result TogetherValue Fault
with_servers t [] = Ok t
with_servers t (s ∷ ss) = with_set t s.executed >>= λ more. with_servers more ss

-- how many of the servers have executed a GTID
abbrev pub holders : Gtid → List ServerValue → ℕ
holders g [] = 0
holders g (s ∷ ss) = if set.contains s.executed g then holders g ss + 1 else holders g ss

-- ---- one set

-- all numbers from 1 to the last of each run
abbrev pub fill_intervals : Gtids → List Span → Result Gtids Fault
fill_intervals before [] = Ok before
fill_intervals before (r ∷ rs) = whole (set.union before (interval r.source 1 r.hi)) >>= λ more. fill_intervals more rs

-- what is missing below the last number of each source
abbrev pub gaps : Gtids → Result Gtids Fault
gaps s = fill_intervals (set.empty) (runs s) >>= λ all. small (set.difference all s)

-- the set lacks it, and has a greater number of its source
pub record IsGap (s : Gtids) (g : Gtid) : Type 0 where
  pub missing : set.contains s g ≡ false
  pub above : 1 ≤ g.number
  pub last : ℕ
  pub below : g.number < last
  pub there : set.contains s (gtid g.source last) ≡ true

-- ---- lines

abbrev pub line : List ℕ → List ℕ → Gtids → List ℕ
line name word s = name ++ word ++ set_text s ++ 10 ∷ []

-- the sets of a server's lines
pub record SetsValue : Type 0 where
  pub lacking : Gtids
  pub gaps : Gtids
  pub alone : Gtids

-- what a server lacks, its gaps, and what it alone has
abbrev pub server_sets : TogetherValue → ServerValue → Result SetsValue Fault
server_sets t s =
    small (set.difference t.all s.executed) >>= λ lacking.
    gaps s.executed >>= λ missing.
    small (set.difference s.executed t.shared) >>= λ alone.
    Ok (record { lacking = lacking; gaps = missing; alone = alone })

abbrev pub lines_of_sets : List ℕ → SetsValue → List ℕ
lines_of_sets name sets = line name (codes " lacks ") sets.lacking ++ line name (codes " gaps ") sets.gaps ++ line name (codes " alone ") sets.alone

abbrev pub server_lines : TogetherValue → ServerValue → Result (List ℕ) Fault
server_lines t s = server_sets t s >>= λ sets. Ok (lines_of_sets s.name sets)

-- the lines of each server, after a text
abbrev pub lines_behind : List ℕ → TogetherValue → List ServerValue → Result (List ℕ) Fault
lines_behind text t [] = Ok text
lines_behind text t (s ∷ ss) = server_lines t s >>= λ more. lines_behind (text ++ more) t ss

-- the union of all
abbrev pub union_line : TogetherValue → List ℕ
union_line t = line (codes "union") (codes " ") t.all

abbrev pub states_of : List ServerValue → Result (List ℕ) Fault
states_of ss = with_servers none ss >>= λ t. lines_behind (union_line t) t ss

-- the union of all, and the lines of each server
abbrev pub states_in : List ℕ → Result (List ℕ) Fault
states_in text = servers_in text >>= states_of

-- ---- servers that were compared

-- servers, and their sets together
pub record ComparedValue : Type 0 where
  pub servers : List ServerValue
  pub together : TogetherValue

abbrev pub compared_lines : ComparedValue → Result (List ℕ) Fault
compared_lines c = lines_behind (union_line c.together) c.together c.servers

-- the lines can be made; or it is the refusal, or out of memory
abbrev pub CanBeMade : Result (List ℕ) Fault → Result (Unit {0}) Fault → Type 0
CanBeMade want (Ok u) = (lines : List ℕ) × (want ≡ Ok lines)
CanBeMade want (Err f) = (f ≡ Memory) ⊎ (want ≡ Err f)

-- the lines of what was compared are the answer; or it is the refusal, or out of memory
abbrev pub Compares : Result (List ℕ) Fault → Result ComparedValue Fault → Type 0
Compares want (Ok c) = (lines : List ℕ) × (want ≡ Ok lines) × (compared_lines c ≡ Ok lines)
Compares want (Err f) = (f ≡ Memory) ⊎ (want ≡ Err f)

-- ---- how many have executed a GTID

-- A GTID is in the union if and only if at least one server has executed it.
abbrev pub UnionCountsOne : Type 0
UnionCountsOne = (ss : List ServerValue) (t : TogetherValue) (g : Gtid) → with_servers none ss ≡ Ok t → set.contains t.all g ≡ nat_le 1 (holders g ss)

-- It is shared if and only if at least two have.
abbrev pub SharedCountsTwo : Type 0
SharedCountsTwo = (ss : List ServerValue) (t : TogetherValue) (g : Gtid) → with_servers none ss ≡ Ok t → set.contains t.shared g ≡ nat_le 2 (holders g ss)
