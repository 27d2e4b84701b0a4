-- How many intervals an audit's sets have.
use Rattle.std.proofs.Common.{◌≡◌, ℕ, zero, suc, ◌<◌, ◌≤◌, ◌+◌, ◌-◌, Bool, true, false, cond, not, ◌&&◌, ◌||◌, ◌⊎◌, inl, inr, List, [], ◌∷◌, length, Option, Some, refl, sym, ap, ◌∙◌, subst, arith}
use Rattle.std.specs.Prelude.{slice_get, nat_le}
use Rattle.std.specs.FinMap as finmap
use Rattle.std.specs.FinSet as set
use Rattle.std.proofs.lemmas.Bool.{or_left, or_right}
use Rattle.std.proofs.lemmas.Bool.Decides.{nat_tests}
use Rattle.std.proofs.lemmas.List.{length-append}
use Rattle.std.proofs.lemmas.Option.{same_Some}
use Rattle.lemmas.proofs.Options.{none_some}
use Rattle.lemmas.proofs.SameGtid.{same_is_equal, same_itself, gtid_total}
use Rattle.gtid_text.specs.declared.Gtid.{Gtid}
use Rattle.gtid_text.specs.declared.Span.{Span}
use Rattle.gtid_text.specs.Gtids.{gtid_cmp, same_gtid}
use Rattle.gtid_set.specs.Edges.{HasEdges, HasEnds, ends_of, has_before, changes_at, next_to}
use Rattle.gtid_set.specs.Full.{interval_count, most_intervals}
use Rattle.gtid_set.specs.Runs.{runs}
use Rattle.gtid_set.specs.Sets.{Gtids, interval}
use Rattle.gtid_set.specs.Spans.{set_of}
use Rattle.gtid_set.proofs.EdgeLemmas.{contains-listed, len-listed, length-ends, edge_at, few_intervals, listed_edges, moved_edges, union_few, difference_few}
use Rattle.gtid_set.proofs.RunLemmas.{runs_merged}
use Rattle.gtid_set.proofs.SetSources.{union_none, with_one}
use Rattle.history.proofs.Covering.{in_insert}
use Rattle.rows.specs.declared.change.Transaction.{Transaction}
use Rattle.journal.specs.declared.Entry.{Entry}
use Rattle.journal.specs.Journals.{JournalValue}
use Rattle.history.specs.Sources.{World}
use Rattle.history.specs.Sources as history
use Rattle.world.specs.Audit.{all_entries, first_contents, present}
use Rattle.audit.specs.Faults.{LacksMany, intervals_of}
use Rattle.audit.specs.Missing.{number_before}
use Rattle.audit.specs.Others.{skips_from}

-- ---- one run more

pub union_interval_few : (s : Gtids) (source lo hi : ℕ) → interval_count (set.union s (interval source lo hi)) ≤ interval_count s + 1
union_interval_few s source lo hi = by (nat_le lo hi) refl
  where
    by : (b : Bool) → nat_le lo hi ≡ b → interval_count (set.union s (interval source lo hi)) ≤ interval_count s + 1
    by true e =
        let span : Span = record { source = source; lo = lo; hi = hi } in
        let one : interval_count (set_of (span ∷ [])) ≡ 1 = ap length (runs_merged (span ∷ []) (ap (λ b. b && true) e)) in
        let same = ap interval_count (with_one s span) in
        let few = union_few s (set_of (span ∷ [])) in
        omega (arith, one, same, few)
    by false e =
        let same = ap interval_count (union_none s source lo hi (grind (arith, nat_tests))) in
        omega (arith, same)

-- a GTID that begins a run is taken out of it
pub without_few : (s : Gtids) (g : Gtid) → set.contains s g ≡ true → has_before s g ≡ false → interval_count (set.difference s (set.insert set.empty g)) ≤ interval_count s
without_few s g there begins =
    let few = few_intervals places rest (moved_edges places s rest old (λ q. at q (same_gtid q g) refl)) in
    let le = len-listed list in
    let ends = length-ends (runs s) in
    omega (arith, few, le, ends)
  where
    rest : Gtids
    rest = set.difference s (set.insert set.empty g)

    list : List Gtid
    list = next_to g ∷ ends_of (runs s)

    places : Gtids
    places = set.from_list list

    old : HasEdges places s
    old = listed_edges list s (λ q h. or_right (same_gtid q (next_to g)) _ h)

    ends : HasEnds places g
    ends = (edge_at places s old g changes, contains-listed list (next_to g) ∙ or_left (same_gtid (next_to g) (next_to g)) _ (same_itself (next_to g)))
      where
        changes : changes_at s g ≡ true
        changes = λ i. (there i && not (begins i)) || (not (there i) && begins i)

    at : (q : Gtid) (b : Bool) → same_gtid q g ≡ b → (set.contains rest q ≡ set.contains s q) ⊎ HasEnds places q
    at q true e = inr (subst (HasEnds places) (sym (same_is_equal q g e)) ends)
    at q false e = inl (set.contains-difference gtid_total s (set.insert set.empty g) q ∙ ap (λ b. set.contains s q && not b) (in_insert (set.empty {R = gtid_cmp}) g q ∙ ap (λ b. b || set.contains {R = gtid_cmp} set.empty q) e ∙ set.contains-empty gtid_cmp q) ∙ kept (set.contains s q))
      where
        kept : (b : Bool) → (b && true) ≡ b
        kept true = refl
        kept false = refl

pub no_intervals : interval_count set.empty ≡ 0
no_intervals = ap length (runs_merged [] refl)

-- ---- what entries skip

pub skips_few : (skipped : Gtids) (last : Option Gtid) (es : List history.Entry) → interval_count (skips_from skipped last es) ≤ interval_count skipped + length es
skips_few skipped last [] = omega arith
skips_few skipped last (e ∷ es) =
    let next = set.union skipped (interval e.0.source (number_before last e.0.source + 1) (e.0.number - 1)) in
    let more = union_interval_few skipped e.0.source (number_before last e.0.source + 1) (e.0.number - 1) in
    let rest = skips_few next (Some e.0) es in
    omega (arith, more, rest)

contents_few : (opened : Gtids) (es : List Entry) → finmap.len (first_contents opened es) ≤ length es
contents_few opened [] = let none = finmap.len-empty gtid_cmp Transaction in omega (arith, none)
contents_few opened (e ∷ es) = by (set.contains opened e.gtid) (finmap.contains_key (first_contents opened es) e.gtid) refl (contents_few opened es)
  where
    by : (b c : Bool) → finmap.contains_key (first_contents opened es) e.gtid ≡ c → finmap.len (first_contents opened es) ≤ length es → finmap.len (cond b (first_contents opened es) (finmap.insert (first_contents opened es) e.gtid e.txn)) ≤ suc (length es)
    by true c is rest = omega (arith, rest)
    by false true is rest = let more = finmap.len-insert gtid_total (first_contents opened es) e.gtid e.txn ∙ ap (λ b. cond b (finmap.len (first_contents opened es)) (finmap.len (first_contents opened es) + 1)) is in omega (arith, rest, more)
    by false false is rest = let more = finmap.len-insert gtid_total (first_contents opened es) e.gtid e.txn ∙ ap (λ b. cond b (finmap.len (first_contents opened es)) (finmap.len (first_contents opened es) + 1)) is in omega (arith, rest, more)

entries_few : (opened : Gtids) (js : List JournalValue) → length (all_entries js) + interval_count opened ≤ intervals_of opened js
entries_few opened [] = omega arith
entries_few opened (j ∷ js) =
    let both = length-append j.entries (all_entries js) in
    let rest = entries_few opened js in
    omega (arith, both, rest)

-- what is in the journals, and the intervals of the opening set
pub present_few : (world : World) (journals : List JournalValue) → length (present world journals) + interval_count world.opening_set ≤ intervals_of world.opening_set journals
present_few world journals =
    let long = finmap.len-entries (first_contents world.opening_set (all_entries journals)) in
    let few = contents_few world.opening_set (all_entries journals) in
    let all = entries_few world.opening_set journals in
    omega (arith, long, few, all)

-- ---- previous sets

pub opening_few : (opened : Gtids) (js : List JournalValue) → interval_count opened ≤ intervals_of opened js
opening_few opened js = let all = entries_few opened js in omega (arith, all)

pub previous_few : (opened : Gtids) (js : List JournalValue) (i : ℕ) (j : JournalValue) → slice_get js i ≡ Some j → interval_count j.previous + interval_count opened ≤ intervals_of opened js
previous_few opened [] i j at = none_some j at
previous_few opened (k ∷ js) zero j at =
    let same = ap (λ (x : JournalValue). interval_count x.previous) (same_Some k j at) in
    let rest = opening_few opened js in
    omega (arith, same, rest)
previous_few opened (k ∷ js) (suc i) j at = let rest = previous_few opened js i j at in omega (arith, rest)

-- what some previous set has outside the opening set has no more intervals than all sets together
pub lacks_few : (opened : Gtids) (journals : List JournalValue) → LacksMany opened journals → most_intervals < intervals_of opened journals
lacks_few opened journals lacks =
    let few = difference_few lacks.journal.previous opened in
    let sum = previous_few opened journals lacks.place lacks.journal lacks.at in
    let many = lacks.many in
    omega (arith, few, sum, many)
