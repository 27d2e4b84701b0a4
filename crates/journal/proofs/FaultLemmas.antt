-- A set with more GTIDs has no fewer sources.
use Rattle.std.proofs.Common.{◌≡◌, ℕ, ◌≤◌, ◌+◌, zero, suc, Bool, true, false, cond, List, [], ◌∷◌, take, drop, refl, sym, ap, subst, ◌∙◌, arith}
use Rattle.std.proofs.Math.Nat.{le_trans}
use Rattle.std.specs.FinSet as set
use Rattle.std.specs.Cmp.{nat_cmp_total}
use Rattle.gtid_text.specs.declared.Gtid.{Gtid}
use Rattle.gtid_set.specs.declared.fault.SetFault.{SetFault}
use Rattle.gtid_set.specs.Sets.{Gtids, sources_of, source_count}
use Rattle.gtid_set.proofs.FaultLemmas.{fault_map}
use Rattle.gtid_set.proofs.SetLemmas.{union_empty}
use Rattle.gtid_set.proofs.SetSources.{sources_with_interval, union_one}
use Rattle.journal.specs.declared.Entry.{Entry}
use Rattle.gtid_set.specs.Full.{IsFaultOf, HasManyIntervals}
use Rattle.journal.specs.Journals.{JournalValue, gtids_of}
use Rattle.journal.specs.Faults.{IsAddingFault, IsPurgedFault}
use Rattle.journal.proofs.EntryLemmas.{union-gtids_of-cons}

pub no_less : (b : Bool) (n : ℕ) → n ≤ cond b n (n + 1)
no_less true n = omega arith
no_less false n = omega arith

one_more : (s : Gtids) (g : Gtid) → source_count s ≤ source_count (set.insert s g)
one_more s g =
    let low : g.number ≤ g.number = omega arith in
    let sources = ap sources_of (sym (union_one s g)) ∙ sources_with_interval s g.source g.number g.number low in
    let count = ap set.len sources ∙ set.len-insert nat_cmp_total (sources_of s) g.source in
    subst (λ n. source_count s ≤ n) (sym count) (no_less (set.contains (sources_of s) g.source) (source_count s))

more : (es : List Entry) (s : Gtids) → source_count s ≤ source_count (set.union s (gtids_of es))
more [] s = subst (λ t. source_count s ≤ source_count t) (union_empty s) (omega arith)
more (e ∷ es) s =
    subst (λ t. source_count s ≤ source_count t) (union-gtids_of-cons s e es)
    (le_trans (one_more s e.gtid) (more es (set.insert s e.gtid)))

pub joined : (n : ℕ) (seen : Gtids) (es : List Entry) → set.union (set.union seen (gtids_of (take n es))) (gtids_of (drop n es)) ≡ set.union seen (gtids_of es)
joined zero seen es = ap (λ s. set.union s (gtids_of es)) (sym (union_empty seen))
joined (suc n) seen [] = ap (λ s. set.union s (gtids_of [])) (sym (union_empty seen))
joined (suc n) seen (x ∷ es) =
    ap (λ s. set.union s (gtids_of (drop n es))) (sym (union-gtids_of-cons seen x (take n es)))
    ∙ joined n (set.insert seen x.gtid) es
    ∙ union-gtids_of-cons seen x es

-- the GTIDs of all entries have no fewer sources than those of the first ones
pub fewer : (n : ℕ) (s : Gtids) (es : List Entry) → source_count (set.union s (gtids_of (take n es))) ≤ source_count (set.union s (gtids_of es))
fewer n s es =
    subst (λ t. source_count (set.union s (gtids_of (take n es))) ≤ source_count t) (joined n s es)
    (more (drop n es) (set.union s (gtids_of (take n es))))

-- what is too much for the first entries is too much on the way
pub adding_fault : (f : SetFault) (n : ℕ) (s : Gtids) (es : List Entry) → IsFaultOf f (set.union s (gtids_of (take n es))) → IsAddingFault f s es
adding_fault f n s es h = fault_map f (λ over. let low = fewer n s es in omega (arith, low, over)) (λ over. (n, over)) h

-- the first of the first entries
record IsFront (n most : ℕ) (es : List Entry) : Type 0 where
  count : ℕ
  few : count ≤ most
  same : take n (take most es) ≡ take count es

front : (n most : ℕ) (es : List Entry) → IsFront n most es
front zero most es = record { count = 0; few = omega arith; same = refl }
front (suc n) zero es = record { count = 0; few = omega arith; same = refl }
front (suc n) (suc most) [] = record { count = 0; few = omega arith; same = refl }
front (suc n) (suc most) (e ∷ es) = let r = front n most es in let few = r.few in record { count = suc r.count; few = omega (arith, few); same = ap (λ xs. e ∷ xs) r.same }

pub purged_fault : (f : SetFault) (count : ℕ) (j : JournalValue) (known : Gtids) (entries : List Entry) → known ≡ j.previous → entries ≡ take count j.entries → IsAddingFault f known entries → IsPurgedFault f count j
purged_fault f count j known entries is are adds =
    let h : IsAddingFault f j.previous (take count j.entries) = subst (λ (es : List Entry). IsAddingFault f j.previous es) are (subst (λ (s : Gtids). IsAddingFault f s entries) is adds) in
    fault_map f (λ over. over) (λ over.
    let r = front over.0 count j.entries in
    (r.count, r.few, subst (λ es. HasManyIntervals (set.union j.previous (gtids_of es))) r.same over.1)) h
