-- Entries that follow one another in a journal.
use Rattle.std.proofs.Common.{◌≡◌, ℕ, ◌+◌, ◌<◌, List, [], ◌∷◌, ◌++◌, length, get_or, take, drop, Result, Err, refl, sym, ap, subst, ◌∙◌, suc, arith}
use Rattle.std.proofs.lemmas.List.{take_more, take-append-drop}
use Rattle.std.proofs.Math.Seq.{drop-cons}
use Rattle.std.specs.FinSet as set
use Rattle.gtid_set.specs.declared.fault.SetFault.{SetFault}
use Rattle.gtid_set.specs.declared.fault.SetFault.TheVariants.{Memory, PoolFull, SourcesFull}
use Rattle.gtid_set.specs.Full.{IsFullExactly}
use Rattle.gtid_set.specs.Sets.{Gtids}
use Rattle.journal.specs.declared.Entry.{Entry}
use Rattle.binlog_entries.specs.Journals.{MayFollow, MayNotFollow, AllFollow, HasUnfit, seen_behind, IsNoJournal}
use Rattle.binlog_entries.specs.declared.as_journal.LogFault.{LogFault}
use Rattle.binlog_entries.specs.declared.as_journal.LogFault.TheVariants as faults

-- one entry more
pub took_more : (xs : List Entry) (i : ℕ) (e : Entry) → i < length xs → e ≡ get_or xs i e → take (i + 1) xs ≡ take i xs ++ e ∷ []
took_more xs i e lt is = take_more xs i e lt ∙ ap (λ (x : Entry). take i xs ++ x ∷ []) (sym is)

pub seen_behind-push : (seen : Gtids) (xs : List Entry) (e : Entry) → seen_behind seen (xs ++ e ∷ []) ≡ set.insert (seen_behind seen xs) e.gtid
seen_behind-push seen [] e = refl
seen_behind-push seen (x ∷ xs) e = seen_behind-push (set.insert seen x.gtid) xs e

split_at : (xs : List Entry) (i : ℕ) (e : Entry) → i < length xs → e ≡ get_or xs i e → xs ≡ take i xs ++ e ∷ drop (i + 1) xs
split_at xs i e lt is =
    let next : suc i ≡ i + 1 = omega arith in
    sym (take-append-drop i xs)
    ∙ ap (λ (ys : List Entry). take i xs ++ ys) (drop-cons xs i e lt)
    ∙ ap (λ (x : Entry). take i xs ++ x ∷ drop (suc i) xs) (sym is)
    ∙ ap (λ (k : ℕ). take i xs ++ e ∷ drop k xs) next

-- one entry more follows
pub follow_more : (seen : Gtids) (xs : List Entry) (e : Entry) → AllFollow seen xs → MayFollow (seen_behind seen xs) e → AllFollow seen (xs ++ e ∷ [])
follow_more seen [] e all h = (h, tt)
follow_more seen (x ∷ xs) e all h = (all.0, follow_more (set.insert seen x.gtid) xs e all.1 h)

-- a set that is full, or memory that was refused for it
pub not_added : (r : Result (Unit {0}) SetFault) (fault : SetFault) (seen : Gtids) (e : Entry) → MayFollow seen e → r ≡ Err fault → IsFullExactly r (set.insert seen e.gtid) → MayNotFollow (faults.Set fault) seen e
not_added r fault seen e may is full = by_fault fault (subst (λ (x : Result (Unit {0}) SetFault). IsFullExactly x (set.insert seen e.gtid)) is full)
  where
    by_fault : (fault : SetFault) → (let x : Result (Unit {0}) SetFault = Err fault in IsFullExactly x (set.insert seen e.gtid)) → MayNotFollow (faults.Set fault) seen e
    by_fault Memory full = tt
    by_fault PoolFull full = (may, full.1)
    by_fault SourcesFull full = (may, full)

unfit_here : (fault : LogFault) (seen now : Gtids) (xs : List Entry) (i : ℕ) (e : Entry) → i < length xs → e ≡ get_or xs i e → now ≡ seen_behind seen (take i xs) → AllFollow seen (take i xs) → MayNotFollow fault now e → HasUnfit fault seen xs
unfit_here fault seen now xs i e lt is known follow h = record {
  before = take i xs;
  entry = e;
  behind = drop (i + 1) xs;
  parts = split_at xs i e lt is;
  follow = follow;
  refused = subst (λ (s : Gtids). MayNotFollow fault s e) known h;
}

pub unfit_at : (fault : LogFault) (seen now : Gtids) (xs : List Entry) (i : ℕ) (e : Entry) → i < length xs → e ≡ get_or xs i e → now ≡ seen_behind seen (take i xs) → AllFollow seen (take i xs) → MayNotFollow fault now e → IsNoJournal fault seen xs
unfit_at (faults.Set Memory) seen now xs i e lt is known follow h = tt
unfit_at (faults.Set PoolFull) seen now xs i e lt is known follow h = unfit_here (faults.Set PoolFull) seen now xs i e lt is known follow h
unfit_at (faults.Set SourcesFull) seen now xs i e lt is known follow h = unfit_here (faults.Set SourcesFull) seen now xs i e lt is known follow h
unfit_at (faults.Twice gtid) seen now xs i e lt is known follow h = unfit_here (faults.Twice gtid) seen now xs i e lt is known follow h
unfit_at (faults.TooLarge gtid limit) seen now xs i e lt is known follow h = unfit_here (faults.TooLarge gtid limit) seen now xs i e lt is known follow h
