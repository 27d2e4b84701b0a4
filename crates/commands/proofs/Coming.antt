-- A bundle that comes in pieces.
use Rattle.std.proofs.Common.{◌≡◌, ℕ, inl, inr, List, ◌++◌, sym, ap, subst, ◌∙◌, append_assoc}
use Rattle.gtid_set.specs.declared.fault.SetFault.{SetFault}
use Rattle.gtid_set.specs.declared.fault.SetFault.TheVariants.{SourcesFull, PoolFull}
use Rattle.gtid_set.proofs.FaultLemmas.{fault_map}
use Rattle.txn_journal.specs.Stream.{Judge, Progress, Stopped, feed_bytes, HasFull, Fills, IsPieceFault, IsAfter, Feeds}
use Rattle.txn_journal.specs.declared.fault.JournalFault.{JournalFault}
use Rattle.txn_journal.specs.declared.fault.JournalFault.TheVariants as faults
use Rattle.txn_journal.proofs.Pieces.{stopped_stays, eats_append}

module _ {S : Type 0} (full : SetFault → S → Type 0) (judge : Judge S) (start : Progress S) where
  abbrev Come : List ℕ → Progress S → Type 0
  Come bytes p = IsAfter (IsPieceFault full judge start bytes) p (feed_bytes judge start bytes)

  -- what was full is full, whatever comes after it
  still : (f : SetFault) (bytes piece : List ℕ) → Fills (full f) judge start bytes → Fills (full f) judge start (bytes ++ piece)
  still f bytes piece h = record { front = h.front; rest = h.rest ++ piece; parts = ap (λ (t : List ℕ). t ++ piece) h.parts ∙ append_assoc h.front h.rest piece; is_full = h.is_full }

  -- what a piece makes full is full after all
  behind : (f : SetFault) (bytes piece : List ℕ) (old : Progress S) → old ≡ feed_bytes judge start bytes → Fills (full f) judge old piece → Fills (full f) judge start (bytes ++ piece)
  behind f bytes piece old same h = record {
    front = bytes ++ h.front;
    rest = h.rest;
    parts = ap (λ (t : List ℕ). bytes ++ t) h.parts ∙ sym (append_assoc bytes h.front h.rest);
    is_full = subst (HasFull (full f)) (ap (λ (p : Progress S). feed_bytes judge p h.front) same ∙ sym (eats_append judge start bytes h.front)) h.is_full;
  }

  -- nothing is full once the reading has stopped
  no_more : (f : SetFault) (fault : JournalFault) (piece : List ℕ) (old : Progress S) → old ≡ Stopped fault → Fills (full f) judge old piece → ⊥
  no_more f fault piece old stop h = subst (HasFull (full f)) (ap (λ (p : Progress S). feed_bytes judge p h.front) stop ∙ stopped_stays judge fault h.front) h.is_full

  after_stop : (bytes piece : List ℕ) (old new : Progress S) (fault : SetFault) → old ≡ Stopped (faults.Set fault) → IsPieceFault full judge start bytes fault → Feeds full judge old piece new → Come (bytes ++ piece) new
  after_stop bytes piece old new fault stop may (inl x) =
      inl (x.0, x.1, fault_map x.0 (λ h. absurd (no_more SourcesFull (faults.Set fault) piece old stop h)) (λ h. absurd (no_more PoolFull (faults.Set fault) piece old stop h)) x.2)
  after_stop bytes piece old new fault stop may (inr same) =
      inl (fault, same ∙ ap (λ (p : Progress S). feed_bytes judge p piece) stop ∙ stopped_stays judge (faults.Set fault) piece, fault_map fault (still SourcesFull bytes piece) (still PoolFull bytes piece) may)

  after_more : (bytes piece : List ℕ) (old new : Progress S) → old ≡ feed_bytes judge start bytes → Feeds full judge old piece new → Come (bytes ++ piece) new
  after_more bytes piece old new come (inl x) = inl (x.0, x.1, fault_map x.0 (behind SourcesFull bytes piece old come) (behind PoolFull bytes piece old come) x.2)
  after_more bytes piece old new come (inr same) = inr (same ∙ ap (λ (p : Progress S). feed_bytes judge p piece) come ∙ sym (eats_append judge start bytes piece))

  -- one piece more has come
  pub come_more : (bytes piece : List ℕ) (old new : Progress S) → Come bytes old → Feeds full judge old piece new → Come (bytes ++ piece) new
  come_more bytes piece old new (inl x) fed = after_stop bytes piece old new x.0 x.1 x.2 fed
  come_more bytes piece old new (inr same) fed = after_more bytes piece old new same fed
