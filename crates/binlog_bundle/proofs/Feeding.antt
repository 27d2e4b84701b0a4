-- Pieces of a bundle's text, one after another.
use Rattle.std.proofs.Common.{◌≡◌, ℕ, eqb, Bool, true, false, cond, List, [], ◌∷◌, ◌++◌, Result, Ok, Err, sym, ap, ◌∙◌, subst, append_assoc, inl, inr}
use Rattle.std.specs.Prelude.{OnOk, IfOk, IfErr}
use Rattle.gtid_set.specs.declared.fault.SetFault.{SetFault}
use Rattle.gtid_set.specs.declared.fault.SetFault.TheVariants.{PoolFull, SourcesFull}
use Rattle.gtid_set.proofs.FaultLemmas.{fault_map}
use Rattle.txn_journal.specs.BundleStates.{BundleValue, BundleStanding}
use Rattle.txn_journal.specs.declared.placed.Placed.{Placed}
use Rattle.txn_journal.specs.BundleReading.{bundles, BundleProgress, bundle_start, feed_bundle_bytes, closing_bundle, IsFaultOfBundle}
use Rattle.txn_journal.specs.BundleRefused.{RefusesBundleBy, RefusesBundle}
use Rattle.txn_journal.specs.BundleText.{WritesBundle}
use Rattle.txn_journal.specs.Formats.{FeedsBy, closing_by}
use Rattle.txn_journal.specs.Stream.{Reading, Stopped, next_number, progress_after, feed_byte, feed_bytes, answer, HasFull, Fills, IsPieceFault, IsWhole}
use Rattle.txn_journal.specs.declared.fault.Cause.{Cause}
use Rattle.txn_journal.specs.declared.fault.JournalFault.{JournalFault}
use Rattle.txn_journal.specs.declared.fault.JournalFault.TheVariants as faults
use Rattle.txn_journal.proofs.Pieces.{eats_append, stopped_stays}
use Rattle.txn_journal.proofs.FormatLaws.{is_found, is_refused, reads_back}
use Rattle.txn_journal.proofs.BundlePlaces.{IsSoundBundle, bundle_laws}
use Rattle.txn_journal.specs.declared.lines.Due.TheVariants.{Any, Only}
use Rattle.txn_journal.specs.declared.lines.Version.TheVariants.{Three}
use Rattle.binlog_bundle.specs.Refused.{GoesOn, IsFed, IsTaken, StopsAt, IsRefused, IsHeadRefused}

-- ---- the fold over the bytes

abbrev Made : Type 0
Made = Placed BundleStanding

abbrev judge_text : Made → List ℕ → Result Made Cause
judge_text = (bundles Any).judge

abbrev IsFullText : SetFault → Made → Type 0
IsFullText = (bundles Any).IsFull

abbrev read : List ℕ → BundleProgress
read bytes = feed_bundle_bytes (bundle_start Any) bytes

read_more : (xs ys : List ℕ) → read (xs ++ ys) ≡ feed_bundle_bytes (read xs) ys
read_more xs ys = eats_append judge_text (bundle_start Any) xs ys

-- a line is refused, and not that there is none
last_byte : (v : Bool) (r : Result Made Cause) (s : Made) (k m n : ℕ) (rest : List ℕ) → cond v (progress_after r m) (Reading s k rest) ≡ Stopped (faults.Truncated n) → ⊥
last_byte true (Ok t) s k m n rest e = cc
last_byte true (Err c) s k m n rest e = cc
last_byte false r s k m n rest e = cc

byte_not_short : (p : BundleProgress) (b n : ℕ) → ((m : ℕ) → p ≡ Stopped (faults.Truncated m) → ⊥) → feed_byte judge_text p b ≡ Stopped (faults.Truncated n) → ⊥
unfolding feed_byte
byte_not_short (Stopped fault) b n not e = not n e
byte_not_short (Reading s k rest) b n not e = last_byte (eqb b 10) (judge_text s rest) s k (next_number k) n (rest ++ b ∷ []) e

not_short : (bytes : List ℕ) (p : BundleProgress) (n : ℕ) → ((m : ℕ) → p ≡ Stopped (faults.Truncated m) → ⊥) → feed_bytes judge_text p bytes ≡ Stopped (faults.Truncated n) → ⊥
not_short [] p n not e = not n e
not_short (b ∷ bs) p n not e = not_short bs (feed_byte judge_text p b) n (λ m. byte_not_short p b m not) e

not_short_yet : (m : ℕ) → bundle_start Any ≡ Stopped (faults.Truncated m) → ⊥
not_short_yet m e = cc

-- ---- sets that are full

fills_more : (large : Made → Type 0) (xs ys : List ℕ) → Fills large judge_text (bundle_start Any) xs → Fills large judge_text (bundle_start Any) (xs ++ ys)
fills_more large xs ys k = record {
  front = k.front;
  rest = k.rest ++ ys;
  parts = ap (λ (zs : List ℕ). zs ++ ys) k.parts ∙ append_assoc k.front k.rest ys;
  is_full = k.is_full;
}

fills_behind : (large : Made → Type 0) (xs ys : List ℕ) (p : BundleProgress) → p ≡ read xs → Fills large judge_text p ys → Fills large judge_text (bundle_start Any) (xs ++ ys)
fills_behind large xs ys p is k = record {
  front = xs ++ k.front;
  rest = k.rest;
  parts = ap (λ (zs : List ℕ). xs ++ zs) k.parts ∙ sym (append_assoc xs k.front k.rest);
  is_full = subst (HasFull large) (sym (read_more xs k.front ∙ ap (λ (q : BundleProgress). feed_bundle_bytes q k.front) (sym is))) k.is_full;
}

full_more : (fault : SetFault) (xs ys : List ℕ) → IsFaultOfBundle (bundle_start Any) xs fault → IsFaultOfBundle (bundle_start Any) (xs ++ ys) fault
full_more fault xs ys h = fault_map fault (fills_more (IsFullText SourcesFull) xs ys) (fills_more (IsFullText PoolFull) xs ys) h

full_behind : (fault : SetFault) (xs ys : List ℕ) (p : BundleProgress) → p ≡ read xs → IsPieceFault IsFullText judge_text p ys fault → IsFaultOfBundle (bundle_start Any) (xs ++ ys) fault
full_behind fault xs ys p is h = fault_map fault (fills_behind (IsFullText SourcesFull) xs ys p is) (fills_behind (IsFullText PoolFull) xs ys p is) h

-- ---- what is refused

refuses : (fault : JournalFault) (bytes : List ℕ) → Err fault ≡ closing_bundle (read bytes) → RefusesBundle fault bytes
refuses fault bytes h = is_refused (bundles Any) (IsSoundBundle Any) (bundle_laws Any) (Err fault) bytes (inr h)

closed_is : (fault : JournalFault) (bytes : List ℕ) → (let r : Result BundleValue JournalFault = Err fault in r) ≡ closing_bundle (read bytes) → IsRefused fault bytes
closed_is (faults.Set fault) bytes h = refuses (faults.Set fault) bytes h
closed_is (faults.Line n cause) bytes h = (refuses (faults.Line n cause) bytes h, sym h)
closed_is (faults.Truncated n) bytes h = (refuses (faults.Truncated n) bytes h, sym h)

closing_stopped : (fault : JournalFault) (p : BundleProgress) → p ≡ Stopped fault → (let r : Result BundleValue JournalFault = Err fault in r) ≡ closing_bundle p
unfolding closing_by
closing_stopped fault p e = sym (ap closing_bundle e)

stops_at : (fault : JournalFault) (bytes : List ℕ) → read bytes ≡ Stopped fault → StopsAt fault bytes
stops_at (faults.Set fault) bytes e = refuses (faults.Set fault) bytes (closing_stopped (faults.Set fault) (read bytes) e)
stops_at (faults.Line n cause) bytes e = (refuses (faults.Line n cause) bytes (closing_stopped (faults.Line n cause) (read bytes) e), e)
stops_at (faults.Truncated n) bytes e = not_short bytes (bundle_start Any) n not_short_yet e

-- whatever comes after them
pub refused_more : (fault : JournalFault) (xs ys : List ℕ) → StopsAt fault xs → IsRefused fault (xs ++ ys)
refused_more (faults.Set fault) xs ys h = full_more fault xs ys h
refused_more (faults.Line n cause) xs ys h =
    let stays = read_more xs ys ∙ ap (λ (p : BundleProgress). feed_bundle_bytes p ys) h.1 ∙ stopped_stays judge_text (faults.Line n cause) ys in
    closed_is (faults.Line n cause) (xs ++ ys) (closing_stopped (faults.Line n cause) (read (xs ++ ys)) stays)
refused_more (faults.Truncated n) xs ys h = absurd h

pub stops_more : (fault : JournalFault) (xs ys : List ℕ) → StopsAt fault xs → StopsAt fault (xs ++ ys)
stops_more (faults.Set fault) xs ys h = full_more fault xs ys h
stops_more (faults.Line n cause) xs ys h =
    stops_at (faults.Line n cause) (xs ++ ys) (read_more xs ys ∙ ap (λ (p : BundleProgress). feed_bundle_bytes p ys) h.1 ∙ stopped_stays judge_text (faults.Line n cause) ys)
stops_more (faults.Truncated n) xs ys h = absurd h

pub refused_all : (fault : JournalFault) (bytes : List ℕ) → StopsAt fault bytes → IsRefused fault bytes
refused_all (faults.Set fault) bytes h = h
refused_all (faults.Line n cause) bytes h = (h.0, sym (closing_stopped (faults.Line n cause) (read bytes) h.1))
refused_all (faults.Truncated n) bytes h = absurd h

-- ---- one piece

fed_next : (before piece : List ℕ) (old : BundleProgress) → old ≡ read before → feed_bundle_bytes old piece ≡ read (before ++ piece)
fed_next before piece old fed = ap (λ (p : BundleProgress). feed_bundle_bytes p piece) fed ∙ sym (read_more before piece)

goes_on : (u : Unit {0}) (p : BundleProgress) → (let r : Result (Unit {0}) JournalFault = Ok u in r) ≡ answer p → GoesOn p
goes_on u (Reading s n rest) e = tt
goes_on u (Stopped fault) e = absurd cc

has_stopped : (fault : JournalFault) (p : BundleProgress) → (let r : Result (Unit {0}) JournalFault = Err fault in r) ≡ answer p → p ≡ Stopped fault
has_stopped fault (Reading s n rest) e = absurd cc
has_stopped fault (Stopped other) e = let same : fault ≡ other = cc in ap (λ (f : JournalFault). Stopped f) (sym same)

pub start_fed : (p : BundleProgress) → p ≡ bundle_start Any → IsFed p []
start_fed p e = (e, subst GoesOn (sym e) tt)

pub is_taken : (bytes : List ℕ) (p : BundleProgress) → IsFed p bytes → IsTaken bytes
is_taken bytes p fed = subst GoesOn fed.0 fed.1

pub piece_fed : (before piece : List ℕ) (old new : BundleProgress) (r : Result (Unit {0}) JournalFault) → FeedsBy (bundles Any) old piece new → r ≡ answer new → IsFed old before → OnOk r (IsFed new (before ++ piece))
piece_fed before piece old new (Err fault) h a fed = tt
piece_fed before piece old new (Ok u) (inl x) a fed = absurd (let bad : Ok u ≡ Err (faults.Set x.0) = a ∙ ap answer x.1 in cc)
piece_fed before piece old new (Ok u) (inr x) a fed = (x ∙ fed_next before piece old fed.0, goes_on u new a)

pub piece_refused : (before piece : List ℕ) (old new : BundleProgress) (r : Result (Unit {0}) JournalFault) → FeedsBy (bundles Any) old piece new → r ≡ answer new → IsFed old before → IfErr r (λ fault. StopsAt fault (before ++ piece))
piece_refused before piece old new (Ok u) h a fed = tt
piece_refused before piece old new (Err fault) (inl x) a fed =
    let is : (let r : Result (Unit {0}) JournalFault = Err fault in r) ≡ Err (faults.Set x.0) = a ∙ ap answer x.1 in
    let same : fault ≡ faults.Set x.0 = cc in
    subst (λ (f : JournalFault). StopsAt f (before ++ piece)) (sym same) (full_behind x.0 before piece old fed.0 x.2)
piece_refused before piece old new (Err fault) (inr x) a fed = stops_at fault (before ++ piece) (sym (fed_next before piece old fed.0) ∙ sym x ∙ has_stopped fault new a)

-- ---- the end

pub closed_found : (bytes : List ℕ) (p : BundleProgress) (r : Result BundleValue JournalFault) → r ≡ closing_bundle p → IsFed p bytes → IfOk r (λ b. WritesBundle bytes b)
closed_found bytes p (Err fault) e fed = tt
closed_found bytes p (Ok b) e fed = is_found (bundles Any) (IsSoundBundle Any) (bundle_laws Any) (Ok b) bytes (inr (e ∙ ap closing_bundle fed.0))

pub closed_refused : (bytes : List ℕ) (p : BundleProgress) (r : Result BundleValue JournalFault) → r ≡ closing_bundle p → IsFed p bytes → IfErr r (λ fault. IsRefused fault bytes)
closed_refused bytes p (Ok b) e fed = tt
closed_refused bytes p (Err fault) e fed = closed_is fault bytes (e ∙ ap closing_bundle fed.0)

-- ---- a head

-- a head that is a bundle's is not refused when it is read again, but where a set is full
pub head_stops : (fault : JournalFault) (plain end : List ℕ) (start : BundleValue) → WritesBundle (plain ++ end) start → StopsAt fault plain → IsHeadRefused fault (plain ++ end)
head_stops (faults.Set fault) plain end start has stops = inr (refused_more (faults.Set fault) plain end stops)
head_stops (faults.Line n cause) plain end start has stops =
    let bad = sym (refused_more (faults.Line n cause) plain end stops).1 ∙ reads_back (bundles Any) (IsSoundBundle Any) (bundle_laws Any) (plain ++ end) start has in
    absurd cc
head_stops (faults.Truncated n) plain end start has stops = absurd stops

exactly : (fault : JournalFault) (bytes : List ℕ) → RefusesBundleBy (Only Three) fault bytes → IsWhole (Err fault) (closing_bundle (feed_bundle_bytes (bundle_start (Only Three)) bytes)) → IsHeadRefused fault bytes
exactly (faults.Set fault) bytes h w = inl h
exactly (faults.Line n cause) bytes h (inl x) = absurd (let bad = x.1 in cc)
exactly (faults.Line n cause) bytes h (inr e) = (h, sym e)
exactly (faults.Truncated n) bytes h (inl x) = absurd (let bad = x.1 in cc)
exactly (faults.Truncated n) bytes h (inr e) = (h, sym e)

pub decoded_refused : (bytes whole : List ℕ) (r : Result BundleValue JournalFault) → bytes ≡ whole → IfErr r (λ fault. RefusesBundleBy (Only Three) fault bytes) → IsWhole r (closing_bundle (feed_bundle_bytes (bundle_start (Only Three)) bytes)) → IfErr r (λ fault. IsHeadRefused fault whole)
decoded_refused bytes whole (Ok b) e h w = tt
decoded_refused bytes whole (Err fault) e h w = subst (IsHeadRefused fault) e (exactly fault bytes h w)
