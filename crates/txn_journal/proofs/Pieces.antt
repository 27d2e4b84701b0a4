-- Reading byte by byte, line by line and piece by piece.
use Rattle.std.proofs.Common.{◌≡◌, ℕ, eqb, not, List, [], ◌∷◌, ◌++◌, Option, None, Result, Ok, Err, refl, sym, ap, subst, ◌∙◌, append_assoc, inr}
use Rattle.std.specs.List.{list_all}
use Rattle.std.proofs.lemmas.List.{append-nil}
use Rattle.gtid_set.specs.declared.fault.SetFault.{SetFault}
use Rattle.gtid_set.specs.declared.fault.SetFault.TheVariants.{PoolFull, SourcesFull}
use Rattle.gtid_set.specs.Full.{IsMemoryOr}
use Rattle.gtid_set.proofs.FaultLemmas.{fault_map}
use Rattle.txn_journal.specs.declared.fault.Cause.{Cause}
use Rattle.txn_journal.specs.declared.fault.JournalFault.{JournalFault}
use Rattle.txn_journal.specs.declared.fault.JournalFault.TheVariants as faults
use Rattle.txn_journal.specs.Words.{IsOneLine}
use Rattle.txn_journal.specs.Stream.{Fills, Judge, Progress, Reading, Stopped, unless_stopped, next_number, progress_after, feed_byte, feed_bytes, GivesFull, HasFull, IsPieceFault, IsAfter, TakesPiece, answer}
use Rattle.std.proofs.lemmas.Bool.{and_parts, not-true}

pub stopped_stays : {S : Type 0} (judge : Judge S) (f : JournalFault) (bs : List ℕ) → feed_bytes judge (Stopped f) bs ≡ Stopped f
unfolding feed_byte
stopped_stays judge f [] = refl
stopped_stays judge f (b ∷ bs) = stopped_stays judge f bs

-- It doesn't matter where a text is cut.
pub eats_append : {S : Type 0} (judge : Judge S) (p : Progress S) (xs ys : List ℕ) → feed_bytes judge p (xs ++ ys) ≡ feed_bytes judge (feed_bytes judge p xs) ys
eats_append judge p [] ys = refl
eats_append judge p (x ∷ xs) ys = eats_append judge (feed_byte judge p x) xs ys

-- the bytes of a line are kept until its line feed
pub eats_rest : {S : Type 0} (judge : Judge S) (s : S) (n : ℕ) (rest bs : List ℕ) → IsOneLine bs → feed_bytes judge (Reading s n rest) bs ≡ Reading s n (rest ++ bs)
unfolding feed_byte
eats_rest judge s n rest [] one = ap (Reading s n) (sym (append-nil rest))
eats_rest judge s n rest (b ∷ bs) one =
    let p = and_parts (not (eqb b 10)) (list_all (λ c. not (eqb c 10)) bs) one in
    rw (not-true (eqb b 10) p.0) (eats_rest judge s n (rest ++ b ∷ []) bs p.1 ∙ ap (Reading s n) (append_assoc rest (b ∷ []) bs))

pub eats_line : {S : Type 0} (judge : Judge S) (s : S) (n : ℕ) (rest line : List ℕ) → IsOneLine line → feed_bytes judge (Reading s n rest) (line ++ 10 ∷ []) ≡ progress_after (judge s (rest ++ line)) (next_number n)
unfolding feed_byte
eats_line {S} judge s n rest line one =
    eats_append judge (Reading s n rest) line (10 ∷ []) ∙ ap (λ (p : Progress S). feed_byte judge p 10) (eats_rest judge s n rest line one)

-- ---- what each step of the code leaves

pub line_ok : {S : Type 0} (judge : Judge S) (o q : Option JournalFault) (s t : S) (n m : ℕ) (rest new line : List ℕ)
    → o ≡ None → q ≡ o → IsOneLine line → judge s (rest ++ line) ≡ Ok t → new ≡ [] → m ≡ next_number n
    → feed_bytes judge (unless_stopped o (Reading s n rest)) (line ++ 10 ∷ []) ≡ unless_stopped q (Reading t m new)
line_ok {S} judge o q s t n m rest new line goes same one made none next =
    ap (λ (k : Option JournalFault). feed_bytes judge (unless_stopped k (Reading s n rest)) (line ++ 10 ∷ [])) goes
    ∙ eats_line judge s n rest line one
    ∙ ap (λ (r : Result S Cause). progress_after r (next_number n)) made
    ∙ sym (λ i. unless_stopped ((same ∙ goes) i) (Reading t (next i) (none i)))

pub line_wrong : {S : Type 0} (judge : Judge S) (o : Option JournalFault) (s : S) (n m : ℕ) (rest line : List ℕ) (cause : Cause)
    → o ≡ None → IsOneLine line → judge s (rest ++ line) ≡ Err cause → m ≡ next_number n
    → feed_bytes judge (unless_stopped o (Reading s n rest)) (line ++ 10 ∷ []) ≡ Stopped (faults.Line m cause)
line_wrong {S} judge o s n m rest line cause goes one made next =
    ap (λ (k : Option JournalFault). feed_bytes judge (unless_stopped k (Reading s n rest)) (line ++ 10 ∷ [])) goes
    ∙ eats_line judge s n rest line one
    ∙ ap (λ (r : Result S Cause). progress_after r (next_number n)) made
    ∙ sym (λ i. Stopped (faults.Line (next i) cause))

-- a piece before what is left
pub piece_taken : {S : Type 0} (judge : Judge S) (now then total : Progress S) (left piece after : List ℕ)
    → left ≡ piece ++ after → feed_bytes judge now piece ≡ then → feed_bytes judge now left ≡ total → feed_bytes judge then after ≡ total
piece_taken {S} judge now then total left piece after parts took so_far =
    sym (ap (λ (p : Progress S). feed_bytes judge p after) took)
    ∙ sym (eats_append judge now piece after)
    ∙ sym (ap (feed_bytes judge now) parts)
    ∙ so_far

-- a line with its line feed, and what follows it
line_in : (left line after : List ℕ) → left ≡ line ++ 10 ∷ after → left ≡ (line ++ 10 ∷ []) ++ after
line_in left line after parts = parts ∙ sym (append_assoc line (10 ∷ []) after)

-- a line before what is left
pub line_taken : {S : Type 0} (judge : Judge S) (now then total : Progress S) (left line after : List ℕ)
    → left ≡ line ++ 10 ∷ after → feed_bytes judge now (line ++ 10 ∷ []) ≡ then → feed_bytes judge now left ≡ total → feed_bytes judge then after ≡ total
line_taken judge now then total left line after parts = piece_taken judge now then total left (line ++ 10 ∷ []) after (line_in left line after parts)

-- ---- faults that may be

judged_full : {S : Type 0} (full : S → Type 0) (r : Result S Cause) (n : ℕ) → GivesFull full r → HasFull full (progress_after r n)
judged_full full (Ok s) n h = h
judged_full full (Err cause) n h = absurd h

-- a fault of a line is one of its bytes
pub line_fault : {S : Type 0} (full : SetFault → S → Type 0) (judge : Judge S) (f : SetFault) (o : Option JournalFault) (s : S) (n : ℕ) (rest line : List ℕ)
    → o ≡ None → IsOneLine line → IsMemoryOr (GivesFull (full SourcesFull) (judge s (rest ++ line))) (GivesFull (full PoolFull) (judge s (rest ++ line))) f → IsPieceFault full judge (unless_stopped o (Reading s n rest)) (line ++ 10 ∷ []) f
line_fault {S} full judge f o s n rest line goes one h =
    fault_map f (fills (full SourcesFull)) (fills (full PoolFull)) h
  where
    fills : (large : S → Type 0) → GivesFull large (judge s (rest ++ line)) → Fills large judge (unless_stopped o (Reading s n rest)) (line ++ 10 ∷ [])
    fills large k =
        let is = ap (λ (k : Option JournalFault). feed_bytes judge (unless_stopped k (Reading s n rest)) (line ++ 10 ∷ [])) goes ∙ eats_line judge s n rest line one in
        record {
          front = line ++ 10 ∷ [];
          rest = [];
          parts = sym (append-nil (line ++ 10 ∷ []));
          is_full = subst (λ (p : Progress S). HasFull large p) (sym is) (judged_full large (judge s (rest ++ line)) (next_number n) k);
        }

-- more bytes may follow
piece_in_front : {S : Type 0} (full : SetFault → S → Type 0) (judge : Judge S) (f : SetFault) (now : Progress S) (left piece after : List ℕ)
    → left ≡ piece ++ after → IsPieceFault full judge now piece f → IsPieceFault full judge now left f
piece_in_front {S} full judge f now left piece after parts h = fault_map f (fills (full SourcesFull)) (fills (full PoolFull)) h
  where
    fills : (large : S → Type 0) → Fills large judge now piece → Fills large judge now left
    fills large k = record {
      front = k.front;
      rest = k.rest ++ after;
      parts = parts ∙ ap (λ x. x ++ after) k.parts ∙ append_assoc k.front k.rest after;
      is_full = k.is_full;
    }

-- a piece that was taken may come before
pub behind_piece : {S : Type 0} (full : SetFault → S → Type 0) (judge : Judge S) (f : SetFault) (now then : Progress S) (left piece after : List ℕ)
    → left ≡ piece ++ after → feed_bytes judge now piece ≡ then → IsPieceFault full judge then after f → IsPieceFault full judge now left f
behind_piece {S} full judge f now then left piece after parts took h =
    fault_map f (fills (full SourcesFull)) (fills (full PoolFull)) h
  where
    fills : (large : S → Type 0) → Fills large judge then after → Fills large judge now left
    fills large k = record {
      front = piece ++ k.front;
      rest = k.rest;
      parts = parts ∙ ap (λ x. piece ++ x) k.parts ∙ sym (append_assoc piece k.front k.rest);
      is_full = subst (λ (p : Progress S). HasFull large p) (sym (eats_append judge now piece k.front ∙ ap (λ (p : Progress S). feed_bytes judge p k.front) took)) k.is_full;
    }

-- so may a line
pub behind_line : {S : Type 0} (full : SetFault → S → Type 0) (judge : Judge S) (f : SetFault) (now then : Progress S) (left line after : List ℕ)
    → left ≡ line ++ 10 ∷ after → feed_bytes judge now (line ++ 10 ∷ []) ≡ then → IsPieceFault full judge then after f → IsPieceFault full judge now left f
behind_line full judge f now then left line after parts = behind_piece full judge f now then left (line ++ 10 ∷ []) after (line_in left line after parts)

pub piece_fails : {S : Type 0} (full : SetFault → S → Type 0) (judge : Judge S) (fault : JournalFault) (may : SetFault → Type 0) (now new newer total : Progress S) (left piece after : List ℕ)
    → left ≡ piece ++ after → TakesPiece (IsPieceFault full judge now piece) (Err fault) new (feed_bytes judge now piece) → feed_bytes judge now left ≡ total
    → ((f : SetFault) → IsPieceFault full judge now left f → may f) → TakesPiece may (Err fault) newer total
piece_fails full judge (faults.Set fault) may now new newer total left piece after parts took so_far wider = wider fault (piece_in_front full judge fault now left piece after parts took)
piece_fails full judge (faults.Line n cause) may now new newer total left piece after parts took so_far wider =
    sym (piece_taken judge now _ total left piece after parts took so_far) ∙ stopped_stays judge (faults.Line n cause) after
piece_fails full judge (faults.Truncated n) may now new newer total left piece after parts took so_far wider = absurd took

pub line_fails : {S : Type 0} (full : SetFault → S → Type 0) (judge : Judge S) (fault : JournalFault) (may : SetFault → Type 0) (now new newer total : Progress S) (left line after : List ℕ)
    → left ≡ line ++ 10 ∷ after → TakesPiece (IsPieceFault full judge now (line ++ 10 ∷ [])) (Err fault) new (feed_bytes judge now (line ++ 10 ∷ [])) → feed_bytes judge now left ≡ total
    → ((f : SetFault) → IsPieceFault full judge now left f → may f) → TakesPiece may (Err fault) newer total
line_fails full judge fault may now new newer total left line after parts = piece_fails full judge fault may now new newer total left (line ++ 10 ∷ []) after (line_in left line after parts)

pub rest_kept : {S : Type 0} (judge : Judge S) (o : Option JournalFault) (s : S) (n : ℕ) (rest new left : List ℕ) (total : Progress S)
    → o ≡ None → IsOneLine left → new ≡ rest ++ left → feed_bytes judge (unless_stopped o (Reading s n rest)) left ≡ total → total ≡ unless_stopped o (Reading s n new)
rest_kept {S} judge o s n rest new left total goes one kept so_far =
    sym so_far
    ∙ ap (λ (k : Option JournalFault). feed_bytes judge (unless_stopped k (Reading s n rest)) left) goes
    ∙ eats_rest judge s n rest left one
    ∙ sym (λ i. unless_stopped (goes i) (Reading s n (kept i)))

pub stopped_at : {S : Type 0} (judge : Judge S) (may : SetFault → Type 0) (p : Progress S) (f : JournalFault) (bs : List ℕ) → answer p ≡ Err f → IsAfter may p (feed_bytes judge p bs)
stopped_at judge may (Reading s n rest) f bs e = absurd cc
stopped_at judge may (Stopped g) f bs e = inr (sym (stopped_stays judge g bs))
