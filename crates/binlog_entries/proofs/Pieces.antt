-- Reading byte by byte, line by line and piece by piece.
use Rattle.std.proofs.Common.{◌≡◌, ℕ, eqb, not, List, [], ◌∷◌, ◌++◌, Option, None, Result, Ok, Err, ◌<◌, length, length-append, refl, sym, ap, subst, ◌∙◌, append_assoc, append-nil, inl, inr, arith}
use Rattle.std.specs.Prelude.{OnOk, IfErr}
use Rattle.std.specs.List.{list_all}
use Rattle.std.proofs.lemmas.Bool.{and_parts, not-true}
use Rattle.gtid_set.specs.declared.fault.SetFault.{SetFault}
use Rattle.gtid_set.specs.declared.fault.SetFault.TheVariants.{Memory}
use Rattle.txn_journal.specs.Words.{IsOneLine}
use Rattle.binlog_entries.specs.Machine.{Standing, judge}
use Rattle.binlog_entries.specs.Stream.{Progress, Reading, Stopped, unless_stopped, named_line, next_number, progress_after, feed_byte, feed_bytes, answer, HasPart, IsEndFault, IsPieceFault, IsJoinedFault, IsAfter, TakesPiece, LogValue, Ends, closing}
use Rattle.binlog_entries.specs.declared.fault.ReadFault.{ReadFault}
use Rattle.binlog_entries.specs.declared.fault.ReadFault.TheVariants as faults
use Rattle.binlog_entries.specs.declared.fault.EntryRefusal.{EntryRefusal}

pub stopped_stays : (f : ReadFault) (bs : List ℕ) → feed_bytes (Stopped f) bs ≡ Stopped f
unfolding feed_byte
stopped_stays f [] = refl
stopped_stays f (b ∷ bs) = stopped_stays f bs

-- It doesn't matter where a text is cut.
pub eats_append : (p : Progress) (xs ys : List ℕ) → feed_bytes p (xs ++ ys) ≡ feed_bytes (feed_bytes p xs) ys
eats_append p [] ys = refl
eats_append p (x ∷ xs) ys = eats_append (feed_byte p x) xs ys

-- the bytes of a line are kept until its line feed
pub eats_rest : (s : Standing) (n : ℕ) (rest bs : List ℕ) → IsOneLine bs → feed_bytes (Reading s n rest) bs ≡ Reading s n (rest ++ bs)
unfolding feed_byte
eats_rest s n rest [] one = ap (Reading s n) (sym (append-nil rest))
eats_rest s n rest (b ∷ bs) one =
    let p = and_parts (not (eqb b 10)) (list_all (λ c. not (eqb c 10)) bs) one in
    rw (not-true (eqb b 10) p.0) (eats_rest s n (rest ++ b ∷ []) bs p.1 ∙ ap (Reading s n) (append_assoc rest (b ∷ []) bs))

pub eats_line : (s : Standing) (n : ℕ) (rest line : List ℕ) → IsOneLine line → feed_bytes (Reading s n rest) (line ++ 10 ∷ []) ≡ progress_after (judge s (rest ++ line)) (next_number n)
unfolding feed_byte
eats_line s n rest line one = eats_append (Reading s n rest) line (10 ∷ []) ∙ ap (λ (p : Progress). feed_byte p 10) (eats_rest s n rest line one)

-- ---- what each step of the code leaves

pub line_ok : (o q : Option ReadFault) (s t : Standing) (n m : ℕ) (rest new line : List ℕ)
    → o ≡ None → q ≡ o → IsOneLine line → judge s (rest ++ line) ≡ Ok t → new ≡ [] → m ≡ next_number n
    → feed_bytes (unless_stopped o (Reading s n rest)) (line ++ 10 ∷ []) ≡ unless_stopped q (Reading t m new)
line_ok o q s t n m rest new line goes same one made none next =
    ap (λ (k : Option ReadFault). feed_bytes (unless_stopped k (Reading s n rest)) (line ++ 10 ∷ [])) goes
    ∙ eats_line s n rest line one
    ∙ ap (λ (r : Result Standing EntryRefusal). progress_after r (next_number n)) made
    ∙ sym (λ i. unless_stopped ((same ∙ goes) i) (Reading t (next i) (none i)))

pub line_refused : (o : Option ReadFault) (s : Standing) (n m : ℕ) (rest line : List ℕ) (refusal : EntryRefusal)
    → o ≡ None → IsOneLine line → judge s (rest ++ line) ≡ Err refusal → m ≡ next_number n
    → feed_bytes (unless_stopped o (Reading s n rest)) (line ++ 10 ∷ []) ≡ Stopped (faults.Line (named_line refusal m) refusal)
line_refused o s n m rest line refusal goes one made next =
    ap (λ (k : Option ReadFault). feed_bytes (unless_stopped k (Reading s n rest)) (line ++ 10 ∷ [])) goes
    ∙ eats_line s n rest line one
    ∙ ap (λ (r : Result Standing EntryRefusal). progress_after r (next_number n)) made
    ∙ sym (λ i. Stopped (faults.Line (named_line refusal (next i)) refusal))

-- a line before what is left
pub line_taken : (now then total : Progress) (left line after : List ℕ)
    → left ≡ line ++ 10 ∷ after → feed_bytes now (line ++ 10 ∷ []) ≡ then → feed_bytes now left ≡ total → feed_bytes then after ≡ total
line_taken now then total left line after parts took so_far =
    sym (ap (λ (p : Progress). feed_bytes p after) took)
    ∙ sym (eats_append now (line ++ 10 ∷ []) after)
    ∙ sym (ap (feed_bytes now) (parts ∙ sym (append_assoc line (10 ∷ []) after)))
    ∙ so_far

-- ---- faults of lines with which nothing is wrong

after_judged : (r : Result Standing EntryRefusal) (n : ℕ) → HasPart (progress_after r n) → ⊥
after_judged (Ok s) n part = omega (part, arith)
after_judged (Err refusal) n part = part

after_feed : (p : Progress) → HasPart (feed_byte p 10) → ⊥
unfolding feed_byte
after_feed (Reading s n rest) part = after_judged (judge s rest) (next_number n) part
after_feed (Stopped fault) part = part

-- behind a line feed no part of a line is kept
no_part : (p : Progress) (line : List ℕ) → HasPart (feed_bytes p (line ++ 10 ∷ [])) → ⊥
no_part p line part = after_feed (feed_bytes p line) (subst HasPart (eats_append p line (10 ∷ [])) part)

-- a fault of a line is one of its bytes
pub line_fault : (fault : SetFault) (o : Option ReadFault) (s : Standing) (n : ℕ) (rest line : List ℕ)
    → o ≡ None → IsOneLine line → IsJoinedFault s rest line fault → IsEndFault (unless_stopped o (Reading s n rest)) (line ++ 10 ∷ []) fault
line_fault fault o s n rest line goes one (inl may) = inl (record {
  front = [];
  line = line;
  rest = [];
  parts = refl;
  whole = one;
  state = s;
  number = n;
  part = rest;
  read = ap (λ (k : Option ReadFault). unless_stopped k (Reading s n rest)) goes;
  may = may;
})
line_fault fault o s n rest line goes one (inr h) = inr (h.0, subst (λ (k : Option ReadFault). HasPart (unless_stopped k (Reading s n rest))) (sym goes) h.1)

-- more bytes may follow
line_in_front : (fault : SetFault) (now : Progress) (left line after : List ℕ) → left ≡ line ++ 10 ∷ after → IsEndFault now (line ++ 10 ∷ []) fault → IsEndFault now left fault
line_in_front fault now left line after parts (inl k) = inl (record {
  front = k.front;
  line = k.line;
  rest = k.rest ++ after;
  parts =
      parts
      ∙ sym (append_assoc line (10 ∷ []) after)
      ∙ ap (λ (xs : List ℕ). xs ++ after) k.parts
      ∙ append_assoc k.front (k.line ++ 10 ∷ k.rest) after
      ∙ ap (λ (xs : List ℕ). k.front ++ xs) (append_assoc k.line (10 ∷ k.rest) after);
  whole = k.whole;
  state = k.state;
  number = k.number;
  part = k.part;
  read = k.read;
  may = k.may;
})
line_in_front fault now left line after parts (inr h) = inr h

-- a line that was taken may come before
pub behind_line : (fault : SetFault) (now then : Progress) (left line after : List ℕ)
    → left ≡ line ++ 10 ∷ after → feed_bytes now (line ++ 10 ∷ []) ≡ then → IsEndFault then after fault → IsEndFault now left fault
behind_line fault now then left line after parts took (inl k) =
    let ended = line ++ 10 ∷ [] in inl (record {
      front = ended ++ k.front;
      line = k.line;
      rest = k.rest;
      parts =
          parts
          ∙ sym (append_assoc line (10 ∷ []) after)
          ∙ ap (λ (xs : List ℕ). ended ++ xs) k.parts
          ∙ sym (append_assoc ended k.front (k.line ++ 10 ∷ k.rest));
      whole = k.whole;
      state = k.state;
      number = k.number;
      part = k.part;
      read = eats_append now ended k.front ∙ ap (λ (p : Progress). feed_bytes p k.front) took ∙ k.read;
      may = k.may;
    })
behind_line fault now then left line after parts took (inr h) = absurd (no_part now line (subst HasPart (sym took) h.1))

pub line_fails : (fault : ReadFault) (may : SetFault → Type 0) (now new newer total : Progress) (left line after : List ℕ)
    → left ≡ line ++ 10 ∷ after → TakesPiece (IsEndFault now (line ++ 10 ∷ [])) (Err fault) new (feed_bytes now (line ++ 10 ∷ [])) → feed_bytes now left ≡ total
    → ((f : SetFault) → IsEndFault now left f → may f) → TakesPiece may (Err fault) newer total
line_fails (faults.Set fault) may now new newer total left line after parts took so_far wider = wider fault (line_in_front fault now left line after parts took)
line_fails (faults.Line n refusal) may now new newer total left line after parts took so_far wider =
    sym (line_taken now _ total left line after parts took so_far) ∙ stopped_stays (faults.Line n refusal) after
line_fails (faults.Unfinished n) may now new newer total left line after parts took so_far wider = absurd took

pub rest_kept : (o : Option ReadFault) (s : Standing) (n : ℕ) (rest new left : List ℕ) (total : Progress)
    → o ≡ None → IsOneLine left → new ≡ rest ++ left → feed_bytes (unless_stopped o (Reading s n rest)) left ≡ total → total ≡ unless_stopped o (Reading s n new)
rest_kept o s n rest new left total goes one kept so_far =
    sym so_far
    ∙ ap (λ (k : Option ReadFault). feed_bytes (unless_stopped k (Reading s n rest)) left) goes
    ∙ eats_rest s n rest left one
    ∙ sym (λ i. unless_stopped (goes i) (Reading s n (kept i)))

-- bytes are left that are no whole line
pub part_left : (o : Option ReadFault) (s : Standing) (n : ℕ) (rest left : List ℕ) (total : Progress)
    → o ≡ None → IsOneLine left → 0 < length left → feed_bytes (unless_stopped o (Reading s n rest)) left ≡ total → HasPart total
part_left o s n rest left total goes one some so_far =
    let is = sym (eats_rest s n rest left one) ∙ sym (ap (λ (k : Option ReadFault). feed_bytes (unless_stopped k (Reading s n rest)) left) goes) ∙ so_far in
    let size = length-append rest left in
    let more : HasPart (Reading s n (rest ++ left)) = omega (size, some, arith) in
    subst HasPart is more

-- bytes behind the last line feed are kept, or memory was refused for them
pub piece_kept : (r : Result (Unit {0}) ReadFault) (old : Progress) (piece : List ℕ) (o q : Option ReadFault) (s t : Standing) (n m : ℕ) (rest new left : List ℕ)
    → o ≡ None → IsOneLine left → OnOk r (new ≡ rest ++ left) → IfErr r (λ fault. (fault ≡ faults.Set Memory) × (0 < length left)) → t ≡ s → m ≡ n → q ≡ o
    → feed_bytes (unless_stopped o (Reading s n rest)) left ≡ feed_bytes old piece → TakesPiece (IsPieceFault old piece) r (unless_stopped q (Reading t m new)) (feed_bytes old piece)
piece_kept (Ok u) old piece o q s t n m rest new left goes one kept memory draft lines stopped so_far =
    rest_kept o s n rest new left (feed_bytes old piece) goes one kept so_far
    ∙ (λ i. unless_stopped (sym stopped i) (Reading (sym draft i) (sym lines i) new))
piece_kept (Err fault) old piece o q s t n m rest new left goes one kept memory draft lines stopped so_far =
    let P : ReadFault → Type 0 = λ f. TakesPiece (IsPieceFault old piece) (Err f) (unless_stopped q (Reading t m new)) (feed_bytes old piece) in
    subst P (sym memory.0) (inr (refl, part_left o s n rest left (feed_bytes old piece) goes one memory.1 so_far))

has_stopped : (p : Progress) (fault : ReadFault) → (let r : Result (Unit {0}) ReadFault = Err fault in r) ≡ answer p → p ≡ Stopped fault
has_stopped (Reading s n rest) fault e = absurd cc
has_stopped (Stopped other) fault e = let same : fault ≡ other = cc in ap Stopped (sym same)

-- what the last piece is answered by
pub fed_ends : (may : SetFault → Type 0) (p after : Progress) (fault : ReadFault) → IsAfter may p after → (let r : Result (Unit {0}) ReadFault = Err fault in r) ≡ answer p → Ends may (Err fault) (closing after)
fed_ends may p after fault (inl x) e =
    let is : (let r : Result (Unit {0}) ReadFault = Err fault in r) ≡ Err (faults.Set x.0) = e ∙ ap answer x.1 in
    let same : fault ≡ faults.Set x.0 = cc in
    inl (x.0, ap (λ (f : ReadFault). let r : Result LogValue ReadFault = Err f in r) same, x.2)
fed_ends may p after fault (inr x) e = inr (sym (ap closing (sym x ∙ has_stopped p fault e)))

-- a piece at which the reading stops, or doesn't
pub piece_stops : (may : SetFault → Type 0) (fault : ReadFault) (new after : Progress) → TakesPiece may (Err fault) new after → IsAfter may (Stopped fault) after
piece_stops may (faults.Set fault) new after h = inl (fault, refl, h)
piece_stops may (faults.Line n refusal) new after h = inr (sym h)
piece_stops may (faults.Unfinished n) new after h = absurd h

pub stopped_at : (may : SetFault → Type 0) (p : Progress) (f : ReadFault) (bs : List ℕ) → answer p ≡ Err f → IsAfter may p (feed_bytes p bs)
stopped_at may (Reading s n rest) f bs e = absurd cc
stopped_at may (Stopped g) f bs e = inr (sym (stopped_stays g bs))
