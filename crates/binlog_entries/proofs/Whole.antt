-- What the whole of a text is read as.
use Rattle.std.proofs.Common.{◌≡◌, ℕ, eqb, not, Bool, true, false, cond, List, [], ◌∷◌, ◌++◌, Option, Some, None, Result, Ok, Err, refl, sym, ap, subst, ◌∙◌, append_assoc, append-nil, inl, inr}
use Rattle.std.specs.Prelude.{◌&&◌, IfOk, IfErr}
use Rattle.std.specs.List.{flat_map, AllByRecursion}
use Rattle.std.proofs.lemmas.Bool.{eqb-true}
use Rattle.std.proofs.lemmas.List.Folds.{list_all-append}
use Rattle.gtid_set.specs.declared.fault.SetFault.{SetFault}
use Rattle.txn_journal.specs.Words.{IsOneLine}
use Rattle.binlog_text.specs.Lines.{Content, IsLine}
use Rattle.binlog_text.specs.Reading.{line_of}
use Rattle.binlog_text.proofs.LinesFound.{line_found}
use Rattle.binlog_entries.specs.Machine.{Standing, ◌>>=◌, judge, step, step_by, runs, is_closed}
use Rattle.binlog_entries.specs.Machine as machine
use Rattle.log_transactions.specs.Meaning.{AreOfLog}
use Rattle.binlog_entries.specs.Meaning.{nowhere, meaning_of_entries}
use Rattle.binlog_entries.specs.Telling.{events_in}
use Rattle.gtid_set.specs.Sets.{Gtids}
use Rattle.binlog_entries.specs.Stream.{Progress, Reading, Stopped, named_line, next_number, progress_after, feed_byte, feed_bytes, start, Seen, LogValue, end_of_text, closing, IsPieceFault, IsTextFault, Ends, ended_line, HaveContents, IsLog, judges, numbered, IsRefused, IsUnfinished, Refuses}
use Rattle.binlog_entries.specs.declared.fault.ReadFault.{ReadFault}
use Rattle.binlog_entries.specs.declared.fault.ReadFault.TheVariants as faults
use Rattle.binlog_entries.specs.declared.fault.EntryRefusal.{EntryRefusal}
use Rattle.binlog_entries.proofs.TransactionLaws.{bind_ok}
use Rattle.binlog_entries.proofs.Meanings.{log_told, entries_told}
use Rattle.binlog_entries.proofs.KeptLaws.{before_told, varied_told, gapless_told}
use Rattle.binlog_entries.proofs.RowsDue.{rows_told}
use Rattle.binlog_entries.proofs.Pieces.{stopped_stays}

-- ---- lines out of bytes

-- bytes after part of a line are whole lines, and part of one more
pub record Reads (s : Standing) (n : ℕ) (rest bytes : List ℕ) (t : Standing) (m : ℕ) (more : List ℕ) : Type 0 where
  pub lines : List (List ℕ)
  pub parts : rest ++ bytes ≡ flat_map ended_line lines ++ more
  pub whole : AllByRecursion IsOneLine lines
  pub one : IsOneLine more
  pub run : judges s lines ≡ Ok t
  pub number : m ≡ numbered n lines

longer : (rest : List ℕ) (b : ℕ) → IsOneLine rest → eqb b 10 ≡ false → IsOneLine (rest ++ b ∷ [])
longer rest b one other = list_all-append (λ c. not (eqb c 10)) rest (b ∷ []) ∙ (λ i. one i && (not (other i) && true))

behind_feed : (rest bs lines more : List ℕ) → bs ≡ lines ++ more → rest ++ 10 ∷ bs ≡ ((rest ++ 10 ∷ []) ++ lines) ++ more
behind_feed rest bs lines more e =
    ap (λ (xs : List ℕ). rest ++ 10 ∷ xs) e
    ∙ sym (append_assoc rest (10 ∷ []) (lines ++ more))
    ∙ sym (append_assoc (rest ++ 10 ∷ []) lines more)

fed : (s : Standing) (n b : ℕ) (rest bs : List ℕ) (r : Result Standing EntryRefusal) (t : Standing) (m : ℕ) (more : List ℕ) → IsOneLine rest → b ≡ 10 → judge s rest ≡ r
    → ((u : Standing) → feed_bytes (Reading u (next_number n) []) bs ≡ Reading t m more → Reads u (next_number n) [] bs t m more)
    → feed_bytes (progress_after r (next_number n)) bs ≡ Reading t m more → Reads s n rest (b ∷ bs) t m more
fed s n b rest bs (Ok u) t m more one is j next e =
    let k = next u e in record {
      lines = rest ∷ k.lines;
      parts = ap (λ (c : ℕ). rest ++ c ∷ bs) is ∙ behind_feed rest bs (flat_map ended_line k.lines) more k.parts;
      whole = (one, k.whole);
      one = k.one;
      run = ap (λ (x : Result Standing EntryRefusal). x >>= λ v. judges v k.lines) j ∙ k.run;
      number = k.number;
    }
fed s n b rest bs (Err refusal) t m more one is j next e = absurd (let bad : Stopped (faults.Line (named_line refusal (next_number n)) refusal) ≡ Reading t m more = sym (stopped_stays (faults.Line (named_line refusal (next_number n)) refusal) bs) ∙ e in cc)

eaten : (s : Standing) (n b : ℕ) (rest bs : List ℕ) (test : Bool) (t : Standing) (m : ℕ) (more : List ℕ) → IsOneLine rest → eqb b 10 ≡ test
    → ((u : Standing) (k : ℕ) (rest : List ℕ) → IsOneLine rest → feed_bytes (Reading u k rest) bs ≡ Reading t m more → Reads u k rest bs t m more)
    → feed_bytes (cond test (progress_after (judge s rest) (next_number n)) (Reading s n (rest ++ b ∷ []))) bs ≡ Reading t m more → Reads s n rest (b ∷ bs) t m more
eaten s n b rest bs true t m more one is next e = fed s n b rest bs (judge s rest) t m more one (eqb-true b 10 is) refl (λ u. next u (next_number n) [] refl) e
eaten s n b rest bs false t m more one is next e =
    let k = next s n (rest ++ b ∷ []) (longer rest b one is) e in record {
      lines = k.lines;
      parts = sym (append_assoc rest (b ∷ []) bs) ∙ k.parts;
      whole = k.whole;
      one = k.one;
      run = k.run;
      number = k.number;
    }

reading_same : (s t : Standing) (n m : ℕ) (rest more : List ℕ) → Reading s n rest ≡ Reading t m more → (s ≡ t) × (n ≡ m) × (rest ≡ more)
reading_same s t n m rest more e = (cc, cc, cc)

reads_back : (s : Standing) (n : ℕ) (rest bytes : List ℕ) (t : Standing) (m : ℕ) (more : List ℕ) → IsOneLine rest → feed_bytes (Reading s n rest) bytes ≡ Reading t m more → Reads s n rest bytes t m more
unfolding feed_byte
reads_back s n rest [] t m more one e =
    let same = reading_same s t n m rest more e in record {
      lines = [];
      parts = append-nil rest ∙ same.2;
      whole = tt;
      one = subst IsOneLine same.2 one;
      run = ap (λ (u : Standing). let r : Result Standing EntryRefusal = Ok u in r) same.0;
      number = sym same.1;
    }
reads_back s n rest (b ∷ bs) t m more one e = eaten s n b rest bs (eqb b 10) t m more one refl (λ u k rest one h. reads_back u k rest bs t m more one h) e

-- ---- the line that is refused

pub record Stops (s : Standing) (n : ℕ) (rest bytes : List ℕ) (fault : ReadFault) : Type 0 where
  pub before : List (List ℕ)
  pub line : List ℕ
  pub more : List ℕ
  pub parts : rest ++ bytes ≡ flat_map ended_line before ++ (line ++ 10 ∷ more)
  pub whole : AllByRecursion IsOneLine before × IsOneLine line
  pub state : Standing
  pub taken : judges s before ≡ Ok state
  pub refusal : EntryRefusal
  pub refused : judge state line ≡ Err refusal
  pub is : fault ≡ faults.Line (named_line refusal (next_number (numbered n before))) refusal

stop_fed : (s : Standing) (n b : ℕ) (rest bs : List ℕ) (r : Result Standing EntryRefusal) (f : ReadFault) → IsOneLine rest → b ≡ 10 → judge s rest ≡ r
    → ((u : Standing) → feed_bytes (Reading u (next_number n) []) bs ≡ Stopped f → Stops u (next_number n) [] bs f)
    → feed_bytes (progress_after r (next_number n)) bs ≡ Stopped f → Stops s n rest (b ∷ bs) f
stop_fed s n b rest bs (Ok u) f one is j next e =
    let k = next u e in record {
      before = rest ∷ k.before;
      line = k.line;
      more = k.more;
      parts = ap (λ (c : ℕ). rest ++ c ∷ bs) is ∙ behind_feed rest bs (flat_map ended_line k.before) (k.line ++ 10 ∷ k.more) k.parts;
      whole = ((one, k.whole.0), k.whole.1);
      state = k.state;
      taken = ap (λ (x : Result Standing EntryRefusal). x >>= λ v. judges v k.before) j ∙ k.taken;
      refusal = k.refusal;
      refused = k.refused;
      is = k.is;
    }
stop_fed s n b rest bs (Err refusal) f one is j next e =
    let same : Stopped (faults.Line (named_line refusal (next_number n)) refusal) ≡ Stopped f = sym (stopped_stays (faults.Line (named_line refusal (next_number n)) refusal) bs) ∙ e in record {
      before = [];
      line = rest;
      more = bs;
      parts = ap (λ (c : ℕ). rest ++ c ∷ bs) is;
      whole = (tt, one);
      state = s;
      taken = refl;
      refusal = refusal;
      refused = j;
      is = cc;
    }

stop_eaten : (s : Standing) (n b : ℕ) (rest bs : List ℕ) (test : Bool) (f : ReadFault) → IsOneLine rest → eqb b 10 ≡ test
    → ((u : Standing) (k : ℕ) (rest : List ℕ) → IsOneLine rest → feed_bytes (Reading u k rest) bs ≡ Stopped f → Stops u k rest bs f)
    → feed_bytes (cond test (progress_after (judge s rest) (next_number n)) (Reading s n (rest ++ b ∷ []))) bs ≡ Stopped f → Stops s n rest (b ∷ bs) f
stop_eaten s n b rest bs true f one is next e = stop_fed s n b rest bs (judge s rest) f one (eqb-true b 10 is) refl (λ u. next u (next_number n) [] refl) e
stop_eaten s n b rest bs false f one is next e =
    let k = next s n (rest ++ b ∷ []) (longer rest b one is) e in record {
      before = k.before;
      line = k.line;
      more = k.more;
      parts = sym (append_assoc rest (b ∷ []) bs) ∙ k.parts;
      whole = k.whole;
      state = k.state;
      taken = k.taken;
      refusal = k.refusal;
      refused = k.refused;
      is = k.is;
    }

stops_back : (s : Standing) (n : ℕ) (rest bytes : List ℕ) (f : ReadFault) → IsOneLine rest → feed_bytes (Reading s n rest) bytes ≡ Stopped f → Stops s n rest bytes f
unfolding feed_byte
stops_back s n rest [] f one e = absurd cc
stops_back s n rest (b ∷ bs) f one e = stop_eaten s n b rest bs (eqb b 10) f one refl (λ u k rest one h. stops_back u k rest bs f one h) e

-- ---- the contents of lines

pub record Speak (s : Standing) (lines : List (List ℕ)) (t : Standing) : Type 0 where
  pub contents : List Content
  pub content : HaveContents lines contents
  pub run : runs s contents ≡ Ok t

line_said : (s : Standing) (line : List ℕ) (o : Option Content) (t : Standing) → line_of line ≡ o → step_by s line o ≡ Ok t → (l : Content) × IsLine l line × (step s l ≡ Ok t)
line_said s line None t e h = absurd cc
line_said s line (Some l) t e h = (l, line_found line l e, h)

judge_said : (s : Standing) (line : List ℕ) (t : Standing) → judge s line ≡ Ok t → (l : Content) × IsLine l line × (step s l ≡ Ok t)
unfolding judge
judge_said s line t h = line_said s line (line_of line) t refl h

speak : (s : Standing) (lines : List (List ℕ)) (t : Standing) → judges s lines ≡ Ok t → Speak s lines t
speak s [] t h = record { contents = []; content = tt; run = h }
speak s (line ∷ lines) t h =
    let a = bind_ok (judge s line) _ t h in
    let first = judge_said s line a.0 a.1 in
    let rest = speak a.0 lines t a.2 in
    record {
      contents = first.0 ∷ rest.contents;
      content = (first.1, rest.content);
      run = ap (λ (r : Result Standing EntryRefusal). r >>= λ u. runs u rest.contents) first.2 ∙ rest.run;
    }

-- ---- the whole

ended_is : (b : Bool) (s : Standing) (n : ℕ) (rest : List ℕ) (x : LogValue) → end_of_text b s n rest ≡ Ok x → (b ≡ true) × (rest ≡ []) × (s.log.previous ≡ x.0) × (s.log.entries ≡ x.1) × (s.log.varied ≡ x.2)
ended_is true s n [] x e = let same : (s.log.previous, s.log.entries, s.log.varied) ≡ x = told_same _ x e in (refl, refl, ap (λ (y : LogValue). y.0) same, ap (λ (y : LogValue). y.1) same, ap (λ (y : LogValue). y.2) same)
  where
    told_same : (x y : LogValue) → (let r : Result LogValue ReadFault = Ok x in r) ≡ Ok y → x ≡ y
    told_same x y e = cc
ended_is true s n (b ∷ bs) x e = absurd cc
ended_is false s n rest x e = absurd cc

log_of : (opening : Gtids) (text : List ℕ) (p : Progress) (x : LogValue) → feed_bytes (start opening) text ≡ p → closing p ≡ Ok x → IsLog opening text x.0 x.1 x.2
log_of opening text (Stopped fault) x e h = absurd cc
log_of opening text (Reading s n rest) x e h =
    let d = ended_is (is_closed s.body) s n rest x h in
    let k = reads_back (machine.start opening) 0 [] text s n rest refl e in
    let spoken = speak (machine.start opening) k.lines s k.run in
    record {
      lines = k.lines;
      parts = k.parts ∙ ap (λ (xs : List ℕ). flat_map ended_line k.lines ++ xs) d.1 ∙ append-nil (flat_map ended_line k.lines);
      whole = k.whole;
      contents = spoken.contents;
      content = spoken.content;
      state = s;
      run = spoken.run;
      ended = d.0;
      told = subst (λ (y : LogValue). AreOfLog opening (events_in nowhere spoken.contents) y.0 y.1 y.2) (λ i. (d.2 i, d.3 i, d.4 i)) (log_told opening spoken.contents s spoken.run d.0);
      means = entries_told opening spoken.contents s spoken.run d.0 ∙ ap meaning_of_entries d.3;
      before = sym d.2 ∙ before_told opening spoken.contents s spoken.run;
      varies = sym d.4 ∙ varied_told opening spoken.contents s spoken.run;
      rows = rows_told opening spoken.contents s spoken.run d.0;
      gapless = gapless_told opening spoken.contents s spoken.run;
    }

pub read_found : (opening : Gtids) (text : List ℕ) (x : LogValue) → Ends (IsTextFault opening text) (Ok x) (closing (feed_bytes (start opening) text)) → IsLog opening text x.0 x.1 x.2
read_found opening text x (inl h) = absurd (let bad = h.1 in cc)
read_found opening text x (inr h) = log_of opening text (feed_bytes (start opening) text) x refl (sym h)

unended : (b : Bool) (s : Standing) (n m : ℕ) (rest : List ℕ) → end_of_text b s n rest ≡ Err (faults.Unfinished m) → ((b ≡ true) × (rest ≡ []) → ⊥) × (m ≡ next_number n)
unended true s n m [] e = absurd cc
unended true s n m (b ∷ bs) e = (λ h. absurd (let bad : b ∷ bs ≡ [] = h.1 in cc), cc)
unended false s n m rest e = (λ h. absurd (let bad : false ≡ true = h.0 in cc), cc)

line_not_ended : (b : Bool) (s : Standing) (n m : ℕ) (rest : List ℕ) (refusal : EntryRefusal) → end_of_text b s n rest ≡ Err (faults.Line m refusal) → ⊥
line_not_ended true s n m [] refusal e = absurd cc
line_not_ended true s n m (b ∷ bs) refusal e = absurd cc
line_not_ended false s n m rest refusal e = absurd cc

refused_at : (opening : Gtids) (text : List ℕ) (p : Progress) (n : ℕ) (refusal : EntryRefusal) → feed_bytes (start opening) text ≡ p → closing p ≡ Err (faults.Line n refusal) → IsRefused opening text n refusal
refused_at opening text (Reading s m rest) n refusal e h = absurd (line_not_ended (is_closed s.body) s m n rest refusal h)
refused_at opening text (Stopped f) n refusal e h =
    let k = stops_back (machine.start opening) 0 [] text f refl e in
    let same : faults.Line (named_line k.refusal (next_number (numbered 0 k.before))) k.refusal ≡ faults.Line n refusal = sym k.is ∙ fault_same f (faults.Line n refusal) h in
    record {
      before = k.before;
      line = k.line;
      rest = k.more;
      parts = k.parts;
      whole = k.whole;
      state = k.state;
      taken = k.taken;
      refused = k.refused ∙ ap (λ (r : EntryRefusal). let x : Result Standing EntryRefusal = Err r in x) (line_same _ n k.refusal refusal same).1;
      number =
          sym (line_same _ n k.refusal refusal same).0
          ∙ ap (λ (r : EntryRefusal). named_line r (next_number (numbered 0 k.before))) (line_same _ n k.refusal refusal same).1;
    }
  where
    fault_same : (f g : ReadFault) → (let x : Result LogValue ReadFault = Err f in x) ≡ Err g → f ≡ g
    fault_same f g e = cc

    line_same : (n m : ℕ) (r q : EntryRefusal) → faults.Line n r ≡ faults.Line m q → (n ≡ m) × (r ≡ q)
    line_same n m r q e = (cc, cc)

unfinished_at : (opening : Gtids) (text : List ℕ) (p : Progress) (n : ℕ) → feed_bytes (start opening) text ≡ p → closing p ≡ Err (faults.Unfinished n) → IsUnfinished opening text n
unfinished_at opening text (Stopped f) n e h =
    let k = stops_back (machine.start opening) 0 [] text f refl e in
    absurd (let bad : faults.Line (named_line k.refusal (next_number (numbered 0 k.before))) k.refusal ≡ faults.Unfinished n = sym k.is ∙ fault_same f (faults.Unfinished n) h in cc)
  where
    fault_same : (f g : ReadFault) → (let x : Result LogValue ReadFault = Err f in x) ≡ Err g → f ≡ g
    fault_same f g e = cc
unfinished_at opening text (Reading s m rest) n e h =
    let k = reads_back (machine.start opening) 0 [] text s m rest refl e in
    let u = unended (is_closed s.body) s m n rest h in
    record {
      before = k.lines;
      rest = rest;
      parts = k.parts;
      whole = (k.whole, k.one);
      state = s;
      taken = k.run;
      owed = u.0;
      number = u.1 ∙ ap next_number k.number;
    }

-- the fold over the bytes knows of lines and the end alone
set_not_ended : (opening : Gtids) (text : List ℕ) (fault : SetFault) (p : Progress) → feed_bytes (start opening) text ≡ p → (let x : Result LogValue ReadFault = Err (faults.Set fault) in x) ≡ closing p → ⊥
set_not_ended opening text fault (Reading s n rest) e h = not_owed (is_closed s.body) s n rest h
  where
    not_owed : (b : Bool) (s : Standing) (n : ℕ) (rest : List ℕ) → (let x : Result LogValue ReadFault = Err (faults.Set fault) in x) ≡ end_of_text b s n rest → ⊥
    not_owed true s n [] h = cc
    not_owed true s n (b ∷ bs) h = cc
    not_owed false s n rest h = cc
set_not_ended opening text fault (Stopped f) e h =
    let k = stops_back (machine.start opening) 0 [] text f refl e in
    let bad : faults.Set fault ≡ faults.Line (named_line k.refusal (next_number (numbered 0 k.before))) k.refusal = fault_same (faults.Set fault) f h ∙ k.is in
    cc
  where
    fault_same : (f g : ReadFault) → (let x : Result LogValue ReadFault = Err f in x) ≡ Err g → f ≡ g
    fault_same f g e = cc

pub read_refused : (opening : Gtids) (text : List ℕ) (fault : ReadFault) → Ends (IsTextFault opening text) (Err fault) (closing (feed_bytes (start opening) text)) → Refuses opening fault text
read_refused opening text (faults.Set fault) (inl h) = subst (IsTextFault opening text) (set_same h.0 fault h.1) h.2
  where
    set_same : (f g : SetFault) → (let x : Result LogValue ReadFault = Err (faults.Set g) in x) ≡ Err (faults.Set f) → f ≡ g
    set_same f g e = cc
read_refused opening text (faults.Set fault) (inr h) = absurd (set_not_ended opening text fault (feed_bytes (start opening) text) refl h)
read_refused opening text (faults.Line n refusal) (inl h) = absurd (let bad = h.1 in cc)
read_refused opening text (faults.Line n refusal) (inr h) = refused_at opening text (feed_bytes (start opening) text) n refusal refl (sym h)
read_refused opening text (faults.Unfinished n) (inl h) = absurd (let bad = h.1 in cc)
read_refused opening text (faults.Unfinished n) (inr h) = unfinished_at opening text (feed_bytes (start opening) text) n refl (sym h)

-- ---- of what was read

pub seen_found : {X : Type 0} (view : X → LogValue) (opening : Gtids) (text : List ℕ) (r : Result X ReadFault) → Ends (IsTextFault opening text) (Seen view r) (closing (feed_bytes (start opening) text)) → IfOk r (λ x. IsLog opening text (view x).0 (view x).1 (view x).2)
seen_found view opening text (Ok x) h = read_found opening text (view x) h
seen_found view opening text (Err fault) h = tt

pub seen_refused : {X : Type 0} (view : X → LogValue) (opening : Gtids) (text : List ℕ) (r : Result X ReadFault) → Ends (IsTextFault opening text) (Seen view r) (closing (feed_bytes (start opening) text)) → IfErr r (λ fault. Refuses opening fault text)
seen_refused view opening text (Ok x) h = tt
seen_refused view opening text (Err fault) h = read_refused opening text fault h

-- ---- a copy of the opening set was refused memory, or it was read

text_fault : (opening : Gtids) (text : List ℕ) (result whole : Result LogValue ReadFault) → Ends (IsPieceFault (start opening) text) result whole → Ends (IsTextFault opening text) result whole
text_fault opening text result whole (inl h) = inl (h.0, h.1, inl h.2)
text_fault opening text result whole (inr h) = inr h

abbrev pub EndsWhole : Gtids → List ℕ → Result LogValue ReadFault → Type 0
EndsWhole opening text result = Ends (IsTextFault opening text) result (closing (feed_bytes (start opening) text))

pub read_copied : (opening copy : Gtids) (text : List ℕ) (result : Result LogValue ReadFault) → copy ≡ opening → Ends (IsPieceFault (start copy) text) result (closing (feed_bytes (start copy) text)) → EndsWhole opening text result
read_copied opening copy text result same h = subst (λ (o : Gtids). EndsWhole o text result) same (text_fault copy text result (closing (feed_bytes (start copy) text)) h)
