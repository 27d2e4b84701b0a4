-- Reading is complete: what a text parses as is read.
use Rattle.std.proofs.Common.{◌≡◌, ℕ, ◌<◌, Bool, true, false, eqb, List, [], ◌∷◌, ◌++◌, length, Option, Some, None, Ok, refl, sym, ap, subst, ◌∙◌, append_assoc, arith}
use Rattle.std.specs.List.{list_all, flat_map}
use Rattle.std.specs.Char.{is_ascii_digit}
use Rattle.std.proofs.lemmas.Bool.{eqb-true, ne_eqb, le-ltb, and_parts}
use Rattle.std.proofs.lemmas.List.{append-nil, length-append}
use Rattle.gtid_text.specs.Scan.{is_blank, is_uuid_byte, run, skip_while, source_of, found_source, source_at, number_at, colon_at}
use Rattle.gtid_text.specs.Reading.{span, upper_at, interval_at, separator_at, element_at, turn_at, with_front, spans_in}
use Rattle.gtid_text.specs.Grammar.{Number, Interval, Named, Element, number_text, upper_text, interval_text, behind_colon, named_text, element_text, set_text, IsGap, IsNumber, IsUpper, IsInterval, AreIntervals, IsNamed, IsElement, AreElements, ParsesAs}
use Rattle.gtid_text.specs.declared.SourceId.{SourceId}
use Rattle.gtid_text.specs.declared.Span.{Span}
use Rattle.gtid_text.proofs.Turns.{source_length, left_of, left_of-turn, left_of-end, with_front-twice, with_nothing}

-- ---- runs

-- whether a text begins with a byte that passes
abbrev pub starts : (ℕ → Bool) → List ℕ → Bool
starts p [] = false
starts p (b ∷ bs) = p b

pub past_cut : (p : ℕ → Bool) (r : List ℕ) → starts p r ≡ false → skip_while p r ≡ r
past_cut p [] e = refl
past_cut p (b ∷ bs) e = rw e refl

pub run_cut : (p : ℕ → Bool) (r : List ℕ) → starts p r ≡ false → run p r ≡ []
run_cut p [] e = refl
run_cut p (b ∷ bs) e = rw e refl

pub past_front : (p : ℕ → Bool) (xs r : List ℕ) → list_all p xs ≡ true → skip_while p (xs ++ r) ≡ skip_while p r
past_front p [] r e = refl
past_front p (x ∷ xs) r e = let h = and_parts (p x) (list_all p xs) e in rw h.0 (past_front p xs r h.1)

pub run_front : (p : ℕ → Bool) (xs r : List ℕ) → list_all p xs ≡ true → starts p r ≡ false → run p (xs ++ r) ≡ xs
run_front p [] r e cut = run_cut p r cut
run_front p (x ∷ xs) r e cut = let h = and_parts (p x) (list_all p xs) e in rw h.0 (ap (λ (t : List ℕ). x ∷ t) (run_front p xs r h.1 cut))

-- a blank is one of four bytes
blank_is : (P : ℕ → Type 0) (b : ℕ) → P 32 → P 9 → P 13 → P 10 → is_blank b ≡ true → P b
blank_is P b p q r s e =
    elim (eqb b 32) as (λ v. eqb b 32 ≡ v → P b) [
      | true ↦ λ h. subst P (sym (eqb-true b 32 h)) p
      | false ↦ λ h. elim (eqb b 9) as (λ v. eqb b 9 ≡ v → P b) [
        | true ↦ λ k. subst P (sym (eqb-true b 9 k)) q
        | false ↦ λ k. elim (eqb b 13) as (λ v. eqb b 13 ≡ v → P b) [
          | true ↦ λ l. subst P (sym (eqb-true b 13 l)) r
          | false ↦ λ l. subst P (sym (eqb-true b 10 (rw (h, k, l) at e))) s
        ] refl
      ] refl
    ] refl

-- no blank passes these tests, so that blanks end a run
pub starts_gap : (p : ℕ → Bool) (gap r : List ℕ) → p 32 ≡ false → p 9 ≡ false → p 13 ≡ false → p 10 ≡ false → IsGap gap → starts p r ≡ false → starts p (gap ++ r) ≡ false
starts_gap p [] r a b c d g cut = cut
starts_gap p (x ∷ xs) r a b c d g cut = blank_is (λ y. p y ≡ false) x a b c d (and_parts (is_blank x) (list_all is_blank xs) g).0

-- a text of such bytes begins with no blank
blank_apart : (p : ℕ → Bool) (b : ℕ) → p 32 ≡ false → p 9 ≡ false → p 13 ≡ false → p 10 ≡ false → p b ≡ true → is_blank b ≡ false
blank_apart p b w x y z e =
    elim (is_blank b) as (λ v. is_blank b ≡ v → v ≡ false) [
      | true ↦ λ h. absurd (let k = blank_is (λ c. p c ≡ false) b w x y z h in cc)
      | false ↦ λ h. refl
    ] refl

pub starts_blank : (p : ℕ → Bool) (xs r : List ℕ) → p 32 ≡ false → p 9 ≡ false → p 13 ≡ false → p 10 ≡ false → list_all p xs ≡ true → 0 < length xs → starts is_blank (xs ++ r) ≡ false
starts_blank p [] r w x y z e some = absurd (omega arith)
starts_blank p (b ∷ bs) r w x y z e some = blank_apart p b w x y z (and_parts (p b) (list_all p bs) e).0

-- ---- tokens

-- after blanks come bytes of a run
past_blanks : (p : ℕ → Bool) (gap xs r : List ℕ) → p 32 ≡ false → p 9 ≡ false → p 13 ≡ false → p 10 ≡ false → IsGap gap → list_all p xs ≡ true → 0 < length xs → skip_while is_blank ((gap ++ xs) ++ r) ≡ xs ++ r
past_blanks p gap xs r w x y z g e some =
    ap (skip_while is_blank) (append_assoc gap xs r) ∙ past_front is_blank gap (xs ++ r) g ∙ past_cut is_blank (xs ++ r) (starts_blank p xs r w x y z e some)

pub number_reads : (n : Number) (value : ℕ) (r : List ℕ) → IsNumber n value → starts is_ascii_digit r ≡ false → number_at (skip_while is_blank (number_text n ++ r)) ≡ Ok (value, r)
number_reads n value r h cut =
    let e = past_blanks is_ascii_digit n.gap n.digits r refl refl refl refl h.gap h.digits h.some in
    let ne : eqb (length n.digits) 0 ≡ false = ne_eqb (length n.digits) 0 (let s = h.some in omega arith) in
    ap number_at e ∙ rw (run_front is_ascii_digit n.digits r h.digits cut, ne, h.parses, past_front is_ascii_digit n.digits r h.digits, past_cut is_ascii_digit r cut) refl

pub source_reads : (uuid r : List ℕ) (id : SourceId) → list_all is_uuid_byte uuid ≡ true → source_of uuid ≡ Some id → starts is_uuid_byte r ≡ false → source_at (uuid ++ r) ≡ Ok (id, r)
source_reads uuid r id e s cut =
    ap (λ (x : List ℕ). found_source (source_of x) (uuid ++ r) (skip_while is_uuid_byte (uuid ++ r))) (run_front is_uuid_byte uuid r e cut)
    ∙ ap (λ (o : Option SourceId). found_source o (uuid ++ r) (skip_while is_uuid_byte (uuid ++ r))) s
    ∙ ap (λ (x : List ℕ). Ok (id, x)) (past_front is_uuid_byte uuid r e ∙ past_cut is_uuid_byte r cut)

-- ---- an interval

abbrev pub is_dash : ℕ → Bool
is_dash b = eqb b 45

-- an interval ends before this
pub record Follows (tail : List ℕ) : Type 0 where
  pub digit : starts is_ascii_digit tail ≡ false
  pub dash : starts is_dash (skip_while is_blank tail) ≡ false

pub upper_none : (id : SourceId) (lo : ℕ) (x : List ℕ) → starts is_dash x ≡ false → upper_at id lo x ≡ Ok (span id lo lo, x)
upper_none id lo [] e = refl
upper_none id lo (b ∷ bs) e = rw e refl

pub span_is : (s : Span) (id : SourceId) → s.source ≡ id → span id s.lo s.hi ≡ s
span_is s id e = ap (λ (i : SourceId). span i s.lo s.hi) (sym e)

pub upper_cut : (u : Option (List ℕ × Number)) (s : Span) (tail : List ℕ) → IsUpper u s → starts is_ascii_digit tail ≡ false → starts is_ascii_digit (upper_text u ++ tail) ≡ false
upper_cut None s tail h cut = cut
upper_cut (Some u) s tail h cut = ap (starts is_ascii_digit) (append_assoc u.0 (45 ∷ number_text u.1) tail) ∙ starts_gap is_ascii_digit u.0 (45 ∷ (number_text u.1 ++ tail)) refl refl refl refl h.0 refl

-- a hyphen would go on with an interval of one number
abbrev pub NoDash : Option (List ℕ × Number) → List ℕ → Type 0
NoDash None tail = starts is_dash (skip_while is_blank tail) ≡ false
NoDash (Some u) tail = Unit {0}

no_dash : (u : Option (List ℕ × Number)) (tail : List ℕ) → Follows tail → NoDash u tail
no_dash None tail f = f.dash
no_dash (Some u) tail f = tt

upper_reads : (u : Option (List ℕ × Number)) (id : SourceId) (s : Span) (tail : List ℕ) → IsUpper u s → s.source ≡ id → starts is_ascii_digit tail ≡ false → NoDash u tail → upper_at id s.lo (skip_while is_blank (upper_text u ++ tail)) ≡ Ok (s, skip_while is_blank tail)
upper_reads None id s tail h e cut d =
    upper_none id s.lo (skip_while is_blank tail) d
    ∙ ap (λ (n : ℕ). Ok (span id s.lo n, skip_while is_blank tail)) (sym h)
    ∙ ap (λ (x : Span). Ok (x, skip_while is_blank tail)) (span_is s id e)
upper_reads (Some u) id s tail h e cut d =
    ap (λ (x : List ℕ). upper_at id s.lo (skip_while is_blank x)) (append_assoc u.0 (45 ∷ number_text u.1) tail)
    ∙ ap (upper_at id s.lo) (past_front is_blank u.0 (45 ∷ (number_text u.1 ++ tail)) h.0)
    ∙ rw (number_reads u.1 s.hi tail h.1 cut, le-ltb _ _ h.2) (ap (λ (x : Span). Ok (x, skip_while is_blank tail)) (span_is s id e))

pub interval_reads_at : (i : Interval) (id : SourceId) (s : Span) (tail : List ℕ) → IsInterval i id s → starts is_ascii_digit tail ≡ false → NoDash i.upper tail → interval_at id (interval_text i ++ tail) ≡ Ok (s, skip_while is_blank tail)
unfolding interval_at
interval_reads_at i id s tail h cut d =
    ap (interval_at id) (append_assoc (number_text i.lo) (upper_text i.upper) tail)
    ∙ rw (number_reads i.lo s.lo (upper_text i.upper ++ tail) h.lo (upper_cut i.upper s tail h.upper cut)) (upper_reads i.upper id s tail h.upper h.source cut d)

pub interval_reads : (i : Interval) (id : SourceId) (s : Span) (tail : List ℕ) → IsInterval i id s → Follows tail → interval_at id (interval_text i ++ tail) ≡ Ok (s, skip_while is_blank tail)
interval_reads i id s tail h f = interval_reads_at i id s tail h f.digit (no_dash i.upper tail f)

-- ---- the intervals of an element

-- an element ends before this, and the text goes on with next
pub record Ends (tail next : List ℕ) : Type 0 where
  pub follows : Follows tail
  pub sep : (id : SourceId) → separator_at id (skip_while is_blank tail) ≡ Ok (None, next)

pub past_gap : (gap : List ℕ) → IsGap gap → skip_while is_blank gap ≡ []
past_gap gap g = ap (skip_while is_blank) (sym (append-nil gap)) ∙ past_front is_blank gap [] g

pub ends_last : (gap : List ℕ) → IsGap gap → Ends gap []
unfolding separator_at
ends_last gap g = record {
  follows = record {
    digit = ap (starts is_ascii_digit) (sym (append-nil gap)) ∙ starts_gap is_ascii_digit gap [] refl refl refl refl g refl;
    dash = ap (starts is_dash) (past_gap gap g);
  };
  sep = λ id. ap (separator_at id) (past_gap gap g);
}

pub ends_comma : (gap rest : List ℕ) → IsGap gap → Ends (gap ++ 44 ∷ rest) rest
unfolding separator_at
ends_comma gap rest g = record {
  follows = record {
    digit = starts_gap is_ascii_digit gap (44 ∷ rest) refl refl refl refl g refl;
    dash = ap (starts is_dash) (past_front is_blank gap (44 ∷ rest) g);
  };
  sep = λ id. ap (separator_at id) (past_front is_blank gap (44 ∷ rest) g);
}

-- a further interval, taken off the start
abbrev pub next_interval : List ℕ × Interval → List (List ℕ × Interval) → List ℕ → List ℕ
next_interval q qs tail = interval_text q.1 ++ (flat_map behind_colon qs ++ tail)

pub regrouped : (q : List ℕ × Interval) (qs : List (List ℕ × Interval)) (tail : List ℕ) → flat_map behind_colon (q ∷ qs) ++ tail ≡ q.0 ++ 58 ∷ next_interval q qs tail
regrouped q qs tail =
    append_assoc (behind_colon q) (flat_map behind_colon qs) tail
    ∙ append_assoc q.0 (58 ∷ interval_text q.1) (flat_map behind_colon qs ++ tail)

pub turn_interval : (id : SourceId) (rest x : List ℕ) (s : Span) (y : Option SourceId × List ℕ) → interval_at id rest ≡ Ok (s, x) → separator_at id x ≡ Ok y → turn_at (Some id) rest ≡ Ok (Some (Some s, y.0, y.1))
unfolding turn_at
turn_interval id rest x s y e f = rw (e, f) refl

goes_on_at : (id : SourceId) (q : List ℕ × Interval) (qs : List (List ℕ × Interval)) (tail : List ℕ) → IsGap q.0 → separator_at id (skip_while is_blank (flat_map behind_colon (q ∷ qs) ++ tail)) ≡ Ok (Some id, next_interval q qs tail)
unfolding separator_at
goes_on_at id q qs tail g = ap (λ (x : List ℕ). separator_at id (skip_while is_blank x)) (regrouped q qs tail) ∙ ap (separator_at id) (past_front is_blank q.0 (58 ∷ next_interval q qs tail) g)

follows_colon : (q : List ℕ × Interval) (qs : List (List ℕ × Interval)) (tail : List ℕ) → IsGap q.0 → Follows (flat_map behind_colon (q ∷ qs) ++ tail)
follows_colon q qs tail g = record {
  digit = ap (starts is_ascii_digit) (regrouped q qs tail) ∙ starts_gap is_ascii_digit q.0 (58 ∷ next_interval q qs tail) refl refl refl refl g refl;
  dash = ap (λ (x : List ℕ). starts is_dash (skip_while is_blank x)) (regrouped q qs tail) ∙ ap (starts is_dash) (past_front is_blank q.0 (58 ∷ next_interval q qs tail) g);
}

pub reads_intervals : (id : SourceId) (i : Interval) (s : Span) (ps : List (List ℕ × Interval)) (ss : List Span) (tail next : List ℕ)
    → IsInterval i id s → AreIntervals id ps ss → Ends tail next
    → left_of (Some id) (interval_text i ++ (flat_map behind_colon ps ++ tail)) ≡ with_front (s ∷ ss) (left_of None next)
reads_intervals id i s [] [] tail next h hs e =
    left_of-turn (Some id) (interval_text i ++ tail) (Some s, None, next) (turn_interval id (interval_text i ++ tail) (skip_while is_blank tail) s (None, next) (interval_reads i id s tail h e.follows) (e.sep id))
reads_intervals id i s [] (t ∷ ts) tail next h hs e = absurd hs
reads_intervals id i s (q ∷ qs) [] tail next h hs e = absurd hs
reads_intervals id i s (q ∷ qs) (t ∷ ts) tail next h hs e =
    let more = flat_map behind_colon (q ∷ qs) ++ tail in
    left_of-turn (Some id) (interval_text i ++ more) (Some s, Some id, next_interval q qs tail) (turn_interval id (interval_text i ++ more) (skip_while is_blank more) s (Some id, next_interval q qs tail) (interval_reads i id s more h (follows_colon q qs tail hs.0)) (goes_on_at id q qs tail hs.0))
    ∙ ap (with_front (s ∷ [])) (reads_intervals id q.1 t qs ts tail next hs.1 hs.2 e)
    ∙ with_front-twice (s ∷ []) (t ∷ ts) (left_of None next)

-- ---- elements

abbrev pub is_comma : ℕ → Bool
is_comma b = eqb b 44

pub element_uuid : (xs rest : List ℕ) (id : SourceId) (y : List ℕ) → 0 < length xs → starts is_comma xs ≡ false → source_at xs ≡ Ok (id, rest) → colon_at (skip_while is_blank rest) ≡ Ok y → element_at xs ≡ Ok (Some id, y)
unfolding element_at
element_uuid [] rest id y some c e f = absurd (omega arith)
element_uuid (b ∷ bs) rest id y some c e f = rw (c, e, f) refl

pub turn_element : (rest : List ℕ) (y : Option SourceId × List ℕ) → 0 < length (skip_while is_blank rest) → element_at (skip_while is_blank rest) ≡ Ok y → turn_at None rest ≡ Ok (Some (None, y.0, y.1))
unfolding turn_at
turn_element rest y some e =
    let ne : eqb (length (skip_while is_blank rest)) 0 ≡ false = ne_eqb _ _ (omega arith) in
    rw (ne, e) refl

pub turn_end : (rest : List ℕ) → skip_while is_blank rest ≡ [] → turn_at None rest ≡ Ok None
unfolding turn_at
turn_end rest e = rw e refl

pub uuid_some : (uuid : List ℕ) (id : SourceId) → source_of uuid ≡ Some id → 0 < length uuid
uuid_some uuid id e = omega (arith, source_length uuid id e)

no_comma : (b : ℕ) → b ≡ 44 → is_uuid_byte b ≡ true → ⊥
no_comma b e y = let z : is_uuid_byte 44 ≡ true = ap is_uuid_byte (sym e) ∙ y in absurd cc

pub uuid_no_comma : (uuid r : List ℕ) → list_all is_uuid_byte uuid ≡ true → 0 < length uuid → starts is_comma (uuid ++ r) ≡ false
uuid_no_comma [] r e some = absurd (omega arith)
uuid_no_comma (b ∷ bs) r e some =
    elim (eqb b 44) as (λ v. eqb b 44 ≡ v → v ≡ false) [
      | true ↦ λ h. absurd (let k = eqb-true b 44 h in let y = (and_parts (is_uuid_byte b) (list_all is_uuid_byte bs) e).0 in no_comma b k y)
      | false ↦ λ h. refl
    ] refl

pub named_reads : (n : Named) (ss : List Span) (tail next : List ℕ) → IsNamed n ss → Ends tail next → left_of None (named_text n ++ tail) ≡ with_front ss (left_of None next)
named_reads n [] tail next h e = absurd h.intervals
named_reads n (s ∷ ss) tail next h e =
    let more = flat_map behind_colon (n.first ∷ n.more) ++ tail in
    let y = next_interval n.first n.more tail in
    let some = uuid_some n.uuid h.id h.uuid in
    let whole : named_text n ++ tail ≡ n.gap ++ (n.uuid ++ more) = append_assoc n.gap (n.uuid ++ flat_map behind_colon (n.first ∷ n.more)) tail ∙ ap (λ (x : List ℕ). n.gap ++ x) (append_assoc n.uuid (flat_map behind_colon (n.first ∷ n.more)) tail) in
    let left : skip_while is_blank (named_text n ++ tail) ≡ n.uuid ++ more = ap (skip_while is_blank) whole ∙ past_front is_blank n.gap (n.uuid ++ more) h.gap ∙ past_cut is_blank (n.uuid ++ more) (starts_blank is_uuid_byte n.uuid more refl refl refl refl h.bytes some) in
    let cut : starts is_uuid_byte more ≡ false = ap (starts is_uuid_byte) (regrouped n.first n.more tail) ∙ starts_gap is_uuid_byte n.first.0 (58 ∷ y) refl refl refl refl h.intervals.0 refl in
    let colon : colon_at (skip_while is_blank more) ≡ Ok y = ap (λ (x : List ℕ). colon_at (skip_while is_blank x)) (regrouped n.first n.more tail) ∙ ap colon_at (past_front is_blank n.first.0 (58 ∷ y) h.intervals.0) in
    let long : 0 < length (n.uuid ++ more) = omega (arith, some, length-append n.uuid more) in
    let found : element_at (n.uuid ++ more) ≡ Ok (Some h.id, y) = element_uuid (n.uuid ++ more) more h.id y long (uuid_no_comma n.uuid more h.bytes some) (source_reads n.uuid more h.id h.bytes h.uuid cut) colon in
    let turned : turn_at None (named_text n ++ tail) ≡ Ok (Some (None, Some h.id, y)) = turn_element (named_text n ++ tail) (Some h.id, y) (omega (arith, long, ap length left)) (ap element_at left ∙ found) in
    left_of-turn None (named_text n ++ tail) (None, Some h.id, y) turned
    ∙ with_nothing (left_of (Some h.id) y)
    ∙ reads_intervals h.id n.first.1 s n.more ss tail next h.intervals.1 h.intervals.2 e

element_last : (e : Element) (front : List Span) → IsElement e front → left_of None (element_text e) ≡ Ok front
element_last (None, gap) front h = left_of-end None gap (turn_end gap (past_gap gap h.0)) ∙ ap Ok (sym h.1)
element_last (Some n, gap) front h =
    named_reads n front gap [] h.1 (ends_last gap h.0) ∙ ap (with_front front) (left_of-end None [] (turn_end [] refl)) ∙ ap Ok (append-nil front)

element_comma : (e : Element) (front : List Span) (rest : List ℕ) → IsElement e front → left_of None (element_text e ++ 44 ∷ rest) ≡ with_front front (left_of None rest)
unfolding element_at
element_comma (None, gap) front rest h =
    let left : skip_while is_blank (gap ++ 44 ∷ rest) ≡ 44 ∷ rest = past_front is_blank gap (44 ∷ rest) h.0 in
    left_of-turn None (gap ++ 44 ∷ rest) (None, None, rest) (turn_element (gap ++ 44 ∷ rest) (None, rest) (omega (arith, ap length left)) (ap element_at left))
    ∙ ap (λ (f : List Span). with_front f (left_of None rest)) (sym h.1)
element_comma (Some n, gap) front rest h =
    ap (left_of None) (append_assoc (named_text n) gap (44 ∷ rest)) ∙ named_reads n front (gap ++ 44 ∷ rest) rest h.1 (ends_comma gap rest h.0)

elements_read : (es : List Element) (spans : List Span) → AreElements es spans → left_of None (set_text es) ≡ Ok spans
elements_read [] spans h = left_of-end None [] (turn_end [] refl) ∙ ap Ok (sym h)
elements_read (e ∷ []) spans h =
    element_last e h.0 h.3 ∙ ap Ok (sym (h.2 ∙ ap (λ (x : List Span). h.0 ++ x) h.4 ∙ append-nil h.0))
elements_read (e ∷ f ∷ es) spans h =
    element_comma e h.0 (set_text (f ∷ es)) h.3 ∙ ap (with_front h.0) (elements_read (f ∷ es) h.1 h.4) ∙ ap Ok (sym h.2)

pub spells_read : (text : List ℕ) (spans : List Span) → ParsesAs text spans → spans_in text ≡ Ok spans
unfolding spans_in left_of
spells_read text spans h = ap (λ (t : List ℕ). left_of None t) h.text_is ∙ elements_read h.elements spans h.says
