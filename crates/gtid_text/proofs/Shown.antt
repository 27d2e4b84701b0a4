-- What is written reads back, in either case and with blanks between its tokens.
use Rattle.std.proofs.Common.{◌≡◌, ℕ, ◌<◌, Bool, true, false, cond, eqb, ltb, List, [], ◌∷◌, ◌++◌, length, get_or, drop, Option, Some, None, Ok, refl, sym, ap, ◌∙◌, append_assoc, arith}
use Rattle.std.specs.Prelude.{decimal}
use Rattle.std.specs.Char.{is_ascii_digit, to_ascii_lowercase}
use Rattle.std.specs.List.{list_all}
use Rattle.std.proofs.lemmas.Bool.{eqb-true, and_parts}
use Rattle.std.proofs.lemmas.Bool.Decides.{nat_tests}
use Rattle.std.proofs.lemmas.Fmt.{digits_decimal, decimal_nonempty}
use Rattle.std.proofs.lemmas.List.{append-nil, length-append}
use Rattle.gtid_text.specs.Scan.{is_blank, is_uuid_byte, skip_while, colon_at}
use Rattle.gtid_text.specs.Reading.{separator_at, element_at, with_front, spans_in}
use Rattle.gtid_text.specs.Canonical.{source_text, gtid_text, numbers_text, text_behind, spans_text}
use Rattle.gtid_text.specs.Grammar.{Number, Interval, number_text, interval_text, IsGap, IsNumber, IsInterval, ParsesAs, IsUuid, ParsesAsSource, ParsesAsGtid}
use Rattle.gtid_text.specs.Written.{IsSource, IsNumbered, IsUsable, IsUsableSpan, AreUsable, Tokens, token, source_tokens, gtid_tokens, numbers_then, tokens_behind, spans_tokens, SameButCase, IsSpaced, text_of_tokens}
use Rattle.gtid_text.specs.declared.Gtid.{Gtid}
use Rattle.gtid_text.specs.declared.Span.{Span}
use Rattle.gtid_text.proofs.Tokens.{own}
use Rattle.gtid_text.proofs.Turns.{left_of, left_of-turn, left_of-end}
use Rattle.gtid_text.proofs.Spelled.{starts, starts_gap, starts_blank, past_cut, past_front, source_reads, is_dash, Follows, interval_reads, ends_last, turn_interval, turn_element, turn_end, element_uuid, uuid_some, uuid_no_comma}
use Rattle.gtid_text.proofs.Found.{read_spells}
use Rattle.gtid_text.proofs.RoundTrip.{source_bytes, source_again, number_again}
use Rattle.gtid_text.proofs.Letters.{low_lower, source_same, uuid_bytes_same}

-- ---- tokens without letters are shown as they are

same_low : (p : ℕ → Bool) → ((d : ℕ) → p d ≡ true → d < 65) → (xs ds : List ℕ) → list_all p ds ≡ true → SameButCase xs ds → xs ≡ ds
same_low p low [] [] all e = refl
same_low p low [] (d ∷ ds) all e = absurd cc
same_low p low (x ∷ xs) [] all e = absurd cc
same_low p low (x ∷ xs) (d ∷ ds) all e =
    let b = and_parts (p d) (list_all p ds) all in
    let head : to_ascii_lowercase x ≡ to_ascii_lowercase d = ap (λ (l : List ℕ). get_or l 0 0) e in
    let tail : SameButCase xs ds = ap (λ (l : List ℕ). drop 1 l) e in
    ap (λ (y : ℕ). y ∷ xs) (low_lower x d (low d b.0) head) ∙ ap (λ (ys : List ℕ). d ∷ ys) (same_low p low xs ds b.1 tail)

digit_low : (d : ℕ) → is_ascii_digit d ≡ true → d < 65
digit_low d e = grind (arith, nat_tests)

below_low : (d : ℕ) → ltb d 65 ≡ true → d < 65
below_low d e = grind (arith, nat_tests)

-- ---- a token, and what follows it

record ShownByte (b : ℕ) (ts : Tokens) (text : List ℕ) : Type 0 where
  gap : List ℕ
  more : List ℕ
  blank : IsGap gap
  is : text ≡ gap ++ b ∷ more
  spaced : IsSpaced ts more

shown_byte : (b : ℕ) (ts : Tokens) (text : List ℕ) → ltb b 65 ≡ true → IsSpaced (token b ∷ ts) text → ShownByte b ts text
shown_byte b ts text low s =
    let same : s.1 ≡ b ∷ [] = same_low (λ d. ltb d 65) below_low s.1 (b ∷ []) (rw low refl) s.5 in
    record { gap = s.0; more = s.2; blank = s.4; is = s.3 ∙ ap (λ (t : List ℕ). s.0 ++ (t ++ s.2)) same; spaced = s.6 }

record ShownNumber (n : ℕ) (ts : Tokens) (text : List ℕ) : Type 0 where
  num : Number
  more : List ℕ
  says : IsNumber num n
  is : text ≡ number_text num ++ more
  spaced : IsSpaced ts more

shown_number : (n : ℕ) (ts : Tokens) (text : List ℕ) → IsNumbered n → IsSpaced (decimal n ∷ ts) text → ShownNumber n ts text
shown_number n ts text h s =
    let digits : list_all is_ascii_digit (decimal n) ≡ true = digits_decimal own n (omega (arith, h.1)) in
    let same : s.1 ≡ decimal n = same_low is_ascii_digit digit_low s.1 (decimal n) digits s.5 in
    record {
      num = record { gap = s.0; digits = decimal n };
      more = s.2;
      says = record { gap = s.4; digits = digits; some = decimal_nonempty n (omega (arith, h.1)); parses = number_again n h.0 h.1 };
      is = s.3 ∙ ap (λ (t : List ℕ). s.0 ++ (t ++ s.2)) same ∙ sym (append_assoc s.0 (decimal n) s.2);
      spaced = s.6;
    }

record ShownSource (id : ℕ) (ts : Tokens) (text : List ℕ) : Type 0 where
  gap : List ℕ
  uuid : List ℕ
  more : List ℕ
  blank : IsGap gap
  names : IsUuid uuid id
  is : text ≡ gap ++ (uuid ++ more)
  spaced : IsSpaced ts more

shown_source : (id : ℕ) (ts : Tokens) (text : List ℕ) → IsSource id → IsSpaced (source_text id ∷ ts) text → ShownSource id ts text
shown_source id ts text fits s =
    record {
      gap = s.0;
      uuid = s.1;
      more = s.2;
      blank = s.4;
      names = record { bytes = uuid_bytes_same s.1 (source_text id) s.5 ∙ source_bytes id; names = source_same s.1 (source_text id) s.5 ∙ source_again id fits };
      is = s.3;
      spaced = s.6;
    }

-- ---- a source, a GTID

pub source_shown : (id : ℕ) → IsSource id → (text : List ℕ) → IsSpaced (source_tokens id) text → ParsesAsSource text id
source_shown id fits text s =
    let a = shown_source id [] text fits s in
    record { gap = a.gap; uuid = a.uuid; after = a.more; text_is = a.is; gaps = (a.blank, a.spaced); is_uuid = a.names }

pub gtid_shown : (g : Gtid) → IsUsable g → (text : List ℕ) → IsSpaced (gtid_tokens g) text → ParsesAsGtid text g
gtid_shown g fits text s =
    let a = shown_source g.source (token 58 ∷ decimal g.number ∷ []) text fits.source s in
    let b = shown_byte 58 (decimal g.number ∷ []) a.more refl a.spaced in
    let c = shown_number g.number [] b.more fits.number b.spaced in
    record {
      gap = a.gap;
      uuid = a.uuid;
      behind = b.gap;
      number = c.num;
      after = c.more;
      text_is = a.is ∙ ap (λ (t : List ℕ). a.gap ++ (a.uuid ++ t)) (b.is ∙ ap (λ (t : List ℕ). b.gap ++ 58 ∷ t) c.is);
      gaps = (a.blank, b.blank, c.spaced);
      is_uuid = a.names;
      is_number = c.says;
    }

-- ---- intervals

record ShownInterval (s : Span) (ts : Tokens) (text : List ℕ) : Type 0 where
  i : Interval
  tail : List ℕ
  says : IsInterval i s.source s
  is : text ≡ interval_text i ++ tail
  spaced : IsSpaced ts tail

shown_interval : (s : Span) (ts : Tokens) (text : List ℕ) → IsUsableSpan s → IsSpaced (numbers_then s.lo s.hi ts) text → ShownInterval s ts text
shown_interval s ts text fits =
    elim (eqb s.lo s.hi) as (λ b. eqb s.lo s.hi ≡ b → IsSpaced (cond b (decimal s.lo ∷ ts) (decimal s.lo ∷ token 45 ∷ decimal s.hi ∷ ts)) text → ShownInterval s ts text) [
      | true ↦ λ same spaced.
          let a = shown_number s.lo ts text fits.low spaced in
          record {
            i = record { lo = a.num; upper = None };
            tail = a.more;
            says = record { source = refl; lo = a.says; upper = sym (eqb-true s.lo s.hi same) };
            is = a.is ∙ ap (λ (t : List ℕ). t ++ a.more) (sym (append-nil (number_text a.num)));
            spaced = a.spaced;
          }
      | false ↦ λ other spaced.
          let a = shown_number s.lo (token 45 ∷ decimal s.hi ∷ ts) text fits.low spaced in
          let b = shown_byte 45 (decimal s.hi ∷ ts) a.more refl a.spaced in
          let c = shown_number s.hi ts b.more fits.high b.spaced in
          record {
            i = record { lo = a.num; upper = Some (b.gap, c.num) };
            tail = c.more;
            says = record { source = refl; lo = a.says; upper = (b.blank, c.says, fits.ordered) };
            is = a.is
                ∙ ap (λ (t : List ℕ). number_text a.num ++ t) (b.is ∙ ap (λ (t : List ℕ). b.gap ++ 45 ∷ t) c.is ∙ sym (append_assoc b.gap (45 ∷ number_text c.num) c.more))
                ∙ sym (append_assoc (number_text a.num) (b.gap ++ 45 ∷ number_text c.num) c.more);
            spaced = c.spaced;
          }
    ] refl

follows_byte : (b : ℕ) (gap more tail : List ℕ) → IsGap gap → is_ascii_digit b ≡ false → is_blank b ≡ false → is_dash b ≡ false → tail ≡ gap ++ b ∷ more → Follows tail
follows_byte b gap more tail blank digit apart dash is =
    record {
      digit = ap (starts is_ascii_digit) is ∙ starts_gap is_ascii_digit gap (b ∷ more) refl refl refl refl blank digit;
      dash = ap (λ (t : List ℕ). starts is_dash (skip_while is_blank t)) is ∙ ap (starts is_dash) (past_front is_blank gap (b ∷ more) blank ∙ past_cut is_blank (b ∷ more) apart) ∙ dash;
    }

-- an interval ends before the tokens after it
follows_tokens : (id : ℕ) (ss : List Span) (tail : List ℕ) → IsSpaced (tokens_behind id ss) tail → Follows tail
follows_tokens id [] tail s = (ends_last tail s).follows
follows_tokens id (t ∷ ts) tail spaced =
    let rest = numbers_then t.lo t.hi (tokens_behind t.source ts) in
    elim (eqb id t.source) as (λ b. IsSpaced (cond b (token 58 ∷ rest) (token 44 ∷ source_text t.source ∷ token 58 ∷ rest)) tail → Follows tail) [
      | true ↦ λ s. let a = shown_byte 58 rest tail refl s in follows_byte 58 a.gap a.more tail a.blank refl refl refl a.is
      | false ↦ λ s. let a = shown_byte 44 (source_text t.source ∷ token 58 ∷ rest) tail refl s in follows_byte 44 a.gap a.more tail a.blank refl refl refl a.is
    ] spaced

-- ---- an element's beginning

record BegunElement (id : ℕ) (ts : Tokens) (text : List ℕ) : Type 0 where
  more : List ℕ
  reads : left_of None text ≡ with_front [] (left_of (Some id) more)
  spaced : IsSpaced ts more

begun_element : (id : ℕ) (ts : Tokens) (text : List ℕ) → IsSource id → IsSpaced (source_text id ∷ token 58 ∷ ts) text → BegunElement id ts text
begun_element id ts text fits s =
    let a = shown_source id (token 58 ∷ ts) text fits s in
    let b = shown_byte 58 ts a.more refl a.spaced in
    let tail = b.gap ++ 58 ∷ b.more in
    let some = uuid_some a.uuid id a.names.names in
    let left : skip_while is_blank (a.gap ++ (a.uuid ++ tail)) ≡ a.uuid ++ tail = past_front is_blank a.gap (a.uuid ++ tail) a.blank ∙ past_cut is_blank (a.uuid ++ tail) (starts_blank is_uuid_byte a.uuid tail refl refl refl refl a.names.bytes some) in
    let cut : starts is_uuid_byte tail ≡ false = starts_gap is_uuid_byte b.gap (58 ∷ b.more) refl refl refl refl b.blank refl in
    let long : 0 < length (a.uuid ++ tail) = omega (arith, some, length-append a.uuid tail) in
    let found : element_at (a.uuid ++ tail) ≡ Ok (Some id, b.more) = element_uuid (a.uuid ++ tail) tail id b.more long (uuid_no_comma a.uuid tail a.names.bytes some) (source_reads a.uuid tail id a.names.bytes a.names.names cut) (ap colon_at (past_front is_blank b.gap (58 ∷ b.more) b.blank)) in
    record {
      more = b.more;
      reads = ap (left_of None) (a.is ∙ ap (λ (t : List ℕ). a.gap ++ (a.uuid ++ t)) b.is)
          ∙ left_of-turn None (a.gap ++ (a.uuid ++ tail)) (None, Some id, b.more) (turn_element (a.gap ++ (a.uuid ++ tail)) (Some id, b.more) (omega (arith, long, ap length left)) (ap element_at left ∙ found));
      spaced = b.spaced;
    }

-- ---- all intervals

goes_on : (id : ℕ) (b : ℕ) (next : Option ℕ) (gap more tail : List ℕ) → IsGap gap → is_blank b ≡ false → tail ≡ gap ++ b ∷ more → separator_at id (b ∷ more) ≡ Ok (next, more) → separator_at id (skip_while is_blank tail) ≡ Ok (next, more)
goes_on id b next gap more tail blank apart is sep = ap (λ (t : List ℕ). separator_at id (skip_while is_blank t)) is ∙ ap (separator_at id) (past_front is_blank gap (b ∷ more) blank ∙ past_cut is_blank (b ∷ more) apart) ∙ sep

reads_turn : (s : Span) (ss : List Span) (text : List ℕ) (v : ShownInterval s (tokens_behind s.source ss) text) (next : Option ℕ) (more : List ℕ) → separator_at s.source (skip_while is_blank v.tail) ≡ Ok (next, more) → left_of (Some s.source) text ≡ with_front (s ∷ []) (left_of next more)
reads_turn s ss text v next more sep =
    let read = interval_reads v.i s.source s v.tail v.says (follows_tokens s.source ss v.tail v.spaced) in
    ap (left_of (Some s.source)) v.is
    ∙ left_of-turn (Some s.source) (interval_text v.i ++ v.tail) (Some s, next, more) (turn_interval s.source (interval_text v.i ++ v.tail) (skip_while is_blank v.tail) s (next, more) read sep)

reads_next : (s t : Span) (ts : List Span) (text : List ℕ) (v : ShownInterval s (tokens_behind s.source (t ∷ ts)) text) → IsSource t.source → ((more : List ℕ) → IsSpaced (numbers_then t.lo t.hi (tokens_behind t.source ts)) more → left_of (Some t.source) more ≡ Ok (t ∷ ts)) → left_of (Some s.source) text ≡ Ok (s ∷ t ∷ ts)
unfolding separator_at
reads_next s t ts text v fits known =
    let rest = numbers_then t.lo t.hi (tokens_behind t.source ts) in
    elim (eqb s.source t.source) as (λ b. eqb s.source t.source ≡ b → IsSpaced (cond b (token 58 ∷ rest) (token 44 ∷ source_text t.source ∷ token 58 ∷ rest)) v.tail → left_of (Some s.source) text ≡ Ok (s ∷ t ∷ ts)) [
      | true ↦ λ same spaced.
          let a = shown_byte 58 rest v.tail refl spaced in
          reads_turn s (t ∷ ts) text v (Some s.source) a.more (goes_on s.source 58 (Some s.source) a.gap a.more v.tail a.blank refl a.is refl)
          ∙ ap (λ (id : ℕ). with_front (s ∷ []) (left_of (Some id) a.more)) (eqb-true s.source t.source same)
          ∙ ap (with_front (s ∷ [])) (known a.more a.spaced)
      | false ↦ λ other spaced.
          let a = shown_byte 44 (source_text t.source ∷ token 58 ∷ rest) v.tail refl spaced in
          let e = begun_element t.source rest a.more fits a.spaced in
          reads_turn s (t ∷ ts) text v None a.more (goes_on s.source 44 None a.gap a.more v.tail a.blank refl a.is refl)
          ∙ ap (with_front (s ∷ [])) (e.reads ∙ ap (with_front []) (known e.more e.spaced))
    ] refl v.spaced

reads_spans : (s : Span) (ss : List Span) (text : List ℕ) → IsUsableSpan s → AreUsable ss → IsSpaced (numbers_then s.lo s.hi (tokens_behind s.source ss)) text → left_of (Some s.source) text ≡ Ok (s ∷ ss)
reads_spans s [] text fits all spaced =
    let v = shown_interval s [] text fits spaced in
    reads_turn s [] text v None [] ((ends_last v.tail v.spaced).sep s.source)
    ∙ ap (with_front (s ∷ [])) (left_of-end None [] (turn_end [] refl))
reads_spans s (t ∷ ts) text fits all spaced =
    reads_next s t ts text (shown_interval s (tokens_behind s.source (t ∷ ts)) text fits spaced) all.0.source (λ more h. reads_spans t ts more all.0 all.1 h)

spans_read : (spans : List Span) → AreUsable spans → (text : List ℕ) → IsSpaced (spans_tokens spans) text → left_of None text ≡ Ok spans
spans_read [] all text s = left_of-end None text (turn_end text (past_blank text s))
  where
    past_blank : (text : List ℕ) → IsGap text → skip_while is_blank text ≡ []
    past_blank text g = ap (skip_while is_blank) (sym (append-nil text)) ∙ past_front is_blank text [] g
spans_read (s ∷ ss) all text spaced =
    let e = begun_element s.source (numbers_then s.lo s.hi (tokens_behind s.source ss)) text all.0.source spaced in
    e.reads ∙ ap (with_front []) (reads_spans s ss e.more all.0 all.1 e.spaced)

pub spans_shown : (spans : List Span) → AreUsable spans → (text : List ℕ) → IsSpaced (spans_tokens spans) text → ParsesAs text spans
unfolding left_of spans_in
spans_shown spans all text s = read_spells text spans (spans_read spans all text s)

-- ---- the canonical text is its tokens and nothing else

pub spaced_joined : (ts : Tokens) → IsSpaced ts (text_of_tokens ts)
spaced_joined [] = refl
spaced_joined (t ∷ ts) = ([], t, text_of_tokens ts, refl, refl, refl, spaced_joined ts)

pub joined_gtid : (g : Gtid) → text_of_tokens (gtid_tokens g) ≡ gtid_text g
joined_gtid g = ap (λ (t : List ℕ). source_text g.source ++ 58 ∷ t) (append-nil (decimal g.number))

joined_numbers : (lo hi : ℕ) (ts : Tokens) → text_of_tokens (numbers_then lo hi ts) ≡ numbers_text lo hi ++ text_of_tokens ts
joined_numbers lo hi ts = elim (eqb lo hi) as (λ b. text_of_tokens (cond b (decimal lo ∷ ts) (decimal lo ∷ token 45 ∷ decimal hi ∷ ts)) ≡ cond b (decimal lo) (decimal lo ++ 45 ∷ decimal hi) ++ text_of_tokens ts) [
  | true ↦ refl
  | false ↦ sym (append_assoc (decimal lo) (45 ∷ decimal hi) (text_of_tokens ts))
]

joined_span : (s : Span) (ts : Tokens) → text_of_tokens (source_text s.source ∷ token 58 ∷ numbers_then s.lo s.hi ts) ≡ (source_text s.source ++ 58 ∷ numbers_text s.lo s.hi) ++ text_of_tokens ts
joined_span s ts = ap (λ (t : List ℕ). source_text s.source ++ 58 ∷ t) (joined_numbers s.lo s.hi ts) ∙ sym (append_assoc (source_text s.source) (58 ∷ numbers_text s.lo s.hi) (text_of_tokens ts))

joined_behind : (id : ℕ) (ss : List Span) → text_of_tokens (tokens_behind id ss) ≡ text_behind (Some id) ss
joined_behind id [] = refl
joined_behind id (s ∷ ss) =
    let rest = tokens_behind s.source ss in
    let known = joined_behind s.source ss in
    elim (eqb id s.source) as (λ b. text_of_tokens (cond b (token 58 ∷ numbers_then s.lo s.hi rest) (token 44 ∷ source_text s.source ∷ token 58 ∷ numbers_then s.lo s.hi rest)) ≡ cond b (58 ∷ numbers_text s.lo s.hi) (44 ∷ (source_text s.source ++ 58 ∷ numbers_text s.lo s.hi)) ++ text_behind (Some s.source) ss) [
      | true ↦ ap (λ (t : List ℕ). 58 ∷ t) (joined_numbers s.lo s.hi rest ∙ ap (λ (t : List ℕ). numbers_text s.lo s.hi ++ t) known)
      | false ↦ ap (λ (t : List ℕ). 44 ∷ t) (joined_span s rest ∙ ap (λ (t : List ℕ). (source_text s.source ++ 58 ∷ numbers_text s.lo s.hi) ++ t) known)
    ]

pub joined_spans : (spans : List Span) → text_of_tokens (spans_tokens spans) ≡ spans_text spans
joined_spans [] = refl
joined_spans (s ∷ ss) = joined_span s (tokens_behind s.source ss) ∙ ap (λ (t : List ℕ). (source_text s.source ++ 58 ∷ numbers_text s.lo s.hi) ++ t) (joined_behind s.source ss)
