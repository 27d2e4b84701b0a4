-- Words read in one pass.
use Rattle.std.proofs.Common.{◌≡◌, ℕ, ◌+◌, ◌-◌, ◌*◌, ◌/◌, ◌%◌, ◌<◌, ◌≤◌, true, false, cond, eqb, List, [], ◌∷◌, ◌++◌, length, length-append, Option, Some, None, Result, Ok, Err, refl, sym, ap, subst, ◌∙◌, append_assoc, arith, inl, inr}
use Rattle.std.specs.Prelude.{option_map, decimal, codes}
use Rattle.std.specs.List.{list_all}
use Rattle.std.specs.Char.{is_ascii_digit}
use Rattle.std.specs.Str.{bytes_eq}
use Rattle.std.specs.FinSet as set
use Rattle.std.proofs.lemmas.Bool.{and_from, false_from_ne_true}
use Rattle.std.proofs.lemmas.Bool.Decides.{nat_tests}
use Rattle.std.proofs.lemmas.Fmt.{decimal_digit, decimal_step, digits_decimal}
use Rattle.std.proofs.lemmas.Nat.{div-mul-add, mod-mul-add}
use Rattle.std.proofs.lemmas.Slice.Eq.{bytes_eq-Decides}
use Rattle.lemmas.proofs.Lists.{all_true_append as joins}
use Rattle.gtid_text.specs.declared.Span.{Span}
use Rattle.gtid_text.specs.declared.scan.ScanFault.{ScanFault}
use Rattle.gtid_text.specs.Scan.{is_uuid_byte}
use Rattle.gtid_text.specs.Canonical.{source_text, numbers_text, span_text, next_text, text_behind, spans_text}
use Rattle.gtid_text.specs.Counting.{is_behind, are_tidy_behind}
use Rattle.gtid_text.specs.Reading.{source_in, spans_in, turn_at, element_at}
use Rattle.gtid_text.specs.Written.{IsSource, IsNumbered, IsUsableSpan, AreUsable, IsSpaced, spans_tokens}
use Rattle.gtid_text.proofs.RoundTrip.{source_bytes}
use Rattle.gtid_text.proofs.Shown.{spans_shown, spaced_joined, joined_spans}
use Rattle.gtid_text.proofs.Spelled.{spells_read}
use Rattle.gtid_text.proofs.Tokens.{own}
use Rattle.gtid_text.proofs.Turns.{chosen}
use Rattle.gtid_set.specs.Sets.{Gtids, interval}
use Rattle.gtid_set.proofs.SpanLemmas.{all_weaker}
use Rattle.journal_words.specs.Gtids.{is_ascii_byte, same_or_none, if_ascii, source_of_word, spans_of_word, set_with, set_of_word}
use Rattle.journal_words.specs.WordPrefix.{IsNumberAt, AreNumbersAt, IsSpanAt, Promises}
use Rattle.row_images.proofs.ValueLaws.{where_same-again, where_same-found}

-- ---- numbers

-- the first digit
pub first_digit : (d : ℕ) (text rest : List ℕ) → 49 ≤ d → d ≤ 57 → text ≡ d ∷ rest → IsNumberAt text (d - 48) rest
first_digit d text rest low high e =
    let one : decimal (d - 48) ≡ (48 + (d - 48)) ∷ [] = decimal_digit (d - 48) (omega (arith, low, high)) in
    let same : 48 + (d - 48) ≡ d = omega (arith, low) in
    record { text_is = e ∙ ap (λ (l : List ℕ). l ++ rest) (sym (one ∙ ap (λ (b : ℕ). b ∷ []) same)); numbered = (omega (arith, low), omega (arith, high)) }

-- one digit more
pub next_digit : (n d : ℕ) (text rest after : List ℕ) → IsNumberAt text n rest → n ≤ 922337203685477579 → 48 ≤ d → d ≤ 57 → rest ≡ d ∷ after → IsNumberAt text (n * 10 + (d - 48)) after
next_digit n d text rest after h few low high e =
    let m : ℕ = n * 10 + (d - 48) in
    let digit : d - 48 < 10 = omega (arith, low, high) in
    let step : decimal m ≡ decimal (m / 10) ++ ((48 + m % 10) ∷ []) = decimal_step m (omega (arith, h.numbered.0)) (omega (arith, few, digit)) in
    let front : m / 10 ≡ n = div-mul-add n 10 (d - 48) digit in
    let last : m % 10 ≡ d - 48 = mod-mul-add n 10 (d - 48) digit in
    let same : 48 + (d - 48) ≡ d = omega (arith, low) in
    let is : decimal m ≡ decimal n ++ (d ∷ []) = step ∙ ap (λ (k : ℕ). decimal k ++ ((48 + m % 10) ∷ [])) front ∙ ap (λ (b : ℕ). decimal n ++ (b ∷ [])) (ap (λ (b : ℕ). 48 + b) last ∙ same) in
    record {
      text_is = h.text_is ∙ ap (λ (l : List ℕ). decimal n ++ l) e ∙ sym (append_assoc (decimal n) (d ∷ []) after) ∙ ap (λ (l : List ℕ). l ++ after) (sym is);
      numbered = (omega (arith, h.numbered.0), omega (arith, few, digit));
    }

-- ---- intervals

ascii_found : {A : Type 0} (w : List ℕ) (o : Option A) (x : A) → if_ascii w o ≡ Some x → o ≡ Some x
ascii_found w o x e = elim (chosen (list_all is_ascii_byte w) o None (Some x) e) [ inl p ↦ p.1 | inr p ↦ absurd cc ]

same_found : (w : List ℕ) (r : Result ℕ ScanFault) (id : ℕ) → same_or_none source_text w r ≡ Some id → w ≡ source_text id
same_found w (Ok x) id e = (where_same-found source_text w x id e).0
same_found w (Err r) id e = absurd cc

pub source_found : (front : List ℕ) (id : ℕ) → Some id ≡ source_of_word front → front ≡ source_text id
source_found front id e = same_found front (source_in front) id (ascii_found front (same_or_none source_text front (source_in front)) id (sym e))

-- an interval with its source
pub first_span : (text front behind numbers rest : List ℕ) (s : Span) → front ++ behind ≡ text → front ≡ source_text s.source → behind ≡ 58 ∷ numbers → AreNumbersAt numbers s.lo s.hi rest → IsSource s.source → IsSpanAt None text s rest
first_span text front behind numbers rest s e source colon h fits = record {
  text_is = sym e ∙ ap (λ (l : List ℕ). front ++ l) (colon ∙ ap (λ (l : List ℕ). 58 ∷ l) h.text_is) ∙ ap (λ (l : List ℕ). l ++ 58 ∷ (numbers_text s.lo s.hi ++ rest)) source ∙ sym (append_assoc (source_text s.source) (58 ∷ numbers_text s.lo s.hi) rest);
  follows = refl;
  usable = record { source = fits; low = h.low; high = h.high; ordered = h.ordered };
}

next_some : (last : Span) (s : Span) → 0 < length (next_text (Some last.source) s)
next_some last s = elim (eqb last.source s.source) as (λ b. 0 < length (cond b (58 ∷ numbers_text s.lo s.hi) (44 ∷ span_text s))) [ true ↦ omega arith | false ↦ omega arith ]

pub shorter : (text after : List ℕ) (last s : Span) → IsSpanAt (Some last) text s after → length after < length text
shorter text after last s h =
    let some = next_some last s in
    let sum = ap length h.text_is ∙ length-append (next_text (Some last.source) s) after in
    omega (arith, some, sum)

-- ---- the bytes of intervals

uuid_ascii : (b : ℕ) → is_uuid_byte b ≡ true → is_ascii_byte b ≡ true
uuid_ascii b e = grind (arith, nat_tests)

digit_ascii : (b : ℕ) → is_ascii_digit b ≡ true → is_ascii_byte b ≡ true
digit_ascii b e = grind (arith, nat_tests)

decimal_ascii : (n : ℕ) → IsNumbered n → list_all is_ascii_byte (decimal n) ≡ true
decimal_ascii n h = all_weaker is_ascii_digit is_ascii_byte (decimal n) digit_ascii (digits_decimal own n (omega (arith, h.1)))

numbers_ascii : (lo hi : ℕ) → IsNumbered lo → IsNumbered hi → list_all is_ascii_byte (numbers_text lo hi) ≡ true
numbers_ascii lo hi a b = elim (eqb lo hi) as (λ v. list_all is_ascii_byte (cond v (decimal lo) (decimal lo ++ 45 ∷ decimal hi)) ≡ true) [
  | true ↦ decimal_ascii lo a
  | false ↦ joins is_ascii_byte (decimal lo) (45 ∷ decimal hi) (decimal_ascii lo a) (decimal_ascii hi b)
]

span_ascii : (s : Span) → IsUsableSpan s → list_all is_ascii_byte (span_text s) ≡ true
span_ascii s u = joins is_ascii_byte (source_text s.source) (58 ∷ numbers_text s.lo s.hi) (all_weaker is_uuid_byte is_ascii_byte (source_text s.source) uuid_ascii (source_bytes s.source)) (numbers_ascii s.lo s.hi u.low u.high)

next_ascii : (before : Option ℕ) (s : Span) → IsUsableSpan s → list_all is_ascii_byte (next_text before s) ≡ true
next_ascii None s u = span_ascii s u
next_ascii (Some id) s u = elim (eqb id s.source) as (λ v. list_all is_ascii_byte (cond v (58 ∷ numbers_text s.lo s.hi) (44 ∷ span_text s)) ≡ true) [
  | true ↦ numbers_ascii s.lo s.hi u.low u.high
  | false ↦ span_ascii s u
]

behind_ascii : (before : Option ℕ) (ss : List Span) → AreUsable ss → list_all is_ascii_byte (text_behind before ss) ≡ true
behind_ascii before [] u = refl
behind_ascii before (s ∷ ss) u = joins is_ascii_byte (next_text before s) (text_behind (Some s.source) ss) (next_ascii before s u.0) (behind_ascii (Some s.source) ss u.1)

-- ---- words

dash_fails : (us : List Span) → spans_in (codes "-") ≡ Ok us → ⊥
unfolding spans_in turn_at element_at
dash_fails us e = cc

no_dash : (w : List ℕ) (us : List Span) → spans_in w ≡ Ok us → bytes_eq w (codes "-") ≡ false
no_dash w us read = false_from_ne_true (bytes_eq w (codes "-")) (λ e. let k = ap spans_in (sym ((bytes_eq-Decides w (codes "-")).0 e)) ∙ read in dash_fails us k)

-- the text of intervals in order parses as them
read_again : (s : Span) (ss : List Span) → are_tidy_behind (Some s) ss ≡ true → AreUsable (s ∷ ss) → spans_of_word (spans_text (s ∷ ss)) ≡ Some (s ∷ ss)
read_again s ss tidy u =
    let w = spans_text (s ∷ ss) in
    let spaced : IsSpaced (spans_tokens (s ∷ ss)) w = subst (IsSpaced (spans_tokens (s ∷ ss))) (joined_spans (s ∷ ss)) (spaced_joined (spans_tokens (s ∷ ss))) in
    let read : spans_in w ≡ Ok (s ∷ ss) = spells_read w (s ∷ ss) (spans_shown (s ∷ ss) u w spaced) in
    let ascii : list_all is_ascii_byte w ≡ true = behind_ascii None (s ∷ ss) u in
    let other : bytes_eq w (codes "-") ≡ false = no_dash w (s ∷ ss) read in
    rw (other, ascii, read, tidy) (where_same-again spans_text (s ∷ ss))

-- before the first is added
pub promised_first : (word rest : List ℕ) (s : Span) → IsSpanAt None word s rest → Promises word set.empty s rest
promised_first word rest s h = λ ss a.
    let is : word ≡ spans_text (s ∷ ss) = h.text_is ∙ ap (λ (l : List ℕ). span_text s ++ l) a.text_is in
    ap (option_map (set_with set.empty)) (ap spans_of_word is ∙ read_again s ss a.tidy (h.usable, a.usable))

-- once one was added
pub promised_next : (word text after : List ℕ) (sum : Gtids) (last s : Span) → Promises word sum last text → IsSpanAt (Some last) text s after → Promises word (set.union sum (interval last.source last.lo last.hi)) s after
promised_next word text after sum last s p h = λ ss a.
    p (s ∷ ss) (record {
      text_is = h.text_is ∙ ap (λ (l : List ℕ). next_text (Some last.source) s ++ l) a.text_is;
      tidy = and_from (is_behind last s) (are_tidy_behind (Some s) ss) h.follows a.tidy;
      usable = (h.usable, a.usable);
    })

-- once all were
pub promised_last : (word text : List ℕ) (sum : Gtids) (last : Span) → Promises word sum last text → text ≡ [] → set_of_word word ≡ Some (set.union sum (interval last.source last.lo last.hi))
promised_last word text sum last p e = p [] (record { text_is = e; tidy = refl; usable = tt })
