-- Sources, GTIDs and sets as words: reading is sound and complete.
use Rattle.std.proofs.Common.{◌≡◌, ℕ, zero, suc, ◌+◌, ◌*◌, ◌^◌, ◌<◌, Bool, true, false, cond, eqb, not, List, [], ◌∷◌, ◌++◌, length, get_or, Option, Some, None, Result, Ok, Err, refl, ap, subst, arith, inl, inr, ◌≤◌, leb, sym, ◌∙◌}
use Rattle.std.specs.Prelude.{◌&&◌, ◌||◌, decimal, option_map, codes}
use Rattle.std.specs.List.{list_all}
use Rattle.std.specs.Char.{is_ascii_digit}
use Rattle.std.specs.Int.{w128, from_be_bytes}
use Rattle.std.proofs.lemmas.Bool.{and_parts, le-leb, false_from_ne_true}
use Rattle.std.proofs.lemmas.Bool.Decides.{nat_tests}
use Rattle.std.proofs.lemmas.Fmt.{digits_decimal}
use Rattle.uuid.specs.Text.{by_index, is_hex_digit, value_of, byte_of_digits, digits_of, parsed_hyphenated, parsed_simple, has_hyphens}
use Rattle.gtid_text.specs.Counting.{are_tidy_behind}
use Rattle.gtid_text.specs.declared.Gtid.{Gtid}
use Rattle.gtid_text.specs.declared.scan.ScanFault.{ScanFault}
use Rattle.gtid_text.specs.Scan.{is_uuid_byte, source_of}
use Rattle.gtid_text.specs.Reading.{gtid_in, spans_in, turn_at, element_at}
use Rattle.gtid_text.specs.Grammar.{ParsesAsGtid, Number, Interval, Element, IsNumber, IsUpper, IsInterval, AreIntervals, IsElement, AreElements, ParsesAs}
use Rattle.gtid_text.specs.Written.{IsSource, IsUsable, IsSpaced, gtid_tokens, IsNumbered, IsUsableSpan, AreUsable, spans_tokens}
use Rattle.gtid_text.specs.Canonical.{source_text, gtid_text, numbers_text, span_text, next_text, text_behind, spans_text}
use Rattle.gtid_text.proofs.RoundTrip.{source_bytes}
use Rattle.gtid_text.proofs.Shown.{gtid_shown, joined_gtid, spaced_joined, spans_shown, joined_spans}
use Rattle.gtid_text.proofs.Single.{gtid_reads_back, gtid_spelled}
use Rattle.gtid_set.proofs.SpanLemmas.{all_weaker, before_trans}
use Rattle.journal_words.specs.Gtids.{is_ascii_byte, same_or_none, if_ascii, gtid_of_word, some_tidy, tidy_or_none, spans_of_word, set_with, set_of_word}
use Rattle.journal_words.proofs.SpanLaws.{with_none}
use Rattle.row_images.proofs.ValueLaws.{where_same-again, where_same-found}
use Rattle.std.proofs.lemmas.Option.{same_Some}
use Rattle.gtid_text.proofs.Tokens.{own}
use Rattle.gtid_text.proofs.Turns.{chosen}
use Rattle.gtid_set.proofs.RoundTrip.{numbered, AreNumbered, member_numbered}
use Rattle.std.specs.FinSet as set
use Rattle.std.specs.Str.{bytes_eq}
use Rattle.std.proofs.lemmas.Slice.Eq.{bytes_eq-Decides}
use Rattle.lemmas.proofs.Options.{map_some}
use Rattle.lemmas.proofs.Lists.{all_true_append as joins}
use Rattle.gtid_text.specs.declared.Span.{Span}
use Rattle.gtid_text.proofs.Found.{read_spells}
use Rattle.gtid_text.proofs.Spelled.{spells_read}
use Rattle.gtid_set.specs.Sets.{Gtids}
use Rattle.gtid_set.specs.Laws.{HaveNumbers}
use Rattle.gtid_set.proofs.SetLemmas.{contains-set_of}
use Rattle.gtid_set.specs.Spans.{set_of, is_before, is_merged}
use Rattle.gtid_set.specs.Runs.{runs}
use Rattle.gtid_set.proofs.RunLemmas.{runs_merged}
use Rattle.row_images.specs.Values.{where_same}
use Rattle.txn_journal.specs.WrittenSets.{spans_word, set_text, IsWrittenSet}
use Rattle.row_images.proofs.Counts.{lacks}

-- ---- a source is a number of 128 bits

hex_small : (c : ℕ) → is_hex_digit c ≡ true → value_of c < 16
hex_small c e = grind (arith, nat_tests)

digit_small : (hex : List ℕ) (k : ℕ) → list_all is_hex_digit hex ≡ true → value_of (get_or hex k 0) < 16
digit_small [] k e = omega arith
digit_small (c ∷ cs) zero e = hex_small c (and_parts (is_hex_digit c) (list_all is_hex_digit cs) e).0
digit_small (c ∷ cs) (suc k) e = digit_small cs k (and_parts (is_hex_digit c) (list_all is_hex_digit cs) e).1

byte_small : (hex : List ℕ) (j : ℕ) → list_all is_hex_digit hex ≡ true → byte_of_digits hex j < 256
byte_small hex j e = sum (value_of (get_or hex (2 * j) 0)) (value_of (get_or hex (2 * j + 1) 0)) (digit_small hex (2 * j) e) (digit_small hex (2 * j + 1) e)
  where
    sum : (x y : ℕ) → x < 16 → y < 16 → x * 16 + y < 256
    sum x y p q = omega arith

sum_small : (a b c d e f g h i j k l m n o p : ℕ) → a < 256 → b < 256 → c < 256 → d < 256 → e < 256 → f < 256 → g < 256 → h < 256 → i < 256 → j < 256 → k < 256 → l < 256 → m < 256 → n < 256 → o < 256 → p < 256
    → from_be_bytes w128 (a ∷ b ∷ c ∷ d ∷ e ∷ f ∷ g ∷ h ∷ i ∷ j ∷ k ∷ l ∷ m ∷ n ∷ o ∷ p ∷ []) < 2 ^ 128
sum_small a b c d e f g h i j k l m n o p xa xb xc xd xe xf xg xh xi xj xk xl xm xn xo xp = omega arith

bytes_small : (f : ℕ → ℕ) → ((k : ℕ) → f k < 256) → from_be_bytes w128 (by_index 16 f) < 2 ^ 128
unfolding by_index
bytes_small f h = sum_small (f 0) (f 1) (f 2) (f 3) (f 4) (f 5) (f 6) (f 7) (f 8) (f 9) (f 10) (f 11) (f 12) (f 13) (f 14) (f 15) (h 0) (h 1) (h 2) (h 3) (h 4) (h 5) (h 6) (h 7) (h 8) (h 9) (h 10) (h 11) (h 12) (h 13) (h 14) (h 15)

abbrev number : List ℕ → ℕ
number bytes = from_be_bytes w128 bytes

simple_small : (hex : List ℕ) (id : ℕ) → option_map number (parsed_simple hex) ≡ Some id → id < 2 ^ 128
simple_small hex id e =
    elim ((eqb (length hex) 32) && list_all is_hex_digit hex) as (λ v. ((eqb (length hex) 32) && list_all is_hex_digit hex) ≡ v → option_map number (cond v (Some (by_index 16 (byte_of_digits hex))) None) ≡ Some id → id < 2 ^ 128) [
      | true ↦ λ p q. subst (λ (n : ℕ). n < 2 ^ 128) (same_Some _ id q) (bytes_small (byte_of_digits hex) (λ k. byte_small hex k (and_parts (eqb (length hex) 32) (list_all is_hex_digit hex) p).1))
      | false ↦ λ p q. absurd cc
    ] refl e

hyphens_small : (s : List ℕ) (id : ℕ) → option_map number (parsed_hyphenated s) ≡ Some id → id < 2 ^ 128
hyphens_small s id e =
    elim ((eqb (length s) 36) && has_hyphens s) as (λ v. option_map number (cond v (parsed_simple (digits_of s)) None) ≡ Some id → id < 2 ^ 128) [
      | true ↦ λ q. simple_small (digits_of s) id q
      | false ↦ λ q. absurd cc
    ] e

pub source_small : (text : List ℕ) (id : ℕ) → source_of text ≡ Some id → IsSource id
source_small text id e =
    elim (chosen (eqb (length text) 36) (option_map number (parsed_hyphenated text)) None (Some id) e) [
      | inl p ↦ hyphens_small text id p.1
      | inr p ↦ absurd cc
    ]

-- ---- the bytes of GTIDs and sets

-- hexadecimal digits, hyphens, colons and commas
abbrev pub is_set_byte : ℕ → Bool
is_set_byte b = is_uuid_byte b || (eqb b 58 || eqb b 44)

uuid_set : (b : ℕ) → is_uuid_byte b ≡ true → is_set_byte b ≡ true
uuid_set b e = rw e refl

digit_set : (b : ℕ) → is_ascii_digit b ≡ true → is_set_byte b ≡ true
digit_set b e = grind (arith, nat_tests)

pub set_ascii : (b : ℕ) → is_set_byte b ≡ true → is_ascii_byte b ≡ true
set_ascii b e = grind (arith, nat_tests)

pub set_no_blank : (b : ℕ) → is_set_byte b ≡ true → not (eqb b 32) ≡ true
set_no_blank b e = grind (arith, nat_tests)

pub set_no_feed : (b : ℕ) → is_set_byte b ≡ true → not (eqb b 10) ≡ true
set_no_feed b e = grind (arith, nat_tests)

pub source_set : (id : ℕ) → list_all is_set_byte (source_text id) ≡ true
source_set id = all_weaker is_uuid_byte is_set_byte (source_text id) uuid_set (source_bytes id)

pub decimal_set : (n : ℕ) → n < 2 ^ 64 → list_all is_set_byte (decimal n) ≡ true
decimal_set n lt = all_weaker is_ascii_digit is_set_byte (decimal n) digit_set (digits_decimal own n lt)

pub gtid_set_bytes : (g : Gtid) → IsUsable g → list_all is_set_byte (gtid_text g) ≡ true
gtid_set_bytes g u = joins is_set_byte (source_text g.source) (58 ∷ decimal g.number) (source_set g.source) (decimal_set g.number (omega (arith, u.number.1)))

-- ---- GTIDs

pub same_found : {A : Type 0} (text : A → List ℕ) (w : List ℕ) (r : Result A ScanFault) (x : A) → same_or_none text w r ≡ Some x → (w ≡ text x) × (r ≡ Ok x)
same_found text w (Ok y) x e = let f = where_same-found text w y x e in (f.0, ap Ok f.1)
same_found text w (Err r) x e = absurd cc

pub ascii_found : {A : Type 0} (w : List ℕ) (o : Option A) (x : A) → if_ascii w o ≡ Some x → o ≡ Some x
ascii_found w o x e = elim (chosen (list_all is_ascii_byte w) o None (Some x) e) [ inl p ↦ p.1 | inr p ↦ absurd cc ]

pub gtid_found : (w : List ℕ) (g : Gtid) → gtid_of_word w ≡ Some g → (w ≡ gtid_text g) × IsUsable g
gtid_found w g e =
    let f = same_found gtid_text w (gtid_in w) g (ascii_found w (same_or_none gtid_text w (gtid_in w)) g e) in
    let s : ParsesAsGtid w g = gtid_spelled w g f.1 in
    (f.0, record { source = source_small s.uuid g.source s.is_uuid.names; number = numbered s.number.digits g.number s.is_number.parses })

pub gtid_again : (g : Gtid) → IsUsable g → gtid_of_word (gtid_text g) ≡ Some g
gtid_again g u =
    let spaced : IsSpaced (gtid_tokens g) (gtid_text g) = subst (IsSpaced (gtid_tokens g)) (joined_gtid g) (spaced_joined (gtid_tokens g)) in
    let read : gtid_in (gtid_text g) ≡ Ok g = gtid_reads_back (gtid_text g) g (gtid_shown g u (gtid_text g) spaced) in
    let ascii : list_all is_ascii_byte (gtid_text g) ≡ true = all_weaker is_set_byte is_ascii_byte (gtid_text g) set_ascii (gtid_set_bytes g u) in
    rw (ascii, read) (where_same-again gtid_text g)

-- ---- what a text parses as is usable

usable_append : (xs ys : List Span) → AreUsable xs → AreUsable ys → AreUsable (xs ++ ys)
usable_append [] ys a b = b
usable_append (x ∷ xs) ys a b = (a.0, usable_append xs ys a.1 b)

number_is : (n : Number) (value : ℕ) → IsNumber n value → IsNumbered value
number_is n value h = numbered n.digits value h.parses

upper_is : (u : Option (List ℕ × Number)) (s : Span) → IsUpper u s → IsNumbered s.lo → IsNumbered s.hi × (s.lo ≤ s.hi)
upper_is None s h low = (subst IsNumbered (sym h) low, omega (arith, h))
upper_is (Some u) s h low = (number_is u.1 s.hi h.1, h.2)

interval_is : (i : Interval) (id : ℕ) (s : Span) → IsSource id → IsInterval i id s → IsUsableSpan s
interval_is i id s fits h =
    let low = number_is i.lo s.lo h.lo in
    let up = upper_is i.upper s h.upper low in
    record { source = subst IsSource (sym h.source) fits; low = low; high = up.0; ordered = up.1 }

intervals_are : (id : ℕ) (ps : List (List ℕ × Interval)) (ss : List Span) → IsSource id → AreIntervals id ps ss → AreUsable ss
intervals_are id [] [] fits h = tt
intervals_are id [] (s ∷ ss) fits h = absurd h
intervals_are id (p ∷ ps) [] fits h = tt
intervals_are id (p ∷ ps) (s ∷ ss) fits h = (interval_is p.1 id s fits h.1, intervals_are id ps ss fits h.2)

element_is : (e : Element) (ss : List Span) → IsElement e ss → AreUsable ss
element_is (None, gap) ss h = subst AreUsable (sym h.1) tt
element_is (Some n, gap) ss h = intervals_are h.1.id (n.first ∷ n.more) ss (source_small n.uuid h.1.id h.1.uuid) h.1.intervals

elements_are : (es : List Element) (ss : List Span) → AreElements es ss → AreUsable ss
elements_are [] ss h = subst AreUsable (sym h) tt
elements_are (e ∷ es) ss h = subst AreUsable (sym h.2) (usable_append h.0 h.1 (element_is e h.0 h.3) (elements_are es h.1 h.4))

-- ---- tidy intervals are a merged list

all_behind : (s : Span) (ss : List Span) → are_tidy_behind (Some s) ss ≡ true → AreUsable ss → list_all (is_before s) ss ≡ true
all_behind s [] e u = refl
all_behind s (t ∷ ts) e u =
    let p = and_parts (is_before s t) (are_tidy_behind (Some t) ts) e in
    rw p.0 (all_weaker (is_before t) (is_before s) ts (λ v c. before_trans s t v p.0 (le-leb _ _ u.0.ordered) c) (all_behind t ts p.1 u.1))

tidy_merged : (s : Span) (ss : List Span) → are_tidy_behind (Some s) ss ≡ true → AreUsable (s ∷ ss) → is_merged (s ∷ ss) ≡ true
tidy_merged s [] e u = rw (le-leb _ _ u.0.ordered) refl
tidy_merged s (t ∷ ts) e u =
    let p = and_parts (is_before s t) (are_tidy_behind (Some t) ts) e in
    rw (le-leb _ _ u.0.ordered, all_behind s (t ∷ ts) e u.1) (tidy_merged t ts p.1 u.1)

merged_tidy : (s : Span) (ss : List Span) → is_merged (s ∷ ss) ≡ true → are_tidy_behind (Some s) ss ≡ true
merged_tidy s [] e = refl
merged_tidy s (t ∷ ts) e =
    let p = and_parts (leb s.lo s.hi) (list_all (is_before s) (t ∷ ts) && is_merged (t ∷ ts)) e in
    let q = and_parts (list_all (is_before s) (t ∷ ts)) (is_merged (t ∷ ts)) p.1 in
    rw (and_parts (is_before s t) (list_all (is_before s) ts) q.0).0 (merged_tidy t ts q.1)

-- ---- the bytes of the text

numbers_set : (lo hi : ℕ) → lo < 2 ^ 64 → hi < 2 ^ 64 → list_all is_set_byte (numbers_text lo hi) ≡ true
numbers_set lo hi a b = elim (eqb lo hi) as (λ v. list_all is_set_byte (cond v (decimal lo) (decimal lo ++ 45 ∷ decimal hi)) ≡ true) [
  | true ↦ decimal_set lo a
  | false ↦ joins is_set_byte (decimal lo) (45 ∷ decimal hi) (decimal_set lo a) (decimal_set hi b)
]

span_set : (s : Span) → IsUsableSpan s → list_all is_set_byte (span_text s) ≡ true
span_set s u = joins is_set_byte (source_text s.source) (58 ∷ numbers_text s.lo s.hi) (source_set s.source) (numbers_set s.lo s.hi (omega (arith, u.low.1)) (omega (arith, u.high.1)))

next_set : (before : Option ℕ) (s : Span) → IsUsableSpan s → list_all is_set_byte (next_text before s) ≡ true
next_set None s u = span_set s u
next_set (Some id) s u = elim (eqb id s.source) as (λ v. list_all is_set_byte (cond v (58 ∷ numbers_text s.lo s.hi) (44 ∷ span_text s)) ≡ true) [
  | true ↦ numbers_set s.lo s.hi (omega (arith, u.low.1)) (omega (arith, u.high.1))
  | false ↦ span_set s u
]

behind_set : (before : Option ℕ) (ss : List Span) → AreUsable ss → list_all is_set_byte (text_behind before ss) ≡ true
behind_set before [] u = refl
behind_set before (s ∷ ss) u = joins is_set_byte (next_text before s) (text_behind (Some s.source) ss) (next_set before s u.0) (behind_set (Some s.source) ss u.1)

-- ---- the intervals of a word

pub record SpansFound (w : List ℕ) (ss : List Span) : Type 0 where
  pub text : w ≡ spans_word ss
  pub merged : is_merged ss ≡ true
  pub usable : AreUsable ss

tidy_found : (w : List ℕ) (us ss : List Span) → spans_in w ≡ Ok us → some_tidy w us ≡ Some ss → SpansFound w ss
tidy_found w [] ss read e = absurd cc
tidy_found w (u ∷ us) ss read e =
    elim (chosen (are_tidy_behind None (u ∷ us)) (where_same spans_text w (u ∷ us)) None (Some ss) e) [
      | inl p ↦
          let f = where_same-found spans_text w (u ∷ us) ss p.1 in
          let spelt : ParsesAs w (u ∷ us) = read_spells w (u ∷ us) read in
          let usable = elements_are spelt.elements (u ∷ us) spelt.says in
          subst (SpansFound w) f.1 (record { text = f.0 ∙ ap spans_text (sym f.1); merged = tidy_merged u us p.0 usable; usable = usable })
      | inr p ↦ absurd cc
    ]

read_tidy : (w : List ℕ) (r : Result (List Span) ScanFault) (ss : List Span) → spans_in w ≡ r → tidy_or_none w r ≡ Some ss → SpansFound w ss
read_tidy w (Ok us) ss read e = tidy_found w us ss read e
read_tidy w (Err x) ss read e = absurd cc

pub spans_found : (w : List ℕ) (ss : List Span) → spans_of_word w ≡ Some ss → SpansFound w ss
spans_found w ss e =
    elim (chosen (bytes_eq w (codes "-")) (Some []) (if_ascii w (tidy_or_none w (spans_in w))) (Some ss) e) [
      | inl p ↦ subst (SpansFound w) (same_Some [] ss p.1) (record { text = (bytes_eq-Decides w (codes "-")).0 p.0; merged = refl; usable = tt })
      | inr p ↦ read_tidy w (spans_in w) ss refl (ascii_found w (tidy_or_none w (spans_in w)) ss p.1)
    ]

pub word_merged : (w : List ℕ) (ss : List Span) → spans_of_word w ≡ Some ss → is_merged ss ≡ true
word_merged w ss e = (spans_found w ss e).merged

dash_fails : (us : List Span) → spans_in (codes "-") ≡ Ok us → ⊥
unfolding spans_in turn_at element_at
dash_fails us e = cc

pub spans_again : (ss : List Span) → is_merged ss ≡ true → AreUsable ss → spans_of_word (spans_word ss) ≡ Some ss
spans_again [] m u = refl
spans_again (s ∷ ss) m u =
    let w = spans_text (s ∷ ss) in
    let spaced : IsSpaced (spans_tokens (s ∷ ss)) w = subst (IsSpaced (spans_tokens (s ∷ ss))) (joined_spans (s ∷ ss)) (spaced_joined (spans_tokens (s ∷ ss))) in
    let read : spans_in w ≡ Ok (s ∷ ss) = spells_read w (s ∷ ss) (spans_shown (s ∷ ss) u w spaced) in
    let bytes : list_all is_set_byte w ≡ true = behind_set None (s ∷ ss) u in
    let ascii : list_all is_ascii_byte w ≡ true = all_weaker is_set_byte is_ascii_byte w set_ascii bytes in
    let tidy : are_tidy_behind (Some s) ss ≡ true = merged_tidy s ss m in
    let other : bytes_eq w (codes "-") ≡ false = no_dash w (s ∷ ss) read in
    rw (other, ascii, read, tidy) (where_same-again spans_text (s ∷ ss))
  where
    no_dash : (w : List ℕ) (us : List Span) → spans_in w ≡ Ok us → bytes_eq w (codes "-") ≡ false
    no_dash w us read = false_from_ne_true (bytes_eq w (codes "-")) (λ e. let k = ap spans_in (sym ((bytes_eq-Decides w (codes "-")).0 e)) ∙ read in dash_fails us k)

-- ---- sets

written : (ss : List Span) → is_merged ss ≡ true → AreUsable ss → IsWrittenSet (set_of ss)
written ss m u =
    let r : ss ≡ runs (set_of ss) = sym (runs_merged ss m) in
    record { merged = subst (λ (x : List Span). is_merged x ≡ true) r m; usable = subst AreUsable r u; whole = ap set_of (sym r) }

pub set_found : (w : List ℕ) (s : Gtids) → set_of_word w ≡ Some s → (w ≡ set_text s) × IsWrittenSet s
set_found w s e =
    let m = map_some (set_with set.empty) (spans_of_word w) s e in
    let f = spans_found w m.0 m.1 in
    let same : set_of m.0 ≡ s = sym (with_none m.0) ∙ m.2 in
    (f.text ∙ ap spans_word (sym (runs_merged m.0 f.merged) ∙ ap runs same), subst IsWrittenSet same (written m.0 f.merged f.usable))

pub set_again : (s : Gtids) → IsWrittenSet s → set_of_word (set_text s) ≡ Some s
set_again s h = ap (option_map (set_with set.empty)) (spans_again (runs s) h.merged h.usable) ∙ ap Some (with_none (runs s) ∙ h.whole)

-- a set's word has no blank and no line feed
pub spans_word_lacks : (c : ℕ) (ss : List Span) → ((b : ℕ) → is_set_byte b ≡ true → not (eqb b c) ≡ true) → not (eqb 45 c) ≡ true → AreUsable ss → lacks c (spans_word ss) ≡ true
spans_word_lacks c [] h dash u = rw dash refl
spans_word_lacks c (s ∷ ss) h dash u = all_weaker is_set_byte (λ b. not (eqb b c)) (spans_text (s ∷ ss)) h (behind_set None (s ∷ ss) u)

pub set_no_feeds : (s : Gtids) → IsWrittenSet s → lacks 10 (set_text s) ≡ true
set_no_feeds s h = spans_word_lacks 10 (runs s) set_no_feed refl h.usable

-- a set that is written has numbers in range
numbered_spans : (ss : List Span) → AreUsable ss → AreNumbered ss
numbered_spans [] u = tt
numbered_spans (s ∷ ss) u = (u.0.low, u.0.high, numbered_spans ss u.1)

pub written_numbers : (s : Gtids) → IsWrittenSet s → HaveNumbers s
written_numbers s w g e = member_numbered (runs s) g (numbered_spans (runs s) w.usable) (sym (contains-set_of (runs s) g) ∙ ap (λ (t : Gtids). set.contains t g) w.whole ∙ e)

-- the empty set
pub none_written : IsWrittenSet set.empty
none_written = written [] refl tt
