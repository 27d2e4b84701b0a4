-- A value is printed in one way.
use Rattle.std.proofs.Common.{◌≡◌, ℕ, ◌+◌, ◌-◌, ◌^◌, ◌<◌, ◌≤◌, Bool, true, false, cond, eqb, List, [], ◌∷◌, ◌++◌, Option, Some, None, refl, sym, ap, ◌∙◌, subst, arith, inl, inr, ℤ, pos, negsuc}
use Rattle.std.specs.Prelude.{not, IfSome, option_map, nat_lt, nat_le, ◌==◌, ◌&&◌, codes, decimal}
use Rattle.std.proofs.lemmas.Bool.Decides.{nat_tests}
use Rattle.std.proofs.lemmas.Bool.{eqb-true, and_parts}
use Rattle.std.proofs.lemmas.Slice.Eq.{bytes_eq-Decides}
use Rattle.std.specs.Str.{bytes_eq}
use Rattle.std.proofs.lemmas.Option.{same_Some}
use Rattle.std.specs.List.{list_all}
use Rattle.lemmas.proofs.Options.{map_some as mapped}
use Rattle.lemmas.proofs.Numbers.{below_test, lt_of_test, lt_false, ge_of_test}
use Rattle.gtid_text.proofs.Turns.{chosen}
use Rattle.row_images.specs.Words.{count_of}
use Rattle.row_images.proofs.Counts.{count_found, count_again, decimal_lacks, lacks-parts}
use Rattle.row_images.specs.declared.value.Value.{Value}
use Rattle.row_images.specs.declared.value.Value.TheVariants.{Null, Int, Bytes}
use Rattle.binlog_text.specs.Tokens.{after_prefix, cut_at, nothing_in, lacks}
use Rattle.binlog_text.specs.Quoted.{unquote}
use Rattle.binlog_text.specs.Values.{range_of, half_of, negative_text, signed_shown, unsigned_shown, number_shown, is_seconds, is_decimal, is_bit, int_shown, bytes_shown, shown_value, readings_at, agree, negative, large, below, signed_value, unsigned_value, unsigned_at, large_shown, bits_at, value_of_type, or_null, value_at}
use Rattle.binlog_text.specs.declared.types.IntegerType.{IntegerType}
use Rattle.binlog_text.specs.declared.types.IntegerType.TheVariants as integers
use Rattle.binlog_text.specs.declared.types.ColumnType.{ColumnType}
use Rattle.binlog_text.specs.declared.types.ColumnType.TheVariants as types
use Rattle.binlog_text.proofs.TokenLaws.{bind_some, after_found, cut_found, cut_again, nothing_found}
use Rattle.binlog_text.proofs.QuotedLaws.{quoted_found, quoted_again}

-- ---- two readings

-- what the text after a minus denotes
pub record Readings (line : List ℕ) (r : ℕ × ℕ) : Type 0 where
  pub text : line ≡ decimal r.0 ++ 32 ∷ 40 ∷ (decimal r.1 ++ 41 ∷ [])
  pub below : r.0 < 2 ^ 64
  pub above : r.1 < 2 ^ 64

readings_found : (text : List ℕ) (r : ℕ × ℕ) → readings_at text ≡ Some r → Readings text r
readings_found text r e =
    let a = bind_some (cut_at 32 text) _ r e in
    let first = cut_found 32 text a.0 a.1 in
    let b = bind_some (after_prefix (40 ∷ []) a.0.1) _ r a.2 in
    let inner = after_found (40 ∷ []) a.0.1 b.0 b.1 in
    let d = bind_some (cut_at 41 b.0) _ r b.2 in
    let second = cut_found 41 b.0 d.0 d.1 in
    let n = bind_some (nothing_in d.0.1) _ r d.2 in
    let end = nothing_found d.0.1 n.0 n.1 in
    let x = bind_some (count_of a.0.0) _ r n.2 in
    let y = bind_some (count_of d.0.0) _ r x.2 in
    let is : (x.0, y.0) ≡ r = same_Some _ _ y.2 in
    let low = count_found a.0.0 x.0 x.1 in
    let high = count_found d.0.0 y.0 y.1 in
    subst (Readings text) is (record {
      text = first.parts
          ∙ ap (λ (xs : List ℕ). xs ++ 32 ∷ a.0.1) low.0
          ∙ ap (λ (xs : List ℕ). decimal x.0 ++ 32 ∷ xs) (inner ∙ ap (λ (xs : List ℕ). 40 ∷ xs) (second.parts ∙ ap (λ (xs : List ℕ). d.0.0 ++ 41 ∷ xs) end ∙ ap (λ (xs : List ℕ). xs ++ 41 ∷ []) high.0));
      below = low.1;
      above = high.1;
    })

readings_again : (a b : ℕ) → a < 2 ^ 64 → b < 2 ^ 64 → readings_at (decimal a ++ 32 ∷ 40 ∷ (decimal b ++ 41 ∷ [])) ≡ Some (a, b)
readings_again a b low high =
    let first : cut_at 32 (decimal a ++ 32 ∷ 40 ∷ (decimal b ++ 41 ∷ [])) ≡ Some (decimal a, 40 ∷ (decimal b ++ 41 ∷ [])) = cut_again 32 (decimal a) (40 ∷ (decimal b ++ 41 ∷ [])) (decimal_lacks 32 a refl low) in
    let second : cut_at 41 (decimal b ++ 41 ∷ []) ≡ Some (decimal b, []) = cut_again 41 (decimal b) [] (decimal_lacks 41 b refl high) in
    rw (first, second, count_again a low, count_again b high) refl

-- ---- whole numbers

half_fits : (t : IntegerType) → half_of t ≤ 2 ^ 63
half_fits integers.TinyInt = omega arith
half_fits integers.SmallInt = omega arith
half_fits integers.MediumInt = omega arith
half_fits integers.Int = omega arith
half_fits integers.BigInt = omega arith

agreed : (h a b : ℕ) → (nat_le 1 a && nat_le a h && (a + b == h + h)) ≡ true → (1 ≤ a) × (a ≤ h) × (a + b ≡ h + h)
agreed h a b e = grind (arith, nat_tests)

agrees : (h a b : ℕ) → 1 ≤ a → a ≤ h → a + b ≡ h + h → (nat_le 1 a && nat_le a h && (a + b == h + h)) ≡ true
agrees h a b x y z = grind (arith, nat_tests)

-- a count is no text that begins with a minus
not_negative : (b : ℕ) (bs : List ℕ) (n : ℕ) → count_of (b ∷ bs) ≡ Some n → eqb b 45 ≡ false
not_negative b bs n e = let found = count_found (b ∷ bs) n e in
    (lacks-parts 45 b bs (ap (lacks 45) found.0 ∙ decimal_lacks 45 n refl found.1)).0

below_found : (limit : ℕ) (text : List ℕ) (o : Option ℕ) (z : ℤ) → count_of text ≡ o → below limit o ≡ Some z → (n : ℕ) × (z ≡ pos n) × (n < limit) × (text ≡ decimal n)
below_found limit text None z e f = absurd cc
below_found limit text (Some n) z e f = elim (chosen (nat_lt n limit) (Some (pos n)) None (Some z) f) [
  | inl p ↦ (n, sym (same_Some _ _ p.1), lt_of_test n limit p.0, (count_found text n e).0)
  | inr p ↦ absurd cc
]

below_again : (limit n : ℕ) → n < limit → limit ≤ 2 ^ 63 → below limit (count_of (decimal n)) ≡ Some (pos n)
below_again limit n lt small = rw (count_again n (omega arith), below_test n limit lt) refl

negative_is : (t : IntegerType) (bs : List ℕ) (o : Option (ℕ × ℕ)) (z : ℤ) → readings_at bs ≡ o → negative t o ≡ Some z → signed_shown t z ≡ Some (45 ∷ bs)
negative_is t bs None z e f = absurd cc
negative_is t bs (Some r) z e f = elim (chosen (agree t r.0 r.1) (Some (negsuc (r.0 - 1))) None (Some z) f) [
  | inr p ↦ absurd cc
  | inl p ↦
      let fit = agreed (half_of t) r.0 r.1 p.0 in
      let read = readings_found bs r e in
      let back : r.0 - 1 + 1 ≡ r.0 = omega (arith, fit.0) in
      let rest : range_of t - r.0 ≡ r.1 = omega (arith, fit.2) in
      subst (λ (y : ℤ). signed_shown t y ≡ Some (45 ∷ bs)) (same_Some _ _ p.1)
      (rw (below_test (r.0 - 1) (half_of t) (omega (arith, fit.0, fit.1)), back, rest) (ap (λ (xs : List ℕ). Some (45 ∷ xs)) (sym read.text)))
]

signed_found : (t : IntegerType) (text : List ℕ) (z : ℤ) → signed_value t text ≡ Some z → signed_shown t z ≡ Some text
signed_found t [] z e = absurd cc
signed_found t (b ∷ bs) z e = elim (chosen (eqb b 45) (negative t (readings_at bs)) _ (Some z) e) [
  | inl p ↦ negative_is t bs (readings_at bs) z refl p.1 ∙ ap (λ (c : ℕ). Some (c ∷ bs)) (sym (eqb-true b 45 p.0))
  | inr p ↦
      let n = below_found (half_of t) (b ∷ bs) (count_of (b ∷ bs)) z refl p.1 in
      subst (λ (y : ℤ). signed_shown t y ≡ Some (b ∷ bs)) (sym n.1) (rw (below_test n.0 (half_of t) n.2) (ap Some (sym n.3)))
]

-- a number from 0 on is read, with a sign or without
plain_signed : (t : IntegerType) (text : List ℕ) (n : ℕ) → count_of text ≡ Some n → n < half_of t → signed_value t text ≡ Some (pos n)
plain_signed t [] n e lt = absurd cc
plain_signed t (b ∷ bs) n e lt = rw (not_negative b bs n e, e, below_test n (half_of t) lt) refl

plain_unsigned : (t : IntegerType) (text : List ℕ) (n : ℕ) → count_of text ≡ Some n → n < half_of t → unsigned_at t text ≡ Some (Int (pos n))
plain_unsigned t [] n e lt = absurd cc
plain_unsigned t (b ∷ bs) n e lt = rw (not_negative b bs n e, e, below_test n (half_of t) lt) refl

signed_again : (t : IntegerType) (z : ℤ) (text : List ℕ) → signed_shown t z ≡ Some text → signed_value t text ≡ Some z
signed_again t (pos n) text e = elim (chosen (nat_lt n (half_of t)) (Some (decimal n)) None (Some text) e) [
  | inr p ↦ absurd cc
  | inl p ↦
      let lt = lt_of_test n (half_of t) p.0 in
      subst (λ (xs : List ℕ). signed_value t xs ≡ Some (pos n)) (same_Some _ _ p.1)
      (plain_signed t (decimal n) n (count_again n (omega (arith, lt, half_fits t))) lt)
]
signed_again t (negsuc n) text e = elim (chosen (nat_lt n (half_of t)) (Some (negative_text (n + 1) (range_of t - (n + 1)))) None (Some text) e) [
  | inr p ↦ absurd cc
  | inl p ↦
      let lt = lt_of_test n (half_of t) p.0 in
      let small = half_fits t in
      let read : readings_at (decimal (n + 1) ++ 32 ∷ 40 ∷ (decimal (range_of t - (n + 1)) ++ 41 ∷ [])) ≡ Some (n + 1, range_of t - (n + 1)) = readings_again (n + 1) (range_of t - (n + 1)) (omega (arith, lt, small)) (omega (arith, lt, small)) in
      let fit : agree t (n + 1) (range_of t - (n + 1)) ≡ true = agrees (half_of t) (n + 1) (range_of t - (n + 1)) (omega arith) (omega (arith, lt)) (omega (arith, lt)) in
      let back : n + 1 - 1 ≡ n = omega arith in
      subst (λ (xs : List ℕ). signed_value t xs ≡ Some (negsuc n)) (same_Some _ _ p.1)
      (ap (negative t) read ∙ rw fit (ap (λ (m : ℕ). Some (negsuc m)) back))
]

-- both readings of a number without a sign show its value, as a number below 2 ^ 63 or else by its digits
large_shows : (t : IntegerType) (bs : List ℕ) (r : ℕ × ℕ) (is_small : Bool) → nat_lt r.1 (2 ^ 63) ≡ is_small → agree t r.0 r.1 ≡ true → Readings bs r → shown_value (types.Unsigned t) (unsigned_value r.1) ≡ Some (45 ∷ bs)
large_shows t bs r true small agrees read =
    let fit = agreed (half_of t) r.0 r.1 agrees in
    let rest : range_of t - r.1 ≡ r.0 = omega (arith, fit.2) in
    let past : nat_lt r.1 (half_of t) ≡ false = lt_false r.1 (half_of t) (omega (arith, fit.1, fit.2)) in
    let within : nat_lt r.1 (range_of t) ≡ true = below_test r.1 (range_of t) (omega (arith, fit.0, fit.2)) in
    rw (small, past, within, small, rest) (ap (λ (xs : List ℕ). Some (45 ∷ xs)) (sym read.text))
large_shows t bs r false beyond agrees read =
    let fit = agreed (half_of t) r.0 r.1 agrees in
    let rest : range_of t - r.1 ≡ r.0 = omega (arith, fit.2) in
    let past : nat_le (2 ^ 63) r.1 ≡ true = grind (arith, nat_tests) in
    let within : nat_lt r.1 (range_of t) ≡ true = below_test r.1 (range_of t) (omega (arith, fit.0, fit.2)) in
    rw (beyond, count_again r.1 read.above, past, within, rest) (ap (λ (xs : List ℕ). Some (45 ∷ xs)) (sym read.text))

large_is : (t : IntegerType) (bs : List ℕ) (o : Option (ℕ × ℕ)) (v : Value) → readings_at bs ≡ o → large t o ≡ Some v → shown_value (types.Unsigned t) v ≡ Some (45 ∷ bs)
large_is t bs None v e f = absurd cc
large_is t bs (Some r) v e f = elim (chosen (agree t r.0 r.1) (Some (unsigned_value r.1)) None (Some v) f) [
  | inr p ↦ absurd cc
  | inl p ↦ subst (λ (w : Value). shown_value (types.Unsigned t) w ≡ Some (45 ∷ bs)) (same_Some _ _ p.1)
      (large_shows t bs r (nat_lt r.1 (2 ^ 63)) refl p.0 (readings_found bs r e))
]

unsigned_found : (t : IntegerType) (text : List ℕ) (v : Value) → unsigned_at t text ≡ Some v → shown_value (types.Unsigned t) v ≡ Some text
unsigned_found t [] v e = absurd cc
unsigned_found t (b ∷ bs) v e = elim (chosen (eqb b 45) (large t (readings_at bs)) _ (Some v) e) [
  | inl p ↦ large_is t bs (readings_at bs) v refl p.1 ∙ ap (λ (c : ℕ). Some (c ∷ bs)) (sym (eqb-true b 45 p.0))
  | inr p ↦
      let m = mapped Int (below (half_of t) (count_of (b ∷ bs))) v p.1 in
      let n = below_found (half_of t) (b ∷ bs) (count_of (b ∷ bs)) m.0 refl m.1 in
      subst (λ (w : Value). shown_value (types.Unsigned t) w ≡ Some (b ∷ bs)) m.2
      (subst (λ (y : ℤ). unsigned_shown t y ≡ Some (b ∷ bs)) (sym n.1) (rw (below_test n.0 (half_of t) n.2) (ap Some (sym n.3))))
]

unsigned_again : (t : IntegerType) (z : ℤ) (text : List ℕ) → unsigned_shown t z ≡ Some text → unsigned_at t text ≡ Some (Int z)
unsigned_again t (negsuc n) text e = absurd cc
unsigned_again t (pos n) text e = elim (chosen (nat_lt n (half_of t)) (Some (decimal n)) _ (Some text) e) [
  | inl p ↦
      let lt = lt_of_test n (half_of t) p.0 in
      subst (λ (xs : List ℕ). unsigned_at t xs ≡ Some (Int (pos n))) (same_Some _ _ p.1)
      (plain_unsigned t (decimal n) n (count_again n (omega (arith, lt, half_fits t))) lt)
  | inr p ↦ elim (chosen (nat_lt n (range_of t) && nat_lt n (2 ^ 63)) (Some (negative_text (range_of t - n) n)) None (Some text) p.1) [
    | inr q ↦ absurd cc
    | inl q ↦
        let parts = and_parts (nat_lt n (range_of t)) (nat_lt n (2 ^ 63)) q.0 in
        let within = lt_of_test n (range_of t) parts.0 in
        let small = lt_of_test n (2 ^ 63) parts.1 in
        let past = ge_of_test n (half_of t) p.0 in
        let half = half_fits t in
        let read : readings_at (decimal (range_of t - n) ++ 32 ∷ 40 ∷ (decimal n ++ 41 ∷ [])) ≡ Some (range_of t - n, n) = readings_again (range_of t - n) n (omega (arith, past, half)) (omega (arith, small)) in
        let fit : agree t (range_of t - n) n ≡ true = agrees (half_of t) (range_of t - n) n (omega (arith, within)) (omega (arith, past)) (omega (arith, within)) in
        subst (λ (xs : List ℕ). unsigned_at t xs ≡ Some (Int (pos n))) (same_Some _ _ q.1)
        (ap (large t) read ∙ rw (fit, parts.1) refl)
  ]
]

-- the digits of a number from 2 ^ 63 on are read of what is printed for it
large_again : (t : IntegerType) (bs : List ℕ) (o : Option ℕ) (text : List ℕ) → count_of bs ≡ o → large_shown t o ≡ Some text → unsigned_at t text ≡ Some (Bytes bs)
large_again t bs None text e f = absurd cc
large_again t bs (Some n) text e f = elim (chosen (nat_le (2 ^ 63) n && nat_lt n (range_of t)) (Some (negative_text (range_of t - n) n)) None (Some text) f) [
  | inr p ↦ absurd cc
  | inl p ↦
      let parts = and_parts (nat_le (2 ^ 63) n) (nat_lt n (range_of t)) p.0 in
      let found = count_found bs n e in
      let within = lt_of_test n (range_of t) parts.1 in
      let past : 2 ^ 63 ≤ n = grind (arith, nat_tests) in
      let beyond : nat_lt n (2 ^ 63) ≡ false = lt_false n (2 ^ 63) past in
      let half = half_fits t in
      let read : readings_at (decimal (range_of t - n) ++ 32 ∷ 40 ∷ (decimal n ++ 41 ∷ [])) ≡ Some (range_of t - n, n) = readings_again (range_of t - n) n (omega (arith, past, half)) found.1 in
      let fit : agree t (range_of t - n) n ≡ true = agrees (half_of t) (range_of t - n) n (omega (arith, within)) (omega (arith, past, half)) (omega (arith, within)) in
      subst (λ (xs : List ℕ). unsigned_at t xs ≡ Some (Bytes bs)) (same_Some _ _ p.1)
      (ap (large t) read ∙ rw (fit, beyond) (ap (λ (xs : List ℕ). Some (Bytes xs)) (sym found.0)))
]

number_found : (text : List ℕ) (z : ℤ) → below (2 ^ 63) (count_of text) ≡ Some z → number_shown z ≡ Some text
number_found text z e =
    let n = below_found (2 ^ 63) text (count_of text) z refl e in
    subst (λ (y : ℤ). number_shown y ≡ Some text) (sym n.1) (rw (below_test n.0 (2 ^ 63) n.2) (ap Some (sym n.3)))

number_again : (z : ℤ) (text : List ℕ) → number_shown z ≡ Some text → below (2 ^ 63) (count_of text) ≡ Some z
number_again (negsuc n) text e = absurd cc
number_again (pos n) text e = elim (chosen (nat_lt n (2 ^ 63)) (Some (decimal n)) None (Some text) e) [
  | inr p ↦ absurd cc
  | inl p ↦ subst (λ (xs : List ℕ). below (2 ^ 63) (count_of xs) ≡ Some (pos n)) (same_Some _ _ p.1) (below_again (2 ^ 63) n (lt_of_test n (2 ^ 63) p.0) (omega arith))
]

-- ---- bits

not_quote : (b : ℕ) → is_bit b ≡ true → not (eqb b 39) ≡ true
not_quote b e = grind (arith, nat_tests)

bits_lack : (bs : List ℕ) → list_all is_bit bs ≡ true → lacks 39 bs ≡ true
bits_lack [] e = refl
bits_lack (b ∷ bs) e = let p = and_parts (is_bit b) (list_all is_bit bs) e in rw (not_quote b p.0) (bits_lack bs p.1)

bits_found : (text bs : List ℕ) → bits_at text ≡ Some bs → bytes_shown types.Bits bs ≡ Some text
bits_found text bs e =
    let a = bind_some (after_prefix (98 ∷ 39 ∷ []) text) _ bs e in
    let front = after_found (98 ∷ 39 ∷ []) text a.0 a.1 in
    let d = bind_some (cut_at 39 a.0) _ bs a.2 in
    let cut = cut_found 39 a.0 d.0 d.1 in
    let n = bind_some (nothing_in d.0.1) _ bs d.2 in
    let end = nothing_found d.0.1 n.0 n.1 in
    elim (chosen (list_all is_bit d.0.0) (Some d.0.0) None (Some bs) n.2) [
      | inr p ↦ absurd cc
      | inl p ↦ subst (λ (xs : List ℕ). bytes_shown types.Bits xs ≡ Some text) (same_Some _ _ p.1)
          (rw p.0 (ap Some (sym (front ∙ ap (λ (xs : List ℕ). 98 ∷ 39 ∷ xs) (cut.parts ∙ ap (λ (xs : List ℕ). d.0.0 ++ 39 ∷ xs) end)))))
    ]

bits_again : (bs text : List ℕ) → bytes_shown types.Bits bs ≡ Some text → bits_at text ≡ Some bs
bits_again bs text e = elim (chosen (list_all is_bit bs) (Some (98 ∷ 39 ∷ bs ++ 39 ∷ [])) None (Some text) e) [
  | inr p ↦ absurd cc
  | inl p ↦
      let cut : cut_at 39 (bs ++ 39 ∷ []) ≡ Some (bs, []) = cut_again 39 bs [] (bits_lack bs p.0) in
      subst (λ (xs : List ℕ). bits_at xs ≡ Some bs) (same_Some _ _ p.1) (rw (cut, p.0) refl)
]

-- ---- values

tested : (b : Bool) (text : List ℕ) (v : Value) → cond b (Some (Bytes text)) None ≡ Some v → (b ≡ true) × (Bytes text ≡ v)
tested true text v e = (refl, same_Some _ _ e)
tested false text v e = absurd cc

typed_found : (type : ColumnType) (text : List ℕ) (v : Value) → value_of_type type text ≡ Some v → shown_value type v ≡ Some text
typed_found (types.Signed t) text v e = let m = mapped Int (signed_value t text) v e in subst (λ (w : Value). shown_value (types.Signed t) w ≡ Some text) m.2 (signed_found t text m.0 m.1)
typed_found (types.Unsigned t) text v e = unsigned_found t text v e
typed_found types.Number text v e = let m = mapped Int (below (2 ^ 63) (count_of text)) v e in subst (λ (w : Value). shown_value types.Number w ≡ Some text) m.2 (number_found text m.0 m.1)
typed_found types.Decimal text v e = let m = tested (is_decimal text) text v e in subst (λ (w : Value). shown_value types.Decimal w ≡ Some text) m.1 (rw m.0 refl)
typed_found types.Seconds text v e = let m = tested (is_seconds text) text v e in subst (λ (w : Value). shown_value types.Seconds w ≡ Some text) m.1 (rw m.0 refl)
typed_found types.Bits text v e = let m = mapped Bytes (bits_at text) v e in subst (λ (w : Value). shown_value types.Bits w ≡ Some text) m.2 (bits_found text m.0 m.1)
typed_found types.Quoted text v e = let m = mapped Bytes (unquote text) v e in subst (λ (w : Value). shown_value types.Quoted w ≡ Some text) m.2 (ap Some (sym (quoted_found text m.0 m.1)))

null_found : (text : List ℕ) (v : Value) → or_null text None ≡ Some v → (text ≡ codes "NULL") × (Null ≡ v)
null_found text v e = elim (chosen (bytes_eq text (codes "NULL")) (Some Null) None (Some v) e) [
  | inl p ↦ ((bytes_eq-Decides text (codes "NULL")).0 p.0, same_Some _ _ p.1)
  | inr p ↦ absurd cc
]

value_is : (type : ColumnType) (text : List ℕ) (o : Option Value) (v : Value) → value_of_type type text ≡ o → or_null text o ≡ Some v → shown_value type v ≡ Some text
value_is type text (Some w) v e f = typed_found type text v (e ∙ f)
value_is type text None v e f = let n = null_found text v f in subst (λ (w : Value). shown_value type w ≡ Some text) n.1 (ap Some (sym n.0))

-- what is read is printed so
pub value_found : (type : ColumnType) (text : List ℕ) (v : Value) → value_at type text ≡ Some v → shown_value type v ≡ Some text
value_found type text v e = value_is type text (value_of_type type text) v refl e

-- ---- what is printed is read

null_again : (type : ColumnType) (text : List ℕ) → Some (codes "NULL") ≡ Some text → value_at type text ≡ Some Null
null_again type text e = subst (λ (xs : List ℕ). value_at type xs ≡ Some Null) (same_Some _ _ e) (null_alone type)
  where
    null_alone : (type : ColumnType) → value_at type (codes "NULL") ≡ Some Null
    null_alone (types.Signed t) = refl
    null_alone (types.Unsigned t) = refl
    null_alone types.Number = refl
    null_alone types.Decimal = refl
    null_alone types.Seconds = refl
    null_alone types.Bits = refl
    null_alone types.Quoted = refl

int_again : (type : ColumnType) (z : ℤ) (text : List ℕ) → int_shown type z ≡ Some text → value_of_type type text ≡ Some (Int z)
int_again (types.Signed t) z text e = ap (option_map Int) (signed_again t z text e)
int_again (types.Unsigned t) z text e = unsigned_again t z text e
int_again types.Number z text e = ap (option_map Int) (number_again z text e)
int_again types.Decimal z text e = absurd cc
int_again types.Seconds z text e = absurd cc
int_again types.Bits z text e = absurd cc
int_again types.Quoted z text e = absurd cc

passed : (b : Bool) (bs text : List ℕ) → cond b (Some bs) None ≡ Some text → (b ≡ true) × (bs ≡ text)
passed true bs text e = (refl, same_Some _ _ e)
passed false bs text e = absurd cc

bytes_again : (type : ColumnType) (bs text : List ℕ) → bytes_shown type bs ≡ Some text → value_of_type type text ≡ Some (Bytes bs)
bytes_again (types.Signed t) bs text e = absurd cc
bytes_again (types.Unsigned t) bs text e = large_again t bs (count_of bs) text refl e
bytes_again types.Number bs text e = absurd cc
bytes_again types.Decimal bs text e = let p = passed (is_decimal bs) bs text e in subst (λ (xs : List ℕ). value_of_type types.Decimal xs ≡ Some (Bytes bs)) p.1 (rw p.0 refl)
bytes_again types.Seconds bs text e = let p = passed (is_seconds bs) bs text e in subst (λ (xs : List ℕ). value_of_type types.Seconds xs ≡ Some (Bytes bs)) p.1 (rw p.0 refl)
bytes_again types.Bits bs text e = ap (option_map Bytes) (bits_again bs text e)
bytes_again types.Quoted bs text e = ap (option_map Bytes) (quoted_again text bs (sym (same_Some _ _ e)))

-- what is printed of a value is read as this value
pub value_again : (type : ColumnType) (v : Value) (text : List ℕ) → shown_value type v ≡ Some text → value_at type text ≡ Some v
value_again type Null text e = null_again type text e
value_again type (Int z) text e = ap (or_null text) (int_again type z text e)
value_again type (Bytes bs) text e = ap (or_null text) (bytes_again type bs text e)

-- of what was read
pub seen_shown : (type : ColumnType) (text : List ℕ) (o : Option Value) → o ≡ value_at type text → IfSome o (λ v. shown_value type v ≡ Some text)
seen_shown type text None e = tt
seen_shown type text (Some v) e = value_found type text v (sym e)
