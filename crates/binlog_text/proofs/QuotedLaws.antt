-- A string is shown between quotes in one way.
use Rattle.std.proofs.Common.{◌≡◌, ℕ, ◌+◌, ◌-◌, ◌<◌, false, cond, eqb, List, [], ◌∷◌, ◌++◌, Option, Some, None, refl, sym, ap, ◌∙◌, subst, append_assoc, append-nil, arith, inl, inr, ◌⊎◌}
use Rattle.std.specs.Prelude.{IfSome, option_map, nat_lt}
use Rattle.std.proofs.lemmas.Bool.Decides.{nat_tests}
use Rattle.std.proofs.lemmas.Option.{same_Some}
use Rattle.std.proofs.lemmas.Bool.{eqb-true}
use Rattle.gtid_text.proofs.Turns.{chosen}
use Rattle.binlog_text.specs.Quoted.{hex_digit, shown_byte, escape, quote, unescape, hex_value, byte_of_digits, plainly, low_of, next, whole, with_byte, go_on, read_quoted, unquote}
use Rattle.binlog_text.specs.declared.quoted.Mode.{Mode}
use Rattle.binlog_text.specs.declared.quoted.Mode.TheVariants as modes

-- what has come of a string, where it does not show a byte yet
abbrev owed : Mode → List ℕ
owed modes.Plain = []
owed modes.Escape = 92 ∷ []
owed modes.High = 92 ∷ 120 ∷ []
owed (modes.Low high) = 92 ∷ 120 ∷ cond (eqb high 0) 48 49 ∷ []
owed modes.Closed = 39 ∷ []

-- the first of two digits is 0 or 1
abbrev Stands : Mode → Type 0
Stands modes.Plain = Unit {0}
Stands modes.Escape = Unit {0}
Stands modes.High = Unit {0}
Stands (modes.Low high) = (high ≡ 0) ⊎ (high ≡ 16)
Stands modes.Closed = Unit {0}

abbrev shown_whole : Option ℕ → List ℕ
shown_whole None = []
shown_whole (Some b) = shown_byte b

-- what a step made of the bytes
abbrev Steps : Mode → ℕ → Mode × Option ℕ → Type 0
Steps m b t = Stands t.0 × (owed m ++ b ∷ [] ≡ shown_whole t.1 ++ owed t.0)

pub escape_shown : (b c : ℕ) → unescape b ≡ Some c → shown_byte c ≡ 92 ∷ b ∷ []
escape_shown b c e = grind (arith, nat_tests)

plain_shown : (b : ℕ) → eqb b 92 ≡ false → eqb b 39 ≡ false → nat_lt b 32 ≡ false → shown_byte b ≡ b ∷ []
plain_shown b e f g = grind (arith, nat_tests)

low_shown : (b c : ℕ) → low_of 0 (hex_value b) ≡ Some c → shown_byte c ≡ 92 ∷ 120 ∷ 48 ∷ b ∷ []
low_shown b c e = grind (arith, nat_tests)

hex_is : (b d : ℕ) → hex_value b ≡ Some d → (d < 16) × (b ≡ hex_digit d)
hex_is b d e = grind (arith, nat_tests)

above_sixteen : (c d : ℕ) → d < 16 → c ≡ 16 + d → shown_byte c ≡ 92 ∷ 120 ∷ 49 ∷ hex_digit (c - 16) ∷ []
above_sixteen c d l e = grind (arith, nat_tests)

by_digits_is : (b c : ℕ) → byte_of_digits b ≡ Some c → c ≡ b
by_digits_is b c e = grind (arith, nat_tests)

high_is : (b c : ℕ) (o : Option ℕ) → hex_value b ≡ o → low_of 16 o ≡ Some c → shown_byte c ≡ 92 ∷ 120 ∷ 49 ∷ b ∷ []
high_is b c None h e = absurd cc
high_is b c (Some d) h e =
    let is : c ≡ 16 + d = by_digits_is (16 + d) c e in
    let digit = hex_is b d h in
    let same : c - 16 ≡ d = omega (arith, is) in
    above_sixteen c d digit.0 is ∙ ap (λ (x : ℕ). 92 ∷ 120 ∷ 49 ∷ x ∷ []) (ap hex_digit same ∙ sym digit.1)

high_shown : (b c : ℕ) → low_of 16 (hex_value b) ≡ Some c → shown_byte c ≡ 92 ∷ 120 ∷ 49 ∷ b ∷ []
high_shown b c e = high_is b c (hex_value b) refl e

byte_again : (b : ℕ) (rest : List ℕ) → read_quoted modes.Plain (shown_byte b ++ rest) ≡ option_map (λ bs. b ∷ bs) (read_quoted modes.Plain rest)
byte_again b rest = grind (arith, nat_tests)

-- ---- each step

plain_step : (b : ℕ) (t : Mode × Option ℕ) → next modes.Plain b ≡ Some t → Steps modes.Plain b t
plain_step b t e = elim (chosen (eqb b 92) (Some (modes.Escape, None)) _ (Some t) e) [
  | inl p ↦ subst (Steps modes.Plain b) (same_Some _ _ p.1) (tt, ap (λ (x : ℕ). x ∷ []) (omega (arith, eqb-true b 92 p.0)))
  | inr p ↦ elim (chosen (eqb b 39) (Some (modes.Closed, None)) _ (Some t) p.1) [
    | inl q ↦ subst (Steps modes.Plain b) (same_Some _ _ q.1) (tt, ap (λ (x : ℕ). x ∷ []) (omega (arith, eqb-true b 39 q.0)))
    | inr q ↦ elim (chosen (nat_lt b 32) None (Some (modes.Plain, Some b)) (Some t) q.1) [
      | inl r ↦ absurd cc
      | inr r ↦ subst (Steps modes.Plain b) (same_Some _ _ r.1) (tt, sym (ap (λ (s : List ℕ). s ++ []) (plain_shown b p.0 q.0 r.0)))
    ]
  ]
]

plainly_step : (m : Mode) (b : ℕ) (o : Option ℕ) (t : Mode × Option ℕ) → plainly o ≡ Some t → ((c : ℕ) → o ≡ Some c → shown_byte c ≡ owed m ++ b ∷ []) → Steps m b t
plainly_step m b None t e f = absurd cc
plainly_step m b (Some c) t e f = subst (Steps m b) (same_Some _ _ e) (tt, sym (f c refl) ∙ sym (append-nil (shown_byte c)))

escape_step : (b : ℕ) (t : Mode × Option ℕ) → next modes.Escape b ≡ Some t → Steps modes.Escape b t
escape_step b t e = elim (chosen (eqb b 120) (Some (modes.High, None)) (plainly (unescape b)) (Some t) e) [
  | inl p ↦ subst (Steps modes.Escape b) (same_Some _ _ p.1) (tt, ap (λ (x : ℕ). 92 ∷ x ∷ []) (omega (arith, eqb-true b 120 p.0)))
  | inr p ↦ plainly_step modes.Escape b (unescape b) t p.1 (escape_shown b)
]

high_step : (b : ℕ) (t : Mode × Option ℕ) → next modes.High b ≡ Some t → Steps modes.High b t
high_step b t e = elim (chosen (eqb b 48) (Some (modes.Low 0, None)) _ (Some t) e) [
  | inl p ↦ subst (Steps modes.High b) (same_Some _ _ p.1) (inl refl, ap (λ (x : ℕ). 92 ∷ 120 ∷ x ∷ []) (omega (arith, eqb-true b 48 p.0)))
  | inr p ↦ elim (chosen (eqb b 49) (Some (modes.Low 16, None)) None (Some t) p.1) [
    | inl q ↦ subst (Steps modes.High b) (same_Some _ _ q.1) (inr refl, ap (λ (x : ℕ). 92 ∷ 120 ∷ x ∷ []) (omega (arith, eqb-true b 49 q.0)))
    | inr q ↦ absurd cc
  ]
]

low_step : (high b : ℕ) (t : Mode × Option ℕ) → (high ≡ 0) ⊎ (high ≡ 16) → next (modes.Low high) b ≡ Some t → Steps (modes.Low high) b t
low_step high b t (inl z) e = plainly_step (modes.Low high) b (low_of high (hex_value b)) t e (λ c f. low_shown b c (subst (λ (h : ℕ). low_of h (hex_value b) ≡ Some c) z f) ∙ ap (λ (h : ℕ). 92 ∷ 120 ∷ cond (eqb h 0) 48 49 ∷ b ∷ []) (sym z))
low_step high b t (inr z) e = plainly_step (modes.Low high) b (low_of high (hex_value b)) t e (λ c f. high_shown b c (subst (λ (h : ℕ). low_of h (hex_value b) ≡ Some c) z f) ∙ ap (λ (h : ℕ). 92 ∷ 120 ∷ cond (eqb h 0) 48 49 ∷ b ∷ []) (sym z))

stepped : (m : Mode) (b : ℕ) (t : Mode × Option ℕ) → Stands m → next m b ≡ Some t → Steps m b t
stepped modes.Plain b t s e = plain_step b t e
stepped modes.Escape b t s e = escape_step b t e
stepped modes.High b t s e = high_step b t e
stepped (modes.Low high) b t s e = low_step high b t s e
stepped modes.Closed b t s e = absurd cc

-- ---- the whole of a string

-- the text that shows these bytes, where a byte may show nothing
told_by : (o : Option ℕ) (told : Option (List ℕ)) (bytes : List ℕ) → with_byte o told ≡ Some bytes → (rest : List ℕ) × (told ≡ Some rest) × (escape bytes ≡ shown_whole o ++ escape rest)
told_by None told bytes e = (bytes, e, refl)
told_by (Some b) None bytes e = absurd cc
told_by (Some b) (Some rest) bytes e = (rest, refl, ap escape (sym (same_Some _ _ e)))

ended : (m : Mode) (bytes : List ℕ) → whole m ≡ Some bytes → owed m ++ [] ≡ escape bytes ++ 39 ∷ []
ended modes.Closed bytes e = ap (λ (bs : List ℕ). escape bs ++ 39 ∷ []) (same_Some _ _ e)
ended modes.Plain bytes e = absurd cc
ended modes.Escape bytes e = absurd cc
ended modes.High bytes e = absurd cc
ended (modes.Low high) bytes e = absurd cc

goes_on : (m : Mode) (b : ℕ) (o : Option (Mode × Option ℕ)) (f : Mode → Option (List ℕ)) (bytes : List ℕ) → go_on o f ≡ Some bytes → (t : Mode × Option ℕ) × (o ≡ Some t) × (with_byte t.1 (f t.0) ≡ Some bytes)
goes_on m b None f bytes e = absurd cc
goes_on m b (Some t) f bytes e = (t, refl, e)

unread_shown : (m : Mode) (text bytes : List ℕ) → Stands m → read_quoted m text ≡ Some bytes → owed m ++ text ≡ escape bytes ++ 39 ∷ []
unread_shown m [] bytes s e = ended m bytes e
unread_shown m (b ∷ bs) bytes s e =
    let on = goes_on m b (next m b) (λ n. read_quoted n bs) bytes e in
    let step = stepped m b on.0 s on.1 in
    let told = told_by on.0.1 (read_quoted on.0.0 bs) bytes on.2 in
    let rest : owed on.0.0 ++ bs ≡ escape told.0 ++ 39 ∷ [] = unread_shown on.0.0 bs told.0 step.0 told.1 in
    sym (append_assoc (owed m) (b ∷ []) bs)
    ∙ ap (λ (xs : List ℕ). xs ++ bs) step.1
    ∙ append_assoc (shown_whole on.0.1) (owed on.0.0) bs
    ∙ ap (λ (xs : List ℕ). shown_whole on.0.1 ++ xs) rest
    ∙ sym (append_assoc (shown_whole on.0.1) (escape told.0) (39 ∷ []))
    ∙ ap (λ (xs : List ℕ). xs ++ 39 ∷ []) (sym told.2)

-- what is read is shown so
pub quoted_found : (text bytes : List ℕ) → unquote text ≡ Some bytes → text ≡ quote bytes
quoted_found [] bytes e = absurd cc
quoted_found (b ∷ bs) bytes e = elim (chosen (eqb b 39) (read_quoted modes.Plain bs) None (Some bytes) e) [
  | inl p ↦ ap (λ (c : ℕ). c ∷ bs) (eqb-true b 39 p.0) ∙ ap (λ (xs : List ℕ). 39 ∷ xs) (unread_shown modes.Plain bs bytes tt p.1)
  | inr p ↦ absurd cc
]

-- what is shown is read
unread_again : (bytes : List ℕ) → read_quoted modes.Plain (escape bytes ++ 39 ∷ []) ≡ Some bytes
unread_again [] = refl
unread_again (b ∷ bs) =
    ap (read_quoted modes.Plain) (append_assoc (shown_byte b) (escape bs) (39 ∷ []))
    ∙ byte_again b (escape bs ++ 39 ∷ [])
    ∙ ap (option_map (λ (xs : List ℕ). b ∷ xs)) (unread_again bs)

pub quoted_again : (text bytes : List ℕ) → text ≡ quote bytes → unquote text ≡ Some bytes
quoted_again text bytes e = ap unquote e ∙ unread_again bytes

-- of what was read, seen by view
pub seen_found : {V : Type 0} (view : V → List ℕ) (text : List ℕ) (o : Option V) → option_map view o ≡ unquote text → IfSome o (λ v. text ≡ quote (view v))
seen_found view text None e = tt
seen_found view text (Some v) e = quoted_found text (view v) (sym e)
