-- Each turn takes bytes, so that as many turns as there are bytes are enough.
use Rattle.std.proofs.Common.{◌≡◌, ℕ, zero, suc, ◌+◌, ◌<◌, ◌≤◌, ◌⊎◌, Bool, true, false, cond, eqb, ltb, List, [], ◌∷◌, ◌++◌, length, Option, Some, None, Result, Ok, Err, refl, sym, ap, ◌∙◌, append_assoc, arith, inl, inr}
use Rattle.std.specs.Prelude.{option_to_list}
use Rattle.std.specs.Char.{is_ascii_digit}
use Rattle.std.proofs.lemmas.Bool.{eqb-true, eqb-false}
use Rattle.std.proofs.lemmas.List.{append-nil}
use Rattle.gtid_text.specs.Scan.{is_blank, is_uuid_byte, run, skip_while, ◌>>=◌, refuse, source_of, found_source, source_at, number_of, found_number, number_at, colon_at}
use Rattle.gtid_text.specs.Reading.{span, check_order, upper_at, interval_at, separator_at, element_at, Turn, turn_at, with_front, go_on, spans_at, spans_in}
use Rattle.gtid_text.specs.declared.SourceId.{SourceId}
use Rattle.gtid_text.specs.declared.Span.{Span}
use Rattle.gtid_text.specs.declared.scan.ScanFault.{ScanFault}
use Rattle.gtid_text.specs.declared.scan.Kind.TheVariants as kinds
use Rattle.std.proofs.lemmas.Option.{same_Some}

-- ---- steps that may fail

pub bind_ok : {A B : Type 0} (r : Result A ScanFault) (f : A → Result B ScanFault) (y : B) → (r >>= f) ≡ Ok y → (x : A) × (r ≡ Ok x) × (f x ≡ Ok y)
bind_ok (Ok x) f y e = (x, refl, e)
bind_ok (Err d) f y e = absurd cc

abbrev done : {A : Type 0} → A → Result A ScanFault
done x = Ok x

pub ok_is : {A : Type 0} (x y : A) → done x ≡ done y → x ≡ y
ok_is x y e = cc

pub chosen : {A : Type 0} (b : Bool) (x y z : A) → cond b x y ≡ z → ((b ≡ true) × (x ≡ z)) ⊎ ((b ≡ false) × (y ≡ z))
chosen true x y z e = inl (refl, e)
chosen false x y z e = inr (refl, e)

-- ---- what is taken

pub run_past : (p : ℕ → Bool) (xs : List ℕ) → run p xs ++ skip_while p xs ≡ xs
run_past p [] = refl
run_past p (x ∷ xs) = elim (p x) as (λ b. cond b (x ∷ run p xs) [] ++ cond b (skip_while p xs) (x ∷ xs) ≡ x ∷ xs) [
  | true ↦ ap (λ (t : List ℕ). x ∷ t) (run_past p xs)
  | false ↦ refl
]

pub run_past_lengths : (p : ℕ → Bool) (xs : List ℕ) → length (run p xs) + length (skip_while p xs) ≡ length xs
run_past_lengths p [] = refl
run_past_lengths p (x ∷ xs) = elim (p x) as (λ b. length (cond b (x ∷ run p xs) []) + length (cond b (skip_while p xs) (x ∷ xs)) ≡ suc (length xs)) [
  | true ↦ omega (arith, run_past_lengths p xs)
  | false ↦ omega arith
]

pub record TakesNumber (rest : List ℕ) (x : ℕ × List ℕ) : Type 0 where
  pub some : 0 < length (run is_ascii_digit rest)
  pub number : number_of (run is_ascii_digit rest) ≡ Some x.0
  pub after : skip_while is_ascii_digit rest ≡ x.1

found_number_ok : (o : Option ℕ) (rest after : List ℕ) (x : ℕ × List ℕ) → found_number o rest after ≡ Ok x → (o ≡ Some x.0) × (after ≡ x.1)
found_number_ok None rest after x e = absurd cc
found_number_ok (Some n) rest after x e = let s = ok_is (n, after) x e in (ap (λ (y : ℕ × List ℕ). Some y.0) s, ap (λ (y : ℕ × List ℕ). y.1) s)

pub number_ok : (rest : List ℕ) (x : ℕ × List ℕ) → number_at rest ≡ Ok x → TakesNumber rest x
number_ok rest x e =
    elim (chosen (eqb (length (run is_ascii_digit rest)) 0) (refuse kinds.BadNumber rest) (found_number (number_of (run is_ascii_digit rest)) rest (skip_while is_ascii_digit rest)) (Ok x) e) [
      | inl p ↦ absurd cc
      | inr p ↦
          let f = found_number_ok (number_of (run is_ascii_digit rest)) rest (skip_while is_ascii_digit rest) x p.1 in
          let ne = eqb-false (length (run is_ascii_digit rest)) 0 p.0 in
          record { some = omega arith; number = f.0; after = f.1 }
    ]

number_shorter : (rest : List ℕ) (x : ℕ × List ℕ) → number_at rest ≡ Ok x → length x.1 < length rest
number_shorter rest x e = let n = number_ok rest x e in omega (arith, n.some, ap length n.after, run_past_lengths is_ascii_digit rest)

pub found_source_ok : (o : Option SourceId) (rest after : List ℕ) (x : SourceId × List ℕ) → found_source o rest after ≡ Ok x → (o ≡ Some x.0) × (after ≡ x.1)
found_source_ok None rest after x e = absurd cc
found_source_ok (Some id) rest after x e = let s = ok_is (id, after) x e in (ap (λ (y : SourceId × List ℕ). Some y.0) s, ap (λ (y : SourceId × List ℕ). y.1) s)

pub source_length : (text : List ℕ) (id : SourceId) → source_of text ≡ Some id → length text ≡ 36
source_length text id e =
    elim (chosen (eqb (length text) 36) _ None (Some id) e) [
      | inl p ↦ eqb-true _ _ p.0
      | inr p ↦ absurd cc
    ]

source_shorter : (rest : List ℕ) (x : SourceId × List ℕ) → source_at rest ≡ Ok x → length x.1 < length rest
source_shorter rest x e =
    let f = found_source_ok (source_of (run is_uuid_byte rest)) rest (skip_while is_uuid_byte rest) x e in
    omega (arith, source_length (run is_uuid_byte rest) x.0 f.0, ap length f.1, run_past_lengths is_uuid_byte rest)

skip_shorter : (rest : List ℕ) → length (skip_while is_blank rest) ≤ length rest
skip_shorter rest = omega (arith, run_past_lengths is_blank rest)

colon_shorter : (rest : List ℕ) (x : List ℕ) → colon_at rest ≡ Ok x → length x < length rest
colon_shorter [] x e = absurd cc
colon_shorter (b ∷ bs) x e =
    elim (chosen (eqb b 58) (Ok bs) (refuse kinds.NoInterval (b ∷ bs)) (Ok x) e) [
      | inl p ↦ omega (arith, ap length (ok_is bs x p.1))
      | inr p ↦ absurd cc
    ]

pub ordered_ok : (id : SourceId) (lo hi : ℕ) (digits after : List ℕ) (x : Span × List ℕ) → check_order id lo hi digits after ≡ Ok x → (ltb hi lo ≡ false) × ((span id lo hi, after) ≡ x)
ordered_ok id lo hi digits after x e =
    elim (chosen (ltb hi lo) (refuse kinds.Reversed digits) (Ok (span id lo hi, after)) (Ok x) e) [
      | inl p ↦ absurd cc
      | inr p ↦ (p.0, ok_is _ _ p.1)
    ]

upper_shorter : (id : SourceId) (lo : ℕ) (rest : List ℕ) (x : Span × List ℕ) → upper_at id lo rest ≡ Ok x → length x.1 ≤ length rest
upper_shorter id lo [] x e = omega (arith, ap (λ (y : Span × List ℕ). length y.1) (ok_is (span id lo lo, []) x e))
upper_shorter id lo (b ∷ bs) x e =
    elim (chosen (eqb b 45) (number_at (skip_while is_blank bs) >>= λ hi. check_order id lo hi.0 (skip_while is_blank bs) (skip_while is_blank hi.1)) (Ok (span id lo lo, b ∷ bs)) (Ok x) e) [
      | inl p ↦
          let q = bind_ok (number_at (skip_while is_blank bs)) (λ hi. check_order id lo hi.0 (skip_while is_blank bs) (skip_while is_blank hi.1)) x p.1 in
          let o = ordered_ok id lo q.0.0 (skip_while is_blank bs) (skip_while is_blank q.0.1) x q.2 in
          omega (arith, number_shorter (skip_while is_blank bs) q.0 q.1, skip_shorter bs, skip_shorter q.0.1, ap (λ (y : Span × List ℕ). length y.1) o.1)
      | inr p ↦ omega (arith, ap (λ (y : Span × List ℕ). length y.1) (ok_is (span id lo lo, b ∷ bs) x p.1))
    ]

interval_shorter : (id : SourceId) (rest : List ℕ) (x : Span × List ℕ) → interval_at id rest ≡ Ok x → length x.1 < length rest
unfolding interval_at
interval_shorter id rest x e =
    let q = bind_ok (number_at (skip_while is_blank rest)) (λ lo. upper_at id lo.0 (skip_while is_blank lo.1)) x e in
    omega (arith, number_shorter (skip_while is_blank rest) q.0 q.1, skip_shorter rest, skip_shorter q.0.1, upper_shorter id q.0.0 (skip_while is_blank q.0.1) x q.2)

separator_shorter : (id : SourceId) (rest : List ℕ) (x : Option SourceId × List ℕ) → separator_at id rest ≡ Ok x → length x.1 ≤ length rest
unfolding separator_at
separator_shorter id [] x e = omega (arith, ap (λ (y : Option SourceId × List ℕ). length y.1) (ok_is (None, []) x e))
separator_shorter id (b ∷ bs) x e =
    elim (chosen (eqb b 58) (Ok (Some id, bs)) (cond (eqb b 44) (Ok (None, bs)) (refuse kinds.Stray (b ∷ bs))) (Ok x) e) [
      | inl p ↦ omega (arith, ap (λ (y : Option SourceId × List ℕ). length y.1) (ok_is (Some id, bs) x p.1))
      | inr p ↦ elim (chosen (eqb b 44) (Ok (None, bs)) (refuse kinds.Stray (b ∷ bs)) (Ok x) p.1) [
        | inl q ↦ omega (arith, ap (λ (y : Option SourceId × List ℕ). length y.1) (ok_is (None, bs) x q.1))
        | inr q ↦ absurd cc
      ]
    ]

element_shorter : (rest : List ℕ) (x : Option SourceId × List ℕ) → 0 < length rest → element_at rest ≡ Ok x → length x.1 < length rest
unfolding element_at
element_shorter [] x some e = absurd (omega arith)
element_shorter (b ∷ bs) x some e =
    elim (chosen (eqb b 44) (Ok (None, bs)) (source_at (b ∷ bs) >>= λ id. colon_at (skip_while is_blank id.1) >>= λ rest. Ok (Some id.0, rest)) (Ok x) e) [
      | inl p ↦ omega (arith, ap (λ (y : Option SourceId × List ℕ). length y.1) (ok_is (None, bs) x p.1))
      | inr p ↦
          let q = bind_ok (source_at (b ∷ bs)) (λ id. colon_at (skip_while is_blank id.1) >>= λ rest. Ok (Some id.0, rest)) x p.1 in
          let r = bind_ok (colon_at (skip_while is_blank q.0.1)) (λ rest. Ok (Some q.0.0, rest)) x q.2 in
          omega (arith, source_shorter (b ∷ bs) q.0 q.1, skip_shorter q.0.1, colon_shorter (skip_while is_blank q.0.1) r.0 r.1, ap (λ (y : Option SourceId × List ℕ). length y.1) (ok_is (Some q.0.0, r.0) x r.2))
    ]

pub turn_shorter : (inside : Option SourceId) (rest : List ℕ) (t : Turn) → turn_at inside rest ≡ Ok (Some t) → length t.2 < length rest
unfolding turn_at
turn_shorter (Some id) rest t e =
    let q = bind_ok (interval_at id rest) (λ i. separator_at id i.1 >>= λ next. Ok (Some (Some i.0, next.0, next.1))) (Some t) e in
    let r = bind_ok (separator_at id q.0.1) (λ next. Ok (Some (Some q.0.0, next.0, next.1))) (Some t) q.2 in
    omega (arith, interval_shorter id rest q.0 q.1, separator_shorter id q.0.1 r.0 r.1, ap (λ (y : Turn). length y.2) (same_Some (Some q.0.0, r.0.0, r.0.1) t (ok_is _ _ r.2)))
turn_shorter None rest t e =
    elim (chosen (eqb (length (skip_while is_blank rest)) 0) (Ok None) (element_at (skip_while is_blank rest) >>= λ next. Ok (Some (None, next.0, next.1))) (Ok (Some t)) e) [
      | inl p ↦ absurd cc
      | inr p ↦
          let r = bind_ok (element_at (skip_while is_blank rest)) (λ next. Ok (Some (None, next.0, next.1))) (Some t) p.1 in
          let ne = eqb-false (length (skip_while is_blank rest)) 0 p.0 in
          let some : 0 < length (skip_while is_blank rest) = omega arith in
          omega (arith, element_shorter (skip_while is_blank rest) r.0 some r.1, skip_shorter rest, ap (λ (y : Turn). length y.2) (same_Some (None, r.0.0, r.0.1) t (ok_is _ _ r.2)))
    ]

-- ---- enough turns

gone_on_alike : (j k : ℕ) (inside : Option SourceId) (rest : List ℕ) (r : Result (Option Turn) ScanFault)
    → ((t : Turn) → r ≡ Ok (Some t) → spans_at j t.1 t.2 ≡ spans_at k t.1 t.2)
    → (r >>= λ t. go_on t (λ next left. spans_at j next left)) ≡ (r >>= λ t. go_on t (λ next left. spans_at k next left))
gone_on_alike j k inside rest (Err e) same = refl
gone_on_alike j k inside rest (Ok None) same = refl
gone_on_alike j k inside rest (Ok (Some t)) same = ap (with_front (option_to_list t.0)) (same t refl)

pub enough : (j k : ℕ) (inside : Option SourceId) (rest : List ℕ) → length rest < j → length rest < k → spans_at j inside rest ≡ spans_at k inside rest
enough zero k inside rest a b = absurd (omega arith)
enough (suc j) zero inside rest a b = absurd (omega arith)
enough (suc j) (suc k) inside rest a b =
    gone_on_alike j k inside rest (turn_at inside rest) (λ t e. let s = turn_shorter inside rest t e in enough j k t.1 t.2 (omega arith) (omega arith))

-- ---- a loop

pub with_front-twice : (xs ys : List Span) (r : Result (List Span) ScanFault) → with_front xs (with_front ys r) ≡ with_front (xs ++ ys) r
with_front-twice xs ys (Ok zs) = ap Ok (sym (append_assoc xs ys zs))
with_front-twice xs ys (Err e) = refl

pub with_nothing : (r : Result (List Span) ScanFault) → with_front [] r ≡ r
with_nothing (Ok xs) = refl
with_nothing (Err e) = refl

unfoldable pub left_of : Option SourceId → List ℕ → Result (List Span) ScanFault
left_of inside rest = spans_at (suc (length rest)) inside rest

pub goes_on : (front : List Span) (inside : Option SourceId) (rest : List ℕ) (t : Turn) (total : Result (List Span) ScanFault) → turn_at inside rest ≡ Ok (Some t)
    → with_front front (left_of inside rest) ≡ total → with_front (front ++ option_to_list t.0) (left_of t.1 t.2) ≡ total
unfolding left_of
goes_on front inside rest t total e so_far =
    let s = turn_shorter inside rest t e in
    let one : left_of inside rest ≡ with_front (option_to_list t.0) (spans_at (length rest) t.1 t.2) = rw e refl in
    let same : spans_at (length rest) t.1 t.2 ≡ left_of t.1 t.2 = enough (length rest) (suc (length t.2)) t.1 t.2 s (omega arith) in
    sym (ap (with_front front) (one ∙ ap (with_front (option_to_list t.0)) same) ∙ with_front-twice front (option_to_list t.0) (left_of t.1 t.2)) ∙ so_far

pub is_done : (front : List Span) (inside : Option SourceId) (rest : List ℕ) (total : Result (List Span) ScanFault) → turn_at inside rest ≡ Ok None → with_front front (left_of inside rest) ≡ total → total ≡ Ok front
unfolding left_of
is_done front inside rest total e so_far =
    let one : with_front front (left_of inside rest) ≡ Ok front = rw e (ap Ok (append-nil front)) in
    sym so_far ∙ one

pub fails : (front : List Span) (inside : Option SourceId) (rest : List ℕ) (r : ScanFault) (total : Result (List Span) ScanFault) → turn_at inside rest ≡ Err r → with_front front (left_of inside rest) ≡ total → total ≡ Err r
unfolding left_of
fails front inside rest r total e so_far =
    let one : with_front front (left_of inside rest) ≡ Err r = rw e refl in
    sym so_far ∙ one

pub starts : (text : List ℕ) (front : List Span) → front ≡ [] → with_front front (left_of None text) ≡ spans_in text
unfolding left_of spans_in
starts text front e = ap (λ (f : List Span). with_front f (left_of None text)) e ∙ with_nothing (left_of None text)

-- one turn, and the end
pub left_of-turn : (inside : Option SourceId) (rest : List ℕ) (t : Turn) → turn_at inside rest ≡ Ok (Some t) → left_of inside rest ≡ with_front (option_to_list t.0) (left_of t.1 t.2)
unfolding left_of
left_of-turn inside rest t e =
    let s = turn_shorter inside rest t e in
    let one : left_of inside rest ≡ with_front (option_to_list t.0) (spans_at (length rest) t.1 t.2) = rw e refl in
    one ∙ ap (with_front (option_to_list t.0)) (enough (length rest) (suc (length t.2)) t.1 t.2 s (omega arith))

pub left_of-end : (inside : Option SourceId) (rest : List ℕ) → turn_at inside rest ≡ Ok None → left_of inside rest ≡ Ok []
unfolding left_of
left_of-end inside rest e = rw e refl
