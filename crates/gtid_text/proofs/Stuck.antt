-- Where the reading refuses, no continuation with that token parses as a set.
use Rattle.std.proofs.Common.{◌≡◌, ℕ, ◌<◌, ◌≤◌, ◌⊎◌, Bool, true, false, cond, eqb, ltb, leb, List, [], ◌∷◌, ◌++◌, length, take, Option, Some, None, Result, Ok, Err, refl, sym, ap, subst, ◌∙◌, append_assoc, arith, inl, inr}
use Rattle.std.specs.Prelude.{◌&&◌, codes}
use Rattle.std.specs.Char.{is_ascii_digit}
use Rattle.std.specs.Str.Parse.{digits_value}
use Rattle.std.proofs.lemmas.Bool.{eqb-true, eqb-false, ne_eqb, leb-true, and_parts}
use Rattle.std.proofs.lemmas.List.{append-nil, length-append}
use Rattle.gtid_text.specs.Scan.{is_blank, is_uuid_byte, run, skip_while, ◌>>=◌, refuse, source_of, found_source, source_at, number_of, found_number, number_at, colon_at}
use Rattle.gtid_text.specs.Reading.{span, check_order, upper_at, interval_at, separator_at, element_at, turn_at, with_front}
use Rattle.gtid_text.specs.Grammar.{Number, Interval, Named, number_text, interval_text, named_text, IsGap, IsNumber, IsInterval, IsNamed}
use Rattle.gtid_text.specs.Refused.{IsDue, IsMet, SameToken}
use Rattle.gtid_text.specs.declared.SourceId.{SourceId}
use Rattle.gtid_text.specs.declared.Span.{Span}
use Rattle.gtid_text.specs.declared.scan.Kind.TheVariants as kinds
use Rattle.gtid_text.specs.declared.scan.ScanFault.{ScanFault}
use Rattle.gtid_text.proofs.Tokens.{run_passes}
use Rattle.gtid_text.proofs.Turns.{chosen, run_past, number_ok, found_source_ok, left_of, left_of-end}
use Rattle.gtid_text.specs.Canonical.{source_text}
use Rattle.gtid_text.proofs.RoundTrip.{source_bytes, source_again}
use Rattle.gtid_text.proofs.Spelled.{run_front, starts, starts_gap, starts_blank, past_cut, past_front, number_reads, source_reads, interval_reads_at, NoDash, is_dash, is_comma, ends_last, turn_end, uuid_some, uuid_no_comma, reads_intervals, named_reads}
use Rattle.gtid_text.proofs.Found.{past_starts, gap_of, split, number_found, interval_found}
use Rattle.std.proofs.lemmas.Option.{same_Some}

abbrev refused : {A : Type 0} → ScanFault → Result A ScanFault
refused e = Err e

pub bind_err : {A B : Type 0} (r : Result A ScanFault) (f : A → Result B ScanFault) (e : ScanFault) → (r >>= f) ≡ Err e → (r ≡ Err e) ⊎ ((x : A) × (r ≡ Ok x) × (f x ≡ Err e))
bind_err (Ok x) f e h = inr (x, refl, h)
bind_err {A} (Err d) f e h = inl (let k : d ≡ e = cc in ap (λ (y : ScanFault). refused {A = A} y) k)

-- ---- the same first byte

starts_take : (p : ℕ → Bool) (xs : List ℕ) → starts p xs ≡ starts p (take 1 xs)
starts_take p [] = refl
starts_take p (x ∷ xs) = refl

pub same_starts : (p : ℕ → Bool) (a b : List ℕ) → take 1 a ≡ take 1 b → starts p a ≡ starts p b
same_starts p a b e = starts_take p a ∙ ap (starts p) e ∙ sym (starts_take p b)

pub starts_behind : (p : ℕ → Bool) (g a b : List ℕ) → take 1 a ≡ take 1 b → starts p (g ++ a) ≡ starts p (g ++ b)
starts_behind p [] a b e = same_starts p a b e
starts_behind p (x ∷ xs) a b e = refl

-- what comes after blanks, where it begins with none
pub past_same : (g more bad : List ℕ) → IsGap g → take 1 more ≡ take 1 (skip_while is_blank bad) → skip_while is_blank (g ++ more) ≡ more
past_same g more bad gap e = past_front is_blank g more gap ∙ past_cut is_blank more (same_starts is_blank more (skip_while is_blank bad) e ∙ past_starts is_blank bad)

-- ---- a number

-- a number is refused alike, by its digits
pub record NumberErr (y : List ℕ) (r : ScanFault) : Type 0 where
  pub left : r.left ≡ length y
  pub met : IsMet r.kind y
  pub due : (more : List ℕ) → 0 < length (run is_ascii_digit more) → IsDue r.kind more
  pub again : (more : List ℕ) → SameToken r.kind more y → (e : ScanFault) × (number_at more ≡ Err e)

found_number_err : (o : Option ℕ) (y after : List ℕ) (r : ScanFault) → found_number o y after ≡ Err r → (o ≡ None) × ((record { kind = kinds.NumberRange; left = length y }) ≡ r)
found_number_err None y after r e = (refl, cc)
found_number_err (Some n) y after r e = absurd cc

pub number_err : (y : List ℕ) (r : ScanFault) → number_at y ≡ Err r → NumberErr y r
number_err y r e =
    elim (chosen (eqb (length (run is_ascii_digit y)) 0) (refuse kinds.BadNumber y) (found_number (number_of (run is_ascii_digit y)) y (skip_while is_ascii_digit y)) (Err r) e) [
      | inl p ↦
          let k : (record { kind = kinds.BadNumber; left = length y }) ≡ r = cc in
          subst (NumberErr y) k (record {
            left = refl;
            met = eqb-true (length (run is_ascii_digit y)) 0 p.0;
            due = λ more some. some;
            again = λ more same. (record { kind = kinds.BadNumber; left = length more }, rw (same.runs, p.0) refl);
          })
      | inr p ↦
          let f = found_number_err (number_of (run is_ascii_digit y)) y (skip_while is_ascii_digit y) r p.1 in
          subst (NumberErr y) f.1 (record {
            left = refl;
            met = (let ne = eqb-false (length (run is_ascii_digit y)) 0 p.0 in omega arith, f.0);
            due = λ more some. some;
            again = λ more same. (record { kind = kinds.NumberRange; left = length more }, rw (same.runs, p.0, f.0) refl);
          })
    ]

-- ---- a turn that refuses

pub record Refusing (inside : Option SourceId) (rest : List ℕ) (r : ScanFault) : Type 0 where
  pub front : List ℕ
  pub bad : List ℕ
  pub text : rest ≡ front ++ bad
  pub left : r.left ≡ length bad
  pub met : IsMet r.kind bad
  pub on : (more : List ℕ) × (spans : List Span) × (left_of inside (front ++ more) ≡ Ok spans)
  pub due : IsDue r.kind on.0
  pub stuck : (more : List ℕ) → SameToken r.kind more bad → (e : ScanFault) × (left_of inside (front ++ more) ≡ Err e)

left_of_err : (inside : Option SourceId) (rest : List ℕ) (e : ScanFault) → turn_at inside rest ≡ Err e → left_of inside rest ≡ Err e
unfolding left_of
left_of_err inside rest e h = rw h refl

turn_interval_err : (id : SourceId) (x : List ℕ) (e : ScanFault) → interval_at id x ≡ Err e → turn_at (Some id) x ≡ Err e
unfolding turn_at
turn_interval_err id x e h = rw h refl

turn_separator_err : (id : SourceId) (x : List ℕ) (i : Span × List ℕ) (e : ScanFault) → interval_at id x ≡ Ok i → separator_at id i.1 ≡ Err e → turn_at (Some id) x ≡ Err e
unfolding turn_at
turn_separator_err id x i e h k = rw (h, k) refl

interval_number_err : (id : SourceId) (x : List ℕ) (e : ScanFault) → number_at (skip_while is_blank x) ≡ Err e → interval_at id x ≡ Err e
unfolding interval_at
interval_number_err id x e h = rw h refl

interval_upper_err : (id : SourceId) (x : List ℕ) (lo : ℕ × List ℕ) (e : ScanFault) → number_at (skip_while is_blank x) ≡ Ok lo → upper_at id lo.0 (skip_while is_blank lo.1) ≡ Err e → interval_at id x ≡ Err e
unfolding interval_at
interval_upper_err id x lo e h k = rw (h, k) refl

-- one interval, and the end of the text
single : (id : SourceId) (i : Interval) (s : Span) (gap : List ℕ) → IsInterval i id s → IsGap gap → left_of (Some id) (interval_text i ++ gap) ≡ Ok (s ∷ [])
single id i s gap h g = reads_intervals id i s [] [] gap [] h tt (ends_last gap g) ∙ ap (with_front (s ∷ [])) (left_of-end None [] (turn_end [] refl))

single_bare : (id : SourceId) (i : Interval) (s : Span) → IsInterval i id s → left_of (Some id) (interval_text i) ≡ Ok (s ∷ [])
single_bare id i s h = ap (left_of (Some id)) (sym (append-nil (interval_text i))) ∙ single id i s [] h refl

pub one_is : (gap : List ℕ) → IsGap gap → IsNumber (record { gap = gap; digits = codes "1" }) 1
one_is gap g = record { gap = g; digits = refl; some = omega arith; parses = refl }

abbrev greatest : ℕ
greatest = 9223372036854775807

greatest_is : (gap : List ℕ) → IsGap gap → IsNumber (record { gap = gap; digits = codes "9223372036854775807" }) greatest
greatest_is gap g = record { gap = g; digits = refl; some = omega arith; parses = refl }

number_bound : (digits : List ℕ) (n : ℕ) → number_of digits ≡ Some n → n ≤ greatest
number_bound digits n e =
    elim (chosen (leb 1 (digits_value 10 digits) && leb (digits_value 10 digits) greatest) (Some (digits_value 10 digits)) None (Some n) e) [
      | inl p ↦
          let high = leb-true (digits_value 10 digits) greatest (and_parts (leb 1 (digits_value 10 digits)) (leb (digits_value 10 digits) greatest) p.0).1 in
          let same = same_Some (digits_value 10 digits) n p.1 in
          omega arith
      | inr p ↦ absurd cc
    ]

-- the first number of an interval
refusing_low : (id : SourceId) (rest : List ℕ) (r : ScanFault) → number_at (skip_while is_blank rest) ≡ Err r → Refusing (Some id) rest r
refusing_low id rest r e =
    let y = skip_while is_blank rest in
    let g = run is_blank rest in
    let n = number_err y r e in
    let i : Interval = record { lo = record { gap = g; digits = codes "1" }; upper = None } in
    record {
      front = g;
      bad = y;
      text = split rest;
      left = n.left;
      met = n.met;
      on = (codes "1", span id 1 1 ∷ [], ap (left_of (Some id)) (sym (append-nil (g ++ codes "1"))) ∙ single_bare id i (span id 1 1) (record { source = refl; lo = one_is g (gap_of rest); upper = refl }));
      due = n.due (codes "1") (omega arith);
      stuck = λ more same.
          let a = n.again more same in
          (a.0, left_of_err (Some id) (g ++ more) a.0 (turn_interval_err id (g ++ more) a.0 (interval_number_err id (g ++ more) a.0 (ap number_at (past_same g more rest (gap_of rest) same.first) ∙ a.1))));
    }

-- the second number
record UpperErr (id : SourceId) (lo : ℕ) (y : List ℕ) (r : ScanFault) : Type 0 where
  bs : List ℕ
  dash : y ≡ 45 ∷ bs
  left : r.left ≡ length (skip_while is_blank bs)
  met : IsMet r.kind (skip_while is_blank bs)
  due : (more : List ℕ) → 0 < length (run is_ascii_digit more) → IsDue r.kind more
  again : (g more : List ℕ) → IsGap g → SameToken r.kind more (skip_while is_blank bs) → (e : ScanFault) × (upper_at id lo (45 ∷ (g ++ more)) ≡ Err e)

upper_number_err : (id : SourceId) (lo : ℕ) (bs : List ℕ) (e : ScanFault) → number_at (skip_while is_blank bs) ≡ Err e → upper_at id lo (45 ∷ bs) ≡ Err e
upper_number_err id lo bs e h = rw h refl

upper_ordered_err : (id : SourceId) (lo : ℕ) (bs : List ℕ) (hi : ℕ × List ℕ) → number_at (skip_while is_blank bs) ≡ Ok hi → ltb hi.0 lo ≡ true → (e : ScanFault) × (upper_at id lo (45 ∷ bs) ≡ Err e)
upper_ordered_err id lo bs hi h k = (record { kind = kinds.Reversed; left = length (skip_while is_blank bs) }, rw (h, k) refl)

ordered_err : (id : SourceId) (lo hi : ℕ) (digits after : List ℕ) (r : ScanFault) → check_order id lo hi digits after ≡ Err r → (ltb hi lo ≡ true) × ((record { kind = kinds.Reversed; left = length digits }) ≡ r)
ordered_err id lo hi digits after r e =
    elim (chosen (ltb hi lo) (refuse kinds.Reversed digits) (Ok (span id lo hi, after)) (Err r) e) [
      | inl p ↦ (p.0, cc)
      | inr p ↦ absurd cc
    ]

-- the same digits are the same number
number_again : (y more : List ℕ) (x : ℕ × List ℕ) → number_at y ≡ Ok x → run is_ascii_digit more ≡ run is_ascii_digit y → number_at more ≡ Ok (x.0, skip_while is_ascii_digit more)
number_again y more x e same =
    let t = number_ok y x e in
    let ne : eqb (length (run is_ascii_digit y)) 0 ≡ false = ne_eqb _ _ (let s = t.some in omega arith) in
    rw (same, ne, t.number) refl

upper_err : (id : SourceId) (lo : ℕ) (y : List ℕ) (r : ScanFault) → upper_at id lo y ≡ Err r → UpperErr id lo y r
upper_err id lo [] r e = absurd cc
upper_err id lo (b ∷ bs) r e =
    elim (chosen (eqb b 45) (number_at (skip_while is_blank bs) >>= λ hi. check_order id lo hi.0 (skip_while is_blank bs) (skip_while is_blank hi.1)) (Ok (span id lo lo, b ∷ bs)) (Err r) e) [
      | inr p ↦ absurd cc
      | inl p ↦
          let c : b ≡ 45 = eqb-true b 45 p.0 in
          let y = skip_while is_blank bs in
          elim (bind_err (number_at y) (λ hi. check_order id lo hi.0 y (skip_while is_blank hi.1)) r p.1) [
            | inl q ↦
                let n = number_err y r q in
                record {
                  bs = bs;
                  dash = ap (λ (m : ℕ). m ∷ bs) c;
                  left = n.left;
                  met = n.met;
                  due = n.due;
                  again = λ g more gap same. let a = n.again more same in (a.0, upper_number_err id lo (g ++ more) a.0 (ap number_at (past_same g more bs gap same.first) ∙ a.1));
                }
            | inr q ↦
                let o = ordered_err id lo q.0.0 y (skip_while is_blank q.0.1) r q.2 in
                subst (UpperErr id lo (b ∷ bs)) o.1 (record {
                  bs = bs;
                  dash = ap (λ (m : ℕ). m ∷ bs) c;
                  left = refl;
                  met = (q.0.0, (number_ok y q.0 q.1).number);
                  due = λ more some. some;
                  again = λ g more gap same. upper_ordered_err id lo (g ++ more) (q.0.0, skip_while is_ascii_digit more) (ap number_at (past_same g more bs gap same.first) ∙ number_again y more q.0 q.1 same.runs) o.0;
                })
          ]
    ]

refusing_upper : (id : SourceId) (rest : List ℕ) (lo : ℕ × List ℕ) (r : ScanFault) → number_at (skip_while is_blank rest) ≡ Ok lo → upper_at id lo.0 (skip_while is_blank lo.1) ≡ Err r → Refusing (Some id) rest r
refusing_upper id rest lo r e h =
    let f = number_found rest lo e in
    let u = upper_err id lo.0 (skip_while is_blank lo.1) r h in
    let g2 = run is_blank lo.1 in
    let g3 = run is_blank u.bs in
    let y = skip_while is_blank u.bs in
    let front = number_text f.n ++ (g2 ++ 45 ∷ g3) in
    let regroup : (more : List ℕ) → front ++ more ≡ number_text f.n ++ (g2 ++ 45 ∷ (g3 ++ more)) = λ more. append_assoc (number_text f.n) (g2 ++ 45 ∷ g3) more ∙ ap (λ (z : List ℕ). number_text f.n ++ z) (append_assoc g2 (45 ∷ g3) more) in
    let last : Number = record { gap = g3; digits = codes "9223372036854775807" } in
    let i : Interval = record { lo = f.n; upper = Some (g2, last) } in
    let says : IsInterval i id (span id lo.0 greatest) = record { source = refl; lo = f.says; upper = (gap_of lo.1, greatest_is g3 (gap_of u.bs), number_bound f.n.digits lo.0 f.says.parses) } in
    record {
      front = front;
      bad = y;
      text = f.text ∙ ap (λ (z : List ℕ). number_text f.n ++ z) (split lo.1 ∙ ap (λ (z : List ℕ). g2 ++ z) (u.dash ∙ ap (λ (z : List ℕ). 45 ∷ z) (split u.bs))) ∙ sym (regroup y);
      left = u.left;
      met = u.met;
      on = (codes "9223372036854775807", span id lo.0 greatest ∷ [], ap (left_of (Some id)) (regroup (codes "9223372036854775807")) ∙ single_bare id i (span id lo.0 greatest) says);
      due = u.due (codes "9223372036854775807") (omega arith);
      stuck = λ more same.
          let tail = g2 ++ 45 ∷ (g3 ++ more) in
          let a = u.again g3 more (gap_of u.bs) same in
          let read : number_at (skip_while is_blank (number_text f.n ++ tail)) ≡ Ok (lo.0, tail) = number_reads f.n lo.0 tail f.says (starts_gap is_ascii_digit g2 (45 ∷ (g3 ++ more)) refl refl refl refl (gap_of lo.1) refl) in
          (a.0, ap (left_of (Some id)) (regroup more) ∙ left_of_err (Some id) (number_text f.n ++ tail) a.0 (turn_interval_err id (number_text f.n ++ tail) a.0 (interval_upper_err id (number_text f.n ++ tail) (lo.0, tail) a.0 read (ap (upper_at id lo.0) (past_front is_blank g2 (45 ∷ (g3 ++ more)) (gap_of lo.1)) ∙ a.1))));
    }

-- ---- after an interval

separator_err : (id : SourceId) (y : List ℕ) (r : ScanFault) → separator_at id y ≡ Err r → (0 < length y) × (starts (λ b. eqb b 58) y ≡ false) × (starts is_comma y ≡ false) × ((record { kind = kinds.Stray; left = length y }) ≡ r)
unfolding separator_at
separator_err id [] r e = absurd cc
separator_err id (b ∷ bs) r e =
    elim (chosen (eqb b 58) (Ok (Some id, bs)) (cond (eqb b 44) (Ok (None, bs)) (refuse kinds.Stray (b ∷ bs))) (Err r) e) [
      | inl p ↦ absurd cc
      | inr p ↦ elim (chosen (eqb b 44) (Ok (None, bs)) (refuse kinds.Stray (b ∷ bs)) (Err r) p.1) [
        | inl q ↦ absurd cc
        | inr q ↦ (omega arith, p.0, q.0, cc)
      ]
    ]

separator_stray : (id : SourceId) (y : List ℕ) → 0 < length y → starts (λ b. eqb b 58) y ≡ false → starts is_comma y ≡ false → separator_at id y ≡ Err (record { kind = kinds.Stray; left = length y })
unfolding separator_at
separator_stray id [] some c d = absurd (omega arith)
separator_stray id (b ∷ bs) some c d = rw (c, d) refl

pub same_some : (a b : List ℕ) → take 1 a ≡ take 1 b → 0 < length b → 0 < length a
same_some [] [] e some = absurd (omega arith)
same_some [] (y ∷ ys) e some = absurd cc
same_some (x ∷ xs) b e some = omega arith

no_dash_same : (u : Option (List ℕ × Number)) (g more tail : List ℕ) → IsGap g → take 1 more ≡ take 1 (skip_while is_blank tail) → NoDash u tail → NoDash u (g ++ more)
no_dash_same None g more tail gap e d = ap (starts is_dash) (past_same g more tail gap e) ∙ same_starts is_dash more (skip_while is_blank tail) e ∙ d
no_dash_same (Some u) g more tail gap e d = tt

refusing_separator : (id : SourceId) (rest : List ℕ) (x : Span × List ℕ) (r : ScanFault) → interval_at id rest ≡ Ok x → separator_at id x.1 ≡ Err r → Refusing (Some id) rest r
refusing_separator id rest x r e h =
    let f = interval_found id rest x e in
    let s = separator_err id x.1 r h in
    let g = run is_blank f.tail in
    let y = skip_while is_blank f.tail in
    subst (Refusing (Some id) rest) s.3 (record {
      front = interval_text f.i ++ g;
      bad = y;
      text = f.text ∙ ap (λ (z : List ℕ). interval_text f.i ++ z) (split f.tail) ∙ sym (append_assoc (interval_text f.i) g y);
      left = ap length f.left;
      met = subst (λ (z : List ℕ). 0 < length z) f.left s.0;
      on = ([], x.0 ∷ [], ap (left_of (Some id)) (append-nil (interval_text f.i ++ g)) ∙ single id f.i x.0 g f.says (gap_of f.tail));
      due = refl;
      stuck = λ more same.
          let bad : ScanFault = record { kind = kinds.Stray; left = length more } in
          let cut : starts is_ascii_digit (g ++ more) ≡ false = starts_behind is_ascii_digit g more y same.first ∙ ap (starts is_ascii_digit) (sym (split f.tail)) ∙ f.cut in
          let read = interval_reads_at f.i id x.0 (g ++ more) f.says cut (no_dash_same f.i.upper g more f.tail (gap_of f.tail) same.first f.dash) in
          let left : skip_while is_blank (g ++ more) ≡ more = past_same g more f.tail (gap_of f.tail) same.first in
          let some : 0 < length y = subst (λ (z : List ℕ). 0 < length z) f.left s.0 in
          let colon : starts (λ b. eqb b 58) more ≡ false = same_starts (λ b. eqb b 58) more y same.first ∙ ap (starts (λ b. eqb b 58)) (sym f.left) ∙ s.1 in
          let comma : starts is_comma more ≡ false = same_starts is_comma more y same.first ∙ ap (starts is_comma) (sym f.left) ∙ s.2 in
          (bad, ap (left_of (Some id)) (append_assoc (interval_text f.i) g more) ∙ left_of_err (Some id) (interval_text f.i ++ (g ++ more)) bad (turn_separator_err id (interval_text f.i ++ (g ++ more)) (x.0, skip_while is_blank (g ++ more)) bad read (ap (separator_at id) left ∙ separator_stray id more (same_some more y same.first some) colon comma)));
    })

pub refusing_inside : (id : SourceId) (rest : List ℕ) (r : ScanFault) → turn_at (Some id) rest ≡ Err r → Refusing (Some id) rest r
unfolding turn_at interval_at
refusing_inside id rest r e =
    elim (bind_err (interval_at id rest) (λ i. separator_at id i.1 >>= λ next. Ok (Some (Some i.0, next.0, next.1))) r e) [
      | inl p ↦ elim (bind_err (number_at (skip_while is_blank rest)) (λ lo. upper_at id lo.0 (skip_while is_blank lo.1)) r p) [
        | inl q ↦ refusing_low id rest r q
        | inr q ↦ refusing_upper id rest q.0 r q.1 q.2
      ]
      | inr p ↦ elim (bind_err (separator_at id p.0.1) (λ next. Ok (Some (Some p.0.0, next.0, next.1))) r p.2) [
        | inl q ↦ refusing_separator id rest p.0 r p.1 q
        | inr q ↦ absurd cc
      ]
    ]

-- ---- an element that does not begin

turn_element_err : (x : List ℕ) (e : ScanFault) → 0 < length (skip_while is_blank x) → element_at (skip_while is_blank x) ≡ Err e → turn_at None x ≡ Err e
unfolding turn_at
turn_element_err x e some h =
    let ne : eqb (length (skip_while is_blank x)) 0 ≡ false = ne_eqb _ _ (omega arith) in
    rw (ne, h) refl

element_source_err : (xs : List ℕ) (e : ScanFault) → 0 < length xs → starts is_comma xs ≡ false → source_at xs ≡ Err e → element_at xs ≡ Err e
unfolding element_at
element_source_err [] e some c h = absurd (omega arith)
element_source_err (b ∷ bs) e some c h = rw (c, h) refl

element_colon_err : (xs after : List ℕ) (id : SourceId) (e : ScanFault) → 0 < length xs → starts is_comma xs ≡ false → source_at xs ≡ Ok (id, after) → colon_at (skip_while is_blank after) ≡ Err e → element_at xs ≡ Err e
unfolding element_at
element_colon_err [] after id e some c h k = absurd (omega arith)
element_colon_err (b ∷ bs) after id e some c h k = rw (c, h, k) refl

pub found_source_err : (o : Option SourceId) (y after : List ℕ) (r : ScanFault) → found_source o y after ≡ Err r → (o ≡ None) × ((record { kind = kinds.BadUuid; left = length y }) ≡ r)
found_source_err None y after r e = (refl, cc)
found_source_err (Some id) y after r e = absurd cc

refusing_source : (rest : List ℕ) (r : ScanFault) → 0 < length (skip_while is_blank rest) → starts is_comma (skip_while is_blank rest) ≡ false → source_at (skip_while is_blank rest) ≡ Err r → Refusing None rest r
refusing_source rest r some c e =
    let y = skip_while is_blank rest in
    let g = run is_blank rest in
    let f = found_source_err (source_of (run is_uuid_byte y)) y (skip_while is_uuid_byte y) r e in
    let id : SourceId = 0 in
    let zero = source_text id in
    let bytes = source_bytes id in
    let names = source_again id (omega arith) in
    let i : Interval = record { lo = record { gap = []; digits = codes "1" }; upper = None } in
    let n : Named = record { gap = g; uuid = zero; first = ([], i); more = [] } in
    let named : IsNamed n (span id 1 1 ∷ []) = record { id = id; gap = gap_of rest; bytes = bytes; uuid = names; intervals = (refl, record { source = refl; lo = one_is [] refl; upper = refl }, tt) } in
    subst (Refusing None rest) f.1 (record {
      front = g;
      bad = y;
      text = split rest;
      left = refl;
      met = f.0;
      on = (
        zero ++ 58 ∷ codes "1",
        span id 1 1 ∷ [],
        ap (left_of None) (ap (λ (z : List ℕ). g ++ (zero ++ z)) (sym (append-nil (58 ∷ codes "1"))) ∙ sym (append-nil (named_text n)))
            ∙ named_reads n (span id 1 1 ∷ []) [] [] named (ends_last [] refl)
            ∙ ap (with_front (span id 1 1 ∷ [])) (left_of-end None [] (turn_end [] refl)),
      );
      due = (id, ap source_of (run_front is_uuid_byte zero (58 ∷ codes "1") bytes refl) ∙ names);
      stuck = λ more same.
          let bad : ScanFault = record { kind = kinds.BadUuid; left = length more } in
          let left : skip_while is_blank (g ++ more) ≡ more = past_same g more rest (gap_of rest) same.first in
          let long = same_some more y same.first some in
          let source : source_at more ≡ Err bad = ap (λ (z : List ℕ). found_source (source_of z) more (skip_while is_uuid_byte more)) same.runs ∙ ap (λ (o : Option SourceId). found_source o more (skip_while is_uuid_byte more)) f.0 in
          let found : element_at more ≡ Err bad = element_source_err more bad long (same_starts is_comma more y same.first ∙ c) source in
          (bad, left_of_err None (g ++ more) bad (turn_element_err (g ++ more) bad (omega (arith, long, ap length left)) (ap element_at left ∙ found)));
    })

pub colon_err : (y : List ℕ) (r : ScanFault) → colon_at y ≡ Err r → (starts (λ b. eqb b 58) y ≡ false) × ((record { kind = kinds.NoInterval; left = length y }) ≡ r)
colon_err [] r e = (refl, cc)
colon_err (b ∷ bs) r e =
    elim (chosen (eqb b 58) (Ok bs) (refuse kinds.NoInterval (b ∷ bs)) (Err r) e) [
      | inl p ↦ absurd cc
      | inr p ↦ (p.0, cc)
    ]

pub colon_none : (y : List ℕ) → starts (λ b. eqb b 58) y ≡ false → colon_at y ≡ Err (record { kind = kinds.NoInterval; left = length y })
colon_none [] e = refl
colon_none (b ∷ bs) e = rw e refl

refusing_colon : (rest after : List ℕ) (id : SourceId) (r : ScanFault) → source_at (skip_while is_blank rest) ≡ Ok (id, after) → colon_at (skip_while is_blank after) ≡ Err r → Refusing None rest r
refusing_colon rest after id r e h =
    let xs = skip_while is_blank rest in
    let g = run is_blank rest in
    let uuid = run is_uuid_byte xs in
    let s = found_source_ok (source_of uuid) xs (skip_while is_uuid_byte xs) (id, after) e in
    let g2 = run is_blank after in
    let y = skip_while is_blank after in
    let k = colon_err y r h in
    let bytes = run_passes is_uuid_byte xs in
    let some = uuid_some uuid id s.0 in
    let front = g ++ (uuid ++ g2) in
    let regroup : (more : List ℕ) → front ++ more ≡ g ++ (uuid ++ (g2 ++ more)) = λ more. append_assoc g (uuid ++ g2) more ∙ ap (λ (z : List ℕ). g ++ z) (append_assoc uuid g2 more) in
    let after_cut : starts is_uuid_byte after ≡ false = ap (starts is_uuid_byte) (sym s.1) ∙ past_starts is_uuid_byte xs in
    let i : Interval = record { lo = record { gap = []; digits = codes "1" }; upper = None } in
    let n : Named = record { gap = g; uuid = uuid; first = (g2, i); more = [] } in
    let named : IsNamed n (span id 1 1 ∷ []) = record { id = id; gap = gap_of rest; bytes = bytes; uuid = s.0; intervals = (gap_of after, record { source = refl; lo = one_is [] refl; upper = refl }, tt) } in
    subst (Refusing None rest) k.1 (record {
      front = front;
      bad = y;
      text = split rest ∙ ap (λ (z : List ℕ). g ++ z) (sym (run_past is_uuid_byte xs) ∙ ap (λ (z : List ℕ). uuid ++ z) (s.1 ∙ split after)) ∙ sym (regroup y);
      left = refl;
      met = tt;
      on = (
        58 ∷ codes "1",
        span id 1 1 ∷ [],
        ap (left_of None) (regroup (58 ∷ codes "1") ∙ ap (λ (z : List ℕ). g ++ (uuid ++ z)) (sym (append-nil (g2 ++ 58 ∷ codes "1"))) ∙ sym (append-nil (named_text n)))
            ∙ named_reads n (span id 1 1 ∷ []) [] [] named (ends_last [] refl)
            ∙ ap (with_front (span id 1 1 ∷ [])) (left_of-end None [] (turn_end [] refl)),
      );
      due = refl;
      stuck = λ more same.
          let bad : ScanFault = record { kind = kinds.NoInterval; left = length more } in
          let tail = g2 ++ more in
          let left : skip_while is_blank (g ++ (uuid ++ tail)) ≡ uuid ++ tail = past_front is_blank g (uuid ++ tail) (gap_of rest) ∙ past_cut is_blank (uuid ++ tail) (starts_blank is_uuid_byte uuid tail refl refl refl refl bytes some) in
          let cut : starts is_uuid_byte tail ≡ false = starts_behind is_uuid_byte g2 more y same.first ∙ ap (starts is_uuid_byte) (sym (split after)) ∙ after_cut in
          let long : 0 < length (uuid ++ tail) = omega (arith, some, length-append uuid tail) in
          let colon : colon_at (skip_while is_blank tail) ≡ Err bad = ap colon_at (past_same g2 more after (gap_of after) same.first) ∙ colon_none more (same_starts (λ b. eqb b 58) more y same.first ∙ k.0) in
          let found : element_at (uuid ++ tail) ≡ Err bad = element_colon_err (uuid ++ tail) tail id bad long (uuid_no_comma uuid tail bytes some) (source_reads uuid tail id bytes s.0 cut) colon in
          (bad, ap (left_of None) (regroup more) ∙ left_of_err None (g ++ (uuid ++ tail)) bad (turn_element_err (g ++ (uuid ++ tail)) bad (omega (arith, long, ap length left)) (ap element_at left ∙ found)));
    })

element_err : (rest xs : List ℕ) (r : ScanFault) → skip_while is_blank rest ≡ xs → 0 < length xs → element_at xs ≡ Err r → Refusing None rest r
unfolding element_at
element_err rest [] r same some e = absurd (omega arith)
element_err rest (b ∷ bs) r same some e =
    elim (chosen (eqb b 44) (Ok (None, bs)) (source_at (b ∷ bs) >>= λ id. colon_at (skip_while is_blank id.1) >>= λ rest. Ok (Some id.0, rest)) (Err r) e) [
      | inl p ↦ absurd cc
      | inr p ↦ elim (bind_err (source_at (b ∷ bs)) (λ id. colon_at (skip_while is_blank id.1) >>= λ rest. Ok (Some id.0, rest)) r p.1) [
        | inl q ↦ refusing_source rest r (omega (arith, ap length same)) (ap (starts is_comma) same ∙ p.0) (ap source_at same ∙ q)
        | inr q ↦ elim (bind_err (colon_at (skip_while is_blank q.0.1)) (λ rest. Ok (Some q.0.0, rest)) r q.2) [
          | inl k ↦ refusing_colon rest q.0.1 q.0.0 r (ap source_at same ∙ q.1) k
          | inr k ↦ absurd cc
        ]
      ]
    ]

pub refusing_outside : (rest : List ℕ) (r : ScanFault) → turn_at None rest ≡ Err r → Refusing None rest r
unfolding turn_at
refusing_outside rest r e =
    elim (chosen (eqb (length (skip_while is_blank rest)) 0) (Ok None) (element_at (skip_while is_blank rest) >>= λ next. Ok (Some (None, next.0, next.1))) (Err r) e) [
      | inl p ↦ absurd cc
      | inr p ↦
          let ne = eqb-false (length (skip_while is_blank rest)) 0 p.0 in
          elim (bind_err (element_at (skip_while is_blank rest)) (λ next. Ok (Some (None, next.0, next.1))) r p.1) [
            | inl q ↦ element_err rest (skip_while is_blank rest) r refl (omega arith) q
            | inr q ↦ absurd cc
          ]
    ]
