-- The first refusal, over all turns.
use Rattle.std.proofs.Common.{◌≡◌, ℕ, zero, suc, ◌<◌, ◌⊎◌, false, eqb, List, [], ◌∷◌, ◌++◌, length, Option, Some, None, Result, Ok, Err, refl, sym, ap, subst, ◌∙◌, append_assoc, arith, inl, inr}
use Rattle.std.specs.Prelude.{option_to_list}
use Rattle.std.specs.Char.{is_ascii_digit}
use Rattle.std.proofs.lemmas.Bool.{eqb-false}
use Rattle.std.proofs.lemmas.List.{length-append}
use Rattle.gtid_text.specs.Scan.{is_blank, is_uuid_byte, run, skip_while, ◌>>=◌, source_of, colon_at}
use Rattle.gtid_text.specs.Reading.{interval_at, separator_at, element_at, Turn, turn_at, with_front, go_on, spans_at, spans_in}
use Rattle.gtid_text.specs.Grammar.{Number, interval_text, IsGap, IsSetText}
use Rattle.gtid_text.specs.Refused.{IsStuck}
use Rattle.gtid_text.specs.declared.SourceId.{SourceId}
use Rattle.gtid_text.specs.declared.Span.{Span}
use Rattle.gtid_text.specs.declared.scan.ScanFault.{ScanFault}
use Rattle.gtid_text.proofs.Tokens.{run_passes}
use Rattle.gtid_text.proofs.Turns.{bind_ok, ok_is, chosen, run_past, found_source_ok, left_of, left_of-turn}
use Rattle.gtid_text.proofs.Spelled.{starts, starts_gap, starts_blank, past_cut, past_front, source_reads, interval_reads_at, NoDash, is_dash, turn_interval, turn_element, element_uuid, uuid_some, uuid_no_comma, spells_read}
use Rattle.gtid_text.proofs.Found.{gap_of, split, FoundInterval, interval_found, Separated, separator_cases, Begun, element_cases, colon_is, read_spells}
use Rattle.gtid_text.proofs.Stuck.{bind_err, Refusing, refusing_inside, refusing_outside}
use Rattle.std.proofs.lemmas.Option.{same_Some}

-- ---- a turn reads its own bytes alone

record Local (inside : Option SourceId) (rest : List ℕ) (t : Turn) : Type 0 where
  front : List ℕ
  text : rest ≡ front ++ t.2
  again : (more : List ℕ) → turn_at inside (front ++ more) ≡ Ok (Some (t.0, t.1, more))

AtEnd : Turn → Type 0
AtEnd t = (None ≡ t.1) × ([] ≡ t.2)

no_dash_byte : (u : Option (List ℕ × Number)) (g : List ℕ) (b : ℕ) (more : List ℕ) → IsGap g → is_blank b ≡ false → eqb b 45 ≡ false → NoDash u (g ++ b ∷ more)
no_dash_byte None g b more gap blank dash = ap (starts is_dash) (past_front is_blank g (b ∷ more) gap ∙ past_cut is_blank (b ∷ more) blank) ∙ dash
no_dash_byte (Some u) g b more gap blank dash = tt

local_byte : (id : SourceId) (rest : List ℕ) (x : Span × List ℕ) (b : ℕ) (next : Option SourceId) (left : List ℕ) → FoundInterval id rest x → x.1 ≡ b ∷ left
    → is_blank b ≡ false → is_ascii_digit b ≡ false → eqb b 45 ≡ false → ((more : List ℕ) → separator_at id (b ∷ more) ≡ Ok (next, more)) → Local (Some id) rest (Some x.0, next, left)
local_byte id rest x b next left f e blank digit dash sep =
    let g = run is_blank f.tail in
    let front = interval_text f.i ++ (g ++ b ∷ []) in
    let regroup : (more : List ℕ) → front ++ more ≡ interval_text f.i ++ (g ++ b ∷ more) = λ more. append_assoc (interval_text f.i) (g ++ b ∷ []) more ∙ ap (λ (z : List ℕ). interval_text f.i ++ z) (append_assoc g (b ∷ []) more) in
    record {
      front = front;
      text = f.text ∙ ap (λ (z : List ℕ). interval_text f.i ++ z) (split f.tail ∙ ap (λ (z : List ℕ). g ++ z) (sym f.left ∙ e)) ∙ sym (regroup left);
      again = λ more.
          let tail = g ++ b ∷ more in
          let past_is : skip_while is_blank tail ≡ b ∷ more = past_front is_blank g (b ∷ more) (gap_of f.tail) ∙ past_cut is_blank (b ∷ more) blank in
          let read = interval_reads_at f.i id x.0 tail f.says (starts_gap is_ascii_digit g (b ∷ more) refl refl refl refl (gap_of f.tail) digit) (no_dash_byte f.i.upper g b more (gap_of f.tail) blank dash) in
          ap (turn_at (Some id)) (regroup more) ∙ turn_interval id (interval_text f.i ++ tail) (skip_while is_blank tail) x.0 (next, more) read (ap (separator_at id) past_is ∙ sep more);
    }

abbrev with_next : Span → Option SourceId × List ℕ → Turn
with_next s y = (Some s, y.0, y.1)

local_separated : (id : SourceId) (rest : List ℕ) (x : Span × List ℕ) (y : Option SourceId × List ℕ) → FoundInterval id rest x → Separated id x.1 y → AtEnd (with_next x.0 y) ⊎ Local (Some id) rest (with_next x.0 y)
unfolding Separated separator_at AtEnd
local_separated id rest x y f (inl c) = inl (c.1, c.2)
local_separated id rest x y f (inr (inl c)) =
    inr (subst (λ (o : Option SourceId). Local (Some id) rest (Some x.0, o, y.1)) c.1 (local_byte id rest x 58 (Some id) y.1 f c.0 refl refl refl (λ more. refl)))
local_separated id rest x y f (inr (inr c)) =
    inr (subst (λ (o : Option SourceId). Local (Some id) rest (Some x.0, o, y.1)) c.1 (local_byte id rest x 44 None y.1 f c.0 refl refl refl (λ more. refl)))

local_inside : (id : SourceId) (rest : List ℕ) (t : Turn) → turn_at (Some id) rest ≡ Ok (Some t) → AtEnd t ⊎ Local (Some id) rest t
unfolding turn_at
local_inside id rest t e =
    let q = bind_ok (interval_at id rest) (λ i. separator_at id i.1 >>= λ next. Ok (Some (Some i.0, next.0, next.1))) (Some t) e in
    let r = bind_ok (separator_at id q.0.1) (λ next. Ok (Some (Some q.0.0, next.0, next.1))) (Some t) q.2 in
    let same : with_next q.0.0 r.0 ≡ t = same_Some (with_next q.0.0 r.0) t (ok_is (Some (with_next q.0.0 r.0)) (Some t) r.2) in
    subst (λ (u : Turn). AtEnd u ⊎ Local (Some id) rest u) same (local_separated id rest q.0 r.0 (interval_found id rest q.0 q.1) (separator_cases id q.0.1 r.0 r.1))

abbrev without : Option SourceId × List ℕ → Turn
without y = (None, y.0, y.1)

local_element : (rest : List ℕ) (y : Option SourceId × List ℕ) → ((skip_while is_blank rest ≡ 44 ∷ y.1) × (None ≡ y.0)) ⊎ Begun (skip_while is_blank rest) y → Local None rest (without y)
unfolding element_at
local_element rest y (inl c) =
    let g = run is_blank rest in
    subst (λ (o : Option SourceId). Local None rest (None, o, y.1)) c.1 (record {
      front = g ++ 44 ∷ [];
      text = split rest ∙ ap (λ (z : List ℕ). g ++ z) c.0 ∙ sym (append_assoc g (44 ∷ []) y.1);
      again = λ more.
          let left : skip_while is_blank (g ++ 44 ∷ more) ≡ 44 ∷ more = past_front is_blank g (44 ∷ more) (gap_of rest) in
          ap (turn_at None) (append_assoc g (44 ∷ []) more) ∙ turn_element (g ++ 44 ∷ more) (None, more) (omega (arith, ap length left)) (ap element_at left);
    })
local_element rest y (inr b) =
    let xs = skip_while is_blank rest in
    let g = run is_blank rest in
    let uuid = run is_uuid_byte xs in
    let s = found_source_ok (source_of uuid) xs (skip_while is_uuid_byte xs) (b.id, b.after) b.source in
    let g2 = run is_blank b.after in
    let bytes = run_passes is_uuid_byte xs in
    let some = uuid_some uuid b.id s.0 in
    let front = g ++ (uuid ++ (g2 ++ 58 ∷ [])) in
    let regroup : (more : List ℕ) → front ++ more ≡ g ++ (uuid ++ (g2 ++ 58 ∷ more)) = λ more. append_assoc g (uuid ++ (g2 ++ 58 ∷ [])) more ∙ ap (λ (z : List ℕ). g ++ z) (append_assoc uuid (g2 ++ 58 ∷ []) more ∙ ap (λ (z : List ℕ). uuid ++ z) (append_assoc g2 (58 ∷ []) more)) in
    subst (λ (o : Option SourceId). Local None rest (None, o, y.1)) b.next (record {
      front = front;
      text = split rest ∙ ap (λ (z : List ℕ). g ++ z) (sym (run_past is_uuid_byte xs) ∙ ap (λ (z : List ℕ). uuid ++ z) (s.1 ∙ split b.after ∙ ap (λ (z : List ℕ). g2 ++ z) (colon_is (skip_while is_blank b.after) y.1 b.colon))) ∙ sym (regroup y.1);
      again = λ more.
          let tail = g2 ++ 58 ∷ more in
          let left : skip_while is_blank (g ++ (uuid ++ tail)) ≡ uuid ++ tail = past_front is_blank g (uuid ++ tail) (gap_of rest) ∙ past_cut is_blank (uuid ++ tail) (starts_blank is_uuid_byte uuid tail refl refl refl refl bytes some) in
          let cut : starts is_uuid_byte tail ≡ false = starts_gap is_uuid_byte g2 (58 ∷ more) refl refl refl refl (gap_of b.after) refl in
          let long : 0 < length (uuid ++ tail) = omega (arith, some, length-append uuid tail) in
          let found : element_at (uuid ++ tail) ≡ Ok (Some b.id, more) = element_uuid (uuid ++ tail) tail b.id more long (uuid_no_comma uuid tail bytes some) (source_reads uuid tail b.id bytes s.0 cut) (ap colon_at (past_front is_blank g2 (58 ∷ more) (gap_of b.after))) in
          ap (turn_at None) (regroup more) ∙ turn_element (g ++ (uuid ++ tail)) (Some b.id, more) (omega (arith, long, ap length left)) (ap element_at left ∙ found);
    })

local_outside : (rest : List ℕ) (t : Turn) → turn_at None rest ≡ Ok (Some t) → Local None rest t
unfolding turn_at
local_outside rest t e =
    elim (chosen (eqb (length (skip_while is_blank rest)) 0) (Ok None) (element_at (skip_while is_blank rest) >>= λ next. Ok (Some (None, next.0, next.1))) (Ok (Some t)) e) [
      | inl p ↦ absurd cc
      | inr p ↦
          let ne = eqb-false (length (skip_while is_blank rest)) 0 p.0 in
          let r = bind_ok (element_at (skip_while is_blank rest)) (λ next. Ok (Some (None, next.0, next.1))) (Some t) p.1 in
          let same : without r.0 ≡ t = same_Some (without r.0) t (ok_is (Some (without r.0)) (Some t) r.2) in
          subst (Local None rest) same (local_element rest r.0 (element_cases (skip_while is_blank rest) r.0 (omega arith) r.1))
    ]

local : (inside : Option SourceId) (rest : List ℕ) (t : Turn) → turn_at inside rest ≡ Ok (Some t) → AtEnd t ⊎ Local inside rest t
local (Some id) rest t e = local_inside id rest t e
local None rest t e = inr (local_outside rest t e)

refusing_turn : (inside : Option SourceId) (rest : List ℕ) (r : ScanFault) → turn_at inside rest ≡ Err r → Refusing inside rest r
refusing_turn (Some id) rest r e = refusing_inside id rest r e
refusing_turn None rest r e = refusing_outside rest r e

-- ---- all turns

behind_turn : (inside : Option SourceId) (rest : List ℕ) (t : Turn) (r : ScanFault) → Local inside rest t → Refusing t.1 t.2 r → Refusing inside rest r
behind_turn inside rest t r l f =
    let front = l.front ++ f.front in
    let regroup : (more : List ℕ) → left_of inside (front ++ more) ≡ with_front (option_to_list t.0) (left_of t.1 (f.front ++ more)) = λ more.
    ap (left_of inside) (append_assoc l.front f.front more) ∙ left_of-turn inside (l.front ++ (f.front ++ more)) (t.0, t.1, f.front ++ more) (l.again (f.front ++ more)) in
    record {
      front = front;
      bad = f.bad;
      text = l.text ∙ ap (λ (z : List ℕ). l.front ++ z) f.text ∙ sym (append_assoc l.front f.front f.bad);
      left = f.left;
      met = f.met;
      on = (f.on.0, option_to_list t.0 ++ f.on.1, regroup f.on.0 ∙ ap (with_front (option_to_list t.0)) f.on.2);
      due = f.due;
      stuck = λ more same. let a = f.stuck more same in (a.0, regroup more ∙ ap (with_front (option_to_list t.0)) a.1);
    }

with_front_err : (front : List Span) (x : Result (List Span) ScanFault) (r : ScanFault) → with_front front x ≡ Err r → x ≡ Err r
with_front_err front (Ok xs) r e = absurd cc
with_front_err front (Err d) r e = e

abbrev read : List Span → Result (List Span) ScanFault
read spans = Ok spans

nothing_left : (k : ℕ) → spans_at k None [] ≡ read []
unfolding turn_at
nothing_left zero = refl
nothing_left (suc k) = refl

no_end : (k : ℕ) (t : Turn) (r : ScanFault) → AtEnd t → spans_at k t.1 t.2 ≡ Err r → ⊥
unfolding AtEnd
no_end k t r h e =
    let z : spans_at k None [] ≡ Err r = ap (λ (o : Option SourceId). spans_at k o []) h.0 ∙ ap (λ (l : List ℕ). spans_at k t.1 l) h.1 ∙ e in
    let w = nothing_left k in
    cc

refusing_gone : (k : ℕ) (inside : Option SourceId) (rest : List ℕ) (r : ScanFault) (t : Option Turn) → turn_at inside rest ≡ Ok t → go_on t (λ next left. spans_at k next left) ≡ Err r → ((next : Option SourceId) (left : List ℕ) → spans_at k next left ≡ Err r → Refusing next left r) → Refusing inside rest r
refusing_gone k inside rest r None e g known = absurd cc
refusing_gone k inside rest r (Some t) e g known =
    let w = with_front_err (option_to_list t.0) (spans_at k t.1 t.2) r g in
    elim (local inside rest t e) [
      | inl h ↦ absurd (no_end k t r h w)
      | inr l ↦ behind_turn inside rest t r l (known t.1 t.2 w)
    ]

refusing : (k : ℕ) (inside : Option SourceId) (rest : List ℕ) (r : ScanFault) → spans_at k inside rest ≡ Err r → Refusing inside rest r
refusing zero inside rest r e = absurd cc
refusing (suc k) inside rest r e =
    elim (bind_err (turn_at inside rest) (λ t. go_on t (λ next left. spans_at k next left)) r e) [
      | inl q ↦ refusing_turn inside rest r q
      | inr q ↦ refusing_gone k inside rest r q.0 q.1 q.2 (λ next left h. refusing k next left r h)
    ]

-- the refusal is at the first token at which no continuation parses as a set
pub is_stuck : (text : List ℕ) (r : ScanFault) → spans_in text ≡ Err r → IsStuck IsSetText text r
unfolding spans_in left_of
is_stuck text r e =
    let f = refusing (suc (length text)) None text r e in
    record {
      front = f.front;
      rest = f.bad;
      parts = f.text;
      left = f.left;
      met = f.met;
      more = f.on.0;
      due = f.due;
      viable = (f.on.1, read_spells (f.front ++ f.on.0) f.on.1 f.on.2);
      stuck = λ more same parsed. let a = f.stuck more same in let k = sym a.1 ∙ spells_read (f.front ++ more) parsed.0 parsed.1 in absurd cc;
    }
