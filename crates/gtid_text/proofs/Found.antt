-- Reading is sound: a text parses as what is read of it.
use Rattle.std.proofs.Common.{◌≡◌, ℕ, zero, suc, ◌<◌, ◌⊎◌, Bool, true, false, cond, eqb, List, [], ◌∷◌, ◌++◌, length, Option, Some, None, Result, Ok, Err, refl, sym, ap, subst, ◌∙◌, append_assoc, arith, inl, inr}
use Rattle.std.specs.List.{flat_map}
use Rattle.std.specs.Char.{is_ascii_digit}
use Rattle.std.proofs.lemmas.Bool.{eqb-true, eqb-false, ltb-false}
use Rattle.std.proofs.lemmas.List.{append-nil, nil_from_length}
use Rattle.gtid_text.specs.Scan.{is_blank, is_uuid_byte, run, skip_while, ◌>>=◌, refuse, source_of, source_at, number_at, colon_at}
use Rattle.gtid_text.specs.Reading.{span, check_order, upper_at, interval_at, separator_at, element_at, Turn, turn_at, with_front, go_on, spans_at, spans_in}
use Rattle.gtid_text.specs.Grammar.{Number, Interval, Named, Element, number_text, upper_text, interval_text, behind_colon, named_text, element_text, set_text, IsGap, IsNumber, IsUpper, IsInterval, AreIntervals, IsNamed, IsElement, AreElements, ParsesAs}
use Rattle.gtid_text.specs.declared.SourceId.{SourceId}
use Rattle.gtid_text.specs.declared.Span.{Span}
use Rattle.gtid_text.specs.declared.scan.ScanFault.{ScanFault}
use Rattle.gtid_text.specs.declared.scan.Kind.TheVariants as kinds
use Rattle.gtid_text.proofs.Tokens.{run_passes}
use Rattle.gtid_text.proofs.Spelled.{spells_read, regrouped, next_interval, starts, is_dash, NoDash}
use Rattle.gtid_text.proofs.Turns.{bind_ok, ok_is, chosen, run_past, number_ok, found_source_ok, ordered_ok, turn_shorter}

pub past_starts : (p : ℕ → Bool) (xs : List ℕ) → starts p (skip_while p xs) ≡ false
past_starts p [] = refl
past_starts p (x ∷ xs) = elim (p x) as (λ b. p x ≡ b → starts p (cond b (skip_while p xs) (x ∷ xs)) ≡ false) [
  | true ↦ λ e. past_starts p xs
  | false ↦ λ e. e
] refl

pub gap_of : (rest : List ℕ) → IsGap (run is_blank rest)
gap_of rest = run_passes is_blank rest

-- the blanks at the start, and what follows them
pub split : (rest : List ℕ) → rest ≡ run is_blank rest ++ skip_while is_blank rest
split rest = sym (run_past is_blank rest)

pub record FoundNumber (rest : List ℕ) (x : ℕ × List ℕ) : Type 0 where
  pub n : Number
  pub says : IsNumber n x.0
  pub text : rest ≡ number_text n ++ x.1
  pub cut : starts is_ascii_digit x.1 ≡ false

pub number_found : (rest : List ℕ) (x : ℕ × List ℕ) → number_at (skip_while is_blank rest) ≡ Ok x → FoundNumber rest x
number_found rest x e =
    let y = skip_while is_blank rest in
    let t = number_ok y x e in
    record {
      n = record { gap = run is_blank rest; digits = run is_ascii_digit y };
      says = record { gap = gap_of rest; digits = run_passes is_ascii_digit y; some = t.some; parses = t.number };
      text = split rest ∙ ap (λ (z : List ℕ). run is_blank rest ++ z) (sym (run_past is_ascii_digit y) ∙ ap (λ (z : List ℕ). run is_ascii_digit y ++ z) t.after) ∙ sym (append_assoc (run is_blank rest) (run is_ascii_digit y) x.1);
      cut = ap (starts is_ascii_digit) (sym t.after) ∙ past_starts is_ascii_digit y;
    }

pub record FoundUpper (id : SourceId) (lo : ℕ) (r : List ℕ) (x : Span × List ℕ) : Type 0 where
  pub upper : Option (List ℕ × Number)
  pub tail : List ℕ
  pub says : IsUpper upper x.0
  pub source : x.0.source ≡ id
  pub low : x.0.lo ≡ lo
  pub text : r ≡ upper_text upper ++ tail
  pub left : x.1 ≡ skip_while is_blank tail
  pub cut : starts is_ascii_digit tail ≡ false
  pub dash : NoDash upper tail

alone : (id : SourceId) (lo : ℕ) (r y : List ℕ) (x : Span × List ℕ) → starts is_ascii_digit r ≡ false → starts is_dash y ≡ false → skip_while is_blank r ≡ y → (span id lo lo, y) ≡ x → FoundUpper id lo r x
alone id lo r y x cut d e h =
    subst (FoundUpper id lo r) h (record { upper = None; tail = r; says = refl; source = refl; low = refl; text = refl; left = sym e; cut = cut; dash = ap (starts is_dash) e ∙ d })

upper_found_at : (id : SourceId) (lo : ℕ) (r y : List ℕ) (x : Span × List ℕ) → starts is_ascii_digit r ≡ false → skip_while is_blank r ≡ y → upper_at id lo y ≡ Ok x → FoundUpper id lo r x
upper_found_at id lo r [] x cut e h = alone id lo r [] x cut refl e (ok_is (span id lo lo, []) x h)
upper_found_at id lo r (b ∷ bs) x cut e h =
    elim (chosen (eqb b 45) (number_at (skip_while is_blank bs) >>= λ hi. check_order id lo hi.0 (skip_while is_blank bs) (skip_while is_blank hi.1)) (Ok (span id lo lo, b ∷ bs)) (Ok x) h) [
      | inr p ↦ alone id lo r (b ∷ bs) x cut p.0 e (ok_is (span id lo lo, b ∷ bs) x p.1)
      | inl p ↦
          let q = bind_ok (number_at (skip_while is_blank bs)) (λ hi. check_order id lo hi.0 (skip_while is_blank bs) (skip_while is_blank hi.1)) x p.1 in
          let o = ordered_ok id lo q.0.0 (skip_while is_blank bs) (skip_while is_blank q.0.1) x q.2 in
          let f = number_found bs q.0 q.1 in
          let dash : b ≡ 45 = eqb-true b 45 p.0 in
          subst (FoundUpper id lo r) o.1 (record {
            upper = Some (run is_blank r, f.n);
            tail = q.0.1;
            says = (gap_of r, f.says, ltb-false _ _ o.0);
            source = refl;
            low = refl;
            text = split r
                ∙ ap (λ (z : List ℕ). run is_blank r ++ z) (e ∙ ap (λ (c : ℕ). c ∷ bs) dash ∙ ap (λ (z : List ℕ). 45 ∷ z) f.text)
                ∙ sym (append_assoc (run is_blank r) (45 ∷ number_text f.n) q.0.1);
            left = refl;
            cut = f.cut;
            dash = tt;
          })
    ]

pub record FoundInterval (id : SourceId) (rest : List ℕ) (x : Span × List ℕ) : Type 0 where
  pub i : Interval
  pub tail : List ℕ
  pub says : IsInterval i id x.0
  pub text : rest ≡ interval_text i ++ tail
  pub left : x.1 ≡ skip_while is_blank tail
  pub cut : starts is_ascii_digit tail ≡ false
  pub dash : NoDash i.upper tail

pub interval_found : (id : SourceId) (rest : List ℕ) (x : Span × List ℕ) → interval_at id rest ≡ Ok x → FoundInterval id rest x
unfolding interval_at
interval_found id rest x e =
    let q = bind_ok (number_at (skip_while is_blank rest)) (λ lo. upper_at id lo.0 (skip_while is_blank lo.1)) x e in
    let f = number_found rest q.0 q.1 in
    let u = upper_found_at id q.0.0 q.0.1 (skip_while is_blank q.0.1) x f.cut refl q.2 in
    record {
      i = record { lo = f.n; upper = u.upper };
      tail = u.tail;
      says = record { source = u.source; lo = subst (IsNumber f.n) (sym u.low) f.says; upper = u.says };
      text = f.text ∙ ap (λ (z : List ℕ). number_text f.n ++ z) u.text ∙ sym (append_assoc (number_text f.n) (upper_text u.upper) u.tail);
      left = u.left;
      cut = u.cut;
      dash = u.dash;
    }

-- ---- what is left, from each state

-- the end of an element: the text ends, or goes on after a comma
abbrev EndSays : List ℕ → List Span → Type 0
EndSays tail back = (IsGap tail × (back ≡ [])) ⊎ ((gap : List ℕ) × (rest : List ℕ) × IsGap gap × (tail ≡ gap ++ 44 ∷ rest) × ParsesAs rest back)

-- the intervals after a colon, and what follows them
record SaysInside (id : SourceId) (rest : List ℕ) (spans : List Span) : Type 0 where
  i : Interval
  s : Span
  ps : List (List ℕ × Interval)
  ss : List Span
  tail : List ℕ
  back : List Span
  first : IsInterval i id s
  more : AreIntervals id ps ss
  text : rest ≡ interval_text i ++ (flat_map behind_colon ps ++ tail)
  end : EndSays tail back
  all : spans ≡ (s ∷ ss) ++ back

abbrev SaysFrom : Option SourceId → List ℕ → List Span → Type 0
SaysFrom None rest spans = ParsesAs rest spans
SaysFrom (Some id) rest spans = SaysInside id rest spans

-- with a first element
record Spelled (text : List ℕ) (spans : List Span) : Type 0 where
  e : Element
  es : List Element
  text_is : text ≡ set_text (e ∷ es)
  says : AreElements (e ∷ es) spans

some_element : (text : List ℕ) (spans : List Span) (es : List Element) → text ≡ set_text es → AreElements es spans → Spelled text spans
some_element text spans [] t h = record { e = (None, []); es = []; text_is = t; says = ([], [], h, (refl, refl), refl) }
some_element text spans (e ∷ es) t h = record { e = e; es = es; text_is = t; says = h }

-- an element and a comma before what parses
comma_first : (e : Element) (front : List Span) (rest : List ℕ) (back : List Span) → IsElement e front → ParsesAs rest back → ParsesAs (element_text e ++ 44 ∷ rest) (front ++ back)
comma_first e front rest back h r =
    let t = some_element rest back r.elements r.text_is r.says in
    record {
      elements = e ∷ t.e ∷ t.es;
      text_is = ap (λ (z : List ℕ). element_text e ++ 44 ∷ z) t.text_is;
      says = (front, back, refl, h, t.says);
    }

-- an element that ends
ended : (n : Named) (front : List Span) (tail : List ℕ) (back : List Span) → IsNamed n front → EndSays tail back → ParsesAs (named_text n ++ tail) (front ++ back)
ended n front tail back h (inl e) = record {
  elements = (Some n, tail) ∷ [];
  text_is = refl;
  says = (front, [], ap (λ (z : List Span). front ++ z) e.1, (e.0, h), refl);
}
ended n front tail back h (inr e) =
    subst (λ (z : List ℕ). ParsesAs z (front ++ back)) (append_assoc (named_text n) e.0 (44 ∷ e.1) ∙ ap (λ (z : List ℕ). named_text n ++ z) (sym e.3))
    (comma_first (Some n, e.0) front e.1 back (e.2, h) e.4)

-- ---- turn by turn

with_front_ok : (front : List Span) (r : Result (List Span) ScanFault) (spans : List Span) → with_front front r ≡ Ok spans → (m : List Span) × (r ≡ Ok m) × (front ++ m ≡ spans)
with_front_ok front (Ok m) spans e = (m, refl, ok_is (front ++ m) spans e)
with_front_ok front (Err d) spans e = absurd cc

-- the three ways on after an interval
unfoldable pub Separated : SourceId → List ℕ → Option SourceId × List ℕ → Type 0
Separated id x y = ((x ≡ []) × (None ≡ y.0) × ([] ≡ y.1)) ⊎ (((x ≡ 58 ∷ y.1) × (Some id ≡ y.0)) ⊎ ((x ≡ 44 ∷ y.1) × (None ≡ y.0)))

pub separator_cases : (id : SourceId) (x : List ℕ) (y : Option SourceId × List ℕ) → separator_at id x ≡ Ok y → Separated id x y
unfolding separator_at Separated
separator_cases id [] y e = let s = ok_is (None, []) y e in inl (refl, ap (λ (z : Option SourceId × List ℕ). z.0) s, ap (λ (z : Option SourceId × List ℕ). z.1) s)
separator_cases id (b ∷ bs) y e =
    elim (chosen (eqb b 58) (Ok (Some id, bs)) (cond (eqb b 44) (Ok (None, bs)) (refuse kinds.Stray (b ∷ bs))) (Ok y) e) [
      | inl p ↦
          let s = ok_is (Some id, bs) y p.1 in
          let c : b ≡ 58 = eqb-true b 58 p.0 in
          inr (inl (ap (λ (n : ℕ). n ∷ bs) c ∙ ap (λ (z : Option SourceId × List ℕ). 58 ∷ z.1) s, ap (λ (z : Option SourceId × List ℕ). z.0) s))
      | inr p ↦ elim (chosen (eqb b 44) (Ok (None, bs)) (refuse kinds.Stray (b ∷ bs)) (Ok y) p.1) [
        | inl q ↦
            let s = ok_is (None, bs) y q.1 in
            let c : b ≡ 44 = eqb-true b 44 q.0 in
            inr (inr (ap (λ (n : ℕ). n ∷ bs) c ∙ ap (λ (z : Option SourceId × List ℕ). 44 ∷ z.1) s, ap (λ (z : Option SourceId × List ℕ). z.0) s))
        | inr q ↦ absurd cc
      ]
    ]

nothing_spelled : (spans : List Span) → ParsesAs [] spans → spans ≡ []
unfolding spans_in turn_at
nothing_spelled spans h = let k = spells_read [] spans h in cc

pub gap_alone : (rest : List ℕ) → skip_while is_blank rest ≡ [] → IsGap rest
gap_alone rest e = subst IsGap (sym (split rest ∙ ap (λ (z : List ℕ). run is_blank rest ++ z) e ∙ append-nil (run is_blank rest))) (gap_of rest)

abbrev Known : List ℕ → (Option SourceId → List ℕ → Result (List Span) ScanFault) → Type 0
Known rest go = (next : Option SourceId) (left : List ℕ) (more : List Span) → length left < length rest → go next left ≡ Ok more → SaysFrom next left more

-- an interval and what is known after it
joined : (id : SourceId) (rest : List ℕ) (x : Span × List ℕ) (y : Option SourceId × List ℕ) (m spans : List Span)
    → FoundInterval id rest x → Separated id x.1 y → SaysFrom y.0 y.1 m → x.0 ∷ m ≡ spans → SaysInside id rest spans
unfolding Separated
joined id rest x y m spans f (inl c) says e =
    let nothing : ParsesAs [] m = subst (λ (z : List ℕ). ParsesAs z m) (sym c.2) (subst (λ (o : Option SourceId). SaysFrom o y.1 m) (sym c.1) says) in
    let none = nothing_spelled m nothing in
    record {
      i = f.i;
      s = x.0;
      ps = [];
      ss = [];
      tail = f.tail;
      back = m;
      first = f.says;
      more = tt;
      text = f.text;
      end = inl (gap_alone f.tail (sym f.left ∙ c.0), none);
      all = sym e;
    }
joined id rest x y m spans f (inr (inl c)) says e =
    let h : SaysInside id y.1 m = subst (λ (o : Option SourceId). SaysFrom o y.1 m) (sym c.1) says in
    let gap = run is_blank f.tail in
    let tail_is : f.tail ≡ gap ++ 58 ∷ next_interval (gap, h.i) h.ps h.tail = split f.tail ∙ ap (λ (z : List ℕ). gap ++ z) (sym f.left ∙ c.0 ∙ ap (λ (z : List ℕ). 58 ∷ z) h.text) in
    record {
      i = f.i;
      s = x.0;
      ps = (gap, h.i) ∷ h.ps;
      ss = h.s ∷ h.ss;
      tail = h.tail;
      back = h.back;
      first = f.says;
      more = (gap_of f.tail, h.first, h.more);
      text = f.text ∙ ap (λ (z : List ℕ). interval_text f.i ++ z) (tail_is ∙ sym (regrouped (gap, h.i) h.ps h.tail));
      end = h.end;
      all = sym e ∙ ap (λ (z : List Span). x.0 ∷ z) h.all;
    }
joined id rest x y m spans f (inr (inr c)) says e =
    let h : ParsesAs y.1 m = subst (λ (o : Option SourceId). SaysFrom o y.1 m) (sym c.1) says in
    record {
      i = f.i;
      s = x.0;
      ps = [];
      ss = [];
      tail = f.tail;
      back = m;
      first = f.says;
      more = tt;
      text = f.text;
      end = inr (run is_blank f.tail, y.1, gap_of f.tail, split f.tail ∙ ap (λ (z : List ℕ). run is_blank f.tail ++ z) (sym f.left ∙ c.0), h);
      all = sym e;
    }

inside_found : (id : SourceId) (rest : List ℕ) (spans : List Span) (t : Option Turn) (go : Option SourceId → List ℕ → Result (List Span) ScanFault)
    → Known rest go → turn_at (Some id) rest ≡ Ok t → go_on t go ≡ Ok spans → SaysInside id rest spans
unfolding turn_at
inside_found id rest spans t go known e g =
    let q = bind_ok (interval_at id rest) (λ i. separator_at id i.1 >>= λ next. Ok (Some (Some i.0, next.0, next.1))) t e in
    let r = bind_ok (separator_at id q.0.1) (λ next. Ok (Some (Some q.0.0, next.0, next.1))) t q.2 in
    let turned : Turn = (Some q.0.0, r.0.0, r.0.1) in
    let t-is : Some turned ≡ t = ok_is (Some turned) t r.2 in
    let w = with_front_ok (q.0.0 ∷ []) (go r.0.0 r.0.1) spans (ap (λ (o : Option Turn). go_on o go) t-is ∙ g) in
    let shorter = turn_shorter (Some id) rest turned (e ∙ ap Ok (sym t-is)) in
    joined id rest q.0 r.0 w.0 spans (interval_found id rest q.0 q.1) (separator_cases id q.0.1 r.0 r.1) (known r.0.0 r.0.1 w.0 shorter w.1) w.2

-- the two ways that an element begins
pub record Begun (xs : List ℕ) (y : Option SourceId × List ℕ) : Type 0 where
  pub id : SourceId
  pub after : List ℕ
  pub source : source_at xs ≡ Ok (id, after)
  pub colon : colon_at (skip_while is_blank after) ≡ Ok y.1
  pub next : Some id ≡ y.0

pub element_cases : (xs : List ℕ) (y : Option SourceId × List ℕ) → 0 < length xs → element_at xs ≡ Ok y → ((xs ≡ 44 ∷ y.1) × (None ≡ y.0)) ⊎ Begun xs y
unfolding element_at
element_cases [] y some e = absurd (omega arith)
element_cases (b ∷ bs) y some e =
    elim (chosen (eqb b 44) (Ok (None, bs)) (source_at (b ∷ bs) >>= λ id. colon_at (skip_while is_blank id.1) >>= λ rest. Ok (Some id.0, rest)) (Ok y) e) [
      | inl p ↦
          let s = ok_is (None, bs) y p.1 in
          let c : b ≡ 44 = eqb-true b 44 p.0 in
          inl (ap (λ (n : ℕ). n ∷ bs) c ∙ ap (λ (z : Option SourceId × List ℕ). 44 ∷ z.1) s, ap (λ (z : Option SourceId × List ℕ). z.0) s)
      | inr p ↦
          let q = bind_ok (source_at (b ∷ bs)) (λ id. colon_at (skip_while is_blank id.1) >>= λ rest. Ok (Some id.0, rest)) y p.1 in
          let r = bind_ok (colon_at (skip_while is_blank q.0.1)) (λ rest. Ok (Some q.0.0, rest)) y q.2 in
          let s = ok_is (Some q.0.0, r.0) y r.2 in
          inr (record {
            id = q.0.0;
            after = q.0.1;
            source = q.1;
            colon = r.1 ∙ ap (λ (z : Option SourceId × List ℕ). Ok z.1) s;
            next = ap (λ (z : Option SourceId × List ℕ). z.0) s;
          })
    ]

pub colon_is : (xs y : List ℕ) → colon_at xs ≡ Ok y → xs ≡ 58 ∷ y
colon_is [] y e = absurd cc
colon_is (b ∷ bs) y e =
    elim (chosen (eqb b 58) (Ok bs) (refuse kinds.NoInterval (b ∷ bs)) (Ok y) e) [
      | inl p ↦ let c : b ≡ 58 = eqb-true b 58 p.0 in ap (λ (n : ℕ). n ∷ bs) c ∙ ap (λ (z : List ℕ). 58 ∷ z) (ok_is bs y p.1)
      | inr p ↦ absurd cc
    ]

begun : (rest : List ℕ) (y : Option SourceId × List ℕ) (m : List Span) → ((skip_while is_blank rest ≡ 44 ∷ y.1) × (None ≡ y.0)) ⊎ Begun (skip_while is_blank rest) y → SaysFrom y.0 y.1 m → ParsesAs rest m
begun rest y m (inl c) says =
    let h : ParsesAs y.1 m = subst (λ (o : Option SourceId). SaysFrom o y.1 m) (sym c.1) says in
    subst (λ (z : List ℕ). ParsesAs z m) (sym (split rest ∙ ap (λ (z : List ℕ). run is_blank rest ++ z) c.0)) (comma_first (None, run is_blank rest) [] y.1 m (gap_of rest, refl) h)
begun rest y m (inr b) says =
    let h : SaysInside b.id y.1 m = subst (λ (o : Option SourceId). SaysFrom o y.1 m) (sym b.next) says in
    let xs = skip_while is_blank rest in
    let s = found_source_ok (source_of (run is_uuid_byte xs)) xs (skip_while is_uuid_byte xs) (b.id, b.after) b.source in
    let gap = run is_blank b.after in
    let n : Named = record { gap = run is_blank rest; uuid = run is_uuid_byte xs; first = (gap, h.i); more = h.ps } in
    let colons = flat_map behind_colon (n.first ∷ n.more) in
    let after_is : b.after ≡ colons ++ h.tail = split b.after ∙ ap (λ (z : List ℕ). gap ++ z) (colon_is (skip_while is_blank b.after) y.1 b.colon ∙ ap (λ (z : List ℕ). 58 ∷ z) h.text) ∙ sym (regrouped n.first n.more h.tail) in
    let xs_is : xs ≡ n.uuid ++ (colons ++ h.tail) = sym (run_past is_uuid_byte xs) ∙ ap (λ (z : List ℕ). n.uuid ++ z) (s.1 ∙ after_is) in
    let rest_is : rest ≡ named_text n ++ h.tail = split rest ∙ ap (λ (z : List ℕ). n.gap ++ z) xs_is ∙ ap (λ (z : List ℕ). n.gap ++ z) (sym (append_assoc n.uuid colons h.tail)) ∙ sym (append_assoc n.gap (n.uuid ++ colons) h.tail) in
    let named : IsNamed n (h.s ∷ h.ss) = record { id = b.id; gap = gap_of rest; bytes = run_passes is_uuid_byte xs; uuid = s.0; intervals = (gap_of b.after, h.first, h.more) } in
    subst (λ (z : List ℕ). ParsesAs z m) (sym rest_is) (subst (ParsesAs (named_text n ++ h.tail)) (sym h.all) (ended n (h.s ∷ h.ss) h.tail h.back named h.end))

outside_found : (rest : List ℕ) (spans : List Span) (t : Option Turn) (go : Option SourceId → List ℕ → Result (List Span) ScanFault)
    → Known rest go → turn_at None rest ≡ Ok t → go_on t go ≡ Ok spans → ParsesAs rest spans
unfolding turn_at
outside_found rest spans t go known e g =
    elim (chosen (eqb (length (skip_while is_blank rest)) 0) (Ok None) (element_at (skip_while is_blank rest) >>= λ next. Ok (Some (None, next.0, next.1))) (Ok t) e) [
      | inl p ↦
          let none : skip_while is_blank rest ≡ [] = nil_from_length (skip_while is_blank rest) (eqb-true _ _ p.0) in
          let t-is : None ≡ t = ok_is None t p.1 in
          let k : Ok [] ≡ Ok spans = ap (λ (o : Option Turn). go_on o go) t-is ∙ g in
          record { elements = (None, rest) ∷ []; text_is = refl; says = (spans, [], sym (append-nil spans), (gap_alone rest none, sym (ok_is [] spans k)), refl) }
      | inr p ↦
          let ne = eqb-false (length (skip_while is_blank rest)) 0 p.0 in
          let some : 0 < length (skip_while is_blank rest) = omega arith in
          let r = bind_ok (element_at (skip_while is_blank rest)) (λ next. Ok (Some (None, next.0, next.1))) t p.1 in
          let turned : Turn = (None, r.0.0, r.0.1) in
          let t-is : Some turned ≡ t = ok_is (Some turned) t r.2 in
          let w = with_front_ok [] (go r.0.0 r.0.1) spans (ap (λ (o : Option Turn). go_on o go) t-is ∙ g) in
          let shorter = turn_shorter None rest turned (e ∙ ap Ok (sym t-is)) in
          subst (ParsesAs rest) w.2 (begun rest r.0 w.0 (element_cases (skip_while is_blank rest) r.0 some r.1) (known r.0.0 r.0.1 w.0 shorter w.1))
    ]

found : (k : ℕ) (inside : Option SourceId) (rest : List ℕ) (spans : List Span) → length rest < k → spans_at k inside rest ≡ Ok spans → SaysFrom inside rest spans
found zero inside rest spans lt e = absurd (omega arith)
found (suc k) (Some id) rest spans lt e =
    let a = bind_ok (turn_at (Some id) rest) (λ t. go_on t (λ next left. spans_at k next left)) spans e in
    inside_found id rest spans a.0 (λ next left. spans_at k next left) (λ next left more shorter h. found k next left more (omega arith) h) a.1 a.2
found (suc k) None rest spans lt e =
    let a = bind_ok (turn_at None rest) (λ t. go_on t (λ next left. spans_at k next left)) spans e in
    outside_found rest spans a.0 (λ next left. spans_at k next left) (λ next left more shorter h. found k next left more (omega arith) h) a.1 a.2

pub read_spells : (text : List ℕ) (spans : List Span) → spans_in text ≡ Ok spans → ParsesAs text spans
unfolding spans_in
read_spells text spans e = found (suc (length text)) None text spans (omega arith) e
