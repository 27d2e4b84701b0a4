-- A text of one source, and a text of one GTID: reading is sound and complete, and where it is refused.
use Rattle.std.proofs.Common.{◌≡◌, ℕ, ◌<◌, Bool, false, eqb, List, [], ◌∷◌, ◌++◌, length, Some, Ok, Err, refl, sym, ap, subst, ◌∙◌, append_assoc, arith, inl, inr}
use Rattle.std.specs.Prelude.{codes}
use Rattle.std.specs.Char.{is_ascii_digit}
use Rattle.std.proofs.lemmas.List.{append-nil}
use Rattle.gtid_text.specs.Scan.{is_blank, is_uuid_byte, run, skip_while, ◌>>=◌, source_of, source_at, number_at, colon_at, end_at}
use Rattle.gtid_text.specs.Reading.{source_in, gtid_in}
use Rattle.gtid_text.specs.Grammar.{Number, number_text, IsGap, IsNumber, IsUuid, ParsesAsSource, IsSourceText, ParsesAsGtid, IsGtidText}
use Rattle.gtid_text.specs.Canonical.{source_text}
use Rattle.gtid_text.specs.Refused.{IsDue, IsMet, SameToken, IsStuck}
use Rattle.gtid_text.specs.declared.Gtid.{Gtid}
use Rattle.gtid_text.specs.declared.SourceId.{SourceId}
use Rattle.gtid_text.specs.declared.scan.ScanFault.{ScanFault}
use Rattle.gtid_text.specs.declared.scan.Kind.TheVariants as kinds
use Rattle.gtid_text.proofs.Tokens.{run_passes}
use Rattle.gtid_text.proofs.Turns.{bind_ok, ok_is, run_past, found_source_ok}
use Rattle.gtid_text.proofs.Spelled.{starts, starts_gap, starts_blank, past_cut, past_front, past_gap, run_front, number_reads, source_reads, uuid_some}
use Rattle.gtid_text.proofs.Found.{past_starts, gap_of, gap_alone, split, number_found, colon_is}
use Rattle.gtid_text.proofs.Stuck.{bind_err, number_err, found_source_err, colon_err, colon_none, same_starts, starts_behind, past_same, same_some, one_is}
use Rattle.gtid_text.proofs.RoundTrip.{source_bytes, source_again}

-- ---- reading is complete

uuid_reads : (gap uuid r : List ℕ) (id : SourceId) → IsGap gap → IsUuid uuid id → starts is_uuid_byte r ≡ false → source_at (skip_while is_blank (gap ++ (uuid ++ r))) ≡ Ok (id, r)
uuid_reads gap uuid r id g u cut =
    ap source_at (past_front is_blank gap (uuid ++ r) g ∙ past_cut is_blank (uuid ++ r) (starts_blank is_uuid_byte uuid r refl refl refl refl u.bytes (uuid_some uuid id u.names)))
    ∙ source_reads uuid r id u.bytes u.names cut

colon_reads : (gap r : List ℕ) → IsGap gap → colon_at (skip_while is_blank (gap ++ 58 ∷ r)) ≡ Ok r
colon_reads gap r g = ap colon_at (past_front is_blank gap (58 ∷ r) g)

end_reads : (gap : List ℕ) → IsGap gap → end_at (skip_while is_blank gap) ≡ Ok tt
end_reads gap g = ap end_at (past_gap gap g)

gap_cut : (p : ℕ → Bool) (gap : List ℕ) → p 32 ≡ false → p 9 ≡ false → p 13 ≡ false → p 10 ≡ false → IsGap gap → starts p gap ≡ false
gap_cut p gap a b c d g = ap (starts p) (sym (append-nil gap)) ∙ starts_gap p gap [] a b c d g refl

source_steps : (text : List ℕ) (x : SourceId × List ℕ) (u : Unit {0}) → source_at (skip_while is_blank text) ≡ Ok x → end_at (skip_while is_blank x.1) ≡ Ok u → source_in text ≡ Ok x.0
unfolding source_in
source_steps text x u e f = rw (e, f) refl

pub source_reads_back : (text : List ℕ) (id : SourceId) → ParsesAsSource text id → source_in text ≡ Ok id
source_reads_back text id s =
    source_steps text (id, s.after) tt
    (ap (λ (t : List ℕ). source_at (skip_while is_blank t)) s.text_is ∙ uuid_reads s.gap s.uuid s.after id s.gaps.0 s.is_uuid (gap_cut is_uuid_byte s.after refl refl refl refl s.gaps.1))
    (end_reads s.after s.gaps.1)

gtid_steps : (text : List ℕ) (x : SourceId × List ℕ) (rest : List ℕ) (n : ℕ × List ℕ) (u : Unit {0}) → source_at (skip_while is_blank text) ≡ Ok x → colon_at (skip_while is_blank x.1) ≡ Ok rest → number_at (skip_while is_blank rest) ≡ Ok n → end_at (skip_while is_blank n.1) ≡ Ok u → gtid_in text ≡ Ok (record { source = x.0; number = n.0 })
unfolding gtid_in
gtid_steps text x rest n u e f g h = rw (e, f, g, h) refl

pub gtid_reads_back : (text : List ℕ) (gtid : Gtid) → ParsesAsGtid text gtid → gtid_in text ≡ Ok gtid
gtid_reads_back text gtid s =
    let behind_colon = number_text s.number ++ s.after in
    let tail = s.behind ++ 58 ∷ behind_colon in
    gtid_steps text (gtid.source, tail) behind_colon (gtid.number, s.after) tt
    (ap (λ (t : List ℕ). source_at (skip_while is_blank t)) s.text_is ∙ uuid_reads s.gap s.uuid tail gtid.source s.gaps.0 s.is_uuid (starts_gap is_uuid_byte s.behind (58 ∷ behind_colon) refl refl refl refl s.gaps.1 refl))
    (colon_reads s.behind behind_colon s.gaps.1)
    (number_reads s.number gtid.number s.after s.is_number (gap_cut is_ascii_digit s.after refl refl refl refl s.gaps.2))
    (end_reads s.after s.gaps.2)

-- ---- reading is sound

record FoundSource (rest : List ℕ) (x : SourceId × List ℕ) : Type 0 where
  gap : List ℕ
  uuid : List ℕ
  blank : IsGap gap
  is : IsUuid uuid x.0
  text : rest ≡ gap ++ (uuid ++ x.1)
  cut : starts is_uuid_byte x.1 ≡ false

source_found : (rest : List ℕ) (x : SourceId × List ℕ) → source_at (skip_while is_blank rest) ≡ Ok x → FoundSource rest x
source_found rest x e =
    let y = skip_while is_blank rest in
    let uuid = run is_uuid_byte y in
    let f = found_source_ok (source_of uuid) y (skip_while is_uuid_byte y) x e in
    record {
      gap = run is_blank rest;
      uuid = uuid;
      blank = gap_of rest;
      is = record { bytes = run_passes is_uuid_byte y; names = f.0 };
      text = split rest ∙ ap (λ (z : List ℕ). run is_blank rest ++ z) (sym (run_past is_uuid_byte y) ∙ ap (λ (z : List ℕ). uuid ++ z) f.1);
      cut = ap (starts is_uuid_byte) (sym f.1) ∙ past_starts is_uuid_byte y;
    }

end_is : (xs : List ℕ) (u : Unit {0}) → end_at xs ≡ Ok u → xs ≡ []
end_is [] u e = refl
end_is (b ∷ bs) u e = absurd cc

pub source_spelled : (text : List ℕ) (id : SourceId) → source_in text ≡ Ok id → ParsesAsSource text id
unfolding source_in
source_spelled text id e =
    let a = bind_ok (source_at (skip_while is_blank text)) (λ x. end_at (skip_while is_blank x.1) >>= λ _. Ok x.0) id e in
    let b = bind_ok (end_at (skip_while is_blank a.0.1)) (λ _. Ok a.0.0) id a.2 in
    let f = source_found text a.0 a.1 in
    record {
      gap = f.gap;
      uuid = f.uuid;
      after = a.0.1;
      text_is = f.text;
      gaps = (f.blank, gap_alone a.0.1 (end_is (skip_while is_blank a.0.1) b.0 b.1));
      is_uuid = subst (IsUuid f.uuid) (ok_is a.0.0 id b.2) f.is;
    }

pub gtid_spelled : (text : List ℕ) (gtid : Gtid) → gtid_in text ≡ Ok gtid → ParsesAsGtid text gtid
unfolding gtid_in
gtid_spelled text gtid e =
    let a = bind_ok (source_at (skip_while is_blank text)) (λ x. colon_at (skip_while is_blank x.1) >>= λ rest. number_at (skip_while is_blank rest) >>= λ n. end_at (skip_while is_blank n.1) >>= λ _. Ok (record { source = x.0; number = n.0 })) gtid e in
    let b = bind_ok (colon_at (skip_while is_blank a.0.1)) (λ rest. number_at (skip_while is_blank rest) >>= λ n. end_at (skip_while is_blank n.1) >>= λ _. Ok (record { source = a.0.0; number = n.0 })) gtid a.2 in
    let c = bind_ok (number_at (skip_while is_blank b.0)) (λ n. end_at (skip_while is_blank n.1) >>= λ _. Ok (record { source = a.0.0; number = n.0 })) gtid b.2 in
    let d = bind_ok (end_at (skip_while is_blank c.0.1)) (λ _. Ok (record { source = a.0.0; number = c.0.0 })) gtid c.2 in
    let read : Gtid = record { source = a.0.0; number = c.0.0 } in
    let f = source_found text a.0 a.1 in
    let n = number_found b.0 c.0 c.1 in
    let g = run is_blank a.0.1 in
    subst (ParsesAsGtid text) (ok_is read gtid d.2) (record {
      gap = f.gap;
      uuid = f.uuid;
      behind = g;
      number = n.n;
      after = c.0.1;
      text_is = f.text ∙ ap (λ (z : List ℕ). f.gap ++ (f.uuid ++ z)) (split a.0.1 ∙ ap (λ (z : List ℕ). g ++ z) (colon_is (skip_while is_blank a.0.1) b.0 b.1 ∙ ap (λ (z : List ℕ). 58 ∷ z) n.text));
      gaps = (f.blank, gap_of a.0.1, gap_alone c.0.1 (end_is (skip_while is_blank c.0.1) d.0 d.1));
      is_uuid = f.is;
      is_number = n.says;
    })

-- ---- where it is refused

-- a UUID is refused alike
record SourceErr (y : List ℕ) (r : ScanFault) : Type 0 where
  left : r.left ≡ length y
  met : IsMet r.kind y
  due : (more : List ℕ) (id : SourceId) → source_of (run is_uuid_byte more) ≡ Some id → IsDue r.kind more
  again : (more : List ℕ) → SameToken r.kind more y → (e : ScanFault) × (source_at more ≡ Err e)

source_err : (y : List ℕ) (r : ScanFault) → source_at y ≡ Err r → SourceErr y r
source_err y r e =
    let f = found_source_err (source_of (run is_uuid_byte y)) y (skip_while is_uuid_byte y) r e in
    subst (SourceErr y) f.1 (record {
      left = refl;
      met = f.0;
      due = λ more id names. (id, names);
      again = λ more same. (record { kind = kinds.BadUuid; left = length more }, rw (same.runs, f.0) refl);
    })

-- a missing colon
record ColonErr (y : List ℕ) (r : ScanFault) : Type 0 where
  left : r.left ≡ length y
  met : IsMet r.kind y
  due : (more : List ℕ) → IsDue r.kind (58 ∷ more)
  again : (more : List ℕ) → SameToken r.kind more y → (e : ScanFault) × (colon_at more ≡ Err e)

colon_refused : (y : List ℕ) (r : ScanFault) → colon_at y ≡ Err r → ColonErr y r
colon_refused y r e =
    let k = colon_err y r e in
    subst (ColonErr y) k.1 (record {
      left = refl;
      met = tt;
      due = λ more. refl;
      again = λ more same. (record { kind = kinds.NoInterval; left = length more }, colon_none more (same_starts (λ b. eqb b 58) more y same.first ∙ k.0));
    })

-- what is there where the end is due
record EndErr (y : List ℕ) (r : ScanFault) : Type 0 where
  left : r.left ≡ length y
  met : IsMet r.kind y
  due : IsDue r.kind []
  again : (more : List ℕ) → SameToken r.kind more y → (e : ScanFault) × (end_at more ≡ Err e)

some_err : (more : List ℕ) → 0 < length more → (e : ScanFault) × (end_at more ≡ Err e)
some_err [] some = absurd (omega arith)
some_err (b ∷ bs) some = (record { kind = kinds.Stray; left = length (b ∷ bs) }, refl)

end_err : (y : List ℕ) (r : ScanFault) → end_at y ≡ Err r → EndErr y r
end_err [] r e = absurd cc
end_err (b ∷ bs) r e =
    let k : (record { kind = kinds.Stray; left = length (b ∷ bs) }) ≡ r = cc in
    subst (EndErr (b ∷ bs)) k (record {
      left = refl;
      met = omega arith;
      due = refl;
      again = λ more same. some_err more (same_some more (b ∷ bs) same.first (omega arith));
    })

-- a UUID that can always be gone on with
nil_uuid : IsUuid (source_text 0) 0
nil_uuid = record { bytes = source_bytes 0; names = source_again 0 (omega arith) }

due_uuid : (more : List ℕ) → starts is_uuid_byte more ≡ false → source_of (run is_uuid_byte (source_text 0 ++ more)) ≡ Some 0
due_uuid more cut = ap source_of (run_front is_uuid_byte (source_text 0) more nil_uuid.bytes cut) ∙ nil_uuid.names

source_first_err : (text : List ℕ) (e : ScanFault) → source_at (skip_while is_blank text) ≡ Err e → source_in text ≡ Err e
unfolding source_in
source_first_err text e h = rw h refl

source_last_err : (text : List ℕ) (x : SourceId × List ℕ) (e : ScanFault) → source_at (skip_while is_blank text) ≡ Ok x → end_at (skip_while is_blank x.1) ≡ Err e → source_in text ≡ Err e
unfolding source_in
source_last_err text x e h k = rw (h, k) refl

-- what is refused parses as nothing
no_source_text : (text : List ℕ) (e : ScanFault) → source_in text ≡ Err e → IsSourceText text → ⊥
no_source_text text e h s = let k = sym h ∙ source_reads_back text s.0 s.1 in absurd cc

pub source_stuck : (text : List ℕ) (r : ScanFault) → source_in text ≡ Err r → IsStuck IsSourceText text r
unfolding source_in
source_stuck text r e =
    elim (bind_err (source_at (skip_while is_blank text)) (λ x. end_at (skip_while is_blank x.1) >>= λ _. Ok x.0) r e) [
      | inl h ↦
          let g = run is_blank text in
          let s = source_err (skip_while is_blank text) r h in
          record {
            front = g;
            rest = skip_while is_blank text;
            parts = split text;
            left = s.left;
            met = s.met;
            more = source_text 0 ++ [];
            due = s.due (source_text 0 ++ []) 0 (due_uuid [] refl);
            viable = (0, record { gap = g; uuid = source_text 0; after = []; text_is = refl; gaps = (gap_of text, refl); is_uuid = nil_uuid });
            stuck = λ more same.
                let a = s.again more same in
                no_source_text (g ++ more) a.0 (source_first_err (g ++ more) a.0 (ap source_at (past_same g more text (gap_of text) same.first) ∙ a.1));
          }
      | inr h ↦
          elim (bind_err (end_at (skip_while is_blank h.0.1)) (λ _. Ok h.0.0) r h.2) [
            | inr k ↦ absurd (let z = k.2 in cc)
            | inl k ↦
                let f = source_found text h.0 h.1 in
                let g = run is_blank h.0.1 in
                let y = skip_while is_blank h.0.1 in
                let s = end_err y r k in
                let front = f.gap ++ (f.uuid ++ g) in
                let regroup : (more : List ℕ) → front ++ more ≡ f.gap ++ (f.uuid ++ (g ++ more)) = λ more. append_assoc f.gap (f.uuid ++ g) more ∙ ap (λ (z : List ℕ). f.gap ++ z) (append_assoc f.uuid g more) in
                record {
                  front = front;
                  rest = y;
                  parts = f.text ∙ ap (λ (z : List ℕ). f.gap ++ (f.uuid ++ z)) (split h.0.1) ∙ sym (regroup y);
                  left = s.left;
                  met = s.met;
                  more = [];
                  due = s.due;
                  viable = (h.0.0, record { gap = f.gap; uuid = f.uuid; after = g ++ []; text_is = regroup []; gaps = (f.blank, subst IsGap (sym (append-nil g)) (gap_of h.0.1)); is_uuid = f.is });
                  stuck = λ more same.
                      let a = s.again more same in
                      let cut : starts is_uuid_byte (g ++ more) ≡ false = starts_behind is_uuid_byte g more y same.first ∙ ap (starts is_uuid_byte) (sym (split h.0.1)) ∙ f.cut in
                      let whole = f.gap ++ (f.uuid ++ (g ++ more)) in
                      let read = uuid_reads f.gap f.uuid (g ++ more) h.0.0 f.blank f.is cut in
                      no_source_text (front ++ more) a.0 (ap source_in (regroup more) ∙ source_last_err whole (h.0.0, g ++ more) a.0 read (ap end_at (past_same g more h.0.1 (gap_of h.0.1) same.first) ∙ a.1));
                }
          ]
    ]

-- ---- where a GTID is refused

gtid_source_err : (text : List ℕ) (e : ScanFault) → source_at (skip_while is_blank text) ≡ Err e → gtid_in text ≡ Err e
unfolding gtid_in
gtid_source_err text e h = rw h refl

gtid_colon_err : (text : List ℕ) (x : SourceId × List ℕ) (e : ScanFault) → source_at (skip_while is_blank text) ≡ Ok x → colon_at (skip_while is_blank x.1) ≡ Err e → gtid_in text ≡ Err e
unfolding gtid_in
gtid_colon_err text x e h k = rw (h, k) refl

gtid_number_err : (text : List ℕ) (x : SourceId × List ℕ) (rest : List ℕ) (e : ScanFault) → source_at (skip_while is_blank text) ≡ Ok x → colon_at (skip_while is_blank x.1) ≡ Ok rest → number_at (skip_while is_blank rest) ≡ Err e → gtid_in text ≡ Err e
unfolding gtid_in
gtid_number_err text x rest e h k l = rw (h, k, l) refl

gtid_end_err : (text : List ℕ) (x : SourceId × List ℕ) (rest : List ℕ) (n : ℕ × List ℕ) (e : ScanFault) → source_at (skip_while is_blank text) ≡ Ok x → colon_at (skip_while is_blank x.1) ≡ Ok rest → number_at (skip_while is_blank rest) ≡ Ok n → end_at (skip_while is_blank n.1) ≡ Err e → gtid_in text ≡ Err e
unfolding gtid_in
gtid_end_err text x rest n e h k l m = rw (h, k, l, m) refl

-- what is refused parses as nothing
no_gtid_text : (text : List ℕ) (e : ScanFault) → gtid_in text ≡ Err e → IsGtidText text → ⊥
no_gtid_text text e h s = let k = sym h ∙ gtid_reads_back text s.0 s.1 in absurd cc

abbrev one : Number
one = record { gap = []; digits = codes "1" }

stuck_source : (text : List ℕ) (r : ScanFault) → source_at (skip_while is_blank text) ≡ Err r → IsStuck IsGtidText text r
stuck_source text r h =
    let g = run is_blank text in
    let s = source_err (skip_while is_blank text) r h in
    let first : Gtid = record { source = 0; number = 1 } in
    record {
      front = g;
      rest = skip_while is_blank text;
      parts = split text;
      left = s.left;
      met = s.met;
      more = source_text 0 ++ 58 ∷ codes "1";
      due = s.due (source_text 0 ++ 58 ∷ codes "1") 0 (due_uuid (58 ∷ codes "1") refl);
      viable = (first, record { gap = g; uuid = source_text 0; behind = []; number = one; after = []; text_is = refl; gaps = (gap_of text, refl, refl); is_uuid = nil_uuid; is_number = one_is [] refl });
      stuck = λ more same.
          let a = s.again more same in
          no_gtid_text (g ++ more) a.0 (gtid_source_err (g ++ more) a.0 (ap source_at (past_same g more text (gap_of text) same.first) ∙ a.1));
    }

stuck_colon : (text : List ℕ) (x : SourceId × List ℕ) (r : ScanFault) → source_at (skip_while is_blank text) ≡ Ok x → colon_at (skip_while is_blank x.1) ≡ Err r → IsStuck IsGtidText text r
stuck_colon text x r h k =
    let f = source_found text x h in
    let g = run is_blank x.1 in
    let y = skip_while is_blank x.1 in
    let s = colon_refused y r k in
    let front = f.gap ++ (f.uuid ++ g) in
    let regroup : (more : List ℕ) → front ++ more ≡ f.gap ++ (f.uuid ++ (g ++ more)) = λ more. append_assoc f.gap (f.uuid ++ g) more ∙ ap (λ (z : List ℕ). f.gap ++ z) (append_assoc f.uuid g more) in
    let first : Gtid = record { source = x.0; number = 1 } in
    record {
      front = front;
      rest = y;
      parts = f.text ∙ ap (λ (z : List ℕ). f.gap ++ (f.uuid ++ z)) (split x.1) ∙ sym (regroup y);
      left = s.left;
      met = s.met;
      more = 58 ∷ codes "1";
      due = s.due (codes "1");
      viable = (first, record { gap = f.gap; uuid = f.uuid; behind = g; number = one; after = []; text_is = regroup (58 ∷ codes "1"); gaps = (f.blank, gap_of x.1, refl); is_uuid = f.is; is_number = one_is [] refl });
      stuck = λ more same.
          let a = s.again more same in
          let cut : starts is_uuid_byte (g ++ more) ≡ false = starts_behind is_uuid_byte g more y same.first ∙ ap (starts is_uuid_byte) (sym (split x.1)) ∙ f.cut in
          let whole = f.gap ++ (f.uuid ++ (g ++ more)) in
          no_gtid_text (front ++ more) a.0 (ap gtid_in (regroup more) ∙ gtid_colon_err whole (x.0, g ++ more) a.0 (uuid_reads f.gap f.uuid (g ++ more) x.0 f.blank f.is cut) (ap colon_at (past_same g more x.1 (gap_of x.1) same.first) ∙ a.1));
    }

-- a text that is read up to its number
record Begun (text : List ℕ) (id : SourceId) (rest : List ℕ) : Type 0 where
  front : List ℕ
  text_is : text ≡ front ++ rest
  source : (more : List ℕ) → (after : List ℕ) × (source_at (skip_while is_blank (front ++ more)) ≡ Ok (id, after)) × (colon_at (skip_while is_blank after) ≡ Ok more)
  parsed : (more : List ℕ) (n : Number) (after : List ℕ) (value : ℕ) → more ≡ number_text n ++ after → IsNumber n value → IsGap after → IsGtidText (front ++ more)

begun : (text : List ℕ) (x : SourceId × List ℕ) (rest : List ℕ) → source_at (skip_while is_blank text) ≡ Ok x → colon_at (skip_while is_blank x.1) ≡ Ok rest → Begun text x.0 rest
begun text x rest h k =
    let f = source_found text x h in
    let g = run is_blank x.1 in
    let front = f.gap ++ (f.uuid ++ (g ++ 58 ∷ [])) in
    let regroup : (more : List ℕ) → front ++ more ≡ f.gap ++ (f.uuid ++ (g ++ 58 ∷ more)) = λ more. append_assoc f.gap (f.uuid ++ (g ++ 58 ∷ [])) more ∙ ap (λ (z : List ℕ). f.gap ++ z) (append_assoc f.uuid (g ++ 58 ∷ []) more ∙ ap (λ (z : List ℕ). f.uuid ++ z) (append_assoc g (58 ∷ []) more)) in
    record {
      front = front;
      text_is = f.text ∙ ap (λ (z : List ℕ). f.gap ++ (f.uuid ++ z)) (split x.1 ∙ ap (λ (z : List ℕ). g ++ z) (colon_is (skip_while is_blank x.1) rest k)) ∙ sym (regroup rest);
      source = λ more. (
        g ++ 58 ∷ more,
        ap (λ (t : List ℕ). source_at (skip_while is_blank t)) (regroup more) ∙ uuid_reads f.gap f.uuid (g ++ 58 ∷ more) x.0 f.blank f.is (starts_gap is_uuid_byte g (58 ∷ more) refl refl refl refl (gap_of x.1) refl),
        colon_reads g more (gap_of x.1),
      );
      parsed = λ more n after value is says blank. (
        record { source = x.0; number = value },
        record { gap = f.gap; uuid = f.uuid; behind = g; number = n; after = after; text_is = regroup more ∙ ap (λ (z : List ℕ). f.gap ++ (f.uuid ++ (g ++ 58 ∷ z))) is; gaps = (f.blank, gap_of x.1, blank); is_uuid = f.is; is_number = says },
      );
    }

stuck_number : (text : List ℕ) (id : SourceId) (rest : List ℕ) (r : ScanFault) → Begun text id rest → number_at (skip_while is_blank rest) ≡ Err r → IsStuck IsGtidText text r
stuck_number text id rest r b h =
    let g = run is_blank rest in
    let y = skip_while is_blank rest in
    let s = number_err y r h in
    let front = b.front ++ g in
    record {
      front = front;
      rest = y;
      parts = b.text_is ∙ ap (λ (z : List ℕ). b.front ++ z) (split rest) ∙ sym (append_assoc b.front g y);
      left = s.left;
      met = s.met;
      more = codes "1";
      due = s.due (codes "1") (omega arith);
      viable = subst IsGtidText (sym (append_assoc b.front g (codes "1"))) (b.parsed (g ++ codes "1") (record { gap = g; digits = codes "1" }) [] 1 (sym (append-nil (g ++ codes "1"))) (one_is g (gap_of rest)) refl);
      stuck = λ more same.
          let a = s.again more same in
          let p = b.source (g ++ more) in
          no_gtid_text (front ++ more) a.0 (ap gtid_in (append_assoc b.front g more) ∙ gtid_number_err (b.front ++ (g ++ more)) (id, p.0) (g ++ more) a.0 p.1 p.2 (ap number_at (past_same g more rest (gap_of rest) same.first) ∙ a.1));
    }

stuck_end : (text : List ℕ) (id : SourceId) (rest : List ℕ) (n : ℕ × List ℕ) (r : ScanFault) → Begun text id rest → number_at (skip_while is_blank rest) ≡ Ok n → end_at (skip_while is_blank n.1) ≡ Err r → IsStuck IsGtidText text r
stuck_end text id rest n r b h k =
    let f = number_found rest n h in
    let digits = number_text f.n in
    let g = run is_blank n.1 in
    let y = skip_while is_blank n.1 in
    let s = end_err y r k in
    let front = b.front ++ (digits ++ g) in
    let regroup : (more : List ℕ) → front ++ more ≡ b.front ++ (digits ++ (g ++ more)) = λ more. append_assoc b.front (digits ++ g) more ∙ ap (λ (z : List ℕ). b.front ++ z) (append_assoc digits g more) in
    record {
      front = front;
      rest = y;
      parts = b.text_is ∙ ap (λ (z : List ℕ). b.front ++ z) (f.text ∙ ap (λ (z : List ℕ). digits ++ z) (split n.1)) ∙ sym (regroup y);
      left = s.left;
      met = s.met;
      more = [];
      due = s.due;
      viable = subst IsGtidText (sym (regroup [])) (b.parsed (digits ++ (g ++ [])) f.n (g ++ []) n.0 refl f.says (subst IsGap (sym (append-nil g)) (gap_of n.1)));
      stuck = λ more same.
          let a = s.again more same in
          let cut : starts is_ascii_digit (g ++ more) ≡ false = starts_behind is_ascii_digit g more y same.first ∙ ap (starts is_ascii_digit) (sym (split n.1)) ∙ f.cut in
          let p = b.source (digits ++ (g ++ more)) in
          no_gtid_text (front ++ more) a.0 (ap gtid_in (regroup more) ∙ gtid_end_err (b.front ++ (digits ++ (g ++ more))) (id, p.0) (digits ++ (g ++ more)) (n.0, g ++ more) a.0 p.1 p.2 (number_reads f.n n.0 (g ++ more) f.says cut) (ap end_at (past_same g more n.1 (gap_of n.1) same.first) ∙ a.1));
    }

pub gtid_stuck : (text : List ℕ) (r : ScanFault) → gtid_in text ≡ Err r → IsStuck IsGtidText text r
unfolding gtid_in
gtid_stuck text r e =
    elim (bind_err (source_at (skip_while is_blank text)) (λ x. colon_at (skip_while is_blank x.1) >>= λ rest. number_at (skip_while is_blank rest) >>= λ n. end_at (skip_while is_blank n.1) >>= λ _. Ok (record { source = x.0; number = n.0 })) r e) [
      | inl h ↦ stuck_source text r h
      | inr h ↦ elim (bind_err (colon_at (skip_while is_blank h.0.1)) (λ rest. number_at (skip_while is_blank rest) >>= λ n. end_at (skip_while is_blank n.1) >>= λ _. Ok (record { source = h.0.0; number = n.0 })) r h.2) [
        | inl k ↦ stuck_colon text h.0 r h.1 k
        | inr k ↦ elim (bind_err (number_at (skip_while is_blank k.0)) (λ n. end_at (skip_while is_blank n.1) >>= λ _. Ok (record { source = h.0.0; number = n.0 })) r k.2) [
          | inl l ↦ stuck_number text h.0.0 k.0 r (begun text h.0 k.0 h.1 k.1) l
          | inr l ↦ elim (bind_err (end_at (skip_while is_blank l.0.1)) (λ _. Ok (record { source = h.0.0; number = l.0.0 })) r l.2) [
            | inl m ↦ stuck_end text h.0.0 k.0 l.0 r (begun text h.0 k.0 h.1 k.1) l.1 m
            | inr m ↦ absurd (let z = m.2 in cc)
          ]
        ]
      ]
    ]
