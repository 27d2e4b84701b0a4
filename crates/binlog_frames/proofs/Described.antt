-- A FORMAT_DESCRIPTION that is read is spelled so, and the other way round; and a fault stays, whatever comes.
use Rattle.std.proofs.Common.{◌≡◌, ℕ, zero, suc, ◌+◌, ◌-◌, ◌*◌, ◌/◌, ◌%◌, ◌^◌, ◌<◌, ◌≤◌, Bool, true, false, not, ◌&&◌, cond, List, [], ◌∷◌, ◌++◌, length, take, drop, get_or, Some, Result, Ok, Err, refl, sym, ap, subst, ◌∙◌, arith, inl, inr, length-append}
use Rattle.std.specs.Prelude.{nat_lt, ◌==◌, slice_index}
use Rattle.std.specs.Int.{w32, to_le_bytes, from_le_bytes}
use Rattle.std.proofs.lemmas.Bool.{ltb-true, ltb-false, le-ltb, lt-ltb, eqb-true, eq-eqb, and_parts}
use Rattle.std.proofs.lemmas.List.{take_at, take-append-drop, take-append-le, get_or_append_left}
use Rattle.crc32.specs.Crc.{crc32}
use Rattle.binlog_frames.proofs.SumRange.{sum_fits}
use Rattle.binlog_frames.specs.declared.fault.FaultKind.{FaultKind}
use Rattle.binlog_frames.specs.declared.fault.FaultKind.TheVariants as faults
use Rattle.binlog_frames.specs.Spelling.{Framed, tail_len, len_of, covered, closed, description_text, Fits, IsDescription, bit_of}
use Rattle.binlog_frames.specs.Reading.{number_at, length_from, length_at, fields_of, has_open_sum, first_of, has_form, some_of, then_read, later_of, later_at, first_at, is_checked}
use Rattle.binlog_frames.proofs.Spelled.{IsBytes, IsBytes-take, length-covered, length-text, covered-header, length_from-some, length_from-has, length_from-fault, then_some, then_err}
use Rattle.binlog_frames.proofs.Events.{sum_behind, fields_again, found_again, fits_of, length-fields, front_of, sealed, chosen_ok, not_false, ok_same}

-- the flag of a file in use is not covered
opened : (len end : ℕ) (e : Framed) (S : List ℕ) → length S ≡ 4
    → take 17 (covered len end e ++ S) ++ (slice_index (covered len end e ++ S) 17 / 2 * 2 ∷ take (length (covered len end e ++ S) - 4 - 18) (drop 18 (covered len end e ++ S)))
    ≡ covered len end (closed e)
unfolding covered
opened len end e S four =
    let low : e.flags % 256 / 2 * 2 ≡ e.flags / 2 * 2 % 256 = omega arith in
    let high : e.flags / 256 % 256 ≡ e.flags / 2 * 2 / 256 % 256 = omega arith in
    let k : length (covered len end e ++ S) - 4 - 18 ≡ suc (length e.body) = omega (arith, length-append (covered len end e) S, length-covered len end e) in
    let behind : take (length (covered len end e ++ S) - 4 - 18) (e.flags / 256 % 256 ∷ (e.body ++ S)) ≡ e.flags / 2 * 2 / 256 % 256 ∷ e.body =
    ap (λ j. take j (e.flags / 256 % 256 ∷ (e.body ++ S))) k ∙ (λ i. high i ∷ take_at e.body S (length e.body) refl i) in
    (λ i. to_le_bytes w32 e.time ++ (e.kind ∷ (to_le_bytes w32 e.server ++ (to_le_bytes w32 len ++ (to_le_bytes w32 (end % 2 ^ 32) ++ (low i ∷ behind i))))))

form_of : (checked : Bool) (d : Framed) → IsDescription checked d → has_form d.body ≡ true
unfolding has_form
form_of checked d h =
    let a : (slice_index d.body 0 == 4) ≡ true = eq-eqb _ 4 h.low in
    let b : (slice_index d.body 1 == 0) ≡ true = eq-eqb _ 0 h.high in
    let c : (slice_index d.body 56 == 19) ≡ true = eq-eqb _ 19 h.header in
    let e : nat_lt (slice_index d.body (length d.body - 1)) 2 ≡ true = lt-ltb _ 2 (rw h.algorithm (elim checked as (λ v. bit_of v < 2) [ true ↦ omega arith | false ↦ omega arith ])) in
    (λ i. a i && (b i && (c i && e i)))

first_of-text : (checked : Bool) (d : Framed) → IsDescription checked d → first_of (description_text d) ≡ Ok d
unfolding first_of has_open_sum
first_of-text checked d h =
    let end : ℕ = 4 + len_of true d in
    let C : List ℕ = covered (len_of true d) end d in
    let O : List ℕ = covered (len_of true d) end (closed d) in
    let S : List ℕ = to_le_bytes w32 (crc32 O) in
    let f = covered-header true end d S h.fits in
    let kind : (slice_index (C ++ S) 4 == 15) ≡ true = eq-eqb _ 15 (f.kind ∙ h.kind) in
    let lc : length C ≡ 19 + length d.body = length-covered (len_of true d) end d in
    let l58 : 58 ≤ length d.body = h.long in
    let long : nat_lt (length (C ++ S)) 81 ≡ false = le-ltb (length (C ++ S)) 81 (omega (arith, length-append C S)) in
    let fields = fields_again true end d O h.fits in
    let form : has_form (fields_of 4 (C ++ S)).body ≡ true = ap (λ (x : Framed). has_form x.body) fields ∙ form_of checked d h in
    let n : length (C ++ S) - 4 ≡ length C = omega (arith, length-append C S) in
    let back : number_at (C ++ S) (length (C ++ S) - 4) ≡ crc32 O = sum_behind C S (length (C ++ S) - 4) (crc32 O) (sym n) (sum_fits O) in
    let sum : (crc32 (take 17 (C ++ S) ++ (slice_index (C ++ S) 17 / 2 * 2 ∷ take (length (C ++ S) - 4 - 18) (drop 18 (C ++ S)))) == number_at (C ++ S) (length (C ++ S) - 4)) ≡ true =
    eq-eqb _ _ (ap crc32 (opened (len_of true d) end d S refl) ∙ sym back) in
    (λ i. cond (not (kind i)) (Err faults.Description) (cond (long i) (Err faults.Description) (cond (not (form i)) (Err faults.Description) (cond (not (sum i)) (Err faults.Checksum) (Ok (fields i))))))

pub first_again : (checked : Bool) (d : Framed) (rest : List ℕ) → IsDescription checked d → first_at (description_text d ++ rest) ≡ Ok (Some d)
unfolding first_at
first_again checked d rest h =
    let n : ℕ = len_of true d in
    let O : List ℕ = covered n (4 + n) (closed d) in
    let B : List ℕ = description_text d ++ rest in
    let front : take n B ≡ description_text d = take_at (description_text d) rest n (length-text true 4 d d O) in
    (λ i. then_read (found_again true 4 d O rest h.fits i) (λ n. first_of (take n B)))
    ∙ ap (λ t. some_of (first_of t)) front
    ∙ ap some_of (first_of-text checked d h)

bit_checked : (n : ℕ) → n < 2 → n ≡ bit_of (n == 1)
bit_checked zero h = refl
bit_checked (suc zero) h = refl
bit_checked (suc (suc n)) h = absurd (omega arith)

description_of : (d : Framed) → Fits true d → d.kind ≡ 15 → 58 ≤ length d.body → has_form d.body ≡ true → IsDescription (is_checked d) d
unfolding has_form
description_of d f k long e =
    let a = and_parts _ _ e in
    let b = and_parts _ _ a.1 in
    let c = and_parts _ _ b.1 in
    record {
      fits = f;
      kind = k;
      long = long;
      low = eqb-true _ _ a.0;
      high = eqb-true _ _ b.0;
      header = eqb-true _ _ c.0;
      algorithm = bit_checked _ (ltb-true _ _ c.1);
    }

pub record TakesFirst (bytes : List ℕ) (d : Framed) : Type 0 where
  pub whole : bytes ≡ description_text d ++ drop (len_of true d) bytes
  pub description : IsDescription (is_checked d) d
  pub long : len_of true d ≤ length bytes

first_of-takes : (E : List ℕ) (d : Framed) → IsBytes E → 23 ≤ length E → number_at E 9 ≡ length E → number_at E 13 ≡ (4 + length E) % 2 ^ 32 → first_of E ≡ Ok d
    → (E ≡ description_text d) × IsDescription (is_checked d) d
unfolding first_of has_open_sum fields_of
first_of-takes E d b least len place r =
    let k = chosen_ok (not (slice_index E 4 == 15)) faults.Description _ _ r in
    let l = chosen_ok (nat_lt (length E) 81) faults.Description _ _ k.1 in
    let f = chosen_ok (not (has_form (fields_of 4 E).body)) faults.Description _ _ l.1 in
    let s = chosen_ok (not (crc32 (take 17 E ++ (slice_index E 17 / 2 * 2 ∷ take (length E - 4 - 18) (drop 18 E))) == number_at E (length E - 4))) faults.Checksum _ _ f.1 in
    let same : fields_of 4 E ≡ d = ok_same _ _ s.1 in
    let p = sealed 4 4 E refl b least len place in
    let all : len_of true (fields_of 4 E) ≡ length E = length-fields 4 E least in
    let C : List ℕ = covered (length E) (4 + length E) (fields_of 4 E) in
    let S : List ℕ = to_le_bytes w32 (number_at E (length E - 4)) in
    let E_is : E ≡ C ++ S = sym (take-append-drop (length E - 4) E) ∙ (λ i. p.0 i ++ p.1 i) in
    let open_is : take 17 E ++ (slice_index E 17 / 2 * 2 ∷ take (length E - 4 - 18) (drop 18 E)) ≡ covered (length E) (4 + length E) (closed (fields_of 4 E)) =
    ap (λ (x : List ℕ). take 17 x ++ (slice_index x 17 / 2 * 2 ∷ take (length x - 4 - 18) (drop 18 x))) E_is ∙ opened (length E) (4 + length E) (fields_of 4 E) S refl in
    let crc : number_at E (length E - 4) ≡ crc32 (covered (length E) (4 + length E) (closed (fields_of 4 E))) = sym (eqb-true _ _ (not_false _ s.0)) ∙ ap crc32 open_is in
    let text : E ≡ description_text (fields_of 4 E) =
    E_is ∙ ap (λ n. C ++ to_le_bytes w32 n) crc
    ∙ (λ i. covered (sym all i) (4 + sym all i) (fields_of 4 E) ++ to_le_bytes w32 (crc32 (covered (sym all i) (4 + sym all i) (closed (fields_of 4 E))))) in
    let long : 58 ≤ length (fields_of 4 E).body = omega (arith, ltb-false (length E) 81 l.0, all) in
    let described = description_of (fields_of 4 E) (fits_of true E b least len) (eqb-true _ _ (not_false _ k.0)) long (not_false _ f.0) in
    (text ∙ ap description_text same, subst (λ (x : Framed). IsDescription (is_checked x) x) same described)

pub first_takes : (bytes : List ℕ) (d : Framed) → IsBytes bytes → first_at bytes ≡ Ok (Some d) → TakesFirst bytes d
unfolding first_at
first_takes bytes d b r =
    let p = then_some (length_at 4 4 bytes) (λ n. first_of (take n bytes)) d r in
    let n : ℕ = p.0 in
    let h = front_of 4 4 bytes n p.1 in
    let q = first_of-takes (take n bytes) d (IsBytes-take n bytes b) h.least h.len h.place p.2 in
    let all : length (take n bytes) ≡ len_of true d = ap length q.0 ∙ length-text true 4 d d _ in
    let n_is : n ≡ len_of true d = sym h.same ∙ all in
    record {
      whole = sym (take-append-drop n bytes) ∙ (λ i. q.0 i ++ drop (n_is i) bytes);
      description = q.1;
      long = rw (← n_is) h.within;
    }

-- ---- a fault stays

pub header_stays : (bytes more : List ℕ) (i : ℕ) → i + 4 ≤ length bytes → number_at (bytes ++ more) i ≡ number_at bytes i
header_stays bytes more i h =
    let p : (j : ℕ) → j < length bytes → get_or (bytes ++ more) j 0 ≡ get_or bytes j 0 = λ j q. get_or_append_left bytes more 0 j q in
    (λ k. from_le_bytes w32 (p i (omega arith) k ∷ p (i + 1) (omega arith) k ∷ p (i + 2) (omega arith) k ∷ p (i + 3) (omega arith) k ∷ []))

pub fault_stays : {A : Type 0} (t offset : ℕ) (read : List ℕ → Result A FaultKind) (bytes more : List ℕ) (f : FaultKind)
    → then_read (length_at t offset bytes) (λ n. read (take n bytes)) ≡ Err f
    → then_read (length_at t offset (bytes ++ more)) (λ n. read (take n (bytes ++ more))) ≡ Err f
fault_stays t offset read bytes more f e =
    let le : length bytes ≤ length (bytes ++ more) = omega (arith, length-append bytes more) in
    elim (then_err (length_at t offset bytes) (λ n. read (take n bytes)) f e) [
      | inl h ↦
          let p = length_from-fault t offset (length bytes) (length (bytes ++ more)) (number_at bytes 9) (number_at bytes 13) f le h in
          let long : 19 ≤ length bytes = p.0 in
          (λ i. then_read (length_from t offset (length (bytes ++ more)) (header_stays bytes more 9 (omega arith) i) (header_stays bytes more 13 (omega arith) i)) (λ n. read (take n (bytes ++ more))))
          ∙ ap (λ r. then_read r (λ n. read (take n (bytes ++ more)))) p.1
      | inr q ↦
          let n : ℕ = q.0 in
          let h = length_from-has t offset (length bytes) (number_at bytes 9) (number_at bytes 13) n q.1 in
          let long : 19 ≤ length bytes = h.long in
          let whole : number_at bytes 9 ≤ length bytes = h.whole in
          let found = length_from-some t offset (length (bytes ++ more)) (number_at bytes 9) (number_at bytes 13) (omega arith) h.least h.here (omega arith) in
          let within : n ≤ length bytes = rw (← h.same) whole in
          (λ i. then_read (length_from t offset (length (bytes ++ more)) (header_stays bytes more 9 (omega arith) i) (header_stays bytes more 13 (omega arith) i)) (λ n. read (take n (bytes ++ more))))
          ∙ ap (λ r. then_read r (λ n. read (take n (bytes ++ more)))) (found ∙ ap (λ k. Ok (Some k)) h.same)
          ∙ ap (λ x. some_of (read x)) (take-append-le n bytes more within)
          ∙ ap some_of q.2
    ]

pub later_stays : (checked : Bool) (offset : ℕ) (bytes more : List ℕ) (f : FaultKind) → later_at checked offset bytes ≡ Err f → later_at checked offset (bytes ++ more) ≡ Err f
unfolding later_at
later_stays checked offset bytes more f e = fault_stays (tail_len checked) offset (later_of checked) bytes more f e

pub first_stays : (bytes more : List ℕ) (f : FaultKind) → first_at bytes ≡ Err f → first_at (bytes ++ more) ≡ Err f
unfolding first_at
first_stays bytes more f e = fault_stays 4 4 first_of bytes more f e
