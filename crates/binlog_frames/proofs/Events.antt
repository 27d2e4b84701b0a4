-- An event that is read is spelled so, and an event that is spelled is read.
use Rattle.std.proofs.Common.{◌≡◌, ℕ, suc, ◌+◌, ◌-◌, ◌%◌, ◌^◌, ◌<◌, ◌≤◌, Bool, true, false, not, cond, List, [], ◌∷◌, ◌++◌, length, take, drop, get_or, Some, Result, Ok, Err, refl, sym, ap, subst, ◌∙◌, arith, append_assoc, length-append}
use Rattle.std.specs.Prelude.{◌==◌, slice_index}
use Rattle.std.specs.Int.{w16, w32, to_le_bytes, from_le_bytes}
use Rattle.std.proofs.Math.Seq.{get_or-append_right}
use Rattle.std.proofs.lemmas.Bool.{eqb-true, eqb-false, eq-eqb, ne_eqb}
use Rattle.std.proofs.lemmas.List.{take_at, drop_all, take-append-drop, length-take, length-drop, get_or-take, drop-drop}
use Rattle.std.proofs.lemmas.Nat.{from_le_bytes-to_le_bytes_4}
use Rattle.crc32.specs.Crc.{crc32}
use Rattle.binlog_frames.proofs.SumRange.{sum_fits}
use Rattle.binlog_frames.specs.declared.fault.FaultKind.{FaultKind}
use Rattle.binlog_frames.specs.declared.fault.FaultKind.TheVariants as faults
use Rattle.binlog_frames.specs.Spelling.{Framed, tail_len, len_of, covered, tail, event_text, Fits, IsLater}
use Rattle.binlog_frames.specs.Reading.{number_at, short_at, length_from, length_at, fields_of, has_sum, later_of, some_of, then_read, later_at}
use Rattle.binlog_frames.proofs.Spelled.{IsBytes, IsBytes-take, listed, four, headed, length-covered, length-text, HasHeader, covered-header, covered-body, length_from-some, length_from-has, then_some}

-- ---- what is spelled is read

at_end : (C S : List ℕ) (n k : ℕ) → length C ≡ n → get_or (C ++ S) (n + k) 0 ≡ get_or S k 0
at_end C S n k e =
    let back : n + k - length C ≡ k = omega arith in
    get_or-append_right C S (n + k) 0 (omega arith) ∙ ap (λ j. get_or S j 0) back

number_behind : (C S : List ℕ) (n : ℕ) → length C ≡ n → number_at (C ++ S) n ≡ number_at S 0
number_behind C S n e =
    let z : n ≡ n + 0 = omega arith in
    let p = ap (λ j. get_or (C ++ S) j 0) z ∙ at_end C S n 0 e in
    (λ i. from_le_bytes w32 (p i ∷ at_end C S n 1 e i ∷ at_end C S n 2 e i ∷ at_end C S n 3 e i ∷ []))

pub sum_behind : (C S : List ℕ) (n m : ℕ) → length C ≡ n → m < 2 ^ 32 → number_at (C ++ to_le_bytes w32 m) n ≡ m
sum_behind C S n m e h = number_behind C (to_le_bytes w32 m) n e ∙ from_le_bytes-to_le_bytes_4 m h

pub fields_again : (checked : Bool) (end : ℕ) (e : Framed) (summed : List ℕ) → Fits checked e
    → fields_of (tail_len checked) (covered (len_of checked e) end e ++ tail checked summed) ≡ e
unfolding fields_of
fields_again checked end e summed f =
    let C : List ℕ = covered (len_of checked e) end e in
    let S : List ℕ = tail checked summed in
    let h = covered-header checked end e S f in
    let lc : length C ≡ 19 + length e.body = length-covered (len_of checked e) end e in
    let ls : length S ≡ tail_len checked = elim checked as (λ b. length (tail b summed) ≡ tail_len b) [ true ↦ refl | false ↦ refl ] in
    let l : length (C ++ S) - tail_len checked - 19 ≡ length e.body = omega (arith, length-append C S) in
    let body : take (length (C ++ S) - tail_len checked - 19) (drop 19 (C ++ S)) ≡ e.body =
    (λ i. take (l i) (covered-body (len_of checked e) end e S i)) ∙ take_at e.body S (length e.body) refl in
    (λ i. record { time = h.time i; kind = h.kind i; server = h.server i; flags = h.flags i; body = body i })

later_of-text : (checked : Bool) (offset : ℕ) (e : Framed) → IsLater checked e → later_of checked (event_text checked offset e) ≡ Ok e
unfolding later_of has_sum
later_of-text true offset e l =
    let end : ℕ = offset + len_of true e in
    let C : List ℕ = covered (len_of true e) end e in
    let S : List ℕ = to_le_bytes w32 (crc32 C) in
    let h = covered-header true end e S l.fits in
    let kind : (slice_index (C ++ S) 4 == 15) ≡ false = ne_eqb _ 15 (λ k. l.other (sym h.kind ∙ k)) in
    let n : length (C ++ S) - 4 ≡ length C = omega (arith, length-append C S) in
    let front : take (length (C ++ S) - 4) (C ++ S) ≡ C = take_at C S (length (C ++ S) - 4) (sym n) in
    let back : number_at (C ++ S) (length (C ++ S) - 4) ≡ crc32 C = sum_behind C S (length (C ++ S) - 4) (crc32 C) (sym n) (sum_fits C) in
    let sum : (crc32 (take (length (C ++ S) - 4) (C ++ S)) == number_at (C ++ S) (length (C ++ S) - 4)) ≡ true = eq-eqb _ _ (ap crc32 front ∙ sym back) in
    (λ i. cond (kind i) (Err faults.Description) (cond (not (sum i)) (Err faults.Checksum) (Ok (fields_again true end e C l.fits i))))
later_of-text false offset e l =
    let end : ℕ = offset + len_of false e in
    let C : List ℕ = covered (len_of false e) end e in
    let h = covered-header false end e [] l.fits in
    let kind : (slice_index (C ++ []) 4 == 15) ≡ false = ne_eqb _ 15 (λ k. l.other (sym h.kind ∙ k)) in
    (λ i. cond (kind i) (Err faults.Description) (Ok (fields_again false end e C l.fits i)))

-- the length of an event at the front
pub found_again : (checked : Bool) (offset : ℕ) (e : Framed) (summed rest : List ℕ) → Fits checked e
    → length_at (tail_len checked) offset ((covered (len_of checked e) (offset + len_of checked e) e ++ tail checked summed) ++ rest) ≡ Ok (Some (len_of checked e))
found_again checked offset e summed rest f =
    let n : ℕ = len_of checked e in
    let C : List ℕ = covered n (offset + n) e in
    let S : List ℕ = tail checked summed in
    let parts : (C ++ S) ++ rest ≡ C ++ (S ++ rest) = append_assoc C S rest in
    let h : HasHeader e n (offset + n) ((C ++ S) ++ rest) = subst (HasHeader e n (offset + n)) (sym parts) (covered-header checked (offset + n) e (S ++ rest) f) in
    let whole : n ≤ length ((C ++ S) ++ rest) = omega (arith, length-append (C ++ S) rest, length-text checked offset e e summed) in
    (λ i. length_from (tail_len checked) offset (length ((C ++ S) ++ rest)) (h.len_is i) (h.place i))
    ∙ length_from-some (tail_len checked) offset (length ((C ++ S) ++ rest)) n ((offset + n) % 2 ^ 32) (omega arith) (omega arith) refl whole

pub later_again : (checked : Bool) (offset : ℕ) (e : Framed) (rest : List ℕ) → IsLater checked e → later_at checked offset (event_text checked offset e ++ rest) ≡ Ok (Some e)
unfolding later_at
later_again checked offset e rest l =
    let n : ℕ = len_of checked e in
    let C : List ℕ = covered n (offset + n) e in
    let B : List ℕ = event_text checked offset e ++ rest in
    let front : take n B ≡ event_text checked offset e = take_at (event_text checked offset e) rest n (length-text checked offset e e C) in
    (λ i. then_read (found_again checked offset e C rest l.fits i) (λ n. later_of checked (take n B)))
    ∙ ap (λ t. some_of (later_of checked t)) front
    ∙ ap some_of (later_of-text checked offset e l)

-- ---- what is read is spelled so

abbrev pub done : {A : Type 0} → A → Result A FaultKind
done x = Ok x

pub ok_same : {A : Type 0} (x y : A) → done x ≡ done y → x ≡ y
ok_same x y e = cc

pub chosen_ok : {A : Type 0} (b : Bool) (f : FaultKind) (x : Result A FaultKind) (y : A) → cond b (Err f) x ≡ Ok y → (b ≡ false) × (x ≡ Ok y)
chosen_ok true f x y e = absurd cc
chosen_ok false f x y e = (refl, e)

pub not_false : (b : Bool) → not b ≡ false → b ≡ true
not_false true e = refl
not_false false e = absurd cc

pub parted : (t offset : ℕ) (E : List ℕ) → IsBytes E → 19 + t ≤ length E → number_at E 9 ≡ length E → number_at E 13 ≡ (offset + length E) % 2 ^ 32
    → E ≡ covered (length E) (offset + length E) (fields_of t E) ++ drop (length E - t) E
unfolding covered fields_of
parted t offset E b least len place =
    let k : ℕ = length E - t - 19 in
    let behind : drop 19 E ≡ take k (drop 19 E) ++ drop k (drop 19 E) = sym (take-append-drop k (drop 19 E)) in
    let sum : 19 + k ≡ length E - t = omega arith in
    let rest : drop k (drop 19 E) ≡ drop (length E - t) E = drop-drop k 19 E ∙ ap (λ j. drop j E) sum in
    headed E b (omega arith)
    ∙ (λ i. to_le_bytes w32 (number_at E 0) ++ (slice_index E 4 ∷ (to_le_bytes w32 (number_at E 5) ++ (to_le_bytes w32 (len i) ++ (to_le_bytes w32 (place i) ++ (to_le_bytes w16 (short_at E 17) ++ behind i))))))
    ∙ (λ i. to_le_bytes w32 (number_at E 0) ++ (slice_index E 4 ∷ (to_le_bytes w32 (number_at E 5) ++ (to_le_bytes w32 (length E) ++ (to_le_bytes w32 ((offset + length E) % 2 ^ 32) ++ (to_le_bytes w16 (short_at E 17) ++ (take k (drop 19 E) ++ rest i)))))))

pub length-fields : (t : ℕ) (E : List ℕ) → 19 + t ≤ length E → 19 + length (fields_of t E).body + t ≡ length E
unfolding fields_of
length-fields t E h = omega (arith, length-take (length E - t - 19) (drop 19 E), length-drop 19 E)

last_four : (E : List ℕ) (n : ℕ) → IsBytes E → n + 4 ≡ length E → drop n E ≡ to_le_bytes w32 (number_at E n)
last_four E n b e =
    let one : n + 1 ≡ suc n = omega arith in
    let two : n + 2 ≡ suc (suc n) = omega arith in
    let three : n + 3 ≡ suc (suc (suc n)) = omega arith in
    let none : drop (n + 4) E ≡ [] = drop_all (n + 4) E (omega arith) in
    listed 4 n E (omega arith)
    ∙ (λ i. get_or E n 0 ∷ get_or E (sym one i) 0 ∷ get_or E (sym two i) 0 ∷ get_or E (sym three i) 0 ∷ none i)
    ∙ sym (four (get_or E n 0) (get_or E (n + 1) 0) (get_or E (n + 2) 0) (get_or E (n + 3) 0) (b n) (b (n + 1)) (b (n + 2)) (b (n + 3)))

number-lt : (E : List ℕ) (n : ℕ) → IsBytes E → number_at E n < 2 ^ 32
number-lt E n b = omega (arith, b n, b (n + 1), b (n + 2), b (n + 3))

pub fits_of : (checked : Bool) (E : List ℕ) → IsBytes E → 19 + tail_len checked ≤ length E → number_at E 9 ≡ length E → Fits checked (fields_of (tail_len checked) E)
unfolding fields_of
fits_of checked E b least len =
    let all : len_of checked (fields_of (tail_len checked) E) ≡ length E = length-fields (tail_len checked) E least in
    record {
      time = number-lt E 0 b;
      kind = b 4;
      server = number-lt E 5 b;
      flags = omega (arith, b 17, b 18);
      len = omega (arith, all, number-lt E 9 b);
    }

-- one event's bytes, with its checksum's
pub sealed : (t offset : ℕ) (E : List ℕ) → t ≡ 4 → IsBytes E → 19 + t ≤ length E → number_at E 9 ≡ length E → number_at E 13 ≡ (offset + length E) % 2 ^ 32
    → (take (length E - 4) E ≡ covered (length E) (offset + length E) (fields_of t E)) × (drop (length E - 4) E ≡ to_le_bytes w32 (number_at E (length E - 4)))
sealed t offset E four_is b least len place =
    let p = parted t offset E b least len place in
    let C : List ℕ = covered (length E) (offset + length E) (fields_of t E) in
    let lc : length C ≡ length E - 4 = omega (arith, length-covered (length E) (offset + length E) (fields_of t E), length-fields t E least) in
    (ap (take (length E - 4)) p ∙ take_at C (drop (length E - t) E) (length E - 4) lc, last_four E (length E - 4) b (omega arith))

module _ (offset : ℕ) (E : List ℕ) (b : IsBytes E) (len : number_at E 9 ≡ length E) (place : number_at E 13 ≡ (offset + length E) % 2 ^ 32) where
  later_of-takes : (checked : Bool) (e : Framed) → 19 + tail_len checked ≤ length E → later_of checked E ≡ Ok e → (E ≡ event_text checked offset e) × IsLater checked e
  unfolding later_of has_sum fields_of
  later_of-takes true e least r =
      let a = chosen_ok (slice_index E 4 == 15) faults.Description _ _ r in
      let d = chosen_ok (not (crc32 (take (length E - 4) E) == number_at E (length E - 4))) faults.Checksum _ _ a.1 in
      let same : fields_of 4 E ≡ e = ok_same _ _ d.1 in
      let p = sealed 4 offset E refl b least len place in
      let all : len_of true (fields_of 4 E) ≡ length E = length-fields 4 E least in
      let crc : number_at E (length E - 4) ≡ crc32 (covered (length E) (offset + length E) (fields_of 4 E)) = sym (eqb-true _ _ (not_false _ d.0)) ∙ ap crc32 p.0 in
      let text : E ≡ event_text true offset (fields_of 4 E) =
      sym (take-append-drop (length E - 4) E)
      ∙ (λ i. p.0 i ++ (p.1 ∙ ap (to_le_bytes w32) crc) i)
      ∙ (λ i. covered (sym all i) (offset + sym all i) (fields_of 4 E) ++ to_le_bytes w32 (crc32 (covered (sym all i) (offset + sym all i) (fields_of 4 E)))) in
      (text ∙ ap (event_text true offset) same, subst (IsLater true) same (record { fits = fits_of true E b least len; other = eqb-false _ _ a.0 }))
  later_of-takes false e least r =
      let a = chosen_ok (slice_index E 4 == 15) faults.Description _ _ r in
      let same : fields_of 0 E ≡ e = ok_same _ _ a.1 in
      let all : len_of false (fields_of 0 E) ≡ length E = length-fields 0 E least in
      let none : drop (length E - 0) E ≡ [] = drop_all (length E - 0) E (omega arith) in
      let text : E ≡ event_text false offset (fields_of 0 E) =
      parted 0 offset E b least len place
      ∙ (λ i. covered (sym all i) (offset + sym all i) (fields_of 0 E) ++ none i) in
      (text ∙ ap (event_text false offset) same, subst (IsLater false) same (record { fits = fits_of false E b least len; other = eqb-false _ _ a.0 }))

pub record Takes (checked : Bool) (offset : ℕ) (bytes : List ℕ) (e : Framed) : Type 0 where
  pub whole : bytes ≡ event_text checked offset e ++ drop (len_of checked e) bytes
  pub later : IsLater checked e
  pub long : len_of checked e ≤ length bytes

-- the bytes of the event at the front
pub record HasFront (t offset : ℕ) (bytes : List ℕ) (n : ℕ) : Type 0 where
  pub least : 19 + t ≤ length (take n bytes)
  pub len : number_at (take n bytes) 9 ≡ length (take n bytes)
  pub place : number_at (take n bytes) 13 ≡ (offset + length (take n bytes)) % 2 ^ 32
  pub same : length (take n bytes) ≡ n
  pub within : n ≤ length bytes

pub front_of : (t offset : ℕ) (bytes : List ℕ) (n : ℕ) → length_at t offset bytes ≡ Ok (Some n) → HasFront t offset bytes n
front_of t offset bytes n e =
    let h = length_from-has t offset (length bytes) (number_at bytes 9) (number_at bytes 13) n e in
    let least : 19 + t ≤ n = rw (← h.same) h.least in
    let within : n ≤ length bytes = rw (← h.same) h.whole in
    let l : length (take n bytes) ≡ n = omega (arith, length-take n bytes) in
    let at : (j : ℕ) → j < 19 → get_or (take n bytes) j 0 ≡ get_or bytes j 0 = λ j q. get_or-take n bytes j 0 (omega arith) in
    let a : number_at (take n bytes) 9 ≡ number_at bytes 9 =
    (λ i. from_le_bytes w32 (at 9 (omega arith) i ∷ at 10 (omega arith) i ∷ at 11 (omega arith) i ∷ at 12 (omega arith) i ∷ [])) in
    let c : number_at (take n bytes) 13 ≡ number_at bytes 13 =
    (λ i. from_le_bytes w32 (at 13 (omega arith) i ∷ at 14 (omega arith) i ∷ at 15 (omega arith) i ∷ at 16 (omega arith) i ∷ [])) in
    record {
      least = rw l least;
      len = a ∙ h.same ∙ sym l;
      place = c ∙ h.here ∙ ap (λ k. (offset + k) % 2 ^ 32) (h.same ∙ sym l);
      same = l;
      within = within;
    }

pub later_takes : (checked : Bool) (offset : ℕ) (bytes : List ℕ) (e : Framed) → IsBytes bytes → later_at checked offset bytes ≡ Ok (Some e) → Takes checked offset bytes e
unfolding later_at
later_takes checked offset bytes e b r =
    let p = then_some (length_at (tail_len checked) offset bytes) (λ n. later_of checked (take n bytes)) e r in
    let n : ℕ = p.0 in
    let h = front_of (tail_len checked) offset bytes n p.1 in
    let q = later_of-takes offset (take n bytes) (IsBytes-take n bytes b) h.len h.place checked e h.least p.2 in
    let all : length (take n bytes) ≡ len_of checked e = ap length q.0 ∙ length-text checked offset e e _ in
    let n_is : n ≡ len_of checked e = sym h.same ∙ all in
    record {
      whole = sym (take-append-drop n bytes) ∙ (λ i. q.0 i ++ drop (n_is i) bytes);
      later = q.1;
      long = rw (← n_is) h.within;
    }
