-- The length of an event that was read.
use Rattle.std.proofs.Common.{◌≡◌, ℕ, ◌+◌, ◌-◌, ◌%◌, ◌^◌, ◌<◌, ◌≤◌, Bool, true, false, not, ◌&&◌, cond, List, [], ◌∷◌, length, take, drop, get_or, Option, Some, None, Result, Ok, Err, refl, sym, ap, subst, ◌∙◌, arith}
use Rattle.std.specs.Prelude.{nat_lt, ◌==◌, slice_index}
use Rattle.std.specs.Int.{w32, from_le_bytes}
use Rattle.std.proofs.lemmas.Bool.{ltb-false}
use Rattle.std.proofs.lemmas.List.{length-take, length-drop, get_or-drop, get_or-take, drop-drop}
use Rattle.binlog_frames.specs.declared.fault.FaultKind.{FaultKind}
use Rattle.binlog_frames.specs.declared.fault.FaultKind.TheVariants as faults
use Rattle.binlog_frames.specs.declared.fault.FrameFault.{FrameFault}
use Rattle.binlog_frames.specs.Spelling.{Framed, tail_len, len_of}
use Rattle.binlog_frames.specs.Reading.{number_at, length_at, fields_of, has_sum, has_open_sum, first_of, has_form, later_of, later_at, first_at, is_checked}
use Rattle.binlog_frames.specs.declared.reader.Passing.{Passing}
use Rattle.binlog_frames.specs.declared.stage.FileStage.{FileStage}
use Rattle.binlog_frames.specs.Standing.{Standing, front_at, front_from, passed, opening_at, has_magic, at_offset, passed_from}
use Rattle.binlog_frames.specs.Steps.{IsStep}
use Rattle.binlog_frames.specs.declared.stage.FileStage.TheVariants.{First, Later}
use Rattle.binlog_frames.proofs.Spelled.{length_from-has, then_some}
use Rattle.binlog_frames.proofs.Events.{front_of, length-fields, chosen_ok, ok_same}

-- what is known of an event's length
pub record HasLen (checked : Bool) (bytes : List ℕ) (e : Framed) : Type 0 where
  pub header : 19 ≤ length bytes
  pub is : len_of checked e ≡ number_at bytes 9
  pub within : number_at bytes 9 ≤ length bytes

later_fields : (checked : Bool) (E : List ℕ) (e : Framed) → later_of checked E ≡ Ok e → fields_of (tail_len checked) E ≡ e
unfolding later_of
later_fields checked E e r =
    let a = chosen_ok (slice_index E 4 == 15) faults.Description _ _ r in
    let d = chosen_ok (checked && not (has_sum E)) faults.Checksum _ _ a.1 in
    ok_same _ _ d.1

pub later_len : (checked : Bool) (offset : ℕ) (bytes : List ℕ) (e : Framed) → later_at checked offset bytes ≡ Ok (Some e) → HasLen checked bytes e
unfolding later_at
later_len checked offset bytes e r =
    let p = then_some (length_at (tail_len checked) offset bytes) (λ n. later_of checked (take n bytes)) e r in
    let h = length_from-has (tail_len checked) offset (length bytes) (number_at bytes 9) (number_at bytes 13) p.0 p.1 in
    let f = front_of (tail_len checked) offset bytes p.0 p.1 in
    let all = length-fields (tail_len checked) (take p.0 bytes) f.least in
    record {
      header = h.long;
      is = ap (len_of checked) (sym (later_fields checked (take p.0 bytes) e p.2)) ∙ all ∙ f.same ∙ sym h.same;
      within = h.whole;
    }

pub record HasFirstLen (bytes : List ℕ) (d : Framed) : Type 0 where
  pub len : HasLen true bytes d
  pub long : 81 ≤ number_at bytes 9
  pub checked : is_checked d ≡ (slice_index bytes (number_at bytes 9 - 5) == 1)

last_body : (E : List ℕ) (n : ℕ) → n ≡ length E → 81 ≤ n → slice_index (fields_of 4 E).body (length (fields_of 4 E).body - 1) ≡ slice_index E (n - 5)
unfolding fields_of
last_body E n same long =
    let k : ℕ = length E - 4 - 19 in
    let l : length (take k (drop 19 E)) - 1 ≡ k - 1 = omega (arith, length-take k (drop 19 E), length-drop 19 E) in
    let at : 19 + (k - 1) ≡ n - 5 = omega arith in
    ap (λ j. get_or (take k (drop 19 E)) j 0) l
    ∙ get_or-take k (drop 19 E) (k - 1) 0 (omega arith)
    ∙ get_or-drop 19 E (k - 1) 0
    ∙ ap (λ j. get_or E j 0) at

pub first_len : (bytes : List ℕ) (d : Framed) → first_at bytes ≡ Ok (Some d) → HasFirstLen bytes d
unfolding first_at first_of
first_len bytes d r =
    let p = then_some (length_at 4 4 bytes) (λ n. first_of (take n bytes)) d r in
    let n : ℕ = p.0 in
    let E : List ℕ = take n bytes in
    let h = length_from-has 4 4 (length bytes) (number_at bytes 9) (number_at bytes 13) n p.1 in
    let f = front_of 4 4 bytes n p.1 in
    let k = chosen_ok (not (slice_index E 4 == 15)) faults.Description _ _ p.2 in
    let l = chosen_ok (nat_lt (length E) 81) faults.Description _ _ k.1 in
    let g = chosen_ok (not (has_form (fields_of 4 E).body)) faults.Description _ _ l.1 in
    let s = chosen_ok (not (has_open_sum E)) faults.Checksum _ _ g.1 in
    let same : fields_of 4 E ≡ d = ok_same _ _ s.1 in
    let all : len_of true (fields_of 4 E) ≡ length E = length-fields 4 E f.least in
    let long : 81 ≤ length E = ltb-false (length E) 81 l.0 in
    let n_is : n ≡ number_at bytes 9 = sym h.same in
    let m : 81 ≤ number_at bytes 9 = rw (h.same, ← f.same) long in
    record {
      len = record {
        header = h.long;
        is = ap (len_of true) (sym same) ∙ all ∙ f.same ∙ n_is;
        within = h.whole;
      };
      long = m;
      checked = ap (λ (x : Framed). slice_index x.body (length x.body - 1) == 1) (sym same)
          ∙ ap (λ v. v == 1) (last_body E n (sym f.same) (rw n_is m) ∙ get_or-take n bytes (n - 5) 0 (let q : 81 ≤ n = rw n_is m in omega arith) ∙ ap (λ j. slice_index bytes (j - 5)) n_is);
    }

pub record IsOpening (left : List ℕ) (d : Framed) : Type 0 where
  pub long : 4 ≤ length left
  pub magic : has_magic left ≡ true
  pub first : first_at (drop 4 left) ≡ Ok (Some d)

pub at_some : (offset : ℕ) (r : Result (Option Framed) FaultKind) (d : Framed) → at_offset offset r ≡ Ok (Some d) → r ≡ Ok (Some d)
at_some offset (Err k) d e = absurd cc
at_some offset (Ok x) d e = cc

opening_cases : (b c : Bool) (offset : ℕ) (r : Result (Option Framed) FaultKind) (f : FrameFault) (d : Framed) → cond b (Ok None) (cond c (at_offset offset r) (Err f)) ≡ Ok (Some d) → (b ≡ false) × (c ≡ true) × (r ≡ Ok (Some d))
opening_cases true c offset r f d e = absurd cc
opening_cases false true offset r f d e = (refl, refl, at_some offset r d e)
opening_cases false false offset r f d e = absurd cc

pub opening_is : (left : List ℕ) (d : Framed) → opening_at left ≡ Ok (Some d) → IsOpening left d
unfolding opening_at
opening_is left d e =
    let p = opening_cases (nat_lt (length left) 4) (has_magic left) 4 (first_at (drop 4 left)) _ d e in
    record { long = ltb-false (length left) 4 p.0; magic = p.1; first = p.2 }

-- the same, with the file's four bytes before it
pub record HasOpeningLen (left : List ℕ) (d : Framed) : Type 0 where
  pub is : len_of true d ≡ number_at left 13
  pub long : 81 ≤ number_at left 13
  pub within : 4 + number_at left 13 ≤ length left
  pub checked : is_checked d ≡ (slice_index left (number_at left 13 - 1) == 1)

pub opening_len : (left : List ℕ) (d : Framed) → opening_at left ≡ Ok (Some d) → HasOpeningLen left d
opening_len left d e =
    let o = opening_is left d e in
    let f = first_len (drop 4 left) d o.first in
    let n_is : number_at (drop 4 left) 9 ≡ number_at left 13 =
    (λ i. from_le_bytes w32 (get_or-drop 4 left 9 0 i ∷ get_or-drop 4 left 10 0 i ∷ get_or-drop 4 left 11 0 i ∷ get_or-drop 4 left 12 0 i ∷ [])) in
    let four : 4 ≤ length left = o.long in
    let long : 81 ≤ number_at left 13 = rw (← n_is) f.long in
    let within : number_at left 13 ≤ length (drop 4 left) = rw (← n_is) f.len.within in
    let at : 4 + (number_at left 13 - 5) ≡ number_at left 13 - 1 = omega arith in
    record {
      is = f.len.is ∙ n_is;
      long = long;
      within = omega (arith, length-drop 4 left);
      checked = f.checked
          ∙ ap (λ n. slice_index (drop 4 left) (n - 5) == 1) n_is
          ∙ ap (λ v. v == 1) (get_or-drop 4 left (number_at left 13 - 5) 0 ∙ ap (λ j. get_or left j 0) at);
    }

pub first_step : (left : List ℕ) (d : Framed) (n : ℕ) → n ≡ number_at left 13 → n < 2 ^ 32 → opening_at left ≡ Ok (Some d)
    → IsStep (record { stage = Later (slice_index left (n - 1) == 1); offset = 4 + n; len = 4 + n }) left (passed_from First 0 left d)
first_step left d n n_is fits e =
    let h = opening_len left d e in
    let all : len_of true d ≡ n = h.is ∙ sym n_is in
    let within : 4 + number_at left 13 ≤ length left = h.within in
    record {
      stage = ap Later (h.checked ∙ ap (λ k. slice_index left (k - 1) == 1) (sym n_is));
      offset = omega arith;
      left_is = drop-drop (len_of true d) 4 left ∙ ap (λ k. drop k left) (ap (λ k. 4 + k) all);
      within = rw n_is within;
    }

pub later_step : (checked : Bool) (offset : ℕ) (left : List ℕ) (e : Framed) (n : ℕ) → n ≡ number_at left 9 → later_at checked offset left ≡ Ok (Some e)
    → IsStep (record { stage = Later checked; offset = (offset + n) % 2 ^ 64; len = n }) left (passed_from (Later checked) offset left e)
later_step checked offset left e n n_is r =
    let h = later_len checked offset left e r in
    let all : len_of checked e ≡ n = h.is ∙ sym n_is in
    record {
      stage = refl;
      offset = ap (λ k. (offset + k) % 2 ^ 64) all;
      left_is = ap (λ k. drop k left) all;
      within = rw n_is h.within;
    }

-- the reader's place after a step
pub record HasPassed (step : Passing) (place : ℕ) (items : List ℕ) (to : Standing) : Type 0 where
  pub within : place + step.len ≤ length items
  pub is : record { stage = step.stage; offset = step.offset; left = drop (place + step.len) items } ≡ to

pub pass_step : (step : Passing) (place : ℕ) (items left : List ℕ) (to : Standing) → place ≤ length items → left ≡ drop place items → IsStep step left to → HasPassed step place items to
pass_step step place items left to le e s =
    let within : step.len ≤ length left = s.within in
    let l : length left ≡ length items - place = ap length e ∙ length-drop place items in
    let same : drop (place + step.len) items ≡ to.left = sym (s.left_is ∙ ap (drop step.len) e ∙ drop-drop step.len place items) in
    record {
      within = omega arith;
      is = (λ i. record { stage = sym s.stage i; offset = sym s.offset i; left = same i });
    }

pub pass_all : (v : Standing) (stage : FileStage) (offset place : ℕ) (items all left : List ℕ) (step : Passing) (e : Framed)
    → (let r : Standing = record { stage = stage; offset = offset; left = drop place items } in r) ≡ v → place ≤ length items → all ≡ items → left ≡ drop place all
    → ((e : Framed) → front_from stage offset left ≡ Ok (Some e) → IsStep step left (passed_from stage offset left e))
    → front_at v ≡ Ok (Some e) → HasPassed step place items (passed v e)
pass_all v stage offset place items all left step e view_is le same_items here steps h =
    let left_is : left ≡ drop place items = here ∙ ap (drop place) same_items in
    let r : front_from stage offset left ≡ Ok (Some e) = ap (front_from stage offset) left_is ∙ ap front_at view_is ∙ h in
    let to : passed_from stage offset left e ≡ passed v e = ap (λ l. passed_from stage offset l e) left_is ∙ ap (λ (x : Standing). passed x e) view_is in
    pass_step step place items left (passed v e) le left_is (subst (IsStep step left) to (steps e r))

-- behind an event fewer bytes are left
pub fewer_left : (stage : FileStage) (offset : ℕ) (left : List ℕ) (e : Framed) → front_from stage offset left ≡ Ok (Some e) → length (passed_from stage offset left e).left < length left
fewer_left First offset left d h =
    let k = opening_len left d h in
    omega (arith, length-drop (len_of true d) (drop 4 left), length-drop 4 left, k.within)
fewer_left (Later checked) offset left e h =
    let k = later_len checked offset left e (at_some offset (later_at checked offset left) e h) in
    omega (arith, length-drop (len_of checked e) left, k.header)
