-- Events one after another.
use Rattle.std.proofs.Common.{suc, zero, ◌≡◌, ℕ, ◌+◌, ◌%◌, ◌^◌, ◌<◌, ◌≤◌, Bool, true, false, ◌&&◌, cond, List, [], ◌∷◌, ◌++◌, length, take, drop, get_or, Option, Some, None, Result, Ok, Err, refl, sym, ap, subst, ◌∙◌, arith, inl, inr, append_assoc, length-append}
use Rattle.std.specs.Prelude.{nat_lt, ◌==◌}
use Rattle.std.specs.List.{AllByRecursion}
use Rattle.std.proofs.lemmas.Bool.{ltb-false, le-ltb, eqb-true, and_parts}
use Rattle.std.proofs.lemmas.List.{drop_at, take-append-le, drop-append-le, length-drop, get_or_append_left}
use Rattle.binlog_frames.specs.declared.fault.FaultKind.{FaultKind}
use Rattle.binlog_frames.specs.declared.fault.FaultKind.TheVariants as faults
use Rattle.binlog_frames.specs.declared.fault.FrameFault.{FrameFault}
use Rattle.binlog_frames.specs.declared.stage.FileStage.{FileStage}
use Rattle.binlog_frames.specs.declared.stage.FileStage.TheVariants.{First, Later}
use Rattle.binlog_frames.specs.Spelling.{Framed, magic, tail_len, len_of, event_text, description_text, events_text, offset_after, IsLater, IsDescription, Begins, IsFile}
use Rattle.binlog_frames.specs.Reading.{number_at, length_from, length_at, some_of, then_read, later_of, later_at, first_of, first_at, is_checked}
use Rattle.binlog_frames.specs.Standing.{Standing, front_at, front_from, opening_at, has_magic, is_encrypted, at_offset, passed, passed_from, unfinished, unfinished_from, with_more, Follows, before, EndsWell, EndsBadly, IsFaultAt}
use Rattle.binlog_frames.specs.Laws.{FileOf}
use Rattle.binlog_frames.proofs.Spelled.{IsBytes, IsBytes-drop, chosen, listed, length_from-some, length_from-has, length-text, then_some}
use Rattle.binlog_frames.proofs.Events.{later_again, later_takes}
use Rattle.binlog_frames.proofs.Described.{first_again, first_takes, header_stays, later_stays, first_stays}
use Rattle.binlog_frames.proofs.Stepping.{at_some, opening_is, later_len, opening_len}

-- ---- more bytes

some_stays : {A : Type 0} (t offset : ℕ) (read : List ℕ → Result A FaultKind) (bytes more : List ℕ) (x : A)
    → then_read (length_at t offset bytes) (λ n. read (take n bytes)) ≡ Ok (Some x)
    → then_read (length_at t offset (bytes ++ more)) (λ n. read (take n (bytes ++ more))) ≡ Ok (Some x)
some_stays t offset read bytes more x e =
    let q = then_some (length_at t offset bytes) (λ n. read (take n bytes)) x e in
    let n : ℕ = q.0 in
    let h = length_from-has t offset (length bytes) (number_at bytes 9) (number_at bytes 13) n q.1 in
    let long : 19 ≤ length bytes = h.long in
    let whole : number_at bytes 9 ≤ length bytes = h.whole in
    let l : length (bytes ++ more) ≡ length bytes + length more = length-append bytes more in
    let found = length_from-some t offset (length (bytes ++ more)) (number_at bytes 9) (number_at bytes 13) (omega arith) h.least h.here (omega arith) in
    let within : n ≤ length bytes = rw (← h.same) whole in
    (λ i. then_read (length_from t offset (length (bytes ++ more)) (header_stays bytes more 9 (omega arith) i) (header_stays bytes more 13 (omega arith) i)) (λ n. read (take n (bytes ++ more))))
    ∙ ap (λ r. then_read r (λ n. read (take n (bytes ++ more)))) (found ∙ ap (λ k. Ok (Some k)) h.same)
    ∙ ap (λ x. some_of (read x)) (take-append-le n bytes more within)
    ∙ ap some_of q.2

later_more : (checked : Bool) (offset : ℕ) (bytes more : List ℕ) (e : Framed) → later_at checked offset bytes ≡ Ok (Some e) → later_at checked offset (bytes ++ more) ≡ Ok (Some e)
unfolding later_at
later_more checked offset bytes more e r = some_stays (tail_len checked) offset (later_of checked) bytes more e r

first_more : (bytes more : List ℕ) (d : Framed) → first_at bytes ≡ Ok (Some d) → first_at (bytes ++ more) ≡ Ok (Some d)
unfolding first_at
first_more bytes more d r = some_stays 4 4 first_of bytes more d r

magic_more : (left more : List ℕ) → 4 ≤ length left → has_magic (left ++ more) ≡ has_magic left
unfolding has_magic
magic_more left more h =
    let p : (j : ℕ) → j < length left → get_or (left ++ more) j 0 ≡ get_or left j 0 = λ j q. get_or_append_left left more 0 j q in
    (λ i. (p 0 (omega arith) i == 0xFE) && ((p 1 (omega arith) i == 0x62) && ((p 2 (omega arith) i == 0x69) && (p 3 (omega arith) i == 0x6E))))

encrypted_more : (left more : List ℕ) → 4 ≤ length left → is_encrypted (left ++ more) ≡ is_encrypted left
unfolding is_encrypted
encrypted_more left more h =
    let p : (j : ℕ) → j < length left → get_or (left ++ more) j 0 ≡ get_or left j 0 = λ j q. get_or_append_left left more 0 j q in
    (λ i. (p 0 (omega arith) i == 0xFD) && ((p 1 (omega arith) i == 0x62) && ((p 2 (omega arith) i == 0x69) && (p 3 (omega arith) i == 0x6E))))

abbrev unopened : Bool → Result (Option Framed) FrameFault
unopened encrypted = Err (record { kind = cond encrypted faults.Encrypted faults.Magic; offset = 0 })

opening_by : (left more : List ℕ) (r : Result (Option Framed) FaultKind) → 4 ≤ length left → has_magic left ≡ true → first_at (drop 4 left ++ more) ≡ r → opening_at (left ++ more) ≡ at_offset 4 r
unfolding opening_at
opening_by left more r h m e =
    let came : nat_lt (length (left ++ more)) 4 ≡ false = le-ltb (length (left ++ more)) 4 (omega (arith, length-append left more)) in
    let rest : drop 4 (left ++ more) ≡ drop 4 left ++ more = drop-append-le 4 left more h in
    (λ i. cond (came i) (Ok None) (cond ((magic_more left more h ∙ m) i) (at_offset 4 ((ap first_at rest ∙ e) i)) (unopened (encrypted_more left more h i))))

opening_more : (left more : List ℕ) (d : Framed) → opening_at left ≡ Ok (Some d) → opening_at (left ++ more) ≡ Ok (Some d)
opening_more left more d e = let o = opening_is left d e in opening_by left more (Ok (Some d)) o.long o.magic (first_more (drop 4 left) more d o.first)

pub front_more : (stage : FileStage) (offset : ℕ) (left more : List ℕ) (e : Framed) → front_from stage offset left ≡ Ok (Some e)
    → (front_from stage offset (left ++ more) ≡ Ok (Some e)) × (passed_from stage offset (left ++ more) e ≡ with_more (passed_from stage offset left e) more)
front_more First offset left more d r =
    let h = opening_len left d r in
    let four : 4 + number_at left 13 ≤ length left = h.within in
    let n : len_of true d ≤ length (drop 4 left) = omega (arith, h.is, length-drop 4 left) in
    let rest : drop (len_of true d) (drop 4 (left ++ more)) ≡ drop (len_of true d) (drop 4 left) ++ more =
    ap (drop (len_of true d)) (drop-append-le 4 left more (omega arith)) ∙ drop-append-le (len_of true d) (drop 4 left) more n in
    (opening_more left more d r, (λ i. record { stage = Later (is_checked d); offset = (4 + len_of true d) % 2 ^ 64; left = rest i }))
front_more (Later checked) offset left more e r =
    let q = at_some offset (later_at checked offset left) e r in
    let h = later_len checked offset left e q in
    let n : len_of checked e ≤ length left = omega (arith, h.is, h.within) in
    (ap (at_offset offset) (later_more checked offset left more e q), (λ i. record { stage = Later checked; offset = (offset + len_of checked e) % 2 ^ 64; left = drop-append-le (len_of checked e) left more n i }))

pub Follows-more : (s : Standing) (es : List Framed) (t : Standing) (more : List ℕ) → Follows s es t → Follows (with_more s more) es (with_more t more)
Follows-more s [] t more e = ap (λ (x : Standing). with_more x more) e
Follows-more s (e ∷ es) t more f =
    let p = front_more s.stage s.offset s.left more e f.0 in
    (p.0, subst (λ (x : Standing). Follows x es (with_more t more)) (sym p.1) (Follows-more (passed s e) es t more f.1))

pub Follows-then : (s : Standing) (es : List Framed) (t : Standing) (e : Framed) → Follows s es t → front_at t ≡ Ok (Some e) → Follows s (es ++ e ∷ []) (passed t e)
Follows-then s [] t e f h = (ap front_at f ∙ h, ap (λ (x : Standing). passed x e) f)
Follows-then s (d ∷ es) t e f h = (f.0, Follows-then (passed s d) es t e f.1 h)

-- ---- one way

abbrev IsStuck : Standing → Type 0
IsStuck t = (e : Framed) → front_at t ≡ Ok (Some e) → ⊥

some_one : (a b : Framed) → (let r : Result (Option Framed) FrameFault = Ok (Some a) in r) ≡ Ok (Some b) → a ≡ b
some_one a b e = cc

pub Follows-one : (s : Standing) (ds es : List Framed) (t u : Standing) → Follows s ds t → Follows s es u → IsStuck t → IsStuck u → (ds ≡ es) × (t ≡ u)
Follows-one s [] [] t u f g ht hu = (refl, sym f ∙ g)
Follows-one s [] (e ∷ es) t u f g ht hu = absurd (ht e (ap front_at (sym f) ∙ g.0))
Follows-one s (d ∷ ds) [] t u f g ht hu = absurd (hu d (ap front_at (sym g) ∙ f.0))
Follows-one s (d ∷ ds) (e ∷ es) t u f g ht hu =
    let same : d ≡ e = some_one d e (sym f.0 ∙ g.0) in
    let rest = Follows-one (passed s e) ds es t u (subst (λ (x : Framed). Follows (passed s x) ds t) same f.1) g.1 ht hu in
    ((λ i. same i ∷ rest.0 i), rest.1)

none_stuck : (t : Standing) → front_at t ≡ Ok None → IsStuck t
none_stuck t e d h = let q = sym e ∙ h in cc

err_stuck : (t : Standing) (f : FrameFault) → front_at t ≡ Err f → IsStuck t
err_stuck t f e d h = let q = sym e ∙ h in cc

fault_stuck : (t : Standing) (f : FrameFault) → IsFaultAt t f → IsStuck t
fault_stuck t f (inl e) = err_stuck t f e
fault_stuck t f (inr p) = none_stuck t p.0

same_fault : (t : Standing) (f g : FrameFault) → IsFaultAt t f → IsFaultAt t g → f ≡ g
same_fault t f g (inl a) (inl b) = let q = sym a ∙ b in cc
same_fault t f g (inl a) (inr b) = absurd (let q = sym a ∙ b.0 in cc)
same_fault t f g (inr a) (inl b) = absurd (let q = sym a.0 ∙ b in cc)
same_fault t f g (inr a) (inr b) = let q = sym a.1 ∙ b.1 in cc

well_no_fault : (t : Standing) (f : FrameFault) → front_at t ≡ Ok None → unfinished t ≡ None → IsFaultAt t f → ⊥
well_no_fault t f a b (inl e) = let q = sym a ∙ e in cc
well_no_fault t f a b (inr p) = let q = sym b ∙ p.1 in cc

both_well : (bytes : List ℕ) (ds es : List Framed) → EndsWell bytes ds → EndsWell bytes es → ds ≡ es
both_well bytes ds es a b = (Follows-one (before bytes) ds es a.last b.last a.follows b.follows (none_stuck a.last a.none) (none_stuck b.last b.none)).0

both_badly : (bytes : List ℕ) (ds es : List Framed) (f g : FrameFault) → EndsBadly bytes ds f → EndsBadly bytes es g → (ds ≡ es) × (f ≡ g)
both_badly bytes ds es f g a b =
    let p = Follows-one (before bytes) ds es a.last b.last a.follows b.follows (fault_stuck a.last f a.wrong) (fault_stuck b.last g b.wrong) in
    (p.0, same_fault b.last f g (subst (λ (x : Standing). IsFaultAt x f) p.1 a.wrong) b.wrong)

well_badly : (bytes : List ℕ) (ds es : List Framed) (f : FrameFault) → EndsWell bytes ds → EndsBadly bytes es f → ⊥
well_badly bytes ds es f a b =
    let p = Follows-one (before bytes) ds es a.last b.last a.follows b.follows (none_stuck a.last a.none) (fault_stuck b.last f b.wrong) in
    well_no_fault a.last f a.none a.finished (subst (λ (x : Standing). IsFaultAt x f) (sym p.1) b.wrong)

pub law_one_end : ((bytes : List ℕ) (ds es : List Framed) → EndsWell bytes ds → EndsWell bytes es → ds ≡ es)
    × ((bytes : List ℕ) (ds es : List Framed) (f g : FrameFault) → EndsBadly bytes ds f → EndsBadly bytes es g → (ds ≡ es) × (f ≡ g))
    × ((bytes : List ℕ) (ds es : List Framed) (f : FrameFault) → EndsWell bytes ds → EndsBadly bytes es f → ⊥)
law_one_end = (both_well, both_badly, well_badly)

-- ---- a file is read

later_reads : (checked : Bool) (offset : ℕ) (es : List Framed) (rest : List ℕ) → AllByRecursion (IsLater checked) es
    → (end : ℕ) × Follows (record { stage = Later checked; offset = offset; left = events_text checked offset es ++ rest }) es (record { stage = Later checked; offset = end; left = rest })
unfolding events_text
later_reads checked offset [] rest h = (offset, refl)
later_reads checked offset (e ∷ es) rest h =
    let T : List ℕ = event_text checked offset e in
    let R : List ℕ = events_text checked (offset_after checked offset e) es in
    let parts : (T ++ R) ++ rest ≡ T ++ (R ++ rest) = append_assoc T R rest in
    let ih = later_reads checked (offset_after checked offset e) es rest h.1 in
    let at : later_at checked offset ((T ++ R) ++ rest) ≡ Ok (Some e) = ap (later_at checked offset) parts ∙ later_again checked offset e (R ++ rest) h.0 in
    let behind : drop (len_of checked e) ((T ++ R) ++ rest) ≡ R ++ rest = ap (drop (len_of checked e)) parts ∙ drop_at T (R ++ rest) (len_of checked e) (length-text checked offset e e _) in
    (ih.0, (ap (at_offset offset) at, subst (λ x. Follows (record { stage = Later checked; offset = offset_after checked offset e; left = x }) es (record { stage = Later checked; offset = ih.0; left = rest })) (sym behind) ih.1))

checked_is : (checked : Bool) (d : Framed) → IsDescription checked d → is_checked d ≡ checked
checked_is true d h = ap (λ n. n == 1) h.algorithm
checked_is false d h = ap (λ n. n == 1) h.algorithm

magic_opens : (rest : List ℕ) → has_magic (magic ++ rest) ≡ true
unfolding has_magic
magic_opens rest = refl

pub Begins-reads : (bytes : List ℕ) (checked : Bool) (d : Framed) (es : List Framed) (rest : List ℕ) → Begins bytes checked d es rest
    → (end : ℕ) × Follows (before bytes) (d ∷ es) (record { stage = Later checked; offset = end; left = rest })
Begins-reads bytes checked d es rest b =
    let R : List ℕ = events_text checked (offset_after true 4 d) es ++ rest in
    let D : List ℕ = description_text d in
    let ih = later_reads checked (offset_after true 4 d) es rest b.each in
    let at : first_at (D ++ R) ≡ Ok (Some d) = first_again checked d R b.description in
    let opens : opening_at (magic ++ (D ++ R)) ≡ Ok (Some d) = opening_by magic (D ++ R) (Ok (Some d)) (omega arith) (magic_opens []) at in
    let behind : drop (len_of true d) (D ++ R) ≡ R = drop_at D R (len_of true d) (length-text true 4 d d _) in
    let step : passed (before (magic ++ (D ++ R))) d ≡ record { stage = Later checked; offset = offset_after true 4 d; left = R } =
    (λ i. record { stage = Later (checked_is checked d b.description i); offset = offset_after true 4 d; left = behind i }) in
    let last : Standing = record { stage = Later checked; offset = ih.0; left = rest } in
    (ih.0, subst (λ x. Follows (before x) (d ∷ es) last) (sym b.whole) (opens, subst (λ (s : Standing). Follows s es last) (sym step) ih.1))

end_none : (checked : Bool) (offset : ℕ) → later_at checked offset [] ≡ Ok None
unfolding later_at length_from
end_none checked offset = refl

end_finished : (checked : Bool) (offset : ℕ) → unfinished_from (Later checked) offset [] ≡ None
unfolding unfinished_from
end_finished checked offset = refl

pub law_file_is_found : (bytes : List ℕ) (checked : Bool) (d : Framed) (es : List Framed) → IsFile bytes checked d es → EndsWell bytes (d ∷ es)
law_file_is_found bytes checked d es b =
    let r = Begins-reads bytes checked d es [] b in
    record {
      last = record { stage = Later checked; offset = r.0; left = [] };
      follows = r.1;
      none = ap (at_offset r.0) (end_none checked r.0);
      finished = end_finished checked r.0;
    }

pub law_fault_is_no_file : (bytes : List ℕ) (ds es : List Framed) (f : FrameFault) (checked : Bool) (d : Framed) → EndsBadly bytes ds f → IsFile bytes checked d es → ⊥
law_fault_is_no_file bytes ds es f checked d bad file = well_badly bytes (d ∷ es) ds f (law_file_is_found bytes checked d es file) bad

first_same : (d e : Framed) (ds es : List Framed) → ◌≡◌ {A = List Framed} (d ∷ ds) (e ∷ es) → d ≡ e
first_same d e ds es h = cc

pub law_one_reading : (bytes : List ℕ) (a b : Bool) (d e : Framed) (ds es : List Framed) → IsFile bytes a d ds → IsFile bytes b e es → (a ≡ b) × (◌≡◌ {A = List Framed} (d ∷ ds) (e ∷ es))
law_one_reading bytes a b d e ds es f g =
    let same = both_well bytes (d ∷ ds) (e ∷ es) (law_file_is_found bytes a d ds f) (law_file_is_found bytes b e es g) in
    (sym (checked_is a d f.description) ∙ ap is_checked (first_same d e ds es same) ∙ checked_is b e g.description, same)

-- ---- a fault stays

pub at_err : (offset : ℕ) (r : Result (Option Framed) FaultKind) (f : FrameFault) → at_offset offset r ≡ Err f → (k : FaultKind) × (r ≡ Err k) × (f ≡ record { kind = k; offset = offset })
at_err offset (Err k) f e = (k, refl, cc)
at_err offset (Ok x) f e = absurd cc

opening_err : (left more : List ℕ) (f : FrameFault) → opening_at left ≡ Err f → opening_at (left ++ more) ≡ Err f
unfolding opening_at
opening_err left more f e =
    elim (chosen (nat_lt (length left) 4) _ _ _ e) [
      | inl p ↦ absurd (let q = p.1 in cc)
      | inr p ↦
          let four : 4 ≤ length left = ltb-false (length left) 4 p.0 in
          elim (chosen (has_magic left) _ _ _ p.1) [
            | inl q ↦
                let k = at_err 4 (first_at (drop 4 left)) f q.1 in
                opening_by left more (Err k.0) four q.0 (first_stays (drop 4 left) more k.0 k.1) ∙ ap Err (sym k.2)
            | inr q ↦
                let came : nat_lt (length (left ++ more)) 4 ≡ false = le-ltb (length (left ++ more)) 4 (omega (arith, length-append left more)) in
                (λ i. cond (came i) (Ok None) (cond ((magic_more left more four ∙ q.0) i) (at_offset 4 (first_at (drop 4 (left ++ more)))) (unopened (encrypted_more left more four i))))
                ∙ q.1
          ]
    ]

pub front_err : (stage : FileStage) (offset : ℕ) (left more : List ℕ) (f : FrameFault) → front_from stage offset left ≡ Err f → front_from stage offset (left ++ more) ≡ Err f
front_err First offset left more f e = opening_err left more f e
front_err (Later checked) offset left more f e =
    let k = at_err offset (later_at checked offset left) f e in
    ap (at_offset offset) (later_stays checked offset left more k.0 k.1) ∙ ap Err (sym k.2)

pub law_fault_stays : (bytes more : List ℕ) (ds es : List Framed) (f : FrameFault) (checked : Bool) (d : Framed) (bad : EndsBadly bytes ds f) → front_at bad.last ≡ Err f
    → IsFile (bytes ++ more) checked d es → ⊥
law_fault_stays bytes more ds es f checked d bad e file =
    let worse : EndsBadly (bytes ++ more) ds f = record {
      last = with_more bad.last more;
      follows = Follows-more (before bytes) ds bad.last more bad.follows;
      wrong = inl (front_err bad.last.stage bad.last.offset bad.last.left more f e);
    } in
    law_fault_is_no_file (bytes ++ more) ds es f checked d worse file

-- ---- what is read is in the grammar

pub record IsRun (checked : Bool) (offset : ℕ) (left : List ℕ) (es : List Framed) (t : Standing) : Type 0 where
  pub whole : left ≡ events_text checked offset es ++ t.left
  pub each : AllByRecursion (IsLater checked) es
  pub stage : t.stage ≡ Later checked

pub later_run : (checked : Bool) (offset : ℕ) (left : List ℕ) (es : List Framed) (t : Standing) → IsBytes left → Follows (record { stage = Later checked; offset = offset; left = left }) es t → IsRun checked offset left es t
unfolding events_text
later_run checked offset left [] t b f = record { whole = ap (λ (x : Standing). x.left) f; each = tt; stage = sym (ap (λ (x : Standing). x.stage) f) }
later_run checked offset left (e ∷ es) t b f =
    let k = later_takes checked offset left e b (at_some offset (later_at checked offset left) e f.0) in
    let ih = later_run checked (offset_after checked offset e) (drop (len_of checked e) left) es t (IsBytes-drop (len_of checked e) left b) f.1 in
    record {
      whole = k.whole ∙ ap (λ r. event_text checked offset e ++ r) ih.whole ∙ sym (append_assoc (event_text checked offset e) (events_text checked (offset_after checked offset e) es) t.left);
      each = (k.later, ih.each);
      stage = ih.stage;
    }

pub magic_is : (left : List ℕ) → 4 ≤ length left → has_magic left ≡ true → left ≡ magic ++ drop 4 left
unfolding has_magic
magic_is left h e =
    let a = and_parts _ _ e in
    let b = and_parts _ _ a.1 in
    let c = and_parts _ _ b.1 in
    let p = eqb-true (get_or left 0 0) 0xFE a.0 in
    let q = eqb-true (get_or left 1 0) 0x62 b.0 in
    let r = eqb-true (get_or left 2 0) 0x69 c.0 in
    let s = eqb-true (get_or left 3 0) 0x6E c.1 in
    listed 4 0 left h ∙ (λ i. p i ∷ q i ∷ r i ∷ s i ∷ drop 4 left)

no_first : (left : List ℕ) (offset : ℕ) → unfinished_from First offset left ≡ None → ⊥
unfolding unfinished_from
no_first left offset e = cc

no_bytes : (xs : List ℕ) → length xs ≡ 0 → xs ≡ []
no_bytes [] e = refl
no_bytes (x ∷ xs) e = absurd (omega arith)

nothing_left : (checked : Bool) (offset : ℕ) (left : List ℕ) → unfinished_from (Later checked) offset left ≡ None → left ≡ []
unfolding unfinished_from
nothing_left checked offset left e =
    elim (chosen (length left == 0) _ _ _ e) [
      | inl p ↦ no_bytes left (eqb-true (length left) 0 p.0)
      | inr p ↦ absurd (let q = p.1 in cc)
    ]

pub law_found_is_file : (bytes : List ℕ) (es : List Framed) → IsBytes bytes → EndsWell bytes es → FileOf bytes es
law_found_is_file bytes [] b w = absurd (no_first bytes 0 (ap unfinished w.follows ∙ w.finished))
law_found_is_file bytes (d ∷ es) b w =
    let o = opening_is bytes d w.follows.0 in
    let k = first_takes (drop 4 bytes) d (IsBytes-drop 4 bytes b) o.first in
    let rest : List ℕ = drop (len_of true d) (drop 4 bytes) in
    let run = later_run (is_checked d) (offset_after true 4 d) rest es w.last (IsBytes-drop (len_of true d) (drop 4 bytes) (IsBytes-drop 4 bytes b)) w.follows.1 in
    let none : w.last.left ≡ [] = nothing_left (is_checked d) w.last.offset w.last.left (ap (λ s. unfinished_from s w.last.offset w.last.left) (sym run.stage) ∙ w.finished) in
    record {
      checked = is_checked d;
      first = d;
      others = es;
      parts = refl;
      file = record {
        whole = magic_is bytes o.long o.magic
            ∙ ap (λ r. magic ++ r) (k.whole ∙ ap (λ r. description_text d ++ r) (run.whole ∙ ap (λ r. events_text (is_checked d) (offset_after true 4 d) es ++ r) none));
        description = k.description;
        each = run.each;
      };
    }

-- ---- whole files

pub start_none : front_at (before []) ≡ Ok None
unfolding opening_at
start_none = refl

pub IsBytes-append : (xs ys : List ℕ) → IsBytes xs → IsBytes ys → IsBytes (xs ++ ys)
IsBytes-append [] ys a b i = b i
IsBytes-append (x ∷ xs) ys a b zero = a 0
IsBytes-append (x ∷ xs) ys a b (suc i) = IsBytes-append xs ys (λ j. a (suc j)) b i
