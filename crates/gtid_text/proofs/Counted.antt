-- The sources of set text, counted interval by interval.
use Rattle.std.proofs.Common.{◌≡◌, ℕ, ◌+◌, Bool, true, false, cond, List, [], ◌∷◌, ◌++◌, Option, Some, None, Result, Ok, Err, refl, sym, ap, ◌∙◌, arith}
use Rattle.std.specs.Prelude.{◌≤◌, ◌&&◌, ◌==◌, length, is_some}
use Rattle.std.specs.Str.{bytes_eq}
use Rattle.std.proofs.lemmas.Slice.Eq.{bytes_eq-Decides}
use Rattle.std.proofs.lemmas.Bool.{ne_eqb}
use Rattle.std.proofs.lemmas.Bool.Decides.{same_from_decides}
use Rattle.gtid_text.specs.declared.SourceId.{SourceId}
use Rattle.gtid_text.specs.declared.Span.{Span}
use Rattle.gtid_text.specs.declared.scan.ScanFault.{ScanFault}
use Rattle.gtid_text.specs.Canonical.{next_text, text_behind}
use Rattle.gtid_text.specs.Counting.{may_follow, are_tidy_behind, source_before, counts_as, sources_behind, count_read, count_more, count_rest, Strips, FindsNext}
use Rattle.gtid_text.specs.Reading.{turn_at, with_front, spans_in}
use Rattle.gtid_text.proofs.Stripped.{same_behind}
use Rattle.gtid_text.proofs.Turns.{left_of, left_of-turn, left_of-end, with_nothing, fails}

bytes_behind : (p q t : List ℕ) → bytes_eq (p ++ q) (p ++ t) ≡ bytes_eq q t
bytes_behind p q t =
    let d = bytes_eq-Decides (p ++ q) (p ++ t) in
    same_from_decides (bytes_eq (p ++ q) (p ++ t)) (bytes_eq q t) ((λ e. same_behind p q t (d.0 e)), λ e. d.1 (ap (λ (l : List ℕ). p ++ l) e)) (bytes_eq-Decides q t)

bytes_missing : (p q t : List ℕ) → Strips t p None → bytes_eq (p ++ q) t ≡ false
bytes_missing p q t m =
    elim (bytes_eq (p ++ q) t) as (λ b. bytes_eq (p ++ q) t ≡ b → b ≡ false) [
      | true ↦ λ e. absurd (m q (sym ((bytes_eq-Decides (p ++ q) t).0 e)))
      | false ↦ λ e. refl
    ] refl

and_false : (b : Bool) → (b && false) ≡ false
and_false true = refl
and_false false = refl

-- with an interval more at least
count_some : (n : ℕ) (before : Option Span) (text : List ℕ) (s : Span) (ss : List Span)
    → count_more n before text (s ∷ ss) ≡ cond (are_tidy_behind before (s ∷ ss) && bytes_eq (text_behind (source_before before) (s ∷ ss)) text) (Some (n + sources_behind before (s ∷ ss))) None
count_some n None text s ss = refl
count_some n (Some e) text s ss = refl

count_behind : (n : ℕ) (e : Span) (text : List ℕ) (ss : List Span)
    → count_more n (Some e) text ss ≡ cond (are_tidy_behind (Some e) ss && bytes_eq (text_behind (Some e.source) ss) text) (Some (n + sources_behind (Some e) ss)) None
count_behind n e text [] = refl
count_behind n e text (s ∷ ss) = refl

regrouped : (n k m : ℕ) → n + (k + m) ≡ (n + k) + m
regrouped n k m = omega arith

found_one : (n : ℕ) (before : Option Span) (text rest : List ℕ) (s : Span) (ss : List Span) → FindsNext before s text (Some rest) → count_more n before text (s ∷ ss) ≡ count_more (n + counts_as before s) (Some s) rest ss
found_one n before text rest s ss h =
    let next = next_text (source_before before) s in
    let behind = text_behind (Some s.source) ss in
    let tidy = are_tidy_behind (Some s) ss in
    let more = sources_behind (Some s) ss in
    count_some n before text s ss
    ∙ ap (λ (b : Bool). cond ((b && tidy) && bytes_eq (next ++ behind) text) (Some (n + (counts_as before s + more))) None) h.0
    ∙ ap (λ (t : List ℕ). cond (tidy && bytes_eq (next ++ behind) t) (Some (n + (counts_as before s + more))) None) h.1
    ∙ ap (λ (b : Bool). cond (tidy && b) (Some (n + (counts_as before s + more))) None) (bytes_behind next behind rest)
    ∙ ap (λ (k : ℕ). cond (tidy && bytes_eq behind rest) (Some k) None) (regrouped n (counts_as before s) more)
    ∙ sym (count_behind (n + counts_as before s) s rest ss)

missed_one : (n : ℕ) (before : Option Span) (text : List ℕ) (s : Span) (ss : List Span) → FindsNext before s text None → count_more n before text (s ∷ ss) ≡ None
missed_one n before text s ss h =
    let next = next_text (source_before before) s in
    let behind = text_behind (Some s.source) ss in
    let tidy = are_tidy_behind (Some s) ss in
    let more = n + (counts_as before s + sources_behind (Some s) ss) in
    count_some n before text s ss
    ∙ (elim (may_follow before s) as (λ b. may_follow before s ≡ b → cond ((b && tidy) && bytes_eq (next ++ behind) text) (Some more) None ≡ None) [
      | true ↦ λ e. ap (λ (b : Bool). cond (tidy && b) (Some more) None) (bytes_missing next behind text (h e)) ∙ ap (λ (b : Bool). cond b (Some more) None) (and_false tidy)
      | false ↦ λ e. refl
    ] refl)

-- ---- what is left to read

rest_found : (n : ℕ) (before : Option Span) (text rest : List ℕ) (s : Span) (r : Result (List Span) ScanFault) → FindsNext before s text (Some rest) → count_rest n before text (with_front (s ∷ []) r) ≡ count_rest (n + counts_as before s) (Some s) rest r
rest_found n before text rest s (Ok ss) h = found_one n before text rest s ss h
rest_found n before text rest s (Err e) h = refl

rest_missed : (n : ℕ) (before : Option Span) (text : List ℕ) (s : Span) (r : Result (List Span) ScanFault) → FindsNext before s text None → count_rest n before text (with_front (s ∷ []) r) ≡ None
rest_missed n before text s (Ok ss) h = missed_one n before text s ss h
rest_missed n before text s (Err e) h = refl

none_before : (n : ℕ) → 0 + n ≡ n
none_before n = omega arith

-- before the first
first_counted : (text : List ℕ) (r : Result (List Span) ScanFault) → count_rest 0 None text r ≡ count_read text r
first_counted text (Ok []) = refl
first_counted text (Ok (s ∷ ss)) = ap (λ (k : ℕ). cond (are_tidy_behind None (s ∷ ss) && bytes_eq (text_behind None (s ∷ ss)) text) (Some k) None) (none_before (sources_behind None (s ∷ ss)))
first_counted text (Err e) = refl

pub starts_count : (text : List ℕ) → count_rest 0 None text (left_of None text) ≡ count_read text (spans_in text)
unfolding left_of spans_in
starts_count text = first_counted text (spans_in text)

module _ (n : ℕ) (before : Option Span) (text : List ℕ) (inside : Option SourceId) (rest : List ℕ) (next : Option SourceId) (after : List ℕ) where
  -- a turn without an interval
  pub counts_none : turn_at inside rest ≡ Ok (Some (None, next, after)) → count_rest n before text (left_of next after) ≡ count_rest n before text (left_of inside rest)
  counts_none e = ap (count_rest n before text) (sym (left_of-turn inside rest (None, next, after) e ∙ with_nothing (left_of next after)))

  -- a turn with one that follows
  pub counts_found : (s : Span) (left : List ℕ) → turn_at inside rest ≡ Ok (Some (Some s, next, after)) → FindsNext before s text (Some left) → count_rest (n + counts_as before s) (Some s) left (left_of next after) ≡ count_rest n before text (left_of inside rest)
  counts_found s left e h = sym (ap (count_rest n before text) (left_of-turn inside rest (Some s, next, after) e) ∙ rest_found n before text left s (left_of next after) h)

  -- a turn with one that does not
  pub counts_missed : (s : Span) → turn_at inside rest ≡ Ok (Some (Some s, next, after)) → FindsNext before s text None → count_rest n before text (left_of inside rest) ≡ None
  counts_missed s e h = ap (count_rest n before text) (left_of-turn inside rest (Some s, next, after) e) ∙ rest_missed n before text s (left_of next after) h

pub counts_end : (n : ℕ) (before : Option Span) (text : List ℕ) (inside : Option SourceId) (rest : List ℕ) → turn_at inside rest ≡ Ok None → count_rest n before text (left_of inside rest) ≡ count_more n before text []
counts_end n before text inside rest e = ap (count_rest n before text) (left_of-end inside rest e)

pub counts_fault : (n : ℕ) (before : Option Span) (text : List ℕ) (inside : Option SourceId) (rest : List ℕ) (r : ScanFault) → turn_at inside rest ≡ Err r → count_rest n before text (left_of inside rest) ≡ None
counts_fault n before text inside rest r e = ap (count_rest n before text) (fails [] inside rest r (left_of inside rest) e (with_nothing (left_of inside rest)))

pub counts_at_most : (before : Option Span) (s : Span) → counts_as before s ≤ 1
counts_at_most None s = omega arith
counts_at_most (Some e) s = elim (e.source == s.source) as (λ b. cond b 0 1 ≤ 1) [ true ↦ omega arith | false ↦ omega arith ]

plus_none : (n : ℕ) → n + 0 ≡ n
plus_none n = omega arith

-- the count at the end
pub end_counted : (n : ℕ) (before : Option Span) (text : List ℕ) (some : Bool) → some ≡ is_some before → cond (some && (length text == 0)) (Some n) None ≡ count_more n before text []
end_counted n None text some e = rw e refl
end_counted n (Some b) [] some e = rw e (ap (λ (k : ℕ). Some k) (sym (plus_none n)))
end_counted n (Some b) (x ∷ xs) some e = rw e (ap (λ (b : Bool). cond b (Some n) None) (ne_eqb (length (x ∷ xs)) 0 (omega arith)))
