-- Lines that are taken where no place has come last.
use Rattle.std.proofs.Common.{◌≡◌, ℕ, Bool, true, false, List, [], ◌∷◌, Result, Ok, Err, codes, refl, sym, ap, subst, ◌∙◌}
use Rattle.std.specs.Prelude.{◌&&◌}
use Rattle.std.specs.declared.alloc.AllocError.{AllocError}
use Rattle.std.proofs.lemmas.Slice.Eq.{bytes_eq-Decides}
use Rattle.gtid_set.specs.declared.fault.SetFault.{SetFault}
use Rattle.gtid_set.specs.declared.fault.SetFault.TheVariants.{Memory, PoolFull, SourcesFull}
use Rattle.rows.specs.declared.change.Change.{Change}
use Rattle.rows.specs.declared.limits.Limits.{Limits}
use Rattle.row_images.specs.Words.{first_word, others}
use Rattle.txn_journal.specs.Due.{is_due}
use Rattle.txn_journal.specs.Lines.{◌>>=◌, keyword_of, due}
use Rattle.txn_journal.specs.ChangeLines.{change_at, change_in}
use Rattle.txn_journal.specs.Places.{LogPlace, place_in, is_place_line, is_entry_line}
use Rattle.txn_journal.specs.PlacedFormats.{plain_line, judge_either, judge_behind, judge_placed, IsFullPlaced}
use Rattle.txn_journal.specs.Stream.{Judge, GivesFull, TakesLine, TakesPlain}
use Rattle.txn_journal.specs.TakenEntries.{judge_all, Makes, TakesText}
use Rattle.txn_journal.specs.declared.fault.Cause.{Cause}
use Rattle.txn_journal.specs.declared.fault.Cause.TheVariants as causes
use Rattle.txn_journal.specs.declared.fault.LineFault.{LineFault}
use Rattle.txn_journal.specs.declared.fault.LineFault.TheVariants as wrong
use Rattle.txn_journal.specs.declared.lines.LinePlace.TheVariants as places
use Rattle.txn_journal.specs.declared.placed.Placed.{Placed}
use Rattle.txn_journal.proofs.Judged.{bind_ok, ok_is}
use Rattle.txn_journal.proofs.PlacedLaws.{known, not_place, none_taken}

-- ---- lines of changes

-- a line that writes a change begins with no other word
other_word : (limits : Limits) (line : List ℕ) (change : Change) (word : List ℕ) → change_in limits line ≡ Ok change → first_word line ≡ word → (due (is_due places.Within) (keyword_of word) >>= λ k. change_at limits k (others line)) ≡ Ok change
unfolding change_in
other_word limits line change word e is = sym (ap (λ (w : List ℕ). due (is_due places.Within) (keyword_of w) >>= λ k. change_at limits k (others line)) is) ∙ e

pub change_no_entry : (limits : Limits) (line : List ℕ) (change : Change) → change_in limits line ≡ Ok change → is_entry_line line ≡ false
change_no_entry limits line change e = elim (is_entry_line line) as (λ v. is_entry_line line ≡ v → v ≡ false) [
  | true ↦ λ is. absurd (let k = other_word limits line change (codes "txn") e ((bytes_eq-Decides (first_word line) (codes "txn")).0 is) in cc)
  | false ↦ λ none. refl
] refl

pub change_no_place : (limits : Limits) (line : List ℕ) (change : Change) → change_in limits line ≡ Ok change → is_place_line line ≡ false
change_no_place limits line change e = elim (is_place_line line) as (λ v. is_place_line line ≡ v → v ≡ false) [
  | true ↦ λ is. absurd (let k = other_word limits line change (codes "place") e ((bytes_eq-Decides (first_word line) (codes "place")).0 is) in cc)
  | false ↦ λ none. refl
] refl

-- ---- lines

module _ {S : Type 0} (takes : S → Bool) (judge : Judge S) where
  abbrev at : S → Bool → Placed S
  at s is_placed = record { made = s; is_placed = is_placed }

  abbrev placed_judge : Judge (Placed S)
  placed_judge p line = judge_placed takes judge p line

  -- as it is, where no place has come last
  is_at : (p : Placed S) → p.is_placed ≡ false → p ≡ at p.made false
  is_at p e = λ i. at p.made (e i)

  judged_plain : (p : Placed S) (line : List ℕ) → p.is_placed ≡ false → is_place_line line ≡ false → placed_judge p line ≡ plain_line (judge p.made line)
  judged_plain p line e none = ap (λ (q : Placed S). placed_judge q line) (is_at p e) ∙ not_place takes judge p.made line none

  pub entry_refused : (p : Placed S) (line : List ℕ) → p.is_placed ≡ true → is_entry_line line ≡ false → judge_placed takes judge p line ≡ Err causes.Keyword
  entry_refused p line e none = ap (λ (b : Bool). placed_judge (at p.made b) line) e ∙ none_taken takes judge p.made line none

  -- what a line makes is full only if the line is no place
  plain_full : (full : S → Type 0) (r : Result S Cause) → GivesFull (λ p. (p.is_placed ≡ false) × full p.made) (plain_line r) → GivesFull full r
  plain_full full (Ok s) h = h.1
  plain_full full (Err c) h = h

  place_full : (full : S → Type 0) (s : S) (r : Result LogPlace Cause) → GivesFull (λ p. (p.is_placed ≡ false) × full p.made) (r >>= λ q. Ok (at s true)) → ⊥
  place_full full s (Ok q) h = absurd (let k = h.0 in cc)
  place_full full s (Err c) h = h

  either_full : (full : S → Type 0) (v : Bool) (s : S) (line : List ℕ) → GivesFull (λ p. (p.is_placed ≡ false) × full p.made) (judge_either v judge s line) → GivesFull full (judge s line)
  either_full full true s line h = absurd (place_full full s (place_in (others line)) h)
  either_full full false s line h = plain_full full (judge s line) h

  at_full : (full : S → Type 0) (b : Bool) (s : S) (line : List ℕ) → b ≡ false → GivesFull (λ p. (p.is_placed ≡ false) × full p.made) (judge_behind b takes judge s line) → GivesFull full (judge s line)
  at_full full true s line e h = absurd cc
  at_full full false s line e h = either_full full (takes s && is_place_line line) s line h

  pub gives_full : (full : SetFault → S → Type 0) (fault : SetFault) (p : Placed S) (line : List ℕ) → p.is_placed ≡ false → GivesFull (IsFullPlaced full fault) (judge_placed takes judge p line) → GivesFull (full fault) (judge p.made line)
  unfolding judge_placed
  gives_full full fault p line e h = at_full (full fault) p.is_placed p.made line e h

  -- ---- what the code has done

  full_line : (full : S → Type 0) (r : Result S Cause) → GivesFull full r → GivesFull (λ p. (p.is_placed ≡ false) × full p.made) (plain_line r)
  full_line full (Ok s) h = (refl, h)
  full_line full (Err c) h = h

  plain_took : (full : SetFault → S → Type 0) (r : Result (Unit {0}) LineFault) (judged : Result S Cause) (s : S) → TakesLine full r judged s → TakesLine (IsFullPlaced full) r (plain_line judged) (at s false)
  plain_took full (Ok u) judged s h = ap (λ (x : Result S Cause). plain_line x) h
  plain_took full (Err (wrong.Wrong c)) judged s h = ap (λ (x : Result S Cause). plain_line x) h
  plain_took full (Err (wrong.Set SourcesFull)) judged s h = full_line (full SourcesFull) judged h
  plain_took full (Err (wrong.Set PoolFull)) judged s h = full_line (full PoolFull) judged h
  plain_took full (Err (wrong.Set Memory)) judged s h = tt

  pub change_took : (full : SetFault → S → Type 0) (r : Result (Unit {0}) LineFault) (p : Placed S) (s : S) (line : List ℕ) → p.is_placed ≡ false → is_place_line line ≡ false → TakesLine full r (judge p.made line) s → TakesLine (IsFullPlaced full) r (judge_placed takes judge p line) (record { made = s; is_placed = p.is_placed })
  change_took full r p s line e none h =
      subst (λ (b : Bool). TakesLine (IsFullPlaced full) r (placed_judge p line) (at s b)) (sym e)
      (subst (λ (x : Result (Placed S) Cause). TakesLine (IsFullPlaced full) r x (at s false)) (sym (judged_plain p line e none)) (plain_took full r (judge p.made line) s h))

  module _ (unknown : (s : S) (line : List ℕ) → is_place_line line ≡ true → judge s line ≡ Err causes.Keyword) where
    taken : (s t : S) (line : List ℕ) → judge s line ≡ Ok t → placed_judge (at s false) line ≡ Ok (at t false)
    taken s t line e = not_place takes judge s line (known takes judge s t line (unknown s line) e) ∙ ap (λ (x : Result S Cause). plain_line x) e

    plain_is : (r : Result Bool AllocError) (s t : S) (line : List ℕ) → TakesPlain r (judge s line) s t → TakesPlain r (placed_judge (at s false) line) (at s false) (at t false)
    plain_is (Ok true) s t line h = taken s t line h
    plain_is (Ok false) s t line h = ap (λ (x : S). at x false) h
    plain_is (Err e) s t line h = tt

    pub plain_took_line : (r : Result Bool AllocError) (p : Placed S) (t : S) (line : List ℕ) → p.is_placed ≡ false → TakesPlain r (judge p.made line) p.made t → TakesPlain r (judge_placed takes judge p line) p (record { made = t; is_placed = p.is_placed })
    plain_took_line r p t line e h =
        subst (λ (b : Bool). TakesPlain r (placed_judge (at p.made b) line) (at p.made b) (at t b)) (sym e) (plain_is r p.made t line h)

    all_taken : (s t : S) (ls : List (List ℕ)) → judge_all judge s ls ≡ Ok t → judge_all placed_judge (at s false) ls ≡ Ok (at t false)
    all_taken s t [] e = ap (λ (x : Result S Cause). plain_line x) e
    all_taken s t (l ∷ ls) e =
        let a = bind_ok (judge s l) (λ u. judge_all judge u ls) t e in
        ap (λ (x : Result (Placed S) Cause). x >>= λ u. judge_all placed_judge u ls) (taken s a.0 l a.1) ∙ all_taken a.0 t ls a.2

    text_is : (r : Result Bool AllocError) (text : List ℕ) (count : ℕ) (s t : S) → TakesText judge r text count s t → TakesText placed_judge r text count (at s false) (at t false)
    text_is (Ok true) text count s t h = record { lines = h.lines; parts = h.parts; whole = h.whole; number = h.number; made = all_taken s t h.lines h.made }
    text_is (Ok false) text count s t h = ap (λ (x : S). at x false) h
    text_is (Err e) text count s t h = tt

    pub text_took : (r : Result Bool AllocError) (text : List ℕ) (count : ℕ) (p : Placed S) (t : S) → p.is_placed ≡ false → TakesText judge r text count p.made t → TakesText (judge_placed takes judge) r text count p (record { made = t; is_placed = p.is_placed })
    text_took r text count p t e h =
        subst (λ (b : Bool). TakesText placed_judge r text count (at p.made b) (at t b)) (sym e) (text_is r text count p.made t h)
