-- A format obeys the laws of formats with places before its entries, if it obeys them without.
use Rattle.std.proofs.Common.{◌≡◌, ◌⊎◌, ℕ, Bool, true, false, not, eqb, List, [], ◌∷◌, ◌++◌, map, Option, Some, None, Result, Ok, Err, refl, sym, ap, subst, ◌∙◌, append_assoc, inl, inr}
use Rattle.std.specs.Prelude.{◌&&◌, ◌||◌, MatchResult, codes}
use Rattle.std.specs.List.{list_all, flat_map, AllByRecursion}
use Rattle.std.proofs.lemmas.Bool.{and_parts}
use Rattle.std.proofs.lemmas.List.{append-nil, map-append}
use Rattle.std.proofs.lemmas.List.Concat.{flat_map-append}
use Rattle.lemmas.proofs.Lists.{all_append, all_push}
use Rattle.row_images.specs.Words.{first_word, others}
use Rattle.txn_journal.specs.Words.{IsOneLine}
use Rattle.txn_journal.specs.Lines.{◌>>=◌}
use Rattle.txn_journal.specs.Stream.{Judge}
use Rattle.txn_journal.specs.Formats.{Format, ended_line_of, text_of, MayWrite}
use Rattle.txn_journal.specs.Places.{LogPlace, place_text, IsLogPlace, place_in, HasPlaceCause, is_place_line, is_entry_line, PlacedLine, AtPlace, Plain, without_places, has_places, placed_text, text_with_places, text_without_places, StandBeforeEntries, BeginsAs, PlacesFit, WritesPlaced, EndsPlaced}
use Rattle.txn_journal.specs.PlacedFormats.{place_line, plain_line, judge_either, judge_entry, judge_behind, judge_placed, HasCauseEither, HasCauseOfEntry, HasCauseBehind, HasPlacedLines, placed}
use Rattle.txn_journal.specs.declared.fault.Cause.{Cause}
use Rattle.txn_journal.specs.declared.fault.Cause.TheVariants as causes
use Rattle.txn_journal.specs.declared.placed.Placed.{Placed}
use Rattle.txn_journal.proofs.Judged.{then_both, bind_ok, ok_is}
use Rattle.txn_journal.proofs.FormatLaws.{runs, runs_split, runs_follow, Leads, splits, same_texts, Reads, ReadsOn, OneMore, CanGoOn, Laws}
use Rattle.txn_journal.proofs.PlaceLines.{place_again, place_both}

abbrev at : {S : Type 0} → S → Bool → Placed S
at s is_placed = record { made = s; is_placed = is_placed }

abbrev ok_placed : {S : Type 0} → Placed S → Result (Placed S) Cause
ok_placed p = Ok p

-- ---- lines among which places are

without_append : {L : Type 0} (xs ys : List (PlacedLine L)) → without_places (xs ++ ys) ≡ without_places xs ++ without_places ys
without_append [] ys = refl
without_append (AtPlace p ∷ xs) ys = without_append xs ys
without_append {L} (Plain l ∷ xs) ys = ap (λ (ls : List L). l ∷ ls) (without_append xs ys)

plain_without : {L : Type 0} (ks : List L) → without_places (map Plain ks) ≡ ks
plain_without [] = refl
plain_without {L} (k ∷ ks) = ap (λ (ls : List L). k ∷ ls) (plain_without ks)

plain_has : {L : Type 0} (ks : List L) → has_places (map Plain ks) ≡ false
plain_has [] = refl
plain_has (k ∷ ks) = plain_has ks

has_in_front : {L : Type 0} (xs ys : List (PlacedLine L)) → has_places ys ≡ false → has_places (xs ++ ys) ≡ true → has_places xs ≡ true
has_in_front [] ys none has = absurd (let k = sym none ∙ has in cc)
has_in_front (AtPlace p ∷ xs) ys none has = refl
has_in_front (Plain l ∷ xs) ys none has = has_in_front xs ys none has

module _ {L : Type 0} (text : L → List ℕ) (header : List ℕ) where
  abbrev AreWholeLines : List L → Type 0
  AreWholeLines ls = AllByRecursion (λ l. IsOneLine (text l)) ls

  abbrev AreWholePlaced : List (PlacedLine L) → Type 0
  AreWholePlaced ls = AllByRecursion (λ l. IsOneLine (placed_text text l)) ls

  whole_without : (ls : List (PlacedLine L)) → AreWholePlaced ls → AreWholeLines (without_places ls)
  whole_without [] h = tt
  whole_without (AtPlace p ∷ ls) h = whole_without ls h.1
  whole_without (Plain l ∷ ls) h = (h.0, whole_without ls h.1)

  plain_whole : (ks : List L) → AreWholeLines ks → AreWholePlaced (map Plain ks)
  plain_whole [] h = tt
  plain_whole (k ∷ ks) h = (h.0, plain_whole ks h.1)

  plain_text : (ks : List L) → text_with_places text (map Plain ks) ≡ flat_map (λ l. text l ++ 10 ∷ []) ks
  plain_text [] = refl
  plain_text (k ∷ ks) = ap (λ (rest : List ℕ). (text k ++ 10 ∷ []) ++ rest) (plain_text ks)

  plain_stand : (ks : List L) → StandBeforeEntries text false false (map Plain ks)
  plain_stand [] = refl
  plain_stand (k ∷ ks) = plain_stand ks

  stand_append : (a b c : Bool) (xs ys : List (PlacedLine L)) → StandBeforeEntries text a b xs → StandBeforeEntries text b c ys → StandBeforeEntries text a c (xs ++ ys)
  stand_append a b c [] ys h k = subst (λ (x : Bool). StandBeforeEntries text x c ys) (sym h) k
  stand_append true b c (AtPlace p ∷ xs) ys h k = absurd h
  stand_append false b c (AtPlace p ∷ xs) ys h k = (h.0, stand_append true b c xs ys h.1 k)
  stand_append true b c (Plain l ∷ xs) ys h k = (h.0, stand_append false b c xs ys h.1 k)
  stand_append false b c (Plain l ∷ xs) ys h k = stand_append false b c xs ys h k

  begins_append : {M : Type 0} (show : M → List ℕ) (xs ys : List M) → BeginsAs show header xs → BeginsAs show header (xs ++ ys)
  begins_append show [] ys h = absurd h
  begins_append show (x ∷ xs) ys h = h

  -- where no place has come
  begins_plain : (ls : List (PlacedLine L)) → has_places ls ≡ false → BeginsAs text header (without_places ls) → BeginsAs (placed_text text) header ls
  begins_plain [] none h = absurd h
  begins_plain (AtPlace p ∷ ls) none h = absurd cc
  begins_plain (Plain l ∷ ls) none h = h

  begins_either : (ls : List (PlacedLine L)) → (has_places ls ≡ true → BeginsAs (placed_text text) header ls) → BeginsAs text header (without_places ls) → BeginsAs (placed_text text) header ls
  begins_either ls newest h = elim (has_places ls) as (λ v. has_places ls ≡ v → BeginsAs (placed_text text) header ls) [ true ↦ newest | false ↦ λ none. begins_plain ls none h ] refl

  -- lines more, none of which is a place
  fit_append : (b c : Bool) (ls ks : List (PlacedLine L)) → PlacesFit text header b ls → AreWholePlaced ks → StandBeforeEntries text b c ks → has_places ks ≡ false → PlacesFit text header c (ls ++ ks)
  fit_append b c ls ks h whole stand none = record {
    whole = all_append (λ l. IsOneLine (placed_text text l)) ls ks h.whole whole;
    stand = stand_append false b c ls ks h.stand stand;
    newest = λ has. begins_append (placed_text text) ls ks (h.newest (has_in_front ls ks none has));
  }

  -- a place more
  fit_place : (ls : List (PlacedLine L)) (p : LogPlace) → PlacesFit text header false ls → IsOneLine (place_text p) → IsLogPlace p → BeginsAs text header (without_places ls) → PlacesFit text header true (ls ++ AtPlace p ∷ [])
  fit_place ls p h one is begins = record {
    whole = all_push (λ l. IsOneLine (placed_text text l)) ls (AtPlace p) h.whole one;
    stand = stand_append false false true ls (AtPlace p ∷ []) h.stand (is, refl);
    newest = λ has. begins_append (placed_text text) ls (AtPlace p ∷ []) (begins_either ls h.newest begins);
  }

  -- the first line, of which the text alone is known
  begins_with : (old : List L) (ls : List (PlacedLine L)) → BeginsAs text header old → BeginsAs (placed_text text) header (map Plain old ++ ls)
  begins_with [] ls h = absurd h
  begins_with (o ∷ os) ls h = h

  begins_step : (old : List L) (k l : L) (ls : List (PlacedLine L)) → text l ≡ text k → BeginsAs (placed_text text) header (map Plain old ++ Plain l ∷ ls) → BeginsAs (placed_text text) header (map Plain (old ++ k ∷ []) ++ ls)
  begins_step [] k l ls e h = sym e ∙ h
  begins_step (o ∷ os) k l ls e h = h

  -- a place isn't the header
  begins_before : (old : List L) (p : LogPlace) (ls : List (PlacedLine L)) → is_place_line header ≡ false → BeginsAs (placed_text text) header (map Plain old ++ AtPlace p ∷ ls) → BeginsAs text header old
  begins_before [] p ls not_header h = absurd (let k = ap is_place_line h ∙ not_header in cc)
  begins_before (o ∷ os) p ls not_header h = h

-- ---- lines that are taken

module _ {S : Type 0} (takes : S → Bool) (judge : Judge S) where
  place_taken : (s : S) (p : LogPlace) → takes s ≡ true → IsLogPlace p → judge_placed takes judge (at s false) (place_text p) ≡ Ok (at s true)
  unfolding judge_placed
  place_taken s p is fits =
      ap (λ (b : Bool). judge_either (b && true) judge s (place_text p)) is
      ∙ ap (λ (r : Result LogPlace Cause). r >>= λ q. ok_placed (at s true)) (place_again p fits)

  either_plain : (b : Bool) (s : S) (line : List ℕ) → judge_either (b && false) judge s line ≡ plain_line (judge s line)
  either_plain true s line = refl
  either_plain false s line = refl

  pub not_place : (s : S) (line : List ℕ) → is_place_line line ≡ false → judge_placed takes judge (at s false) line ≡ plain_line (judge s line)
  unfolding judge_placed
  not_place s line none = ap (λ (b : Bool). judge_either (takes s && b) judge s line) none ∙ either_plain (takes s) s line

  entry_taken : (s : S) (line : List ℕ) → is_entry_line line ≡ true → judge_placed takes judge (at s true) line ≡ plain_line (judge s line)
  unfolding judge_placed
  entry_taken s line entry = ap (λ (b : Bool). judge_entry b judge s line) entry

  pub none_taken : (s : S) (line : List ℕ) → is_entry_line line ≡ false → judge_placed takes judge (at s true) line ≡ Err causes.Keyword
  unfolding judge_placed
  none_taken s line none = ap (λ (b : Bool). judge_entry b judge s line) none

  plain_ok : (s t : S) (line : List ℕ) → judge s line ≡ Ok t → plain_line (judge s line) ≡ Ok (at t false)
  plain_ok s t line e = ap (λ (r : Result S Cause). plain_line r) e

  -- the line of a place is none that is taken, if its word isn't known
  pub known : (s t : S) (line : List ℕ) → (is_place_line line ≡ true → judge s line ≡ Err causes.Keyword) → judge s line ≡ Ok t → is_place_line line ≡ false
  known s t line unknown e = elim (is_place_line line) as (λ v. is_place_line line ≡ v → v ≡ false) [ true ↦ λ is. absurd (let k = sym (unknown is) ∙ e in cc) | false ↦ λ none. refl ] refl

-- ---- laws

-- What a format and its laws have to say of the states where places are taken. Its own lines know no such word.
pub record TakesPlaces (f : Format) (Sound : f.State → List f.Line → Type 0) (laws : Laws f Sound) (takes : f.State → Bool) (header : List ℕ) : Type 0 where
  pub unknown : (s : f.State) (line : List ℕ) → is_place_line line ≡ true → f.judge s line ≡ Err causes.Keyword
  pub unknown_loosely : (s : f.State) (line : List ℕ) → is_place_line line ≡ true → laws.loose s line ≡ Err causes.Keyword
  pub not_inside : (line : List ℕ) → is_place_line line ≡ true → f.is_inside line ≡ false
  pub not_header : is_place_line header ≡ false
  pub not_last : (s : f.State) → takes s ≡ true → f.is_last s ≡ false
  pub not_open : (s : f.State) → takes s ≡ true → f.is_open s ≡ false
  pub newest : (s : f.State) (ls : List f.Line) → Sound s ls → takes s ≡ true → BeginsAs f.line_text header ls
  pub before_entry : (s t : f.State) (ls : List f.Line) (line : List ℕ) → Sound s ls → BeginsAs f.line_text header ls → f.judge s line ≡ Ok t → is_entry_line line ≡ true → takes s ≡ true

pub record IsSoundPlaced (f : Format) (Sound : f.State → List f.Line → Type 0) (takes : f.State → Bool) (header : List ℕ) (p : Placed f.State) (ls : List (PlacedLine f.Line)) : Type 0 where
  pub made : Sound p.made (without_places ls)
  pub fit : PlacesFit f.line_text header p.is_placed ls
  pub taken : p.is_placed ≡ true → takes p.made ≡ true

module _ (f : Format) (Sound : f.State → List f.Line → Type 0) (laws : Laws f Sound) (takes : f.State → Bool) (header : List ℕ) (places : TakesPlaces f Sound laws takes header) where
  abbrev with_places : Format
  with_places = placed f takes header

  abbrev IsSound : Placed f.State → List (PlacedLine f.Line) → Type 0
  IsSound p ls = IsSoundPlaced f Sound takes header p ls

  -- judging loosely takes a place anywhere
  abbrev loosely : Judge (Placed f.State)
  loosely = judge_placed (λ s. true) laws.loose

  -- ---- a line more

  plain_more : (b : Bool) (s t : f.State) (ls : List (PlacedLine f.Line)) (line : List ℕ) → IsSound (at s b) ls → IsOneLine line → (b ≡ true → is_entry_line line ≡ true) → OneMore f Sound (without_places ls) line t → OneMore with_places IsSound ls line (at t false)
  plain_more b s t ls line h one entry k =
      let last = Plain k.l ∷ [] in
      record {
        l = Plain k.l;
        text = k.text;
        sound = record {
          made = subst (Sound t) (sym (without_append ls last)) k.sound;
          fit = fit_append f.line_text header b false ls last h.fit (subst IsOneLine k.text one, tt) (stands b entry) refl;
          taken = λ e. absurd cc;
        };
      }
    where
      stands : (v : Bool) → (v ≡ true → is_entry_line line ≡ true) → StandBeforeEntries f.line_text v false (Plain k.l ∷ [])
      stands true entry = (ap is_entry_line (sym k.text) ∙ entry refl, refl)
      stands false entry = refl

  plain_both : (b : Bool) (s : f.State) (ls : List (PlacedLine f.Line)) (line : List ℕ) → IsSound (at s b) ls → IsOneLine line → (b ≡ true → is_entry_line line ≡ true) → MatchResult (plain_line (f.judge s line)) (OneMore with_places IsSound ls line) (f.HasCause s line)
  plain_both b s ls line h one entry =
      then_both (OneMore with_places IsSound ls line) (f.HasCause s line) (f.judge s line) (λ t. ok_placed (at t false)) (laws.judges s (without_places ls) line h.made one) (λ t k. plain_more b s t ls line h one entry k)

  place_more : (s : f.State) (ls : List (PlacedLine f.Line)) (line : List ℕ) (p : LogPlace) → IsSound (at s false) ls → IsOneLine line → takes s ≡ true → line ≡ place_text p → IsLogPlace p → OneMore with_places IsSound ls line (at s true)
  place_more s ls line p h one is text fits = record {
    l = AtPlace p;
    text = text;
    sound = record {
      made = subst (Sound s) (sym (without_append ls (AtPlace p ∷ []) ∙ append-nil (without_places ls))) h.made;
      fit = fit_place f.line_text header ls p h.fit (subst IsOneLine text one) fits (places.newest s (without_places ls) h.made is);
      taken = λ e. is;
    };
  }

  judged_at : (b : Bool) (s : f.State) (ls : List (PlacedLine f.Line)) (line : List ℕ) → IsSound (at s b) ls → IsOneLine line → MatchResult (judge_behind b takes f.judge s line) (OneMore with_places IsSound ls line) (HasCauseBehind f takes b s line)
  judged_at true s ls line h one = elim (is_entry_line line) as (λ v. is_entry_line line ≡ v → MatchResult (judge_entry v f.judge s line) (OneMore with_places IsSound ls line) (HasCauseOfEntry f v s line)) [
    | true ↦ λ entry. plain_both true s ls line h one (λ e. entry)
    | false ↦ λ none. refl
  ] refl
  judged_at false s ls line h one = elim (takes s && is_place_line line) as (λ v. (takes s && is_place_line line) ≡ v → MatchResult (judge_either v f.judge s line) (OneMore with_places IsSound ls line) (HasCauseEither f v s line)) [
    | true ↦ λ both.
        let p = and_parts (takes s) (is_place_line line) both in
        then_both (OneMore with_places IsSound ls line) (HasPlaceCause line) (place_in (others line)) (λ q. ok_placed (at s true)) (place_both line p.1) (λ q k. place_more s ls line q h one p.0 k.0 k.1)
    | false ↦ λ none. plain_both false s ls line h one (λ e. absurd cc)
  ] refl

  judges : (p : Placed f.State) (ls : List (PlacedLine f.Line)) (line : List ℕ) → IsSound p ls → IsOneLine line → MatchResult (judge_placed takes f.judge p line) (OneMore with_places IsSound ls line) (HasCauseBehind f takes p.is_placed p.made line)
  unfolding judge_placed
  judges p ls line h one = judged_at p.is_placed p.made ls line h one

  -- ---- what has been read can be gone on with

  -- lines after those that are known
  going_on : (W : List ℕ → f.Value → Type 0) (s : f.State) (ls : List (PlacedLine f.Line)) (more ks : List f.Line) (v : f.Value) → IsSound (at s false) ls → AllByRecursion (λ l. IsOneLine (f.line_text l)) ks → text_of f (without_places ls ++ more) ≡ text_of f ks → W (text_of f (without_places ls ++ more)) v
      → (rest : List f.Line) × WritesPlaced f.line_text header W (text_with_places f.line_text (ls ++ map Plain rest)) v
  going_on W s ls more ks v h whole same w =
      let plain = without_places ls in
      let cut = splits f.line_text plain ks (text_of f more) (whole_without f.line_text header ls h.fit.whole) whole (sym (flat_map-append (ended_line_of f) plain more) ∙ same) in
      let left : text_of f (plain ++ cut.rest) ≡ text_of f (plain ++ more) = flat_map-append (ended_line_of f) plain cut.rest ∙ ap (λ (x : List ℕ). text_of f plain ++ x) cut.left ∙ sym (flat_map-append (ended_line_of f) plain more) in
      let lines : without_places (ls ++ map Plain cut.rest) ≡ plain ++ cut.rest = without_append ls (map Plain cut.rest) ∙ ap (λ (x : List f.Line). plain ++ x) (plain_without cut.rest) in (
        cut.rest,
        record {
          lines = ls ++ map Plain cut.rest;
          parts = refl;
          fit = fit_append f.line_text header false false ls (map Plain cut.rest) h.fit (plain_whole f.line_text header cut.rest cut.whole) (plain_stand f.line_text header cut.rest) (plain_has cut.rest);
          written = subst (λ (x : List ℕ). W x v) (sym (ap (text_of f) lines ∙ left)) w;
        },
      )

  goes_on : (is_open : Bool) (s : f.State) (ls : List (PlacedLine f.Line)) → IsSound (at s false) ls → CanGoOn f is_open (without_places ls) → CanGoOn with_places is_open ls
  goes_on true s ls h k =
      let r = laws.reads_open _ k.value k.writes in
      let w = going_on f.AlmostWrites s ls k.more r.lines k.value h r.leads.whole r.parts k.writes in
      record { value = k.value; more = map Plain w.0; writes = inl w.1 }
  goes_on false s ls h k =
      let r = laws.reads _ k.value k.writes in
      let w = going_on f.Writes s ls k.more r.lines k.value h r.leads.whole r.parts k.writes in
      record { value = k.value; more = map Plain w.0; writes = w.1 }

  begins_at : (b : Bool) (s : f.State) (ls : List (PlacedLine f.Line)) → IsSound (at s b) ls → CanGoOn with_places (b || f.is_open s) ls
  begins_at false s ls h = goes_on (f.is_open s) s ls h (laws.begins s (without_places ls) h.made)
  begins_at true s ls h =
      let k = subst (λ (v : Bool). CanGoOn f v (without_places ls)) (places.not_open s (h.taken refl)) (laws.begins s (without_places ls) h.made) in
      record {
        value = k.value;
        more = [];
        writes = inr (record {
          lines = ls;
          parts = ap (text_with_places f.line_text) (append-nil ls);
          fit = h.fit;
          more = text_of f k.more;
          written = subst (λ (x : List ℕ). f.Writes x k.value) (flat_map-append (ended_line_of f) (without_places ls) k.more) k.writes;
        });
      }

  -- ---- the end

  ends_at : (b : Bool) (s : f.State) (ls : List (PlacedLine f.Line)) → IsSound (at s b) ls → f.is_last s ≡ true → WritesPlaced f.line_text header f.Writes (text_with_places f.line_text ls) (f.value s)
  ends_at true s ls h last = absurd (let k = sym (places.not_last s (h.taken refl)) ∙ last in cc)
  ends_at false s ls h last = record { lines = ls; parts = refl; fit = h.fit; written = laws.ends s (without_places ls) h.made last }

  -- ---- reading is complete

  -- a line that is taken is known
  one_more : (s t : f.State) (old : List f.Line) (line : List ℕ) → Sound s old → IsOneLine line → f.judge s line ≡ Ok t → OneMore f Sound old line t
  one_more s t old line sound one e =
      let P : Result f.State Cause → Type 0 = λ r. MatchResult r (OneMore f Sound old line) (f.HasCause s line) in
      subst P e (laws.judges s old line sound one)

  walks : (s t : f.State) (old : List f.Line) (b : Bool) (ls : List (PlacedLine f.Line)) → Sound s old → AllByRecursion (λ l. IsOneLine (placed_text f.line_text l)) ls → StandBeforeEntries f.line_text b false ls → (has_places ls ≡ true → BeginsAs (placed_text f.line_text) header (map Plain old ++ ls)) → runs f.judge s (map f.line_text (without_places ls)) ≡ Ok t
      → runs (judge_placed takes f.judge) (at s b) (map (placed_text f.line_text) ls) ≡ Ok (at t false)
  walks s t old b [] sound whole stand newest e = λ i. ok_placed (at (ok_is s t e i) (stand i))
  walks s t old true (AtPlace p ∷ ls) sound whole stand newest e = absurd stand
  walks s t old false (AtPlace p ∷ []) sound whole stand newest e = absurd (let k = stand.1 in cc)
  walks s t old false (AtPlace p ∷ AtPlace q ∷ ls) sound whole stand newest e = absurd stand.1
  walks s t old false (AtPlace p ∷ Plain l ∷ ls) sound whole stand newest e =
      let a = bind_ok (f.judge s (f.line_text l)) (λ u. runs f.judge u (map f.line_text (without_places ls))) t e in
      let begins = begins_before f.line_text header old p (Plain l ∷ ls) places.not_header (newest refl) in
      let is = places.before_entry s a.0 old (f.line_text l) sound begins a.1 stand.1.0 in
      ap (λ (r : Result (Placed f.State) Cause). r >>= λ u. runs (judge_placed takes f.judge) u (map (placed_text f.line_text) (Plain l ∷ ls))) (place_taken takes f.judge s p is stand.0)
      ∙ walks s t old true (Plain l ∷ ls) sound whole.1 stand.1 (λ has. begins_with f.line_text header old (Plain l ∷ ls) begins) e
  walks s t old true (Plain l ∷ ls) sound whole stand newest e =
      let a = bind_ok (f.judge s (f.line_text l)) (λ u. runs f.judge u (map f.line_text (without_places ls))) t e in
      let k = one_more s a.0 old (f.line_text l) sound whole.0 a.1 in
      ap (λ (r : Result (Placed f.State) Cause). r >>= λ u. runs (judge_placed takes f.judge) u (map (placed_text f.line_text) ls)) (entry_taken takes f.judge s (f.line_text l) stand.0 ∙ plain_ok takes f.judge s a.0 (f.line_text l) a.1)
      ∙ walks a.0 t (old ++ k.l ∷ []) false ls k.sound whole.1 stand.1 (λ has. begins_step f.line_text header old k.l l ls k.text (newest has)) a.2
  walks s t old false (Plain l ∷ ls) sound whole stand newest e =
      let a = bind_ok (f.judge s (f.line_text l)) (λ u. runs f.judge u (map f.line_text (without_places ls))) t e in
      let k = one_more s a.0 old (f.line_text l) sound whole.0 a.1 in
      let none = known takes f.judge s a.0 (f.line_text l) (places.unknown s (f.line_text l)) a.1 in
      ap (λ (r : Result (Placed f.State) Cause). r >>= λ u. runs (judge_placed takes f.judge) u (map (placed_text f.line_text) ls)) (not_place takes f.judge s (f.line_text l) none ∙ plain_ok takes f.judge s a.0 (f.line_text l) a.1)
      ∙ walks a.0 t (old ++ k.l ∷ []) false ls k.sound whole.1 stand (λ has. begins_step f.line_text header old k.l l ls k.text (newest has)) a.2

  -- the run over the lines without places
  plain_run : (judge : Judge f.State) (t : f.State) (ls : List (PlacedLine f.Line)) (ks : List f.Line) → AllByRecursion (λ l. IsOneLine (placed_text f.line_text l)) ls → text_without_places f.line_text ls ≡ text_of f ks → Leads judge f.line_text f.start ks t → runs judge f.start (map f.line_text (without_places ls)) ≡ Ok t
  plain_run judge t ls ks whole same leads =
      subst (λ (x : List (List ℕ)). runs judge f.start x ≡ Ok t) (same_texts f.line_text (without_places ls) ks (whole_without f.line_text header ls whole) leads.whole same) leads.run

  reads : (bytes : List ℕ) (v : f.Value) → WritesPlaced f.line_text header f.Writes bytes v → Reads with_places (judge_placed takes f.judge) bytes v
  reads bytes v w =
      let r = laws.reads _ v w.written in
      record {
        lines = w.lines;
        last = at r.last false;
        parts = w.parts;
        leads = record { whole = w.fit.whole; run = walks f.start r.last [] false w.lines laws.starts w.fit.whole w.fit.stand w.fit.newest (plain_run f.judge r.last w.lines r.lines w.fit.whole r.parts r.leads) };
        done = r.done;
        value = r.value;
      }

  -- ---- reading loosely

  strolls : (s t : f.State) (b c : Bool) (ls : List (PlacedLine f.Line)) → StandBeforeEntries f.line_text b c ls → runs laws.loose s (map f.line_text (without_places ls)) ≡ Ok t → runs loosely (at s b) (map (placed_text f.line_text) ls) ≡ Ok (at t c)
  strolls s t b c [] stand e = λ i. ok_placed (at (ok_is s t e i) (stand i))
  strolls s t true c (AtPlace p ∷ ls) stand e = absurd stand
  strolls s t false c (AtPlace p ∷ ls) stand e =
      ap (λ (r : Result (Placed f.State) Cause). r >>= λ u. runs loosely u (map (placed_text f.line_text) ls)) (place_taken (λ s. true) laws.loose s p refl stand.0)
      ∙ strolls s t true c ls stand.1 e
  strolls s t true c (Plain l ∷ ls) stand e =
      let a = bind_ok (laws.loose s (f.line_text l)) (λ u. runs laws.loose u (map f.line_text (without_places ls))) t e in
      ap (λ (r : Result (Placed f.State) Cause). r >>= λ u. runs loosely u (map (placed_text f.line_text) ls)) (entry_taken (λ s. true) laws.loose s (f.line_text l) stand.0 ∙ plain_ok (λ s. true) laws.loose s a.0 (f.line_text l) a.1)
      ∙ strolls a.0 t false c ls stand.1 a.2
  strolls s t false c (Plain l ∷ ls) stand e =
      let a = bind_ok (laws.loose s (f.line_text l)) (λ u. runs laws.loose u (map f.line_text (without_places ls))) t e in
      let none = known (λ s. true) laws.loose s a.0 (f.line_text l) (places.unknown_loosely s (f.line_text l)) a.1 in
      ap (λ (r : Result (Placed f.State) Cause). r >>= λ u. runs loosely u (map (placed_text f.line_text) ls)) (not_place (λ s. true) laws.loose s (f.line_text l) none ∙ plain_ok (λ s. true) laws.loose s a.0 (f.line_text l) a.1)
      ∙ strolls a.0 t false c ls stand a.2

  reads_open : (bytes : List ℕ) (v : f.Value) → WritesPlaced f.line_text header f.AlmostWrites bytes v ⊎ EndsPlaced f.line_text header f.Writes bytes v → ReadsOn with_places loosely bytes
  reads_open bytes v (inl w) =
      let r = laws.reads_open _ v w.written in
      record { lines = w.lines; last = at r.last false; parts = w.parts; leads = record { whole = w.fit.whole; run = strolls f.start r.last false false w.lines w.fit.stand (plain_run laws.loose r.last w.lines r.lines w.fit.whole r.parts r.leads) } }
  reads_open bytes v (inr w) =
      let r = laws.reads _ v w.written in
      let cut = splits f.line_text (without_places w.lines) r.lines w.more (whole_without f.line_text header w.lines w.fit.whole) r.leads.whole r.parts in
      let lines : map f.line_text r.lines ≡ map f.line_text (without_places w.lines) ++ map f.line_text cut.rest = ap (map f.line_text) cut.parts ∙ map-append f.line_text cut.front cut.rest ∙ ap (λ (x : List (List ℕ)). x ++ map f.line_text cut.rest) cut.same in
      let half = runs_split f.judge f.start r.last (map f.line_text (without_places w.lines)) (map f.line_text cut.rest) (subst (λ (x : List (List ℕ)). runs f.judge f.start x ≡ Ok r.last) lines r.leads.run) in
      let loose = runs_follow f.judge laws.loose laws.follows f.start half.0 (map f.line_text (without_places w.lines)) half.1 in
      record { lines = w.lines; last = at half.0 true; parts = w.parts; leads = record { whole = w.fit.whole; run = strolls f.start half.0 false true w.lines w.fit.stand loose } }

  -- ---- what is taken is taken loosely

  plain_follows : (s : f.State) (q : Placed f.State) (line : List ℕ) → plain_line (f.judge s line) ≡ Ok q → plain_line (laws.loose s line) ≡ Ok q
  plain_follows s q line e =
      let a = bind_ok (f.judge s line) (λ t. ok_placed (at t false)) q e in
      ap (λ (r : Result f.State Cause). plain_line r) (laws.follows s a.0 line a.1) ∙ a.2

  plain_refuses : (s : f.State) (ls : List f.Line) (line : List ℕ) (c : Cause) → Sound s ls → plain_line (f.judge s line) ≡ Err c → f.is_inside line ≡ true → plain_line (laws.loose s line) ≡ Err c
  plain_refuses s ls line c sound e inside = ap (λ (r : Result f.State Cause). plain_line r) (laws.refuses s ls line c sound (fault (f.judge s line) e) inside)
    where
      fault : (r : Result f.State Cause) → plain_line r ≡ Err c → r ≡ Err c
      fault (Ok t) e = absurd cc
      fault (Err d) e = let same : d ≡ c = cc in ap (λ (x : Cause). Err x) same

  follows_at : (b : Bool) (s : f.State) (q : Placed f.State) (line : List ℕ) → judge_behind b takes f.judge s line ≡ Ok q → judge_behind b (λ s. true) laws.loose s line ≡ Ok q
  follows_at true s q line e = elim (is_entry_line line) as (λ v. judge_entry v f.judge s line ≡ Ok q → judge_entry v laws.loose s line ≡ Ok q) [ true ↦ plain_follows s q line | false ↦ λ k. k ] e
  follows_at false s q line e = elim (is_place_line line) as (λ v. is_place_line line ≡ v → judge_either (takes s && v) f.judge s line ≡ Ok q → judge_either v laws.loose s line ≡ Ok q) [
    | true ↦ λ is k. of_place (takes s) is k
    | false ↦ λ none k. plain_follows s q line (sym (either_plain takes f.judge (takes s) s line) ∙ k)
  ] refl e
    where
      of_place : (v : Bool) → is_place_line line ≡ true → judge_either (v && true) f.judge s line ≡ Ok q → place_line s line ≡ Ok q
      of_place true is k = k
      of_place false is k = absurd (let m = sym (ap (λ (r : Result f.State Cause). plain_line r) (places.unknown s line is)) ∙ k in cc)

  follows : (p q : Placed f.State) (line : List ℕ) → judge_placed takes f.judge p line ≡ Ok q → loosely p line ≡ Ok q
  unfolding judge_placed
  follows p q line e = follows_at p.is_placed p.made q line e

  refuses_at : (b : Bool) (s : f.State) (ls : List f.Line) (line : List ℕ) (c : Cause) → Sound s ls → judge_behind b takes f.judge s line ≡ Err c → f.is_inside line ≡ true → judge_behind b (λ s. true) laws.loose s line ≡ Err c
  refuses_at true s ls line c sound e inside = elim (is_entry_line line) as (λ v. judge_entry v f.judge s line ≡ Err c → judge_entry v laws.loose s line ≡ Err c) [ true ↦ λ k. plain_refuses s ls line c sound k inside | false ↦ λ k. k ] e
  refuses_at false s ls line c sound e inside = elim (is_place_line line) as (λ v. is_place_line line ≡ v → judge_either (takes s && v) f.judge s line ≡ Err c → judge_either v laws.loose s line ≡ Err c) [
    | true ↦ λ is k. absurd (let m = sym (places.not_inside line is) ∙ inside in cc)
    | false ↦ λ none k. plain_refuses s ls line c sound (sym (either_plain takes f.judge (takes s) s line) ∙ k) inside
  ] refl e

  refuses : (p : Placed f.State) (ls : List (PlacedLine f.Line)) (line : List ℕ) (c : Cause) → IsSound p ls → judge_placed takes f.judge p line ≡ Err c → f.is_inside line ≡ true → loosely p line ≡ Err c
  unfolding judge_placed
  refuses p ls line c h e inside = refuses_at p.is_placed p.made (without_places ls) line c h.made e inside

  -- ---- all laws

  pub laws_placed : Laws with_places IsSound
  laws_placed = record {
    starts = record { made = laws.starts; fit = record { whole = tt; stand = refl; newest = λ has. absurd cc }; taken = λ e. absurd cc };
    has_lines = λ p ls h. record { made = laws.has_lines p.made (without_places ls) h.made; stand = h.fit.stand; taken = h.taken };
    begins = λ p ls h. begins_at p.is_placed p.made ls h;
    judges = judges;
    ends = λ p ls h last. ends_at p.is_placed p.made ls h last;
    reads = reads;
    loose = loosely;
    follows = follows;
    refuses = refuses;
    reads_open = reads_open;
  }

  -- a text without places is one of them
  pub plain_is_text : (bytes : List ℕ) (v : f.Value) → f.Writes bytes v → WritesPlaced f.line_text header f.Writes bytes v
  plain_is_text bytes v w =
      let r = laws.reads bytes v w in
      let lines = map Plain r.lines in
      record {
        lines = lines;
        parts = r.parts ∙ sym (plain_text f.line_text header r.lines);
        fit = record { whole = plain_whole f.line_text header r.lines r.leads.whole; stand = plain_stand f.line_text header r.lines; newest = λ has. absurd (let k = sym (plain_has r.lines) ∙ has in cc) };
        written = subst (λ (x : List ℕ). f.Writes x v) (r.parts ∙ ap (text_of f) (sym (plain_without r.lines))) w;
      }
