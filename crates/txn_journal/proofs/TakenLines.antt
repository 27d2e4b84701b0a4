-- Entries that were taken are those that would have come in front.
use Rattle.std.proofs.Common.{◌≡◌, ℕ, Bool, true, false, not, cond, eqb, leb, List, [], ◌∷◌, ◌++◌, ◌+◌, length, Option, Some, None, Result, Ok, Err, refl, sym, ap, ◌∙◌, append_assoc, arith}
use Rattle.std.specs.Prelude.{◌&&◌, ◌||◌, MatchResult}
use Rattle.std.proofs.lemmas.Result.{MatchResult-weaker}
use Rattle.std.specs.FinSet as set
use Rattle.std.proofs.lemmas.List.{append-nil}
use Rattle.journal.specs.declared.Entry.{Entry}
use Rattle.journal.specs.Journals.{JournalValue}
use Rattle.journal.specs.Writing.{is_number, is_change_writable}
use Rattle.txn_journal.specs.Due.{is_due}
use Rattle.gtid_text.specs.declared.Gtid.{Gtid}
use Rattle.txn_journal.specs.Lines.{◌>>=◌, stamp_in}
use Rattle.txn_journal.specs.Machine.{Standing, is_last, takes_places, close_entry, add, begin_stamped, begin, judge}
use Rattle.row_images.specs.Words.{others}
use Rattle.txn_journal.specs.Places.{LogPlace, place_in, is_place_line, is_entry_line}
use Rattle.txn_journal.specs.PlacedFormats.{plain_line, judge_either, judge_entry, judge_behind as judge_behind_place, judge_placed}
use Rattle.txn_journal.specs.declared.placed.Placed.{Placed}
use Rattle.txn_journal.proofs.Judged.{then_both}
use Rattle.txn_journal.specs.Stream.{Reading, Stopped, progress_after, next_number, feed_byte, end_of_text, at_end}
use Rattle.txn_journal.specs.Formats.{closing_by}
use Rattle.txn_journal.specs.Reading.{Stamped, JournalProgress, feed_journal_bytes, stamped_of, without_entries, closing, in_front, with_taken, behind_entries, with_front, has_begun, HasBegun}
use Rattle.txn_journal.specs.Spelling.{Line, Header, Previous, Begin, Makes, End, Close}
use Rattle.txn_journal.specs.Wordings.{ParsesAsLine}
use Rattle.txn_journal.specs.Causes.{word_for, wording, HasCause}
use Rattle.txn_journal.specs.declared.fault.Cause.{Cause}
use Rattle.txn_journal.specs.declared.fault.Cause.TheVariants as causes
use Rattle.txn_journal.specs.declared.fault.JournalFault.{JournalFault}
use Rattle.txn_journal.specs.declared.lines.LinePlace.{LinePlace}
use Rattle.txn_journal.specs.declared.lines.LinePlace.TheVariants as places
use Rattle.txn_journal.specs.declared.lines.Keyword.TheVariants as keywords
use Rattle.txn_journal.proofs.WordLaws.{read_by, read_both, judged_both}
use Rattle.txn_journal.proofs.LineReads.{body_of, put, judge_reads, rest_laws}
use Rattle.txn_journal.proofs.SoundLines.{begin_both, add_both}
use Rattle.rows.specs.Limits.{most_changes}
use Rattle.txn_journal.specs.Versions.{limits_of}

abbrev ok_standing : Standing → Result Standing Cause
ok_standing s = Ok s

abbrev ok_placed : Standing → Result (Placed Standing) Cause
ok_placed s = Ok (record { made = s; is_placed = true })

abbrev ok_placed_false : Standing → Result (Placed Standing) Cause
ok_placed_false s = Ok (record { made = s; is_placed = false })

abbrev judge_text : Placed Standing → List ℕ → Result (Placed Standing) Cause
judge_text p line = judge_placed takes_places (judge None) p line

abbrev behind_or : Bool → Standing → List ℕ → Result (Placed Standing) Cause
behind_or b s line = judge_behind_place b takes_places (judge None) s line

abbrev behind_ok : Stamped → Result Standing Cause → Result Standing Cause
behind_ok front (Ok s) = Ok (with_taken front s)
behind_ok front (Err c) = Err c

behind_cond : (front : Stamped) (b : Bool) (c : Cause) (x : Result Standing Cause) (y : Result Standing Cause) → y ≡ behind_ok front x → cond b (Err c) y ≡ behind_ok front (cond b (Err c) x)
behind_cond front true c x y e = refl
behind_cond front false c x y e = e

no_previous : (place : LinePlace) → has_begun place ≡ true → is_due place keywords.Previous ≡ true → ⊥
no_previous place b e = grind arith

no_header : (place : LinePlace) → has_begun place ≡ true → is_due place keywords.Journal ≡ true → ⊥
no_header place b e = grind arith

stamped_behind : (front : Stamped) (s : Standing) (g : Gtid) (o : Option ℕ) → begin_stamped (with_taken front s) g o ≡ behind_ok front (begin_stamped s g o)
stamped_behind front s g None = refl
stamped_behind front s g (Some stamp) = behind_cond front (set.contains s.seen g) (causes.Twice g) (Ok (record s { place = places.Within; gtid = g; stamp = stamp })) _ refl

put_behind : (front : Stamped) (s : Standing) (l : Line) → has_begun s.place ≡ true → is_due s.place (word_for l) ≡ true → put None (with_taken front s) l ≡ behind_ok front (put None s l)
unfolding put begin add
put_behind front s (Header v) b e = refl
put_behind front s (Previous p) b e = absurd (no_previous s.place b e)
put_behind front s (Begin g numbers) b e =
    let third : Result Standing Cause = begin_stamped s g (stamp_in (s.count + 1) numbers) in
    let second : Result Standing Cause = cond (leb 4294967294 s.count) (Err causes.Limit) third in
    behind_cond front (not (is_number g.number)) causes.Body second _
    (behind_cond front (leb 4294967294 s.count) causes.Limit third _ (stamped_behind front s g (stamp_in (s.count + 1) numbers)))
put_behind front s (Makes c) b e =
    let last : Result Standing Cause = Ok (record s { changes = s.changes ++ c ∷ [] }) in
    behind_cond front (leb (most_changes (limits_of s.version)) (length s.changes) || not (is_change_writable (limits_of s.version) c)) causes.Limit last _ refl
put_behind front s End b e =
    let one : Entry = record { gtid = s.gtid; txn = record { changes = s.changes } } in
    λ i. ok_standing (record (close_entry s) { journal = record s.journal { entries = append_assoc front.entries s.journal.entries (one ∷ []) i }; stamps = append_assoc front.stamps s.stamps (s.stamp ∷ []) i })
put_behind front s Close b e = refl

then_behind : (front : Stamped) (s : Standing) (line : List ℕ) (r : Result Line Cause) → has_begun s.place ≡ true → MatchResult r (ParsesAsLine (wording None s) line) (HasCause None s line) → (r >>= put None (with_taken front s)) ≡ behind_ok front (r >>= put None s)
then_behind front s line (Ok l) b h = put_behind front s l b h.due
then_behind front s line (Err c) b h = refl

judge_behind : (front : Stamped) (s : Standing) (line : List ℕ) → has_begun s.place ≡ true → judge None (with_taken front s) line ≡ behind_ok front (judge None s line)
judge_behind front s line b =
    judge_reads None (with_taken front s) line
    ∙ then_behind front s line (read_by (wording None s) (body_of s.due s.version) line) b (read_both (wording None s) (body_of s.due s.version) (rest_laws None s) line)
    ∙ ap (behind_ok front) (sym (judge_reads None s line))

-- ---- a journal that has begun stays so

abbrev StaysBegun : Standing → Type 0
StaysBegun t = has_begun t.place ≡ true

put_begun : (s : Standing) (line : List ℕ) (l : Line) → has_begun s.place ≡ true → is_due s.place (word_for l) ≡ true → ParsesAsLine (wording None s) line l → MatchResult (put None s l) StaysBegun (HasCause None s line)
unfolding put
put_begun s line (Header v) b due h = absurd (no_header s.place b due)
put_begun s line (Previous p) b due h = absurd (no_previous s.place b due)
put_begun s line (Begin g numbers) b due h = begin_both None s line g numbers StaysBegun h (λ number room stamp e unseen. refl)
put_begun s line (Makes c) b due h = add_both None s line c StaysBegun h (λ room writable taken. b)
put_begun s line End b due h = refl
put_begun s line Close b due h = refl

judge_begun : (s : Standing) (line : List ℕ) → has_begun s.place ≡ true → MatchResult (judge None s line) StaysBegun (HasCause None s line)
judge_begun s line b = rw (judge_reads None s line) (judged_both (wording None s) (body_of s.due s.version) (rest_laws None s) StaysBegun (put None s) line (λ l h. put_begun s line l b h.due h))

-- ---- lines among which places are

abbrev placed_behind : Stamped → Placed Standing → Placed Standing
placed_behind front p = record p { made = with_taken front p.made }

abbrev ok_behind : Stamped → Result (Placed Standing) Cause → Result (Placed Standing) Cause
ok_behind front (Ok p) = Ok (placed_behind front p)
ok_behind front (Err c) = Err c

plain_behind : (front : Stamped) (r : Result Standing Cause) → plain_line (behind_ok front r) ≡ ok_behind front (plain_line r)
plain_behind front (Ok s) = refl
plain_behind front (Err c) = refl

place_behind : (front : Stamped) (s : Standing) (r : Result LogPlace Cause) → (r >>= λ q. ok_placed (with_taken front s)) ≡ ok_behind front (r >>= λ q. ok_placed s)
place_behind front s (Ok q) = refl
place_behind front s (Err c) = refl

either_behind : (front : Stamped) (v : Bool) (s : Standing) (line : List ℕ) → has_begun s.place ≡ true → judge_either v (judge None) (with_taken front s) line ≡ ok_behind front (judge_either v (judge None) s line)
either_behind front true s line h = place_behind front s (place_in (others line))
either_behind front false s line h = ap (λ (r : Result Standing Cause). plain_line r) (judge_behind front s line h) ∙ plain_behind front (judge None s line)

entry_behind : (front : Stamped) (v : Bool) (s : Standing) (line : List ℕ) → has_begun s.place ≡ true → judge_entry v (judge None) (with_taken front s) line ≡ ok_behind front (judge_entry v (judge None) s line)
entry_behind front true s line h = ap (λ (r : Result Standing Cause). plain_line r) (judge_behind front s line h) ∙ plain_behind front (judge None s line)
entry_behind front false s line h = refl

at_behind : (front : Stamped) (b : Bool) (s : Standing) (line : List ℕ) → has_begun s.place ≡ true → behind_or b (with_taken front s) line ≡ ok_behind front (behind_or b s line)
at_behind front true s line h = entry_behind front (is_entry_line line) s line h
at_behind front false s line h = either_behind front (takes_places s && is_place_line line) s line h

all_behind : (front : Stamped) (p : Placed Standing) (line : List ℕ) → has_begun p.made.place ≡ true → judge_text (placed_behind front p) line ≡ ok_behind front (judge_text p line)
unfolding judge_placed
all_behind front p line h = at_behind front p.is_placed p.made line h

-- it stays begun

abbrev PlacedBegun : Placed Standing → Type 0
PlacedBegun p = StaysBegun p.made

plain_begun : (s : Standing) (line : List ℕ) → has_begun s.place ≡ true → MatchResult (plain_line (judge None s line)) PlacedBegun (λ c. Unit {0})
plain_begun s line h = then_both PlacedBegun (λ c. Unit {0}) (judge None s line) ok_placed_false (MatchResult-weaker (judge None s line) (judge_begun s line h) (λ t k. k) (λ c k. tt)) (λ t k. k)

place_begun : (s : Standing) (r : Result LogPlace Cause) → has_begun s.place ≡ true → MatchResult (r >>= λ q. ok_placed s) PlacedBegun (λ c. Unit {0})
place_begun s (Ok q) h = h
place_begun s (Err c) h = tt

either_begun : (v : Bool) (s : Standing) (line : List ℕ) → has_begun s.place ≡ true → MatchResult (judge_either v (judge None) s line) PlacedBegun (λ c. Unit {0})
either_begun true s line h = place_begun s (place_in (others line)) h
either_begun false s line h = plain_begun s line h

entry_begun : (v : Bool) (s : Standing) (line : List ℕ) → has_begun s.place ≡ true → MatchResult (judge_entry v (judge None) s line) PlacedBegun (λ c. Unit {0})
entry_begun true s line h = plain_begun s line h
entry_begun false s line h = tt

at_begun : (b : Bool) (s : Standing) (line : List ℕ) → has_begun s.place ≡ true → MatchResult (behind_or b s line) PlacedBegun (λ c. Unit {0})
at_begun true s line h = entry_begun (is_entry_line line) s line h
at_begun false s line h = either_begun (takes_places s && is_place_line line) s line h

all_begun : (p : Placed Standing) (line : List ℕ) → has_begun p.made.place ≡ true → MatchResult (judge_text p line) PlacedBegun (λ c. Unit {0})
unfolding judge_placed
all_begun p line h = at_begun p.is_placed p.made line h

-- ---- bytes

judged_behind : (front : Stamped) (r : Result (Placed Standing) Cause) (n : ℕ) → progress_after (ok_behind front r) n ≡ behind_entries front (progress_after r n)
judged_behind front (Ok s) n = refl
judged_behind front (Err c) n = refl

judged_begun : (r : Result (Placed Standing) Cause) (n : ℕ) → MatchResult r PlacedBegun (λ c. Unit {0}) → HasBegun (progress_after r n)
judged_begun (Ok t) n h = h
judged_begun (Err c) n h = tt

eat_behind : (front : Stamped) (p : JournalProgress) (b : ℕ) → HasBegun p → (feed_byte judge_text (behind_entries front p) b ≡ behind_entries front (feed_byte judge_text p b)) × HasBegun (feed_byte judge_text p b)
unfolding feed_byte
eat_behind front (Reading s n rest) b h =
    elim (eqb b 10) as (λ v. (cond v (progress_after (judge_text (placed_behind front s) rest) (next_number n)) (Reading (placed_behind front s) n (rest ++ b ∷ [])) ≡ behind_entries front (cond v (progress_after (judge_text s rest) (next_number n)) (Reading s n (rest ++ b ∷ [])))) × HasBegun (cond v (progress_after (judge_text s rest) (next_number n)) (Reading s n (rest ++ b ∷ [])))) [
      | true ↦ (ap (λ (r : Result (Placed Standing) Cause). progress_after r (next_number n)) (all_behind front s rest h) ∙ judged_behind front (judge_text s rest) (next_number n), judged_begun (judge_text s rest) (next_number n) (all_begun s rest h))
      | false ↦ (refl, h)
    ]
eat_behind front (Stopped f) b h = (refl, tt)

pub eats_behind : (front : Stamped) (p : JournalProgress) (bytes : List ℕ) → HasBegun p → feed_journal_bytes (behind_entries front p) bytes ≡ behind_entries front (feed_journal_bytes p bytes)
eats_behind front p [] h = refl
eats_behind front p (b ∷ bs) h =
    let one = eat_behind front p b h in
    ap (λ (q : JournalProgress). feed_journal_bytes q bs) one.0 ∙ eats_behind front (feed_byte judge_text p b) bs one.1

-- ---- the whole

pub taken_behind : (p : JournalProgress) → behind_entries (stamped_of p) (without_entries p) ≡ p
taken_behind (Reading s n rest) = λ i. Reading (record s { made = record s.made { journal = record s.made.journal { entries = append-nil s.made.journal.entries i }; stamps = append-nil s.made.stamps i } }) n rest
taken_behind (Stopped f) = refl

whole_behind : (front : List Entry) (r : Result (Unit {0}) JournalFault) (j : JournalValue) → at_end r (in_front front j) ≡ with_front front (at_end r j)
whole_behind front (Ok u) j = refl
whole_behind front (Err f) j = refl

pub closing_behind : (front : Stamped) (p : JournalProgress) → closing (behind_entries front p) ≡ with_front front.entries (closing p)
unfolding closing_by
closing_behind front (Reading s n rest) = whole_behind front.entries (end_of_text (is_last s.made.place) rest n) s.made.journal
closing_behind front (Stopped f) = refl
