-- Journals obey the laws of formats: a text is read to its end, and what has been read can be gone on with.
use Rattle.std.proofs.Common.{◌≡◌, ℕ, ◌+◌, ◌^◌, ◌<◌, ◌≤◌, Bool, true, false, not, eqb, leb, List, [], ◌∷◌, ◌++◌, length, map, Option, Some, None, Ok, refl, sym, ap, subst, ◌∙◌, append_assoc, arith}
use Rattle.std.specs.List.{list_all, AllByRecursion}
use Rattle.std.specs.FinSet as set
use Rattle.std.proofs.lemmas.Bool.{eq-eqb, lt-ltb, lt-leb, and_parts, leb-true}
use Rattle.std.proofs.lemmas.List.{append-nil, length-append}
use Rattle.gtid_text.specs.declared.Gtid.{Gtid}
use Rattle.gtid_text.specs.Written.{IsUsable}
use Rattle.gtid_text.specs.Canonical.{gtid_text}
use Rattle.gtid_set.specs.Sets.{Gtids, greatest}
use Rattle.gtid_set.proofs.SpanLemmas.{all_weaker}
use Rattle.row_images.specs.declared.value.Value.{Value}
use Rattle.rows.specs.declared.change.Change.{Change}
use Rattle.rows.specs.declared.change.Change.TheVariants.{Insert, Delete, Update}
use Rattle.rows.specs.declared.schema.Table.{Table}
use Rattle.rows.specs.declared.limits.Limits.{Limits}
use Rattle.rows.specs.Limits.{most_changes}
use Rattle.txn_journal.specs.Versions.{limits_of}
use Rattle.journal.specs.declared.Entry.{Entry}
use Rattle.journal.specs.Journals.{JournalValue, AreNew}
use Rattle.journal.proofs.EntryLemmas.{no_numbers}
use Rattle.journal.specs.Writing.{is_number, is_image_writable, is_change_writable, is_txn_writable, is_writable}
use Rattle.row_images.specs.Values.{value_text}
use Rattle.row_images.proofs.Counts.{lacks, is_count_decimal, count_again}
use Rattle.row_images.proofs.ValueLaws.{value_lacks, feed_is_none}
use Rattle.txn_journal.specs.Due.{is_due}
use Rattle.txn_journal.specs.Stamps.{no_stamps}
use Rattle.txn_journal.specs.Lines.{Numbers, takes, stamp_in}
use Rattle.txn_journal.specs.Stream.{Judge}
use Rattle.txn_journal.specs.Machine.{Standing, empty, is_last, is_within, fits, open_entry, close_entry, add, begin, judge}
use Rattle.txn_journal.specs.Spelling.{Line, Header, Previous, Begin, Makes, End, Close, numbers_text, change_text, line_text, lines_text, numbers_of, entry_lines, entries_lines, front_lines, journal_lines, spelling_as, FitsChange, FitsEntry, IsWritten, IsStamp, AreStamps, WritesAs, WritesPlain}
use Rattle.row_images.specs.Images.{values_text, AreValues}
use Rattle.txn_journal.specs.declared.lines.LinePlace.TheVariants as places
use Rattle.txn_journal.specs.declared.lines.Version.{Version}
use Rattle.txn_journal.specs.declared.lines.Version.TheVariants.{One, Two, Three}
use Rattle.txn_journal.proofs.NameLemmas.{name_no_feed}
use Rattle.txn_journal.proofs.SplitLaws.{joined_lacks, count_no_feed}
use Rattle.row_images.proofs.ImageLaws.{texts_lack}
use Rattle.txn_journal.proofs.GtidLaws.{gtid_set_bytes, is_set_byte, set_no_feed, set_no_feeds, none_written}
use Rattle.txn_journal.specs.Reading.{journals_as, WrittenJournal, as_written, IsWrittenAs}
use Rattle.txn_journal.proofs.FormatLaws.{Leads, leads_none, leads_one, leads_both, Laws}
use Rattle.txn_journal.specs.Causes.{word_for, AreCounts, HasNumbers, FitsLine, HasImages, FitsAt, wording}
use Rattle.txn_journal.proofs.LineReads.{body_of, put, judge_reads, rest_laws}
use Rattle.txn_journal.proofs.WordLaws.{judged_again}
use Rattle.txn_journal.proofs.SoundLines.{placed, fits_in, seen_after, Whole, Sound_at, IsSound, whole_more, ended_entry, whole_written, judged_line}
use Rattle.std.proofs.lemmas.Result.{MatchResult-weaker}
use Rattle.lemmas.proofs.Lists.{all_true_append as joins}
use Rattle.txn_journal.specs.LinesSoFar.{lines_so_far}
use Rattle.txn_journal.specs.declared.lines.LinePlace.{LinePlace}
use Rattle.txn_journal.specs.declared.lines.Due.{Due}
use Rattle.txn_journal.specs.declared.lines.Due.TheVariants.{Any, Only, BeforeThree}

-- ---- no line feed is in a line

pub values_one : (vs : List Value) → AreValues vs → lacks 10 (values_text vs) ≡ true
values_one vs fits = joined_lacks 32 10 (map value_text vs) refl (texts_lack 10 vs (λ v f. value_lacks 10 v feed_is_none f) fits)

pub table_one : (table text : List ℕ) → lacks 10 table ≡ true → lacks 10 text ≡ true → lacks 10 (table ++ 32 ∷ text) ≡ true
table_one table text a b = joins (λ c. not (eqb c 10)) table (32 ∷ text) a b

change_one : (limits : Limits) (c : Change) → FitsChange limits c → lacks 10 (change_text c) ≡ true
change_one limits (Insert table after) fits = table_one table (values_text after) (name_no_feed limits table fits.0) (values_one after fits.1)
change_one limits (Delete table before) fits = table_one table (values_text before) (name_no_feed limits table fits.0) (values_one before fits.1)
change_one limits (Update table before after) fits =
    table_one table (values_text before ++ 32 ∷ (124 ∷ 32 ∷ values_text after)) (name_no_feed limits table fits.0)
    (joins (λ c. not (eqb c 10)) (values_text before) (32 ∷ (124 ∷ 32 ∷ values_text after)) (values_one before fits.1) (values_one after fits.2))

-- no line feed
abbrev no_feed : ℕ → Bool
no_feed b = not (eqb b 10)

numbers_one : (numbers : Option Numbers) → AreCounts numbers → lacks 10 (numbers_text numbers) ≡ true
numbers_one None counts = refl
numbers_one (Some n) counts = joins no_feed n.last_committed (32 ∷ n.sequence_number) (count_no_feed n.last_committed counts.0) (count_no_feed n.sequence_number counts.1)

pub line_one : (limits : Limits) (l : Line) → FitsLine limits l → lacks 10 (line_text l) ≡ true
line_one limits (Header One) fits = refl
line_one limits (Header Two) fits = refl
line_one limits (Header Three) fits = refl
line_one limits (Previous s) fits = set_no_feeds s fits
line_one limits (Begin g numbers) fits = joins no_feed (gtid_text g) (numbers_text numbers) (all_weaker is_set_byte no_feed (gtid_text g) set_no_feed (gtid_set_bytes g fits.0)) (numbers_one numbers fits.1)
line_one limits (Makes c) fits = change_one limits c fits
line_one limits End fits = refl
line_one limits Close fits = refl

-- ---- the changes of an entry

image_some : (limits : Limits) (image : List Value) → is_image_writable limits image ≡ true → 0 < length image
image_some limits [] e = absurd cc
image_some limits (v ∷ vs) e = omega arith

change_images : (limits : Limits) (c : Change) → is_change_writable limits c ≡ true → HasImages (Makes c)
change_images limits (Insert table after) e = image_some limits after e
change_images limits (Delete table before) e = image_some limits before e
change_images limits (Update table before after) e = let p = and_parts (is_image_writable limits before) (is_image_writable limits after) e in (image_some limits before p.0, image_some limits after p.1)

due_change : (c : Change) → is_due places.Within (word_for (Makes c)) ≡ true
due_change c = grind arith

add_again : (schema : Option (List Table)) (s : Standing) (c : Change) → length s.changes < most_changes (limits_of s.version) → is_change_writable (limits_of s.version) c ≡ true → fits schema c ≡ true → add schema s c ≡ Ok (record s { changes = s.changes ++ c ∷ [] })
unfolding add
add_again schema s c lt e fit = rw (lt-leb (most_changes (limits_of s.version)) (length s.changes) lt, e, fit) refl

begin_again : (s : Standing) (g : Gtid) (numbers : Option Numbers) (stamp : ℕ) → is_number g.number ≡ true → s.count < 4294967294 → stamp_in (s.count + 1) numbers ≡ Some stamp → set.contains s.seen g ≡ false
    → begin s g (stamp_in (s.count + 1) numbers) ≡ Ok (record s { place = places.Within; gtid = g; stamp = stamp })
unfolding begin
begin_again s g numbers stamp number few e apart = rw (number, lt-leb 4294967294 s.count few, e, apart) refl

-- the numbers of a place
numbered_again : (place stamp : ℕ) → place < 2 ^ 64 → stamp < place → stamp_in place (numbers_of Two place stamp) ≡ Some stamp
numbered_again place stamp small is = rw (count_again place small, eq-eqb place place refl, count_again stamp (omega (arith, is, small)), lt-ltb stamp place is) refl

numbers_again : (version : Version) (place stamp : ℕ) → place < 2 ^ 64 → IsStamp version place stamp → stamp_in place (numbers_of version place stamp) ≡ Some stamp
numbers_again One place stamp small is = ap Some (sym is)
numbers_again Two place stamp small is = numbered_again place stamp small is
numbers_again Three place stamp small is = numbered_again place stamp small is

record FitNumbers (version : Version) (numbers : Option Numbers) : Type 0 where
  counts : AreCounts numbers
  of_version : HasNumbers version numbers

numbers_fit : (version : Version) (place stamp : ℕ) → place < 2 ^ 64 → IsStamp version place stamp → FitNumbers version (numbers_of version place stamp)
numbers_fit One place stamp small is = record { counts = tt; of_version = refl }
numbers_fit Two place stamp small is = record { counts = (is_count_decimal stamp (omega (arith, is, small)), is_count_decimal place small); of_version = refl }
numbers_fit Three place stamp small is = record { counts = (is_count_decimal stamp (omega (arith, is, small)), is_count_decimal place small); of_version = refl }

number_in : (n : ℕ) → is_number n ≡ true → (1 ≤ n) × (n ≤ 9223372036854775807)
unfolding greatest
number_in n e = let p = and_parts (leb 1 n) (leb n 9223372036854775807) e in (leb-true 1 n p.0, leb-true n 9223372036854775807 p.1)

record Parts (limits : Limits) (e : Entry) : Type 0 where
  number : is_number e.gtid.number ≡ true
  few : length e.txn.changes ≤ most_changes limits
  all : list_all (is_change_writable limits) e.txn.changes ≡ true

parts_of : (limits : Limits) (e : Entry) → is_writable limits e ≡ true → Parts limits e
parts_of limits e w =
    let p = and_parts (is_number e.gtid.number) (is_txn_writable limits e.txn) w in
    let q = and_parts (leb (length e.txn.changes) (most_changes limits)) (list_all (is_change_writable limits) e.txn.changes) p.1 in
    record { number = p.0; few = leb-true _ _ q.0; all = q.1 }

abbrev with_entry : JournalValue → Entry → JournalValue
with_entry j e = record j { entries = j.entries ++ e ∷ [] }

abbrev with_entries : JournalValue → List Entry → JournalValue
with_entries j es = record j { entries = j.entries ++ es }

abbrev pub at : LinePlace → Due → Version → JournalValue → List ℕ → Gtids → ℕ → Gtid → ℕ → List Change → Standing
at place due version j stamps seen count g stamp cs = record { place = place; due = due; version = version; journal = j; stamps = stamps; seen = seen; count = count; gtid = g; stamp = stamp; changes = cs }

-- the text of a line is read, and then it acts
pub spelled_judged : (schema : Option (List Table)) (s t : Standing) (l : Line) → is_due s.place (word_for l) ≡ true → FitsAt s.due s.version l → put schema s l ≡ Ok t → judge schema s (line_text l) ≡ Ok t
spelled_judged schema s t l is fit step = judge_reads schema s (line_text l) ∙ judged_again (wording schema s) (body_of s.due s.version) (rest_laws schema s) (put schema s) l is fit ∙ step

-- the last line of a journal
pub closes_journal : (schema : Option (List Table)) (s : Standing) → judge schema (placed places.Between s) (line_text Close) ≡ Ok (placed places.Ended s)
unfolding put
closes_journal schema s = spelled_judged schema (placed places.Between s) (placed places.Ended s) Close refl (record { words = tt; images = tt; of_version = tt }) refl

-- each entry has a number that is right, after the earlier ones
abbrev pub AreRight : (List Entry → ℕ → Entry → Type 0) → List Entry → List ℕ → List Entry → Type 0
AreRight Right earlier [] [] = Unit {0}
AreRight Right earlier (l ∷ ls) (e ∷ es) = Right earlier l e × AreRight Right (earlier ++ e ∷ []) ls es
AreRight Right earlier _ _ = ⊥

-- K does with the states of a journal what judging does, as long as its last line has not come, and where each entry that ends has a number that is right
module _ (schema : Option (List Table)) (due : Due) (version : Version) {T : Type 0} (K : Judge T) (into : Standing → T) (Right : List Entry → ℕ → Entry → Type 0)
    (carries : (s t : Standing) (line : List ℕ) → judge schema s line ≡ Ok t → is_last t.place ≡ false → (s.place ≡ places.Within → is_within t.place ≡ false → Right s.journal.entries s.stamp (open_entry s)) → K (into s) line ≡ Ok (into t)) where
  abbrev Goes : Standing → List Line → Standing → Type 0
  Goes s ls t = Leads K line_text (into s) ls (into t)

  goes_line : (s t : Standing) (l : Line) → is_due s.place (word_for l) ≡ true → FitsAt s.due s.version l → put schema s l ≡ Ok t → is_last t.place ≡ false → (s.place ≡ places.Within → is_within t.place ≡ false → Right s.journal.entries s.stamp (open_entry s)) → Goes s (l ∷ []) t
  goes_line s t l is fit step more right = leads_one K line_text (into s) (into t) l (line_one (limits_of s.version) l fit.words) (carries s t (line_text l) (spelled_judged schema s t l is fit step) more right)

  goes_changes : (j : JournalValue) (stamps : List ℕ) (seen : Gtids) (count : ℕ) (g : Gtid) (stamp : ℕ) (cs ds : List Change) → AllByRecursion (FitsChange (limits_of version)) ds → list_all (is_change_writable (limits_of version)) ds ≡ true → list_all (fits schema) ds ≡ true → length cs + length ds ≤ most_changes (limits_of version)
      → Goes (at places.Within due version j stamps seen count g stamp cs) (map Makes ds) (at places.Within due version j stamps seen count g stamp (cs ++ ds))
  unfolding put
  goes_changes j stamps seen count g stamp cs [] fit all taken few =
      let s = at places.Within due version j stamps seen count g stamp cs in
      subst (λ (x : List Change). Goes s [] (at places.Within due version j stamps seen count g stamp x)) (sym (append-nil cs)) (leads_none K line_text (into s))
  goes_changes j stamps seen count g stamp cs (d ∷ ds) fit all taken few =
      let p = and_parts (is_change_writable (limits_of version) d) (list_all (is_change_writable (limits_of version)) ds) all in
      let q = and_parts (fits schema d) (list_all (fits schema) ds) taken in
      let s = at places.Within due version j stamps seen count g stamp cs in
      let t = at places.Within due version j stamps seen count g stamp (cs ++ d ∷ []) in
      let one : Goes s (Makes d ∷ []) t = goes_line s t (Makes d) (due_change d) (record { words = fit.0; images = change_images (limits_of version) d p.0; of_version = tt }) (add_again schema s d (omega arith) p.0 q.0) refl (λ within out. absurd cc) in
      leads_both one (subst (λ (x : List Change). Goes t (map Makes ds) (at places.Within due version j stamps seen count g stamp x)) (append_assoc cs (d ∷ []) ds) (goes_changes j stamps seen count g stamp (cs ++ d ∷ []) ds fit.1 p.1 q.1 (omega (arith, length-append cs (d ∷ [])))))

  goes_entry : (j : JournalValue) (stamps : List ℕ) (seen : Gtids) (count : ℕ) (g : Gtid) (old stamp : ℕ) (e : Entry) → FitsEntry (limits_of version) e → is_writable (limits_of version) e ≡ true → fits_in schema e ≡ true → count < 4294967294 → set.contains seen e.gtid ≡ false → IsStamp version (count + 1) stamp → Right j.entries stamp e
      → Goes (at places.Between due version j stamps seen count g old []) (entry_lines (numbers_of version (count + 1) stamp) e) (at places.Between due version (with_entry j e) (stamps ++ stamp ∷ []) (set.insert seen e.gtid) (count + 1) e.gtid stamp [])
  unfolding put
  goes_entry j stamps seen count g old stamp e fit w taken few apart is right =
      let p = parts_of (limits_of version) e w in
      let s = at places.Between due version j stamps seen count g old [] in
      let t = at places.Within due version j stamps seen count e.gtid stamp [] in
      let u = at places.Within due version j stamps seen count e.gtid stamp e.txn.changes in
      let v = at places.Between due version (with_entry j e) (stamps ++ stamp ∷ []) (set.insert seen e.gtid) (count + 1) e.gtid stamp [] in
      let usable : IsUsable e.gtid = record { source = fit.source; number = number_in e.gtid.number p.number } in
      let numbers = numbers_of version (count + 1) stamp in
      let small : count + 1 < 2 ^ 64 = omega (arith, few) in
      let f = numbers_fit version (count + 1) stamp small is in
      leads_both (goes_line s t (Begin e.gtid numbers) refl (record { words = (usable, f.counts); images = tt; of_version = f.of_version }) (begin_again s e.gtid numbers stamp p.number few (numbers_again version (count + 1) stamp small is) apart) refl (λ within out. absurd cc))
      (leads_both (goes_changes j stamps seen count e.gtid stamp [] e.txn.changes fit.changes p.all taken (omega (arith, p.few))) (goes_line u v End refl (record { words = tt; images = tt; of_version = tt }) refl refl (λ within out. right)))

  record GoesEntries (j : JournalValue) (stamps : List ℕ) (seen : Gtids) (count : ℕ) (g : Gtid) (old : ℕ) (ls : List ℕ) (es : List Entry) : Type 0 where
    last : Gtid
    stamp : ℕ
    goes : Goes (at places.Between due version j stamps seen count g old []) (entries_lines version (count + 1) ls es) (at places.Between due version (with_entries j es) (stamps ++ ls) (seen_after seen es) (count + length es) last stamp [])

  goes_entries : (j : JournalValue) (stamps : List ℕ) (seen : Gtids) (count : ℕ) (g : Gtid) (old : ℕ) (ls : List ℕ) (es : List Entry) → AllByRecursion (FitsEntry (limits_of version)) es → list_all (is_writable (limits_of version)) es ≡ true → list_all (fits_in schema) es ≡ true → AreNew seen es → count + length es ≤ 4294967294 → AreStamps version (count + 1) ls es → AreRight Right j.entries ls es
      → GoesEntries j stamps seen count g old ls es
  goes_entries j stamps seen count g old [] [] fit all taken new few stamped right =
      let s = at places.Between due version j stamps seen count g old [] in
      let none_more : count ≡ count + 0 = omega arith in
      record { last = g; stamp = old; goes = subst (λ (t : Standing). Goes s [] t) (λ i. at places.Between due version (record j { entries = sym (append-nil j.entries) i }) (sym (append-nil stamps) i) seen (none_more i) g old []) (leads_none K line_text (into s)) }
  goes_entries j stamps seen count g old (l ∷ ls) (e ∷ es) fit all taken new few stamped right =
      let p = and_parts (is_writable (limits_of version) e) (list_all (is_writable (limits_of version)) es) all in
      let q = and_parts (fits_in schema e) (list_all (fits_in schema) es) taken in
      let one = goes_entry j stamps seen count g old l e fit.0 p.0 q.0 (omega arith) new.0 stamped.0 right.0 in
      let more = goes_entries (with_entry j e) (stamps ++ l ∷ []) (set.insert seen e.gtid) (count + 1) e.gtid l ls es fit.1 p.1 q.1 new.1 (omega arith) stamped.1 right.1 in
      let s = at places.Between due version j stamps seen count g old [] in
      let counted : count + 1 + length es ≡ count + length (e ∷ es) = omega arith in
      record {
        last = more.last;
        stamp = more.stamp;
        goes = subst (λ (x : Standing). Goes s (entries_lines version (count + 1) (l ∷ ls) (e ∷ es)) x)
            (λ i. at places.Between due version (record j { entries = append_assoc j.entries (e ∷ []) es i }) (append_assoc stamps (l ∷ []) ls i) (seen_after (set.insert seen e.gtid) es) (counted i) more.last more.stamp [])
            (leads_both one more.goes);
      }
  goes_entries j stamps seen count g old [] (e ∷ es) fit all taken new few stamped right = absurd stamped
  goes_entries j stamps seen count g old (l ∷ ls) [] fit all taken new few stamped right = absurd stamped

  -- the lines of a journal but the last are read
  pub record GoesFront (stamps : List ℕ) (j : JournalValue) : Type 0 where
    pub seen : Gtids
    pub last : Gtid
    pub stamp : ℕ
    pub goes : Leads K line_text (into (empty due)) (front_lines version stamps j) (into (at places.Between due version j stamps seen (length j.entries) last stamp []))

  pub goes_front : (stamps : List ℕ) (j : JournalValue) → takes due version ≡ true → IsWritten (limits_of version) j → AreStamps version 1 stamps j.entries → list_all (fits_in schema) j.entries ≡ true → AreRight Right [] stamps j.entries → GoesFront stamps j
  unfolding put
  goes_front stamps j is w stamped taken right =
      let k : JournalValue = record { previous = j.previous; entries = [] } in
      let none : Gtid = record { source = 0; number = 0 } in
      let b = at places.Previous due version (record { previous = set.empty; entries = [] }) [] set.empty 0 none 0 [] in
      let c = at places.Between due version k [] j.previous 0 none 0 [] in
      let entries = goes_entries k [] j.previous 0 none 0 stamps j.entries w.entries w.writable taken w.keeps.new (omega (arith, w.few)) stamped right in
      let counted : 0 + length j.entries ≡ length j.entries = omega arith in
      let read = subst (λ (n : ℕ). Goes c (entries_lines version 1 stamps j.entries) (at places.Between due version j stamps (seen_after j.previous j.entries) n entries.last entries.stamp [])) counted entries.goes in
      record {
        seen = seen_after j.previous j.entries;
        last = entries.last;
        stamp = entries.stamp;
        goes = leads_both (goes_line (empty due) b (Header version) refl (record { words = tt; images = tt; of_version = is }) refl refl (λ within out. absurd cc)) (leads_both (goes_line b c (Previous j.previous) refl (record { words = w.previous; images = tt; of_version = tt }) refl refl (λ within out. absurd cc)) read);
      }

-- ---- a journal that stands alone

alone_takes : (cs : List Change) → list_all (fits None) cs ≡ true
alone_takes [] = refl
alone_takes (c ∷ cs) = alone_takes cs

alone_takes_all : (es : List Entry) → list_all (fits_in None) es ≡ true
alone_takes_all [] = refl
alone_takes_all (e ∷ es) = rw (alone_takes e.txn.changes) (alone_takes_all es)

-- nothing is asked of the numbers
any_right : (version : Version) (place : ℕ) (earlier : List Entry) (ls : List ℕ) (es : List Entry) → AreStamps version place ls es → AreRight (λ before l e. Unit {0}) earlier ls es
any_right version place earlier [] [] h = tt
any_right version place earlier (l ∷ ls) (e ∷ es) h = (tt, any_right version (place + 1) (earlier ++ e ∷ []) ls es h.1)
any_right version place earlier [] (e ∷ es) h = absurd h
any_right version place earlier (l ∷ ls) [] h = absurd h

-- its lines are read to their end
record ReadsTo (due : Due) (version : Version) (stamps : List ℕ) (bytes : List ℕ) (j : JournalValue) : Type 0 where
  last : Standing
  leads : Leads (judge None) line_text (empty due) (journal_lines version stamps j) last
  done : is_last last.place ≡ true
  written : as_written last ≡ record { version = version; stamps = stamps; journal = j }

reads_to : (due : Due) (version : Version) (stamps : List ℕ) (bytes : List ℕ) (j : JournalValue) → takes due version ≡ true → WritesAs version stamps bytes j → ReadsTo due version stamps bytes j
reads_to due version stamps bytes j is w =
    let r = goes_front None due version (judge None) (λ s. s) (λ before l e. Unit {0}) (λ s t line e more right. e) stamps j is w.written w.stamps_fit (alone_takes_all j.entries) (any_right version 1 [] stamps j.entries w.stamps_fit) in
    let s = at places.Between due version j stamps r.seen (length j.entries) r.last r.stamp [] in
    record { last = placed places.Ended s; leads = leads_both r.goes (leads_one (judge None) line_text s (placed places.Ended s) Close refl (closes_journal None s)); done = refl; written = refl }

-- ---- what has been read can be gone on with

abbrev pub no_entries : JournalValue
no_entries = record { previous = set.empty; entries = [] }

pub no_entries_fit : (limits : Limits) → IsWritten limits no_entries
no_entries_fit limits = record { keeps = record { numbers = no_numbers; new = tt; writable = refl }; writable = refl; few = omega arith; previous = none_written; entries = tt }

-- the entries after the lines so far, with the one that is open, and their numbers
abbrev pub last_entries : LinePlace → Standing → List Entry
last_entries places.Header s = []
last_entries places.Previous s = []
last_entries places.Within s = s.journal.entries ++ open_entry s ∷ []
last_entries _ s = s.journal.entries

abbrev pub last_stamps : LinePlace → Standing → List ℕ
last_stamps places.Header s = []
last_stamps places.Previous s = []
last_stamps places.Within s = s.stamps ++ s.stamp ∷ []
last_stamps _ s = s.stamps

-- a journal that has begun can be brought to its end
pub record Completes (schema : Option (List Table)) (due : Due) (place : LinePlace) (s : Standing) : Type 0 where
  pub version : Version
  pub journal : JournalValue
  pub more : List Line
  pub takes_version : takes due version ≡ true
  pub entries : journal.entries ≡ last_entries place s
  pub fits : IsWritten (limits_of version) journal
  pub stamps_fit : AreStamps version 1 (last_stamps place s) journal.entries
  pub fitting : list_all (fits_in schema) journal.entries ≡ true
  pub whole : journal_lines version (last_stamps place s) journal ≡ lines_so_far (placed place s) ++ more

pub some_version : (due : Due) → (version : Version) × (takes due version ≡ true)
some_version Any = (One, refl)
some_version (Only One) = (One, refl)
some_version (Only Two) = (Two, refl)
some_version (Only Three) = (Three, refl)
some_version BeforeThree = (One, refl)

pub completes_at : (schema : Option (List Table)) (place : LinePlace) (s : Standing) → Sound_at schema place s → Completes schema s.due place s
completes_at schema places.Header s h =
    let v = some_version s.due in
    record { version = v.0; journal = no_entries; more = journal_lines v.0 [] no_entries; takes_version = v.1; entries = refl; fits = no_entries_fit (limits_of v.0); stamps_fit = tt; fitting = refl; whole = refl }
completes_at schema places.Previous s h = record { version = s.version; journal = no_entries; more = Previous set.empty ∷ Close ∷ []; takes_version = h.1; entries = refl; fits = no_entries_fit (limits_of s.version); stamps_fit = tt; fitting = refl; whole = refl }
completes_at schema places.Between s h = record { version = s.version; journal = s.journal; more = Close ∷ []; takes_version = h.0.due; entries = refl; fits = whole_written schema s h.0; stamps_fit = h.0.stamped; fitting = h.0.fitting; whole = refl }
completes_at schema places.Within s o =
    let whole = whole_more schema s o in
    record {
      version = s.version;
      journal = (close_entry s).journal;
      more = End ∷ Close ∷ [];
      takes_version = o.whole.due;
      entries = refl;
      fits = whole_written schema (close_entry s) whole;
      stamps_fit = whole.stamped;
      fitting = whole.fitting;
      whole = ap (λ (ls : List Line). ls ++ Close ∷ []) (ended_entry schema s o.whole) ∙ append_assoc (lines_so_far (placed places.Within s)) (End ∷ []) (Close ∷ []);
    }
completes_at schema places.Ended s h = record { version = s.version; journal = s.journal; more = []; takes_version = h.0.due; entries = refl; fits = whole_written schema s h.0; stamps_fit = h.0.stamped; fitting = h.0.fitting; whole = sym (append-nil (journal_lines s.version s.stamps s.journal)) }

-- a journal that has come to its end
pub record Ended (schema : Option (List Table)) (s : Standing) : Type 0 where
  pub whole : Whole schema s
  pub lines : lines_so_far s ≡ journal_lines s.version s.stamps s.journal
  pub written : IsWritten (limits_of s.version) s.journal

ended_at : (schema : Option (List Table)) (place : LinePlace) (s : Standing) → Sound_at schema place s → is_last place ≡ true → (Whole schema s) × (lines_so_far (placed place s) ≡ journal_lines s.version s.stamps s.journal)
ended_at schema places.Ended s h last = (h.0, refl)
ended_at schema place s h last = absurd cc

pub ended : (schema : Option (List Table)) (s : Standing) → IsSound schema s → is_last s.place ≡ true → Ended schema s
ended schema s h last = let e = ended_at schema s.place s h last in record { whole = e.0; lines = e.1; written = whole_written schema s e.0 }

-- ---- journals that stand alone

abbrev pub IsSoundAlone : Due → Standing → List Line → Type 0
IsSoundAlone due s ls = (s.due ≡ due) × (lines_so_far s ≡ ls) × IsSound None s

-- of whatever is looked at in the end: where there is a text of it, it is read, and the other way round
pub record Seen {V : Type 0} (due : Due) (value : Standing → V) (Spelled : List ℕ → V → Type 0) : Type 0 where
  pub spelled : (bytes : List ℕ) (s : Standing) → IsWrittenAs due bytes (as_written s) → Spelled bytes (value s)
  pub written : (bytes : List ℕ) (v : V) → Spelled bytes v → (w : WrittenJournal) × IsWrittenAs due bytes w × ((s : Standing) → as_written s ≡ w → value s ≡ v)

pub laws_as : {V : Type 0} (due : Due) (value : Standing → V) (Spelled : List ℕ → V → Type 0) → Seen due value Spelled → Laws (journals_as due value Spelled) (IsSoundAlone due)
laws_as {V} due value Spelled seen =
    let f = journals_as due value Spelled in
    record {
      starts = (refl, refl, record { none_stamped = refl; none_counted = refl; none_open = refl });
      has_lines = λ s ls h. h.1;
      begins = λ s ls h.
          let k = completes_at None s.place s h.2 in
          let is : takes due k.version ≡ true = subst (λ (d : Due). takes d k.version ≡ true) h.0 k.takes_version in
          let stamps = last_stamps s.place s in
          let end = record s { version = k.version; stamps = stamps; journal = k.journal } in
          let text : lines_text (ls ++ k.more) ≡ spelling_as k.version stamps k.journal = ap (λ (x : List Line). lines_text (x ++ k.more)) (sym h.1) ∙ ap lines_text (sym k.whole) in
          record { value = value end; more = k.more; writes = seen.spelled (lines_text (ls ++ k.more)) end (is, record { written = k.fits; stamps_fit = k.stamps_fit; text = text }) };
      judges = λ s ls line h one. MatchResult-weaker (judge None s line) (judged_line None s line h.2)
          (λ t k. record { l = k.l; text = k.text; sound = (k.keeps.same_due ∙ h.0, k.keeps.says ∙ ap (λ (x : List Line). x ++ k.l ∷ []) h.1, k.keeps.sound) })
          (λ c k. k);
      ends = λ s ls h last.
          let e = ended None s h.2 last in
          let is : takes due s.version ≡ true = subst (λ (d : Due). takes d s.version ≡ true) h.0 e.whole.due in
          seen.spelled (lines_text ls) s (is, record { written = e.written; stamps_fit = e.whole.stamped; text = ap lines_text (sym h.1 ∙ e.lines) });
      reads = λ bytes v w.
          let x = seen.written bytes v w in
          let r = reads_to due x.0.version x.0.stamps bytes x.0.journal x.1.0 x.1.1 in
          record { lines = journal_lines x.0.version x.0.stamps x.0.journal; last = r.last; parts = x.1.1.text; leads = r.leads; done = r.done; value = x.2 r.last r.written };
      loose = judge None;
      follows = λ s t line e. e;
      refuses = λ s ls line c h e inside. absurd cc;
      reads_open = λ bytes v w.
          let x = seen.written bytes v w in
          let r = reads_to due x.0.version x.0.stamps bytes x.0.journal x.1.0 x.1.1 in
          record { lines = journal_lines x.0.version x.0.stamps x.0.journal; last = r.last; parts = x.1.1.text; leads = r.leads };
    }

-- there judging loosely is judging
pub loose_as : {V : Type 0} (due : Due) (value : Standing → V) (Spelled : List ℕ → V → Type 0) (seen : Seen due value Spelled) (s : Standing) (line : List ℕ) → (laws_as due value Spelled seen).loose s line ≡ judge None s line
unfolding judge laws_as
loose_as due value Spelled seen s line = refl

pub journal_seen : Seen Any (λ s. s.journal) WritesPlain
journal_seen = record {
  spelled = λ bytes s w. (s.version, s.stamps, w.1);
  written = λ bytes j w. (record { version = w.0; stamps = w.1; journal = j }, (refl, w.2), λ s e. ap (λ (x : WrittenJournal). x.journal) e);
}

pub written_seen : (due : Due) → Seen due as_written (IsWrittenAs due)
written_seen due = record { spelled = λ bytes s w. w; written = λ bytes v w. (v, w, λ s e. e) }

-- version 1 has no numbers
pub none_stamped : (place : ℕ) (stamps : List ℕ) (es : List Entry) → AreStamps One place stamps es → stamps ≡ no_stamps es
none_stamped place [] [] h = refl
none_stamped place (l ∷ ls) (e ∷ es) h = λ i. h.0 i ∷ none_stamped (place + 1) ls es h.1 i
none_stamped place [] (e ∷ es) h = absurd h
none_stamped place (l ∷ ls) [] h = absurd h
