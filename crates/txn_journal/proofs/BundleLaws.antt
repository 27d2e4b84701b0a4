-- Bundles obey the laws of formats: a text is read to its end, and what has been read can be gone on with.
use Rattle.std.proofs.Common.{◌≡◌, ℕ, ◌+◌, ◌<◌, ◌≤◌, Bool, true, false, cond, not, eqb, List, [], ◌∷◌, ◌++◌, length, map, Option, Some, None, Result, Ok, Err, refl, sym, ap, subst, ◌∙◌, append_assoc, arith}
use Rattle.std.specs.List.{list_all, AllByRecursion}
use Rattle.std.specs.Prelude.{◌&&◌, MatchResult}
use Rattle.std.proofs.lemmas.Bool.{lt-leb, and_parts, eq-eqb, not-true}
use Rattle.std.proofs.lemmas.List.{append-nil, length-append, map-append}
use Rattle.rows.specs.Apply.{Rows}
use Rattle.rows.specs.declared.schema.Table.{Table}
use Rattle.rows.specs.declared.change.TableRow.{TableRow}
use Rattle.journal.specs.Journals.{JournalValue}
use Rattle.journal.specs.Writing.{is_image_writable}
use Rattle.gtid_set.specs.Sets.{Gtids}
use Rattle.journal.specs.declared.Entry.{Entry}
use Rattle.logical_timestamps.proofs.Timestamps.{last_committed_earlier}
use Rattle.logical_timestamps.specs.Timestamps.{last_committed, each_last_committed}
use Rattle.txn_journal.specs.Stamps.{no_stamps, right_stamp, right_stamps, all_stamps}
use Rattle.txn_journal.specs.Words.{IsOneLine}
use Rattle.txn_journal.specs.Formats.{closing_by}
use Rattle.rows.specs.Listing.{rows_listed}
use Rattle.rows.specs.declared.limits.Limits.TheVariants.{Narrow}
use Rattle.txn_journal.specs.Versions.{limits_of, is_named, is_numbered, has_references, IsWide, newest}
use Rattle.txn_journal.specs.WrittenSets.{IsWrittenSet}
use Rattle.txn_journal.proofs.ListedRows.{listed_opening}
use Rattle.txn_journal.specs.Stream.{Progress, Reading, Stopped, Judge}
use Rattle.txn_journal.specs.Lines.{◌>>=◌, takes, keyword_of}
use Rattle.txn_journal.specs.Machine.{Standing, empty, is_last, is_within, open_entry, judge}
use Rattle.txn_journal.specs.Spelling.{Line, End, Close, line_text, journal_lines, IsWritten, IsStamp, AreStamps}
use Rattle.txn_journal.specs.Shapes.{shape_for}
use Rattle.txn_journal.specs.BundleStates.{BundleValue, BundleStanding, bare, no_bundle, after_replica, is_due_in, after_tables as tables_end, with_opening, put_reference, put_row, put_assumption, join_channel, close_channel, after_inner, is_misstamped, unless_misstamped, judge_own, judge_inner, judge_part, judge_by, judge_bundle, is_done}
use Rattle.txn_journal.specs.BundleReading.{is_inside, is_entry_open, plain_bundles}
use Rattle.txn_journal.specs.BundleText.{OwnLine, BundleLine, Own, Inner, Heads, Names, Starts, Has, Refers, Puts, Opens, Assumes, Done, own_text, bundle_line_text, table_lines, reference_lines, row_lines, assumption_lines, channel_lines, channels_lines, opening_set_lines, tables_lines, start_lines, bundle_lines, FitsRow, AreAdded, put_all, AreNamed, IsWrittenIn, AreBrought, IsOpeningSet, bundle_text, spelling_by, IsWrittenBundle, IsBundle, WritesPlainBundle, IsLastStamped, AreAlmostStamped, AlmostWritesBundle}
use Rattle.txn_journal.specs.BundleCauses.{own_word, FitsOwn, own_wording}
use Rattle.txn_journal.specs.declared.bundle.BundleChannel.{BundleChannel}
use Rattle.txn_journal.specs.declared.bundle_draft.Part.{Part}
use Rattle.txn_journal.specs.declared.bundle_draft.Part.TheVariants as parts
use Rattle.txn_journal.specs.declared.bundle_draft.Word.TheVariants as words
use Rattle.txn_journal.specs.declared.fault.Cause.{Cause}
use Rattle.txn_journal.specs.declared.fault.Cause.TheVariants as causes
use Rattle.txn_journal.specs.declared.lines.LinePlace.TheVariants as places
use Rattle.txn_journal.specs.declared.lines.Version.TheVariants.{One, Two, Three}
use Rattle.std.proofs.lemmas.Simd.{map-map}
use Rattle.txn_journal.proofs.Judged.{bind_ok, done, ok_is}
use Rattle.txn_journal.proofs.FormatLaws.{runs, Leads, leads_none, leads_one, leads_both, Reads, ReadsOn, CanGoOn, Laws}
use Rattle.txn_journal.proofs.SoundLines.{placed, Sound_at, IsSound, Taken, judged_line, stamps_more}
use Rattle.txn_journal.proofs.GtidLaws.{none_written}
use Rattle.gtid_text.specs.Written.{IsSource}
use Rattle.txn_journal.specs.declared.lines.LinePlace.{LinePlace}
use Rattle.row_images.specs.Words.{first_word}
use Rattle.txn_journal.proofs.JournalLaws.{at, AreRight, goes_front, closes_journal, last_entries, last_stamps, some_version, completes_at}
use Rattle.txn_journal.proofs.ShapeLaws.{allowed, shape_fits, with_again}
use Rattle.txn_journal.proofs.WordLaws.{judged_again}
use Rattle.txn_journal.proofs.Referring.{to_again, shape_fits_reference}
use Rattle.txn_journal.specs.References.{FitsReference, reference_to, reference_shape, IsReference, most_references}
use Rattle.txn_journal.specs.Assumptions.{FitsAssumption, last_of, may_follow, has_channel, may_assume, most_assumptions, AreInOrder}
use Rattle.txn_journal.specs.declared.references.Reference.{Reference}
use Rattle.txn_journal.specs.declared.assumptions.Assumption.{Assumption}
use Rattle.txn_journal.proofs.OwnReads.{own_body, own_put, own_reads, own_laws, own_one}
use Rattle.std.proofs.lemmas.Result.{MatchResult-weaker}
use Rattle.std.specs.FinSet as set
use Rattle.txn_journal.specs.LinesSoFar.{lines_so_far}
use Rattle.txn_journal.specs.BundleLinesSoFar.{inner_lines_so_far, bundle_lines_so_far_at, bundle_lines_so_far}
use Rattle.txn_journal.specs.declared.lines.Version.{Version}
use Rattle.txn_journal.proofs.BundleSound.{front, IsOpen, OpenChannel, IsDueBundle, SoundAt, IsBundleSound, tables_written, tables_front, none_right}
use Rattle.txn_journal.proofs.BundleTaken.{channel_written, channel_front, right_front, version_is, ends_entry, bundle_taken}
use Rattle.txn_journal.specs.declared.lines.Due.{Due}
use Rattle.txn_journal.specs.declared.lines.Due.TheVariants.{Any, Only}

abbrev with_channel : BundleValue → BundleChannel → JournalValue → BundleValue
with_channel b c j = record b { channels = b.channels ++ c ∷ []; journals = b.journals ++ j ∷ [] }

abbrev with_rows : BundleValue → Rows → BundleValue
with_rows b rows = record b { start = record b.start { rows = rows } }

-- the line has the numbers that it has to have, where entries are looked at as a whole
abbrev IsRight : Bool → Version → List Table → List Entry → ℕ → Entry → Type 0
IsRight whole version tables earlier stamp e = whole ≡ true → stamp ≡ right_stamp version tables earlier e

-- the parts in which lines of the bundle's own stand
abbrev IsOwnPart : Bool → Part → Type 0
IsOwnPart whole p = (s : BundleStanding) (line : List ℕ) → judge_part p whole s line ≡ judge_own s line

own_goes : (whole : Bool) (s t : BundleStanding) (l : OwnLine) → IsOwnPart whole s.part → is_due_in s.version s.part (own_word l) ≡ true → FitsOwn s l → own_put s l ≡ Ok t → Leads (judge_by whole) bundle_line_text s (Own l ∷ []) t
own_goes whole s t l own is fits step =
    leads_one (judge_by whole) bundle_line_text s t (Own l) (own_one s l fits) (own s (own_text l) ∙ own_reads s (own_text l) ∙ judged_again (own_wording s) (own_body s) (own_laws s) (own_put s) l is fits ∙ step)

-- where the tables begin
abbrev before_tables : Due → Version → ℕ → Gtids → BundleStanding
before_tables due version replica opened = record { part = parts.Tables; due = due; version = version; tables = []; bundle = bare replica opened []; channel = None; draft = empty Any }

named_goes : (whole : Bool) (due : Due) (version : Version) (replica : ℕ) → takes due version ≡ true → IsSource replica → (t : BundleStanding)
    → t ≡ record { part = after_replica version; due = due; version = version; tables = []; bundle = bare replica set.empty []; channel = None; draft = empty Any }
    → Leads (judge_by whole) bundle_line_text (no_bundle due) (Own (Heads version) ∷ Own (Names replica) ∷ []) t
unfolding own_put
named_goes whole due version replica is small t e =
    let one : BundleStanding = record { part = parts.Replica; due = due; version = version; tables = []; bundle = bare 0 set.empty []; channel = None; draft = empty Any } in
    leads_both (own_goes whole (no_bundle due) one (Heads version) (λ x line. refl) refl is refl) (own_goes whole one t (Names replica) (λ x line. refl) refl small (ap done (sym e)))

-- where there is a line of the opening set
opened_goes : (whole : Bool) (due : Due) (version : Version) → takes due version ≡ true → (b : BundleValue) → IsSource b.replica → IsWrittenSet b.opened → after_replica version ≡ parts.Opening
    → Leads (judge_by whole) bundle_line_text (no_bundle due) (Own (Heads version) ∷ Own (Names b.replica) ∷ Own (Starts b.opened) ∷ []) (before_tables due version b.replica b.opened)
unfolding own_put
opened_goes whole due version is b small opened after =
    let two : BundleStanding = record { part = parts.Opening; due = due; version = version; tables = []; bundle = bare b.replica set.empty []; channel = None; draft = empty Any } in
    let at : two ≡ record two { part = after_replica version } = ap (λ (p : Part). record two { part = p }) (sym after) in
    leads_both (named_goes whole due version b.replica is small two at) (own_goes whole two (before_tables due version b.replica b.opened) (Starts b.opened) (λ x line. refl) refl opened refl)

begins_lines : (whole : Bool) (due : Due) (version : Version) → takes due version ≡ true → (b : BundleValue) → IsSource b.replica → IsOpeningSet version b.opened
    → Leads (judge_by whole) bundle_line_text (no_bundle due) (Own (Heads version) ∷ Own (Names b.replica) ∷ opening_set_lines version b.opened) (before_tables due version b.replica b.opened)
unfolding own_put
begins_lines whole due One is b small opened = named_goes whole due One b.replica is small (before_tables due One b.replica b.opened) (λ i. before_tables due One b.replica (opened i))
begins_lines whole due Two is b small opened = opened_goes whole due Two is b small opened refl
begins_lines whole due Three is b small opened = opened_goes whole due Three is b small opened refl

-- entries are looked at as a whole or are not
module _ (whole : Bool) (due : Due) (version : Version) (is_due_version : takes due version ≡ true) where
  abbrev state : Part → List Table → BundleValue → Option BundleChannel → Standing → BundleStanding
  state part tables b channel draft = record { part = part; due = due; version = version; tables = tables; bundle = b; channel = channel; draft = draft }

  abbrev Goes : BundleStanding → List BundleLine → BundleStanding → Type 0
  Goes s ls t = Leads (judge_by whole) bundle_line_text s ls t

  goes_none : (s : BundleStanding) → Goes s [] s
  goes_none s = leads_none (judge_by whole) bundle_line_text s

  goes_own : (s t : BundleStanding) (l : OwnLine) → IsOwnPart whole s.part → is_due_in s.version s.part (own_word l) ≡ true → FitsOwn s l → own_put s l ≡ Ok t → Goes s (Own l ∷ []) t
  goes_own s t l own is fits step = own_goes whole s t l own is fits step

  -- ---- tables

  goes_tables : (b : BundleValue) (draft : Standing) (before ts : List Table) → AreAdded (limits_of version) before ts → Goes (state parts.Tables before b None draft) (table_lines ts) (state parts.Tables (before ++ ts) b None draft)
  unfolding own_put
  goes_tables b draft before [] h = subst (λ (x : List Table). Goes (state parts.Tables before b None draft) [] (state parts.Tables x b None draft)) (sym (append-nil before)) (goes_none (state parts.Tables before b None draft))
  goes_tables b draft before (t ∷ ts) h =
      let s = state parts.Tables before b None draft in
      let u = state parts.Tables (before ++ t ∷ []) b None draft in
      let one : Goes s (Own (Has (shape_for t)) ∷ []) u = goes_own s u (Has (shape_for t)) (λ x line. refl) refl (shape_fits (limits_of version) before t h.0 (allowed before t h.1)) (ap (λ (r : Result (List Table) Cause). r >>= λ x. done (state parts.Tables x b None draft)) (with_again (limits_of version) before t h.0 h.1)) in
      leads_both one (subst (λ (x : List Table). Goes u (table_lines ts) (state parts.Tables x b None draft)) (append_assoc before (t ∷ []) ts) (goes_tables b draft (before ++ t ∷ []) ts h.2))

  -- ---- a journal within its channel

  abbrev inside : BundleStanding → Standing → BundleStanding
  inside s d = record s { draft = d }

  inner_step : (s : BundleStanding) (d e : Standing) (line : List ℕ) → s.part ≡ parts.Journal → judge (Some s.bundle.start.schema) d line ≡ Ok e → judge_by whole (inside s d) line ≡ unless_misstamped whole (inside s d) e
  unfolding judge_inner
  inner_step s d e line part h = ap (λ (p : Part). judge_part p whole (inside s d) line) part ∙ ap (λ (r : Result Standing Cause). r >>= unless_misstamped whole (inside s d)) h

  not_within : (place : LinePlace) → is_within place ≡ true → place ≡ places.Within
  not_within places.Within e = refl
  not_within place e = absurd cc

  -- a number that is right does no harm
  abbrev EndsRight : List Table → Standing → Standing → Type 0
  EndsRight tables d e = d.place ≡ places.Within → is_within e.place ≡ false → IsRight whole version tables d.journal.entries d.stamp (open_entry d)

  fits_well : (tables : List Table) (d e : Standing) (v : Bool) → whole ≡ v → EndsRight tables d e → (v && is_misstamped version tables d e) ≡ false
  fits_well tables d e false w right = refl
  fits_well tables d e true w right = elim (is_misstamped version tables d e) as (λ m. is_misstamped version tables d e ≡ m → m ≡ false) [
    | true ↦ λ wrong.
        let stamp = right_stamp version tables d.journal.entries (open_entry d) in
        let p = and_parts (is_within d.place) (not (is_within e.place) && not (eqb d.stamp stamp)) wrong in
        let q = and_parts (not (is_within e.place)) (not (eqb d.stamp stamp)) p.1 in
        let same = right (not_within d.place p.0) (not-true (is_within e.place) q.0) w in
        absurd (let k = sym (eq-eqb d.stamp stamp same) ∙ not-true (eqb d.stamp stamp) q.1 in cc)
    | false ↦ λ fits. refl
  ] refl

  inner_fits : (s : BundleStanding) (d e : Standing) (line : List ℕ) → s.part ≡ parts.Journal → s.version ≡ version → judge (Some s.bundle.start.schema) d line ≡ Ok e → EndsRight s.bundle.start.schema d e → judge_by whole (inside s d) line ≡ Ok (after_inner (inside s d) e)
  inner_fits s d e line part same h right =
      inner_step s d e line part h ∙ ap (λ (v : Version). cond (whole && is_misstamped v s.bundle.start.schema d e) (Err causes.Stamp) (done (after_inner (inside s d) e))) same ∙ ap (λ (v : Bool). cond v (Err causes.Stamp) (done (after_inner (inside s d) e))) (fits_well s.bundle.start.schema d e whole refl right)

  inner_on : (s : BundleStanding) (d e : Standing) (line : List ℕ) → s.part ≡ parts.Journal → s.version ≡ version → judge (Some s.bundle.start.schema) d line ≡ Ok e → is_last e.place ≡ false → EndsRight s.bundle.start.schema d e → judge_by whole (inside s d) line ≡ Ok (inside s e)
  unfolding after_inner
  inner_on s d e line part same h more right = inner_fits s d e line part same h right ∙ ap (λ (v : Bool). done (cond v (close_channel (inside s d) e) (inside s e))) more

  inner_ends : (s : BundleStanding) (d e : Standing) (line : List ℕ) → s.part ≡ parts.Journal → s.version ≡ version → judge (Some s.bundle.start.schema) d line ≡ Ok e → is_last e.place ≡ true → EndsRight s.bundle.start.schema d e → judge_by whole (inside s d) line ≡ Ok (close_channel s e)
  unfolding after_inner
  inner_ends s d e line part same h last right = inner_fits s d e line part same h right ∙ ap (λ (v : Bool). done (cond v (close_channel (inside s d) e) (inside s e))) last

  inner_whole : (ls : List Line) → AllByRecursion (λ l. IsOneLine (line_text l)) ls → AllByRecursion (λ l. IsOneLine (bundle_line_text l)) (map Inner ls)
  inner_whole [] h = tt
  inner_whole (l ∷ ls) h = (h.0, inner_whole ls h.1)

  -- the numbers of a journal are below its places, and right where entries are looked at as a whole
  abbrev FitStamps : List Table → List ℕ → JournalValue → Type 0
  FitStamps tables stamps j = AreStamps version 1 stamps j.entries × AreRight (IsRight whole version tables) [] stamps j.entries

  -- the state after whole channels
  abbrev after_channels : BundleValue → BundleStanding
  after_channels b = state parts.Channels [] b None (empty (Only version))

  due_itself : (v : Version) → takes (Only v) v ≡ true
  due_itself One = refl
  due_itself Two = refl
  due_itself Three = refl

  goes_journal : (b : BundleValue) (c : BundleChannel) (stamps : List ℕ) (j : JournalValue) → IsWrittenIn (limits_of version) b.start.schema j → FitStamps b.start.schema stamps j
      → Goes (state parts.Journal [] b (Some c) (empty (Only version))) (map Inner (journal_lines version stamps j)) (after_channels (with_channel b c j))
  goes_journal b c stamps j w fit =
      let s = state parts.Journal [] b (Some c) (empty (Only version)) in
      let tables = b.start.schema in
      let r = goes_front (Some tables) (Only version) version (judge_by whole) (inside s) (IsRight whole version tables) (λ d e line h more right. inner_on s d e line refl refl h more right) stamps j (due_itself version) w.written fit.0 w.fitting fit.1 in
      let d = at places.Between (Only version) version j stamps r.seen (length j.entries) r.last r.stamp [] in
      let last = leads_one (judge_by whole) line_text (inside s d) (after_channels (with_channel b c j)) Close refl (inner_ends s d (placed places.Ended d) (line_text Close) refl refl (closes_journal (Some tables) d) refl (λ within out. absurd cc)) in
      let all = leads_both r.goes last in
      record { whole = inner_whole (journal_lines version stamps j) all.whole; run = ap (runs (judge_by whole) s) (map-map bundle_line_text Inner (journal_lines version stamps j)) ∙ all.run }

  -- ---- rows and channels

  abbrev with_reference : BundleValue → Reference → BundleValue
  with_reference b r = record b { references = b.references ++ r ∷ [] }

  abbrev with_assumption : BundleValue → Assumption → BundleValue
  with_assumption b a = record b { assumptions = b.assumptions ++ a ∷ [] }

  abbrev ending : BundleValue → Standing → BundleStanding
  ending b draft = state parts.Ended [] b None draft

  -- where the last line may come, and b has come so far
  record Closing (s : BundleStanding) (b : BundleValue) : Type 0 where
    own : IsOwnPart whole s.part
    same_due : s.due ≡ due
    same_version : s.version ≡ version
    assume : has_references version ≡ true → is_due_in s.version s.part words.Assume ≡ true
    done : is_due_in s.version s.part words.Done ≡ true
    assumptions : (tables_end s).bundle.assumptions ≡ b.assumptions
    assumes : (a : Assumption) → length b.assumptions < most_assumptions → may_assume b.opened b.start b.channels b.journals a ≡ true → own_put s (Assumes a) ≡ Ok (state parts.Assumptions [] (with_assumption b a) None s.draft)
    ends : own_put s Done ≡ Ok (ending b s.draft)

  -- where a channel may come too, the tables end here at the latest
  record Late (s : BundleStanding) (b : BundleValue) : Type 0 where
    closing : Closing s b
    channel : is_due_in s.version s.part words.Channel ≡ true
    opens : (c : BundleChannel) → length b.channels < 256 → has_channel b.channels c.name ≡ false → own_put s (Opens c) ≡ Ok (state parts.Journal [] b (Some c) (empty (Only version)))

  -- where a row may come too
  record Early (s : BundleStanding) (b : BundleValue) : Type 0 where
    late : Late s b
    row : is_due_in s.version s.part words.Row ≡ true
    puts : (r : TableRow) (rows : Rows) → is_image_writable (limits_of version) r.row ≡ true → with_opening b.start r ≡ Ok rows → own_put s (Puts r) ≡ Ok (state parts.Rows [] (with_rows b rows) None s.draft)

  -- where a reference may come too
  record First (s : BundleStanding) (b : BundleValue) : Type 0 where
    early : Early s b
    reference : has_references version ≡ true → is_due_in s.version s.part words.Reference ≡ true
    refers : (r : Reference) → length b.references < most_references → reference_to b.start.schema (reference_shape r) ≡ Ok r → own_put s (Refers (reference_shape r)) ≡ Ok (state parts.References [] (with_reference b r) None s.draft)

  assumes_after : (s : BundleStanding) (b : BundleValue) (a : Assumption) → tables_end s ≡ record (tables_end s) { bundle = b } → length b.assumptions < most_assumptions → may_assume b.opened b.start b.channels b.journals a ≡ true
      → put_assumption (tables_end s) a ≡ Ok (record (tables_end s) { part = parts.Assumptions; bundle = with_assumption b a })
  unfolding put_assumption
  assumes_after s b a is room may = ap (λ (x : BundleStanding). put_assumption x a) is ∙ rw (lt-leb most_assumptions (length b.assumptions) room, may) refl

  refers_after : (s : BundleStanding) (b : BundleValue) (r : Reference) → tables_end s ≡ record (tables_end s) { bundle = b } → length b.references < most_references → reference_to b.start.schema (reference_shape r) ≡ Ok r
      → put_reference (tables_end s) (reference_shape r) ≡ Ok (record (tables_end s) { part = parts.References; bundle = with_reference b r })
  unfolding put_reference
  refers_after s b r is room e = ap (λ (x : BundleStanding). put_reference x (reference_shape r)) is ∙ rw (lt-leb most_references (length b.references) room, e) refl

  after_tables : (replica : ℕ) (opened : Gtids) (ts : List Table) (draft : Standing) → First (state parts.Tables ts (bare replica opened []) None draft) (bare replica opened ts)
  unfolding own_put join_channel put_row
  after_tables replica opened ts draft =
      let s = state parts.Tables ts (bare replica opened []) None draft in
      let b = bare replica opened ts in
      record {
        early = record {
          late = record {
            closing = record { own = λ x line. refl; same_due = refl; same_version = refl; assume = λ e. e; done = refl; assumptions = refl; assumes = λ a room may. assumes_after s b a refl room may; ends = refl };
            channel = refl;
            opens = λ c room new. refl;
          };
          row = refl;
          puts = λ r rows writable e. rw (writable, e) refl;
        };
        reference = λ e. e;
        refers = λ r room e. refers_after s b r refl room e;
      }

  after_references : (b : BundleValue) (draft : Standing) → First (state parts.References [] b None draft) b
  unfolding own_put join_channel put_row
  after_references b draft =
      let s = state parts.References [] b None draft in
      record {
        early = record {
          late = record {
            closing = record { own = λ x line. refl; same_due = refl; same_version = refl; assume = λ e. e; done = refl; assumptions = refl; assumes = λ a room may. assumes_after s b a refl room may; ends = refl };
            channel = refl;
            opens = λ c room new. rw (lt-leb 256 (length b.channels) room, new) refl;
          };
          row = refl;
          puts = λ r rows writable e. rw (writable, e) refl;
        };
        reference = λ e. e;
        refers = λ r room e. refers_after s b r refl room e;
      }

  after_rows : (b : BundleValue) (draft : Standing) → Early (state parts.Rows [] b None draft) b
  unfolding own_put join_channel put_row
  after_rows b draft =
      let s = state parts.Rows [] b None draft in
      record {
        late = record {
          closing = record { own = λ x line. refl; same_due = refl; same_version = refl; assume = λ e. e; done = refl; assumptions = refl; assumes = λ a room may. assumes_after s b a refl room may; ends = refl };
          channel = refl;
          opens = λ c room new. rw (lt-leb 256 (length b.channels) room, new) refl;
        };
        row = refl;
        puts = λ r rows writable e. rw (writable, e) refl;
      }

  after_channel : (b : BundleValue) → Late (after_channels b) b
  unfolding own_put join_channel
  after_channel b = record {
    closing = record { own = λ x line. refl; same_due = refl; same_version = refl; assume = λ e. e; done = refl; assumptions = refl; assumes = λ a room may. assumes_after (after_channels b) b a refl room may; ends = refl };
    channel = refl;
    opens = λ c room new. rw (lt-leb 256 (length b.channels) room, new) refl;
  }

  after_assumption : (b : BundleValue) (draft : Standing) → Closing (state parts.Assumptions [] b None draft) b
  unfolding own_put
  after_assumption b draft = record { own = λ x line. refl; same_due = refl; same_version = refl; assume = λ e. e; done = refl; assumptions = refl; assumes = λ a room may. assumes_after (state parts.Assumptions [] b None draft) b a refl room may; ends = refl }

  -- lines after which b has come so far
  record Brings (Is : BundleStanding → BundleValue → Type 0) (s : BundleStanding) (ls : List BundleLine) (b : BundleValue) : Type 0 where
    last : BundleStanding
    is : Is last b
    goes : Goes s ls last

  -- ---- references

  has_wide : (v : Version) → IsWide (limits_of v) → has_references v ≡ true
  has_wide Three wide = refl
  has_wide One wide = absurd wide
  has_wide Two wide = absurd wide

  abbrev with_references : BundleValue → List Reference → BundleValue
  with_references b rs = record b { references = b.references ++ rs }

  brings_references : (s : BundleStanding) (b : BundleValue) (rs : List Reference) → First s b → AreAdded (limits_of version) [] b.start.schema → length b.references + length rs ≤ most_references → AllByRecursion (IsReference (limits_of version) b.start.schema) rs → Brings Early s (reference_lines rs) (with_references b rs)
  brings_references s b [] first added few each = record { last = s; is = subst (Early s) (λ i. record b { references = sym (append-nil b.references) i }) first.early; goes = goes_none s }
  brings_references s b (r ∷ rs) first added few each =
      let closing = first.early.late.closing in
      let u = state parts.References [] (with_reference b r) None s.draft in
      let wide = has_wide version each.0.wide in
      let fits : FitsOwn s (Refers (reference_shape r)) = subst (λ (v : Version). FitsReference (limits_of v) (reference_shape r)) (sym closing.same_version) (shape_fits_reference (limits_of version) b.start.schema r added each.0) in
      let one : Goes s (Own (Refers (reference_shape r)) ∷ []) u = goes_own s u (Refers (reference_shape r)) closing.own (first.reference wide) fits (first.refers r (omega (arith, few)) (to_again (limits_of version) b.start.schema r added each.0)) in
      let more = brings_references u (with_reference b r) rs (after_references (with_reference b r) s.draft) added (omega (arith, few, length-append b.references (r ∷ []))) each.1 in
      record { last = more.last; is = subst (Early more.last) (λ i. record b { references = append_assoc b.references (r ∷ []) rs i }) more.is; goes = leads_both one more.goes }

  -- ---- rows

  brings_rows : (s : BundleStanding) (b : BundleValue) (rs : List TableRow) (new : Rows) → Early s b → AllByRecursion (FitsRow (limits_of version)) rs → list_all (λ r. is_image_writable (limits_of version) r.row) rs ≡ true → put_all b.start rs ≡ Ok new → Brings Late s (row_lines rs) (with_rows b new)
  brings_rows s b [] new early fit writable e = record { last = s; is = subst (λ (x : Rows). Late s (with_rows b x)) (ok_is b.start.rows new e) early.late; goes = goes_none s }
  brings_rows s b (r ∷ rs) new early fit writable e =
      let p = and_parts (is_image_writable (limits_of version) r.row) (list_all (λ r. is_image_writable (limits_of version) r.row) rs) writable in
      let a = bind_ok (with_opening b.start r) (λ rows. put_all (record b.start { rows = rows }) rs) new e in
      let u = state parts.Rows [] (with_rows b a.0) None s.draft in
      let more = brings_rows u (with_rows b a.0) rs new (after_rows (with_rows b a.0) s.draft) fit.1 p.1 a.2 in
      let fits : FitsOwn s (Puts r) = subst (λ (v : Version). FitsRow (limits_of v) r) (sym early.late.closing.same_version) fit.0 in
      record { last = more.last; is = more.is; goes = leads_both (goes_own s u (Puts r) early.late.closing.own early.row fits (early.puts r a.0 p.0 a.1)) more.goes }

  -- the numbers of each journal
  abbrev AllFitStamps : List Table → List (List ℕ) → List JournalValue → Type 0
  AllFitStamps tables [] [] = Unit {0}
  AllFitStamps tables (stamps ∷ all) (j ∷ js) = FitStamps tables stamps j × AllFitStamps tables all js
  AllFitStamps tables _ _ = ⊥

  abbrev with_channels : BundleValue → List BundleChannel → List JournalValue → BundleValue
  with_channels b cs js = record b { channels = b.channels ++ cs; journals = b.journals ++ js }

  brings_channels : (s : BundleStanding) (b : BundleValue) (cs : List BundleChannel) (all : List (List ℕ)) (js : List JournalValue) → Late s b → AreNamed (limits_of version) b.channels cs → length b.channels + length cs ≤ 256 → AreBrought (limits_of version) b.start.schema cs js → AllFitStamps b.start.schema all js
      → Brings Late s (channels_lines version cs all js) (with_channels b cs js)
  brings_channels s b [] [] [] late named few brought fit = record { last = s; is = subst (Late s) (λ i. record b { channels = sym (append-nil b.channels) i; journals = sym (append-nil b.journals) i }) late; goes = goes_none s }
  brings_channels s b (c ∷ cs) (stamps ∷ all) (j ∷ js) late named few brought fit =
      let t = state parts.Journal [] b (Some c) (empty (Only version)) in
      let d = with_channel b c j in
      let opened : Goes s (Own (Opens c) ∷ []) t = goes_own s t (Opens c) late.closing.own late.channel (subst (λ (v : Version). is_named (limits_of v) c.name ≡ true) (sym late.closing.same_version) named.0) (late.opens c (omega arith) named.1) in
      let one : Goes s (channel_lines version c stamps j) (after_channels d) = leads_both opened (goes_journal b c stamps j brought.0 fit.0) in
      let more = brings_channels (after_channels d) d cs all js (after_channel d) named.2 (omega (arith, few, length-append b.channels (c ∷ []))) brought.1 fit.1 in
      let same : with_channels d cs js ≡ with_channels b (c ∷ cs) (j ∷ js) = λ i. record b { channels = append_assoc b.channels (c ∷ []) cs i; journals = append_assoc b.journals (j ∷ []) js i } in
      record { last = more.last; is = subst (Late more.last) same more.is; goes = leads_both one more.goes }
  brings_channels s b [] all (j ∷ js) late named few brought fit = absurd brought
  brings_channels s b (c ∷ cs) [] (j ∷ js) late named few brought fit = absurd fit
  brings_channels s b (c ∷ cs) all [] late named few brought fit = absurd brought
  brings_channels s b [] (stamps ∷ all) [] late named few brought fit = absurd fit

  -- ---- assumptions

  abbrev with_assumptions : BundleValue → List Assumption → BundleValue
  with_assumptions b said = record b { assumptions = b.assumptions ++ said }

  brings_assumptions : (s : BundleStanding) (b : BundleValue) (said : List Assumption) → Closing s b → length b.assumptions + length said ≤ most_assumptions → AreInOrder (limits_of version) b.opened b.start b.channels b.journals b.assumptions said → Brings Closing s (assumption_lines said) (with_assumptions b said)
  brings_assumptions s b [] closing few order = record { last = s; is = subst (Closing s) (λ i. record b { assumptions = sym (append-nil b.assumptions) i }) closing; goes = goes_none s }
  brings_assumptions s b (a ∷ said) closing few order =
      let u = state parts.Assumptions [] (with_assumption b a) None s.draft in
      let follows : may_follow (last_of (tables_end s).bundle.assumptions) a ≡ true = subst (λ (x : List Assumption). may_follow (last_of x) a ≡ true) (sym closing.assumptions) order.2 in
      let fits : FitsOwn s (Assumes a) = (subst (λ (v : Version). FitsAssumption (limits_of v) a) (sym closing.same_version) order.1, follows) in
      let one : Goes s (Own (Assumes a) ∷ []) u = goes_own s u (Assumes a) closing.own (closing.assume (has_wide version order.0)) fits (closing.assumes a (omega (arith, few)) order.3) in
      let more = brings_assumptions u (with_assumption b a) said (after_assumption (with_assumption b a) s.draft) (omega (arith, few, length-append b.assumptions (a ∷ []))) order.4 in
      record { last = more.last; is = subst (Closing more.last) (λ i. record b { assumptions = append_assoc b.assumptions (a ∷ []) said i }) more.is; goes = leads_both one more.goes }

  -- ---- the whole

  -- the lines of a bundle, part by part
  parts_of_lines : (rows : List TableRow) (all : List (List ℕ)) (b : BundleValue) → bundle_lines version rows all b
      ≡ (Own (Heads version) ∷ Own (Names b.replica) ∷ opening_set_lines version b.opened) ++ (table_lines b.start.schema ++ (reference_lines b.references ++ (row_lines rows ++ (channels_lines version b.channels all b.journals ++ (assumption_lines b.assumptions ++ Own Done ∷ [])))))
  parts_of_lines rows all b =
      let head : List BundleLine = Own (Heads version) ∷ Own (Names b.replica) ∷ opening_set_lines version b.opened in
      let tables = table_lines b.start.schema in
      let references = reference_lines b.references in
      let end : List BundleLine = assumption_lines b.assumptions ++ Own Done ∷ [] in
      let behind = channels_lines version b.channels all b.journals ++ end in
      append_assoc (start_lines version rows b) (channels_lines version b.channels all b.journals) end
      ∙ append_assoc (head ++ tables) (references ++ row_lines rows) behind
      ∙ append_assoc head tables ((references ++ row_lines rows) ++ behind)
      ∙ ap (λ (ls : List BundleLine). head ++ (tables ++ ls)) (append_assoc references (row_lines rows) behind)

  -- its lines are read to their end
  pub record ReadsLines (rows : List TableRow) (all : List (List ℕ)) (b : BundleValue) : Type 0 where
    pub last : BundleStanding
    pub goes : Goes (no_bundle due) (bundle_lines version rows all b) last
    pub done : is_done last.part ≡ true
    pub value : last.bundle ≡ b

  pub reads_lines : (rows : List TableRow) (all : List (List ℕ)) (b : BundleValue) → IsWrittenBundle version rows b → AllFitStamps b.start.schema all b.journals → ReadsLines rows all b
  unfolding own_put
  reads_lines rows all b w fit =
      let d = empty Any in
      let ts = b.start.schema in
      let two = state parts.Tables [] (bare b.replica b.opened []) None d in
      let three = state parts.Tables ts (bare b.replica b.opened []) None d in
      let tables : Goes two (table_lines ts) three = goes_tables (bare b.replica b.opened []) d [] ts w.tables in
      let start = bare b.replica b.opened ts in
      let references = brings_references three start b.references (after_tables b.replica b.opened ts d) w.tables (omega (arith, w.references.few)) w.references.each in
      let referred = with_references start b.references in
      let put = brings_rows references.last referred rows b.start.rows references.is w.opening.fit w.opening.writable w.opening.put in
      let channels = brings_channels put.last (with_rows referred b.start.rows) b.channels all b.journals put.is w.named (omega (arith, w.few)) w.brought fit in
      let assumed = brings_assumptions channels.last (with_channels (with_rows referred b.start.rows) b.channels b.journals) b.assumptions channels.is.closing (omega (arith, w.assumed.few)) w.assumed.each in
      let six = ending b assumed.last.draft in
      let ends : Goes assumed.last (Own Done ∷ []) six = goes_own assumed.last six Done assumed.is.own assumed.is.done tt assumed.is.ends in
      record {
        last = six;
        goes = subst (λ (ls : List BundleLine). Goes (no_bundle due) ls six) (sym (parts_of_lines rows all b)) (leads_both (begins_lines whole due version is_due_version b w.replica w.opened) (leads_both tables (leads_both references.goes (leads_both put.goes (leads_both channels.goes (leads_both assumed.goes ends))))));
        done = refl;
        value = refl;
      }

-- ---- numbers

-- numbers that are right may be at their places
right_is_stamp : (version : Version) (tables : List Table) (earlier : List Entry) (e : Entry) (place : ℕ) → place ≡ length earlier + 1 → IsStamp version place (right_stamp version tables earlier e)
right_is_stamp One tables earlier e place at = refl
right_is_stamp Two tables earlier e place at = let few = last_committed_earlier tables earlier e in omega (arith, few, at)
right_is_stamp Three tables earlier e place at = let few = last_committed_earlier tables earlier e in omega (arith, few, at)

none_are_stamps : (place : ℕ) (es : List Entry) → AreStamps One place (no_stamps es) es
none_are_stamps place [] = tt
none_are_stamps place (e ∷ es) = (refl, none_are_stamps (place + 1) es)

each_are_stamps : (version : Version) → is_numbered version ≡ true → (tables : List Table) (earlier es : List Entry) (place : ℕ) → place ≡ length earlier + 1 → AreStamps version place (each_last_committed tables earlier es) es
each_are_stamps version is tables earlier [] place at = tt
each_are_stamps version is tables earlier (e ∷ es) place at =
    let stamp : right_stamp version tables earlier e ≡ last_committed tables earlier e = ap (λ (b : Bool). cond b (last_committed tables earlier e) 0) is in
    (subst (IsStamp version place) stamp (right_is_stamp version tables earlier e place at), each_are_stamps version is tables (earlier ++ e ∷ []) es (place + 1) (omega (arith, at, length-append earlier (e ∷ []))))

pub right_are_stamps : (version : Version) (tables : List Table) (es : List Entry) → AreStamps version 1 (right_stamps version tables es) es
right_are_stamps One tables es = none_are_stamps 1 es
right_are_stamps Two tables es = each_are_stamps Two refl tables [] es 1 (omega arith)
right_are_stamps Three tables es = each_are_stamps Three refl tables [] es 1 (omega arith)

none_are_right : (whole : Bool) (tables : List Table) (earlier es : List Entry) → AreRight (IsRight whole One tables) earlier (no_stamps es) es
none_are_right whole tables earlier [] = tt
none_are_right whole tables earlier (e ∷ es) = (λ w. refl, none_are_right whole tables (earlier ++ e ∷ []) es)

each_are_right : (whole : Bool) (version : Version) → is_numbered version ≡ true → (tables : List Table) (earlier es : List Entry) → AreRight (IsRight whole version tables) earlier (each_last_committed tables earlier es) es
each_are_right whole version is tables earlier [] = tt
each_are_right whole version is tables earlier (e ∷ es) =
    (λ w. ap (λ (b : Bool). cond b (last_committed tables earlier e) 0) (sym is), each_are_right whole version is tables (earlier ++ e ∷ []) es)

right_are_right : (whole : Bool) (version : Version) (tables : List Table) (es : List Entry) → AreRight (IsRight whole version tables) [] (right_stamps version tables es) es
right_are_right whole One tables es = none_are_right whole tables [] es
right_are_right whole Two tables es = each_are_right whole Two refl tables [] es
right_are_right whole Three tables es = each_are_right whole Three refl tables [] es

-- where entries are not looked at as a whole, any number is right that may be at its place
any_are_right : (version : Version) (tables : List Table) (place : ℕ) (earlier : List Entry) (stamps : List ℕ) (es : List Entry) → AreStamps version place stamps es → AreRight (IsRight false version tables) earlier stamps es
any_are_right version tables place earlier [] [] h = tt
any_are_right version tables place earlier (l ∷ ls) (e ∷ es) h = (λ w. absurd cc, any_are_right version tables (place + 1) (earlier ++ e ∷ []) ls es h.1)
any_are_right version tables place earlier [] (e ∷ es) h = absurd h
any_are_right version tables place earlier (l ∷ ls) [] h = absurd h

all_right : (whole : Bool) (due : Due) (version : Version) (is : takes due version ≡ true) (tables : List Table) (js : List JournalValue) → AllFitStamps whole due version is tables (all_stamps version tables js) js
all_right whole due version is tables [] = tt
all_right whole due version is tables (j ∷ js) = ((right_are_stamps version tables j.entries, right_are_right whole version tables j.entries), all_right whole due version is tables js)

last_are_stamps : (version : Version) (tables : List Table) (stamps : List ℕ) (es : List Entry) → IsLastStamped version tables stamps es → AreStamps version 1 stamps es
last_are_stamps version tables stamps es h =
    let at : length h.earlier + 1 ≡ 1 + length h.earlier = omega arith in
    subst (λ (x : List ℕ). AreStamps version 1 x es) (sym h.all)
    (subst (λ (x : List Entry). AreStamps version 1 (right_stamps version tables h.earlier ++ h.stamp ∷ []) x) (sym h.entries)
    (stamps_more version 1 (right_stamps version tables h.earlier) h.earlier h.stamp h.last (right_are_stamps version tables h.earlier) (subst (λ (n : ℕ). IsStamp version n h.stamp) at h.is_stamp)))

almost_fit_at : (due : Due) (version : Version) (is : takes due version ≡ true) (tables : List Table) (earlier : List JournalValue) (last : JournalValue) (stamps : List ℕ) → AreStamps version 1 stamps last.entries
    → AllFitStamps false due version is tables (all_stamps version tables earlier ++ stamps ∷ []) (earlier ++ last ∷ [])
almost_fit_at due version is tables [] last stamps fit = ((fit, any_are_right version tables 1 [] stamps last.entries fit), tt)
almost_fit_at due version is tables (j ∷ js) last stamps fit = ((right_are_stamps version tables j.entries, right_are_right false version tables j.entries), almost_fit_at due version is tables js last stamps fit)

almost_fit : (due : Due) (version : Version) (is : takes due version ≡ true) (tables : List Table) (all : List (List ℕ)) (js : List JournalValue) → AreAlmostStamped version tables all js → AllFitStamps false due version is tables all js
almost_fit due version is tables all js h =
    subst (λ (x : List (List ℕ)). AllFitStamps false due version is tables x js) (sym h.all)
    (subst (λ (x : List JournalValue). AllFitStamps false due version is tables (all_stamps version tables h.earlier ++ h.last_stamps ∷ []) x) (sym h.journals)
    (almost_fit_at due version is tables h.earlier h.last h.last_stamps (last_are_stamps version tables h.last_stamps h.last.entries h.almost)))

-- ---- reading is complete

judge_is : judge_bundle ≡ judge_by true
unfolding judge_bundle
judge_is = refl

reads_strictly : (due : Due) (bytes : List ℕ) (b : BundleValue) → WritesPlainBundle due bytes b → Reads (plain_bundles due) (judge_by true) bytes b
reads_strictly due bytes b w =
    let version = w.0 in
    let k = w.2 in
    let all = all_stamps version b.start.schema b.journals in
    let r = reads_lines true due version w.1 k.rows all b k.written (all_right true due version w.1 b.start.schema b.journals) in
    record { lines = bundle_lines version k.rows all b; last = r.last; parts = k.text; leads = r.goes; done = r.done; value = r.value }

reads_bundle : (due : Due) (bytes : List ℕ) (b : BundleValue) → WritesPlainBundle due bytes b → Reads (plain_bundles due) judge_bundle bytes b
reads_bundle due bytes b w = subst (λ (j : Judge BundleStanding). Reads (plain_bundles due) j bytes b) (sym judge_is) (reads_strictly due bytes b w)

reads_almost : (due : Due) (bytes : List ℕ) (b : BundleValue) → AlmostWritesBundle due bytes b → ReadsOn (plain_bundles due) (judge_by false) bytes
reads_almost due bytes b w =
    let version = w.0 in
    let k = w.2 in
    let r = reads_lines false due version w.1 k.rows k.stamps b k.written (almost_fit due version w.1 b.start.schema k.stamps b.journals k.stamped) in
    record { lines = bundle_lines version k.rows k.stamps b; last = r.last; parts = k.text; leads = r.goes }

-- ---- what is taken is taken loosely

part_follows : (p : Part) (s t : BundleStanding) (line : List ℕ) → judge_part p true s line ≡ Ok t → judge_part p false s line ≡ Ok t
unfolding judge_inner
part_follows parts.Journal s t line e =
    let a = bind_ok (judge (Some s.bundle.start.schema) s.draft line) (unless_misstamped true s) t e in
    ap (λ (r : Result Standing Cause). r >>= unless_misstamped false s) a.1 ∙ taken s a.0 t (is_misstamped s.version s.bundle.start.schema s.draft a.0) a.2
  where
    taken : (s : BundleStanding) (d : Standing) (t : BundleStanding) (v : Bool) → cond v (Err causes.Stamp) (done (after_inner s d)) ≡ Ok t → done (after_inner s d) ≡ Ok t
    taken s d t true e = absurd cc
    taken s d t false e = e
part_follows p s t line e = e

follows : (s t : BundleStanding) (line : List ℕ) → judge_bundle s line ≡ Ok t → judge_by false s line ≡ Ok t
unfolding judge_bundle
follows s t line e = part_follows s.part s t line e

inner_refuses : (s : BundleStanding) (line : List ℕ) (c : Cause) (r : Result Standing Cause) → MatchResult r (Taken (Some s.bundle.start.schema) s.draft line) (λ x. Unit {0}) → (r >>= unless_misstamped true s) ≡ Err c → is_inside (keyword_of (first_word line)) ≡ true
    → (r >>= unless_misstamped false s) ≡ Err c
inner_refuses s line c (Err x) k e inside = e
inner_refuses s line c (Ok d) k e inside = elim (is_misstamped s.version tables s.draft d) as (λ v. is_misstamped s.version tables s.draft d ≡ v → cond v (Err causes.Stamp) (done (after_inner s d)) ≡ Err c → done (after_inner s d) ≡ Err c) [
  | true ↦ λ wrong f.
      let p = and_parts (is_within s.draft.place) _ wrong in
      let q = and_parts (not (is_within d.place)) _ p.1 in
      let end = ends_entry s.draft d k.l k.due k.keeps.goes p.0 (not-true (is_within d.place) q.0) in
      let text : line ≡ line_text End = k.text ∙ ap line_text end in
      absurd (let m = sym inside ∙ ap (λ (x : List ℕ). is_inside (keyword_of (first_word x))) text in cc)
  | false ↦ λ fits f. absurd cc
] refl e
  where
    tables : List Table
    tables = s.bundle.start.schema

part_refuses : (p : Part) (rows : List TableRow) (s : BundleStanding) (line : List ℕ) (c : Cause) → SoundAt p s.due s.version s.tables rows s.bundle s.channel s.draft → judge_part p true s line ≡ Err c → is_inside (keyword_of (first_word line)) ≡ true → judge_part p false s line ≡ Err c
unfolding judge_inner
part_refuses parts.Journal rows s line c h e inside =
    let schema = Some s.bundle.start.schema in
    inner_refuses s line c (judge schema s.draft line) (MatchResult-weaker (judge schema s.draft line) (judged_line schema s.draft line (sound s.channel h.1)) (λ d k. k) (λ x k. tt)) e inside
  where
    sound : (o : Option BundleChannel) → OpenChannel s.version s.bundle o s.draft → IsSound (Some s.bundle.start.schema) s.draft
    sound None k = absurd k
    sound (Some x) k = k.sound
part_refuses p rows s line c h e inside = e

refuses : (rows : List TableRow) (s : BundleStanding) (line : List ℕ) (c : Cause) → IsBundleSound rows s → judge_bundle s line ≡ Err c → is_inside (keyword_of (first_word line)) ≡ true → judge_by false s line ≡ Err c
unfolding judge_bundle
refuses rows s line c h e inside = part_refuses s.part rows s line c h e inside

-- ---- what has been read can be gone on with

goes_on : (due : Due) (version : Version) (ls more : List BundleLine) (rows : List TableRow) (b : BundleValue) → takes due version ≡ true → IsWrittenBundle version rows b → bundle_lines version rows (all_stamps version b.start.schema b.journals) b ≡ ls ++ more → CanGoOn (plain_bundles due) false ls
goes_on due version ls more rows b is w e = record { value = b; more = more; writes = (version, is, record { rows = rows; written = w; text = ap bundle_text (sym e) }) }

goes_on_almost : (due : Due) (version : Version) (ls more : List BundleLine) (rows : List TableRow) (all : List (List ℕ)) (b : BundleValue) → takes due version ≡ true → IsWrittenBundle version rows b → AreAlmostStamped version b.start.schema all b.journals → bundle_lines version rows all b ≡ ls ++ more → CanGoOn (plain_bundles due) true ls
goes_on_almost due version ls more rows all b is w almost e = record { value = b; more = more; writes = (version, is, record { rows = rows; stamps = all; written = w; stamped = almost; text = ap bundle_text (sym e) }) }

empty_opening : (version : Version) → IsOpeningSet version set.empty
empty_opening One = refl
empty_opening Two = none_written
empty_opening Three = none_written

no_rows_written : (version : Version) → IsWrittenBundle version [] (bare 0 set.empty [])
no_rows_written version = tables_written version 0 set.empty [] (omega arith) (empty_opening version) tt

-- the numbers of the entries that have come, where none is open
right_at : (version : Version) (tables : List Table) (place : LinePlace) (d : Standing) → is_within place ≡ false → d.stamps ≡ right_stamps version tables d.journal.entries → last_stamps place d ≡ right_stamps version tables (last_entries place d)
right_at version tables places.Header d out e = sym (none_right version tables)
right_at version tables places.Previous d out e = sym (none_right version tables)
right_at version tables places.Within d out e = absurd cc
right_at version tables place d out e = e

-- and where one is
last_at : (version : Version) (tables : List Table) (place : LinePlace) (d : Standing) → is_within place ≡ true → Sound_at (Some tables) place d → d.due ≡ Only version → d.stamps ≡ right_stamps version tables d.journal.entries → IsLastStamped version tables (last_stamps place d) (last_entries place d)
last_at version tables places.Within d within h due e =
    let is : d.version ≡ version = version_is version d.version (subst (λ (x : Due). takes x d.version ≡ true) due h.whole.due) in
    record {
      earlier = d.journal.entries;
      last = open_entry d;
      stamp = d.stamp;
      entries = refl;
      all = ap (λ (x : List ℕ). x ++ d.stamp ∷ []) e;
      is_stamp = subst (λ (v : Version). IsStamp v (length d.journal.entries + 1) d.stamp) is (subst (λ (n : ℕ). IsStamp d.version (n + 1) d.stamp) h.whole.counted h.stamp);
    }
last_at version tables place d within h due e = absurd cc

begins_inside : (due : Due) (version : Version) (rows : List TableRow) (b : BundleValue) (c : BundleChannel) (draft : Standing) → IsDueBundle due version rows b → IsOpen version b c draft → CanGoOn (plain_bundles due) (is_within draft.place) (front version rows b ++ (Own (Opens c) ∷ map Inner (lines_so_far draft)))
begins_inside due version rows b c draft w o =
    let tables = b.start.schema in
    let k = completes_at (Some tables) draft.place draft o.sound in
    let is : k.version ≡ version = version_is version k.version (subst (λ (x : Due). takes x k.version ≡ true) o.same_version k.takes_version) in
    let stamps = last_stamps draft.place draft in
    let inside = Own (Opens c) ∷ map Inner (lines_so_far draft) in
    let before = front version rows b in
    let end : List BundleLine = assumption_lines b.assumptions ++ Own Done ∷ [] in
    let more = map Inner k.more ++ end in
    let d = with_channel b c k.journal in
    let whole : journal_lines version stamps k.journal ≡ lines_so_far draft ++ k.more = ap (λ (v : Version). journal_lines v stamps k.journal) (sym is) ∙ k.whole in
    let channel : channel_lines version c stamps k.journal ≡ inside ++ map Inner k.more = ap (λ (ls : List Line). Own (Opens c) ∷ map Inner ls) whole ∙ ap (λ (ls : List BundleLine). Own (Opens c) ∷ ls) (map-append Inner (lines_so_far draft) k.more) in
    let written = channel_written version rows b c draft k.journal w.written o (subst (λ (v : Version). IsWritten (limits_of v) k.journal) is k.fits) k.fitting in
    let lines : (fs : List BundleLine) → fs ≡ before ++ channel_lines version c stamps k.journal → fs ++ end ≡ (before ++ inside) ++ more = λ fs e.
    ap (λ (ls : List BundleLine). ls ++ end) (e ∙ ap (λ (ls : List BundleLine). before ++ ls) channel ∙ sym (append_assoc before inside (map Inner k.more))) ∙ append_assoc (before ++ inside) (map Inner k.more) end in
    elim (is_within draft.place) as (λ v. is_within draft.place ≡ v → CanGoOn (plain_bundles due) v (before ++ inside)) [
      | true ↦ λ within.
          let all = all_stamps version tables b.journals ++ stamps ∷ [] in
          let last : IsLastStamped version tables stamps k.journal.entries = subst (IsLastStamped version tables stamps) (sym k.entries) (last_at version tables draft.place draft within o.sound o.same_version o.stamped) in
          let almost : AreAlmostStamped version tables all d.journals = record { earlier = b.journals; last = k.journal; last_stamps = stamps; journals = refl; all = refl; almost = last } in
          goes_on_almost due version (before ++ inside) more rows all d w.due_version written almost (lines _ (channel_front version rows b c stamps k.journal w.written.brought))
      | false ↦ λ out.
          let right : stamps ≡ right_stamps version tables k.journal.entries = right_at version tables draft.place draft out o.stamped ∙ ap (right_stamps version tables) (sym k.entries) in
          goes_on due version (before ++ inside) more rows d w.due_version written (lines _ (right_front version rows b c stamps k.journal w.written.brought right))
    ] refl

bundle_begins_at : (part : Part) (rows : List TableRow) (s : BundleStanding) → SoundAt part s.due s.version s.tables rows s.bundle s.channel s.draft → CanGoOn (plain_bundles s.due) (is_entry_open part s.draft.place) (bundle_lines_so_far_at part rows s)
bundle_begins_at parts.Header rows s h =
    let v = some_version s.due in
    goes_on s.due v.0 [] (bundle_lines v.0 [] [] (bare 0 set.empty [])) [] (bare 0 set.empty []) v.1 (no_rows_written v.0) refl
bundle_begins_at parts.Replica rows s h =
    goes_on s.due s.version (Own (Heads s.version) ∷ []) (Own (Names 0) ∷ ((((opening_set_lines s.version set.empty ++ []) ++ []) ++ []) ++ Own Done ∷ [])) [] (bare 0 set.empty []) h.due_version (no_rows_written s.version) refl
bundle_begins_at parts.Opening rows s h =
    let b = bare s.bundle.replica set.empty [] in
    goes_on s.due s.version (Own (Heads s.version) ∷ Own (Names b.replica) ∷ []) ((((opening_set_lines s.version set.empty ++ []) ++ []) ++ []) ++ Own Done ∷ []) [] b h.0.due_version (tables_written s.version b.replica set.empty [] h.2 (empty_opening s.version) tt) refl
bundle_begins_at parts.Tables rows s h =
    let b = s.bundle in
    goes_on s.due s.version (tables_lines s.version b.replica b.opened s.tables) (Own Done ∷ []) [] (bare b.replica b.opened s.tables) h.due_version (tables_written s.version b.replica b.opened s.tables h.replica h.opened h.added)
    (ap (λ (ls : List BundleLine). ls ++ Own Done ∷ []) (sym (tables_front s.version b.replica b.opened s.tables)))
bundle_begins_at parts.References rows s h = goes_on s.due s.version (front s.version rows s.bundle) (assumption_lines s.bundle.assumptions ++ Own Done ∷ []) rows s.bundle h.0.due_version h.0.written refl
bundle_begins_at parts.Rows rows s h = goes_on s.due s.version (front s.version rows s.bundle) (assumption_lines s.bundle.assumptions ++ Own Done ∷ []) rows s.bundle h.0.due_version h.0.written refl
bundle_begins_at parts.Channels rows s h = goes_on s.due s.version (front s.version rows s.bundle) (assumption_lines s.bundle.assumptions ++ Own Done ∷ []) rows s.bundle h.0.due_version h.0.written refl
bundle_begins_at parts.Journal rows s h = open_begins s.channel h.1
  where
    open_begins : (o : Option BundleChannel) → OpenChannel s.version s.bundle o s.draft → CanGoOn (plain_bundles s.due) (is_within s.draft.place) (front s.version rows s.bundle ++ inner_lines_so_far o s.draft)
    open_begins None k = absurd k
    open_begins (Some c) k = begins_inside s.due s.version rows s.bundle c s.draft h.0 k
bundle_begins_at parts.Assumptions rows s h =
    let before = front s.version rows s.bundle in
    let assumed = assumption_lines s.bundle.assumptions in
    goes_on s.due s.version (before ++ assumed) (Own Done ∷ []) rows s.bundle h.due_version h.written (sym (append_assoc before assumed (Own Done ∷ [])))
bundle_begins_at parts.Ended rows s h =
    let all = front s.version rows s.bundle ++ (assumption_lines s.bundle.assumptions ++ Own Done ∷ []) in
    goes_on s.due s.version all [] rows s.bundle h.due_version h.written (sym (append-nil all))

-- ---- bundles

abbrev pub IsSoundPlain : Due → BundleStanding → List BundleLine → Type 0
IsSoundPlain due s ls = (s.due ≡ due) × ((rows : List TableRow) × (bundle_lines_so_far rows s ≡ ls) × IsBundleSound rows s)

-- a bundle that has come to its end
pub ends_at : (part : Part) (rows : List TableRow) (s : BundleStanding) → SoundAt part s.due s.version s.tables rows s.bundle s.channel s.draft → is_done part ≡ true → IsDueBundle s.due s.version rows s.bundle × (bundle_lines_so_far_at part rows s ≡ front s.version rows s.bundle ++ (assumption_lines s.bundle.assumptions ++ Own Done ∷ []))
ends_at parts.Ended rows s h last = (h, refl)
ends_at part rows s h last = absurd cc

pub plain_bundle_laws : (due : Due) → Laws (plain_bundles due) (IsSoundPlain due)
plain_bundle_laws due = record {
  starts = (refl, ([], refl, refl));
  has_lines = λ s ls h. (h.1.0, h.1.1);
  begins = λ s ls h. subst (λ (x : Due). CanGoOn (plain_bundles x) (is_entry_open s.part s.draft.place) ls) h.0 (subst (λ (x : List BundleLine). CanGoOn (plain_bundles s.due) (is_entry_open s.part s.draft.place) x) h.1.1 (bundle_begins_at s.part h.1.0 s h.1.2));
  judges = λ s ls line h one. MatchResult-weaker (judge_bundle s line) (bundle_taken h.1.0 s line h.1.2)
      (λ t k. record { l = k.l; text = k.text; sound = (k.keeps.same_due ∙ h.0, (k.keeps.rows, k.keeps.says ∙ ap (λ (x : List BundleLine). x ++ k.l ∷ []) h.1.1, k.keeps.sound)) })
      (λ c k. k);
  ends = λ s ls h last.
      let e = ends_at s.part h.1.0 s h.1.2 last in
      (s.version, ap (λ (x : Due). takes x s.version) (sym h.0) ∙ e.0.due_version, record { rows = h.1.0; written = e.0.written; text = ap bundle_text (sym h.1.1 ∙ e.1) });
  reads = reads_bundle due;
  loose = judge_by false;
  follows = follows;
  refuses = λ s ls line c h e inside. refuses h.1.0 s line c h.1.2 e inside;
  reads_open = reads_almost due;
}

pub loosely_is : (due : Due) (s : BundleStanding) (line : List ℕ) → (plain_bundle_laws due).loose s line ≡ judge_by false s line
unfolding plain_bundle_laws
loosely_is due s line = refl

-- ---- a bundle of version 1 as one of version 2

opening_two : (version : Version) (opened : Gtids) → IsOpeningSet version opened → IsWrittenSet opened
opening_two One opened is = subst IsWrittenSet (sym is) none_written
opening_two Two opened is = is
opening_two Three opened is = is

in_listed_order : (version : Version) (rows : List TableRow) (b : BundleValue) → IsWrittenBundle version rows b → IsWrittenBundle version (rows_listed b.start.rows) b
in_listed_order version rows b k = record {
  replica = k.replica;
  opened = k.opened;
  tables = k.tables;
  references = k.references;
  opening = listed_opening (limits_of version) b.start.schema rows b.start.rows k.opening;
  named = k.named;
  few = k.few;
  brought = k.brought;
  assumed = k.assumed;
}

-- a bundle of version 1 may be written by version 2, and one of a later version by the same, with its rows in listed order
pub relisted_by : (version : Version) (rows : List TableRow) (b : BundleValue) → IsWrittenBundle version rows b → IsWrittenBundle (newest (limits_of version)) (rows_listed b.start.rows) b
relisted_by One rows b k = record {
  replica = k.replica;
  opened = opening_two One b.opened k.opened;
  tables = k.tables;
  references = k.references;
  opening = listed_opening Narrow b.start.schema rows b.start.rows k.opening;
  named = k.named;
  few = k.few;
  brought = k.brought;
  assumed = k.assumed;
}
relisted_by Two rows b k = in_listed_order Two rows b k
relisted_by Three rows b k = in_listed_order Three rows b k

pub relisted : (version : Version) (rows : List TableRow) (b : BundleValue) → IsWrittenBundle version rows b → IsBundle b
relisted version rows b k = (limits_of version, relisted_by version rows b k)
