-- One line more keeps the invariant of the lines of a bundle.
use Rattle.std.proofs.Common.{◌≡◌, ℕ, ◌<◌, true, false, not, cond, leb, List, [], ◌∷◌, ◌++◌, length, Option, Some, None, Result, Ok, Err, refl, sym, ap, subst, ◌∙◌, append_assoc, arith}
use Rattle.std.specs.FinMap as map_of
use Rattle.std.specs.FinSet as set
use Rattle.std.specs.Prelude.{MatchResult}
use Rattle.std.proofs.lemmas.Bool.{leb-true, leb-false, le-leb}
use Rattle.std.proofs.lemmas.List.{append-nil, length-append, map_push}
use Rattle.gtid_text.specs.Written.{IsSource}
use Rattle.gtid_set.proofs.SpanLemmas.{all_push}
use Rattle.rows.specs.declared.limits.Limits.{Limits}
use Rattle.txn_journal.specs.Versions.{limits_of, is_named, is_numbered, has_references, IsWide}
use Rattle.txn_journal.specs.References.{ReferenceShape, reference_to, reference_shape, IsReference, AreReferences, most_references}
use Rattle.txn_journal.specs.Assumptions.{FitsAssumption, last_of, may_follow, has_channel, may_assume, most_assumptions, AreInOrder, AreAssumptions}
use Rattle.txn_journal.specs.declared.references.Reference.{Reference}
use Rattle.txn_journal.specs.declared.assumptions.Assumption.{Assumption}
use Rattle.txn_journal.proofs.Referring.{ReferenceMade, refers_both}
use Rattle.rows.specs.Apply.{Rows}
use Rattle.rows.specs.Database.{Database}
use Rattle.rows.specs.Tables.{table_fault}
use Rattle.rows.specs.declared.schema.Table.{Table}
use Rattle.rows.specs.declared.change.TableRow.{TableRow}
use Rattle.journal.specs.Journals.{JournalValue}
use Rattle.journal.specs.Writing.{is_image_writable}
use Rattle.gtid_set.specs.Sets.{Gtids}
use Rattle.txn_journal.specs.Lines.{◌>>=◌, takes}
use Rattle.txn_journal.specs.Stamps.{right_stamps, all_stamps}
use Rattle.txn_journal.specs.Machine.{Standing, empty, is_last}
use Rattle.txn_journal.specs.Spelling.{Header}
use Rattle.txn_journal.specs.Shapes.{Shape, FitsTable, with_table, shape_for}
use Rattle.txn_journal.specs.BundleStates.{BundleValue, BundleStanding, bare, is_due_in, after_tables, with_opening, put_reference, put_row, put_assumption, join_channel}
use Rattle.txn_journal.specs.BundleText.{OwnLine, BundleLine, Own, Heads, Names, Starts, Has, Refers, Puts, Opens, Assumes, Done, table_lines, reference_lines, row_lines, assumption_lines, channel_lines, channels_lines, opening_set_lines, tables_lines, start_lines, bundle_front, IsOpeningSet, FitsRow, AreAdded, put_all, AreNamed, IsWrittenIn, AreBrought, IsWrittenBundle}
use Rattle.txn_journal.specs.BundleLinesSoFar.{bundle_lines_so_far}
use Rattle.txn_journal.specs.BundleCauses.{RefersWrongly, own_word, own_wording}
use Rattle.txn_journal.specs.declared.bundle.BundleChannel.{BundleChannel}
use Rattle.txn_journal.specs.declared.bundle_draft.Part.{Part}
use Rattle.txn_journal.specs.declared.bundle_draft.Part.TheVariants as parts
use Rattle.txn_journal.specs.declared.fault.Cause.{Cause}
use Rattle.txn_journal.specs.declared.fault.Cause.TheVariants as causes
use Rattle.txn_journal.specs.declared.lines.Version.{Version}
use Rattle.txn_journal.specs.declared.lines.Version.TheVariants.{One, Two, Three}
use Rattle.txn_journal.proofs.SoundLines.{IsSound}
use Rattle.txn_journal.proofs.ShapeLaws.{TableErr, with_both}
use Rattle.txn_journal.proofs.OneBundle.{put_both}
use Rattle.txn_journal.proofs.OwnReads.{own_put}
use Rattle.std.proofs.lemmas.Result.{MatchResult-weaker}
use Rattle.lemmas.proofs.Lists.{all_append}
use Rattle.txn_journal.specs.Wordings.{ParsesAsLine, HasCauseBy}
use Rattle.txn_journal.proofs.Judged.{then_both, if_both, known_both, IsSchema, bind_ok, ok_is}
use Rattle.txn_journal.specs.declared.lines.Due.{Due}
use Rattle.txn_journal.specs.declared.lines.Due.TheVariants.{Only}

-- ---- what is known of a bundle that has come so far

-- no channel has come, and nothing is assumed
pub record NoChannel (b : BundleValue) : Type 0 where
  pub channels : b.channels ≡ []
  pub journals : b.journals ≡ []
  pub assumptions : b.assumptions ≡ []

-- a channel is open
pub record IsOpen (version : Version) (b : BundleValue) (c : BundleChannel) (draft : Standing) : Type 0 where
  pub name : is_named (limits_of version) c.name ≡ true
  pub new : has_channel b.channels c.name ≡ false
  pub room : length b.channels < 256
  pub assumptions : b.assumptions ≡ []
  pub same_version : draft.due ≡ Only version
  pub sound : IsSound (Some b.start.schema) draft
  pub stamped : draft.stamps ≡ right_stamps version b.start.schema draft.journal.entries
  pub goes_on : is_last draft.place ≡ false

abbrev pub OpenChannel : Version → BundleValue → Option BundleChannel → Standing → Type 0
OpenChannel version b None draft = ⊥
OpenChannel version b (Some c) draft = IsOpen version b c draft

-- a bundle of a version that is due
pub record IsDueBundle (due : Due) (version : Version) (rows : List TableRow) (b : BundleValue) : Type 0 where
  pub due_version : takes due version ≡ true
  pub written : IsWrittenBundle version rows b

pub record IsBegun (due : Due) (version : Version) (tables : List Table) : Type 0 where
  pub due_version : takes due version ≡ true
  pub none : tables ≡ []

pub record HasTables (due : Due) (version : Version) (tables : List Table) (b : BundleValue) : Type 0 where
  pub due_version : takes due version ≡ true
  pub replica : IsSource b.replica
  pub opened : IsOpeningSet version b.opened
  pub added : AreAdded (limits_of version) [] tables

abbrev pub SoundAt : Part → Due → Version → List Table → List TableRow → BundleValue → Option BundleChannel → Standing → Type 0
SoundAt parts.Header due version tables rows b channel draft = tables ≡ []
SoundAt parts.Replica due version tables rows b channel draft = IsBegun due version tables
SoundAt parts.Opening due version tables rows b channel draft = IsBegun due version tables × (is_numbered version ≡ true) × IsSource b.replica
SoundAt parts.Tables due version tables rows b channel draft = HasTables due version tables b
SoundAt parts.References due version tables rows b channel draft = IsDueBundle due version rows b × NoChannel b × (rows ≡ [])
SoundAt parts.Rows due version tables rows b channel draft = IsDueBundle due version rows b × NoChannel b
SoundAt parts.Channels due version tables rows b channel draft = IsDueBundle due version rows b × (b.assumptions ≡ [])
SoundAt parts.Journal due version tables rows b channel draft = IsDueBundle due version rows b × OpenChannel version b channel draft
SoundAt parts.Assumptions due version tables rows b channel draft = IsDueBundle due version rows b
SoundAt parts.Ended due version tables rows b channel draft = IsDueBundle due version rows b

abbrev pub IsBundleSound : List TableRow → BundleStanding → Type 0
IsBundleSound rows s = SoundAt s.part s.due s.version s.tables rows s.bundle s.channel s.draft

-- ---- lists with one more

added_more : (limits : Limits) (before ts : List Table) (t : Table) → AreAdded limits before ts → FitsTable limits t → table_fault (before ++ ts) t ≡ None → AreAdded limits before (ts ++ t ∷ [])
added_more limits before [] t h fits free = (fits, subst (λ (x : List Table). table_fault x t ≡ None) (append-nil before) free, tt)
added_more limits before (u ∷ ts) t h fits free = (h.0, h.1, added_more limits (before ++ u ∷ []) ts t h.2 fits (subst (λ (x : List Table). table_fault x t ≡ None) (sym (append_assoc before (u ∷ []) ts)) free))

pub named_more : (limits : Limits) (before cs : List BundleChannel) (c : BundleChannel) → AreNamed limits before cs → is_named limits c.name ≡ true → has_channel (before ++ cs) c.name ≡ false → AreNamed limits before (cs ++ c ∷ [])
named_more limits before [] c h name new = (name, subst (λ (x : List BundleChannel). has_channel x c.name ≡ false) (append-nil before) new, tt)
named_more limits before (d ∷ cs) c h name new = (h.0, h.1, named_more limits (before ++ d ∷ []) cs c h.2 name (subst (λ (x : List BundleChannel). has_channel x c.name ≡ false) (sym (append_assoc before (d ∷ []) cs)) new))

pub brought_more : (limits : Limits) (tables : List Table) (cs : List BundleChannel) (js : List JournalValue) (c : BundleChannel) (j : JournalValue) → AreBrought limits tables cs js → IsWrittenIn limits tables j → AreBrought limits tables (cs ++ c ∷ []) (js ++ j ∷ [])
brought_more limits tables [] [] c j h w = (w, tt)
brought_more limits tables (d ∷ cs) (k ∷ js) c j h w = (h.0, brought_more limits tables cs js c j h.1 w)
brought_more limits tables cs js c j h w = absurd h

order_more : (limits : Limits) (opened : Gtids) (start : Database) (channels : List BundleChannel) (journals : List JournalValue) (before said : List Assumption) (a : Assumption) → AreInOrder limits opened start channels journals before said → IsWide limits → FitsAssumption limits a → may_follow (last_of (before ++ said)) a ≡ true → may_assume opened start channels journals a ≡ true
    → AreInOrder limits opened start channels journals before (said ++ a ∷ [])
order_more limits opened start channels journals before [] a h wide fits follows may = (wide, fits, subst (λ (x : List Assumption). may_follow (last_of x) a ≡ true) (append-nil before) follows, may, tt)
order_more limits opened start channels journals before (x ∷ said) a h wide fits follows may =
    (h.0, h.1, h.2, h.3, order_more limits opened start channels journals (before ++ x ∷ []) said a h.4 wide fits (subst (λ (y : List Assumption). may_follow (last_of y) a ≡ true) (sym (append_assoc before (x ∷ []) said)) follows) may)

pub channels_more : (version : Version) (tables : List Table) (cs : List BundleChannel) (all : List (List ℕ)) (js : List JournalValue) (c : BundleChannel) (stamps : List ℕ) (j : JournalValue) → AreBrought (limits_of version) tables cs js → length all ≡ length js
    → channels_lines version (cs ++ c ∷ []) (all ++ stamps ∷ []) (js ++ j ∷ []) ≡ channels_lines version cs all js ++ channel_lines version c stamps j
channels_more version tables [] [] [] c stamps j h e = append-nil (channel_lines version c stamps j)
channels_more version tables (d ∷ cs) (ks ∷ all) (k ∷ js) c stamps j h e =
    ap (λ (ls : List BundleLine). channel_lines version d ks k ++ ls) (channels_more version tables cs all js c stamps j h.1 (omega (arith, e))) ∙ sym (append_assoc (channel_lines version d ks k) (channels_lines version cs all js) (channel_lines version c stamps j))
channels_more version tables (d ∷ cs) [] (k ∷ js) c stamps j h e = absurd (omega (arith, e))
channels_more version tables [] (ks ∷ all) [] c stamps j h e = absurd (omega (arith, e))
channels_more version tables cs all js c stamps j h e = absurd h

abbrev with_rows : Database → Rows → Database
with_rows d rows = record d { rows = rows }

put_more : (d : Database) (rs : List TableRow) (r : TableRow) (rows new : Rows) → put_all d rs ≡ Ok rows → with_opening (with_rows d rows) r ≡ Ok new → put_all d (rs ++ r ∷ []) ≡ Ok new
put_more d [] r rows new e f =
    let same : d.rows ≡ rows = ok_is d.rows rows e in
    ap (λ (x : Result Rows Cause). x >>= λ mid. Ok mid) (ap (λ (x : Rows). with_opening (with_rows d x) r) same ∙ f)
put_more d (x ∷ rs) r rows new e f =
    let a = bind_ok (with_opening d x) (λ mid. put_all (with_rows d mid) rs) rows e in
    ap (λ (o : Result Rows Cause). o >>= λ mid. put_all (with_rows d mid) (rs ++ r ∷ [])) a.1 ∙ put_more (with_rows d a.0) rs r rows new a.2 f

-- ---- what a line leaves

pub record KeepsBundle (due : Due) (old : List BundleLine) (l : BundleLine) (t : BundleStanding) : Type 0 where
  pub rows : List TableRow
  pub same_due : t.due ≡ due
  pub says : bundle_lines_so_far rows t ≡ old ++ l ∷ []
  pub sound : IsBundleSound rows t

abbrev pub state : Part → Due → Version → List Table → BundleValue → Option BundleChannel → Standing → BundleStanding
state part due version tables b channel draft = record { part = part; due = due; version = version; tables = tables; bundle = b; channel = channel; draft = draft }

-- the lines of the bundle's whole channels and of what comes before them
abbrev pub front : Version → List TableRow → BundleValue → List BundleLine
front version rows b = bundle_front version rows (all_stamps version b.start.schema b.journals) b

-- the lines before the channels, or some of them, end here
record Front (due : Due) (version : Version) (rows : List TableRow) (b : BundleValue) (old : List BundleLine) : Type 0 where
  whole : IsDueBundle due version rows b
  lines : old ≡ front version rows b
  assumptions : b.assumptions ≡ []

-- all lines before the next assumption, or the last line
record Till (due : Due) (version : Version) (rows : List TableRow) (b : BundleValue) (old : List BundleLine) : Type 0 where
  whole : IsDueBundle due version rows b
  lines : old ≡ front version rows b ++ assumption_lines b.assumptions

till : (due : Due) (version : Version) (rows : List TableRow) (b : BundleValue) (old : List BundleLine) → Front due version rows b old → Till due version rows b old
till due version rows b old f = record { whole = f.whole; lines = f.lines ∙ sym (append-nil (front version rows b)) ∙ (λ i. front version rows b ++ assumption_lines (sym f.assumptions i)) }

none_refer : (version : Version) (tables : List Table) → AreReferences (limits_of version) tables []
none_refer version tables = record { few = omega arith; each = tt }

pub none_assumed : (version : Version) (opened : Gtids) (start : Database) (channels : List BundleChannel) (journals : List JournalValue) (said : List Assumption) → said ≡ [] → AreAssumptions (limits_of version) opened start channels journals said
none_assumed version opened start channels journals said none = subst (AreAssumptions (limits_of version) opened start channels journals) (sym none) (record { few = omega arith; each = tt })

-- the tables as a bundle without rows and channels
pub tables_written : (version : Version) (replica : ℕ) (opened : Gtids) (tables : List Table) → IsSource replica → IsOpeningSet version opened → AreAdded (limits_of version) [] tables → IsWrittenBundle version [] (bare replica opened tables)
tables_written version replica opened tables small is added = record {
  replica = small;
  opened = is;
  tables = added;
  references = none_refer version tables;
  opening = record { fit = tt; writable = refl; put = refl };
  named = tt;
  few = omega arith;
  brought = tt;
  assumed = none_assumed version opened (bare replica opened tables).start [] [] [] refl;
}

pub tables_front : (version : Version) (replica : ℕ) (opened : Gtids) (tables : List Table) → tables_lines version replica opened tables ≡ front version [] (bare replica opened tables)
tables_front version replica opened tables =
    let lines = tables_lines version replica opened tables in
    sym (append-nil (lines ++ []) ∙ append-nil lines)

front_of : (due : Due) (version : Version) (tables : List Table) (b : BundleValue) → HasTables due version tables b → Front due version [] (bare b.replica b.opened tables) (tables_lines version b.replica b.opened tables)
front_of due version tables b h = record { whole = record { due_version = h.due_version; written = tables_written version b.replica b.opened tables h.replica h.opened h.added }; lines = tables_front version b.replica b.opened tables; assumptions = refl }

abbrev with_put : BundleStanding → Rows → BundleStanding
with_put s rows = record s { bundle = record s.bundle { start = with_rows s.bundle.start rows } }

abbrev with_reference : BundleValue → Reference → BundleValue
with_reference b r = record b { references = b.references ++ r ∷ [] }

-- one reference more
reference_keeps_in : (due : Due) (version : Version) (tables : List Table) (b : BundleValue) (shape : ReferenceShape) (r : Reference) (channel : Option BundleChannel) (draft : Standing) (old : List BundleLine) → Front due version [] b old → NoChannel b → length b.references < most_references → ReferenceMade (limits_of version) b.start.schema shape r
    → KeepsBundle due old (Own (Refers shape)) (state parts.References due version tables (with_reference b r) channel draft)
reference_keeps_in due version tables b shape r channel draft old f none room is =
    let w = f.whole.written in
    let all = all_stamps version b.start.schema b.journals in
    let ts = tables_lines version b.replica b.opened b.start.schema in
    let refs = reference_lines b.references in
    let line : List BundleLine = Own (Refers (reference_shape r)) ∷ [] in
    let lines : front version [] (with_reference b r) ≡ old ++ Own (Refers shape) ∷ [] =
    (λ i. (ts ++ (map_push (λ x. Own (Refers (reference_shape x))) b.references r i ++ [])) ++ channels_lines version (none.channels i) all b.journals)
    ∙ append-nil (ts ++ ((refs ++ line) ++ []))
    ∙ ap (λ (ls : List BundleLine). ts ++ ls) (append-nil (refs ++ line))
    ∙ sym (append_assoc ts refs line)
    ∙ ap (λ (ls : List BundleLine). ls ++ line) (ap (λ (ls : List BundleLine). ts ++ ls) (sym (append-nil refs)) ∙ sym (append-nil (start_lines version [] b)) ∙ (λ i. start_lines version [] b ++ channels_lines version (sym none.channels i) all b.journals) ∙ sym f.lines)
    ∙ ap (λ (s : ReferenceShape). old ++ Own (Refers s) ∷ []) (sym is.shape) in
    record {
      rows = [];
      same_due = refl;
      says = lines;
      sound = (
        record {
          due_version = f.whole.due_version;
          written = record {
            replica = w.replica;
            opened = w.opened;
            tables = w.tables;
            references = record { few = omega (arith, room, length-append b.references (r ∷ [])); each = all_append (IsReference (limits_of version) b.start.schema) b.references (r ∷ []) w.references.each (is.is, tt) };
            opening = w.opening;
            named = w.named;
            few = w.few;
            brought = w.brought;
            assumed = w.assumed;
          };
        },
        record { channels = none.channels; journals = none.journals; assumptions = none.assumptions },
        refl,
      );
    }

-- one row more
row_keeps_in : (due : Due) (version : Version) (tables : List Table) (rows : List TableRow) (b : BundleValue) (r : TableRow) (channel : Option BundleChannel) (draft : Standing) (old : List BundleLine) (new : Rows) → Front due version rows b old → NoChannel b → FitsRow (limits_of version) r → is_image_writable (limits_of version) r.row ≡ true → with_opening b.start r ≡ Ok new
    → KeepsBundle due old (Own (Puts r)) (with_put (state parts.Rows due version tables b channel draft) new)
row_keeps_in due version tables rows b r channel draft old new f none fit writable put =
    let c : BundleValue = record b { start = with_rows b.start new } in
    let w = f.whole.written in
    let o = w.opening in
    let all = all_stamps version b.start.schema b.journals in
    let ts = tables_lines version b.replica b.opened b.start.schema in
    let refs = reference_lines b.references in
    let lines : front version (rows ++ r ∷ []) c ≡ old ++ Own (Puts r) ∷ [] =
    (λ i. (ts ++ (refs ++ map_push (λ x. Own (Puts x)) rows r i)) ++ channels_lines version (none.channels i) all b.journals)
    ∙ append-nil (ts ++ (refs ++ (row_lines rows ++ Own (Puts r) ∷ [])))
    ∙ ap (λ (ls : List BundleLine). ts ++ ls) (sym (append_assoc refs (row_lines rows) (Own (Puts r) ∷ [])))
    ∙ sym (append_assoc ts (refs ++ row_lines rows) (Own (Puts r) ∷ []))
    ∙ ap (λ (ls : List BundleLine). ls ++ Own (Puts r) ∷ []) (sym (append-nil (start_lines version rows b)) ∙ (λ i. start_lines version rows b ++ channels_lines version (sym none.channels i) all b.journals) ∙ sym f.lines) in
    record {
      rows = rows ++ r ∷ [];
      same_due = refl;
      says = lines;
      sound = (
        record {
          due_version = f.whole.due_version;
          written = record {
            replica = w.replica;
            opened = w.opened;
            tables = w.tables;
            references = w.references;
            opening = record { fit = all_append (FitsRow (limits_of version)) rows (r ∷ []) o.fit (fit, tt); writable = all_push (λ x. is_image_writable (limits_of version) x.row) rows r o.writable writable; put = put_more (record { schema = b.start.schema; rows = map_of.empty }) rows r b.start.rows new o.put put };
            named = w.named;
            few = w.few;
            brought = w.brought;
            assumed = none_assumed version b.opened c.start b.channels b.journals b.assumptions none.assumptions;
          };
        },
        record { channels = none.channels; journals = none.journals; assumptions = none.assumptions },
      );
    }

-- the entries of a journal that has none
pub none_right : (version : Version) (tables : List Table) → right_stamps version tables [] ≡ []
none_right One tables = refl
none_right Two tables = refl
none_right Three tables = refl

open_keeps_in : (due : Due) (version : Version) (tables : List Table) (rows : List TableRow) (b : BundleValue) (c : BundleChannel) (old : List BundleLine) → Front due version rows b old → is_named (limits_of version) c.name ≡ true → length b.channels < 256 → has_channel b.channels c.name ≡ false
    → KeepsBundle due old (Own (Opens c)) (state parts.Journal due version tables b (Some c) (empty (Only version)))
open_keeps_in due version tables rows b c old f name room new = record {
  rows = rows;
  same_due = refl;
  says = ap (λ (ls : List BundleLine). ls ++ Own (Opens c) ∷ []) (sym f.lines);
  sound = (f.whole, record { name = name; new = new; room = room; assumptions = f.assumptions; same_version = refl; sound = record { none_stamped = refl; none_counted = refl; none_open = refl }; stamped = sym (none_right version b.start.schema); goes_on = refl });
}

abbrev with_assumption : BundleValue → Assumption → BundleValue
with_assumption b a = record b { assumptions = b.assumptions ++ a ∷ [] }

-- one assumption more
assumption_keeps_in : (due : Due) (version : Version) (tables : List Table) (rows : List TableRow) (b : BundleValue) (a : Assumption) (channel : Option BundleChannel) (draft : Standing) (old : List BundleLine) → Till due version rows b old → IsWide (limits_of version) → FitsAssumption (limits_of version) a → may_follow (last_of b.assumptions) a ≡ true
    → length b.assumptions < most_assumptions → may_assume b.opened b.start b.channels b.journals a ≡ true → KeepsBundle due old (Own (Assumes a)) (state parts.Assumptions due version tables (with_assumption b a) channel draft)
assumption_keeps_in due version tables rows b a channel draft old f wide fits follows room may =
    let w = f.whole.written in
    let before = front version rows b in
    record {
      rows = rows;
      same_due = refl;
      says = ap (λ (ls : List BundleLine). before ++ ls) (map_push (λ x. Own (Assumes x)) b.assumptions a)
          ∙ sym (append_assoc before (assumption_lines b.assumptions) (Own (Assumes a) ∷ []))
          ∙ ap (λ (ls : List BundleLine). ls ++ Own (Assumes a) ∷ []) (sym f.lines);
      sound = record {
        due_version = f.whole.due_version;
        written = record {
          replica = w.replica;
          opened = w.opened;
          tables = w.tables;
          references = w.references;
          opening = w.opening;
          named = w.named;
          few = w.few;
          brought = w.brought;
          assumed = record { few = omega (arith, room, length-append b.assumptions (a ∷ [])); each = order_more (limits_of version) b.opened b.start b.channels b.journals [] b.assumptions a w.assumed.each wide fits follows may };
        };
      };
    }

done_keeps_in : (due : Due) (version : Version) (tables : List Table) (rows : List TableRow) (b : BundleValue) (old : List BundleLine) (channel : Option BundleChannel) (draft : Standing) → Till due version rows b old → KeepsBundle due old (Own Done) (state parts.Ended due version tables b channel draft)
done_keeps_in due version tables rows b old channel draft f = record {
  rows = rows;
  same_due = refl;
  says = sym (append_assoc (front version rows b) (assumption_lines b.assumptions) (Own Done ∷ [])) ∙ ap (λ (ls : List BundleLine). ls ++ Own Done ∷ []) (sym f.lines);
  sound = f.whole;
}

-- ---- what a line of its own makes, or why it is not taken

opening_cause : (s : BundleStanding) (line : List ℕ) (r : TableRow) → ParsesAsLine (own_wording s) line (Puts r) → is_image_writable (limits_of s.version) r.row ≡ true → (c : Cause) → (with_opening (after_tables s).bundle.start r ≡ Err c) × IsSchema c → HasCauseBy (own_wording s) line c
opening_cause s line r k writable causes.Schema e = (Puts r, k, λ long. (let m = sym long ∙ writable in cc), λ rows h. (let m = sym h ∙ e.0 in cc))
opening_cause s line r k writable c e = absurd e.1

puts_both : (s : BundleStanding) (line : List ℕ) (r : TableRow) (P : BundleStanding → Type 0) → ParsesAsLine (own_wording s) line (Puts r)
    → (is_image_writable (limits_of s.version) r.row ≡ true → (rows : Rows) → with_opening (after_tables s).bundle.start r ≡ Ok rows → P (with_put (after_tables s) rows)) → MatchResult (own_put s (Puts r)) P (HasCauseBy (own_wording s) line)
unfolding own_put put_row
puts_both s line r P k more =
    let put = with_opening (after_tables s).bundle.start r in
    if_both P (HasCauseBy (own_wording s) line) (is_image_writable (limits_of s.version) r.row) _ _
    (λ writable. then_both P (HasCauseBy (own_wording s) line) put _
    (MatchResult-weaker put (known_both put _ _ (put_both (after_tables s).bundle.start r)) (λ rows e. e.0) (opening_cause s line r k writable)) (more writable))
    (λ long. (Puts r, k, long))

opens_both : (s : BundleStanding) (line : List ℕ) (c : BundleChannel) (P : BundleStanding → Type 0) → ParsesAsLine (own_wording s) line (Opens c)
    → (length s.bundle.channels < 256 → has_channel s.bundle.channels c.name ≡ false → P (record (after_tables s) { part = parts.Journal; channel = Some c; draft = empty (Only s.version) })) → MatchResult (join_channel s c) P (HasCauseBy (own_wording s) line)
unfolding join_channel
opens_both s line c P k more =
    if_both P (HasCauseBy (own_wording s) line) (leb 256 (length s.bundle.channels)) _ _ (λ full. (Opens c, k, leb-true 256 (length s.bundle.channels) full))
    (λ room. if_both P (HasCauseBy (own_wording s) line) (has_channel s.bundle.channels c.name) _ _ (λ again. (Opens c, k, λ full. (let m = sym (le-leb 256 (length s.bundle.channels) full) ∙ room in cc), again))
    (λ new. more (leb-false 256 (length s.bundle.channels) room) new))

wide_of : (version : Version) → has_references version ≡ true → IsWide (limits_of version)
wide_of Three e = tt
wide_of version e = absurd cc

refers_cause : (s : BundleStanding) (line : List ℕ) (shape : ReferenceShape) → ParsesAsLine (own_wording s) line (Refers shape) → leb most_references (length (after_tables s).bundle.references) ≡ false → (c : Cause) → IsSchema c × RefersWrongly (limits_of s.version) (after_tables s).bundle.start.schema shape → HasCauseBy (own_wording s) line c
refers_cause s line shape k room causes.Schema h = (Refers shape, k, λ full. (let m = sym (le-leb most_references (length (after_tables s).bundle.references) full) ∙ room in cc), h.1)
refers_cause s line shape k room c h = absurd h.0

-- a reference that may come, or why none may
refers_there : (s : BundleStanding) (line : List ℕ) (shape : ReferenceShape) (P : BundleStanding → Type 0) → ParsesAsLine (own_wording s) line (Refers shape) → has_references s.version ≡ true → AreAdded (limits_of s.version) [] (after_tables s).bundle.start.schema
    → (length (after_tables s).bundle.references < most_references → (r : Reference) → ReferenceMade (limits_of s.version) (after_tables s).bundle.start.schema shape r → P (record (after_tables s) { part = parts.References; bundle = with_reference (after_tables s).bundle r }))
    → MatchResult (own_put s (Refers shape)) P (HasCauseBy (own_wording s) line)
unfolding own_put put_reference
refers_there s line shape P k is added more =
    let b = (after_tables s).bundle in
    let limits = limits_of s.version in
    let Caused = HasCauseBy (own_wording s) line in
    let full = leb most_references (length b.references) in
    then_both P Caused (cond full (Err causes.Limit) (reference_to b.start.schema shape)) _
    (if_both (λ r. (full ≡ false) × ReferenceMade limits b.start.schema shape r) Caused full _ _ (λ passed. (Refers shape, k, leb-true most_references (length b.references) passed))
    (λ room. MatchResult-weaker (reference_to b.start.schema shape) (refers_both limits b.start.schema shape (wide_of s.version is) added k.fits) (λ r m. (room, m)) (refers_cause s line shape k room)))
    (λ r m. more (leb-false most_references (length b.references) m.0) r m.1)

-- an assumption that may come, or why it may not
assumes_there : (s : BundleStanding) (line : List ℕ) (a : Assumption) (P : BundleStanding → Type 0) → ParsesAsLine (own_wording s) line (Assumes a)
    → (length (after_tables s).bundle.assumptions < most_assumptions → may_assume (after_tables s).bundle.opened (after_tables s).bundle.start (after_tables s).bundle.channels (after_tables s).bundle.journals a ≡ true → P (record (after_tables s) { part = parts.Assumptions; bundle = with_assumption (after_tables s).bundle a }))
    → MatchResult (own_put s (Assumes a)) P (HasCauseBy (own_wording s) line)
unfolding own_put put_assumption
assumes_there s line a P k more =
    let b = (after_tables s).bundle in
    let Caused = HasCauseBy (own_wording s) line in
    if_both P Caused (leb most_assumptions (length b.assumptions)) _ _ (λ full. (Assumes a, k, leb-true most_assumptions (length b.assumptions) full))
    (λ room. if_both P Caused (may_assume b.opened b.start b.channels b.journals a) _ _ (λ may. more (leb-false most_assumptions (length b.assumptions) room) may)
    (λ no. (Assumes a, k, λ full. (let m = sym (le-leb most_assumptions (length b.assumptions) full) ∙ room in cc), no)))

table_cause : (s : BundleStanding) (line : List ℕ) (shape : Shape) → ParsesAsLine (own_wording s) line (Has shape) → (c : Cause) → TableErr (limits_of s.version) s.tables shape c → HasCauseBy (own_wording s) line c
unfolding TableErr
table_cause s line shape k causes.Limit h = (Has shape, k, h)
table_cause s line shape k causes.Schema h = (Has shape, k, h.0, h.1)
table_cause s line shape k c h = absurd h

-- a line of its own, at its place
pub keeps_own : (part : Part) (due : Due) (version : Version) (tables : List Table) (rows : List TableRow) (b : BundleValue) (channel : Option BundleChannel) (draft : Standing) (line : List ℕ) (l : OwnLine)
    → SoundAt part due version tables rows b channel draft → is_due_in version part (own_word l) ≡ true → ParsesAsLine (own_wording (state part due version tables b channel draft)) line l
    → MatchResult (own_put (state part due version tables b channel draft) l) (KeepsBundle due (bundle_lines_so_far rows (state part due version tables b channel draft)) (Own l)) (HasCauseBy (own_wording (state part due version tables b channel draft)) line)
unfolding own_put
keeps_own parts.Header due version tables rows b channel draft line (Heads v) h is k = record { rows = []; same_due = refl; says = refl; sound = record { due_version = k.fits; none = h } }
keeps_own parts.Replica due One tables rows b channel draft line (Names id) h is k = record {
  rows = [];
  same_due = refl;
  says = ap (λ (ts : List Table). tables_lines One id set.empty ts) h.none;
  sound = record { due_version = h.due_version; replica = k.fits; opened = refl; added = subst (AreAdded (limits_of One) []) (sym h.none) tt };
}
keeps_own parts.Replica due Two tables rows b channel draft line (Names id) h is k = record { rows = []; same_due = refl; says = refl; sound = (h, refl, k.fits) }
keeps_own parts.Replica due Three tables rows b channel draft line (Names id) h is k = record { rows = []; same_due = refl; says = refl; sound = (h, refl, k.fits) }
keeps_own parts.Opening due One tables rows b channel draft line (Starts p) h is k = absurd (let n = h.1 in cc)
keeps_own parts.Opening due Two tables rows b channel draft line (Starts p) h is k = record {
  rows = [];
  same_due = refl;
  says = ap (λ (ts : List Table). tables_lines Two b.replica p ts) h.0.none;
  sound = record { due_version = h.0.due_version; replica = h.2; opened = k.fits; added = subst (AreAdded (limits_of Two) []) (sym h.0.none) tt };
}
keeps_own parts.Opening due Three tables rows b channel draft line (Starts p) h is k = record {
  rows = [];
  same_due = refl;
  says = ap (λ (ts : List Table). tables_lines Three b.replica p ts) h.0.none;
  sound = record { due_version = h.0.due_version; replica = h.2; opened = k.fits; added = subst (AreAdded (limits_of Three) []) (sym h.0.none) tt };
}
keeps_own parts.Tables due version tables rows b channel draft line (Has shape) h is k =
    let s = state parts.Tables due version tables b channel draft in
    let before = Own (Heads version) ∷ Own (Names b.replica) ∷ opening_set_lines version b.opened in
    then_both _ _ (with_table (limits_of version) tables shape) _ (MatchResult-weaker (with_table (limits_of version) tables shape) (with_both (limits_of version) tables shape k.fits) (λ ts f. f) (table_cause s line shape k))
    (λ ts f. subst (λ (x : List Table). KeepsBundle due (tables_lines version b.replica b.opened tables) (Own (Has shape)) (state parts.Tables due version x b channel draft)) f.after (record {
      rows = [];
      same_due = refl;
      says = ap (λ (ls : List BundleLine). before ++ ls) (map_push (λ x. Own (Has (shape_for x))) tables f.table ∙ ap (λ (x : Shape). table_lines tables ++ Own (Has x) ∷ []) (sym f.shape)) ∙ sym (append_assoc before (table_lines tables) (Own (Has shape) ∷ []));
      sound = record { due_version = h.due_version; replica = h.replica; opened = h.opened; added = added_more (limits_of version) [] tables f.table h.added f.fits f.free };
    }))
keeps_own parts.Tables due version tables rows b channel draft line (Puts r) h is k =
    puts_both (state parts.Tables due version tables b channel draft) line r _ k (λ writable new put. row_keeps_in due version [] [] (bare b.replica b.opened tables) r channel draft (tables_lines version b.replica b.opened tables) new (front_of due version tables b h) (record { channels = refl; journals = refl; assumptions = refl }) k.fits writable put)
keeps_own parts.Tables due version tables rows b channel draft line (Refers shape) h is k =
    refers_there (state parts.Tables due version tables b channel draft) line shape _ k is h.added (λ room r made. reference_keeps_in due version [] (bare b.replica b.opened tables) shape r channel draft (tables_lines version b.replica b.opened tables) (front_of due version tables b h) (record { channels = refl; journals = refl; assumptions = refl }) room made)
keeps_own parts.Tables due version tables rows b channel draft line (Opens c) h is k =
    opens_both (state parts.Tables due version tables b channel draft) line c _ k (λ room new. open_keeps_in due version [] [] (bare b.replica b.opened tables) c (tables_lines version b.replica b.opened tables) (front_of due version tables b h) k.fits (omega arith) refl)
keeps_own parts.Tables due version tables rows b channel draft line (Assumes a) h is k =
    let bare_b = bare b.replica b.opened tables in
    let before = tables_lines version b.replica b.opened tables in
    assumes_there (state parts.Tables due version tables b channel draft) line a _ k (λ room may. assumption_keeps_in due version [] [] bare_b a channel draft before (till due version [] bare_b before (front_of due version tables b h)) (wide_of version is) k.fits.0 k.fits.1 room may)
keeps_own parts.Tables due version tables rows b channel draft line Done h is k =
    let bare_b = bare b.replica b.opened tables in
    let before = tables_lines version b.replica b.opened tables in
    done_keeps_in due version [] [] bare_b before channel draft (till due version [] bare_b before (front_of due version tables b h))
keeps_own parts.References due version tables rows b channel draft line (Refers shape) h is k =
    let old = front version rows b in
    let f : Front due version [] b old = subst (λ (rs : List TableRow). Front due version rs b old) h.2 (record { whole = h.0; lines = refl; assumptions = h.1.assumptions }) in
    refers_there (state parts.References due version tables b channel draft) line shape _ k is h.0.written.tables (λ room r made. reference_keeps_in due version tables b shape r channel draft old f h.1 room made)
keeps_own parts.References due version tables rows b channel draft line (Puts r) h is k =
    puts_both (state parts.References due version tables b channel draft) line r _ k (λ writable new put. row_keeps_in due version tables rows b r channel draft (front version rows b) new (record { whole = h.0; lines = refl; assumptions = h.1.assumptions }) h.1 k.fits writable put)
keeps_own parts.References due version tables rows b channel draft line (Opens c) h is k =
    opens_both (state parts.References due version tables b channel draft) line c _ k (λ room new. open_keeps_in due version tables rows b c (front version rows b) (record { whole = h.0; lines = refl; assumptions = h.1.assumptions }) k.fits room new)
keeps_own parts.References due version tables rows b channel draft line (Assumes a) h is k =
    assumes_there (state parts.References due version tables b channel draft) line a _ k (λ room may. assumption_keeps_in due version tables rows b a channel draft (front version rows b) (till due version rows b (front version rows b) (record { whole = h.0; lines = refl; assumptions = h.1.assumptions })) (wide_of version is) k.fits.0 k.fits.1 room may)
keeps_own parts.References due version tables rows b channel draft line Done h is k = done_keeps_in due version tables rows b (front version rows b) channel draft (till due version rows b (front version rows b) (record { whole = h.0; lines = refl; assumptions = h.1.assumptions }))
keeps_own parts.Rows due version tables rows b channel draft line (Puts r) h is k =
    puts_both (state parts.Rows due version tables b channel draft) line r _ k (λ writable new put. row_keeps_in due version tables rows b r channel draft (front version rows b) new (record { whole = h.0; lines = refl; assumptions = h.1.assumptions }) h.1 k.fits writable put)
keeps_own parts.Rows due version tables rows b channel draft line (Opens c) h is k =
    opens_both (state parts.Rows due version tables b channel draft) line c _ k (λ room new. open_keeps_in due version tables rows b c (front version rows b) (record { whole = h.0; lines = refl; assumptions = h.1.assumptions }) k.fits room new)
keeps_own parts.Rows due version tables rows b channel draft line (Assumes a) h is k =
    assumes_there (state parts.Rows due version tables b channel draft) line a _ k (λ room may. assumption_keeps_in due version tables rows b a channel draft (front version rows b) (till due version rows b (front version rows b) (record { whole = h.0; lines = refl; assumptions = h.1.assumptions })) (wide_of version is) k.fits.0 k.fits.1 room may)
keeps_own parts.Rows due version tables rows b channel draft line Done h is k = done_keeps_in due version tables rows b (front version rows b) channel draft (till due version rows b (front version rows b) (record { whole = h.0; lines = refl; assumptions = h.1.assumptions }))
keeps_own parts.Channels due version tables rows b channel draft line (Opens c) h is k =
    opens_both (state parts.Channels due version tables b channel draft) line c _ k (λ room new. open_keeps_in due version tables rows b c (front version rows b) (record { whole = h.0; lines = refl; assumptions = h.1 }) k.fits room new)
keeps_own parts.Channels due version tables rows b channel draft line (Assumes a) h is k =
    assumes_there (state parts.Channels due version tables b channel draft) line a _ k (λ room may. assumption_keeps_in due version tables rows b a channel draft (front version rows b) (till due version rows b (front version rows b) (record { whole = h.0; lines = refl; assumptions = h.1 })) (wide_of version is) k.fits.0 k.fits.1 room may)
keeps_own parts.Channels due version tables rows b channel draft line Done h is k = done_keeps_in due version tables rows b (front version rows b) channel draft (till due version rows b (front version rows b) (record { whole = h.0; lines = refl; assumptions = h.1 }))
keeps_own parts.Assumptions due version tables rows b channel draft line (Assumes a) h is k =
    assumes_there (state parts.Assumptions due version tables b channel draft) line a _ k (λ room may. assumption_keeps_in due version tables rows b a channel draft (front version rows b ++ assumption_lines b.assumptions) (record { whole = h; lines = refl }) (wide_of version is) k.fits.0 k.fits.1 room may)
keeps_own parts.Assumptions due version tables rows b channel draft line Done h is k = done_keeps_in due version tables rows b (front version rows b ++ assumption_lines b.assumptions) channel draft (record { whole = h; lines = refl })
keeps_own part due version tables rows b channel draft line l h is k = absurd cc
