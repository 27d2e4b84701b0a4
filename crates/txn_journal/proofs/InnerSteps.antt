-- Lines of the journal that is open in a bundle, step by step.
use Rattle.std.proofs.Common.{◌≡◌, ℕ, inl, Bool, true, false, not, cond, eqb, List, [], Option, Some, Result, Ok, Err, refl, sym, ap, subst, ◌∙◌, arith}
use Rattle.std.specs.Prelude.{MatchResult, ◌&&◌, codes}
use Rattle.std.specs.Str.{bytes_eq}
use Rattle.std.proofs.lemmas.Bool.{and_parts, eqb-true, eq-eqb}
use Rattle.std.proofs.lemmas.Result.{MatchResult-weaker, MatchResult-at_ok}
use Rattle.std.proofs.lemmas.Slice.Eq.{bytes_eq-Decides}
use Rattle.gtid_set.specs.Full.{IsMemoryOr}
use Rattle.gtid_set.proofs.FaultLemmas.{fault_map}
use Rattle.rows.specs.declared.schema.Table.{Table}
use Rattle.journal.specs.declared.Entry.{Entry}
use Rattle.logical_timestamps.specs.Writers.{Writers, writers_after}
use Rattle.txn_journal.specs.Writers.{AreWriters}
use Rattle.txn_journal.specs.Due.{is_due}
use Rattle.txn_journal.specs.Lines.{◌>>=◌}
use Rattle.txn_journal.specs.Machine.{Standing, is_last, is_within, IsFull, open_entry, join_entry, close_entry, judge}
use Rattle.txn_journal.specs.Reading.{has_begun}
use Rattle.txn_journal.specs.Spelling.{Line, Header, Previous, Begin, Makes, End, Close, line_text}
use Rattle.txn_journal.specs.Stamps.{right_stamp}
use Rattle.txn_journal.specs.Stream.{GivesFull, TakesLine}
use Rattle.txn_journal.specs.BundleStates.{BundleStanding, IsFullBundle, close_channel, after_inner, is_misstamped, unless_misstamped, end_entry, judge_inner}
use Rattle.txn_journal.specs.Wordings.{ParsesAsLine}
use Rattle.txn_journal.specs.Causes.{word_for, wording, HasCause}
use Rattle.txn_journal.specs.declared.fault.Cause.{Cause}
use Rattle.txn_journal.specs.declared.fault.Cause.TheVariants as causes
use Rattle.txn_journal.specs.declared.fault.LineFault.{LineFault}
use Rattle.txn_journal.specs.declared.fault.LineFault.TheVariants as wrong
use Rattle.txn_journal.specs.declared.lines.LinePlace.{LinePlace}
use Rattle.txn_journal.specs.declared.lines.LinePlace.TheVariants as places
use Rattle.txn_journal.specs.declared.lines.Version.{Version}
use Rattle.gtid_set.specs.declared.fault.SetFault.{SetFault}
use Rattle.gtid_set.specs.declared.fault.SetFault.TheVariants.{PoolFull, SourcesFull}
use Rattle.txn_journal.proofs.Judged.{done, ok_is}
use Rattle.txn_journal.proofs.WordLaws.{judged_both}
use Rattle.txn_journal.proofs.LineReads.{body_of, put, judge_reads, rest_laws}
use Rattle.txn_journal.proofs.SoundLines.{begin_both, add_both}
use Rattle.txn_journal.proofs.JournalLaws.{spelled_judged}

-- ---- what a line makes of the entries

-- the entries are the same, and so is whether one is open
record SameOpen (s t : Standing) : Type 0 where
  entries : t.journal.entries ≡ s.journal.entries
  place : t.place ≡ s.place

abbrev Makes_of : Line → Standing → Standing → Type 0
Makes_of End s t = Unit {0}
Makes_of (Previous p) s t = Unit {0}
Makes_of (Makes c) s t = SameOpen s t
Makes_of _ s t = t.journal.entries ≡ s.journal.entries

put_makes : (schema : Option (List Table)) (s : Standing) (line : List ℕ) (l : Line) → ParsesAsLine (wording schema s) line l → MatchResult (put schema s l) (Makes_of l s) (HasCause schema s line)
unfolding put
put_makes schema s line (Header v) h = refl
put_makes schema s line (Previous p) h = tt
put_makes schema s line (Begin g numbers) h = begin_both schema s line g numbers (Makes_of (Begin g numbers) s) h (λ number room stamp e unseen. refl)
put_makes schema s line (Makes c) h = add_both schema s line c (Makes_of (Makes c) s) h (λ room writable taken. record { entries = refl; place = refl })
put_makes schema s line End h = tt
put_makes schema s line Close h = refl

record LineMakes (schema : Option (List Table)) (s : Standing) (line : List ℕ) (t : Standing) : Type 0 where
  l : Line
  text : line ≡ line_text l
  due : is_due s.place (word_for l) ≡ true
  makes : Makes_of l s t

judged_makes : (schema : Option (List Table)) (s : Standing) (line : List ℕ) → MatchResult (judge schema s line) (LineMakes schema s line) (HasCause schema s line)
judged_makes schema s line =
    rw (judge_reads schema s line) (judged_both (wording schema s) (body_of s.due s.version) (rest_laws schema s) (LineMakes schema s line) (put schema s) line
    (λ l k. MatchResult-weaker (put schema s l) (put_makes schema s line l k) (λ t m. record { l = l; text = k.text; due = k.due; makes = m }) (λ c m. m)))

-- the line that ends an entry, where one is open
abbrev pub ends : LinePlace → List ℕ → Bool
ends place line = is_within place && bytes_eq line (codes "end")

no_end : (place : LinePlace) (line : List ℕ) → line ≡ line_text End → is_due place (word_for End) ≡ true → ends place line ≡ true
no_end places.Within line text due = (bytes_eq-Decides line (codes "end")).1 text
no_end place line text due = absurd cc

not_misstamped : (version : Version) (tables : List Table) (s t : Standing) (line : List ℕ) (l : Line) → line ≡ line_text l → is_due s.place (word_for l) ≡ true → Makes_of l s t → ends s.place line ≡ false → (within : Bool) → is_within s.place ≡ within → is_misstamped version tables s t ≡ false
not_misstamped version tables s t line l text due makes none false out = ap (λ (b : Bool). b && (not (is_within t.place) && not (eqb s.stamp (right_stamp version tables s.journal.entries (open_entry s))))) out
not_misstamped version tables s t line (Makes c) text due makes none true within =
    let open_still : is_within t.place ≡ true = ap is_within makes.place ∙ within in
    (λ i. within i && (not (open_still i) && not (eqb s.stamp (right_stamp version tables s.journal.entries (open_entry s)))))
not_misstamped version tables s t line End text due makes none true within = absurd (let k = sym (no_end s.place line text due) ∙ none in cc)
not_misstamped version tables s t line (Header v) text due makes none true within = absurd (apart s.place within due)
  where
    apart : (place : LinePlace) → is_within place ≡ true → is_due place (word_for (Header v)) ≡ true → ⊥
    apart place a b = grind arith
not_misstamped version tables s t line (Previous p) text due makes none true within = absurd (apart s.place within due)
  where
    apart : (place : LinePlace) → is_within place ≡ true → is_due place (word_for (Previous p)) ≡ true → ⊥
    apart place a b = grind arith
not_misstamped version tables s t line (Begin g n) text due makes none true within = absurd (apart s.place within due)
  where
    apart : (place : LinePlace) → is_within place ≡ true → is_due place (word_for (Begin g n)) ≡ true → ⊥
    apart place a b = grind arith
not_misstamped version tables s t line Close text due makes none true within = absurd (apart s.place within due)
  where
    apart : (place : LinePlace) → is_within place ≡ true → is_due place (word_for Close) ≡ true → ⊥
    apart place a b = grind arith

same_of : (s t : Standing) (line : List ℕ) (l : Line) → line ≡ line_text l → is_due s.place (word_for l) ≡ true → Makes_of l s t → ends s.place line ≡ false → has_begun s.place ≡ true → t.journal.entries ≡ s.journal.entries
same_of s t line (Header v) text due makes none begun = makes
same_of s t line (Previous p) text due makes none begun = absurd (apart s.place begun due)
  where
    apart : (place : LinePlace) → has_begun place ≡ true → is_due place (word_for (Previous p)) ≡ true → ⊥
    apart place a b = grind arith
same_of s t line (Begin g n) text due makes none begun = makes
same_of s t line (Makes c) text due makes none begun = makes.entries
same_of s t line End text due makes none begun = absurd (let k = sym (no_end s.place line text due) ∙ none in cc)
same_of s t line Close text due makes none begun = makes

-- what a line that ends no entry leaves
pub record LeavesEntries (version : Version) (tables : List Table) (s t : Standing) : Type 0 where
  pub fits : is_misstamped version tables s t ≡ false
  pub same : has_begun s.place ≡ true → t.journal.entries ≡ s.journal.entries

leaves_of : (version : Version) (tables : List Table) (s : Standing) (line : List ℕ) → ends s.place line ≡ false → MatchResult (judge (Some tables) s line) (LeavesEntries version tables s) (HasCause (Some tables) s line)
leaves_of version tables s line none = MatchResult-weaker (judge (Some tables) s line) (judged_makes (Some tables) s line)
    (λ t k. record { fits = not_misstamped version tables s t line k.l k.text k.due k.makes none (is_within s.place) refl; same = same_of s t line k.l k.text k.due k.makes none })
    (λ c k. k)

pub leaves_entries : (version : Version) (tables : List Table) (s t : Standing) (line : List ℕ) → ends s.place line ≡ false → judge (Some tables) s line ≡ Ok t → LeavesEntries version tables s t
leaves_entries version tables s t line none e = MatchResult-at_ok (LeavesEntries version tables s) (HasCause (Some tables) s line) t e (leaves_of version tables s line none)

-- the table of last writers, where it was kept, is still that of the entries
pub writers_stay : (version : Version) (tables : List Table) (s t : Standing) (line : List ℕ) (kept : Option Writers) → ends s.place line ≡ false → judge (Some tables) s line ≡ Ok t → has_begun s.place ≡ true → AreWriters tables s.journal.entries kept → AreWriters tables t.journal.entries kept
writers_stay version tables s t line kept none e begun h writers is = h writers is ∙ ap (writers_after tables) (sym ((leaves_entries version tables s t line none e).same begun))

-- so it is where a line was taken or left
pub writers_left : (version : Version) (tables : List Table) (s t : Standing) (line : List ℕ) (kept : Option Writers) (taken : Bool) → ends s.place line ≡ false → (taken ≡ true → judge (Some tables) s line ≡ Ok t) → (taken ≡ false → t ≡ s) → has_begun s.place ≡ true
    → AreWriters tables s.journal.entries kept → AreWriters tables t.journal.entries kept
writers_left version tables s t line kept true none made left begun h = writers_stay version tables s t line kept none (made refl) begun h
writers_left version tables s t line kept false none made left begun h = λ writers is. h writers is ∙ ap (λ (d : Standing). writers_after tables d.journal.entries) (sym (left refl))

-- ---- a line that ends no entry

abbrev pub ended_or_not : BundleStanding → Standing → Bool → BundleStanding
ended_or_not s d v = cond v (close_channel s d) (record s { draft = d })

inner_again : (s : BundleStanding) (d : Standing) (v : Bool) → ended_or_not (record s { draft = d }) d v ≡ ended_or_not s d v
inner_again s d true = refl
inner_again s d false = refl

abbrev pub go_on : BundleStanding → Standing → Result BundleStanding Cause
go_on s d = done (after_inner s d)

pub judged_on : (s : BundleStanding) (d : Standing) (line : List ℕ) → ends s.draft.place line ≡ false → judge (Some s.bundle.start.schema) s.draft line ≡ Ok d → judge_inner true s line ≡ go_on s d
unfolding judge_inner
judged_on s d line none e =
    ap (λ (r : Result Standing Cause). r >>= unless_misstamped true s) e
    ∙ ap (λ (b : Bool). cond b (Err causes.Stamp) (go_on s d)) (leaves_entries s.version s.bundle.start.schema s.draft d line none e).fits

pub inner_taken : (s : BundleStanding) (tables : List Table) (d : Standing) (line : List ℕ) (r : Result (Unit {0}) LineFault) (new : BundleStanding) → ends s.draft.place line ≡ false → tables ≡ s.bundle.start.schema → judge (Some tables) s.draft line ≡ Ok d
    → TakesLine IsFullBundle r (Ok (after_inner (record s { draft = d }) d)) new → TakesLine IsFullBundle r (judge_inner true s line) new
unfolding after_inner
inner_taken s tables d line r new none same judged h =
    let taken : judge (Some s.bundle.start.schema) s.draft line ≡ Ok d = ap (λ (t : List Table). judge (Some t) s.draft line) (sym same) ∙ judged in
    subst (λ (x : Result BundleStanding Cause). TakesLine IsFullBundle r x new) (sym (judged_on s d line none taken ∙ ap done (sym (inner_again s d (is_last d.place))))) h

-- a line after which an entry is open
pub plain_taken : (s : BundleStanding) (tables : List Table) (d : Standing) (line : List ℕ) → ends s.draft.place line ≡ false → tables ≡ s.bundle.start.schema → judge (Some tables) s.draft line ≡ Ok d → d.place ≡ places.Within
    → judge_inner true s line ≡ done (record s { draft = d })
unfolding after_inner
plain_taken s tables d line none same judged within =
    let taken : judge (Some s.bundle.start.schema) s.draft line ≡ Ok d = ap (λ (t : List Table). judge (Some t) s.draft line) (sym same) ∙ judged in
    judged_on s d line none taken ∙ ap (λ (v : Bool). done (ended_or_not s d v)) (ap is_last within)

inner_full : (cause : SetFault) (s : BundleStanding) (line : List ℕ) (r : Result Standing Cause) → judge (Some s.bundle.start.schema) s.draft line ≡ r → ends s.draft.place line ≡ false → GivesFull (IsFull cause) r → GivesFull (IsFullBundle cause) (judge_inner true s line)
unfolding after_inner
inner_full cause s line (Ok d) e none h =
    let open_still : after_inner s d ≡ record s { draft = d } = ap (λ (v : Bool). ended_or_not s d v) (ap is_last h.0) in
    subst (GivesFull (IsFullBundle cause)) (sym (judged_on s d line none e ∙ ap done open_still)) (inl h)
inner_full cause s line (Err x) e none h = absurd h

-- a line of the open journal that is not taken is none of the bundle's
pub inner_failed : (s : BundleStanding) (tables : List Table) (d : Standing) (line : List ℕ) (fault : LineFault) (new : BundleStanding) → ends s.draft.place line ≡ false → tables ≡ s.bundle.start.schema
    → TakesLine IsFull (Err fault) (judge (Some tables) s.draft line) d → TakesLine IsFullBundle (Err fault) (judge_inner true s line) new
unfolding judge_inner
inner_failed s tables d line (wrong.Wrong cause) new none same h =
    ap (λ (r : Result Standing Cause). r >>= unless_misstamped true s) (ap (λ (t : List Table). judge (Some t) s.draft line) (sym same) ∙ h)
inner_failed s tables d line (wrong.Set f) new none same h =
    fault_map f (inner_full SourcesFull s line (judge (Some s.bundle.start.schema) s.draft line) refl none) (inner_full PoolFull s line (judge (Some s.bundle.start.schema) s.draft line) refl none)
    (subst (λ (t : List Table). IsMemoryOr (GivesFull (IsFull SourcesFull) (judge (Some t) s.draft line)) (GivesFull (IsFull PoolFull) (judge (Some t) s.draft line)) f) same h)

-- ---- the line that ends an entry

within_is : (place : LinePlace) → is_within place ≡ true → place ≡ places.Within
within_is places.Within e = refl
within_is place e = absurd cc

ended_by : (s : BundleStanding) (b : Bool) → is_within s.draft.place ≡ true → eqb s.draft.stamp (right_stamp s.version s.bundle.start.schema s.draft.journal.entries (open_entry s.draft)) ≡ b
    → unless_misstamped true s (close_entry s.draft) ≡ cond b (done (record s { draft = close_entry s.draft })) (Err causes.Stamp)
unfolding after_inner
ended_by s true within e = (λ i. cond (within i && not (e i)) (Err causes.Stamp) (done (record s { draft = close_entry s.draft })))
ended_by s false within e = (λ i. cond (within i && not (e i)) (Err causes.Stamp) (done (record s { draft = close_entry s.draft })))

pub ends_is : (s : BundleStanding) (line : List ℕ) → ends s.draft.place line ≡ true → judge_inner true s line ≡ end_entry s
unfolding judge_inner end_entry put
ends_is s line e =
    let p = and_parts (is_within s.draft.place) (bytes_eq line (codes "end")) e in
    let text : line ≡ line_text End = (bytes_eq-Decides line (codes "end")).0 p.1 in
    let due : is_due s.draft.place (word_for End) ≡ true = ap (λ (x : LinePlace). is_due x (word_for End)) (within_is s.draft.place p.0) in
    let schema = Some s.bundle.start.schema in
    let judged : judge schema s.draft line ≡ Ok (close_entry s.draft) = ap (judge schema s.draft) text ∙ spelled_judged schema s.draft (close_entry s.draft) End due (record { words = tt; images = tt; of_version = tt }) refl in
    ap (λ (r : Result Standing Cause). r >>= unless_misstamped true s) judged ∙ ended_by s (eqb s.draft.stamp (right_stamp s.version s.bundle.start.schema s.draft.journal.entries (open_entry s.draft))) p.0 refl

abbrev right_of : BundleStanding → Entry → ℕ
right_of s e = right_stamp s.version s.bundle.start.schema s.draft.journal.entries e

-- an entry of which the draft has let go, the number that it has to have, and the one that it has
pub record AtEnd (s call t : BundleStanding) (e : Entry) (right written : ℕ) : Type 0 where
  pub called : call ≡ record s { draft = record s.draft { changes = [] } }
  pub left : t ≡ call
  pub entry : e ≡ open_entry s.draft
  pub is_right : right ≡ right_of call e
  pub is_written : written ≡ t.draft.stamp

the_written : (s call t : BundleStanding) (e : Entry) (right written : ℕ) → AtEnd s call t e right written → written ≡ s.draft.stamp
the_written s call t e right written h = h.is_written ∙ ap (λ (x : BundleStanding). x.draft.stamp) (h.left ∙ h.called)

the_right : (s call t : BundleStanding) (e : Entry) (right written : ℕ) → AtEnd s call t e right written → right ≡ right_of s (open_entry s.draft)
the_right s call t e right written h = h.is_right ∙ (λ i. right_of (h.called i) (h.entry i))

pub ends_wrong : (s call t : BundleStanding) (e : Entry) (right written : ℕ) → AtEnd s call t e right written → (written ≡ right → ⊥) → end_entry s ≡ Err causes.Stamp
unfolding end_entry
ends_wrong s call t e right written h differ =
    elim (eqb s.draft.stamp (right_of s (open_entry s.draft))) as (λ b. eqb s.draft.stamp (right_of s (open_entry s.draft)) ≡ b → cond b (done (record s { draft = close_entry s.draft })) (Err causes.Stamp) ≡ Err causes.Stamp) [
      | true ↦ λ k. absurd (differ (the_written s call t e right written h ∙ eqb-true s.draft.stamp (right_of s (open_entry s.draft)) k ∙ sym (the_right s call t e right written h)))
      | false ↦ λ k. refl
    ] refl

ends_right : (s call t : BundleStanding) (e : Entry) (right written : ℕ) → AtEnd s call t e right written → written ≡ right → end_entry s ≡ done (record s { draft = close_entry s.draft })
unfolding end_entry
ends_right s call t e right written h same =
    let is : s.draft.stamp ≡ right_of s (open_entry s.draft) = sym (the_written s call t e right written h) ∙ same ∙ the_right s call t e right written h in
    ap (λ (b : Bool). cond b (done (record s { draft = close_entry s.draft })) (Err causes.Stamp)) (eq-eqb s.draft.stamp (right_of s (open_entry s.draft)) is)

abbrev done_draft : Standing → Result Standing Cause
done_draft d = Ok d

pub ends_well : (s call t : BundleStanding) (e : Entry) (right written : ℕ) (d : Standing) → AtEnd s call t e right written → written ≡ right → done_draft (join_entry t.draft e) ≡ Ok d → end_entry s ≡ Ok (record t { draft = d })
ends_well s call t e right written d h same joins =
    let is : join_entry t.draft e ≡ d = ok_is (join_entry t.draft e) d joins in
    let t_is : t ≡ record s { draft = record s.draft { changes = [] } } = h.left ∙ h.called in
    ends_right s call t e right written h same
    ∙ (λ i. done (record (sym t_is i) { draft = join_entry (sym t_is i).draft (sym h.entry i) }))
    ∙ ap (λ (x : Standing). done (record t { draft = x })) is

pub ends_full : (s call t : BundleStanding) (e : Entry) (right written : ℕ) (f : SetFault) → AtEnd s call t e right written → written ≡ right → IsMemoryOr (GivesFull (IsFull SourcesFull) (done_draft (join_entry t.draft e))) (GivesFull (IsFull PoolFull) (done_draft (join_entry t.draft e))) f
    → IsMemoryOr (GivesFull (IsFullBundle SourcesFull) (end_entry s)) (GivesFull (IsFullBundle PoolFull) (end_entry s)) f
ends_full s call t e right written f h same full =
    let t_is : t ≡ record s { draft = record s.draft { changes = [] } } = h.left ∙ h.called in
    let joined_is : join_entry t.draft e ≡ close_entry s.draft = λ i. join_entry (t_is i).draft (h.entry i) in
    fault_map f (λ k. subst (GivesFull (IsFullBundle SourcesFull)) (sym (ends_right s call t e right written h same)) (inl (subst (IsFull SourcesFull) joined_is k)))
    (λ k. subst (GivesFull (IsFullBundle PoolFull)) (sym (ends_right s call t e right written h same)) (inl (subst (IsFull PoolFull) joined_is k))) full

pub ends_failed : (s call t new : BundleStanding) (e : Entry) (right written : ℕ) (d : Standing) (fault : LineFault) → AtEnd s call t e right written → written ≡ right → TakesLine IsFull (Err fault) (done_draft (join_entry t.draft e)) d → TakesLine IsFullBundle (Err fault) (end_entry s) new
ends_failed s call t new e right written d (wrong.Wrong cause) h same k = absurd cc
ends_failed s call t new e right written d (wrong.Set f) h same k = ends_full s call t e right written f h same k
