-- One line more keeps the invariant of the lines so far.
use Rattle.std.proofs.Common.{◌≡◌, ℕ, ◌+◌, ◌<◌, ◌≤◌, inl, inr, Bool, true, false, not, leb, List, [], ◌∷◌, ◌++◌, length, map, Option, Some, None, refl, sym, ap, subst, ◌∙◌, append_assoc, arith}
use Rattle.std.specs.Prelude.{◌||◌, MatchResult, nat_lt}
use Rattle.std.specs.List.{list_all, AllByRecursion}
use Rattle.std.specs.FinSet as set
use Rattle.std.proofs.lemmas.Bool.{eqb-true, ltb-true, leb-true, leb-false, le-leb, or_parts, or_cases, not-false, not-true}
use Rattle.std.proofs.lemmas.Result.{MatchResult-weaker}
use Rattle.std.proofs.lemmas.List.{append-nil, length-append, map_push}
use Rattle.std.proofs.lemmas.Option.{same_Some}
use Rattle.lemmas.proofs.Lists.{all_push as all_more}
use Rattle.gtid_text.proofs.Turns.{chosen}
use Rattle.row_images.specs.Words.{count_of}
use Rattle.row_images.proofs.Counts.{count_found}
use Rattle.gtid_text.specs.declared.Gtid.{Gtid}
use Rattle.gtid_text.specs.Written.{IsUsable}
use Rattle.gtid_set.specs.Sets.{Gtids, greatest}
use Rattle.gtid_set.proofs.SpanLemmas.{all_push}
use Rattle.rows.specs.declared.change.Change.{Change}
use Rattle.rows.specs.declared.schema.Table.{Table}
use Rattle.rows.specs.Limits.{most_changes}
use Rattle.txn_journal.specs.Versions.{limits_of}
use Rattle.rows.specs.declared.limits.Limits.{Limits}
use Rattle.rows.specs.declared.limits.Limits.TheVariants.{Narrow, Wide}
use Rattle.journal.specs.declared.Entry.{Entry}
use Rattle.journal.specs.Journals.{AreNew}
use Rattle.row_images.specs.declared.value.Value.{Value}
use Rattle.journal.specs.Writing.{is_number, is_image_writable, is_change_writable, is_writable}
use Rattle.txn_journal.specs.WrittenSets.{IsWrittenSet}
use Rattle.txn_journal.specs.Due.{is_due}
use Rattle.txn_journal.specs.Lines.{Numbers, takes, is_place, below, stamp_in}
use Rattle.txn_journal.specs.Machine.{Standing, fits, open_entry, close_entry, add, begin_stamped, begin, judge}
use Rattle.txn_journal.specs.Spelling.{Line, Header, Previous, Begin, Makes, End, Close, line_text, numbers_of, entry_lines, entries_lines, opening_lines, front_lines, FitsChange, FitsEntry, IsWritten, IsStamp, AreStamps}
use Rattle.txn_journal.specs.LinesSoFar.{lines_so_far}
use Rattle.txn_journal.specs.declared.lines.LinePlace.{LinePlace}
use Rattle.txn_journal.specs.declared.lines.LinePlace.TheVariants as places
use Rattle.txn_journal.specs.declared.lines.Version.{Version}
use Rattle.txn_journal.specs.declared.lines.Version.TheVariants.{One, Two, Three}
use Rattle.txn_journal.specs.Wordings.{ParsesAsLine}
use Rattle.txn_journal.specs.Causes.{word_for, HasNumbers, PassesLimit, wording, HasCause}
use Rattle.journal.proofs.WritableLemmas.{widened, all_widened, wide_image}
use Rattle.txn_journal.proofs.GtidLaws.{written_numbers}
use Rattle.txn_journal.proofs.Judged.{if_both}
use Rattle.txn_journal.proofs.WordLaws.{judged_both}
use Rattle.txn_journal.proofs.LineReads.{body_of, put, judge_reads, rest_laws}

-- ---- the lines so far, and what is known of them

abbrev pub placed : LinePlace → Standing → Standing
placed place s = record s { place = place }

-- the previous set with the GTIDs of the entries
abbrev pub seen_after : Gtids → List Entry → Gtids
seen_after seen [] = seen
seen_after seen (e ∷ es) = seen_after (set.insert seen e.gtid) es

-- a schema takes each change of an entry
abbrev pub fits_in : Option (List Table) → Entry → Bool
fits_in schema e = list_all (fits schema) e.txn.changes

pub record Whole (schema : Option (List Table)) (s : Standing) : Type 0 where
  pub due : takes s.due s.version ≡ true
  pub new : AreNew s.journal.previous s.journal.entries
  pub writable : list_all (is_writable (limits_of s.version)) s.journal.entries ≡ true
  pub previous : IsWrittenSet s.journal.previous
  pub fits : AllByRecursion (FitsEntry (limits_of s.version)) s.journal.entries
  pub fitting : list_all (fits_in schema) s.journal.entries ≡ true
  pub stamped : AreStamps s.version 1 s.stamps s.journal.entries
  pub all_seen : s.seen ≡ seen_after s.journal.previous s.journal.entries
  pub counted : s.count ≡ length s.journal.entries
  pub few : s.count ≤ 4294967294

pub record Opened (schema : Option (List Table)) (s : Standing) : Type 0 where
  pub whole : Whole schema s
  pub unseen : set.contains s.seen s.gtid ≡ false
  pub number : is_number s.gtid.number ≡ true
  pub usable : IsUsable s.gtid
  pub stamp : IsStamp s.version (s.count + 1) s.stamp
  pub room : s.count < 4294967294
  pub few : length s.changes ≤ most_changes (limits_of s.version)
  pub writable : list_all (is_change_writable (limits_of s.version)) s.changes ≡ true
  pub taken : list_all (fits schema) s.changes ≡ true
  pub fits : AllByRecursion (FitsChange (limits_of s.version)) s.changes

pub record FreshStart (s : Standing) : Type 0 where
  pub none_stamped : s.stamps ≡ []
  pub none_counted : s.count ≡ 0
  pub none_open : s.changes ≡ []

abbrev pub Sound_at : Option (List Table) → LinePlace → Standing → Type 0
Sound_at schema places.Header s = FreshStart s
Sound_at schema places.Previous s = FreshStart s × (takes s.due s.version ≡ true)
Sound_at schema places.Between s = Whole schema s × (s.changes ≡ [])
Sound_at schema places.Within s = Opened schema s
Sound_at schema places.Ended s = Whole schema s × (s.changes ≡ [])

abbrev pub IsSound : Option (List Table) → Standing → Type 0
IsSound schema s = Sound_at schema s.place s

-- ---- lists with one more

new_more : (seen : Gtids) (es : List Entry) (e : Entry) → AreNew seen es → set.contains (seen_after seen es) e.gtid ≡ false → AreNew seen (es ++ e ∷ [])
new_more seen [] e new apart = (apart, tt)
new_more seen (f ∷ fs) e new apart = (new.0, new_more (set.insert seen f.gtid) fs e new.1 apart)

seen_more : (seen : Gtids) (es : List Entry) (e : Entry) → seen_after seen (es ++ e ∷ []) ≡ set.insert (seen_after seen es) e.gtid
seen_more seen [] e = refl
seen_more seen (f ∷ fs) e = seen_more (set.insert seen f.gtid) fs e

pub stamps_more : (version : Version) (place : ℕ) (stamps : List ℕ) (es : List Entry) (stamp : ℕ) (e : Entry) → AreStamps version place stamps es → IsStamp version (place + length es) stamp → AreStamps version place (stamps ++ stamp ∷ []) (es ++ e ∷ [])
stamps_more version place [] [] stamp e h is = let at : place + 0 ≡ place = omega arith in (subst (λ (n : ℕ). IsStamp version n stamp) at is, tt)
stamps_more version place (l ∷ ls) (f ∷ fs) stamp e h is =
    let at : place + length (f ∷ fs) ≡ place + 1 + length fs = omega arith in
    (h.0, stamps_more version (place + 1) ls fs stamp e h.1 (subst (λ (n : ℕ). IsStamp version n stamp) at is))
stamps_more version place [] (f ∷ fs) stamp e h is = absurd h
stamps_more version place (l ∷ ls) [] stamp e h is = absurd h

lines_more : (version : Version) (place : ℕ) (stamps : List ℕ) (es : List Entry) (stamp : ℕ) (e : Entry) → AreStamps version place stamps es
    → entries_lines version place (stamps ++ stamp ∷ []) (es ++ e ∷ []) ≡ entries_lines version place stamps es ++ entry_lines (numbers_of version (place + length es) stamp) e
lines_more version place [] [] stamp e h =
    let at : place ≡ place + 0 = omega arith in
    append-nil (entry_lines (numbers_of version place stamp) e) ∙ ap (λ (n : ℕ). entry_lines (numbers_of version n stamp) e) at
lines_more version place (l ∷ ls) (f ∷ fs) stamp e h =
    let front = entry_lines (numbers_of version place l) f in
    let at : place + 1 + length fs ≡ place + length (f ∷ fs) = omega arith in
    ap (λ (x : List Line). front ++ x) (lines_more version (place + 1) ls fs stamp e h.1)
    ∙ sym (append_assoc front (entries_lines version (place + 1) ls fs) (entry_lines (numbers_of version (place + 1 + length fs) stamp) e))
    ∙ ap (λ (n : ℕ). entries_lines version place (l ∷ ls) (f ∷ fs) ++ entry_lines (numbers_of version n stamp) e) at
lines_more version place [] (f ∷ fs) stamp e h = absurd h
lines_more version place (l ∷ ls) [] stamp e h = absurd h

-- what is within any limits is within the widest
pub all_wide : (limits : Limits) (es : List Entry) → list_all (is_writable limits) es ≡ true → list_all (is_writable Wide) es ≡ true
all_wide Narrow es h = all_widened es h
all_wide Wide es h = h

pub image_wide : (limits : Limits) (image : List Value) → is_image_writable limits image ≡ true → is_image_writable Wide image ≡ true
image_wide Narrow image h = wide_image image h
image_wide Wide image h = h

pub wide_entry : (limits : Limits) (e : Entry) → is_writable limits e ≡ true → is_writable Wide e ≡ true
wide_entry Narrow e h = widened e h
wide_entry Wide e h = h

entry_writable : (s : Standing) → is_number s.gtid.number ≡ true → length s.changes ≤ most_changes (limits_of s.version) → list_all (is_change_writable (limits_of s.version)) s.changes ≡ true → is_writable (limits_of s.version) (open_entry s) ≡ true
entry_writable s number few all = rw (number, le-leb (length s.changes) (most_changes (limits_of s.version)) few, all) refl

pub whole_more : (schema : Option (List Table)) (s : Standing) → Opened schema s → Whole schema (close_entry s)
whole_more schema s o =
    let w = o.whole in
    let j = s.journal in
    let at : s.count + 1 ≡ 1 + length j.entries = omega (arith, w.counted) in
    record {
      due = w.due;
      new = new_more j.previous j.entries (open_entry s) w.new (ap (λ (seen : Gtids). set.contains seen s.gtid) (sym w.all_seen) ∙ o.unseen);
      writable = all_push (is_writable (limits_of s.version)) j.entries (open_entry s) w.writable (entry_writable s o.number o.few o.writable);
      previous = w.previous;
      fits = all_more (FitsEntry (limits_of s.version)) j.entries (open_entry s) w.fits (record { source = o.usable.source; changes = o.fits });
      fitting = all_push (fits_in schema) j.entries (open_entry s) w.fitting o.taken;
      stamped = stamps_more s.version 1 s.stamps j.entries s.stamp (open_entry s) w.stamped (subst (λ (n : ℕ). IsStamp s.version n s.stamp) at o.stamp);
      all_seen = ap (λ (seen : Gtids). set.insert seen s.gtid) w.all_seen ∙ sym (seen_more j.previous j.entries (open_entry s));
      counted = omega (arith, w.counted, length-append j.entries (open_entry s ∷ []));
      few = omega (arith, o.room);
    }

-- the lines with a whole entry more
pub ended_entry : (schema : Option (List Table)) (s : Standing) → Whole schema s → lines_so_far (close_entry s) ≡ lines_so_far (placed places.Within s) ++ End ∷ []
ended_entry schema s w =
    let j = s.journal in
    let at : 1 + length j.entries ≡ s.count + 1 = omega (arith, w.counted) in
    let before = entries_lines s.version 1 s.stamps j.entries in
    let opening = opening_lines s.version j.previous in
    let entry = Begin s.gtid (numbers_of s.version (s.count + 1) s.stamp) ∷ map Makes s.changes in
    ap (λ (ls : List Line). opening ++ ls) (lines_more s.version 1 s.stamps j.entries s.stamp (open_entry s) w.stamped ∙ ap (λ (n : ℕ). before ++ entry_lines (numbers_of s.version n s.stamp) (open_entry s)) at)
    ∙ sym (append_assoc opening before (entry ++ End ∷ []))
    ∙ sym (append_assoc (opening ++ before) entry (End ∷ []))

-- ---- the numbers of an entry

place_found : (place : ℕ) (o : Option ℕ) → is_place place o ≡ true → o ≡ Some place
place_found place None e = absurd cc
place_found place (Some n) e = ap Some (eqb-true n place e)

below_found : (place stamp : ℕ) (o : Option ℕ) → below place o ≡ Some stamp → (o ≡ Some stamp) × (stamp < place)
below_found place stamp None e = absurd cc
below_found place stamp (Some n) e = elim (chosen (nat_lt n place) (Some n) None (Some stamp) e) [
  | inl p ↦ let same = same_Some n stamp p.1 in (ap Some same, let lt = ltb-true n place p.0 in omega (arith, same, lt))
  | inr p ↦ absurd cc
]

-- they are those of its place, where they are written
numbers_are : (place stamp : ℕ) (n : Numbers) → stamp_in place (Some n) ≡ Some stamp → (Some n ≡ numbers_of Two place stamp) × (stamp < place)
numbers_are place stamp n e = elim (chosen (is_place place (count_of n.sequence_number)) (below place (count_of n.last_committed)) None (Some stamp) e) [
  | inl p ↦
      let sequence_number = count_found n.sequence_number place (place_found place (count_of n.sequence_number) p.0) in
      let b = below_found place stamp (count_of n.last_committed) p.1 in
      let last_committed = count_found n.last_committed stamp b.0 in
      (λ i. Some (record { last_committed = last_committed.0 i; sequence_number = sequence_number.0 i }), b.1)
  | inr p ↦ absurd cc
]

-- they are those of its place
pub numbers_found : (version : Version) (place stamp : ℕ) (numbers : Option Numbers) → HasNumbers version numbers → stamp_in place numbers ≡ Some stamp → (numbers ≡ numbers_of version place stamp) × IsStamp version place stamp
numbers_found One place stamp None has e = (refl, sym (same_Some 0 stamp e))
numbers_found Two place stamp (Some n) has e = numbers_are place stamp n e
numbers_found Three place stamp (Some n) has e = numbers_are place stamp n e
numbers_found One place stamp (Some n) has e = absurd cc
numbers_found Two place stamp None has e = absurd cc
numbers_found Three place stamp None has e = absurd cc

-- ---- one line more

pub record SameEntries (s t : Standing) : Type 0 where
  pub stamps : t.stamps ≡ s.stamps
  pub entries : t.journal.entries ≡ s.journal.entries

pub record OneEntryMore (s t : Standing) : Type 0 where
  pub stamps : t.stamps ≡ s.stamps ++ s.stamp ∷ []
  pub entries : t.journal.entries ≡ s.journal.entries ++ open_entry s ∷ []
  pub place : t.place ≡ places.Between

pub record NoEntries (t : Standing) : Type 0 where
  pub stamps : t.stamps ≡ []
  pub entries : t.journal.entries ≡ []

-- what a line makes of the entries
abbrev pub EntriesGo : Line → Standing → Standing → Type 0
EntriesGo (Previous p) s t = NoEntries t
EntriesGo (Makes c) s t = SameEntries s t × (t.place ≡ s.place)
EntriesGo End s t = OneEntryMore s t
EntriesGo _ s t = SameEntries s t

-- what a line leaves
pub record Keeps (schema : Option (List Table)) (s : Standing) (l : Line) (t : Standing) : Type 0 where
  pub same_due : t.due ≡ s.due
  pub says : lines_so_far t ≡ lines_so_far s ++ l ∷ []
  pub goes : EntriesGo l s t
  pub sound : IsSound schema t

pub begin_both : (schema : Option (List Table)) (s : Standing) (line : List ℕ) (g : Gtid) (numbers : Option Numbers) (P : Standing → Type 0) → ParsesAsLine (wording schema s) line (Begin g numbers)
    → (is_number g.number ≡ true → s.count < 4294967294 → (stamp : ℕ) → stamp_in (s.count + 1) numbers ≡ Some stamp → set.contains s.seen g ≡ false → P (record s { place = places.Within; gtid = g; stamp = stamp }))
    → MatchResult (begin s g (stamp_in (s.count + 1) numbers)) P (HasCause schema s line)
unfolding begin greatest
begin_both schema s line g numbers P h more =
    if_both P (HasCause schema s line) (not (is_number g.number)) _ _ (λ no. absurd (let n = h.fits.words.0.number in let k : is_number g.number ≡ true = rw (le-leb 1 g.number n.0, le-leb g.number 9223372036854775807 n.1) refl in cc))
    (λ number. if_both P (HasCause schema s line) (leb 4294967294 s.count) _ _ (λ full. (Begin g numbers, h, leb-true _ _ full))
    (λ room. stamped room (stamp_in (s.count + 1) numbers) refl (more (not-false (is_number g.number) number) (leb-false _ _ room))))
  where
    stamped : leb 4294967294 s.count ≡ false → (o : Option ℕ) → stamp_in (s.count + 1) numbers ≡ o → ((stamp : ℕ) → stamp_in (s.count + 1) numbers ≡ Some stamp → set.contains s.seen g ≡ false → P (record s { place = places.Within; gtid = g; stamp = stamp }))
        → MatchResult (begin_stamped s g o) P (HasCause schema s line)
    stamped room None e found = (Begin g numbers, h, λ full. (let k = le-leb 4294967294 s.count full in cc), e)
    stamped room (Some stamp) e found =
        if_both P (HasCause schema s line) (set.contains s.seen g) _ _ (λ twice. (Begin g numbers, h, λ full. (let k = le-leb 4294967294 s.count full in cc), λ wrong. (let k = sym wrong ∙ e in cc), (refl, twice)))
        (λ unseen. found stamp e unseen)

pub add_both : (schema : Option (List Table)) (s : Standing) (line : List ℕ) (c : Change) (P : Standing → Type 0) → ParsesAsLine (wording schema s) line (Makes c)
    → (length s.changes < most_changes (limits_of s.version) → is_change_writable (limits_of s.version) c ≡ true → fits schema c ≡ true → P (record s { changes = s.changes ++ c ∷ [] })) → MatchResult (add schema s c) P (HasCause schema s line)
unfolding add
add_both schema s line c P h more =
    if_both P (HasCause schema s line) (leb (most_changes (limits_of s.version)) (length s.changes) || not (is_change_writable (limits_of s.version) c)) _ _ (λ passes. (Makes c, h, limit_of s c passes))
    (λ within. let w = or_parts (leb (most_changes (limits_of s.version)) (length s.changes)) (not (is_change_writable (limits_of s.version) c)) within in
    if_both P (HasCause schema s line) (not (fits schema c)) _ _ (λ misfit. (Makes c, h, within_limits s c w.0 w.1, not-true (fits schema c) misfit))
    (λ taken. more (leb-false _ _ w.0) (not-false (is_change_writable (limits_of s.version) c) w.1) (not-false (fits schema c) taken)))
  where
    limit_of : (s : Standing) (x : Change) → (leb (most_changes (limits_of s.version)) (length s.changes) || not (is_change_writable (limits_of s.version) x)) ≡ true → PassesLimit s (Makes x)
    limit_of s x e = elim (or_cases (leb (most_changes (limits_of s.version)) (length s.changes)) (not (is_change_writable (limits_of s.version) x)) e) [
      | inl p ↦ inl (leb-true _ _ p)
      | inr p ↦ inr (not-true (is_change_writable (limits_of s.version) x) p)
    ]

    within_limits : (s : Standing) (x : Change) → leb (most_changes (limits_of s.version)) (length s.changes) ≡ false → not (is_change_writable (limits_of s.version) x) ≡ false → PassesLimit s (Makes x) → ⊥
    within_limits s x few short (inl many) = let k = le-leb (most_changes (limits_of s.version)) (length s.changes) many in cc
    within_limits s x few short (inr long) = let m : not (is_change_writable (limits_of s.version) x) ≡ true = ap not long in cc

no_change : (place : LinePlace) (c : Change) → is_due place (word_for (Makes c)) ≡ true → place ≡ places.Within
no_change place c e = grind arith

-- what is open, and the place, make no difference
again : (schema : Option (List Table)) (s : Standing) (place : LinePlace) (g : Gtid) (stamp : ℕ) (cs : List Change) → Whole schema s → Whole schema (record s { place = place; gtid = g; stamp = stamp; changes = cs })
again schema s place g stamp cs w = record { due = w.due; new = w.new; writable = w.writable; previous = w.previous; fits = w.fits; fitting = w.fitting; stamped = w.stamped; all_seen = w.all_seen; counted = w.counted; few = w.few }

keeps_at : (schema : Option (List Table)) (place : LinePlace) (s : Standing) (line : List ℕ) (l : Line) → Sound_at schema place s → is_due place (word_for l) ≡ true → ParsesAsLine (wording schema (placed place s)) line l
    → MatchResult (put schema (placed place s) l) (Keeps schema (placed place s) l) (HasCause schema (placed place s) line)
unfolding put
keeps_at schema places.Header s line (Header v) h is k = record { same_due = refl; says = refl; goes = record { stamps = refl; entries = refl }; sound = (record { none_stamped = h.none_stamped; none_counted = h.none_counted; none_open = refl }, k.fits.of_version) }
keeps_at schema places.Previous s line (Previous p) h is k = record {
  same_due = refl;
  says = ap (λ (ls : List ℕ). opening_lines s.version p ++ entries_lines s.version 1 ls []) h.0.none_stamped;
  goes = record { stamps = h.0.none_stamped; entries = refl };
  sound = (
    record {
      due = h.1;
      new = tt;
      writable = refl;
      previous = k.fits.words;
      fits = tt;
      fitting = refl;
      stamped = subst (λ (ls : List ℕ). AreStamps s.version 1 ls []) (sym h.0.none_stamped) tt;
      all_seen = refl;
      counted = h.0.none_counted;
      few = omega (arith, h.0.none_counted);
    },
    h.0.none_open,
  );
}
keeps_at schema places.Between s line (Begin x numbers) h is k =
    begin_both schema (placed places.Between s) line x numbers _ k (λ number room stamp e unseen.
    let f = numbers_found s.version (s.count + 1) stamp numbers k.fits.of_version e in
    record {
      same_due = refl;
      says = λ i. front_lines s.version s.stamps s.journal ++ (Begin x (sym f.0 i) ∷ map Makes (h.1 i));
      goes = record { stamps = refl; entries = refl };
      sound = record {
        whole = again schema s places.Within x stamp s.changes h.0;
        unseen = unseen;
        number = number;
        usable = k.fits.words.0;
        stamp = f.1;
        room = room;
        few = omega (arith, ap length h.1);
        writable = ap (list_all (is_change_writable (limits_of s.version))) h.1;
        fits = subst (λ (ds : List Change). AllByRecursion (FitsChange (limits_of s.version)) ds) (sym h.1) tt;
        taken = ap (list_all (fits schema)) h.1;
      };
    })
keeps_at schema places.Between s line Close h is k = record { says = refl; same_due = refl; goes = record { stamps = refl; entries = refl }; sound = (again schema s places.Ended s.gtid s.stamp s.changes h.0, h.1) }
keeps_at schema places.Within s line (Makes c) h is k =
    let front = front_lines s.version s.stamps s.journal in
    let begin = Begin s.gtid (numbers_of s.version (s.count + 1) s.stamp) in
    add_both schema (placed places.Within s) line c _ k (λ room writable taken. record {
      same_due = refl;
      says = ap (λ (ls : List Line). front ++ (begin ∷ ls)) (map_push Makes s.changes c) ∙ sym (append_assoc front (begin ∷ map Makes s.changes) (Makes c ∷ []));
      goes = (record { stamps = refl; entries = refl }, refl);
      sound = record {
        whole = again schema s places.Within s.gtid s.stamp (s.changes ++ c ∷ []) h.whole;
        unseen = h.unseen;
        number = h.number;
        usable = h.usable;
        stamp = h.stamp;
        room = h.room;
        few = omega (arith, room, length-append s.changes (c ∷ []));
        writable = all_push (is_change_writable (limits_of s.version)) s.changes c h.writable writable;
        fits = all_more (FitsChange (limits_of s.version)) s.changes c h.fits k.fits.words;
        taken = all_push (fits schema) s.changes c h.taken taken;
      };
    })
keeps_at schema places.Within s line End h is k = record { same_due = refl; says = ended_entry schema s h.whole; goes = record { stamps = refl; entries = refl; place = refl }; sound = (whole_more schema s h, refl) }
keeps_at schema place s line (Makes c) h is k = absurd (let m = no_change place c is in cc)
keeps_at schema place s line l h is k = absurd cc

-- a line that is taken is the spelling of one more line
pub record Taken (schema : Option (List Table)) (s : Standing) (line : List ℕ) (t : Standing) : Type 0 where
  pub l : Line
  pub text : line ≡ line_text l
  pub due : is_due s.place (word_for l) ≡ true
  pub keeps : Keeps schema s l t

pub judged_line : (schema : Option (List Table)) (s : Standing) (line : List ℕ) → IsSound schema s → MatchResult (judge schema s line) (Taken schema s line) (HasCause schema s line)
judged_line schema s line h =
    rw (judge_reads schema s line) (judged_both (wording schema s) (body_of s.due s.version) (rest_laws schema s) (Taken schema s line) (put schema s) line
    (λ l k. MatchResult-weaker (put schema s l) (keeps_at schema s.place s line l h k.due k) (λ t m. record { l = l; text = k.text; due = k.due; keeps = m }) (λ c m. m)))

pub whole_written : (schema : Option (List Table)) (s : Standing) → Whole schema s → IsWritten (limits_of s.version) s.journal
whole_written schema s w = record { keeps = record { numbers = written_numbers s.journal.previous w.previous; new = w.new; writable = all_wide (limits_of s.version) s.journal.entries w.writable }; writable = w.writable; few = omega (arith, w.few, w.counted); previous = w.previous; entries = w.fits }
