-- The members of journals, entry by entry.
use Rattle.std.proofs.Common.{◌≡◌, ℕ, ◌≤◌, Bool, ◌||◌, List, [], ◌∷◌, ◌++◌, map, length, take, refl, sym, ap, ◌∙◌}
use Rattle.std.specs.List.{list_any}
use Rattle.std.proofs.lemmas.List.Folds.{list_any-append}
use Rattle.std.specs.Ordering.{eq_by_cmp}
use Rattle.std.specs.FinSet as set
use Rattle.lemmas.proofs.SameGtid.{gtid_total}
use Rattle.gtid_text.specs.declared.Gtid.{Gtid}
use Rattle.gtid_text.specs.Gtids.{gtid_cmp, same_gtid}
use Rattle.gtid_set.specs.Sets.{Gtids}
use Rattle.gtid_set.proofs.SetLemmas.{gtid_tied}
use Rattle.journal.specs.declared.Entry.{Entry}
use Rattle.journal.specs.Journals.{JournalValue, gtids_of, whole}
use Rattle.journal.proofs.EntryLemmas.{contains-whole}
use Rattle.rows.specs.declared.change.Transaction.{Transaction}
use Rattle.history.specs.World.{OrderedWorld, is_opened, IsClosed}
use Rattle.history.proofs.Closing.{closed_same}
use Rattle.history.specs.Faithful as journals

abbrev pub entry_of : Gtid → Transaction → Entry
entry_of g t = record { gtid = g; txn = t }

abbrev pub is_entry : List Entry → Gtid → Bool
is_entry entries g = list_any (λ (e : Entry). same_gtid g e.gtid) entries

pub entries_append : (xs ys : List Entry) (g : Gtid) → is_entry (xs ++ ys) g ≡ (is_entry xs g || is_entry ys g)
entries_append xs ys g = list_any-append (λ (e : Entry). same_gtid g e.gtid) xs ys

-- in the previous set, or one of these entries
abbrev pub covered : Gtids → List Entry → Gtid → Bool
covered previous entries g = set.contains previous g || is_entry entries g

-- the same, or in the opening set
abbrev pub front : OrderedWorld → Gtids → List Entry → Gtid → Bool
front world previous entries g = is_opened world g || covered previous entries g

-- what a journal has a record of
abbrev pub has : JournalValue → Gtid → Bool
has journal = covered journal.previous journal.entries

pub in_insert : (s : Gtids) (g h : Gtid) → set.contains (set.insert s g) h ≡ (same_gtid h g || set.contains s h)
in_insert s g h = set.contains-insert gtid_total s g h ∙ ap (λ b. b || set.contains s h) (gtid_tied h g)

pub any_tied : (gs : List Gtid) (g : Gtid) → list_any (eq_by_cmp gtid_cmp g) gs ≡ list_any (same_gtid g) gs
any_tied [] g = refl
any_tied (h ∷ gs) g = λ i. gtid_tied g h i || any_tied gs g i

pub in_gtids : (gs : List Gtid) (g : Gtid) → set.contains (set.from_list {R = gtid_cmp} gs) g ≡ list_any (same_gtid g) gs
in_gtids gs g = set.contains-from_list gtid_total gs g ∙ any_tied gs g

any_same : (es : List Entry) (g : Gtid) → list_any (eq_by_cmp gtid_cmp g) (map (λ (e : Entry). e.gtid) es) ≡ is_entry es g
any_same [] g = refl
any_same (e ∷ es) g = λ i. gtid_tied g e.gtid i || any_same es g i

pub in_entries : (es : List Entry) (g : Gtid) → set.contains (gtids_of es) g ≡ is_entry es g
in_entries es g = set.contains-from_list gtid_total (map (λ (e : Entry). e.gtid) es) g ∙ any_same es g

pub in_covered : (previous : Gtids) (es : List Entry) (g : Gtid) → set.contains (set.union previous (gtids_of es)) g ≡ covered previous es g
in_covered previous es g = contains-whole previous es g

pub in_whole : (j : JournalValue) (g : Gtid) → set.contains (whole j) g ≡ has j g
in_whole j g = contains-whole j.previous j.entries g

pub in_front : (world : OrderedWorld) (j : JournalValue) (k : ℕ) (g : Gtid) → set.contains (journals.front world j k) g ≡ front world j.previous (take k j.entries) g
in_front world j k g =
    set.contains-union gtid_total world.opening_set (set.union j.previous (gtids_of (take k j.entries))) g
    ∙ ap (λ b. is_opened world g || b) (contains-whole j.previous (take k j.entries) g)

-- what the prefixes of a journal are, entry by entry
abbrev pub HasClosedFronts : OrderedWorld → JournalValue → Type 0
HasClosedFronts world j = (k : ℕ) → k ≤ length j.entries → IsClosed world (front world j.previous (take k j.entries))

pub fronts_of : (world : OrderedWorld) (j : JournalValue) → journals.IsFaithful world j → HasClosedFronts world j
fronts_of world j f k below = closed_same world (set.contains (journals.front world j k)) (front world j.previous (take k j.entries)) (λ g. sym (in_front world j k g)) (f.fronts k below)

pub to_fronts : (world : OrderedWorld) (j : JournalValue) → HasClosedFronts world j → (k : ℕ) → k ≤ length j.entries → IsClosed world (set.contains (journals.front world j k))
to_fronts world j f k below = closed_same world (front world j.previous (take k j.entries)) (set.contains (journals.front world j k)) (λ g. in_front world j k g) (f k below)
