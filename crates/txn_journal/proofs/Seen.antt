-- Each GTID of a journal was seen: at its start, when its entries are taken, and with one entry more.
use Rattle.std.proofs.Common.{◌≡◌, false, ◌||◌, [], ◌∷◌, ◌++◌, sym, ap, ◌∙◌}
use Rattle.std.specs.Ordering.{eq_by_cmp}
use Rattle.std.specs.FinSet as set
use Rattle.gtid_text.specs.declared.Gtid.{Gtid}
use Rattle.gtid_text.specs.Gtids.{gtid_cmp}
use Rattle.gtid_set.specs.Sets.{Gtids}
use Rattle.journal.specs.declared.Entry.{Entry}
use Rattle.journal.specs.Journals.{JournalValue, whole, gtids_of}
use Rattle.journal.proofs.EntryLemmas.{gtids_of-push, contains-whole}
use Rattle.txn_journal.specs.Kept.{IsSeen}
use Rattle.std.proofs.lemmas.Bool.{or_parts}
use Rattle.lemmas.proofs.SameGtid.{gtid_total}

abbrev pub of_set : Gtids → JournalValue
of_set s = record { previous = s; entries = [] }

pub seen_start : (j : JournalValue) (s : Gtids) → j ≡ record { previous = s; entries = [] } → IsSeen j s
seen_start j s is = λ g h. ap (λ (k : JournalValue). set.contains (whole k) g) is ∙ contains-whole s [] g ∙ ap (λ b. b || false) h

pub seen_taken : (j k : JournalValue) (s : Gtids) → IsSeen j s → k ≡ record j { entries = [] } → IsSeen k s
seen_taken j k s seen is = λ g h.
    let p = or_parts (set.contains j.previous g) (set.contains (gtids_of j.entries) g) (sym (set.contains-union gtid_total j.previous (gtids_of j.entries) g) ∙ seen g h) in
    ap (λ (k : JournalValue). set.contains (whole k) g) is ∙ contains-whole j.previous [] g ∙ ap (λ b. b || false) p.0

pub seen_pushed : (j k : JournalValue) (s t : Gtids) (e : Entry) → IsSeen j s → k ≡ record j { entries = j.entries ++ e ∷ [] } → t ≡ set.insert s e.gtid → IsSeen k t
seen_pushed j k s t e seen is added = λ g h.
    let p = or_parts (eq_by_cmp gtid_cmp g e.gtid) (set.contains s g) (sym (ap (λ (u : Gtids). set.contains u g) added ∙ set.contains-insert gtid_total s e.gtid g) ∙ h) in
    let q = or_parts (set.contains j.previous g) (set.contains (gtids_of j.entries) g) (sym (set.contains-union gtid_total j.previous (gtids_of j.entries) g) ∙ seen g p.1) in
    ap (λ (k : JournalValue). set.contains (whole k) g) is
    ∙ set.contains-union gtid_total j.previous (gtids_of (j.entries ++ e ∷ [])) g
    ∙ ap (λ (u : Gtids). set.contains j.previous g || set.contains u g) (gtids_of-push j.entries e)
    ∙ ap (λ b. set.contains j.previous g || b) (set.contains-insert gtid_total (gtids_of j.entries) e.gtid g)
    ∙ (λ i. q.0 i || (p.0 i || q.1 i))

-- one GTID more was seen
pub seen_more : (j k : JournalValue) (s t : Gtids) (x : Gtid) → IsSeen j s → k ≡ j → t ≡ set.insert s x → IsSeen k t
seen_more j k s t x seen is added = λ g h.
    let p = or_parts (eq_by_cmp gtid_cmp g x) (set.contains s g) (sym (ap (λ (u : Gtids). set.contains u g) added ∙ set.contains-insert gtid_total s x g) ∙ h) in
    ap (λ (k : JournalValue). set.contains (whole k) g) is ∙ seen g p.1

-- a GTID was seen, and then its entry joined the others
pub seen_joined : (j i k : JournalValue) (s u t : Gtids) (e : Entry) (x : Gtid) → IsSeen j s → i ≡ j → k ≡ record i { entries = i.entries ++ e ∷ [] } → u ≡ set.insert s x → t ≡ u → e.gtid ≡ x → IsSeen k t
seen_joined j i k s u t e x seen same pushed added still own =
    seen_pushed j k s t e seen (pushed ∙ ap (λ (q : JournalValue). record q { entries = q.entries ++ e ∷ [] }) same) (still ∙ added ∙ ap (set.insert s) (sym own))
