-- What journals bring lies beyond the opening set.
use Rattle.std.proofs.Common.{◌≡◌, ◌<◌, List, Some, sym, subst}
use Rattle.std.specs.FinMap as finmap
use Rattle.lemmas.proofs.Lists.{all_at}
use Rattle.gtid_text.specs.declared.Gtid.{Gtid}
use Rattle.gtid_set.specs.Sets.{Gtids}
use Rattle.rows.specs.declared.change.Transaction.{Transaction}
use Rattle.journal.specs.Journals.{JournalValue, IsJournal}
use Rattle.world.specs.Audit.{all_entries, first_contents}
use Rattle.world.specs.Meaning.{AreJournals}
use Rattle.world.proofs.Contents.{entry_at, in_all, contents_entry, contents_outside}
use Rattle.world.proofs.Meanings.{numbered}
use Rattle.audit.specs.Contents.{Contents}
use Rattle.audit.specs.Worlds.{LieBeyond}

has_number : (opened : Gtids) (journals : List JournalValue) → AreJournals journals → (g : Gtid) (t : Transaction) → finmap.get (first_contents opened (all_entries journals)) g ≡ Some t → 0 < g.number
has_number opened journals are g t at =
    let a = in_all journals g (contents_entry opened (all_entries journals) g t at) in
    let b = entry_at a.1.entries g a.3 in
    let j = all_at (λ (x : JournalValue). IsJournal x.previous x.entries) journals a.0 a.1 are a.2 in
    subst (λ (x : Gtid). 0 < x.number) b.3 (numbered a.1.entries b.0 b.1 j.writable b.2)

pub firsts_lie_beyond : (opened : Gtids) (journals : List JournalValue) (contents : Contents) → AreJournals journals → contents ≡ first_contents opened (all_entries journals) → LieBeyond opened contents
firsts_lie_beyond opened journals contents are e =
    subst (LieBeyond opened) (sym e) (record { outside = λ g t h. contents_outside opened (all_entries journals) g t h; from_one = λ g t h. has_number opened journals are g t h })
