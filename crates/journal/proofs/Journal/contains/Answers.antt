use Rattle.std.proofs.Common.{ap, sym, ◌∙◌, ◌||◌, List}
use Rattle.std.specs.List.{list_any}
use Rattle.std.specs.FinSet as set
use Rattle.gtid_text.specs.Gtids.{same_gtid}
use Rattle.journal.specs.declared.Entry.{Entry}
use Rattle.journal.specs.Journals.{JournalValue, whole}
use Rattle.journal.proofs.EntryLemmas.{contains-whole}
use Rattle.journal.proofs.Journal.contains.Goals as goal

pub returns-then-contains : goal.returns-then-contains
returns-then-contains c =
    let gtid = c.args.gtid.now in
    let es = c.self.inside.entries.items in
    let view = ap (λ (j : JournalValue). set.contains (whole j) gtid) (sym c.self.view_is) in
    let known = ap (λ b. b || list_any (λ (e : Entry). same_gtid gtid e.gtid) es) (sym c.contains.ensures ∙ c.if-contains.true) in
    c.if-contains.true ∙ sym (view ∙ contains-whole c.self.inside.previous es gtid ∙ known)

pub returns-else-contains : goal.returns-else-contains
returns-else-contains c =
    let gtid = c.args.gtid.now in
    let es = c.self.inside.entries.items in
    let view = ap (λ (j : JournalValue). set.contains (whole j) gtid) (sym c.self.view_is) in
    let known = ap (λ b. b || list_any (λ (e : Entry). same_gtid gtid e.gtid) es) (sym c.contains.ensures ∙ c.if-contains.false) in
    c.any_has.ensures
    ∙ ap (λ (xs : List Entry). list_any (λ (e : Entry). same_gtid gtid e.gtid) xs) c.deref.ensures.value
    ∙ sym (view ∙ contains-whole c.self.inside.previous es gtid ∙ known)
