use Rattle.std.proofs.Common.{◌≡◌, ◌+◌, ◌++◌, [], ◌∷◌, take, ap, sym, ◌∙◌, arith}
use Rattle.std.proofs.lemmas.List.{take_more}
use Rattle.journal.specs.declared.Entry.{Entry}
use Rattle.journal.specs.Journals.{gtids_of}
use Rattle.txn_journal.proofs.SpansWithin.{known_more, one_entry_more}
use Rattle.txn_journal.proofs.statements.gtids_of.Goals as goal

pub loop-entry-preserved : goal.loop-entry-preserved
loop-entry-preserved c =
    let i = c.loop-entry.entry-index in
    let all = c.args.entries.now in
    let e = c.entry-item.result in
    let front = take_more all i e (omega arith) ∙ ap (λ (x : Entry). take i all ++ x ∷ []) (sym c.entry-item.is) in
    known_more c.loop-entry.known c.insert.new.self e.gtid (gtids_of (take i all)) c.loop-entry.invariant c.in_ok-insert.ensures.updates
    ∙ sym (ap gtids_of front ∙ one_entry_more (take i all) e)
