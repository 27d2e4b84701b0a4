use Rattle.std.proofs.Common.{◌++◌, [], ◌∷◌, take, ap, sym, ◌∙◌, arith}
use Rattle.std.proofs.lemmas.List.{take_more}
use Rattle.std.specs.FinSet as set
use Rattle.gtid_set.proofs.SetLemmas.{union_empty, union_insert}
use Rattle.journal.specs.declared.Entry.{Entry}
use Rattle.journal.specs.Journals.{gtids_of}
use Rattle.journal.proofs.EntryLemmas.{gtids_of-push}
use Rattle.source_shares.proofs.executing.add_gtids.Goals as goal

pub loop-entry-init : goal.loop-entry-init
loop-entry-init c = union_empty c.args.known.now

pub loop-entry-preserved : goal.loop-entry-preserved
loop-entry-preserved c =
    let i = c.loop-entry.entry-index in
    let all = c.args.entries.now in
    let e = c.entry-item.result in
    let front = take_more all i e (omega arith) ∙ ap (λ (x : Entry). take i all ++ x ∷ []) (sym c.entry-item.is) in
    let more = ap gtids_of front ∙ gtids_of-push (take i all) e in
    c.in-Ok.ensures.ok
    ∙ ap (λ s. set.insert s e.gtid) c.loop-entry.invariant
    ∙ union_insert c.args.known.now (gtids_of (take i all)) e.gtid
    ∙ ap (λ t. set.union c.args.known.now t) (sym more)
