use Rattle.std.proofs.Common.{◌≡◌, ◌+◌, subst, ◌++◌, [], ◌∷◌, take, ap, sym, ◌∙◌, arith}
use Rattle.std.proofs.lemmas.List.{take_more}
use Rattle.std.specs.FinSet as set
use Rattle.gtid_set.proofs.SetLemmas.{union_empty, union_insert}
use Rattle.journal.specs.declared.Entry.{Entry}
use Rattle.journal.specs.Journals.{gtids_of}
use Rattle.gtid_set.specs.Full.{IsFaultOf}
use Rattle.gtid_set.proofs.FaultLemmas.{full_fault}
use Rattle.journal.proofs.FaultLemmas.{adding_fault}
use Rattle.journal.proofs.EntryLemmas.{gtids_of-push}
use Rattle.journal.proofs.add_gtids.Goals as goal

pub loop-entry-init : goal.loop-entry-init
loop-entry-init c = union_empty c.args.known.now

pub loop-entry-preserved : goal.loop-entry-preserved
loop-entry-preserved c =
    let i = c.loop-entry.entry-index in
    let all = c.args.entries.now in
    let e = c.entry-item.result in
    let front = take_more all i e (omega arith) ∙ ap (λ (x : Entry). take i all ++ x ∷ []) (sym c.entry-item.is) in
    let more = ap gtids_of front ∙ gtids_of-push (take i all) e in
    c.in-Ok.ensures.ok
    ∙ ap (λ s. set.insert s e.gtid) c.loop-entry.invariant
    ∙ union_insert c.args.known.now (gtids_of (take i all)) e.gtid
    ∙ ap (λ t. set.union c.args.known.now t) (sym more)

pub returns-in-Err-clause-fault : goal.returns-in-Err-clause-fault
returns-in-Err-clause-fault c =
    let i = c.loop-entry.entry-index in
    let all = c.args.entries.now in
    let e = c.entry-item.result in
    let front = take_more all i e (omega arith) ∙ ap (λ (x : Entry). take i all ++ x ∷ []) (sym c.entry-item.is) in
    let more = ap gtids_of front ∙ gtids_of-push (take i all) e in
    let made : set.insert c.loop-entry.known e.gtid ≡ set.union c.args.known.now (gtids_of (take (i + 1) all)) = ap (λ s. set.insert s e.gtid) c.loop-entry.invariant ∙ union_insert c.args.known.now (gtids_of (take i all)) e.gtid ∙ ap (λ t. set.union c.args.known.now t) (sym more) in
    adding_fault c.in-Err.fault (i + 1) c.args.known.now all (subst (λ s. IsFaultOf c.in-Err.fault s) made (full_fault c.in-Err.fault _ c.in-Err.ensures.full))
