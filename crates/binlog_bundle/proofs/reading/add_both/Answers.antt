use Rattle.std.proofs.Common.{ℕ, List, OnOk, IfErr, ◌++◌, subst, append_assoc}
use Rattle.txn_journal.specs.BundleReaders.{bundle_reading}
use Rattle.binlog_bundle.specs.Refused.{IsFed, StopsAt}
use Rattle.binlog_bundle.proofs.Feeding.{stops_more}
use Rattle.binlog_bundle.proofs.reading.add_both.Goals as goal

pub returns-in-Err-clause-refused : goal.returns-in-Err-clause-refused
returns-in-Err-clause-refused c before fed =
    subst (StopsAt c.in-Err.fault) (append_assoc before c.args.front.now c.args.back.now) (stops_more c.in-Err.fault (before ++ c.args.front.now) c.args.back.now (c.in-Err.ensures.refused before fed))

pub returns-in-Ok-clause-fed : goal.returns-in-Ok-clause-fed
returns-in-Ok-clause-fed c before fed =
    subst (λ (x : List ℕ). OnOk c.add-in-Ok.result (IsFed (bundle_reading c.add-in-Ok.new.reader) x)) (append_assoc before c.args.front.now c.args.back.now)
    (c.add-in-Ok.ensures.fed (before ++ c.args.front.now) (c.in-Ok.ensures.fed before fed))

pub returns-in-Ok-clause-refused : goal.returns-in-Ok-clause-refused
returns-in-Ok-clause-refused c before fed =
    subst (λ (x : List ℕ). IfErr c.add-in-Ok.result (λ fault. StopsAt fault x)) (append_assoc before c.args.front.now c.args.back.now)
    (c.add-in-Ok.ensures.refused (before ++ c.args.front.now) (c.in-Ok.ensures.fed before fed))
