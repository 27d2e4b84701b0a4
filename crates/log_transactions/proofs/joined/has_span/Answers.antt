use Rattle.std.proofs.Common.{refl}
use Rattle.log_transactions.proofs.SpansWithin.{run_within, none_within}
use Rattle.log_transactions.proofs.joined.has_span.Goals as goal

pub returns-in-Some : goal.returns-in-Some
returns-in-Some c =
    let span = c.args.span.now in
    run_within c.args.whole.now span.source span.lo span.hi c.in-Some.last _ c.in-Some.ensures.some refl

pub returns-in-None : goal.returns-in-None
returns-in-None c =
    let span = c.args.span.now in
    none_within c.args.whole.now span.source span.lo span.hi _ c.in-None.ensures.none refl
