use Rattle.std.specs.Prelude.{Ok, Err}
use Rattle.commands.proofs.BundleRead.{bundle_read, lines_counted, counted_read}
use Rattle.commands.proofs.Telling.{error_text}
use Rattle.commands.proofs.text.CountedBundleText.finish.Goals as goal

pub returns-in-Ok : goal.returns-in-Ok
returns-in-Ok c = λ bytes come.
    let b = c.in-Ok.bundle in
    let lines = c.lines-lines.result in
    counted_read bytes b lines (bundle_read c.args.reader bytes (Ok b) c.in-Ok.ensures come) (lines_counted c.args.reader bytes b lines c.in-Ok.ensures come c.lines-lines.ensures)

pub returns-in-Err : goal.returns-in-Err
returns-in-Err c = λ bytes come. error_text bytes c.in-Err.fault (bundle_read c.args.reader bytes (Err c.in-Err.fault) c.in-Err.ensures come)
