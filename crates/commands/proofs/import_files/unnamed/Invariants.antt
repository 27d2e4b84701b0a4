use Rattle.std.proofs.Common.{◌≡◌, drop}
use Rattle.commands.specs.Imports.{unnamed}
use Rattle.commands.proofs.import_files.unnamed.Given as goal

abbrev pub invariant-loop-log : goal.invariant-loop-log
invariant-loop-log l = unnamed (drop l.log-index l.logs) l.channels ≡ unnamed l.fn.logs l.fn.channels
