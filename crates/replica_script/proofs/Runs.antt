-- A script that is run from its start.
use Rattle.std.proofs.Common.{ℕ, List, Option, Some, None, IfSome, Result}
use Rattle.replica_script.specs.declared.answer.Asking.{Asking}
use Rattle.replica_script.specs.declared.edge.ScriptFault.{ScriptFault}
use Rattle.replica_script.specs.declared.script.Script.{Script}
use Rattle.replica_script.specs.Told.{IsStart, IsTold, IsStoppedBy, script_end}
use Rattle.replica_script.specs.Answering.{Ends, IsRun}

pub run_from : (asking : Asking) (start : Script) (input old new : Option (List ℕ)) (result : Result (Unit {0}) ScriptFault)
    → IsStart asking start → IfSome input (λ all. Ends IsTold IsStoppedBy script_end start all old new result) → IfSome input (λ all. IsRun asking all old new result)
run_from asking start None old new result begun ended = tt
run_from asking start (Some all) old new result begun ended = (start, begun, ended)
