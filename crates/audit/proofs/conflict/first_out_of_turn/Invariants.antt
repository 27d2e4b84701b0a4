use Rattle.std.proofs.Common.{◌≡◌, drop}
use Rattle.world.specs.Bundles.{histories_of}
use Rattle.audit.specs.Chains.{no_chain, chains_of, conflict_from}
use Rattle.audit.proofs.conflict.first_out_of_turn.Given as goal

abbrev pub invariant-loop-number : goal.invariant-loop-number
invariant-loop-number l =
    conflict_from l.schema (histories_of l.opened l.journals) l.number (histories_of l.opened (drop l.number l.journals)) (chains_of l.chains.entries)
    ≡ conflict_from l.schema (histories_of l.opened l.journals) 0 (histories_of l.opened l.journals) (λ k. no_chain)
