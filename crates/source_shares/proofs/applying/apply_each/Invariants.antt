use Rattle.std.proofs.Common.{◌≡◌, map, drop}
use Rattle.history.specs.Sources.{apply_all}
use Rattle.source_shares.specs.Shares.{is_in_share, of_share}
use Rattle.source_shares.proofs.applying.apply_each.Given as goal

abbrev pub invariant-loop-entry : goal.invariant-loop-entry
invariant-loop-entry l =
    (l.turn.own ≡ is_in_share l.shares l.share l.turn.source)
    × (l.rows.schema ≡ l.fn.rows.schema)
    × (apply_all l.fn.rows.schema (of_share l.shares l.share (map (λ e. e.now) (drop l.entry-index l.entries))) l.rows.rows ≡ apply_all l.fn.rows.schema (of_share l.shares l.share (map (λ e. e.now) l.entries)) l.fn.rows.rows)
