use Rattle.std.proofs.Common.{◌∙◌, ◌+◌, ap, drop, arith}
use Rattle.binlog_rows.specs.Signs.{numbered_from}
use Rattle.binlog_rows.proofs.SignWalks.{place_within, numbered_on, numbered_all}
use Rattle.binlog_rows.proofs.signs.numeric_count.Goals as goal

pub loop-column-preserved : goal.loop-column-preserved
loop-column-preserved c =
    record {
      within =
          place_within _ c.loop-column.place c.place_behind-place.result c.loop-column.column-index c.place_behind-place.ensures
          c.loop-column.invariant.within;
      numbered =
          ap (λ place. numbered_from place (drop (c.loop-column.column-index + 1) c.args.columns.now)) c.place_behind-place.ensures
          ∙ numbered_on c.loop-column.place c.loop-column.column-index c.args.columns.now _ (omega arith)
          ∙ c.loop-column.invariant.numbered;
    }

pub returns-clause-count : goal.returns-clause-count
returns-clause-count c = numbered_all c.loop-column.place c.loop-column.column-index c.args.columns.now (omega arith) ∙ c.loop-column.invariant.numbered
