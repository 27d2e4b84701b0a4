use Rattle.std.proofs.Common.{◌∙◌, arith}
use Rattle.binlog_rows.proofs.SignWalks.{place_within, signed_next, signed_all}
use Rattle.binlog_rows.proofs.signs.signed.Goals as goal

pub loop-column-preserved : goal.loop-column-preserved
loop-column-preserved c =
    record {
      within =
          place_within _ c.loop-column.place c.place_behind-place.result c.loop-column.column-index c.place_behind-place.ensures
          c.loop-column.invariant.within;
      signed =
          signed_next c.args.bits.now c.loop-column.place c.place_behind-place.result c.loop-column.column-index c.args.columns.now
          c.loop-column.found.items c.push.new.self.items _ c.with_sign.result c.sign_at.result (omega arith) c.in_ok-push.ensures.items
          c.with_sign.ensures c.sign_at.ensures c.place_behind-place.ensures
          ∙ c.loop-column.invariant.signed;
    }

pub returns : goal.returns
returns c =
    signed_all c.args.bits.now c.loop-column.place c.loop-column.column-index c.args.columns.now c.loop-column.found.items (omega arith)
    ∙ c.loop-column.invariant.signed
