use Rattle.std.proofs.Common.{◌≡◌, Bool, true, false, not, refl, sym, ◌∙◌}
use Rattle.std.proofs.lemmas.List.{take_rest}
use Rattle.std.proofs.lemmas.Slice.Eq.{bytes_eq-Decides}
use Rattle.txn_journal.proofs.NearGtids.{near_spelled}
use Rattle.txn_journal.proofs.numbers.SourceText.gtid_in.Goals as goal

same : (b : Bool) → not b ≡ false → b ≡ true
same true e = refl
same false e = absurd cc

pub returns : goal.returns
returns c =
    let equal : c.split_at.result.0.now ≡ c.as_slice.result.now = (bytes_eq-Decides c.split_at.result.0.now c.as_slice.result.now).0 (same _ (sym c.ne.ensures ∙ c.if-ne.false)) in
    near_spelled c.args.word.now _ _ _ c.args.self.now.source c.in_ok-number.number c.if-word-le-SOURCE_LEN.false c.split_at.ensures.front c.split_at.ensures.back c.if-back-ne58.false (take_rest c.split_at.result.1.now 1)
    (equal ∙ c.as_slice.ensures ∙ c.args.self.now.spelled) c.in_ok-number.ensures c.args.self.now.small c.if-number-lt1.false c.if-number-gt-MAX_NUMBER.false
