use Rattle.std.proofs.Common.{sym, ◌∙◌, arith}
use Rattle.std.specs.Char.{is_ascii_whitespace}
use Rattle.std.proofs.lemmas.List.Sums.{position_or_len_is}
use Rattle.binlog_files.proofs.accepted.word_len.Goals as goal

pub returns-then-is_ascii_whitespace-clause-place : goal.returns-then-is_ascii_whitespace-clause-place
returns-then-is_ascii_whitespace-clause-place c =
    sym (position_or_len_is is_ascii_whitespace c.args.text.now c.loop-place.place 0 (omega arith) c.loop-place.invariant (λ _. sym c.is_ascii_whitespace.ensures.value ∙ c.if-is_ascii_whitespace.true))

pub returns-clause-place : goal.returns-clause-place
returns-clause-place c = sym (position_or_len_is is_ascii_whitespace c.args.text.now _ 0 (omega arith) (λ k h. c.loop-place.invariant k (omega arith)) (λ h. absurd (omega (arith, h))))
