use Rattle.std.proofs.Common.{◌≡◌, ℕ, ◌<◌, false, get_or}
use Rattle.std.specs.Char.{is_ascii_whitespace}
use Rattle.binlog_files.proofs.accepted.word_len.Given as goal

abbrev pub invariant-loop-place : goal.invariant-loop-place
invariant-loop-place l = (k : ℕ) → k < l.place → is_ascii_whitespace (get_or l.text k 0) ≡ false
