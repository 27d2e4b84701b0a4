use Rattle.std.proofs.Common.{◌≡◌, ◌++◌, drop}
use Rattle.std.specs.Prelude.{option_map}
use Rattle.binlog_text.specs.Quoted.{read_quoted, HighFits}
use Rattle.binlog_text.specs.declared.quoted.Mode.TheVariants as modes
use Rattle.binlog_text.proofs.quoted.read_quoted.Given as goal

-- the bytes so far and those of the rest are those of all
abbrev pub invariant-loop-byte : goal.invariant-loop-byte
invariant-loop-byte l = record {
  told : option_map (λ bs. l.bytes.items ++ bs) (read_quoted l.mode (drop l.byte-index l.text)) ≡ read_quoted modes.Plain l.text;
  fits : HighFits l.mode;
}
