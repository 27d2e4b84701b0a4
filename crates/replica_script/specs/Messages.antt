-- What is written on standard error. The words are our own.
use Rattle.std.specs.Prelude.{ℕ, List, ◌++◌, codes, decimal}
use Rattle.std.specs.Str.Lossy.{utf8_lossy}
use Rattle.replica_script.specs.declared.edge.ScriptLine.{ScriptLine}
use Rattle.replica_script.specs.declared.edge.ScriptFault.{ScriptFault}
use Rattle.replica_script.specs.declared.edge.ScriptFault.TheVariants.{BadLine, CutShort, Memory, Changed, Read, Write}

-- a line that is not in the language: its number and its text, in which each sequence of bytes that is not UTF-8 is U+FFFD
abbrev pub bad_line_text : ScriptLine → List ℕ
bad_line_text line = codes "line " ++ decimal line.number ++ codes " is not in the language: " ++ utf8_lossy line.text.items

-- the message on each fault
abbrev pub fault_word : ScriptFault → List ℕ
fault_word (BadLine line) = codes "a line is not in the language"
fault_word CutShort = codes "the input ends inside a transaction"
fault_word Memory = codes "out of memory"
fault_word Changed = codes "a call that was refused memory has changed the replica"
fault_word Read = codes "reading standard input failed"
fault_word Write = codes "writing failed"
