-- How the program ends: its exit status, and its message on standard error.
use Rattle.std.specs.Prelude.{ℕ, List, [], Result, Ok, Err, codes, string_bytes}
use Rattle.commands.specs.declared.edge.Outcome.{Outcome}
use Rattle.commands.specs.declared.edge.RunFault.{RunFault}
use Rattle.commands.specs.declared.edge.Outcome.TheVariants.{Done, Assumed, Refused, Misused}
use Rattle.commands.specs.declared.edge.RunFault.TheVariants.{Memory, Read, Write}
use Rattle.gtidrep.specs.declared.line.CommandFault.TheVariants as line
use Rattle.gtidrep.specs.declared.ending.Ending.{Ending}
use Rattle.gtidrep.specs.declared.ending.Ending.TheVariants.{Ran, FileUnread, NoCommand}

-- how it ends where a command has run over a file in the place of standard input
abbrev pub ran_over_file : Result Outcome RunFault → Ending
ran_over_file (Err Read) = FileUnread
ran_over_file (Err Memory) = Ran (Err Memory)
ran_over_file (Err Write) = Ran (Err Write)
ran_over_file (Ok outcome) = Ran (Ok outcome)

-- the status that the program ends with
abbrev pub status_of : Ending → ℕ
status_of (Ran (Ok Done)) = 0
status_of (Ran (Ok Refused)) = 1
status_of (Ran (Ok Assumed)) = 5
status_of (Ran (Ok Misused)) = 2
status_of (Ran (Err Memory)) = 3
status_of (Ran (Err Read)) = 4
status_of (Ran (Err Write)) = 4
status_of FileUnread = 4
status_of (NoCommand line.Memory) = 3
status_of (NoCommand line.NotUtf8) = 2
status_of (NoCommand (line.Line text)) = 2

-- the functions of `set`, by the words that they take
abbrev pub functions_text : List ℕ
functions_text = codes "Functions of one set: normalize, count. Of two sets: union, intersect, subtract, symmetric,\nsubset, equal, disjoint. Of a set and a UUID: only, without.\n"

-- The message on standard error, after what the command wrote there. A refusal is printed by its command; where the words of `set` are
-- refused, the message lists the functions.
abbrev pub message_of : Ending → List ℕ
message_of (Ran (Ok Done)) = []
message_of (Ran (Ok Assumed)) = []
message_of (Ran (Ok Refused)) = []
message_of (Ran (Ok Misused)) = functions_text
message_of (Ran (Err Memory)) = codes "gtidrep: out of memory\n"
message_of (Ran (Err Read)) = codes "gtidrep: reading standard input failed\n"
message_of (Ran (Err Write)) = codes "gtidrep: writing failed\n"
message_of FileUnread = codes "gtidrep: reading the file failed\n"
message_of (NoCommand line.Memory) = codes "gtidrep: out of memory\n"
message_of (NoCommand line.NotUtf8) = codes "gtidrep: a word of the command line is not UTF-8\n"
message_of (NoCommand (line.Line text)) = string_bytes text
