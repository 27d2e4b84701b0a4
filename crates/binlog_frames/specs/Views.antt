-- What the code gives, without where it lies in memory.
use Rattle.std.specs.Prelude.{◌≡◌, Option, Some, None, Result, Ok, Err}
use Rattle.binlog_frames.specs.declared.event.LoggedEvent.{LoggedEvent}
use Rattle.binlog_frames.specs.declared.fault.FaultKind.{FaultKind}
use Rattle.binlog_frames.specs.Spelling.{Framed}

abbrev pub view : LoggedEvent → Framed
view e = record { time = e.time; kind = e.kind; server = e.server; flags = e.flags; body = e.body.now }

-- the event that was read
abbrev pub IsEvent : Result LoggedEvent FaultKind → Result Framed FaultKind → Type 0
IsEvent (Ok e) read = read ≡ Ok (view e)
IsEvent (Err f) read = read ≡ Err f

-- the event that is at the front
abbrev pub IsFound : Result (Option LoggedEvent) FaultKind → Result (Option Framed) FaultKind → Type 0
IsFound (Ok None) read = read ≡ Ok None
IsFound (Ok (Some e)) read = read ≡ Ok (Some (view e))
IsFound (Err f) read = read ≡ Err f
