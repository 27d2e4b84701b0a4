use Rattle.std.proofs.Common.{◌≡◌, None, refl, sym, rules, ◌∙◌}
use Rattle.binlog_frames.specs.Standing.{unfinished}
use Rattle.log_transactions.specs.States.{state}
use Rattle.binlog_files.specs.Moved.{files_state}
use Rattle.binlog_files.specs.Whole.{told_by}
use Rattle.binlog_files.proofs.Wholes.{at_start, cut_short, idle, not_idle}
use Rattle.binlog_files.proofs.files.LogFiles.end_file.Goals as goal

pub returns-in-Some-clause-stops : goal.returns-in-Some-clause-stops
returns-in-Some-clause-stops c = λ opening from bytes h.
    cut_short opening from (files_state c.args.self.now.taken) bytes c.args.self.now.frames c.in-Some.fault (sym c.unfinished.ensures ∙ c.in-Some.is) h

pub returns-in_default-end_file-clause-stops : goal.returns-in_default-end_file-clause-stops
returns-in_default-end_file-clause-stops c = λ opening from bytes h. (
  refl,
  record {
    reading = c.args.self.now.frames;
    state = files_state c.args.self.now.taken;
    behind = h.0;
    place = c.offset.ensures;
    unended = not_idle c.in_default-end_file.field-0 (state c.args.self.now.taken.log) (state c.args.self.now.taken.log) c.in_default-end_file.ensures;
  },
)

pub returns-clause-ended : goal.returns-clause-ended
returns-clause-ended c = λ opening from bytes h.
    let finished : unfinished c.args.self.now.frames ≡ None = search rules in
    record {
      tells = told_by opening from h.0.events;
      file = record {
        events = h.0.events;
        ends = record { last = c.args.self.now.frames; follows = h.0.follows; none = h.1; finished = finished };
        taken = h.0.taken;
        idle = idle c.in-Ok.field-0 (state c.args.self.now.taken.log) (state c.args.self.now.taken.log) c.in-Ok.ensures;
        tell = refl;
      };
      next = at_start opening c.new.result (files_state c.args.self.now.taken) (files_state c.args.self.now.taken) c.new.ensures refl;
    }
