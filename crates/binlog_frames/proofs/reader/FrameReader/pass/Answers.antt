use Rattle.std.proofs.Common.{arith}
use Rattle.binlog_frames.proofs.Stepping.{pass_all}
use Rattle.binlog_frames.proofs.ReadOn.{reads_on}
use Rattle.binlog_frames.proofs.reader.FrameReader.pass.Goals as goal

pub overflow_add-self : goal.overflow_add-self
overflow_add-self c =
    let p = pass_all _ _ _ _ _ _ _ c.step_from-step.result c.requires.0 c.self.view_is c.self.invariant c.as_slice.ensures.value c.rest_of-left.ensures c.step_from-step.ensures c.requires.1 in
    omega (arith, p.within)

pub invariant_of-self : goal.invariant_of-self
invariant_of-self c =
    (pass_all _ _ _ _ _ _ _ c.step_from-step.result c.requires.0 c.self.view_is c.self.invariant c.as_slice.ensures.value c.rest_of-left.ensures c.step_from-step.ensures c.requires.1).within

pub returns-clause-passed : goal.returns-clause-passed
returns-clause-passed c = λ e h.
    (pass_all _ _ _ _ _ _ _ c.step_from-step.result e c.self.view_is c.self.invariant c.as_slice.ensures.value c.rest_of-left.ensures c.step_from-step.ensures h).is

pub returns-clause-read : goal.returns-clause-read
returns-clause-read c = λ e h. reads_on _ _ e h ((pass_all _ _ _ _ _ _ _ c.step_from-step.result e c.self.view_is c.self.invariant c.as_slice.ensures.value c.rest_of-left.ensures c.step_from-step.ensures h).is)
