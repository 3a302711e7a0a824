use Rattle.std.proofs.Common.{None, Some}
use Rattle.lp_serve.proofs.Blaming.{last_no_fall, stops_rose_as, tried_last_as}
use Rattle.lp_serve.proofs.run.stop.Goals as goal

pub returns-in-Ok-clause-files : goal.returns-in-Ok-clause-files
returns-in-Ok-clause-files g c = tried_last_as _ None _ _ _ _ _ _ _ _ c.in-Ok-None.field-0-is c.write_last.ensures.files c.in-Ok-None.ensures.stops

pub returns-in-Ok-clause-no_fall : goal.returns-in-Ok-clause-no_fall
returns-in-Ok-clause-no_fall g c = last_no_fall c.write_last.result _ _ _ _ _ _ _ c.write_last.ensures.stops c.write_last.ensures.cut

pub returns-in-Err-write_end-clause-no_fall : goal.returns-in-Err-write_end-clause-no_fall
returns-in-Err-write_end-clause-no_fall g c = last_no_fall c.write_last.result _ _ _ _ _ _ _ c.write_last.ensures.stops c.write_last.ensures.cut

pub returns-in-Ok-write_end-clause-files : goal.returns-in-Ok-write_end-clause-files
returns-in-Ok-write_end-clause-files g c = (
  tried_last_as _ (Some c.in-Ok-Some.path) _ _ _ _ _ _ _ _ c.in-Ok-Some.field-0-is c.write_last.ensures.files c.in-Ok-Some.ensures.stops,
  stops_rose_as _ c.in-Ok-Some.path _ _ _ _ _ _ _ c.in-Ok-Some.field-0-is c.in-Ok-Some.ensures.stops,
)

pub returns-in-Ok-write_end-clause-no_fall : goal.returns-in-Ok-write_end-clause-no_fall
returns-in-Ok-write_end-clause-no_fall g c = last_no_fall c.write_last.result _ _ _ _ _ _ _ c.write_last.ensures.stops c.write_last.ensures.cut

pub returns-in-Err-write_end-2-clause-no_fall : goal.returns-in-Err-write_end-2-clause-no_fall
returns-in-Err-write_end-2-clause-no_fall g c = last_no_fall c.write_last.result _ _ _ _ _ _ _ c.write_last.ensures.stops c.write_last.ensures.cut

pub returns-in-Err-clause-no_fall : goal.returns-in-Err-clause-no_fall
returns-in-Err-clause-no_fall g c = last_no_fall c.write_last.result _ _ _ _ _ _ _ c.write_last.ensures.stops c.write_last.ensures.cut
