use Rattle.std.proofs.Common.{subst, OnOk, length, ◌<◌, ◌^◌, All}
use Rattle.lp_encoding.specs.Programs.{slot}
use Rattle.lp_encoding.proofs.rows.SlotsCoded.put.Goals as goal

pub returns-clause-fits : goal.returns-clause-fits
returns-clause-fits c = subst (λ xs. OnOk c.put_list.result ((length xs < 2 ^ 32) × All slot.Fits xs)) c.as_slice.ensures c.put_list.ensures.fits
