use Rattle.lp_adapters.proofs.opening.open.Goals as goal

pub returns-in-Err : goal.returns-in-Err
returns-in-Err g c = record { names = c.in-Err.ensures _ _ _ _ }

pub returns-in-Err-open_wire : goal.returns-in-Err-open_wire
returns-in-Err-open_wire g c = record { names = c.wire_fault.ensures _ _ _ _ c.in-Err-open_wire.ensures }
