use Rattle.std.proofs.Common.{refl}
use Rattle.lp_wire.proofs.Playing.{one_passed}
use Rattle.lp_wire.proofs.memory.MemWire.pass_happening.Goals as goal

pub returns-then-self-len : goal.returns-then-self-len
returns-then-self-len c = rw (← c.self.view_is, one_passed c.self.inside.given c.self.inside.happenings.items) refl
