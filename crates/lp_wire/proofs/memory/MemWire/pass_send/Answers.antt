use Rattle.std.proofs.Common.{refl, ◌<◌, ◌≤◌, ◌-◌, length, arith}
use Rattle.lp_wire.proofs.Playing.{bound_passed, bound_stays}
use Rattle.lp_wire.proofs.memory.MemWire.pass_send.Goals as goal

pub returns-then-len-self-gt1 : goal.returns-then-len-self-gt1
returns-then-len-self-gt1 c =
    let more : 1 < length c.self.inside.takes.items - c.self.inside.sends = omega (arith, c.len.ensures, c.if-len-self-gt1.true) in
    rw (← c.self.view_is, bound_passed c.self.inside.sends c.self.inside.takes.items more) refl

pub returns-else-len-self-gt1 : goal.returns-else-len-self-gt1
returns-else-len-self-gt1 c =
    let last : length c.self.inside.takes.items - c.self.inside.sends ≤ 1 = omega (arith, c.len.ensures, c.if-len-self-gt1.false) in
    rw (← c.self.view_is, ← bound_stays c.self.inside.sends c.self.inside.takes.items last) refl
