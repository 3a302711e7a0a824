use Rattle.lp_calling.proofs.Audiences.{told_done}
use Rattle.lp_calling.proofs.audience.tell_listener.Goals as goal

pub returns-in_ok-tell_number-in-Some-clause-hears : goal.returns-in_ok-tell_number-in-Some-clause-hears
returns-in_ok-tell_number-in-Some-clause-hears c =
    let a = c.args in
    told_done a.audience.now a.live.now c.tell_number.new.live a.o c.in-Some.number c.requires.told c.requires.lives c.in-Some.ensures c.in_ok-tell_number-in-Some.ensures.out
