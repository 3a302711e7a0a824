use Rattle.lp_eventless.proofs.Readers.{gone, script_within, taken-after, says-of, ends-reading}
use Rattle.lp_eventless.proofs.reading.next_item.Goals as goal

pub returns-in-Ok-clause-end : goal.returns-in-Ok-clause-end
returns-in-Ok-clause-end g c = λ b xs go v h e.
    let s = c.in-Ok.ensures.end b xs go v (taken-after b c.next.new.self _ c.in-Ok.item c.in-Ok.ensures.phase (c.in-Ok.ensures.reads b h)) e in
    (s, script_within b c.next.new.self _ (c.in-Ok.ensures.given xs go v) s)

pub returns-in-Err-clause-fault : goal.returns-in-Err-clause-fault
returns-in-Err-clause-fault g c = λ b xs go v h.
    let s = says-of b c.next.new.self _ xs c.in-Err.fault c.in-Err.ensures.phase (c.in-Err.ensures.reads b h) (λ i. c.in-Err.ensures.fault b xs go v i) in
    ends-reading b c.args.reader.now _ xs c.in-Err.fault h go v s

pub returns-in-Ok-clause-most : goal.returns-in-Ok-clause-most
returns-in-Ok-clause-most g c = λ b h. gone b c.next.new.self _ c.in-Ok.ensures.most (c.in-Ok.ensures.reads b h)

pub returns-in-Err-clause-most : goal.returns-in-Err-clause-most
returns-in-Err-clause-most g c = λ b h. gone b c.next.new.self _ c.in-Err.ensures.most (c.in-Err.ensures.reads b h)
