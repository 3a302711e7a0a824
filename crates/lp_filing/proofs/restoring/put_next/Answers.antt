use Rattle.std.proofs.Common.{arith, get_or, refl}
use Rattle.lp_filing.specs.Rows.{with_given}
use Rattle.lp_filing.proofs.Putting.{memory_after, puts_next, puts_past}
use Rattle.lp_filing.proofs.restoring.put_next.Goals as goal

pub returns-then-at-places-clause-memory : goal.returns-then-at-places-clause-memory
returns-then-at-places-clause-memory c =
    memory_after c.args.objects.now c.put_given.new.objects c.args.this (λ vs. with_given vs (get_or c.args.places.now c.args.at.now 0) c.args.value) c.requires c.put_given.ensures

pub returns-then-at-places-clause-put : goal.returns-then-at-places-clause-put
returns-then-at-places-clause-put c =
    puts_next c.args.objects.now c.put_given.new.objects c.args.this c.args.places.now c.args.at.now (get_or c.args.places.now c.args.at.now 0) 0 c.args.value (omega arith) refl c.put_given.ensures

pub returns-else-at-places-clause-put : goal.returns-else-at-places-clause-put
returns-else-at-places-clause-put c = puts_past c.args.objects.now c.args.this c.args.places.now c.args.at.now c.args.value (omega arith)
