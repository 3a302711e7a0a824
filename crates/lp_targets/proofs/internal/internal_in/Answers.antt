use Rattle.std.proofs.Common.{◌≡◌, ◌∙◌, arith, sym, subst}
use Rattle.lp_code.specs.declared.tables.Slot.{Slot}
use Rattle.lp_language.specs.Resolve.{heritage_of, internal_from, part_at}
use Rattle.lp_targets.specs.Callees.{IsAnswer}
use Rattle.lp_part_laws.proofs.Lists.{is_below}
use Rattle.lp_targets.proofs.Memory.{stays_same}
use Rattle.lp_targets.proofs.Lookups.{one_some}
use Rattle.lp_targets.proofs.internal.internal_in.Goals as goal

pub returns-then-slot-gt65535-clause-stays : goal.returns-then-slot-gt65535-clause-stays
returns-then-slot-gt65535-clause-stays c = stays_same c.args.live.now

pub returns-then-slot-gt65535-clause-found : goal.returns-then-slot-gt65535-clause-found
returns-then-slot-gt65535-clause-found c = λ told programs w o row h e p who r. let l = is_below c.args.code.now.tables.slots c.args.slot row r in absurd (omega (arith, l))

pub internal_at-requires-clause-slot : goal.internal_at-requires-clause-slot
internal_at-requires-clause-slot c = sym c.in-Some.ensures

pub returns-in-Some-clause-found : goal.returns-in-Some-clause-found
returns-in-Some-clause-found c = λ told programs w o row h e p who r.
    let same : c.in-Some.row.now ≡ row = one_some c.in-Some.row.now row (c.in-Some.ensures ∙ r) in
    subst (λ (z : Slot). IsAnswer programs w c.args.this c.internal_at.result (internal_from (heritage_of w c.args.this) (part_at (heritage_of w c.args.this) c.args.part) z.name)) same
    (c.internal_at.ensures.found told programs w o h e p who)

pub returns-in-None-clause-stays : goal.returns-in-None-clause-stays
returns-in-None-clause-stays c = stays_same c.args.live.now

pub returns-in-None-clause-found : goal.returns-in-None-clause-found
returns-in-None-clause-found c = λ told programs w o row h e p who r. let n = c.in-None.ensures ∙ r in absurd cc
