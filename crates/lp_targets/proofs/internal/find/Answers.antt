use Rattle.std.proofs.Common.{None, Some, refl}
use Rattle.lp_targets.proofs.Memory.{program_row, some_row, there_still}
use Rattle.lp_targets.proofs.Worlds.{internal_text, target_is}
use Rattle.lp_targets.proofs.internal.find.Goals as goal

pub keep-requires-clause-there : goal.keep-requires-clause-there
keep-requires-clause-there c = program_row c.args.live.now.versions c.args.version c.requires.there

pub keep-requires-clause-answer : goal.keep-requires-clause-answer
keep-requires-clause-answer c = c.in-Some.ensures.function refl

pub keep_nothing-requires-clause-there : goal.keep_nothing-requires-clause-there
keep_nothing-requires-clause-there c = program_row c.args.live.now.versions c.args.version c.requires.there

pub returns-in-Some-clause-there : goal.returns-in-Some-clause-there
returns-in-Some-clause-there c = there_still c.args.live.now c.keep.new.live (Some c.in-Some.callee) c.keep.ensures.stays c.in-Some.ensures.there

pub returns-in-Some-clause-stands : goal.returns-in-Some-clause-stands
returns-in-Some-clause-stands c = λ told programs w o h e p who.
    c.keep.ensures.stands told programs w h.stands
    (target_is told programs c.args.live.now w c.args.this o c.args.version c.args.part c.args.code.now c.args.slot c.args.row.now c.found_by-answer.result h e p who c.requires.slot
    (c.found_by-answer.ensures told programs w c.args.this o c.args.slot h e p c.requires.there who c.requires.slot))

pub returns-in-Some-clause-found : goal.returns-in-Some-clause-found
returns-in-Some-clause-found c = λ told programs w o h e p who.
    let z = some_row _ c.requires.there in
    c.in-Some.ensures.is told programs w o z.0 _ h c.requires.closed e p z.1 (internal_text programs w c.args.this c.args.part c.args.code.now c.args.row.now.name who)
    (c.found_by-answer.ensures told programs w c.args.this o c.args.slot h e p c.requires.there who c.requires.slot)

pub returns-in-None-clause-there : goal.returns-in-None-clause-there
returns-in-None-clause-there c = there_still c.args.live.now c.keep_nothing.new.live None c.keep_nothing.ensures.stays c.in-None.ensures.there

pub returns-in-None-clause-stands : goal.returns-in-None-clause-stands
returns-in-None-clause-stands c = λ told programs w o h e p who.
    c.keep_nothing.ensures.stands told programs w h.stands
    (target_is told programs c.args.live.now w c.args.this o c.args.version c.args.part c.args.code.now c.args.slot c.args.row.now c.found_by-answer.result h e p who c.requires.slot
    (c.found_by-answer.ensures told programs w c.args.this o c.args.slot h e p c.requires.there who c.requires.slot))

pub returns-in-None-clause-found : goal.returns-in-None-clause-found
returns-in-None-clause-found c = λ told programs w o h e p who.
    let z = some_row _ c.requires.there in
    c.in-None.ensures.is told programs w o z.0 _ h c.requires.closed e p z.1 (internal_text programs w c.args.this c.args.part c.args.code.now c.args.row.now.name who)
    (c.found_by-answer.ensures told programs w c.args.this o c.args.slot h e p c.requires.there who c.requires.slot)
