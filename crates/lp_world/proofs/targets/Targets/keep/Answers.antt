use Rattle.std.proofs.Common.{◌<◌, length, rules}
use Rattle.lp_world.specs.Targets.{answer_at}
use Rattle.lp_world.proofs.Answering.{part_kept, part_same}
use Rattle.lp_world.proofs.targets.Targets.keep.Goals as goal

pub returns-clause-ok : goal.returns-clause-ok
returns-clause-ok c =
    let n : c.args.part < length c.grow.new.self.parts.items = search (rules, c.in_ok-grow.ensures.room) in
    part_kept c.keep.result c.grow.new.self.parts.items (answer_at c.args.self.now) c.args.part c.args.slot c.index_mut.result.now c.keep.new.self c.args.answer n c.index_mut.ensures.value c.grow.ensures.same c.keep.ensures.ok

pub returns-clause-err : goal.returns-clause-err
returns-clause-err c =
    let n : c.args.part < length c.grow.new.self.parts.items = search (rules, c.in_ok-grow.ensures.room) in
    part_same c.keep.result c.grow.new.self.parts.items (answer_at c.args.self.now) c.args.part c.index_mut.result.now c.keep.new.self n c.index_mut.ensures.value c.grow.ensures.same c.keep.ensures.err
