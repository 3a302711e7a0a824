use Rattle.std.proofs.Common.{◌≡◌, ◌∙◌}
use Rattle.lp_cells.specs.Mapping.{objects_in}
use Rattle.lp_cells.proofs.ObjectLemmas.{length_without_objects}
use Rattle.lp_cells.proofs.pairs.Pairs.count_there.Goals as goal

pub returns-then-self-eq0-clause-value : goal.returns-then-self-eq0-clause-value
returns-then-self-eq0-clause-value g c = c.len.ensures.value ∙ length_without_objects (g.L.Living.live c.args.live.now) c.args.self.now (let n : objects_in c.args.self.now ≡ 0 = cc in n)
