use Rattle.std.proofs.Common.{rules, subst}
use Rattle.lp_format.specs.Answers.{Becomes}
use Rattle.lp_format.proofs.WriteLemmas.{fill_is}
use Rattle.lp_format.proofs.write.fill.Goals as goal

pub returns : goal.returns
returns c = subst (Becomes c.put_in.result c.put_in.new.self) (fill_is c.args.start c.fill_place.result c.missing-n.result c.filler.result c.args.out.now c.args.d c.args.width (search rules) (search rules) c.filler.ensures) c.put_in.ensures
