use Rattle.std.proofs.Common.{◌∙◌}
use Rattle.lp_verify.proofs.Opened.{first_empty, innermost_of}
use Rattle.lp_verify.proofs.openings.Openings.innermost.Goals as goal

pub returns-then-number-eq0 : goal.returns-then-number-eq0
returns-then-number-eq0 c = first_empty c.self.inside.rows.keys c.args.self.now c.args.number c.self.view_is c.if-number-eq0.true

pub returns : goal.returns
returns c = innermost_of c.self.inside.rows.keys c.args.self.now c.args.number c.copied.result c.self.invariant c.self.view_is c.requires c.if-number-eq0.false (c.copied.ensures ∙ c.get_index.ensures.key)
