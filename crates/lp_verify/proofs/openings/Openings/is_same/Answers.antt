use Rattle.lp_verify.specs.Openings.{list_at}
use Rattle.lp_verify.proofs.Opened.{same_number, same_numbers}
use Rattle.lp_verify.proofs.openings.Openings.is_same.Goals as goal

pub returns : goal.returns
returns c = same_numbers c.args.one c.args.other (λ k. list_at c.args.self.now k)
    (same_number c.self.inside.rows.keys c.args.self.now c.args.one c.args.other c.self.invariant c.self.view_is c.requires.one_in c.requires.other_in)
