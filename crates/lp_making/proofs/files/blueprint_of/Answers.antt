use Rattle.std.proofs.Common.{◌∙◌, sym}
use Rattle.lp_making.proofs.Reloaded.{ascii_name, its_blueprint, no_blueprint}
use Rattle.lp_making.proofs.files.blueprint_of.Goals as goal

pub blueprint-requires : goal.blueprint-requires
blueprint-requires c = let s = c.in-Some.ensures.cases in record { ascii = ascii_name c.args.path.now c.in-Some.name.now s.0 s.2 c.requires.ascii }

pub returns-in-None : goal.returns-in-None
returns-in-None c = λ w h. sym (no_blueprint w c.args.path.now c.in-None.ensures.cases)

pub returns-in-Some : goal.returns-in-Some
returns-in-Some c = λ w h.
    let s = c.in-Some.ensures.cases in
    c.blueprint.ensures w h ∙ sym (its_blueprint w c.args.path.now c.in-Some.name.now s.0 s.1.0 s.1.1 s.2 s.3)
