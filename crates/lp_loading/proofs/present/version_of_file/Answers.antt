use Rattle.std.proofs.Common.{◌∙◌, ◌++◌, ap, codes, sym}
use Rattle.lp_loading.specs.Present.{all_made}
use Rattle.lp_loading.proofs.Worlds.{none_of_file, some_of_file}
use Rattle.lp_loading.proofs.present.version_of_file.Goals as goal

pub returns-in-Some : goal.returns-in-Some
returns-in-Some c =
    let e = c.in-Some.ensures.cases in
    c.version_named.ensures ∙ some_of_file (all_made c.args.made.now) c.args.live.now c.args.path.now c.in-Some.name.now c.utf8.path (e.1.1 ∙ ap (λ l. l ++ codes ".c") (sym e.2))

pub returns-in-None : goal.returns-in-None
returns-in-None c = none_of_file (all_made c.args.made.now) c.args.live.now c.args.path.now c.in-None.ensures.cases
