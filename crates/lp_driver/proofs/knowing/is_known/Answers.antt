use Rattle.std.proofs.Common.{◌∙◌, ap, option_map, sym}
use Rattle.std.specs.Str.{chars}
use Rattle.lp_driver.proofs.Known.{name_known}
use Rattle.lp_driver.proofs.knowing.is_known.Goals as goal

pub returns-in-Some : goal.returns-in-Some
returns-in-Some c = λ t objects h. name_known c.args.names.now objects c.args.n (chars c.in-Some.field-0.now) (ap (option_map (λ s. chars s.now)) (sym c.in-Some.is) ∙ c.name.ensures objects h)
