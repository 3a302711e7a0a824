use Rattle.std.proofs.Common.{ap, sym, ◌∙◌}
use Rattle.std.specs.Option.{option_copied}
use Rattle.lp_preproc.specs.Expansion.{fails}
use Rattle.lp_preproc.proofs.expander.take_directive.Goals as goal

pub returns-in-Some : goal.returns-in-Some
returns-in-Some c = λ c' i.
    rw (sym c.skips.ensures ∙ c.if-skips.false) (rw (sym c.bad_place.ensures ∙ ap option_copied c.in-Some.is) (rw c.line_of.ensures fails))
