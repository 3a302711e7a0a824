use Rattle.std.proofs.Common.{rules, subst, sym}
use Rattle.lp_format.specs.Answers.{Appends}
use Rattle.lp_format.specs.Conversions.{written}
use Rattle.lp_format.specs.Spelled.{spelled}
use Rattle.lp_format.proofs.WriteLemmas.{directive_is, filled_on}
use Rattle.lp_format.proofs.write.write_directive.Goals as goal

pub returns-clause-text : goal.returns-clause-text
returns-clause-text g c =
    let live = g.L.Living.live c.args.names.now in
    let spell = spelled live (g.L.Names.name c.args.names.now) c.args.cells.now in
    let is = directive_is live spell c.args.args.now c.args.used.now c.measured.new.used c.measured-2.new.used c.args.d c.in_ok-width.width c.in_ok-precision.precision c.in_ok-width.ensures.value c.in_ok-width.ensures.used c.in_ok-precision.ensures.value c.in_ok-precision.ensures.used in
    subst (Appends c.fill.result c.args.out.now c.fill.new.out) (sym is) (filled_on (written live spell c.args.args.now c.measured-2.new.used c.in_ok-precision.precision c.args.d.conversion) c.fill.result c.args.out.now c.write_conversion.new.out c.fill.new.out c.args.d c.in_ok-width.width c.in_ok-write_conversion.ensures.text (search rules))
