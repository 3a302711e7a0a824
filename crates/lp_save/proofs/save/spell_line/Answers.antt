use Rattle.std.proofs.Common.{◌++◌, ap, ◌∙◌}
use Rattle.lp_save.proofs.SpellLemmas.{on_ok_both, spelt_line}
use Rattle.lp_save.proofs.save.spell_line.Goals as goal

pub returns : goal.returns
returns g c =
    on_ok_both c.add-3.result
    (spelt_line (g.L.Living.live c.args.live.now) c.args.cells.now c.args.shared.now c.args.speller.now c.add.new.speller c.add-2.new.speller c.spell.new.speller c.add-3.new.speller c.args.var.now
    (c.in_ok-add.ensures.text ∙ ap (λ x. c.args.speller.now.text.items ++ x) c.as_slice.ensures) c.in_ok-add.ensures.done c.in_ok-add-2.ensures.text c.in_ok-add-2.ensures.done c.in_ok-spell.ensures)
    c.add-3.ensures.text c.add-3.ensures.done
