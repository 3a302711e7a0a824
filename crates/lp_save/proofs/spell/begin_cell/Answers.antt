use Rattle.std.proofs.Common.{◌++◌, ap, ◌∙◌}
use Rattle.std.specs.Prelude.{codes}
use Rattle.lp_save.specs.SaveText.{share_number}
use Rattle.lp_save.proofs.SpellLemmas.{on_ok_both, begun_number}
use Rattle.lp_save.proofs.spell.begin_cell.Goals as goal

pub returns-in_ok-add_number-in-Some : goal.returns-in_ok-add_number-in-Some
returns-in_ok-add_number-in-Some c =
    on_ok_both c.add-in-Some.result
    (λ text done. begun_number c.args.speller.now c.add-in-Some.new.speller (share_number c.args.shared.now c.args.c) c.in-Some.place c.args.c c.in-Some.ensures.value
    (text ∙ ap (λ x. x ++ codes "=") c.in_ok-add_number-in-Some.ensures.text)
    (done ∙ c.in_ok-add_number-in-Some.ensures.done ∙ c.in_ok-add-in-Some.ensures.ok))
    c.add-in-Some.ensures.text c.add-in-Some.ensures.done
