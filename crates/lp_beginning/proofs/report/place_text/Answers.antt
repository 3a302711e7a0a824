use Rattle.lp_beginning.proofs.report.place_text.Goals as goal

pub returns-in-Ok-place_inside-clause-text : goal.returns-in-Ok-place_inside-clause-text
returns-in-Ok-place_inside-clause-text g c = λ programs w p s is.
    c.in-Ok-place_inside.ensures (g.W.SwapFile.content c.bring_program.new.swap) programs w p (c.in-Ok.ensures.stands c.in-Ok.ensures.truthful programs w s) is
