use Rattle.lp_efuns.proofs.places.next_beside.Goals as goal

pub returns : goal.returns
returns c = λ w h. c.next.ensures w.places w.shadows h
