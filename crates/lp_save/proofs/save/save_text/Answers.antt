use Rattle.std.proofs.Common.{[], false, map}
use Rattle.lp_save.specs.SaveText.{walk_of}
use Rattle.lp_save.proofs.WalkLemmas.{saved_none, saved_some}
use Rattle.lp_save.proofs.save.save_text.Goals as goal

pub returns-then-walker-clause-nested : goal.returns-then-walker-clause-nested
returns-then-walker-clause-nested g c = λ e.
    saved_none (g.L.Living.live c.args.live.now) c.args.cells.now c.args.vars.now c.walk_all.new.walker (c.in_ok-walk_all.ensures (record { met = []; again = []; is_deep = false }) c.begin_walk-walker.ensures) c.if-walker.true

pub returns-clause-text : goal.returns-clause-text
returns-clause-text g c =
    let live = g.L.Living.live c.args.live.now in
    let stands = c.in_ok-walk_all.ensures (record { met = []; again = []; is_deep = false }) c.begin_walk-walker.ensures in
    saved_some live c.args.cells.now c.args.vars.now c.walk_all.new.walker c.shared_cells-shared.result c.in_ok-text_of.field-0 stands c.if-walker.false
    (c.shared_cells-shared.ensures (walk_of live c.args.cells.now (map (λ p. p.1) c.args.vars.now)) stands) c.in_ok-text_of.ensures
