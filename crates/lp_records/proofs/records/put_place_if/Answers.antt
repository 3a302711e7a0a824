use Rattle.std.proofs.Common.{OnOk, subst, sym}
use Rattle.std.proofs.lemmas.Result.{on_ok_weaker}
use Rattle.lp_records.specs.Records.{PutsPlaceIf}
use Rattle.lp_records.proofs.Placing.{not_placed, placed_if}
use Rattle.lp_records.proofs.records.put_place_if.Goals as goal

pub returns-in-Some : goal.returns-in-Some
returns-in-Some c =
    subst (λ p. OnOk c.put_place.result (PutsPlaceIf c.args.live.now p c.args.text.now.items c.put_place.new.text.items)) (sym c.in-Some.is)
    (on_ok_weaker c.put_place.result (placed_if c.args.live.now c.in-Some.at c.args.text.now.items c.put_place.new.text.items) c.put_place.ensures)

pub returns-in-None : goal.returns-in-None
returns-in-None c = subst (λ p. PutsPlaceIf c.args.live.now p c.args.text.now.items c.args.text.now.items) (sym c.in-None.is) (not_placed c.args.live.now c.args.text.now.items)
