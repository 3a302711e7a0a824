use Rattle.std.proofs.Common.{◌≡◌, ◌∙◌, ap, false, refl, subst, sym, true}
use Rattle.std.specs.Prelude.{length}
use Rattle.lp_driver.specs.Tidying.{HasNeededAlone, IsOver, drops_behind}
use Rattle.lp_driver.proofs.Rested.{rest_for_one, turned, turned_rest}
use Rattle.lp_objects.specs.Stands as names
use Rattle.lp_world.specs.declared.live.Live.{Live}
use Rattle.lp_driver.proofs.Swaps.{no_fault, swap_drops_nothing}
use Rattle.lp_driver.proofs.Telling.{tells_still}
use Rattle.lp_driver.proofs.driver.carry_turn.Goals as goal

pub carry_out-requires-clause-rests : goal.carry_out-requires-clause-rests
carry_out-requires-clause-rests g c = rest_for_one (g.W.SwapFile.content c.args.swap.now) c.args.live.now c.requires.rest

pub returns-in-Ok-clause-turns : goal.returns-in-Ok-clause-turns
returns-in-Ok-clause-turns g c =
    turned c.args.event.now (g.W.SwapFile.content c.args.swap.now) (g.W.SwapFile.content c.carry_out.new.swap) c.args.live.now c.carry_out.new.live c.drop_versions.new.live c.end_turn-outs.result c.in_ok-carry_out.ensures.ends c.end_turn-outs.ensures.outs
    (c.drop_versions.ensures.over c.carry_out.new.live c.end_turn-outs.ensures.over)

pub returns-in-Ok-clause-forgotten : goal.returns-in-Ok-clause-forgotten
returns-in-Ok-clause-forgotten g c = let o : IsOver c.carry_out.new.live c.drop_versions.new.live = c.drop_versions.ensures.over c.carry_out.new.live c.end_turn-outs.ensures.over in o.forgotten

pub returns-in-Ok-clause-needed : goal.returns-in-Ok-clause-needed
returns-in-Ok-clause-needed g c =
    subst (λ n. drops_behind c.args.event.now n (length c.drop_versions.new.live.versions) ≡ true → HasNeededAlone c.drop_versions.new.live) c.len-before.ensures c.in-Ok.ensures.needed

pub returns-in-Ok-clause-rest : goal.returns-in-Ok-clause-rest
returns-in-Ok-clause-rest g c =
    let told0 = g.W.SwapFile.content c.args.swap.now in
    let told1 = g.W.SwapFile.content c.carry_out.new.swap in
    turned_rest c.args.event.now told0 told1 c.args.live.now c.drop_versions.new.live c.end_turn-outs.result c.law_there_is_one.ensures
    (turned c.args.event.now told0 told1 c.args.live.now c.carry_out.new.live c.drop_versions.new.live c.end_turn-outs.result c.in_ok-carry_out.ensures.ends c.end_turn-outs.ensures.outs (c.drop_versions.ensures.over c.carry_out.new.live c.end_turn-outs.ensures.over)) c.requires.rest

pub returns-in-Ok-clause-tells : goal.returns-in-Ok-clause-tells
returns-in-Ok-clause-tells g c = tells_still c.in_ok-carry_out.ensures.tells c.drop_versions.new.live

pub returns-in-Ok-clause-swaps : goal.returns-in-Ok-clause-swaps
returns-in-Ok-clause-swaps g c = λ h.
    let s = c.in_ok-carry_out.ensures.swaps h in
    let none : drops_behind c.args.event.now c.len-before.result (length c.end_turn-outs.new.live.versions) ≡ false =
    swap_drops_nothing c.args.event.now _ _ h (ap length (c.end_turn-outs.ensures.versions ∙ ap (λ (l : Live). l.versions) s.1) ∙ sym c.len-before.ensures) in
    let d = c.drop_versions.ensures.quiet none in (
      c.end_turn-outs.ensures.outs ∙ ap (λ (l : Live). l.outputs) s.1 ∙ c.requires.rest.1.outputs,
      refl,
      λ objects a. subst (λ (l : Live). names.Stands l.names objects) (sym d.1) (c.end_turn-outs.ensures.names objects (subst (λ (l : Live). names.Stands l.names objects) (sym s.1) a)),
    )

pub returns-in_err-carry_out-clause-swaps : goal.returns-in_err-carry_out-clause-swaps
returns-in_err-carry_out-clause-swaps g c = λ h. absurd (no_fault c.carry_out.result _ (c.carry_out.ensures.swaps h).0 c.in_err-carry_out.was)
