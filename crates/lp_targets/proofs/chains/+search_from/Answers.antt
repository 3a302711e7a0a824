use Rattle.std.proofs.Common.{◌≡◌, ◌∙◌, ◌+◌, Option, Some, arith, ap, refl, sym, subst}
use Rattle.std.specs.Prelude.{slice_get}
use Rattle.lp_language.specs.Resolve.{function_of}
use Rattle.lp_places.specs.Places.{shadows_of}
use Rattle.lp_frames.specs.declared.entry.Callee.{Callee}
use Rattle.lp_targets.specs.Callees.{IsAnswer, IsWorldOf, want_of, wanted}
use Rattle.lp_targets.proofs.Lookups.{if_ok, one_some}
use Rattle.lp_targets.proofs.Memory.{brings_more}
use Rattle.lp_targets.proofs.Shadows.{last_right, shadow_there, step_found, step_on}
use Rattle.lp_targets.proofs.chains.+search_from.Goals as goal

pub returns-then-left-eq0-clause-found : goal.returns-then-left-eq0-clause-found
returns-then-left-eq0-clause-found g t c = λ x programs w h e.
    if_ok c.function_in.result (λ r i. last_right programs w c.args.seeker c.args.ob c.args.at c.args.name.now r (omega (arith, e))
    (subst (λ z. IsAnswer programs w c.args.ob r (wanted z (function_of w c.args.ob c.args.name.now))) c.want.ensures i))
    (c.function_in.ensures.found x programs w h)

pub returns-in-Ok-Some-clause-found : goal.returns-in-Ok-Some-clause-found
returns-in-Ok-Some-clause-found g t c = λ x programs w h e.
    let told = g.W.SwapFile.content c.args.swap.now in
    let sh = shadow_there told programs c.args.live.now w c.args.ob c.args.at h (omega (arith, e)) in
    let same : c.in-Some.s ≡ sh.0 = one_some c.in-Some.s sh.0 (c.in-Some.ensures.is w.places w.shadows sh.0 h.stands.rest.places sh.1 sh.2) in
    let there : slice_get (shadows_of w.shadows c.args.ob) c.args.at ≡ Some c.in-Some.s = sh.1 ∙ ap (λ z. Some z) (sym same) in
    let i = subst (λ z. IsAnswer programs w c.in-Some.s c.in-Ok-Some.field-0 (wanted z (function_of w c.in-Some.s c.args.name.now))) c.want-in-Some.ensures (c.in-Ok-Some.ensures.found x programs w h) in
    step_found programs w c.args.seeker c.args.ob c.in-Some.s c.args.at c.args.name.now c.in-Ok-Some.callee there
    (subst (λ (o : Option Callee). IsAnswer programs w c.in-Some.s o (wanted (want_of c.args.seeker c.in-Some.s) (function_of w c.in-Some.s c.args.name.now))) c.in-Ok-Some.field-0-is i)

pub returns-in-Ok-None-clause-brings : goal.returns-in-Ok-None-clause-brings
returns-in-Ok-None-clause-brings g t c = brings_more c.in-Ok-None.ensures.brings c.in-Ok-None.ensures.stands c.search_from.ensures.brings

pub returns-in-Ok-None-clause-found : goal.returns-in-Ok-None-clause-found
returns-in-Ok-None-clause-found g t c = λ x programs w h e.
    let told = g.W.SwapFile.content c.args.swap.now in
    let sh = shadow_there told programs c.args.live.now w c.args.ob c.args.at h (omega (arith, e)) in
    let same : c.in-Some.s ≡ sh.0 = one_some c.in-Some.s sh.0 (c.in-Some.ensures.is w.places w.shadows sh.0 h.stands.rest.places sh.1 sh.2) in
    let there : slice_get (shadows_of w.shadows c.args.ob) c.args.at ≡ Some c.in-Some.s = sh.1 ∙ ap (λ z. Some z) (sym same) in
    let y = c.search_from.ensures.brings.truthful x in
    let world : IsWorldOf (g.W.SwapFile.content c.function_in-in-Some.new.swap) programs c.function_in-in-Some.new.live w =
    record { stands = c.in-Ok-None.ensures.stands y programs w h.stands; compiled = h.compiled; shadows = h.shadows } in
    let i = subst (λ z. IsAnswer programs w c.in-Some.s c.in-Ok-None.field-0 (wanted z (function_of w c.in-Some.s c.args.name.now))) c.want-in-Some.ensures (c.in-Ok-None.ensures.found y programs w h) in
    let n = subst (λ (o : Option Callee). IsAnswer programs w c.in-Some.s o (wanted (want_of c.args.seeker c.in-Some.s) (function_of w c.in-Some.s c.args.name.now))) c.in-Ok-None.field-0-is i in
    if_ok c.search_from.result (λ r k. step_on programs w c.args.seeker c.args.ob c.in-Some.s c.args.at (c.args.at + 1) c.args.name.now r there refl n k)
    (c.search_from.ensures.found x programs w world (omega (arith, e)))

pub returns-in-None-clause-found : goal.returns-in-None-clause-found
returns-in-None-clause-found g t c = λ x programs w h e.
    let told = g.W.SwapFile.content c.args.swap.now in
    let sh = shadow_there told programs c.args.live.now w c.args.ob c.args.at h (omega (arith, e)) in
    let n = c.in-None.ensures.is w.places w.shadows sh.0 h.stands.rest.places sh.1 sh.2 in
    absurd cc
