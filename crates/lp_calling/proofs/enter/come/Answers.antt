use Rattle.std.proofs.Common.{◌≡◌, ◌∙◌, ◌≤◌, ap, false, length, refl, subst, sym, true}
use Rattle.std.proofs.lemmas.Result.{IfOk-weaker}
use Rattle.lp_efuns.proofs.Called.{same_variables}
use Rattle.lp_calling.specs.declared.job.Stage.{Stage}
use Rattle.lp_calling.specs.declared.job.Stage.TheVariants as stages
use Rattle.lp_cells.specs.Cells.{KeepsThere, Store}
use Rattle.lp_calling.specs.Entering.{Enters, is_direct}
use Rattle.lp_calling.specs.Jobs.{IsStageOn, stage_left, stage_needs}
use Rattle.lp_calling.proofs.Entering.{advanced, fit_still, stay_still}
use Rattle.lp_calling.proofs.Visits.{fit_moved, stay_moved}
use Rattle.lp_calling.proofs.enter.come.Goals as goal

-- what asks or ends as it stands does not come here
is_indirect : (stage : Stage) → is_direct stage ≡ true → is_direct stage ≡ false → ⊥
is_indirect stage e f = let z : true ≡ false = sym e ∙ f in cc

pub returns-in-Say-clause-enters : goal.returns-in-Say-clause-enters
returns-in-Say-clause-enters c =
    let a = c.args in
    IfOk-weaker c.enter_say.result _ _
    (λ t k. subst (λ s. Enters a.efun s a.low a.live.now a.turn.now a.stack.now.items t c.enter_say.new.live a.turn.now a.stack.now.items) (sym c.in-Say.is)
    (advanced a.efun (stages.Say c.in-Say.this c.in-Say.text) t a.low a.live.now c.enter_say.new.live a.turn.now a.turn.now a.stack.now.items k)) c.enter_say.ensures.advances

pub returns-in-Say-clause-fit : goal.returns-in-Say-clause-fit
returns-in-Say-clause-fit c =
    IfOk-weaker c.enter_say.result _ _ (λ t k. fit_still c.args.live.now c.enter_say.new.live c.args.stack.now.items c.enter_say.ensures.same c.enter_say.ensures.closed c.requires.fit) c.enter_say.ensures.poised

pub returns-in-Say-clause-stay : goal.returns-in-Say-clause-stay
returns-in-Say-clause-stay c = stay_still c.args.live.now c.enter_say.new.live c.enter_say.ensures.same

pub returns-in-Say-clause-variables : goal.returns-in-Say-clause-variables
returns-in-Say-clause-variables c = same_variables c.args.live.now.objects c.enter_say.new.live.objects (ap (λ l. l.objects) c.enter_say.ensures.same)

pub returns-in-Say-clause-names : goal.returns-in-Say-clause-names
returns-in-Say-clause-names c = ap (λ l. l.names) c.enter_say.ensures.same

pub returns-in-TellEach-clause-enters : goal.returns-in-TellEach-clause-enters
returns-in-TellEach-clause-enters c =
    let a = c.args in
    IfOk-weaker c.enter_audience.result _ _
    (λ t k. subst (λ s. Enters a.efun s a.low a.live.now a.turn.now a.stack.now.items t c.enter_audience.new.live a.turn.now a.stack.now.items) (sym c.in-TellEach.is)
    (advanced a.efun (stages.TellEach c.in-TellEach.audience) t a.low a.live.now c.enter_audience.new.live a.turn.now a.turn.now a.stack.now.items (k a.turn.now))) c.enter_audience.ensures.advances

pub returns-in-TellEach-clause-fit : goal.returns-in-TellEach-clause-fit
returns-in-TellEach-clause-fit c =
    IfOk-weaker c.enter_audience.result _ _ (λ t k. fit_still c.args.live.now c.enter_audience.new.live c.args.stack.now.items c.enter_audience.ensures.same c.enter_audience.ensures.closed c.requires.fit) c.enter_audience.ensures.poised

pub returns-in-TellEach-clause-stay : goal.returns-in-TellEach-clause-stay
returns-in-TellEach-clause-stay c = stay_still c.args.live.now c.enter_audience.new.live c.enter_audience.ensures.same

pub returns-in-TellEach-clause-variables : goal.returns-in-TellEach-clause-variables
returns-in-TellEach-clause-variables c = same_variables c.args.live.now.objects c.enter_audience.new.live.objects (ap (λ l. l.objects) c.enter_audience.ensures.same)

pub returns-in-TellEach-clause-names : goal.returns-in-TellEach-clause-names
returns-in-TellEach-clause-names c = ap (λ l. l.names) c.enter_audience.ensures.same

pub returns-in-Seek-clause-enters : goal.returns-in-Seek-clause-enters
returns-in-Seek-clause-enters c =
    let a = c.args in
    IfOk-weaker c.enter_search.result _ _
    (λ t k. subst (λ s. Enters a.efun s a.low a.live.now a.turn.now a.stack.now.items t a.live.now a.turn.now a.stack.now.items) (sym c.in-Seek.is)
    (advanced a.efun (stages.Seek c.in-Seek.search) t a.low a.live.now a.live.now a.turn.now a.turn.now a.stack.now.items (k a.turn.now))) c.enter_search.ensures.advances

pub returns-in-File-clause-enters : goal.returns-in-File-clause-enters
returns-in-File-clause-enters c =
    let a = c.args in
    IfOk-weaker c.enter_file.result _ _
    (λ t k. subst (λ s. Enters a.efun s a.low a.live.now a.turn.now a.stack.now.items t c.enter_file.new.live a.turn.now c.enter_file.new.stack.items) (sym c.in-File.is) (k a.efun a.turn.now)) c.enter_file.ensures.enters

pub returns-in-File-clause-variables : goal.returns-in-File-clause-variables
returns-in-File-clause-variables c = same_variables c.args.live.now.objects c.enter_file.new.live.objects c.enter_file.ensures.objects

pub returns-in-Shadow-clause-enters : goal.returns-in-Shadow-clause-enters
returns-in-Shadow-clause-enters c =
    let a = c.args in
    IfOk-weaker c.enter_shadow.result _ _
    (λ t k. subst (λ s. Enters a.efun s a.low a.live.now a.turn.now a.stack.now.items t c.enter_shadow.new.live a.turn.now c.enter_shadow.new.stack.items) (sym c.in-Shadow.is) (k a.efun a.turn.now)) c.enter_shadow.ensures.enters

pub returns-in-Shadow-clause-variables : goal.returns-in-Shadow-clause-variables
returns-in-Shadow-clause-variables c = same_variables c.args.live.now.objects c.enter_shadow.new.live.objects c.enter_shadow.ensures.objects

pub returns-in-File-clause-stay : goal.returns-in-File-clause-stay
returns-in-File-clause-stay c = subst (λ (cs : Store). KeepsThere c.args.live.now.cells cs) (sym c.enter_file.ensures.cells) (λ v h. h)

pub returns-in-Shadow-clause-stay : goal.returns-in-Shadow-clause-stay
returns-in-Shadow-clause-stay c = subst (λ (cs : Store). KeepsThere c.args.live.now.cells cs) (sym c.enter_shadow.ensures.cells) (λ v h. h)

pub enter_moving-requires-clause-on : goal.enter_moving-requires-clause-on
enter_moving-requires-clause-on c = (subst (λ st. IsStageOn st c.args.low (length c.args.stack.now.items)) c.in-Move.is c.requires.on).1

pub returns-in-Move-clause-enters : goal.returns-in-Move-clause-enters
returns-in-Move-clause-enters c =
    let a = c.args in
    IfOk-weaker c.enter_moving.result _ _
    (λ t k. subst (λ st. Enters a.efun st a.low a.live.now a.turn.now a.stack.now.items t c.enter_moving.new.live a.turn.now a.stack.now.items) (sym c.in-Move.is)
    (advanced a.efun (stages.Move c.in-Move.moving) t a.low a.live.now c.enter_moving.new.live a.turn.now a.turn.now a.stack.now.items k)) c.enter_moving.ensures.advances

pub returns-in-Move-clause-on : goal.returns-in-Move-clause-on
returns-in-Move-clause-on c =
    let le : c.args.low ≤ length c.args.stack.now.items = (subst (λ st. IsStageOn st c.args.low (length c.args.stack.now.items)) c.in-Move.is c.requires.on).0 in
    IfOk-weaker c.enter_moving.result _ _ (λ t k. k c.args.low (length c.args.stack.now.items) le) c.enter_moving.ensures.on

pub returns-in-Move-clause-ready : goal.returns-in-Move-clause-ready
returns-in-Move-clause-ready c = IfOk-weaker c.enter_moving.result _ _ (λ t k. k c.enter_moving.new.live.objects) c.enter_moving.ensures.ready

pub returns-in-Move-clause-left : goal.returns-in-Move-clause-left
returns-in-Move-clause-left c = IfOk-weaker c.enter_moving.result _ _ (λ t k. subst (λ st. stage_left t ≤ stage_left st) (sym c.in-Move.is) k) c.enter_moving.ensures.left

pub returns-in-Move-clause-stay : goal.returns-in-Move-clause-stay
returns-in-Move-clause-stay c = stay_moved c.args.live.now c.enter_moving.new.live c.enter_moving.ensures.cells

pub returns-in-Move-clause-variables : goal.returns-in-Move-clause-variables
returns-in-Move-clause-variables c = same_variables c.args.live.now.objects c.enter_moving.new.live.objects c.enter_moving.ensures.objects

pub returns-in-Move-clause-fit : goal.returns-in-Move-clause-fit
returns-in-Move-clause-fit c =
    IfOk-weaker c.enter_moving.result _ _ (λ t k. fit_moved c.args.live.now c.enter_moving.new.live c.args.stack.now.items c.enter_moving.ensures.cells c.enter_moving.ensures.closed c.requires.fit) c.enter_moving.ensures.poised

pub returns-in-Say-clause-poised : goal.returns-in-Say-clause-poised
returns-in-Say-clause-poised c = IfOk-weaker c.enter_say.result _ _ (λ t k. k c.args.turn.now) c.enter_say.ensures.poised

pub returns-in-Say-clause-on : goal.returns-in-Say-clause-on
returns-in-Say-clause-on c =
    let le : c.args.low ≤ length c.args.stack.now.items = (subst (λ st. IsStageOn st c.args.low (length c.args.stack.now.items)) c.in-Say.is c.requires.on) in
    IfOk-weaker c.enter_say.result _ _ (λ t k. k c.args.low (length c.args.stack.now.items) le) c.enter_say.ensures.on

pub returns-in-Say-clause-ready : goal.returns-in-Say-clause-ready
returns-in-Say-clause-ready c = IfOk-weaker c.enter_say.result _ _ (λ t k. k c.enter_say.new.live.objects) c.enter_say.ensures.ready

pub returns-in-Say-clause-left : goal.returns-in-Say-clause-left
returns-in-Say-clause-left c = IfOk-weaker c.enter_say.result _ _ (λ t k. subst (λ st. stage_left t ≤ stage_left st) (sym c.in-Say.is) k) c.enter_say.ensures.left

pub returns-in-TellEach-clause-poised : goal.returns-in-TellEach-clause-poised
returns-in-TellEach-clause-poised c = IfOk-weaker c.enter_audience.result _ _ (λ t k. k c.args.turn.now) c.enter_audience.ensures.poised

pub returns-in-TellEach-clause-on : goal.returns-in-TellEach-clause-on
returns-in-TellEach-clause-on c =
    let le : c.args.low ≤ length c.args.stack.now.items = (subst (λ st. IsStageOn st c.args.low (length c.args.stack.now.items)) c.in-TellEach.is c.requires.on) in
    IfOk-weaker c.enter_audience.result _ _ (λ t k. k c.args.low (length c.args.stack.now.items) le) c.enter_audience.ensures.on

pub returns-in-TellEach-clause-ready : goal.returns-in-TellEach-clause-ready
returns-in-TellEach-clause-ready c = IfOk-weaker c.enter_audience.result _ _ (λ t k. k c.enter_audience.new.live.objects) c.enter_audience.ensures.ready

pub returns-in-TellEach-clause-left : goal.returns-in-TellEach-clause-left
returns-in-TellEach-clause-left c = IfOk-weaker c.enter_audience.result _ _ (λ t k. subst (λ st. stage_left t ≤ stage_left st) (sym c.in-TellEach.is) k) c.enter_audience.ensures.left

pub returns-in-Seek-clause-poised : goal.returns-in-Seek-clause-poised
returns-in-Seek-clause-poised c = IfOk-weaker c.enter_search.result _ _ (λ t k. k c.args.turn.now) c.enter_search.ensures.poised

pub returns-in-Seek-clause-on : goal.returns-in-Seek-clause-on
returns-in-Seek-clause-on c =
    let le : c.args.low ≤ length c.args.stack.now.items = (subst (λ st. IsStageOn st c.args.low (length c.args.stack.now.items)) c.in-Seek.is c.requires.on) in
    IfOk-weaker c.enter_search.result _ _ (λ t k. k c.args.low (length c.args.stack.now.items) le) c.enter_search.ensures.on

pub returns-in-Seek-clause-ready : goal.returns-in-Seek-clause-ready
returns-in-Seek-clause-ready c = IfOk-weaker c.enter_search.result _ _ (λ t k. k c.args.live.now.objects) c.enter_search.ensures.ready

pub returns-in-Seek-clause-left : goal.returns-in-Seek-clause-left
returns-in-Seek-clause-left c = IfOk-weaker c.enter_search.result _ _ (λ t k. subst (λ st. stage_left t ≤ stage_left st) (sym c.in-Seek.is) k) c.enter_search.ensures.left

pub returns-in-File-clause-poised : goal.returns-in-File-clause-poised
returns-in-File-clause-poised c = IfOk-weaker c.enter_file.result _ _ (λ t k. k c.enter_file.new.live c.args.turn.now) c.enter_file.ensures.poised

pub returns-in-File-clause-ready : goal.returns-in-File-clause-ready
returns-in-File-clause-ready c = IfOk-weaker c.enter_file.result _ _ (λ t k. k c.enter_file.new.live.objects) c.enter_file.ensures.ready

pub returns-in-File-clause-left : goal.returns-in-File-clause-left
returns-in-File-clause-left c = IfOk-weaker c.enter_file.result _ _ (λ t k. subst (λ st. stage_left t ≤ stage_left st) (sym c.in-File.is) k) c.enter_file.ensures.left

pub returns-in-Shadow-clause-poised : goal.returns-in-Shadow-clause-poised
returns-in-Shadow-clause-poised c = IfOk-weaker c.enter_shadow.result _ _ (λ t k. k c.enter_shadow.new.live c.args.turn.now) c.enter_shadow.ensures.poised

pub returns-in-Shadow-clause-ready : goal.returns-in-Shadow-clause-ready
returns-in-Shadow-clause-ready c = IfOk-weaker c.enter_shadow.result _ _ (λ t k. k c.enter_shadow.new.live.objects) c.enter_shadow.ensures.ready

pub returns-in-Shadow-clause-left : goal.returns-in-Shadow-clause-left
returns-in-Shadow-clause-left c = IfOk-weaker c.enter_shadow.result _ _ (λ t k. subst (λ st. stage_left t ≤ stage_left st) (sym c.in-Shadow.is) k) c.enter_shadow.ensures.left

pub unreachable-requires : goal.unreachable-requires
unreachable-requires c = is_indirect c.args.stage (subst (λ st. is_direct st ≡ true) (sym c.in-Call.is) refl) c.requires.indirect

pub unreachable-requires-in-Target : goal.unreachable-requires-in-Target
unreachable-requires-in-Target c = is_indirect c.args.stage (subst (λ st. is_direct st ≡ true) (sym c.in-Target.is) refl) c.requires.indirect

pub unreachable-requires-in-Load : goal.unreachable-requires-in-Load
unreachable-requires-in-Load c = is_indirect c.args.stage (subst (λ st. is_direct st ≡ true) (sym c.in-Load.is) refl) c.requires.indirect

pub unreachable-requires-in-Items : goal.unreachable-requires-in-Items
unreachable-requires-in-Items c = is_indirect c.args.stage (subst (λ st. is_direct st ≡ true) (sym c.in-Items.is) refl) c.requires.indirect

pub unreachable-requires-in-Tell : goal.unreachable-requires-in-Tell
unreachable-requires-in-Tell c = is_indirect c.args.stage (subst (λ st. is_direct st ≡ true) (sym c.in-Tell.is) refl) c.requires.indirect

pub unreachable-requires-in-Write : goal.unreachable-requires-in-Write
unreachable-requires-in-Write c = is_indirect c.args.stage (subst (λ st. is_direct st ≡ true) (sym c.in-Write.is) refl) c.requires.indirect

pub unreachable-requires-in-MasterLoad : goal.unreachable-requires-in-MasterLoad
unreachable-requires-in-MasterLoad c = is_indirect c.args.stage (subst (λ st. is_direct st ≡ true) (sym c.in-MasterLoad.is) refl) c.requires.indirect

pub unreachable-requires-in-Master : goal.unreachable-requires-in-Master
unreachable-requires-in-Master c = is_indirect c.args.stage (subst (λ st. is_direct st ≡ true) (sym c.in-Master.is) refl) c.requires.indirect

pub unreachable-requires-in-Value : goal.unreachable-requires-in-Value
unreachable-requires-in-Value c = is_indirect c.args.stage (subst (λ st. is_direct st ≡ true) (sym c.in-Value.is) refl) c.requires.indirect

pub unreachable-requires-in-Zero : goal.unreachable-requires-in-Zero
unreachable-requires-in-Zero c = is_indirect c.args.stage (subst (λ st. is_direct st ≡ true) (sym c.in-Zero.is) refl) c.requires.indirect

pub unreachable-requires-in-Error : goal.unreachable-requires-in-Error
unreachable-requires-in-Error c = is_indirect c.args.stage (subst (λ st. is_direct st ≡ true) (sym c.in-Error.is) refl) c.requires.indirect

pub enter_file-requires-clause-plain : goal.enter_file-requires-clause-plain
enter_file-requires-clause-plain c = subst (λ s. stage_needs s ≡ false) c.in-File.is c.requires.plain
