-- What efuns come to before it is asked whether this object has the function.
use Rattle.std.proofs.Common.{◌≡◌, ◌∙◌, ℕ, ℤ, pos, negsuc, Bool, true, false, not, List, [], ◌∷◌, Option, Some, None, refl, ap, sym, subst, map, nat_eq, ◌||◌, ◌&&◌, if◌then◌else◌, drop, length, find, option_map}
use Rattle.std.specs.Prelude.{nat_lt}
use Rattle.std.specs.List.{list_any}
use Rattle.lp_values.specs.declared.id.ObjId.{ObjId}
use Rattle.lp_values.specs.declared.value.Value.{Value}
use Rattle.lp_values.specs.declared.value.Value.TheVariants as values
use Rattle.lp_values.specs.declared.error.ErrorKind.TheVariants as errors
use Rattle.lp_values.specs.Errors.{bad_arg}
use Rattle.lp_events.specs.declared.out.Out.TheVariants as outs
use Rattle.lp_cells.specs.Cells.{Store}
use Rattle.lp_ops.specs.Effects.{refused}
use Rattle.lp_ops.specs.Operands.{Opened, operand}
use Rattle.lp_instr.specs.EfunList.{efun_name}
use Rattle.lp_instr.specs.declared.efun.Efun.TheVariants as efuns
use Rattle.lp_language.specs.World.{World, is_live, object_at}
use Rattle.lp_language.specs.Course.{Scene, State}
use Rattle.lp_language.specs.Operations.{cells_of, living, with_world}
use Rattle.lp_meaning.specs.Askers.{told}
use Rattle.lp_meaning.specs.EfunArguments.{bad, int_arg, opened_args, text_arg}
use Rattle.lp_meaning.specs.WorldEfuns.{Deed, Yields, call_out_after, changes, deed, free_connection, has_function, holder_for, is_awaited, is_flag, one, unless_awaited, with_call_out, with_sentence, with_waiting, zero}
use Rattle.lp_timers.specs.Timers.{max_call_outs}
use Rattle.lp_places.specs.Places.{Lying, Shadowing, in_reach}
use Rattle.lp_places.specs.Stands as places
use Rattle.lp_world.specs.Rows.{live_in, row_at}
use Rattle.lp_world.specs.Stands as stands
use Rattle.lp_world.specs.declared.connections.Waiting.{Waiting}
use Rattle.lp_world.specs.declared.live.Live.{Live}
use Rattle.lp_world.proofs.Keeping.{live_same}
use Rattle.lp_efuns.specs.declared.answer.Did.TheVariants as did
use Rattle.lp_efuns.specs.declared.caller.Caller.{Caller}
use Rattle.lp_efuns.specs.declared.caller.Turn.{Turn}
use Rattle.lp_efuns.specs.Deeds.{Does, IsDone, deed_done}
use Rattle.lp_efuns.specs.Subjects.{is_living_row}
use Rattle.lp_efuns.specs.Turns.{At, IsScene, Setting}
use Rattle.lp_efuns.proofs.Looking.{connection_same, living_same}
use Rattle.lp_putting.specs.Plans.{IsPlanned, plan_deed, seconds_in}
use Rattle.lp_putting.specs.declared.plans.Plan.TheVariants as plans
use Rattle.lp_putting.specs.declared.plans.Planned.TheVariants as planned

-- whether this object lives, in the state and in the world
lives_same : (g : Setting) (live : Live) (turn : Turn) (b : ℕ) (s : State) (caller : Caller) (v : Bool) → At g live turn b s → live_in live.objects caller.this ≡ v → is_live s.world caller.this ≡ v
lives_same g live turn b s caller v h e = sym (ap (λ f. f caller.this) (live_same g.told g.programs live s.world h.stands)) ∙ e

-- Actions

-- by this object, whether it lives, and the holder
abbrev action_deed : State → List Opened → ObjId → Bool → Option ObjId → Deed
action_deed s xs o b h =
    if not b then Yields zero s
    else elim h [
      | None ↦ Yields zero s
      | Some p ↦ if has_function s.world o (text_arg xs 0) then changes (with_sentence s.world p o (text_arg xs 0) (text_arg xs 1) (is_flag (int_arg xs 2))) one s else Yields (refused errors.NoFunction) s
    ]

action_means : (c : Scene) (s : State) (vs : List Value) (xs : List Opened) (o : ObjId) (p : Option ObjId) → c.this ≡ o → s.player ≡ p → deed efuns.AddAction c s vs xs ≡ action_deed s xs o (is_live s.world o) (holder_for s.world o p)
unfolding deed
action_means c s vs xs o p e q = ap (λ o. action_deed s xs o (is_live s.world o) (holder_for s.world o s.player)) e ∙ ap (λ p. action_deed s xs o (is_live s.world o) (holder_for s.world o p)) q

pub dead_action : (caller : Caller) (vs : List Value) (live : Live) (turn : Turn) → live_in live.objects caller.this ≡ false → Does efuns.AddAction caller vs live turn (did.Value (values.Int (pos 0))) live turn
dead_action caller vs live turn dies g b c s sc h =
    subst (λ d. IsDone (did.Value (values.Int (pos 0))) (At g live turn b) (deed_done d s))
    (sym (action_means c s vs (opened_args s vs) caller.this turn.player sc.this h.player
    ∙ ap (λ l. action_deed s (opened_args s vs) caller.this l (holder_for s.world caller.this turn.player)) (lives_same g live turn b s caller false h dies))) (refl, h)

pub no_holder : (caller : Caller) (vs : List Value) (live : Live) (turn : Turn) → live_in live.objects caller.this ≡ true
    → ((g : Setting) (turn1 : Turn) (b : ℕ) (s : State) → At g live turn1 b s → None ≡ holder_for s.world caller.this turn.player) → Does efuns.AddAction caller vs live turn (did.Value (values.Int (pos 0))) live turn
no_holder caller vs live turn lives f g b c s sc h =
    subst (λ d. IsDone (did.Value (values.Int (pos 0))) (At g live turn b) (deed_done d s))
    (sym (action_means c s vs (opened_args s vs) caller.this turn.player sc.this h.player
    ∙ ap (λ l. action_deed s (opened_args s vs) caller.this l (holder_for s.world caller.this turn.player)) (lives_same g live turn b s caller true h lives)
    ∙ ap (action_deed s (opened_args s vs) caller.this true) (sym (f g turn b s h)))) (refl, h)

pub holder_planned : (caller : Caller) (vs : List Value) (live : Live) (turn : Turn) (p : ObjId) → live_in live.objects caller.this ≡ true
    → ((g : Setting) (turn1 : Turn) (b : ℕ) (s : State) → At g live turn1 b s → Some p ≡ holder_for s.world caller.this turn.player) → IsPlanned efuns.AddAction caller vs live turn (planned.Asks (plans.Action p))
holder_planned caller vs live turn p lives f g b c s sc h =
    action_means c s vs (opened_args s vs) caller.this turn.player sc.this h.player
    ∙ ap (λ l. action_deed s (opened_args s vs) caller.this l (holder_for s.world caller.this turn.player)) (lives_same g live turn b s caller true h lives)
    ∙ ap (action_deed s (opened_args s vs) caller.this true) (sym (f g turn b s h))

-- Lines

any_map : (k : ℕ) (xs : List Waiting) → list_any (λ x. nat_eq x.connection k) xs ≡ list_any (λ x. nat_eq x.connection k) (map stands.waiting_of xs)
any_map k [] = refl
any_map k (x ∷ xs) = ap (λ b. nat_eq x.connection k || b) (any_map k xs)

pub awaited_same : (g : Setting) (live : Live) (turn : Turn) (b : ℕ) (s : State) (k : ℕ) → At g live turn b s → list_any (λ x. nat_eq x.connection k) live.connections.waiting ≡ is_awaited s.world k
awaited_same g live turn b s k h = any_map k live.connections.waiting ∙ ap (list_any (λ x. nat_eq x.connection k)) h.stands.rest.waiting

-- by this object and the connection
abbrev line_deed : State → List Value → List Opened → ObjId → Option ℕ → Deed
line_deed s vs xs o k = elim k [
  | None ↦ Yields zero s
  | Some k ↦
      if has_function s.world o (text_arg xs 0) then
      Yields one (told (if is_flag (int_arg xs 1) then outs.Hide k ∷ [] else []) (with_world s (with_waiting s.world k o (text_arg xs 0) (is_flag (int_arg xs 1)) (drop 2 vs))))
      else Yields (refused errors.NoFunction) s
]

line_means : (c : Scene) (s : State) (vs : List Value) (xs : List Opened) (o : ObjId) (p : Option ObjId) → c.this ≡ o → s.player ≡ p → deed efuns.InputTo c s vs xs ≡ line_deed s vs xs o (free_connection s.world p)
unfolding deed
line_means c s vs xs o p e q = ap (λ o. line_deed s vs xs o (free_connection s.world s.player)) e ∙ ap (λ p. line_deed s vs xs o (free_connection s.world p)) q

pub no_line : (caller : Caller) (vs : List Value) (live : Live) (turn : Turn) → ((g : Setting) (turn1 : Turn) (b : ℕ) (s : State) → At g live turn1 b s → None ≡ free_connection s.world turn.player)
    → Does efuns.InputTo caller vs live turn (did.Value (values.Int (pos 0))) live turn
no_line caller vs live turn f g b c s sc h =
    subst (λ d. IsDone (did.Value (values.Int (pos 0))) (At g live turn b) (deed_done d s))
    (sym (line_means c s vs (opened_args s vs) caller.this turn.player sc.this h.player ∙ ap (line_deed s vs (opened_args s vs) caller.this) (sym (f g turn b s h)))) (refl, h)

pub line_planned : (caller : Caller) (vs : List Value) (live : Live) (turn : Turn) (k : ℕ) → ((g : Setting) (turn1 : Turn) (b : ℕ) (s : State) → At g live turn1 b s → Some k ≡ free_connection s.world turn.player)
    → IsPlanned efuns.InputTo caller vs live turn (planned.Asks (plans.Line k))
line_planned caller vs live turn k f g b c s sc h =
    line_means c s vs (opened_args s vs) caller.this turn.player sc.this h.player ∙ ap (line_deed s vs (opened_args s vs) caller.this) (sym (f g turn b s h))

-- Call-outs

-- by this object and the delay, unless that is negative
abbrev delay_by : State → List Value → List Opened → ObjId → Option ℕ → Deed
delay_by s vs xs o None = Yields (bad efuns.CallOut 2) s
delay_by s vs xs o (Some n) = plan_deed (plans.Delay n) s o vs xs

not_first : (b : Bool) (x y : Deed) → (if not b then x else y) ≡ (if b then y else x)
not_first true x y = refl
not_first false x y = refl

after_means : (c : Scene) (s : State) (vs : List Value) (xs : List Opened) (o : ObjId) (n : ℤ) → c.this ≡ o → call_out_after c s vs (text_arg xs 0) n ≡ delay_by s vs xs o (seconds_in n)
after_means c s vs xs o (negsuc n) e = refl
after_means c s vs xs o (pos n) e =
    let t : List ℕ = text_arg xs 0 in
    ap (λ o. if not (has_function s.world o t) then Yields (refused errors.NoFunction) s
    else (if nat_lt (length s.world.call_outs) max_call_outs then changes (with_call_out s.world o t n (drop 2 vs)) zero s else Yields (refused errors.TooMany) s)) e
    ∙ not_first (has_function s.world o t) (Yields (refused errors.NoFunction) s)
    (if nat_lt (length s.world.call_outs) max_call_outs then changes (with_call_out s.world o t n (drop 2 vs)) zero s else Yields (refused errors.TooMany) s)

delay_means : (c : Scene) (s : State) (vs : List Value) (xs : List Opened) (o : ObjId) → c.this ≡ o
    → deed efuns.CallOut c s vs xs ≡ (if is_live s.world o then delay_by s vs xs o (seconds_in (int_arg xs 1)) else Yields zero s)
unfolding deed
delay_means c s vs xs o e =
    ap (λ x. if is_live s.world c.this then x else Yields zero s) (after_means c s vs xs o (int_arg xs 1) e)
    ∙ ap (λ u. if is_live s.world u then delay_by s vs xs o (seconds_in (int_arg xs 1)) else Yields zero s) e

pub dead_delay : (caller : Caller) (vs : List Value) (live : Live) (turn : Turn) → live_in live.objects caller.this ≡ false → Does efuns.CallOut caller vs live turn (did.Value (values.Int (pos 0))) live turn
dead_delay caller vs live turn dies g b c s sc h =
    let xs : List Opened = opened_args s vs in
    subst (λ d. IsDone (did.Value (values.Int (pos 0))) (At g live turn b) (deed_done d s))
    (sym (delay_means c s vs xs caller.this sc.this ∙ ap (λ l. if l then delay_by s vs xs caller.this (seconds_in (int_arg xs 1)) else Yields zero s) (lives_same g live turn b s caller false h dies))) (refl, h)

live_means : (caller : Caller) (vs : List Value) (live : Live) (turn : Turn) (n : Option ℕ) → live_in live.objects caller.this ≡ true
    → ((l : ObjId → Bool) (cells : Store) → n ≡ seconds_in (int_arg (map (operand l cells) vs) 1))
    → (g : Setting) (b : ℕ) (c : Scene) (s : State) → IsScene caller c → At g live turn b s → deed efuns.CallOut c s vs (opened_args s vs) ≡ delay_by s vs (opened_args s vs) caller.this n
live_means caller vs live turn n lives f g b c s sc h =
    let xs : List Opened = opened_args s vs in
    delay_means c s vs xs caller.this sc.this
    ∙ ap (λ l. if l then delay_by s vs xs caller.this (seconds_in (int_arg xs 1)) else Yields zero s) (lives_same g live turn b s caller true h lives)
    ∙ ap (delay_by s vs xs caller.this) (sym (f (living s) (cells_of s)))

pub negative_delay : (caller : Caller) (vs : List Value) (live : Live) (turn : Turn) → live_in live.objects caller.this ≡ true
    → ((l : ObjId → Bool) (cells : Store) → None ≡ seconds_in (int_arg (map (operand l cells) vs) 1)) → Does efuns.CallOut caller vs live turn (did.Error (bad_arg 2 (efun_name efuns.CallOut))) live turn
negative_delay caller vs live turn lives f g b c s sc h =
    subst (λ d. IsDone (did.Error (bad_arg 2 (efun_name efuns.CallOut))) (At g live turn b) (deed_done d s)) (sym (live_means caller vs live turn None lives f g b c s sc h)) (refl, h)

pub delay_planned : (caller : Caller) (vs : List Value) (live : Live) (turn : Turn) (n : ℕ) → live_in live.objects caller.this ≡ true
    → ((l : ObjId → Bool) (cells : Store) → Some n ≡ seconds_in (int_arg (map (operand l cells) vs) 1)) → IsPlanned efuns.CallOut caller vs live turn (planned.Asks (plans.Delay n))
delay_planned caller vs live turn n lives f = live_means caller vs live turn (Some n) lives f

-- What was looked at

pub chosen_first : {A : Type 0} (x y : Bool) (a b : A) → x ≡ y → x ≡ true → a ≡ (if y then a else b)
chosen_first x y a b e t = ap (λ v. if v then a else b) (sym t ∙ e)

pub chosen_second : {A : Type 0} (x y : Bool) (a b : A) → x ≡ y → x ≡ false → b ≡ (if y then a else b)
chosen_second x y a b e f = ap (λ v. if v then a else b) (sym f ∙ e)

-- whether an object may hold an action of this one
abbrev pub may_hold : World → ObjId → ObjId → Bool
may_hold w p o = is_live w p && (object_at w p).is_living && in_reach w.places p o

pub dead_holds : (g : Setting) (live : Live) (turn : Turn) (b : ℕ) (s : State) (p o : ObjId) → At g live turn b s → live_in live.objects p ≡ false → false ≡ may_hold s.world p o
dead_holds g live turn b s p o h e = ap (λ l. l && (object_at s.world p).is_living && in_reach s.world.places p o) (sym e ∙ ap (λ f. f p) (live_same g.told g.programs live s.world h.stands))

none_between : (a c : Bool) → false ≡ (a && false && c)
none_between true c = refl
none_between false c = refl

pub stiff_holds : (g : Setting) (live : Live) (turn : Turn) (b : ℕ) (s : State) (p o : ObjId) → At g live turn b s → live_in live.objects p ≡ true → is_living_row (row_at live.objects p.0) ≡ false → false ≡ may_hold s.world p o
stiff_holds g live turn b s p o h e l =
    none_between (is_live s.world p) (in_reach s.world.places p o) ∙ ap (λ v. is_live s.world p && v && in_reach s.world.places p o) (sym (living_same g live turn b s p h e ∙ l))

pub holds_same : (g : Setting) (live : Live) (turn : Turn) (b : ℕ) (s : State) (p o : ObjId) (lives reached : Bool) → At g live turn b s → live_in live.objects p ≡ true → lives ≡ is_living_row (row_at live.objects p.0)
    → ((ps : List Lying) (ss : List Shadowing) → places.Stands live.places ps ss → reached ≡ in_reach ps p o) → (lives && reached) ≡ may_hold s.world p o
holds_same g live turn b s p o lives reached h e l r =
    ap (λ v. v && reached) (l ∙ sym (living_same g live turn b s p h e))
    ∙ ap (λ v. v && (object_at s.world p).is_living && reached) (sym e ∙ ap (λ f. f p) (live_same g.told g.programs live s.world h.stands))
    ∙ ap (λ v. is_live s.world p && (object_at s.world p).is_living && v) (r s.world.places s.world.shadows h.stands.rest.places)

-- the connection of an object for whose next line nothing waits
pub free_of : (g : Setting) (live : Live) (turn : Turn) (b : ℕ) (s : State) (p : ObjId) (k r : Option ℕ) → At g live turn b s → k ≡ option_map (λ c. c.number) (find (λ c. nat_eq c.object.0 p.0) live.connections.opened)
    → r ≡ unless_awaited s.world k → r ≡ free_connection s.world (Some p)
free_of g live turn b s p k r h e q = q ∙ ap (unless_awaited s.world) (e ∙ sym (connection_same g live turn b s p h))
