-- What efuns about functions of objects keep of a world.
use Rattle.std.proofs.Common.{◌≡◌, ℕ, ℤ, pos, negsuc, Bool, true, false, not, cond, List, Option, Some, None, refl, subst, length}
use Rattle.std.specs.Prelude.{nat_lt, ◌-◌}
use Rattle.lp_values.specs.declared.id.ObjId.{ObjId}
use Rattle.lp_values.specs.declared.value.Value.{Value}
use Rattle.lp_instr.specs.EfunKinds.{kinds}
use Rattle.lp_instr.specs.declared.efun.Efun.{Efun}
use Rattle.lp_instr.specs.declared.efun.Efun.TheVariants as efuns
use Rattle.lp_cells.specs.Cells.{with_cell}
use Rattle.lp_ops.specs.declared.effect.Effect.{Effect}
use Rattle.lp_ops.specs.declared.effect.Effect.TheVariants as effects
use Rattle.lp_ops.specs.Effects.{reference}
use Rattle.lp_ops.specs.Operands.{Opened}
use Rattle.lp_ops.specs.Prices.{size_made}
use Rattle.lp_timers.specs.Timers.{max_call_outs}
use Rattle.lp_language.specs.World.{World, is_live}
use Rattle.lp_language.specs.Course.{Asks, Course, End, Gives, Over, Scene, Spent, State, Stops, here}
use Rattle.lp_language.specs.Operations.{cells_of, finished, living, with_store}
use Rattle.lp_meaning.specs.Askers.{Asker}
use Rattle.lp_meaning.specs.EfunArguments.{first_bad, int_arg, opened_args, price_after, price_before, text_arg}
use Rattle.lp_meaning.specs.Questions.{deed_end, efun_in, kinds_looked_at}
use Rattle.lp_meaning.specs.WorldEfuns.{Deed, Throws, Yields, call_out_after, deed, free_connection, has_function, holder_for, object_or_this, of_object}
use Rattle.lp_settling.specs.Settling.{EndSettles, Settles}
use Rattle.lp_settling.proofs.Still.{DeedSettles, pay_settles, still}
use Rattle.lp_object_efuns.specs.Called.{is_with_program}
use Rattle.lp_object_efuns.proofs.Groups.{of_world}

differ : false ≡ true → ⊥
differ q = cc

-- Deeds

deed_cond : (w : World) (b : Bool) (d e : Deed) → DeedSettles w d → DeedSettles w e → DeedSettles w (cond b d e)
deed_cond w true d e h k = h
deed_cond w false d e h k = k

deed_either : {B : Type 0} (w : World) (o : Option B) (some : B → Deed) (none : Deed) → ((x : B) → DeedSettles w (some x)) → DeedSettles w none → DeedSettles w (elim o [ Some x ↦ some x | None ↦ none ])
deed_either w None some none g h = h
deed_either w (Some x) some none g h = g x

of_object_settles : (s : State) (e : Efun) (n : ℕ) (o : Option ObjId) (go : ObjId → Deed) → ((o : ObjId) → DeedSettles s.world (go o)) → DeedSettles s.world (of_object e n o s go)
of_object_settles s e n None go g = still s.world
of_object_settles s e n (Some o) go g = g o

after_settles : (c : Scene) (s : State) (vs : List Value) (fun : List ℕ) (n : ℤ) → DeedSettles s.world (call_out_after c s vs fun n)
after_settles c s vs fun (negsuc n) = still s.world
after_settles c s vs fun (pos n) =
    deed_cond s.world (not (has_function s.world c.this fun)) _ _ (still s.world) (deed_cond s.world (nat_lt (length s.world.call_outs) max_call_outs) _ _ (record { versions = refl; shadows = λ h. h }) (still s.world))

asked_settles : (e : Efun) (c : Scene) (s : State) (vs : List Value) (xs : List Opened) → is_with_program e ≡ true → DeedSettles s.world (deed e c s vs xs)
unfolding deed
asked_settles efuns.FunctionExists c s vs xs p = of_object_settles s efuns.FunctionExists 2 (object_or_this c s xs 1) _ (λ o. still s.world)
asked_settles efuns.AddAction c s vs xs p =
    deed_cond s.world (not (is_live s.world c.this)) _ _ (still s.world)
    (deed_either s.world (holder_for s.world c.this s.player) _ _ (λ o. deed_cond s.world (has_function s.world c.this (text_arg xs 0)) _ _ (record { versions = refl; shadows = λ h. h }) (still s.world)) (still s.world))
asked_settles efuns.InputTo c s vs xs p =
    deed_either s.world (free_connection s.world s.player) _ _ (λ k. deed_cond s.world (has_function s.world c.this (text_arg xs 0)) _ _ (record { versions = refl; shadows = λ h. h }) (still s.world)) (still s.world)
asked_settles efuns.CallOut c s vs xs p = deed_cond s.world (is_live s.world c.this) _ _ (after_settles c s vs (text_arg xs 0) (int_arg xs 1)) (still s.world)
asked_settles _ c s vs xs p = absurd (differ p)

-- Ends

finished_settles : (w : World) (n : ℕ) (e : Effect) (s : State) → Settles w s.world → EndSettles w (finished n e s)
finished_settles w n (effects.Gives v) s h = pay_settles w n s (Gives v) h h
finished_settles w n (effects.Makes x) s h =
    let made : Settles w (with_store s (with_cell (cells_of s) x)).world = record { versions = h.versions; shadows = h.shadows } in
    pay_settles w n (with_store s (with_cell (cells_of s) x)) (Gives (reference x (length (cells_of s)))) made made
finished_settles w n (effects.Fault e) s h = h

deed_end_settles : (w : World) (e : Efun) (d : Deed) (s : State) → Settles w s.world → DeedSettles w d → EndSettles w (deed_end e d s)
deed_end_settles w e (Yields x t) s h k = finished_settles w (price_after e (size_made (living t) (cells_of t) x)) x t k
deed_end_settles w e (Throws v) s h k = h

-- Courses

CourseSettles : World → Course Value → Type 0
CourseSettles w (Over e) = EndSettles w e
CourseSettles w (Asks a k) = Unit {0}

course_cond : (w : World) (b : Bool) (x y : Course Value) → CourseSettles w x → CourseSettles w y → CourseSettles w (cond b x y)
course_cond w true x y h k = h
course_cond w false x y h k = k

kinds_settle : (e : Efun) (by : Asker) (c : Scene) (vs : List Value) (bad : Option ℕ) (s : State) → is_with_program e ≡ true → CourseSettles s.world (kinds_looked_at e by c vs bad s)
unfolding CourseSettles
kinds_settle e by c vs (Some n) s p = still s.world
kinds_settle e by c vs None s p =
    rw (of_world e p) (deed_end_settles s.world e (deed e c s vs (opened_args s vs)) s (still s.world) (asked_settles e c s vs (opened_args s vs) p))

pub with_program_settles : (e : Efun) (by : Asker) (c : Scene) (vs : List Value) (s : State) (end : End Value) → is_with_program e ≡ true → efun_in e by c vs s ≡ Over end → EndSettles s.world end
unfolding CourseSettles
with_program_settles e by c vs s end p q =
    let k : ℕ = price_before e vs s in
    let t : State = record s { budget = s.budget - k } in
    let all : CourseSettles s.world (efun_in e by c vs s) =
    course_cond s.world (nat_lt s.budget k) (Over (Stops (here Spent) (record s { budget = 0 }))) (kinds_looked_at e by c vs (first_bad 1 (kinds e) (opened_args t vs)) t) (still s.world) (kinds_settle e by c vs (first_bad 1 (kinds e) (opened_args t vs)) t p) in
    subst (λ x. CourseSettles s.world x) q all
