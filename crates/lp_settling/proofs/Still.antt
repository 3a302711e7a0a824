-- Efuns that call no LPC keep versions, and shadows live.
use Rattle.std.proofs.Common.{◌≡◌, ◌∙◌, ◌-◌, ℕ, zero, suc, Bool, true, false, cond, List, [], ◌∷◌, Option, Some, None, refl, subst, slice_get, slice_set, unwrap_or, length}
use Rattle.std.specs.Prelude.{ℤ, ◌%◌, pos, negsuc, not, nat_eq, nat_lt}
use Rattle.std.specs.Ordering.{int_eq}
use Rattle.std.proofs.lemmas.List.Elements.{All-filter, All-weaker}
use Rattle.rand_xoshiro.specs.SplitMix64.{mix_u64}
use Rattle.lp_values.specs.declared.id.CellId.{CellId}
use Rattle.lp_values.specs.declared.id.ObjId.{ObjId}
use Rattle.lp_values.specs.declared.value.Value.{Value}
use Rattle.lp_cells.specs.Cells.{pairs_at, with_cell}
use Rattle.lp_events.specs.declared.out.Out.TheVariants as outs
use Rattle.lp_ops.specs.declared.effect.Effect.{Effect}
use Rattle.lp_ops.specs.declared.effect.Effect.TheVariants as effects
use Rattle.lp_ops.specs.Effects.{reference}
use Rattle.lp_ops.specs.Integers.{int}
use Rattle.lp_ops.specs.Operands.{Opened, Number, Chars, Array, Mapping, Object}
use Rattle.lp_ops.specs.Prices.{size_made}
use Rattle.lp_places.specs.Places.{is_object}
use Rattle.lp_instr.specs.EfunKinds.{kinds}
use Rattle.lp_instr.specs.declared.efun.Efun.{Efun}
use Rattle.lp_instr.specs.declared.efun.Efun.TheVariants as efuns
use Rattle.lp_language.specs.World.{Object as ObjectOf, World, is_live, no_object, object_at}
use Rattle.lp_language.specs.Course.{Asks, Course, End, Gives, Over, Scene, Spent, State, Stops, here, pay}
use Rattle.lp_language.specs.Operations.{cells_of, finished, living, with_store, with_world}
use Rattle.lp_timers.specs.Timers.{CallOut, beat_off, beat_on, beats, earliest}
use Rattle.lp_meaning.specs.Askers.{Asker, told}
use Rattle.lp_meaning.specs.ComputingEfuns.{computes}
use Rattle.lp_meaning.specs.EfunArguments.{arg, first_bad, int_arg, object_arg, opened_args, price_after, price_before, text_arg, value_arg}
use Rattle.lp_meaning.specs.Questions.{Group, Calls, Computes, OfFiles, OfWorld, acting, deed_end, efun_in, group, kinds_looked_at}
use Rattle.lp_meaning.specs.WorldEfuns.{Deed, Throws, Yields, changes, deed, enabled, exec, living_object, m_delete, object_or_this, of_live, of_object, pairs_left, random, remove_interactive, seconds_left, set_heart_beat, with_beats, with_generator, with_shadows_less, without_one}
use Rattle.lp_meaning.specs.WorldEfuns as world
use Rattle.lp_meaning.specs.WorldSteps.{connection_of, is_connected, with_holder, without_connection}
use Rattle.lp_efuns.specs.Plain.{is_deed, is_plain, is_plain_in}
use Rattle.lp_settling.specs.Settling.{EfunsSettle, EndSettles, Settles, SettlesItself, SettlesOn}

differ : false ≡ true → ⊥
differ q = cc

-- Nothing changes, and one change after another

pub still : SettlesItself
still w = record { versions = refl; shadows = λ h. h }

pub onward : SettlesOn
onward u v w a b = record { versions = b.versions ∙ a.versions; shadows = λ h. b.shadows (a.shadows h) }

-- an object with as much life in the place of another
lives_set : (xs : List ObjectOf) (i j : ℕ) (x d : ObjectOf) → x.is_live ≡ (unwrap_or (slice_get xs i) d).is_live → (unwrap_or (slice_get (slice_set xs i x) j) d).is_live ≡ (unwrap_or (slice_get xs j) d).is_live
lives_set [] i j x d e = cc
lives_set (y ∷ ys) zero zero x d e = e
lives_set (y ∷ ys) zero (suc j) x d e = refl
lives_set (y ∷ ys) (suc i) zero x d e = refl
lives_set (y ∷ ys) (suc i) (suc j) x d e = lives_set ys i j x d e

-- Deeds

-- the world after a deed settles so
abbrev pub DeedSettles : World → Deed → Type 0
DeedSettles w (Yields e t) = Settles w t.world
DeedSettles w (Throws v) = Unit {0}

deed_cond : (w : World) (b : Bool) (d e : Deed) → DeedSettles w d → DeedSettles w e → DeedSettles w (cond b d e)
deed_cond w true d e h k = h
deed_cond w false d e h k = k

deed_either : {B : Type 0} (w : World) (o : Option B) (some : B → Deed) (none : Deed) → ((x : B) → DeedSettles w (some x)) → DeedSettles w none → DeedSettles w (elim o [ Some x ↦ some x | None ↦ none ])
deed_either w None some none g h = h
deed_either w (Some x) some none g h = g x

module _ (s : State) where
  of_object_settles : (e : Efun) (n : ℕ) (o : Option ObjId) (go : ObjId → Deed) → ((o : ObjId) → DeedSettles s.world (go o)) → DeedSettles s.world (of_object e n o s go)
  of_object_settles e n None go g = still s.world
  of_object_settles e n (Some o) go g = g o

  of_live_settles : (o : Option ObjId) (go : ObjId → Deed) → ((o : ObjId) → DeedSettles s.world (go o)) → DeedSettles s.world (of_live o s go)
  of_live_settles None go g = still s.world
  of_live_settles (Some o) go g = g o

  enabled_settles : (o : ObjId) → Settles s.world (enabled o s).world
  enabled_settles o = record {
    versions = refl;
    shadows = λ h. All-weaker (λ x. is_live s.world x.shadow ≡ true) (λ x. is_live (enabled o s).world x.shadow ≡ true)
        (λ x l. lives_set s.world.objects o.0 x.shadow.0 (living_object (object_at s.world o)) no_object refl ∙ l) s.world.shadows h;
  }

  unshadow_settles : (o : ObjId) → Settles s.world (with_shadows_less s.world o)
  unshadow_settles o = record { versions = refl; shadows = All-filter (λ x. not (is_object x.shadow o)) (λ x. is_live s.world x.shadow ≡ true) s.world.shadows }

  exec_settles : (a b : ObjId) → DeedSettles s.world (exec a b s)
  exec_settles a b =
      deed_either s.world (connection_of s.world b) (λ k. cond (is_connected s.world a) (Yields world.zero s) (changes (with_holder s.world k a) world.one s)) (Yields world.zero s)
      (λ k. deed_cond s.world (is_connected s.world a) (Yields world.zero s) (changes (with_holder s.world k a) world.one s) (still s.world) (record { versions = refl; shadows = λ h. h })) (still s.world)

  remove_settles : (o : ObjId) → DeedSettles s.world (remove_interactive o s)
  remove_settles o =
      deed_either s.world (connection_of s.world o) (λ k. Yields world.zero (told (outs.Close k ∷ []) (with_world s (without_connection s.world k)))) (Yields world.zero s)
      (λ k. record { versions = refl; shadows = λ h. h }) (still s.world)

  beat_settles : (c : Scene) (n : ℤ) → DeedSettles s.world (set_heart_beat c s n)
  beat_settles c n =
      let off : World = with_beats s.world (beat_off s.world.beats c.this) in
      let on : World = with_beats s.world (beat_on s.world.beats c.this s.world.clock) in
      let offs : Deed = cond (beats s.world.beats c.this) (changes off world.one s) (Yields world.zero s) in
      let ons : Deed = cond (beats s.world.beats c.this) (Yields world.zero s) (changes on world.one s) in
      deed_cond s.world (not (is_live s.world c.this)) (Yields world.zero s) (cond (int_eq n (pos 0)) offs ons) (still s.world)
      (deed_cond s.world (int_eq n (pos 0)) offs ons
      (deed_cond s.world (beats s.world.beats c.this) (changes off world.one s) (Yields world.zero s) (record { versions = refl; shadows = λ h. h }) (still s.world))
      (deed_cond s.world (beats s.world.beats c.this) (Yields world.zero s) (changes on world.one s) (still s.world) (record { versions = refl; shadows = λ h. h })))

  without_settles : (x : Option CallOut) (e : Effect) → DeedSettles s.world (changes (without_one s.world x) e s)
  without_settles None e = still s.world
  without_settles (Some x) e = record { versions = refl; shadows = λ h. h }

  random_settles : (n : ℤ) → DeedSettles s.world (random n s)
  random_settles (negsuc n) = still s.world
  random_settles (pos n) =
      deed_cond s.world (nat_eq n 0) (Yields world.zero s) (changes (with_generator s.world (mix_u64 s.world.generator).1) (int (pos ((mix_u64 s.world.generator).0 % n))) s) (still s.world) (record { versions = refl; shadows = λ h. h })

  left_settles : (c : CellId) (o : Option (List (Value × Value))) (k : Value) → DeedSettles s.world (pairs_left s c o k)
  left_settles c None k = still s.world
  left_settles c (Some ps) k = record { versions = refl; shadows = λ h. h }

  delete_settles : (x : Opened) (k : Value) → DeedSettles s.world (m_delete s x k)
  delete_settles (Number i) k = still s.world
  delete_settles (Chars t) k = still s.world
  delete_settles (Array c vs) k = still s.world
  delete_settles (Mapping c ps) k = left_settles c (pairs_at (cells_of s) c) k
  delete_settles (Object o) k = still s.world

pub deed_settles : (e : Efun) (c : Scene) (s : State) (vs : List Value) (xs : List Opened) → is_deed e ≡ true → DeedSettles s.world (deed e c s vs xs)
unfolding deed
deed_settles efuns.ThisObject c s vs xs p = still s.world
deed_settles efuns.ThisPlayer c s vs xs p = still s.world
deed_settles efuns.ThisInteractive c s vs xs p = still s.world
deed_settles efuns.PreviousObject c s vs xs p = still s.world
deed_settles efuns.FindObject c s vs xs p = still s.world
deed_settles efuns.ObjectName c s vs xs p = of_object_settles s efuns.ObjectName 1 (object_or_this c s xs 0) _ (λ o. still s.world)
deed_settles efuns.LoadName c s vs xs p = of_object_settles s efuns.LoadName 1 (object_or_this c s xs 0) _ (λ o. still s.world)
deed_settles efuns.ProgramName c s vs xs p = of_object_settles s efuns.ProgramName 1 (object_or_this c s xs 0) _ (λ o. still s.world)
deed_settles efuns.Living c s vs xs p = of_live_settles s (object_arg xs 0) _ (λ o. still s.world)
deed_settles efuns.Interactive c s vs xs p = of_object_settles s efuns.Interactive 1 (object_or_this c s xs 0) _ (λ o. still s.world)
deed_settles efuns.EnableCommands c s vs xs p = deed_cond s.world (is_live s.world c.this) (Yields world.zero (enabled c.this s)) (Yields world.zero s) (enabled_settles s c.this) (still s.world)
deed_settles efuns.QueryShadowing c s vs xs p = of_live_settles s (object_arg xs 0) _ (λ o. still s.world)
deed_settles efuns.Unshadow c s vs xs p = unshadow_settles s c.this
deed_settles efuns.Environment c s vs xs p = of_object_settles s efuns.Environment 1 (object_or_this c s xs 0) _ (λ o. still s.world)
deed_settles efuns.AllInventory c s vs xs p = of_object_settles s efuns.AllInventory 1 (object_or_this c s xs 0) _ (λ o. still s.world)
deed_settles efuns.FirstInventory c s vs xs p = of_object_settles s efuns.FirstInventory 1 (object_or_this c s xs 0) _ (λ o. still s.world)
deed_settles efuns.NextInventory c s vs xs p = of_object_settles s efuns.NextInventory 1 (object_or_this c s xs 0) _ (λ o. still s.world)
deed_settles efuns.QueryVerb c s vs xs p = still s.world
deed_settles efuns.NotifyFail c s vs xs p = still s.world
deed_settles efuns.Users c s vs xs p = still s.world
deed_settles efuns.Exec c s vs xs p = of_live_settles s (object_arg xs 0) _ (λ a. of_live_settles s (object_arg xs 1) _ (λ b. exec_settles s a b))
deed_settles efuns.RemoveInteractive c s vs xs p = of_live_settles s (object_arg xs 0) _ (λ o. remove_settles s o)
deed_settles efuns.Time c s vs xs p = still s.world
deed_settles efuns.SetHeartBeat c s vs xs p = beat_settles s c (int_arg xs 0)
deed_settles efuns.RemoveCallOut c s vs xs p =
    without_settles s (earliest s.world.call_outs c.this (text_arg xs 0)) (seconds_left s.world (earliest s.world.call_outs c.this (text_arg xs 0)))
deed_settles efuns.FindCallOut c s vs xs p = still s.world
deed_settles efuns.Random c s vs xs p = random_settles s (int_arg xs 0)
deed_settles efuns.Throw c s vs xs p = tt
deed_settles efuns.RaiseError c s vs xs p = still s.world
deed_settles efuns.MDelete c s vs xs p = delete_settles s (arg xs 0) (value_arg vs 1)
deed_settles _ c s vs xs p = absurd (differ p)

-- Ends

pub end_cond : {A : Type 0} (w : World) (b : Bool) (x y : End A) → EndSettles w x → EndSettles w y → EndSettles w (cond b x y)
end_cond w true x y h k = h
end_cond w false x y h k = k

-- a price is paid
pub pay_settles : {A : Type 0} (w : World) (k : ℕ) (s : State) (go : State → End A) → Settles w s.world → EndSettles w (go (record s { budget = s.budget - k })) → EndSettles w (pay k s go)
pay_settles w k s go h g = end_cond w (nat_lt s.budget k) (Stops (here Spent) (record s { budget = 0 })) (go (record s { budget = s.budget - k })) h g

-- an effect is carried out
finished_settles : (w : World) (n : ℕ) (e : Effect) (s : State) → Settles w s.world → EndSettles w (finished n e s)
finished_settles w n (effects.Gives v) s h = pay_settles w n s (Gives v) h h
finished_settles w n (effects.Makes x) s h =
    let made : Settles w (with_store s (with_cell (cells_of s) x)).world = record { versions = h.versions; shadows = h.shadows } in
    pay_settles w n (with_store s (with_cell (cells_of s) x)) (Gives (reference x (length (cells_of s)))) made made
finished_settles w n (effects.Fault e) s h = h

deed_end_settles : (w : World) (e : Efun) (d : Deed) (s : State) → Settles w s.world → DeedSettles w d → EndSettles w (deed_end e d s)
deed_end_settles w e (Yields x t) s h k = finished_settles w (price_after e (size_made (living t) (cells_of t) x)) x t k
deed_end_settles w e (Throws v) s h k = h

-- Courses

-- where a course is over
CourseSettles : World → Course Value → Type 0
CourseSettles w (Over e) = EndSettles w e
CourseSettles w (Asks a k) = Unit {0}

course_cond : (w : World) (b : Bool) (x y : Course Value) → CourseSettles w x → CourseSettles w y → CourseSettles w (cond b x y)
course_cond w true x y h k = h
course_cond w false x y h k = k

acting_settles : (k : Group) (e : Efun) (by : Asker) (c : Scene) (vs : List Value) (xs : List Opened) (s : State) → is_plain_in k e ≡ true → CourseSettles s.world (acting k e by c vs xs s)
unfolding CourseSettles
acting_settles Computes e by c vs xs s p = deed_end_settles s.world e (Yields (computes e s vs xs) s) s (still s.world) (still s.world)
acting_settles OfWorld e by c vs xs s p = deed_end_settles s.world e (deed e c s vs xs) s (still s.world) (deed_settles e c s vs xs p)
acting_settles Calls e by c vs xs s p = absurd (differ p)
acting_settles OfFiles e by c vs xs s p = absurd (differ p)

kinds_settle : (e : Efun) (by : Asker) (c : Scene) (vs : List Value) (bad : Option ℕ) (s : State) → is_plain e ≡ true → CourseSettles s.world (kinds_looked_at e by c vs bad s)
unfolding CourseSettles
kinds_settle e by c vs (Some n) s p = still s.world
kinds_settle e by c vs None s p = acting_settles (group e) e by c vs (opened_args s vs) s p

pub efuns_settle : EfunsSettle
unfolding CourseSettles
efuns_settle e by c vs s end p q =
    let k : ℕ = price_before e vs s in
    let t : State = record s { budget = s.budget - k } in
    let all : CourseSettles s.world (efun_in e by c vs s) =
    course_cond s.world (nat_lt s.budget k) (Over (Stops (here Spent) (record s { budget = 0 }))) (kinds_looked_at e by c vs (first_bad 1 (kinds e) (opened_args t vs)) t) (still s.world) (kinds_settle e by c vs (first_bad 1 (kinds e) (opened_args t vs)) t p) in
    subst (λ x. CourseSettles s.world x) q all
