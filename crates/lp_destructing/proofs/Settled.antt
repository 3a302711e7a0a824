-- The end of an object changes no version, and leaves live shadows.
use Rattle.std.proofs.Common.{◌≡◌, ◌∙◌, ◌-◌, ℕ, Bool, true, false, cond, List, [], ◌∷◌, Option, Some, None, All, refl, ap, sym, subst, unwrap_or}
use Rattle.std.specs.Prelude.{not, nat_lt, ◌||◌, if◌then◌else◌}
use Rattle.std.proofs.lemmas.List.Elements.{All-cons, All-head, All-nil, All-tail}
use Rattle.std.proofs.lemmas.Bool.Decides.{Decides-eqb}
use Rattle.lp_values.specs.declared.id.ObjId.{ObjId}
use Rattle.lp_values.specs.declared.value.Value.{Value}
use Rattle.lp_instr.specs.EfunKinds.{kinds}
use Rattle.lp_instr.specs.declared.efun.Efun.TheVariants as efuns
use Rattle.lp_places.specs.Places.{Shadowing, is_object, shadows_without}
use Rattle.lp_language.specs.World.{World, is_live, no_object, object_at}
use Rattle.lp_language.specs.Course.{Asks, Course, Gives, Over, Scene, Spent, State, Stops, here, zero_value}
use Rattle.lp_language.specs.Operations.{with_world}
use Rattle.lp_meaning.specs.Askers.{Asker, told}
use Rattle.lp_meaning.specs.EfunArguments.{first_bad, object_arg, opened_args, price_after, price_before}
use Rattle.lp_meaning.specs.Questions.{deed_end, efun_in, kinds_looked_at}
use Rattle.lp_meaning.specs.WorldEfuns.{Yields, deed, of_live, zero}
use Rattle.lp_meaning.specs.WorldSteps.{connection_of, dead, destructed, destruction, without_connection_if, without_object}
use Rattle.lp_world.proofs.Keeping.{get_set}
use Rattle.lp_settling.specs.Settling.{EndSettles, Settles}
use Rattle.lp_settling.proofs.Still.{pay_settles, still}
use Rattle.lp_destructing.specs.Ends.{DestructSettles}

differ : false ≡ true → ⊥
differ q = cc

module _ (w : World) (o : ObjId) where
  -- another object lives on
  lives_on : (x : ObjId) → is_object x o ≡ false → is_live w x ≡ true → is_live (without_object w o) x ≡ true
  lives_on x other l = ap (λ r. (unwrap_or r no_object).is_live) (get_set w.objects o.0 x.0 (dead (object_at w o)) (λ e. differ (sym other ∙ (Decides-eqb x.0 o.0).1 (sym e)))) ∙ l

  one : (s : Shadowing) (ss : List Shadowing) (a b : Bool) → is_object s.shadow o ≡ a → is_live w s.shadow ≡ true → All (λ x. is_live (without_object w o) x.shadow ≡ true) ss
      → All (λ (x : Shadowing). is_live (without_object w o) x.shadow ≡ true) (cond (not (a || b)) (s ∷ ss) ss)
  one s ss true b e l h = h
  one s ss false true e l h = h
  one s ss false false e l h = All-cons (λ (x : Shadowing). is_live (without_object w o) x.shadow ≡ true) s ss (lives_on s.shadow e l) h

  left_live : (ss : List Shadowing) → All (λ x. is_live w x.shadow ≡ true) ss → All (λ x. is_live (without_object w o) x.shadow ≡ true) (shadows_without ss o)
  left_live [] h = All-nil (λ (x : Shadowing). is_live (without_object w o) x.shadow ≡ true)
  left_live (s ∷ ss) h =
      one s (shadows_without ss o) (is_object s.shadow o) (is_object s.victim o) refl (All-head (λ (x : Shadowing). is_live w x.shadow ≡ true) s ss h)
      (left_live ss (All-tail (λ (x : Shadowing). is_live w x.shadow ≡ true) s ss h))

  gone : Settles w (without_object w o)
  gone = record { versions = refl; shadows = left_live w.shadows }

  closed : (k : Option ℕ) → Settles w (without_connection_if (without_object w o) k)
  closed None = gone
  closed (Some k) = record { versions = refl; shadows = left_live w.shadows }

  ended : (b : Bool) → Settles w (if b then without_connection_if (without_object w o) (connection_of w o) else w)
  ended true = closed (connection_of w o)
  ended false = still w

-- the deed
done_settles : (o : Option ObjId) (s : State) → EndSettles s.world (deed_end efuns.Destruct (of_live o s (λ o. Yields zero (told (destruction s.world o) (with_world s (destructed s.world o))))) s)
done_settles None s = pay_settles s.world (price_after efuns.Destruct 0) s (Gives zero_value) (still s.world) (still s.world)
done_settles (Some o) s =
    let t : State = told (destruction s.world o) (with_world s (destructed s.world o)) in
    pay_settles s.world (price_after efuns.Destruct 0) t (Gives zero_value) (ended s.world o (is_live s.world o)) (ended s.world o (is_live s.world o))

CourseSettles : World → Course Value → Type 0
CourseSettles w (Over e) = EndSettles w e
CourseSettles w (Asks a k) = Unit {0}

course_cond : (w : World) (b : Bool) (x y : Course Value) → CourseSettles w x → CourseSettles w y → CourseSettles w (cond b x y)
course_cond w true x y h k = h
course_cond w false x y h k = k

kinds_settle : (by : Asker) (c : Scene) (vs : List Value) (bad : Option ℕ) (s : State) → CourseSettles s.world (kinds_looked_at efuns.Destruct by c vs bad s)
unfolding CourseSettles deed
kinds_settle by c vs (Some n) s = still s.world
kinds_settle by c vs None s = done_settles (object_arg (opened_args s vs) 0) s

pub destruct_settles : DestructSettles
unfolding CourseSettles
destruct_settles by c vs s end q =
    let k : ℕ = price_before efuns.Destruct vs s in
    let t : State = record s { budget = s.budget - k } in
    let all : CourseSettles s.world (efun_in efuns.Destruct by c vs s) =
    course_cond s.world (nat_lt s.budget k) (Over (Stops (here Spent) (record s { budget = 0 }))) (kinds_looked_at efuns.Destruct by c vs (first_bad 1 (kinds efuns.Destruct) (opened_args t vs)) t) (still s.world)
    (kinds_settle by c vs (first_bad 1 (kinds efuns.Destruct) (opened_args t vs)) t) in
    subst (λ x. CourseSettles s.world x) q all
