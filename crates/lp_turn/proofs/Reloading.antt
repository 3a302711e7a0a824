-- Files that have new texts.
use Rattle.std.proofs.Common.{◌≡◌, ◌∙◌, ◌++◌, ◌||◌, ℕ, Bool, true, false, not, List, [], ◌∷◌, Option, Some, None, All, ap, inl, inr, refl, sym, subst, append_assoc, nat_eq, unwrap_or, if◌then◌else◌}
use Rattle.std.proofs.lemmas.Bool.Decides.{Decides-eqb}
use Rattle.std.proofs.lemmas.List.Elements.{All-cons, All-head, All-nil, All-tail}
use Rattle.lp_values.specs.declared.id.ObjId.{ObjId}
use Rattle.lp_language.specs.World as world
use Rattle.lp_language.specs.World.{World, is_live, no_object, object_at, with_object}
use Rattle.lp_meaning.specs.Askers.{told}
use Rattle.lp_meaning.specs.EventTurns.{reload_turn}
use Rattle.lp_meaning.specs.WorldSteps.{closing, connection_of, dead, destructed, destructed_if, reload_outputs, reloaded, reloaded_blueprint, with_file, without_connection_if, without_object}
use Rattle.lp_places.specs.Places.{Shadowing, is_object, shadows_without}
use Rattle.lp_world.specs.declared.live.Live.{Live}
use Rattle.lp_world.proofs.Keeping.{get_set, same_or_not}
use Rattle.lp_part_laws.specs.Versions.{AreCompiled}
use Rattle.lp_making.specs.Reloads.{StandsReloaded}
use Rattle.lp_turn.specs.Going.{HasEnded, IsWhole}
use Rattle.lp_turn.proofs.Kept.{stands_told}

-- what a destruction leaves: the versions, and live shadows
record Leaves (old new : World) : Type 0 where
  versions : new.versions ≡ old.versions
  shadows : All (λ s. is_live old s.shadow ≡ true) old.shadows → All (λ s. is_live new s.shadow ≡ true) new.shadows

all_same : (w : World) → Leaves w w
all_same w = record { versions = refl; shadows = λ a. a }

-- an object that is another one is live still
other_lives : (w : World) (o p : ObjId) (x : world.Object) → is_object p o ≡ false → is_live w p ≡ true → is_live (with_object w o x) p ≡ true
other_lives w o p x d l = elim (same_or_not o.0 p.0) [
  | inl e ↦ absurd (differ (sym (itself p.0) ∙ ap (nat_eq p.0) (sym e) ∙ d))
  | inr n ↦ ap (λ q. (unwrap_or q no_object).is_live) (get_set w.objects o.0 p.0 x n) ∙ l
]
  where
    differ : true ≡ false → ⊥
    differ q = cc

    itself : (n : ℕ) → nat_eq n n ≡ true
    itself n = (Decides-eqb n n).1 refl

-- shadows that are left are live still
left_live : (w : World) (o : ObjId) (x : world.Object) (ss : List Shadowing) → All (λ s. is_live w s.shadow ≡ true) ss → All (λ s. is_live (with_object w o x) s.shadow ≡ true) (shadows_without ss o)
left_live w o x [] a = All-nil (λ s. is_live (with_object w o x) s.shadow ≡ true)
left_live w o x (s ∷ ss) a =
    by (is_object s.shadow o) (is_object s.victim o) refl (All-head (λ s. is_live w s.shadow ≡ true) s ss a) (left_live w o x ss (All-tail (λ s. is_live w s.shadow ≡ true) s ss a))
  where
    by : (b d : Bool) → is_object s.shadow o ≡ b → is_live w s.shadow ≡ true → All (λ s. is_live (with_object w o x) s.shadow ≡ true) (shadows_without ss o)
        → All (λ s. is_live (with_object w o x) s.shadow ≡ true) (if not (b || d) then s ∷ shadows_without ss o else shadows_without ss o)
    by true d e l i = i
    by false true e l i = i
    by false false e l i = All-cons (λ s. is_live (with_object w o x) s.shadow ≡ true) s (shadows_without ss o) (other_lives w o s.shadow x e l) i

without_leaves : (w : World) (o : ObjId) → Leaves w (without_object w o)
without_leaves w o = record { versions = refl; shadows = λ a. left_live w o (dead (object_at w o)) w.shadows a }

connection_leaves : (w v : World) (k : Option ℕ) → Leaves w v → Leaves w (without_connection_if v k)
connection_leaves w v None h = h
connection_leaves w v (Some k) h = record { versions = h.versions; shadows = h.shadows }

destructed_leaves : (w : World) (o : ObjId) → Leaves w (destructed w o)
destructed_leaves w o = by (is_live w o)
  where
    by : (b : Bool) → Leaves w (if b then without_connection_if (without_object w o) (connection_of w o) else w)
    by true = connection_leaves w (without_object w o) (connection_of w o) (without_leaves w o)
    by false = all_same w

reloaded_leaves : (w : World) (path bytes : List ℕ) (o : Option ObjId) → Leaves w (destructed_if (with_file w path bytes) o)
reloaded_leaves w path bytes None = record { versions = refl; shadows = λ a. a }
reloaded_leaves w path bytes (Some o) = let d = destructed_leaves (with_file w path bytes) o in record { versions = d.versions; shadows = λ a. d.shadows a }

-- A reload is a whole turn.
pub reloads : (live0 live1 live2 : Live) (path bytes : List ℕ) (k : Option ℕ) → StandsReloaded live0 live1 path bytes k → live1.outputs ≡ live0.outputs → live2 ≡ record live1 { outputs = live1.outputs ++ closing k }
    → IsWhole (reload_turn path bytes) live0 live2
reloads live0 live1 live2 path bytes k f e q g programs before s h =
    let r = f g programs s.world h.world.stands in
    let v = reloaded_leaves s.world path bytes (reloaded_blueprint s.world path) in
    subst (λ l. HasEnded g programs before l (reload_turn path bytes s)) (sym q) (record {
      state = told (reload_outputs s.world path) (record s { world = reloaded s.world path bytes });
      rests = record {
        world = record {
          stands = stands_told g programs live1 (reloaded s.world path bytes) (live1.outputs ++ closing k) r.0;
          compiled = subst (λ vs. AreCompiled programs vs) (sym v.versions) h.world.compiled;
          shadows = v.shadows h.world.shadows;
        };
        outputs = ap (λ l. l ++ closing k) (e ∙ h.outputs) ∙ append_assoc before s.outputs (closing k) ∙ ap (λ os. before ++ (s.outputs ++ os)) r.1;
      };
      course = refl;
    })
