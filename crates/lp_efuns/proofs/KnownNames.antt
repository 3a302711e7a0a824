-- Names of live objects, in the table and in the world.
use Rattle.std.proofs.Common.{◌≡◌, ◌∙◌, ◌||◌, ℕ, zero, suc, Bool, true, false, List, [], ◌∷◌, Option, Some, None, refl, ap, sym, slice_get, unwrap_or, map, option_map, if◌then◌else◌}
use Rattle.lp_values.specs.declared.id.ObjId.{ObjId}
use Rattle.lp_objects.specs.Objects as names
use Rattle.lp_objects.specs.Stands as named
use Rattle.lp_objects.specs.declared.objects.Objects.{Objects}
use Rattle.lp_code.specs.declared.program.RawProgram.{RawProgram}
use Rattle.lp_swapfile.specs.Device.{Bytes}
use Rattle.lp_language.specs.World as world
use Rattle.lp_language.specs.World.{World, is_live, no_object, object_at}
use Rattle.lp_meaning.specs.ComputingEfuns.{name_in}
use Rattle.lp_world.specs.Rows.{live_in}
use Rattle.lp_world.specs.Stands.{Stands, named_of}
use Rattle.lp_world.specs.declared.live.Live.{Live}
use Rattle.lp_world.proofs.Keeping.{live_same}
use Rattle.std.proofs.Props.{props}
use Rattle.lp_efuns.specs.Names.{AreNamed, name_at}

named_at : (xs : List world.Object) (n : ℕ) → slice_get (map named_of xs) n ≡ option_map named_of (slice_get xs n)
named_at [] n = refl
named_at (x ∷ xs) zero = refl
named_at (x ∷ xs) (suc n) = named_at xs n

-- what is known of an object that is live
known_live : (x : world.Object) (b : Bool) → x.is_live ≡ true → (if x.is_live || b then Some (named_of x) else None) ≡ Some (named_of x)
known_live x b l = rw l refl

known_of : (t : Objects) (xs : List world.Object) (o : ObjId) (x : world.Object) → slice_get xs o.0 ≡ Some x → x.is_live ≡ true → named.known_at t (map named_of xs) o.0 ≡ Some (named_of x)
known_of t xs o x e l =
    ap (λ r. if names.lives r || named.is_among o.0 (named.died_in t) then r else None) (named_at xs o.0 ∙ ap (option_map named_of) e) ∙ known_live x (named.is_among o.0 (named.died_in t)) l

row_known : (t : Objects) (xs : List world.Object) (o : ObjId) (r : Option world.Object) → slice_get xs o.0 ≡ r → (unwrap_or r no_object).is_live ≡ true → named.Stands t (map named_of xs)
    → Some (unwrap_or r no_object).name ≡ name_at t o
row_known t xs o None e l h = absurd (differ l)
  where
    differ : false ≡ true → ⊥
    differ q = cc
row_known t xs o (Some x) e l h = sym (ap (option_map (λ x. x.name)) (h.known o.0 ∙ known_of t xs o x e l))

-- a live object has the name that the table has for it
pub name_known : (told : Option Bytes) (programs : List RawProgram) (live : Live) (w : World) → Stands told programs live w → (o : ObjId) → live_in live.objects o ≡ true → name_in w o ≡ name_at live.names o
name_known told programs live w h o l = row_known live.names w.objects o (slice_get w.objects o.0) refl (sym (ap (λ f. f o) (live_same told programs live w h)) ∙ l) h.names

-- two names that there may be are one in one way
pub name_set : (a b : Option (List ℕ)) → IsProp (a ≡ b)
name_set = hlevel props

-- what the table gives as a name
pub name_given : (t : Objects) → AreNamed t → (o : ObjId) (r : Option (List ℕ)) → ((objects : List names.Named) → named.Stands t objects → r ≡ option_map (λ x. x.name) (named.known_at t objects o.0)) → r ≡ name_at t o
name_given t n o r h = h n.objects n.stands ∙ sym (ap (option_map (λ x. x.name)) (n.stands.known o.0))
