-- The places stand for a list of what lies in what, and for one of what shadows what.
use Rattle.std.specs.Prelude.{◌≡◌, ℕ, zero, suc, List, Option, Some, None, Result, Ok, Err, map}
use Rattle.lp_values.specs.declared.id.ObjId.{ObjId}
use Rattle.lp_places.specs.declared.fault.PlaceFault.{PlaceFault}
use Rattle.lp_places.specs.declared.fault.PlaceFault.TheVariants as fault
use Rattle.lp_places.specs.declared.fault.ShadowNo.{ShadowNo as ShadowFault}
use Rattle.lp_places.specs.declared.fault.ShadowNo.TheVariants as no
use Rattle.lp_places.specs.declared.places.Places.{Places}
use Rattle.lp_places.specs.Places.{Lying, MoveNo, ShadowNo, Shadowing, IsShadow, WouldContainItself, Same, AlreadyShadowing, IsShadowed, HasEnvironment, VictimShadows, environment, may_move, moved, shadowing}
use Rattle.lp_places.specs.Table.{IsTable}

-- what is reached from an object by so many steps, each to the environment
abbrev pub climbed : ℕ → List Lying → ObjId → Option ObjId
climbed zero places o = Some o
climbed (suc n) places o = elim (environment places o) [ Some e ↦ climbed n places e | None ↦ None ]

-- Environments are a forest: from each object the way to the outside ends.
abbrev pub IsForest : List Lying → Type 0
IsForest places = (o : ObjId) → (n : ℕ) × (climbed n places o ≡ None)

-- Chains of shadows: who is shadowed shadows nothing.
abbrev pub AreChains : List Shadowing → Type 0
AreChains shadows = (o v : ObjId) → shadowing shadows o ≡ Some v → shadowing shadows v ≡ None

-- No shadow is in an environment.
abbrev pub ShadowsAreOutside : List Lying → List Shadowing → Type 0
ShadowsAreOutside places shadows = (o v : ObjId) → shadowing shadows o ≡ Some v → environment places o ≡ None

-- a shadow as what lies in its victim
abbrev pub as_lying : Shadowing → Lying
as_lying s = record { item = s.shadow; place = s.victim }

pub record Stands (t : Places) (places : List Lying) (shadows : List Shadowing) : Type 0 where
  pub lyings : IsTable t.lyings places
  pub shadowings : IsTable t.shadowings (map as_lying shadows)
  pub forest : IsForest places
  pub chains : AreChains shadows
  pub outside : ShadowsAreOutside places shadows

-- why a move is refused; want of memory is no such reason
abbrev pub move_reason : PlaceFault → Option MoveNo
move_reason fault.IsShadow = Some IsShadow
move_reason fault.WouldContainItself = Some WouldContainItself
move_reason fault.NoMemory = None

-- why an object may not shadow
abbrev pub shadow_reason : ShadowFault → ShadowNo
shadow_reason no.Same = Same
shadow_reason no.AlreadyShadowing = AlreadyShadowing
shadow_reason no.IsShadowed = IsShadowed
shadow_reason no.HasEnvironment = HasEnvironment
shadow_reason no.VictimShadows = VictimShadows

-- the reason that an answer gives, if any
abbrev pub answered : {T : Type 0} → Result T ShadowFault → Option ShadowNo
answered (Ok v) = None
answered (Err e) = Some (shadow_reason e)

-- an item was moved: it might be
pub record IsMoved (t : Places) (places : List Lying) (shadows : List Shadowing) (item dest : ObjId) : Type 0 where
  pub may : may_move places shadows item dest ≡ None
  pub after : Stands t (moved places item dest) shadows

-- no item was moved, for the reason that there is, or for want of memory where there is none
pub record IsNotMoved (t : Places) (places : List Lying) (shadows : List Shadowing) (item dest : ObjId) (fault : PlaceFault) : Type 0 where
  pub reason : may_move places shadows item dest ≡ move_reason fault
  pub after : Stands t places shadows
