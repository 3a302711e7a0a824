-- What efuns keep of a world.
use Rattle.std.specs.Prelude.{◌≡◌, All, List, true}
use Rattle.lp_values.specs.declared.value.Value.{Value}
use Rattle.lp_instr.specs.declared.efun.Efun.{Efun}
use Rattle.lp_language.specs.World.{World, is_live}
use Rattle.lp_language.specs.Course.{End, Gives, Over, Scene, State, Stops}
use Rattle.lp_meaning.specs.Askers.{Asker}
use Rattle.lp_meaning.specs.Questions.{efun_in}
use Rattle.lp_efuns.specs.Plain.{is_plain}

-- every object that shadows is live
abbrev pub AreShadowsLive : World → Type 0
AreShadowsLive w = All (λ x. is_live w x.shadow ≡ true) w.shadows

-- The versions stay the same, and where every object that shadowed was live, each that shadows then is live.
pub record Settles (old new : World) : Type 0 where
  pub versions : new.versions ≡ old.versions
  pub shadows : AreShadowsLive old → AreShadowsLive new

-- the world in which something ends settles so
abbrev pub EndSettles : {A : Type 0} → World → End A → Type 0
EndSettles w (Gives x t) = Settles w t.world
EndSettles w (Stops x t) = Settles w t.world

-- From whatever state an efun that calls no LPC is called, the world in which it ends settles from that of the state.
abbrev pub EfunsSettle : Type 0
EfunsSettle = (e : Efun) (by : Asker) (c : Scene) (vs : List Value) (s : State) (end : End Value) → is_plain e ≡ true → efun_in e by c vs s ≡ Over end → EndSettles s.world end

-- nothing changes
abbrev pub SettlesItself : Type 0
SettlesItself = (w : World) → Settles w w

-- one change after another
abbrev pub SettlesOn : Type 0
SettlesOn = (u v w : World) → Settles u v → Settles v w → Settles u w
