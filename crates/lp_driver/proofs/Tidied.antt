-- What goes out behind a turn.
use Rattle.std.proofs.Common.{◌≡◌, ◌∙◌, ℕ, Bool, true, false, IfOk, List, Option, Result, Ok, Err, ap, length, refl, sym, subst}
use Rattle.std.specs.Str.{chars}
use Rattle.lp_code.specs.declared.program.RawProgram.{RawProgram}
use Rattle.lp_events.specs.declared.event.Event.{Event}
use Rattle.lp_events.specs.declared.event.Event.TheVariants as events
use Rattle.lp_language.specs.World.{World}
use Rattle.lp_objects.specs.Objects.{Named, object_named}
use Rattle.lp_objects.specs.Stands as names
use Rattle.lp_residence.specs.Idling.{Device, going, none_yet}
use Rattle.lp_residence.specs.declared.answers.Idled.{Idled}
use Rattle.lp_tidying.specs.Putting.{AreIdlePut, ArePutWhereTold, named_owners}
use Rattle.lp_swapfile.specs.Device.{Bytes}
use Rattle.lp_targets.specs.Callees.{IsWorldOf}
use Rattle.lp_world.specs.Stands.{Stands}
use Rattle.lp_world.specs.declared.live.Live.{Live}
use Rattle.lp_driver.specs.Tidying.{HasNeededAlone, IsOver, IsTidied, IsUntouched, drops_behind}

-- an event is this one
pub tidied_is : (swap_time : ℕ) (e f : Event) (l : Live) (d : Device) (l' : Live) (d' : Device) (n : Idled) → e ≡ f → IsTidied swap_time f l d l' d' n → IsTidied swap_time e l d l' d' n
tidied_is swap_time e f l d l' d' n same h = subst (λ x. IsTidied swap_time x l d l' d' n) (sym same) h

pub untouched : (l : Live) (d : Device) (n : Idled) → n ≡ none_yet → IsUntouched l d l d n
untouched l d n none = (refl, refl, none)

-- what is idle
pub tidied_idle : {E : Type 0} (r : Result Idled E) (swap_time t : ℕ) (e : Event) (l : Live) (d : Device) (l' : Live) (d' : Device) → e ≡ events.Tick t → IfOk r (AreIdlePut (going swap_time l) l d l' d') → IfOk r (IsTidied swap_time e l d l' d')
tidied_idle (Ok n) swap_time t e l d l' d' same h = tidied_is swap_time e (events.Tick t) l d l' d' n same h
tidied_idle (Err f) swap_time t e l d l' d' same h = tt

-- what a script names
pub tidied_named : {E : Type 0} (r : Result Idled E) (swap_time : ℕ) (name text : List ℕ) (e : Event) (l : Live) (d : Device) (l' : Live) (d' : Device) → e ≡ events.Swap name → text ≡ name
    → IfOk r (λ n. (objects : List Named) → names.Stands l.names objects → ArePutWhereTold (named_owners l (object_named objects (chars text))) l d l' d' n) → IfOk r (IsTidied swap_time e l d l' d')
tidied_named (Ok n) swap_time name text e l d l' d' same is h =
    tidied_is swap_time e (events.Swap name) l d l' d' n same (λ objects s. subst (λ t. ArePutWhereTold (named_owners l (object_named objects (chars t))) l d l' d' n) is (h objects s))
tidied_named (Err f) swap_time name text e l d l' d' same is h = tt

-- Versions went, and the turn is over as it was.
pub over_still : (first before behind : Live) → ((told : Option Bytes) (programs : List RawProgram) (w : World) → Stands told programs before w → Stands told programs behind w) → behind ≡ record before { versions = behind.versions; swapper = behind.swapper } → IsOver first before → IsOver first behind
over_still first before behind world only o = record {
  world = λ told programs w h.
      let k : IsWorldOf told programs before w = o.world told programs w h in
      record { stands = world told programs w k.stands; compiled = k.compiled; shadows = k.shadows };
  outputs = ap (λ (l : Live). l.outputs) only ∙ o.outputs;
  forgotten = ap (λ (l : Live). names.died_in l.names) only ∙ o.forgotten;
}

-- none went, for no version was made
pub none_made : (live : Live) (event : Event) (before : ℕ) (drops : Bool) → drops ≡ drops_behind event before (length live.versions) → drops ≡ false → drops_behind event before (length live.versions) ≡ true → HasNeededAlone live
none_made live event before drops e f t = absurd (differ (sym f ∙ e ∙ t))
  where
    differ : false ≡ true → ⊥
    differ q = cc
