-- What calls answer one after another that bring something into memory.
use Rattle.std.proofs.Common.{◌≡◌, ◌∙◌, ℕ, List, Option, Result, Ok, refl, ap, subst}
use Rattle.lp_code.specs.declared.program.RawProgram.{RawProgram}
use Rattle.lp_swapfile.specs.Counts.{Counts}
use Rattle.lp_swapfile.specs.Device.{Bytes, Last}
use Rattle.lp_language.specs.World.{World}
use Rattle.lp_residence.specs.Entering.{is_read_fault}
use Rattle.lp_residence.specs.declared.answers.EnterFault.{EnterFault}
use Rattle.lp_step.specs.Steps.{KeepsVariables}
use Rattle.lp_world.specs.declared.live.Live.{Live}
use Rattle.lp_world.specs.Stands.{Stands}
use Rattle.lp_targets.specs.Brought.{Brings, StaysInMemory}
use Rattle.lp_targets.proofs.Memory.{stays_more}

-- a state stands for some world
pub record StandsSomewhere (told : Option Bytes) (live : Live) : Type 0 where
  pub programs : List RawProgram
  pub world : World
  pub stands : Stands told programs live world

-- one after another, where the state stands for some world in between
pub brings_then : {A B : Type 0} {told0 told1 told2 : Option Bytes} {last1 last2 : Last} {reads0 reads1 reads2 writes0 writes1 writes2 : ℕ} {true0 true1 true2 honest0 honest1 honest2 : Type 0} {old mid new : Live} {x : A} {r : Result B EnterFault}
    → Brings {A = A} told0 told1 last1 reads0 reads1 writes0 writes1 true0 true1 honest0 honest1 old mid (Ok x)
    → (true1 → StandsSomewhere told1 mid)
    → Brings {A = B} told1 told2 last2 reads1 reads2 writes1 writes2 true1 true2 honest1 honest2 mid new r
    → Brings {A = B} told0 told2 last2 reads0 reads2 writes0 writes2 true0 true2 honest0 honest2 old new r
brings_then {reads2 = reads2} {old = old} {mid = mid} {new = new} {r = r} h s k = record {
  stays = stays_more old mid new h.stays k.stays;
  cause = k.cause;
  faults = subst (λ n. Counts (is_read_fault r) n reads2) h.faults k.faults;
  write_faults = k.write_faults ∙ h.write_faults;
  kept = k.kept ∙ h.kept;
  truthful = λ t. h.truthful (k.truthful t);
  honest = λ z. ((h.honest (k.honest z).0).0, λ t programs w g. let x = s (k.truthful t) in (k.honest z).1 t x.programs x.world x.stands);
}

-- What stays.

pub home_still : (old new : Live) → StaysInMemory old new → KeepsVariables old.objects new.objects
home_still old new s o vs e = (vs, s.variables o vs e, refl)

pub cells_still : (old new : Live) → StaysInMemory old new → new.cells ≡ old.cells
cells_still old new s = ap (λ (l : Live). l.cells) s.others

pub outputs_still : (old new : Live) → StaysInMemory old new → new.outputs ≡ old.outputs
outputs_still old new s = ap (λ (l : Live). l.outputs) s.others
