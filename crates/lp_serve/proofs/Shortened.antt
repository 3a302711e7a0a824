-- Served runs that were cut short.
use Rattle.std.proofs.Common.{subst, ◌≡◌, ℕ, ◌≤◌, ◌+◌, List, [], ◌∷◌, ◌++◌, length, take, Option, Result, Ok, Err, Bool, true, false, refl, sym, ap, ◌∙◌, arith}
use Rattle.std.proofs.Math.Seq.{take-append-add}
use Rattle.std.proofs.lemmas.List.{length-append, take-append-le}
use Rattle.lp_io.specs.Told.{after_adding}
use Rattle.lp_core.specs.Turning.{Origin, Turn, turns_of}
use Rattle.lp_wire.specs.Courses.{Deed}
use Rattle.lp_wire.specs.declared.happening.WireCall.{WireCall}
use Rattle.lp_recording.specs.Recorded.{IsFrontOf, ending}
use Rattle.lp_recording.specs.declared.recording.Keeps.{Keeps}
use Rattle.lp_serving.specs.CutShort.{CutsShort, WroteUpTo}
use Rattle.lp_serving.specs.Recorded.{Recorded, deeds_written}
use Rattle.lp_serving.specs.declared.server.End.{End}
use Rattle.lp_serving.specs.declared.server.End.TheVariants as ends
use Rattle.lp_serving.proofs.EventsRecorded.{adding_twice}
use Rattle.lp_serve.specs.declared.game.Game.{Game}
use Rattle.lp_serve.specs.declared.run.Early.{Early}
use Rattle.lp_serve.specs.declared.run.Early.TheVariants as early
use Rattle.lp_serve.specs.declared.run.Served.{Served}
use Rattle.lp_serve.specs.declared.run.Served.TheVariants.{Done, OutputFault, FilesFault, WireFault, TurnsSpent, Stopped, NoMemory}
use Rattle.lp_serve.specs.CutRuns.{CutsRun, EndsUpTo, HasKept, IfCut}
use Rattle.lp_serve.specs.Served.{IfStopped, Runs, early_served}
use Rattle.lp_serve.proofs.Running.{adding_none, nothing_written}

-- before the first turn nothing was written
none_yet : (ran : List Turn → Type 0) (keeps : Keeps) (from : Option (List ℕ)) → ran [] → Recorded ran keeps from from []
none_yet ran keeps from began = record { did = began; written = adding_none from ∙ ap (after_adding from) (sym (nothing_written keeps)) }

-- what rounds have recorded
pub rounds_recorded : (opening n : ℕ) (ran0 ran1 : List Turn → Type 0) (keeps : Keeps) (from now : Option (List ℕ)) (g : Game) (stops : Bool) (c0 c1 : Option (List WireCall))
    → Runs opening n (Recorded ran0 keeps from from) (Recorded ran1 keeps from now) g stops c0 c1 → ran0 [] → (deeds : List Deed) × Recorded ran1 keeps from now deeds
rounds_recorded opening n ran0 ran1 keeps from now g stops c0 c1 a began = (a.deeds, a.ran [] (none_yet ran0 keeps from began))

-- a front of what was written first is one of the whole
pub front_of_first : (from now : Option (List ℕ)) (bytes more : List ℕ) → IsFrontOf bytes from now → IsFrontOf (bytes ++ more) from now
front_of_first from now bytes more f =
    let long : length (bytes ++ more) ≡ length bytes + length more = length-append bytes more in
    (f.0, omega (arith, f.1, long), f.2 ∙ ap (after_adding from) (sym (take-append-le f.0 bytes more f.1)))

pub front_behind : (from mid now : Option (List ℕ)) (bytes more : List ℕ) → mid ≡ after_adding from bytes → IsFrontOf more mid now → IsFrontOf (bytes ++ more) from now
front_behind from mid now bytes more e f =
    let same : take (length bytes + f.0) (bytes ++ more) ≡ bytes ++ take f.0 more = take-append-add bytes more f.0 in
    let long : length (bytes ++ more) ≡ length bytes + length more = length-append bytes more in (
      length bytes + f.0,
      omega (arith, f.1, long),
      f.2 ∙ ap (λ (told : Option (List ℕ)). after_adding told (take f.0 more)) e ∙ adding_twice from bytes (take f.0 more) ∙ ap (after_adding from) (sym same),
    )

-- the end of a run whose output failed behind its turns
pub output_cut : (ran : List Turn → Type 0) (keeps : Keeps) (from mid now : Option (List ℕ)) (deeds : List Deed) → ran (turns_of deeds) → mid ≡ after_adding from (deeds_written keeps deeds) → IsFrontOf (ending keeps) mid now
    → CutsRun OutputFault ran keeps from now
output_cut ran keeps from mid now deeds did wrote f = record { deeds = deeds; did = did; written = front_behind from mid now (deeds_written keeps deeds) (ending keeps) wrote f }

-- the end of a run that the operator stopped
pub stopped_cut : (s : Served) (P : Type 0) (ran : List Turn → Type 0) (keeps : Keeps) (from mid now : Option (List ℕ)) (deeds : List Deed) → IfStopped s P → EndsUpTo s (ending keeps) mid now
    → ran (turns_of deeds) → mid ≡ after_adding from (deeds_written keeps deeds) → CutsRun s ran keeps from now
stopped_cut Done P ran keeps from mid now deeds p e did wrote = tt
stopped_cut (FilesFault path) P ran keeps from mid now deeds p e did wrote = tt
stopped_cut OutputFault P ran keeps from mid now deeds p e did wrote = output_cut ran keeps from mid now deeds did wrote e
stopped_cut NoMemory P ran keeps from mid now deeds p e did wrote = record { deeds = deeds; did = did; written = e ∙ wrote }
stopped_cut WireFault P ran keeps from mid now deeds p e did wrote = absurd p
stopped_cut TurnsSpent P ran keeps from mid now deeds p e did wrote = absurd p
stopped_cut (Stopped why) P ran keeps from mid now deeds p e did wrote = absurd p

-- the end of a run whose round was cut short
early_cuts : (e : Early) (ran0 ran1 : Origin → List Turn → Type 0) (keeps : Keeps) (origin : Origin) (from old now : Option (List ℕ)) (ds : List Deed)
    → IfCut (Err e) (CutsShort ran0 ran1 keeps old now) → Recorded (ran0 origin) keeps from old ds → CutsRun (early_served e) (ran1 origin) keeps from now
early_cuts early.Wire ran0 ran1 keeps origin from old now ds h r = tt
early_cuts (early.At ends.Output) ran0 ran1 keeps origin from old now ds h r =
    let w = h origin from ds r in
    record { deeds = w.deeds; did = w.did; written = front_of_first from now (deeds_written keeps w.deeds) (ending keeps) w.wrote }
early_cuts (early.At (ends.Stopped why)) ran0 ran1 keeps origin from old now ds h r = let w = h origin from ds r in record { deeds = w.deeds; did = w.did; written = w.wrote }
early_cuts (early.At ends.NoMemory) ran0 ran1 keeps origin from old now ds h r = let w = h origin from ds r in record { deeds = w.deeds; did = w.did; written = w.wrote }

pub early_cut : (s : Served) (e : Early) (ran0 ran1 : Origin → List Turn → Type 0) (keeps : Keeps) (origin : Origin) (from old now : Option (List ℕ)) (ds : List Deed) → s ≡ early_served e
    → IfCut (Err e) (CutsShort ran0 ran1 keeps old now) → Recorded (ran0 origin) keeps from old ds → CutsRun s (ran1 origin) keeps from now
early_cut s e ran0 ran1 keeps origin from old now ds is h r = subst (λ (x : Served). CutsRun x (ran1 origin) keeps from now) (sym is) (early_cuts e ran0 ran1 keeps origin from old now ds h r)

pub cut_keeping : (e : Early) (ran0 ran1 : Origin → List Turn → Type 0) (k0 k1 : Keeps) (old now : Option (List ℕ)) → k1 ≡ k0 → IfCut (Err e) (CutsShort ran0 ran1 k1 old now) → IfCut (Err e) (CutsShort ran0 ran1 k0 old now)
cut_keeping e ran0 ran1 k0 k1 old now is h = subst (λ (k : Keeps). IfCut (Err e) (CutsShort ran0 ran1 k old now)) is h
