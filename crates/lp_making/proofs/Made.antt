-- A version that came: what is said of each world.
use Rattle.std.proofs.Common.{◌++◌, ℕ, List, [], ◌∷◌, Result, Ok, Err, OnOk, refl, sym, subst}
use Rattle.lp_values.specs.declared.id.ProgId.{ProgId}
use Rattle.lp_code.specs.declared.program.RawProgram.{RawProgram}
use Rattle.lp_meaning.specs.FileLoads.{version_now}
use Rattle.lp_meaning.specs.WorldSteps as steps
use Rattle.lp_world.specs.Closed.{IsClosed}
use Rattle.lp_world.specs.Stands.{Stands}
use Rattle.lp_world.specs.declared.live.Live.{Live}
use Rattle.lp_residence.specs.Adding.{IsNewVersion}
use Rattle.lp_making.specs.Versions.{StandsWithVersion, StandsWithVersionOf}
use Rattle.lp_making.proofs.NewVersion.{stands_with_version}

version_stands : (old new : Live) (file : List ℕ) (p : RawProgram) → IsClosed old → IsNewVersion old new file p → StandsWithVersion old new file p
version_stands old new file p c i told programs w v h now =
    subst (λ l. Stands told (programs ++ p ∷ []) l (steps.with_new_version w v)) (sym i.after) (stands_with_version told programs old w file p i.version v h c i.is now)

pub came : {E : Type 0} (old new : Live) (file : List ℕ) (p : RawProgram) (result : Result ProgId E) → IsClosed old → OnOk result (IsNewVersion old new file p) → OnOk result (StandsWithVersion old new file p)
came old new file p (Ok n) c i = version_stands old new file p c i
came old new file p (Err e) c i = tt

pub came_of : {E : Type 0} (old new : Live) (file : List ℕ) (p : RawProgram) (result : Result ProgId E) → IsClosed old → OnOk result (IsNewVersion old new file p) → OnOk result (StandsWithVersionOf old new file p)
came_of old new file p (Ok n) c i = λ told programs w name items pragmas simuls h named.
    version_stands old new file p c i told programs w (version_now w name items pragmas p.tables.parents simuls) h (record { path = named; parents = refl; latest = refl })
came_of old new file p (Err e) c i = tt
