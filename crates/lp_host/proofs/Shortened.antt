-- Hosted games that were cut short.
use Rattle.std.proofs.Common.{subst, ◌≡◌, ℕ, ◌≤◌, ◌+◌, List, [], ◌++◌, Bool, length, Option, Some, None, refl, sym, ap, ◌∙◌, ◌⊎◌, inl, inr, append-nil, append_assoc, arith}
use Rattle.std.proofs.Math.Seq.{take-length}
use Rattle.lp_io.specs.Told.{after_adding, IsCut}
use Rattle.lp_events.specs.declared.out.Out.{Out}
use Rattle.lp_swapfile.specs.Device.{Bytes}
use Rattle.lp_core.specs.Turning.{Origin, Turn, turns_of}
use Rattle.lp_core.specs.declared.driver.Stop.{Stop}
use Rattle.lp_core.specs.declared.driver.Stop.TheVariants as stops
use Rattle.lp_driver.specs.VmFault.TheVariants as driver
use Rattle.lp_driver.specs.declared.driver.StartFault.{StartFault}
use Rattle.lp_driver.specs.declared.driver.StartFault.TheVariants as start
use Rattle.lp_folder.specs.Held.{ArePaths, Held, HoldsAll}
use Rattle.lp_folder.specs.declared.outside.Loaded.{Loaded}
use Rattle.lp_recording.specs.Recorded.{IsFrontOf, ending, files_in}
use Rattle.lp_recording.specs.declared.recording.Keeps.{Keeps}
use Rattle.lp_residence.specs.declared.answers.SwapCause.{SwapCause}
use Rattle.lp_serving.specs.Recorded.{deeds_written}
use Rattle.lp_serving.proofs.EventsRecorded.{adding_twice}
use Rattle.lp_serve.specs.CutRuns.{CutsRun, HasKept}
use Rattle.lp_serve.specs.declared.run.Served.{Served}
use Rattle.lp_serve.specs.declared.run.Served.TheVariants as served
use Rattle.lp_serve.proofs.Running.{nothing_written}
use Rattle.lp_serve.proofs.Shortened.{front_behind, front_of_first}
use Rattle.lp_world.specs.declared.live.Live.{Live}
use Rattle.lp_host.specs.CutGames.{CutsGame, HasGone, WasHosted, WasPlayed, origin_of}
use Rattle.lp_files.specs.declared.store.Store.{Store}
use Rattle.lp_wire.specs.declared.happening.WireCall.{WireCall}
use Rattle.lp_host.specs.Hosting.{IsHosted, hosted_of, opening_written, stopped_of, unstarted_of}
use Rattle.lp_host.specs.Playing.{HasPlayed}
use Rattle.lp_host.specs.declared.run.Hosted.{Hosted}
use Rattle.lp_host.specs.declared.run.Hosted.TheVariants.{Done, NoMaster, OutputFault, SwapFault, FilesFault, WireFault, TurnsSpent, NoMemory}

-- what is kept of turns is told otherwise
kept_as : (ran0 ran1 : List Turn → Type 0) (keeps : Keeps) (P Q : List ℕ → Type 0) → ((turns : List Turn) → ran0 turns → ran1 turns) → ((bytes : List ℕ) → P bytes → Q bytes) → HasKept ran0 keeps P → HasKept ran1 keeps Q
kept_as ran0 ran1 keeps P Q f g h = record { deeds = h.deeds; did = f (turns_of h.deeds) h.did; written = g (deeds_written keeps h.deeds) h.written }

-- The loop

stopped_cuts : (why : Stop) (cause : Option SwapCause) (gone : (List ℕ → Type 0) → Type 0) (keeps : Keeps) (before now : Option (List ℕ)) → gone (λ bytes. now ≡ after_adding before bytes) → CutsGame (stopped_of why cause) gone keeps before now
stopped_cuts stops.NoMemory cause gone keeps before now h = inr h
stopped_cuts stops.Swap (Some cause) gone keeps before now h = inr h
stopped_cuts stops.Swap None gone keeps before now h = inr h

-- the loop was cut short as the whole is
pub loop_cuts : (s : Served) (cause : Option SwapCause) (ran0 ran1 : List Turn → Type 0) (keeps : Keeps) (before now : Option (List ℕ)) → ((turns : List Turn) → ran0 turns → ran1 turns) → CutsRun s ran0 keeps before now
    → CutsGame (hosted_of s cause) (HasKept ran1 keeps) keeps before now
loop_cuts served.Done cause ran0 ran1 keeps before now f h = tt
loop_cuts served.OutputFault cause ran0 ran1 keeps before now f h = kept_as ran0 ran1 keeps (λ bytes. IsFrontOf (bytes ++ ending keeps) before now) (λ bytes. IsFrontOf (bytes ++ ending keeps) before now) f (λ bytes p. p) h
loop_cuts (served.FilesFault path) cause ran0 ran1 keeps before now f h = tt
loop_cuts served.WireFault cause ran0 ran1 keeps before now f h = tt
loop_cuts served.TurnsSpent cause ran0 ran1 keeps before now f h = tt
loop_cuts (served.Stopped why) cause ran0 ran1 keeps before now f h =
    stopped_cuts why cause (HasKept ran1 keeps) keeps before now (kept_as ran0 ran1 keeps (λ bytes. now ≡ after_adding before bytes) (λ bytes. now ≡ after_adding before bytes) f (λ bytes p. p) h)
loop_cuts served.NoMemory cause ran0 ran1 keeps before now f h = inr (kept_as ran0 ran1 keeps (λ bytes. now ≡ after_adding before bytes) (λ bytes. now ≡ after_adding before bytes) f (λ bytes p. p) h)

-- The beginning

-- nothing was played yet
none_kept : (origin : Origin) (keeps : Keeps) (told : Option Bytes) (live : Live) (P : List ℕ → Type 0) → HasPlayed origin told live [] → P [] → HasKept (WasPlayed origin) keeps P
none_kept origin keeps told live P began p = record { deeds = []; did = (told, live, began); written = subst P (sym (nothing_written keeps)) p }

-- the beginning was written up to here
pub beginning_cuts : (seed opening : ℕ) (keeps : Keeps) (files : List Loaded) (outs : List Out) (told : Option Bytes) (live : Live) (before now : Option (List ℕ)) → HasPlayed (origin_of seed opening files outs) told live []
    → IsCut before now (opening_written keeps seed opening files outs) → CutsGame OutputFault (HasGone seed keeps opening files) keeps before now
beginning_cuts seed opening keeps files outs told live before now began cut =
    let o = opening_written keeps seed opening files outs in
    let first : IsFrontOf o before now = (cut.0, omega (arith, cut.1), cut.2) in (
      outs,
      none_kept (origin_of seed opening files outs) keeps told live (λ bytes. IsFrontOf ((o ++ bytes) ++ ending keeps) before now) began
          (front_of_first before now (o ++ []) (ending keeps) (front_of_first before now o [] first)),
    )

-- the whole of it was written behind the beginning, or nothing
behind : (seed opening : ℕ) (keeps : Keeps) (files : List Loaded) (outs : List Out) (told : Option Bytes) (live : Live) (before mid now : Option (List ℕ)) → HasPlayed (origin_of seed opening files outs) told live []
    → mid ≡ after_adding before (opening_written keeps seed opening files outs) → ((now ≡ mid) ⊎ HasKept (WasPlayed (origin_of seed opening files outs)) keeps (λ bytes. now ≡ after_adding mid bytes))
    → (now ≡ before) ⊎ HasGone seed keeps opening files (λ bytes. now ≡ after_adding before bytes)
behind seed opening keeps files outs told live before mid now began wrote (inl same) =
    let o = opening_written keeps seed opening files outs in
    inr (outs, none_kept (origin_of seed opening files outs) keeps told live (λ bytes. now ≡ after_adding before (o ++ bytes)) began (same ∙ wrote ∙ ap (after_adding before) (sym (append-nil o))))
behind seed opening keeps files outs told live before mid now began wrote (inr h) =
    let ran = WasPlayed (origin_of seed opening files outs) in
    let o = opening_written keeps seed opening files outs in
    inr (
      outs,
      kept_as ran ran keeps (λ bytes. now ≡ after_adding mid bytes) (λ bytes. now ≡ after_adding before (o ++ bytes)) (λ turns r. r)
          (λ bytes e. e ∙ ap (λ (told : Option (List ℕ)). after_adding told bytes) wrote ∙ adding_twice before o bytes) h,
    )

-- the beginning was written, and the game was cut short behind it
pub game_cuts : (s : Hosted) (seed opening : ℕ) (keeps : Keeps) (files : List Loaded) (outs : List Out) (told : Option Bytes) (live : Live) (before mid now : Option (List ℕ)) → HasPlayed (origin_of seed opening files outs) told live []
    → mid ≡ after_adding before (opening_written keeps seed opening files outs) → CutsGame s (HasKept (WasPlayed (origin_of seed opening files outs)) keeps) keeps mid now → CutsGame s (HasGone seed keeps opening files) keeps before now
game_cuts Done seed opening keeps files outs told live before mid now began wrote h = tt
game_cuts (NoMaster faults) seed opening keeps files outs told live before mid now began wrote h = tt
game_cuts (FilesFault path) seed opening keeps files outs told live before mid now began wrote h = tt
game_cuts WireFault seed opening keeps files outs told live before mid now began wrote h = tt
game_cuts TurnsSpent seed opening keeps files outs told live before mid now began wrote h = tt
game_cuts OutputFault seed opening keeps files outs told live before mid now began wrote h =
    let ran = WasPlayed (origin_of seed opening files outs) in
    let o = opening_written keeps seed opening files outs in (
      outs,
      kept_as ran ran keeps (λ bytes. IsFrontOf (bytes ++ ending keeps) mid now) (λ bytes. IsFrontOf ((o ++ bytes) ++ ending keeps) before now) (λ turns r. r)
          (λ bytes f. subst (λ (xs : List ℕ). IsFrontOf xs before now) (sym (append_assoc o bytes (ending keeps))) (front_behind before mid now o (bytes ++ ending keeps) wrote f)) h,
    )
game_cuts (SwapFault cause) seed opening keeps files outs told live before mid now began wrote h = behind seed opening keeps files outs told live before mid now began wrote h
game_cuts NoMemory seed opening keeps files outs told live before mid now began wrote h = behind seed opening keeps files outs told live before mid now began wrote h

-- where the start was not carried out nothing was written
pub unstarted_cuts : (f : StartFault) (gone : (List ℕ → Type 0) → Type 0) (keeps : Keeps) (before now : Option (List ℕ)) → now ≡ before → CutsGame (unstarted_of f) gone keeps before now
unstarted_cuts (start.NoMaster faults) gone keeps before now e = tt
unstarted_cuts (start.Stopped driver.NoMemory) gone keeps before now e = inl e
unstarted_cuts (start.Stopped (driver.Swap cause)) gone keeps before now e = inl e

-- a game of files that were loaded is one of those that are held
pub held_cuts : (s : Hosted) (seed opening : ℕ) (keeps : Keeps) (held : Option Held) (files : List Loaded) (before now : Option (List ℕ)) → HoldsAll files held → ArePaths files → CutsGame s (HasGone seed keeps opening files) keeps before now
    → CutsGame s (WasHosted seed keeps held opening) keeps before now
held_cuts Done seed opening keeps held files before now l p h = tt
held_cuts (NoMaster faults) seed opening keeps held files before now l p h = tt
held_cuts (FilesFault path) seed opening keeps held files before now l p h = tt
held_cuts WireFault seed opening keeps held files before now l p h = tt
held_cuts TurnsSpent seed opening keeps held files before now l p h = tt
held_cuts OutputFault seed opening keeps held files before now l p h = record { files = files; loaded = l; paths = p; gone = h }
held_cuts (SwapFault cause) seed opening keeps held files before now l p (inl e) = inl e
held_cuts (SwapFault cause) seed opening keeps held files before now l p (inr h) = inr (record { files = files; loaded = l; paths = p; gone = h })
held_cuts NoMemory seed opening keeps held files before now l p (inl e) = inl e
held_cuts NoMemory seed opening keeps held files before now l p (inr h) = inr (record { files = files; loaded = l; paths = p; gone = h })

-- a game that ran to its end was written whole, which is a front
pub whole_cuts : (seed opening : ℕ) (keeps : Keeps) (held : Option Held) (before now : Option (List ℕ)) (stops : Bool) (polls : ℕ → Type 0) (left : Store → Type 0) (told0 told1 : Option (List WireCall))
    → IsHosted seed keeps held opening before now (ending keeps) stops polls left told0 told1 → WasHosted seed keeps held opening (λ bytes. IsFrontOf (bytes ++ ending keeps) before now)
whole_cuts seed opening keeps held before now stops polls left told0 told1 h =
    let o = opening_written keeps seed opening h.files h.outs in
    let run = h.played.run in
    let all = deeds_written keeps run.deeds ++ ending keeps in
    let same : now ≡ after_adding before ((o ++ deeds_written keeps run.deeds) ++ ending keeps) =
    run.written ∙ adding_twice before o all ∙ ap (after_adding before) (sym (append_assoc o (deeds_written keeps run.deeds) (ending keeps))) in
    let whole = (o ++ deeds_written keeps run.deeds) ++ ending keeps in
    record {
      files = h.files;
      loaded = h.loaded;
      paths = h.paths;
      gone = (h.outs, record { deeds = run.deeds; did = (h.played.swapped, h.played.live, run.did); written = (length whole, omega arith, same ∙ ap (after_adding before) (sym (take-length whole))) });
    }
