-- Turns and the start lose nothing, and end.
use Rattle.lp_meaning.specs.Limits.{max_connections}
use Rattle.std.proofs.Common.{◌≡◌, ◌⊎◌, inl, inr, ℕ, ◌+◌, ◌*◌, Bool, true, false, cond, List, [], ◌∷◌, Option, Some, None, refl, subst, arith}
use Rattle.std.specs.Prelude.{codes, length, nat_lt, ◌&&◌}
use Rattle.lp_tree.specs.declared.fault.Fault.{Fault}
use Rattle.lp_values.specs.declared.id.ObjId.{ObjId}
use Rattle.lp_values.specs.declared.value.Value.{Value}
use Rattle.lp_values.specs.declared.value.Value.TheVariants.{Str, Obj}
use Rattle.lp_events.specs.declared.event.Event.{Event}
use Rattle.lp_events.specs.declared.event.Event.TheVariants.{Connect, Line, Gone, Tick, Reload, Swap}
use Rattle.lp_events.specs.declared.out.Out.{Out}
use Rattle.lp_events.specs.declared.out.Out.TheVariants as outs
use Rattle.lp_language.specs.World.{File, World, Keeps, Waiting, is_live, new_world, object_named}
use Rattle.lp_timers.specs.Timers.{CallOut, CleanUp, Reset}
use Rattle.lp_language.specs.Course.{State, End, Gives, Stops, Apply, Command, Load, Wanted, Reply, Plain, WasRead, IsSound, IsFaulty, Outcome, CanAnswer, Course, Over, Asks, Entry, Fits, and_then, in_any_case, gives, zero_value}
use Rattle.lp_language.specs.Afterwards.{EndsAfter}
use Rattle.lp_language.specs.Operations.{is_false}
use Rattle.lp_language.proofs.Kept.{keeps_same, keeps_trans}
use Rattle.lp_language.proofs.Prices.{after_same}
use Rattle.lp_timers.specs.Timers.{due_at, waits, beats_at, beats_by, watched_at, is_watched}
use Rattle.lp_meaning.specs.WorldSteps.{as_name, master_name, was_made, holder_of, is_open, with_connection, without_connection, reloaded}
use Rattle.lp_meaning.specs.Askers.{driver, ask_reply, ask_value, told}
use Rattle.lp_meaning.specs.FileLoads.{text_target, loaded_value}
use Rattle.lp_meaning.specs.EventTurns as turns
use Rattle.lp_meaning.specs.EventTurns.{Done, Start, Begins, NoMaster, begun, call_end, driver_call, driver_apply, driver_load, applied_if, driver_master, starting, at_rest, done, closed, numbered, admitted, after_logon, free_object, connect_turn, line_text, line_taken, line_of, line_turn, without_number, gone_turn, reload_turn, waiting_for, without_waiting, shown, preloading, with_epilog, with_simul, simul_set, simul_answered, after_master, aborted, faults_in, master_loaded}
use Rattle.lp_meaning.specs.Ticks.{without_due, calls_out, player_if_living, with_next_beat, without_beat, after_beat, heart_beats, with_next_watch, resets, clean_up_argument, without_clean_up, after_clean_up, clean_ups, at_moment, tick_turn, turn}
use Rattle.lp_meaning.specs.FrontEnd.{FrontEnd}
use Rattle.lp_meaning.specs.Closing.{Ends, Turns, MakesNoMaster, RunsFrom, over, then, Run}
use Rattle.lp_meaning.specs.NothingLost.{StaysBelow, TurnsKeep, EveryEventHasATurn, EveryScriptHasARun}
use Rattle.lp_meaning.proofs.Worlds.{keeps_these, keeps_reloaded}
use Rattle.lp_meaning.proofs.Stays.{reply_stays, value_stays}
use Rattle.lp_meaning.proofs.StayLoads.{target_stays}
use Rattle.lp_meaning.proofs.Answered.{every_course_ends}

-- A course of the driver keeps a world and never stops.
abbrev KeepsOn : {A : Type 0} → World → Course A → Type 0
KeepsOn w (Over (Gives x s)) = Keeps w s.world
KeepsOn w (Over (Stops x s)) = ⊥
KeepsOn w (Asks a k) = (o : Outcome) → CanAnswer a o → KeepsOn w (k o)

module _ (w : World) where
  either_world : (b : Bool) (s t : State) → Keeps w s.world → Keeps w t.world → Keeps w (cond b s t).world
  either_world true s t h g = h
  either_world false s t h g = g

  keeps_then : {A B : Type 0} (c : Course A) (go : A → State → Course B) → KeepsOn w c → ((x : A) (s : State) → Keeps w s.world → KeepsOn w (go x s)) → KeepsOn w (and_then c go)
  keeps_then (Over (Gives x s)) go h g = g x s h
  keeps_then (Over (Stops x s)) go h g = absurd h
  keeps_then (Asks a k) go h g = λ o can. keeps_then (k o) go (h o can) g

  keeps_cond : {A : Type 0} (b : Bool) (t u : Course A) → KeepsOn w t → KeepsOn w u → KeepsOn w (cond b t u)
  keeps_cond true t u h g = h
  keeps_cond false t u h g = g

  keeps_either : {A B : Type 0} (o : Option B) (some : B → Course A) (none : Course A) → ((x : B) → KeepsOn w (some x)) → KeepsOn w none → KeepsOn w (elim o [ Some x ↦ some x | None ↦ none ])
  keeps_either None some none g h = h
  keeps_either (Some x) some none g h = g x

  -- a world that comes of another with the same versions, objects and cells
  keeps_more : (s : State) (v : World) → Keeps w s.world → v.versions ≡ s.world.versions → v.objects ≡ s.world.objects → v.cells ≡ s.world.cells → Keeps w v
  keeps_more s v h p q c = keeps_trans w s.world v h (keeps_these s.world v p q c)

  call_end_keeps : (r : State) (player : Option ObjId) (e : End Value) → Keeps w r.world → EndsAfter r e → KeepsOn w (Over (call_end player e))
  call_end_keeps r player (Gives v s) h g = keeps_trans w r.world s.world h g.keeps
  call_end_keeps r player (Stops x s) h g = keeps_trans w r.world s.world h g.keeps

  call_so : (n : ℕ) (r : State) (player : Option ObjId) (c : Course Value) → Keeps w r.world → StaysBelow n r c → KeepsOn w (in_any_case c (λ e. Over (call_end player e)))
  call_so n r player (Over e) h g = call_end_keeps r player e h g
  call_so n r player (Asks a k) h g = λ o can. call_so n r player (k o) h (g.1 o can)

  driver_call_keeps : (n : ℕ) (player : Option ObjId) (go : State → Course Value) (s : State) → Keeps w s.world → StaysBelow n (begun player s) (go (begun player s)) → KeepsOn w (driver_call player go s)
  driver_call_keeps n player go s h g = call_so n (begun player s) player (go (begun player s)) h g

  apply_keeps : (player interactive : Option ObjId) (o : ObjId) (fun : List ℕ) (xs : List Value) (s : State) → Keeps w s.world → KeepsOn w (driver_apply player interactive o fun xs s)
  apply_keeps player interactive o fun xs s h =
      let s0 : State = begun player s in
      driver_call_keeps (2 * s0.budget + 1) player (λ s. ask_value (Apply o fun) xs (driver interactive) s) s h (value_stays (2 * s0.budget + 1) s0 (Apply o fun) xs (driver interactive) s0 (omega arith) (after_same s0))

  load_keeps : (name : List ℕ) (s : State) → Keeps w s.world → KeepsOn w (driver_load name s)
  load_keeps name s h =
      let s0 : State = begun None s in
      driver_call_keeps (2 * s0.budget + 1) None (λ s. text_target (driver None) name s) s h (target_stays (2 * s0.budget + 1) s0 (omega arith) (driver None) name s0 (after_same s0))

  applied_keeps : (m : Option ObjId) (fun : List ℕ) (xs : List Value) (s : State) → Keeps w s.world → KeepsOn w (applied_if m fun xs s)
  applied_keeps None fun xs s h = h
  applied_keeps (Some m) fun xs s h = apply_keeps None None m fun xs s h

  master_keeps : (fun : List ℕ) (xs : List Value) (s : State) → Keeps w s.world → KeepsOn w (driver_master fun xs s)
  master_keeps fun xs s h =
      keeps_either (object_named s.world master_name) (λ m. driver_apply None None m fun xs s) (and_then (driver_load master_name s) (λ d s. applied_if (object_named s.world master_name) fun xs s))
      (λ m. apply_keeps None None m fun xs s h)
      (keeps_then (driver_load master_name s) (λ d s. applied_if (object_named s.world master_name) fun xs s) (load_keeps master_name s h) (λ d s h. applied_keeps (object_named s.world master_name) fun xs s h))

  -- The start

  preloading_keeps : (vs : List Value) (s : State) → Keeps w s.world → KeepsOn w (preloading vs s)
  preloading_keeps [] s h = h
  preloading_keeps (v ∷ vs) s h =
      keeps_either (turns.text_in v) (λ t. and_then (driver_master (codes "preload") (Str t ∷ []) s) (λ d s. preloading vs s)) (preloading vs s)
      (λ t. keeps_then (driver_master (codes "preload") (Str t ∷ []) s) (λ d s. preloading vs s) (master_keeps (codes "preload") (Str t ∷ []) s h) (λ d s h. preloading_keeps vs s h)) (preloading_keeps vs s h)

  epilog_keeps : (s : State) → Keeps w s.world → KeepsOn w (with_epilog s)
  epilog_keeps s h =
      keeps_then (driver_master (codes "epilog") (zero_value ∷ []) s) (λ d s. preloading (turns.items_in s.world.cells d.value) s) (master_keeps (codes "epilog") (zero_value ∷ []) s h) (λ d s h. preloading_keeps (turns.items_in s.world.cells d.value) s h)

  simul_keeps : (name : List ℕ) (s : State) → Keeps w s.world → KeepsOn w (simul_set name s)
  simul_keeps name s h =
      keeps_either (object_named s.world name) (λ o. with_epilog s) (and_then (driver_load name s) (λ d s. with_epilog s)) (λ o. epilog_keeps s h)
      (keeps_then (driver_load name s) (λ d s. with_epilog s) (load_keeps name s h) (λ d s h. epilog_keeps s h))

  simul_answered_keeps : (t : Option (List ℕ)) (s : State) → Keeps w s.world → KeepsOn w (simul_answered t s)
  simul_answered_keeps None s h = epilog_keeps s h
  simul_answered_keeps (Some t) s h =
      let v : World = with_simul s.world (as_name t) in simul_keeps (as_name t) (record s { world = v }) (keeps_more s v h refl refl refl)

  after_master_keeps : (s : State) → Keeps w s.world → KeepsOn w (after_master s)
  after_master_keeps s h =
      let asked : Done → State → Course Start = λ d s. and_then (driver_master (codes "get_simul_efun") [] s) (λ d s. simul_answered (turns.text_in d.value) s) in
      keeps_then (driver_master (codes "inaugurate_master") (zero_value ∷ []) s) asked (master_keeps (codes "inaugurate_master") (zero_value ∷ []) s h) (λ d s h.
      keeps_then (driver_master (codes "get_simul_efun") [] s) (λ d s. simul_answered (turns.text_in d.value) s) (master_keeps (codes "get_simul_efun") [] s h) (λ d s h. simul_answered_keeps (turns.text_in d.value) s h))

  loaded_value_keeps : (x : Reply) (s : State) → Keeps w s.world → KeepsOn w (driver_call None (λ s. loaded_value master_name x s) s)
  loaded_value_keeps (Plain v) s h = h
  loaded_value_keeps (WasRead items pragmas) s h = h
  loaded_value_keeps IsSound s h = h
  loaded_value_keeps (IsFaulty fs) s h = h

  master_loaded_keeps : (r : State) (e : End Reply) → Keeps w r.world → EndsAfter r e → KeepsOn w (master_loaded e)
  master_loaded_keeps r (Gives x s) k a =
      let h = keeps_trans w r.world s.world k a.keeps in
      let told_of : Course Done = driver_call None (λ s. loaded_value master_name x s) s in
      keeps_cond (was_made s.world master_name) (and_then told_of (λ d s. after_master s)) (gives (NoMaster (faults_in x)) s)
      (keeps_then told_of (λ d s. after_master s) (loaded_value_keeps x s h) (λ d s h. after_master_keeps s h)) h
  master_loaded_keeps r (Stops x s) k a =
      let h = keeps_trans w r.world s.world k a.keeps in
      keeps_cond (was_made s.world master_name) (and_then (Over (call_end None (Stops x s))) (λ d s. after_master s)) (gives (NoMaster aborted) s)
      (keeps_then (Over (call_end None (Stops x s))) (λ d s. after_master s) h (λ d s h. after_master_keeps s h)) h

  load_so : (n : ℕ) (r : State) (c : Course Reply) → Keeps w r.world → StaysBelow n r c → KeepsOn w (in_any_case c master_loaded)
  load_so n r (Over e) h g = master_loaded_keeps r e h g
  load_so n r (Asks a k) h g = λ o can. load_so n r (k o) h (g.1 o can)

  starting_keeps : (s : State) → Keeps w s.world → KeepsOn w (starting s)
  starting_keeps s h =
      let s0 : State = begun None s in
      load_so (2 * s0.budget + 1) s0 (ask_reply (Load master_name Wanted) [] (driver None) s0) h (reply_stays (2 * s0.budget + 1) s0 (Load master_name Wanted) [] (driver None) s0 (omega arith) (after_same s0))

  -- Turns

  logon_keeps : (k : ℕ) (d : Done) (s : State) → Keeps w s.world → KeepsOn w (after_logon k d s)
  logon_keeps k d s h =
      keeps_cond (is_false s d.value && is_open s.world k) (done (closed k s)) (done s) (keeps_more s (without_connection s.world k) h refl refl refl) h

  admitted_keeps : (k : ℕ) (o : Option ObjId) (s : State) → Keeps w s.world → KeepsOn w (admitted k o s)
  admitted_keeps k None s h = h
  admitted_keeps k (Some o) s h =
      let t : State = record s { world = with_connection s.world k o } in
      keeps_then (driver_apply (Some o) (Some o) o (codes "logon") [] t) (λ d s. after_logon k d s) (apply_keeps (Some o) (Some o) o (codes "logon") [] t (keeps_more s (with_connection s.world k o) h refl refl refl)) (λ d s h. logon_keeps k d s h)

  connect_keeps : (k : ℕ) (s : State) → Keeps w s.world → KeepsOn w (connect_turn k s)
  connect_keeps k s h =
      let t : State = record s { world = numbered k s.world } in
      let l = keeps_more s (numbered k s.world) h refl refl refl in
      let asked : Course (Unit {0}) = and_then (driver_master (codes "connect") [] t) (λ d s. admitted k (free_object s.world d.value) s) in
      keeps_cond (nat_lt (length s.world.connections) max_connections) asked (done (told (outs.Close k ∷ []) t))
      (keeps_then (driver_master (codes "connect") [] t) (λ d s. admitted k (free_object s.world d.value) s) (master_keeps (codes "connect") [] t l) (λ d s h. admitted_keeps k (free_object s.world d.value) s h)) l

  taken_keeps : (k : ℕ) (o : ObjId) (x : Waiting) (text : List ℕ) (s : State) → Keeps w s.world → KeepsOn w (line_taken k o x text s)
  taken_keeps k o x text s h =
      let t : State = told (shown k x) (record s { world = without_waiting s.world k }) in
      let l = keeps_more s (without_waiting s.world k) h refl refl refl in
      keeps_cond (is_live s.world x.object) (and_then (driver_apply (Some o) (Some o) x.object x.function (Str text ∷ x.arguments) t) (λ d s. done s)) (done t)
      (keeps_then (driver_apply (Some o) (Some o) x.object x.function (Str text ∷ x.arguments) t) (λ d s. done s) (apply_keeps (Some o) (Some o) x.object x.function (Str text ∷ x.arguments) t l) (λ d s h. h)) l

  command_keeps : (o : ObjId) (text : List ℕ) (s : State) → Keeps w s.world → KeepsOn w (driver_call (Some o) (λ s. ask_value (Command o text) [] (driver (Some o)) s) s)
  command_keeps o text s h =
      let s0 : State = begun (Some o) s in
      driver_call_keeps (2 * s0.budget + 2) (Some o) (λ s. ask_value (Command o text) [] (driver (Some o)) s) s h (value_stays (2 * s0.budget + 2) s0 (Command o text) [] (driver (Some o)) s0 (omega arith) (after_same s0))

  line_keeps : (k : ℕ) (o : ObjId) (text : List ℕ) (s : State) → Keeps w s.world → KeepsOn w (line_of k o text s)
  line_keeps k o text s h =
      let carried : Course Done = driver_call (Some o) (λ s. ask_value (Command o text) [] (driver (Some o)) s) s in
      keeps_either (waiting_for s.world k) (λ x. line_taken k o x text s) (and_then carried (λ d s. done s)) (λ x. taken_keeps k o x text s h) (keeps_then carried (λ d s. done s) (command_keeps o text s h) (λ d s h. h))

  line_turn_keeps : (k : ℕ) (bytes : List ℕ) (s : State) → Keeps w s.world → KeepsOn w (line_turn k bytes s)
  line_turn_keeps k bytes s h = keeps_either (holder_of s.world k) (λ o. line_of k o (line_text bytes) s) (done s) (λ o. line_keeps k o (line_text bytes) s h) h

  gone_keeps : (k : ℕ) (s : State) → Keeps w s.world → KeepsOn w (gone_turn k s)
  gone_keeps k s h =
      let v : World = without_connection (without_number k s.world) k in
      let told_of : ObjId → Course Done = λ o. driver_master (codes "disconnect") (Obj o ∷ Str [] ∷ []) (record s { world = v }) in
      keeps_either (holder_of s.world k) (λ o. and_then (told_of o) (λ d s. done s)) (done (record s { world = without_number k s.world }))
      (λ o. keeps_then (told_of o) (λ d s. done s) (master_keeps (codes "disconnect") (Obj o ∷ Str [] ∷ []) (record s { world = v }) (keeps_more s v h refl refl refl)) (λ d s h. h))
      (keeps_more s (without_number k s.world) h refl refl refl)

  reload_keeps : (path bytes : List ℕ) (s : State) → Keeps w s.world → KeepsOn w (reload_turn path bytes s)
  reload_keeps path bytes s h = keeps_trans w s.world (reloaded s.world path bytes) h (keeps_reloaded s.world path bytes)

  calls_keep : (cs : List CallOut) (s : State) → Keeps w s.world → KeepsOn w (calls_out cs s)
  calls_keep [] s h = h
  calls_keep (c ∷ cs) s h =
      let t : State = record s { world = without_due s.world c.number } in
      let one : Course Done = driver_apply None None c.object c.function c.arguments t in
      keeps_cond (waits s.world.call_outs c.number) (and_then one (λ d s. calls_out cs s)) (calls_out cs s)
      (keeps_then one (λ d s. calls_out cs s) (apply_keeps None None c.object c.function c.arguments t (keeps_more s (without_due s.world c.number) h refl refl refl)) (λ d s h. calls_keep cs s h)) (calls_keep cs s h)

  beat_keeps : (o : ObjId) (d : Done) (s : State) → Keeps w s.world → Keeps w (after_beat o d s).world
  beat_keeps o d s h = either_world d.is_uncaught (record s { world = without_beat s.world o }) s (keeps_more s (without_beat s.world o) h refl refl refl) h

  hearts_keep : (t : ℕ) (os : List ObjId) (s : State) → Keeps w s.world → KeepsOn w (heart_beats t os s)
  hearts_keep t [] s h = h
  hearts_keep t (o ∷ os) s h =
      let v : State = record s { world = with_next_beat s.world o (t + 2) } in
      let one : Course Done = driver_apply (player_if_living s.world o) None o (codes "heart_beat") [] v in
      let more : Done → State → Course (Unit {0}) = λ d s. heart_beats t os (after_beat o d s) in
      keeps_cond (is_live s.world o && beats_by s.world.beats o t) (and_then one more) (heart_beats t os s)
      (keeps_then one more (apply_keeps (player_if_living s.world o) None o (codes "heart_beat") [] v (keeps_more s (with_next_beat s.world o (t + 2)) h refl refl refl)) (λ d s h. hearts_keep t os (after_beat o d s) (beat_keeps o d s h)))
      (hearts_keep t os s h)

  resets_keep : (t : ℕ) (os : List ObjId) (s : State) → Keeps w s.world → KeepsOn w (resets t os s)
  resets_keep t [] s h = h
  resets_keep t (o ∷ os) s h =
      let v : State = record s { world = with_next_watch s.world Reset o t } in
      let one : Course Done = driver_apply None None o (codes "reset") [] v in
      keeps_cond (is_live s.world o && is_watched s.world.watches Reset o) (and_then one (λ d s. resets t os s)) (resets t os s)
      (keeps_then one (λ d s. resets t os s) (apply_keeps None None o (codes "reset") [] v (keeps_more s (with_next_watch s.world Reset o t) h refl refl refl)) (λ d s h. resets_keep t os s h)) (resets_keep t os s h)

  clean_keeps : (o : ObjId) (d : Done) (s : State) → Keeps w s.world → Keeps w (after_clean_up o d s).world
  clean_keeps o d s h = either_world (is_false s d.value) (record s { world = without_clean_up s.world o }) s (keeps_more s (without_clean_up s.world o) h refl refl refl) h

  cleans_keep : (t : ℕ) (os : List ObjId) (s : State) → Keeps w s.world → KeepsOn w (clean_ups t os s)
  cleans_keep t [] s h = h
  cleans_keep t (o ∷ os) s h =
      let v : State = record s { world = with_next_watch s.world CleanUp o t } in
      let xs : List Value = clean_up_argument s.world o ∷ [] in
      let one : Course Done = driver_apply None None o (codes "clean_up") xs v in
      let more : Done → State → Course (Unit {0}) = λ d s. clean_ups t os (after_clean_up o d s) in
      keeps_cond (is_live s.world o && is_watched s.world.watches CleanUp o) (and_then one more) (clean_ups t os s)
      (keeps_then one more (apply_keeps None None o (codes "clean_up") xs v (keeps_more s (with_next_watch s.world CleanUp o t) h refl refl refl)) (λ d s h. cleans_keep t os (after_clean_up o d s) (clean_keeps o d s h)))
      (cleans_keep t os s h)

  tick_keeps : (t : ℕ) (s : State) → Keeps w s.world → KeepsOn w (tick_turn t s)
  tick_keeps t s h =
      let v : State = record s { world = at_moment s.world t } in
      let fourth : Unit {0} → State → Course (Unit {0}) = λ x s. clean_ups t (watched_at t CleanUp s.world.watches) s in
      let third : Unit {0} → State → Course (Unit {0}) = λ x s. and_then (resets t (watched_at t Reset s.world.watches) s) fourth in
      let second : Unit {0} → State → Course (Unit {0}) = λ x s. and_then (heart_beats t (beats_at t s.world.beats) s) third in
      keeps_then (calls_out (due_at t s.world.call_outs) v) second (calls_keep (due_at t s.world.call_outs) v (keeps_more s (at_moment s.world t) h refl refl refl)) (λ x s h.
      keeps_then (heart_beats t (beats_at t s.world.beats) s) third (hearts_keep t (beats_at t s.world.beats) s h) (λ x s h.
      keeps_then (resets t (watched_at t Reset s.world.watches) s) fourth (resets_keep t (watched_at t Reset s.world.watches) s h) (λ x s h.
      cleans_keep t (watched_at t CleanUp s.world.watches) s h)))

  turn_keeps : (event : Event) (s : State) → Keeps w s.world → KeepsOn w (turn event s)
  turn_keeps (Connect k) s h = connect_keeps k s h
  turn_keeps (Line k bytes) s h = line_turn_keeps k bytes s h
  turn_keeps (Gone k) s h = gone_keeps k s h
  turn_keeps (Tick t) s h = tick_keeps t s h
  turn_keeps (Reload path bytes) s h = reload_keeps path bytes s h
  turn_keeps (Swap name) s h = h

  -- where such a course ends
  abbrev GivesKept : {A : Type 0} → End A → Type 0
  GivesKept (Gives x s) = Keeps w s.world
  GivesKept (Stops x s) = ⊥

  over_kept : {A : Type 0} (e : End A) → KeepsOn w (Over e) → GivesKept e
  over_kept (Gives x s) h = h
  over_kept (Stops x s) h = h

  ends_kept : {A : Type 0} (c : Course A) (calls : List Entry) (e : End A) → Fits c calls e → KeepsOn w c → GivesKept e
  ends_kept (Over x) [] e f h = subst GivesKept f (over_kept x h)
  ends_kept (Over x) (y ∷ calls) e f h = absurd f
  ends_kept (Asks a k) [] e f h = absurd f
  ends_kept (Asks a k) (y ∷ calls) e f h = ends_kept (k y.outcome) calls e f.2 (h y.outcome f.1)

pub turns_keep : TurnsKeep
turns_keep front w event outs next t =
    subst (Keeps w) t.world (ends_kept w (turn event (at_rest w)) t.ends.0 (Gives tt t.at_end) t.ends.1 (turn_keeps w event (at_rest w) (keeps_same w)))

turn_of : (front : FrontEnd) (w : World) (event : Event) (e : End (Unit {0})) → Ends front (turn event (at_rest w)) e → GivesKept w e → (outs : List Out) × (next : World) × Turns front w event outs next
turn_of front w event (Gives tt s) h g = (s.outputs, s.world, record { at_end = s; ends = h; world = refl; outputs = refl })
turn_of front w event (Stops x s) h g = absurd g

pub every_event_has_a_turn : EveryEventHasATurn
every_event_has_a_turn front w event =
    let c = turn event (at_rest w) in
    let x = every_course_ends front c in
    turn_of front w event x.0 x.1 (ends_kept w c x.1.0 x.0 x.1.1 (turn_keeps w event (at_rest w) (keeps_same w)))

runs_from : (front : FrontEnd) (w : World) (events : List Event) → (outputs : List (List Out)) × (last : World) × RunsFrom front w events outputs last
runs_from front w [] = ([], w, over)
runs_from front w (event ∷ events) =
    let t = every_event_has_a_turn front w event in let r = runs_from front t.1 events in (t.0 ∷ r.0, r.1, then t.2 r.2)

script_of : (front : FrontEnd) (seed moment : ℕ) (files : List File) (events : List Event) (e : End Start) → Ends front (starting (at_rest (new_world files seed moment))) e → GivesKept (new_world files seed moment) e
    → ((outputs : List (List Out)) × (last : World) × Run front seed moment files events outputs last) ⊎ ((faults : List Fault) × MakesNoMaster front files seed moment faults)
script_of front seed moment files events (Gives Begins s) h g =
    let r = runs_from front s.world events in
    inl (s.outputs ∷ r.0, r.1, record { first = s.world; at_start = s.outputs; more = r.0; starts = record { at_end = s; ends = h; world = refl; outputs = refl }; runs = r.2; all = refl })
script_of front seed moment files events (Gives (NoMaster faults) s) h g = inr (faults, record { at_end = s; ends = h })
script_of front seed moment files events (Stops x s) h g = absurd g

pub every_script_has_a_run : EveryScriptHasARun
every_script_has_a_run front seed moment files events =
    let w = new_world files seed moment in
    let c = starting (at_rest w) in
    let x = every_course_ends front c in
    script_of front seed moment files events x.0 x.1 (ends_kept w c x.1.0 x.0 x.1.1 (starting_keeps w (at_rest w) (keeps_same w)))
