-- Loads keep call-outs.
use Rattle.lp_meaning.specs.Limits.{max_nested, load_price}
use Rattle.std.proofs.Common.{ℕ, zero, suc, ◌+◌, ◌-◌, ◌*◌, ◌<◌, ◌≤◌, cond, List, [], ◌∷◌, Option, Some, None, refl, arith, map}
use Rattle.std.specs.Prelude.{nat_lt, codes}
use Rattle.lp_values.specs.declared.id.ObjId.{ObjId}
use Rattle.lp_values.specs.declared.id.ProgId.{ProgId}
use Rattle.lp_values.specs.declared.value.Value.{Value}
use Rattle.lp_values.specs.declared.value.Value.TheVariants.{Obj}
use Rattle.lp_values.specs.declared.error.ErrorKind.TheVariants.{BadTarget, NoClone, TooMany}
use Rattle.lp_values.specs.Errors.{plain}
use Rattle.lp_tree.specs.declared.fault.Fault.{Fault}
use Rattle.lp_tree.specs.declared.fault.FaultKind.TheVariants as faults
use Rattle.lp_tree.specs.declared.pragma.Pragmas.{Pragmas}
use Rattle.lp_tree.specs.Units.{ItemTree}
use Rattle.lp_language.specs.World.{Version, object_at, object_named}
use Rattle.lp_language.specs.Course.{State, Cause, Thrown, Failed, Spent, Stop, End, Gives, Stops, LoadKind, Wanted, Inherited, Apply, Initialise, Load, Read, Check, Ask, Reply, Plain, WasRead, IsSound, IsFaulty, Course, Over, and_then, in_any_case, gives, stops, zero_value}
use Rattle.lp_lasting_laws.specs.Lasting.{After, EndsAfter}
use Rattle.lp_language.specs.Resolve.{heritage_of}
use Rattle.lp_lasting_laws.proofs.Prices.{after_same}
use Rattle.lp_meaning.specs.WorldSteps.{with_new_object, with_new_version, next_version, next_object, has_room, is_clone_name, as_name, file_of_name, master_name, version_of_object}
use Rattle.lp_meaning.specs.Askers.{Asker, asker_of, state_of, ask_reply, ask_value}
use Rattle.lp_meaning.specs.FileLoads.{Parent, Made, fault_record, faulty, initialised_parts, initialising, beginning, logged_cause, begun_end, making, is_under_way, parents_in, version_known, first_missing, simul_missing, simul_names, object_of_value, with_object_of, after_load, unless_there, file_fault, version_now, after_check, checking, parent_loaded, parent_missing, with_parents, after_read, reading, with_simul, nested_in, under_way, load_call, loaded_value, load_value, text_target, live_object, as_target, with_clone_number, clone_name, object_reply, cloning, clone_of, master_call}
use Rattle.lp_lasting_laws.specs.Lasting.{StaysBelow}
use Rattle.lp_lasting_laws.proofs.KeptCalls.{keeps_these, keeps_new_version, keeps_new_object}
use Rattle.lp_lasting_laws.proofs.Stays.{after_world, stays_from, then_stays, case_stays, cond_stays, paid_stays, either_stays, reply_stays, value_stays, told_after}

module _ (n : ℕ) (r : State) (low : 2 * r.budget + 0 < n) where
  faulty_stays : (fs : List Fault) (s : State) → After r s → StaysBelow n r (faulty fs s)
  faulty_stays fs s h = told_after n r (map fault_record fs) s h

  initialising_stays : (by : Asker) (o : ObjId) (ns : List ℕ) (s : State) → After r s → StaysBelow n r (initialising by o ns s)
  initialising_stays by o [] s h = h
  initialising_stays by o (k ∷ ns) s h = then_stays n r (ask_value (Initialise o k) [] by s) (λ v s. initialising by o ns s) (value_stays n r (Initialise o k) [] by s low h) (λ v s h. initialising_stays by o ns s h)

  beginning_stays : (by : Asker) (o : ObjId) (s : State) → After r s → StaysBelow n r (beginning by o s)
  beginning_stays by o s h =
      let created : Value → State → Course Reply = λ v s. and_then (ask_value (Apply o (codes "create")) [] by s) (λ v s. gives (Plain (Obj o)) s) in
      then_stays n r (initialising by o (initialised_parts (heritage_of s.world o)) s) created (initialising_stays by o (initialised_parts (heritage_of s.world o)) s h) (λ v s h.
      then_stays n r (ask_value (Apply o (codes "create")) [] by s) (λ v s. gives (Plain (Obj o)) s) (value_stays n r (Apply o (codes "create")) [] by s low h) (λ v s h. h))

  logged_after : (by : Asker) (o : ObjId) (x : Stop) (s : State) (c : Cause) → After r s → EndsAfter r (logged_cause by o x s c)
  logged_after by o x s (Thrown v) h = told_after n r _ s h
  logged_after by o x s (Failed e) h = told_after n r _ s h
  logged_after by o x s Spent h = h

  begun_after : (kind : LoadKind) (by : Asker) (o : ObjId) (e : End Reply) → EndsAfter r e → EndsAfter r (begun_end kind by o e)
  begun_after Wanted by o e h = h
  begun_after Inherited by o (Gives x s) h = h
  begun_after Inherited by o (Stops x s) h = logged_after by o x s x.cause h

  making_stays : (kind : LoadKind) (by : Asker) (name : List ℕ) (v : ProgId) (s : State) → After r s → StaysBelow n r (making kind by name v s)
  making_stays kind by name v s h =
      let t : State = record s { world = with_new_object s.world name v } in
      let o : ObjId = next_object s.world in
      cond_stays n r (has_room s.world) (in_any_case (beginning by o t) (λ e. Over (begun_end kind by o e))) (stops (Failed (plain TooMany)) s)
      (case_stays n r (beginning by o t) (λ e. Over (begun_end kind by o e)) (beginning_stays by o t (after_world r s t h refl refl (keeps_new_object s.world name v))) (λ e h. begun_after kind by o e h)) h

  object_of_stays : (o : Option ObjId) (s : State) (go : ObjId → State → Course Reply) → After r s → ((o : ObjId) (s : State) → After r s → StaysBelow n r (go o s)) → StaysBelow n r (with_object_of o s go)
  object_of_stays None s go h g = h
  object_of_stays (Some o) s go h g = g o s h

  after_load_stays : (x : Reply) (s : State) (go : ObjId → State → Course Reply) → After r s → ((o : ObjId) (s : State) → After r s → StaysBelow n r (go o s)) → StaysBelow n r (after_load x s go)
  after_load_stays (Plain v) s go h g = object_of_stays (object_of_value v) s go h g
  after_load_stays (WasRead items pragmas) s go h g = h
  after_load_stays IsSound s go h g = h
  after_load_stays (IsFaulty fs) s go h g = h

  unless_there_stays : (name : List ℕ) (s : State) (go : State → Course Reply) → After r s → ((s : State) → After r s → StaysBelow n r (go s)) → StaysBelow n r (unless_there name s go)
  unless_there_stays name s go h g = either_stays n r (object_named s.world name) (λ o. gives (Plain (Obj o)) s) (go s) (λ o. h) (g s h)

  after_check_stays : (kind : LoadKind) (by : Asker) (name : List ℕ) (v : Version) (x : Reply) (s : State) → After r s → StaysBelow n r (after_check kind by name v x s)
  after_check_stays kind by name v (Plain x) s h = h
  after_check_stays kind by name v (WasRead items pragmas) s h = h
  after_check_stays kind by name v IsSound s h =
      let t : State = record s { world = with_new_version s.world v } in making_stays kind by name (next_version s.world) t (after_world r s t h refl refl (keeps_new_version s.world v))
  after_check_stays kind by name v (IsFaulty fs) s h = faulty_stays fs s h

  checking_stays : (kind : LoadKind) (by : Asker) (name : List ℕ) (items : List ItemTree) (pragmas : Pragmas) (parents : List ProgId) (s : State) → After r s → StaysBelow n r (checking kind by name items pragmas parents s)
  checking_stays kind by name items pragmas parents s h =
      let simuls : List (List ℕ) = simul_names s.world by.loads in
      then_stays n r (ask_reply (Check (file_of_name name) items pragmas parents simuls) [] by s) (λ x s'. after_check kind by name (version_now s.world name items pragmas parents simuls) x s') (reply_stays n r (Check (file_of_name name) items pragmas parents simuls) [] by s low h) (λ x s' h. after_check_stays kind by name (version_now s.world name items pragmas parents simuls) x s' h)

  -- a parent is loaded, and the file is read again
  loaded_stays : (by : Asker) (name : List ℕ) (made : List Made) (again : List Made → State → Course Reply) (p : Parent) (s : State)
      → After r s → ((made : List Made) (s : State) → After r s → StaysBelow n r (again made s)) → StaysBelow n r (parent_loaded by name made again p s)
  loaded_stays by name made again p s h g =
      let next : ObjId → State → Course Reply = λ o s. unless_there name s (again (record { name = p.name; version = (object_at s.world o).version } ∷ made)) in
      then_stays n r (ask_reply (Load p.name Inherited) [] by s) (λ x s. after_load x s next) (reply_stays n r (Load p.name Inherited) [] by s low h) (λ x s h.
      after_load_stays x s next h (λ o s h.
      let more : List Made = record { name = p.name; version = (object_at s.world o).version } ∷ made in unless_there_stays name s (again more) h (λ s h. g more s h)))

  missing_stays : (by : Asker) (nested : ℕ) (name : List ℕ) (made : List Made) (again : List Made → State → Course Reply) (p : Parent) (s : State)
      → After r s → ((made : List Made) (s : State) → After r s → StaysBelow n r (again made s)) → StaysBelow n r (parent_missing by nested name made again p s)
  missing_stays by nested name made again p s h g =
      let deep : Course Reply = faulty (file_fault name p.line faults.InheritDepth ∷ []) s in
      cond_stays n r (is_under_way p.name by.loads) (faulty (file_fault name p.line faults.Cycle ∷ []) s) (cond (nat_lt max_nested (suc nested)) deep (parent_loaded by name made again p s)) (faulty_stays (file_fault name p.line faults.Cycle ∷ []) s h)
      (cond_stays n r (nat_lt max_nested (suc nested)) deep (parent_loaded by name made again p s) (faulty_stays (file_fault name p.line faults.InheritDepth ∷ []) s h) (loaded_stays by name made again p s h g))

  with_parents_stays : (kind : LoadKind) (by : Asker) (nested : ℕ) (name : List ℕ) (made : List Made) (again : List Made → State → Course Reply) (items : List ItemTree) (pragmas : Pragmas) (s : State)
      → After r s → ((made : List Made) (s : State) → After r s → StaysBelow n r (again made s)) → StaysBelow n r (with_parents kind by nested name made again items pragmas s)
  with_parents_stays kind by nested name made again items pragmas s h g =
      either_stays n r (first_missing s.world made (parents_in items)) (λ p. parent_missing by nested name made again p s) (checking kind by name items pragmas (map (version_known s.world made) (parents_in items)) s)
      (λ p. missing_stays by nested name made again p s h g) (checking_stays kind by name items pragmas (map (version_known s.world made) (parents_in items)) s h)

  after_read_stays : (kind : LoadKind) (by : Asker) (nested : ℕ) (name : List ℕ) (made : List Made) (again : List Made → State → Course Reply) (x : Reply) (s : State)
      → After r s → ((made : List Made) (s : State) → After r s → StaysBelow n r (again made s)) → StaysBelow n r (after_read kind by nested name made again x s)
  after_read_stays kind by nested name made again (Plain v) s h g = h
  after_read_stays kind by nested name made again IsSound s h g = h
  after_read_stays kind by nested name made again (IsFaulty fs) s h g = faulty_stays fs s h
  after_read_stays kind by nested name made again (WasRead items pragmas) s h g = with_parents_stays kind by nested name made again items pragmas s h g

  reading_stays : (k : ℕ) (kind : LoadKind) (by : Asker) (nested : ℕ) (name : List ℕ) (made : List Made) (s : State) → After r s → StaysBelow n r (reading k kind by nested name made s)
  reading_stays zero kind by nested name made s h = h
  reading_stays (suc k) kind by nested name made s h =
      then_stays n r (ask_reply (Read (file_of_name name)) [] by s) (λ x s. after_read kind by nested name made (λ made s. reading k kind by nested name made s) x s) (reply_stays n r (Read (file_of_name name)) [] by s low h) (λ x s h.
      after_read_stays kind by nested name made (λ made s. reading k kind by nested name made s) x s h (λ made s h. reading_stays k kind by nested name made s h))

  with_simul_stays : (kind : LoadKind) (by : Asker) (name : List ℕ) (s : State) (go : State → Course Reply) → After r s → ((s : State) → After r s → StaysBelow n r (go s)) → StaysBelow n r (with_simul kind by name s go)
  with_simul_stays kind by name s go h g =
      let next : ObjId → State → Course Reply = λ o s. unless_there name s go in
      either_stays n r (simul_missing s.world by.loads) (λ simul. and_then (ask_reply (Load simul Inherited) [] by s) (λ x s. after_load x s next)) (go s)
      (λ simul. then_stays n r (ask_reply (Load simul Inherited) [] by s) (λ x s. after_load x s next) (reply_stays n r (Load simul Inherited) [] by s low h) (λ x s h. after_load_stays x s next h (λ o s h. unless_there_stays name s go h g))) (g s h)

  loaded_value_stays : (name : List ℕ) (x : Reply) (s : State) → After r s → StaysBelow n r (loaded_value name x s)
  loaded_value_stays name (Plain v) s h = h
  loaded_value_stays name (WasRead items pragmas) s h = h
  loaded_value_stays name IsSound s h = h
  loaded_value_stays name (IsFaulty fs) s h = h

  load_value_stays : (by : Asker) (name : List ℕ) (s : State) → After r s → StaysBelow n r (load_value by name s)
  load_value_stays by name s h = then_stays n r (ask_reply (Load name Wanted) [] by s) (λ x s. loaded_value name x s) (reply_stays n r (Load name Wanted) [] by s low h) (λ x s h. loaded_value_stays name x s h)

  pub target_stays : (by : Asker) (text : List ℕ) (s : State) → After r s → StaysBelow n r (text_target by text s)
  target_stays by text s h =
      let bad : Course Value = stops (Failed (plain BadTarget)) s in
      either_stays n r (object_named s.world (as_name text)) (λ o. gives (Obj o) s) (cond (is_clone_name (as_name text)) bad (load_value by (as_name text) s)) (λ o. h)
      (cond_stays n r (is_clone_name (as_name text)) bad (load_value by (as_name text) s) h (load_value_stays by (as_name text) s h))

  pub as_target_stays : (v : Value) (s : State) (go : ObjId → State → Course Value) → After r s → ((o : ObjId) (s : State) → After r s → StaysBelow n r (go o s)) → StaysBelow n r (as_target v s go)
  as_target_stays v s go h g = either_stays n r (live_object s.world v) (λ o. go o s) (stops (Failed (plain BadTarget)) s) (λ o. g o s h) h

  object_reply_stays : (x : Reply) (s : State) → After r s → StaysBelow n r (object_reply x s)
  object_reply_stays (Plain v) s h = h
  object_reply_stays (WasRead items pragmas) s h = h
  object_reply_stays IsSound s h = h
  object_reply_stays (IsFaulty fs) s h = h

  cloning_stays : (by : Asker) (name : List ℕ) (o : ObjId) (s : State) → After r s → StaysBelow n r (cloning by name o s)
  cloning_stays by name o s h =
      let t : State = record s { world = with_clone_number s.world } in
      let made : Course Value = and_then (making Wanted by (clone_name s.world name) (object_at s.world o).version t) object_reply in
      let full : Course Value = stops (Failed (plain TooMany)) s in
      cond_stays n r (version_of_object s.world o).pragmas.no_clone (stops (Failed (plain NoClone)) s) (cond (has_room s.world) made full) h
      (cond_stays n r (has_room s.world) made full
      (then_stays n r (making Wanted by (clone_name s.world name) (object_at s.world o).version t) object_reply (making_stays Wanted by (clone_name s.world name) (object_at s.world o).version t (after_world r s t h refl refl (keeps_these s.world t.world refl refl))) object_reply_stays) h)

  pub clone_stays : (by : Asker) (name : List ℕ) (s : State) → After r s → StaysBelow n r (clone_of by name s)
  clone_stays by name s h =
      let loads : Course Value = and_then (load_value by name s) (λ v s. as_target v s (λ o s. cloning by name o s)) in
      cond_stays n r (is_clone_name name) (stops (Failed (plain BadTarget)) s) (elim (object_named s.world name) [ Some o ↦ cloning by name o s | None ↦ loads ]) h
      (either_stays n r (object_named s.world name) (λ o. cloning by name o s) loads (λ o. cloning_stays by name o s h)
      (then_stays n r (load_value by name s) (λ v s. as_target v s (λ o s. cloning by name o s)) (load_value_stays by name s h) (λ v s h. as_target_stays v s (λ o s. cloning by name o s) h (λ o s h. cloning_stays by name o s h))))

  master_loaded_stays : (by : Asker) (fun : List ℕ) (xs : List Value) (v : Value) (s : State) → After r s → StaysBelow n r (elim (live_object s.world v) [ Some m ↦ ask_value (Apply m fun) xs by s | None ↦ gives zero_value s ])
  master_loaded_stays by fun xs v s h = either_stays n r (live_object s.world v) (λ m. ask_value (Apply m fun) xs by s) (gives zero_value s) (λ m. value_stays n r (Apply m fun) xs by s low h) h

  pub master_stays : (by : Asker) (fun : List ℕ) (xs : List Value) (s : State) → After r s → StaysBelow n r (master_call by fun xs s)
  master_stays by fun xs s h =
      either_stays n r (object_named s.world master_name) (λ m. ask_value (Apply m fun) xs by s)
      (and_then (load_value by master_name s) (λ v s. elim (live_object s.world v) [ Some m ↦ ask_value (Apply m fun) xs by s | None ↦ gives zero_value s ]))
      (λ m. value_stays n r (Apply m fun) xs by s low h)
      (then_stays n r (load_value by master_name s) (λ v s. elim (live_object s.world v) [ Some m ↦ ask_value (Apply m fun) xs by s | None ↦ gives zero_value s ]) (load_value_stays by master_name s h) (λ v s h. master_loaded_stays by fun xs v s h))

pub load_stays : (n : ℕ) (a : Ask) (name : List ℕ) (kind : LoadKind) → 2 * a.budget ≤ n → StaysBelow n (state_of a) (load_call a name kind)
load_stays n a name kind low =
    let nested = nested_in kind a.loads in
    let by = under_way (asker_of a) name nested in
    let s0 = state_of a in
    let s : State = record s0 { budget = s0.budget - load_price } in
    paid_stays n s0 load_price s0 (λ s. with_simul kind by name s (λ s. reading (suc s.budget) kind by nested name [] s)) (after_same s0) (λ enough l.
    stays_from n s0 s (with_simul kind by name s (λ s. reading (suc s.budget) kind by nested name [] s)) l (with_simul_stays n s (omega (arith, low, enough)) kind by name s (λ s. reading (suc s.budget) kind by nested name [] s) (after_same s) (λ t h. reading_stays n s (omega (arith, low, enough)) (suc t.budget) kind by nested name [] t h)))
