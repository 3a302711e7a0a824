-- Efuns that call LPC keep call-outs.
use Rattle.std.proofs.Common.{ℕ, ◌+◌, ◌*◌, ◌<◌, cond, List, [], ◌∷◌, ◌++◌, Option, Some, None, refl}
use Rattle.std.specs.Prelude.{codes, ◌&&◌, ◌||◌, not, drop}
use Rattle.lp_values.specs.declared.id.ObjId.{ObjId}
use Rattle.lp_values.specs.declared.value.Value.{Value}
use Rattle.lp_values.specs.declared.value.Value.TheVariants.{Str, Obj}
use Rattle.lp_values.specs.declared.error.ErrorKind.TheVariants.{BadTarget}
use Rattle.lp_values.specs.Errors.{plain}
use Rattle.lp_ops.specs.Operands.{Opened, Number, Chars, Array, Mapping, Object}
use Rattle.lp_ops.specs.Operators.{array}
use Rattle.lp_events.specs.declared.out.Out.TheVariants as outs
use Rattle.lp_instr.specs.declared.efun.Efun.{Efun}
use Rattle.lp_instr.specs.declared.efun.Efun.TheVariants as efuns
use Rattle.lp_language.specs.World.{object_at, is_live}
use Rattle.lp_language.specs.Course.{Scene, State, Failed, Other, Command, Course, Over, and_then, gives, stops, zero_value}
use Rattle.lp_language.specs.Operations.{is_false, finished}
use Rattle.lp_lasting_laws.specs.Lasting.{After}
use Rattle.lp_lasting_laws.proofs.Prices.{finished_after}
use Rattle.lp_places.specs.Places.{environment, inventory, is_at}
use Rattle.lp_meaning.specs.WorldSteps.{as_name, load_name, version_of_object}
use Rattle.lp_meaning.specs.Askers.{Asker, ask_value, told, for_player, tell}
use Rattle.lp_meaning.specs.FileLoads.{text_target, as_target, live_object, master_call}
use Rattle.lp_meaning.specs.MovesAndCommands.{is_living}
use Rattle.lp_meaning.specs.EfunArguments.{arg, text_arg, items_arg, object_arg, value_arg}
use Rattle.lp_meaning.specs.ComputingEfuns.{written, format}
use Rattle.lp_meaning.specs.CallingEfuns.{one_value, with_live, with_target, call_other, clone_object, masks, may_begin, with_shadow, shadow_answered, shadow, present_among, present_in, nobody, is_beside, present_text, present, move_to, move_object, command, write_to, write_text, tell_each, speaker, say_in, formatted_text, printf, per_item, kept_item, mapped_item, object_for, over_items, calls}
use Rattle.lp_lasting_laws.specs.Lasting.{StaysBelow}
use Rattle.lp_lasting_laws.proofs.KeptCalls.{keeps_these}
use Rattle.lp_lasting_laws.proofs.Stays.{after_world, then_stays, cond_stays, value_stays, for_player_stays, told_after}
use Rattle.lp_lasting_laws.proofs.StayLoads.{target_stays, as_target_stays, clone_stays, master_stays}
use Rattle.lp_lasting_laws.proofs.StayMoves.{tell_stays, moving_stays}

module _ (n : ℕ) (r : State) (low : 2 * r.budget + 0 < n) (low1 : 2 * r.budget + 1 < n) where
  live_stays : (o : Option ObjId) (s : State) (go : ObjId → Course Value) → After r s → ((o : ObjId) → StaysBelow n r (go o)) → StaysBelow n r (with_live o s go)
  live_stays None s go h g = h
  live_stays (Some o) s go h g = g o

  with_target_stays : (by : Asker) (x : Opened) (s : State) (go : ObjId → State → Course Value) → After r s → ((o : ObjId) (s : State) → After r s → StaysBelow n r (go o s)) → StaysBelow n r (with_target by x s go)
  with_target_stays by (Chars t) s go h g = then_stays n r (text_target by t s) (λ v s. as_target v s go) (target_stays n r low by t s h) (λ v s h. as_target_stays n r low v s go h g)
  with_target_stays by (Object o) s go h g = g o s h
  with_target_stays by (Number i) s go h g = h
  with_target_stays by (Array c vs) s go h g = h
  with_target_stays by (Mapping c ps) s go h g = h

  call_other_stays : (by : Asker) (s : State) (vs : List Value) (xs : List Opened) → After r s → StaysBelow n r (call_other by s vs xs)
  call_other_stays by s vs xs h = with_target_stays by (arg xs 0) s (λ o s. ask_value (Other o (text_arg xs 1)) (drop 2 vs) by s) h (λ o s h. value_stays n r (Other o (text_arg xs 1)) (drop 2 vs) by s low h)

  clone_object_stays : (by : Asker) (s : State) (x : Opened) → After r s → StaysBelow n r (clone_object by s x)
  clone_object_stays by s (Chars t) h = clone_stays n r low by (as_name t) s h
  clone_object_stays by s (Object o) h = clone_stays n r low by (load_name (object_at s.world o).name) s h
  clone_object_stays by s (Number i) h = h
  clone_object_stays by s (Array c vs) h = h
  clone_object_stays by s (Mapping c ps) h = h

  answered_stays : (this o : ObjId) (v : Value) (s : State) → After r s → StaysBelow n r (shadow_answered this o v s)
  answered_stays this o v s h =
      let t : State = record s { world = with_shadow s.world this o } in
      cond_stays n r (is_false s v || not (may_begin s.world this o)) (gives zero_value s) (gives one_value t) h (after_world r s t h refl refl (keeps_these s.world t.world refl refl))

  shadow_stays : (by : Asker) (c : Scene) (o : ObjId) (s : State) → After r s → StaysBelow n r (shadow by c o s)
  shadow_stays by c o s h =
      let asked : Course Value = and_then (master_call by (codes "query_allow_shadow") (Obj o ∷ []) s) (λ v s. shadow_answered c.this o v s) in
      cond_stays n r (not (may_begin s.world c.this o) || masks s.world c.this o || (version_of_object s.world o).pragmas.no_shadow) (gives zero_value s) asked h
      (then_stays n r (master_call by (codes "query_allow_shadow") (Obj o ∷ []) s) (λ v s. shadow_answered c.this o v s) (master_stays n r low by (codes "query_allow_shadow") (Obj o ∷ []) s h) (λ v s h. answered_stays c.this o v s h))

  among_stays : (by : Asker) (t : List ℕ) (os : List ObjId) (s : State) (none : State → Course Value) → After r s → ((s : State) → After r s → StaysBelow n r (none s)) → StaysBelow n r (present_among by t os s none)
  among_stays by t [] s none h g = g s h
  among_stays by t (o ∷ os) s none h g =
      let one : Course Value = ask_value (Other o (codes "id")) (Str t ∷ []) by s in
      let more : Value → State → Course Value = λ v s. cond (is_false s v) (present_among by t os s none) (gives (Obj o) s) in
      cond_stays n r (is_live s.world o) (and_then one more) (present_among by t os s none)
      (then_stays n r one more (value_stays n r (Other o (codes "id")) (Str t ∷ []) by s low h) (λ v s h.
      cond_stays n r (is_false s v) (present_among by t os s none) (gives (Obj o) s) (among_stays by t os s none h g) h))
      (among_stays by t os s none h g)

  in_stays : (by : Asker) (t : List ℕ) (o : Option ObjId) (s : State) (none : State → Course Value) → After r s → ((s : State) → After r s → StaysBelow n r (none s)) → StaysBelow n r (present_in by t o s none)
  in_stays by t None s none h g = g s h
  in_stays by t (Some o) s none h g = among_stays by t (inventory s.world.places o) s none h g

  nobody_stays : (s : State) → After r s → StaysBelow n r (nobody s)
  nobody_stays s h = h

  present_text_stays : (by : Asker) (c : Scene) (t : List ℕ) (o : Option ObjId) (s : State) → After r s → StaysBelow n r (present_text by c t o s)
  present_text_stays by c t (Some o) s h = in_stays by t (Some o) s nobody h nobody_stays
  present_text_stays by c t None s h = in_stays by t (Some c.this) s (λ s. present_in by t (environment s.world.places c.this) s nobody) h (λ s h. in_stays by t (environment s.world.places c.this) s nobody h nobody_stays)

  present_stays : (by : Asker) (c : Scene) (s : State) (xs : List Opened) (x : Opened) → After r s → StaysBelow n r (present by c s xs x)
  present_stays by c s xs (Object o) h = cond_stays n r (is_beside s.world c.this (object_arg xs 1) o) (gives (Obj o) s) (gives zero_value s) h h
  present_stays by c s xs (Chars t) h = present_text_stays by c t (object_arg xs 1) s h
  present_stays by c s xs (Number i) h = h
  present_stays by c s xs (Array k vs) h = h
  present_stays by c s xs (Mapping k ps) h = h

  move_to_stays : (by : Asker) (item dest : Option ObjId) (s : State) → After r s → StaysBelow n r (move_to by item dest s)
  move_to_stays by (Some item) (Some dest) s h = moving_stays n r low by item dest s h
  move_to_stays by (Some item) None s h = h
  move_to_stays by None (Some dest) s h = h
  move_to_stays by None None s h = h

  move_object_stays : (by : Asker) (s : State) (item : Value) (x : Opened) → After r s → StaysBelow n r (move_object by s item x)
  move_object_stays by s item (Chars t) h =
      then_stays n r (text_target by t s) (λ v s. move_to by (live_object s.world item) (live_object s.world v) s) (target_stays n r low by t s h) (λ v s h. move_to_stays by (live_object s.world item) (live_object s.world v) s h)
  move_object_stays by s item (Object o) h = move_to_stays by (live_object s.world item) (Some o) s h
  move_object_stays by s item (Number i) h = h
  move_object_stays by s item (Array k vs) h = h
  move_object_stays by s item (Mapping k ps) h = h

  command_stays : (by : Asker) (c : Scene) (line : List ℕ) (s : State) → After r s → StaysBelow n r (command by c line s)
  command_stays by c line s h =
      let carries : State → Course Value = λ s. ask_value (Command c.this line) [] by s in
      cond_stays n r (is_live s.world c.this && is_living s.world c.this) (for_player (Some c.this) carries s) (gives zero_value s)
      (for_player_stays n r (Some c.this) carries s h (λ l. value_stays n r (Command c.this line) [] by (record s { player = Some c.this }) low1 l)) h

  write_to_stays : (by : Asker) (p : Option ObjId) (t : List ℕ) (s : State) → After r s → StaysBelow n r (write_to by p t s)
  write_to_stays by None t s h = told_after n r (outs.Log t ∷ []) s h
  write_to_stays by (Some p) t s h =
      cond_stays n r (is_live s.world p) (tell by p t s) (gives zero_value (told (outs.Log t ∷ []) s)) (tell_stays n r low by p t s h) (told_after n r (outs.Log t ∷ []) s h)

  tell_each_stays : (by : Asker) (t : List ℕ) (but : Option ObjId) (os : List ObjId) (s : State) → After r s → StaysBelow n r (tell_each by t but os s)
  tell_each_stays by t but [] s h = h
  tell_each_stays by t but (o ∷ os) s h =
      let more : Value → State → Course Value = λ v s. tell_each by t but os s in
      cond_stays n r (is_live s.world o && is_living s.world o && not (is_at but o)) (and_then (tell by o t s) more) (tell_each by t but os s)
      (then_stays n r (tell by o t s) more (tell_stays n r low by o t s h) (λ v s h. tell_each_stays by t but os s h)) (tell_each_stays by t but os s h)

  say_in_stays : (by : Asker) (o : ObjId) (t : List ℕ) (e : Option ObjId) (s : State) → After r s → StaysBelow n r (say_in by o t e s)
  say_in_stays by o t None s h = h
  say_in_stays by o t (Some e) s h = tell_each_stays by t (Some o) (inventory s.world.places e) s h

  printf_stays : (by : Asker) (s : State) (vs : List Value) (xs : List Opened) → After r s → StaysBelow n r (printf by s vs xs)
  printf_stays by s vs xs h =
      then_stays n r (Over (finished 0 (format efuns.Printf s (text_arg xs 0) (drop 1 vs)) s)) (λ v s. write_text by (formatted_text v) s) (finished_after r 0 (format efuns.Printf s (text_arg xs 0) (drop 1 vs)) s h) (λ v s h. write_to_stays by s.player (formatted_text v) s h)

  items_stay : (by : Asker) (o : ObjId) (fun : List ℕ) (more : List Value) (take : State → Value → Value → List Value) (got xs : List Value) (s : State) → After r s → StaysBelow n r (per_item by o fun more take got xs s)
  items_stay by o fun more take got [] s h = finished_after r 0 (array got) s h
  items_stay by o fun more take got (x ∷ xs) s h =
      let one : Course Value = ask_value (Other o fun) (x ∷ more) by s in
      let rest : Value → State → Course Value = λ v s. per_item by o fun more take (got ++ take s x v) xs s in
      cond_stays n r (is_live s.world o) (and_then one rest) (stops (Failed (plain BadTarget)) s)
      (then_stays n r one rest (value_stays n r (Other o fun) (x ∷ more) by s low h) (λ v s h. items_stay by o fun more take (got ++ take s x v) xs s h)) h

  over_items_stay : (e : Efun) (by : Asker) (take : State → Value → Value → List Value) (vs : List Value) (xs : List Opened) (o : Option ObjId) (s : State) → After r s → StaysBelow n r (over_items e by take vs xs o s)
  over_items_stay e by take vs xs None s h = h
  over_items_stay e by take vs xs (Some o) s h = items_stay by o (text_arg xs 1) (drop 3 vs) take [] (items_arg xs 0) s h

  pub calls_stay : (e : Efun) (by : Asker) (c : Scene) (s : State) (vs : List Value) (xs : List Opened) → After r s → StaysBelow n r (calls e by c s vs xs)
  unfolding calls
  calls_stay efuns.ThisObject by c s vs xs h = h
  calls_stay efuns.ThisPlayer by c s vs xs h = h
  calls_stay efuns.ThisInteractive by c s vs xs h = h
  calls_stay efuns.PreviousObject by c s vs xs h = h
  calls_stay efuns.CallOther by c s vs xs h = call_other_stays by s vs xs h
  calls_stay efuns.CloneObject by c s vs xs h = clone_object_stays by s (arg xs 0) h
  calls_stay efuns.LoadObject by c s vs xs h = target_stays n r low by (text_arg xs 0) s h
  calls_stay efuns.FindObject by c s vs xs h = h
  calls_stay efuns.Destruct by c s vs xs h = h
  calls_stay efuns.ObjectName by c s vs xs h = h
  calls_stay efuns.LoadName by c s vs xs h = h
  calls_stay efuns.ProgramName by c s vs xs h = h
  calls_stay efuns.Clonep by c s vs xs h = h
  calls_stay efuns.Objectp by c s vs xs h = h
  calls_stay efuns.Intp by c s vs xs h = h
  calls_stay efuns.Stringp by c s vs xs h = h
  calls_stay efuns.Pointerp by c s vs xs h = h
  calls_stay efuns.Mappingp by c s vs xs h = h
  calls_stay efuns.Living by c s vs xs h = h
  calls_stay efuns.Interactive by c s vs xs h = h
  calls_stay efuns.FunctionExists by c s vs xs h = h
  calls_stay efuns.EnableCommands by c s vs xs h = h
  calls_stay efuns.Shadow by c s vs xs h = live_stays (object_arg xs 0) s (λ o. shadow by c o s) h (λ o. shadow_stays by c o s h)
  calls_stay efuns.QueryShadowing by c s vs xs h = h
  calls_stay efuns.Unshadow by c s vs xs h = h
  calls_stay efuns.Environment by c s vs xs h = h
  calls_stay efuns.AllInventory by c s vs xs h = h
  calls_stay efuns.FirstInventory by c s vs xs h = h
  calls_stay efuns.NextInventory by c s vs xs h = h
  calls_stay efuns.Present by c s vs xs h = present_stays by c s xs (arg xs 0) h
  calls_stay efuns.MoveObject by c s vs xs h = move_object_stays by s (value_arg vs 0) (arg xs 1) h
  calls_stay efuns.AddAction by c s vs xs h = h
  calls_stay efuns.Command by c s vs xs h = command_stays by c (text_arg xs 0) s h
  calls_stay efuns.QueryVerb by c s vs xs h = h
  calls_stay efuns.NotifyFail by c s vs xs h = h
  calls_stay efuns.InputTo by c s vs xs h = h
  calls_stay efuns.Write by c s vs xs h = write_to_stays by s.player (written s.world (arg xs 0)) s h
  calls_stay efuns.TellObject by c s vs xs h = live_stays (object_arg xs 0) s (λ o. tell by o (text_arg xs 1) s) h (λ o. tell_stays n r low by o (text_arg xs 1) s h)
  calls_stay efuns.TellRoom by c s vs xs h = live_stays (object_arg xs 0) s (λ o. tell_each by (text_arg xs 1) None (inventory s.world.places o) s) h (λ o. tell_each_stays by (text_arg xs 1) None (inventory s.world.places o) s h)
  calls_stay efuns.Say by c s vs xs h = say_in_stays by (speaker s.world c.this s.player) (text_arg xs 0) (environment s.world.places (speaker s.world c.this s.player)) s h
  calls_stay efuns.Printf by c s vs xs h = printf_stays by s vs xs h
  calls_stay efuns.Users by c s vs xs h = h
  calls_stay efuns.Exec by c s vs xs h = h
  calls_stay efuns.RemoveInteractive by c s vs xs h = h
  calls_stay efuns.Time by c s vs xs h = h
  calls_stay efuns.SetHeartBeat by c s vs xs h = h
  calls_stay efuns.CallOut by c s vs xs h = h
  calls_stay efuns.RemoveCallOut by c s vs xs h = h
  calls_stay efuns.FindCallOut by c s vs xs h = h
  calls_stay efuns.Random by c s vs xs h = h
  calls_stay efuns.Throw by c s vs xs h = h
  calls_stay efuns.RaiseError by c s vs xs h = h
  calls_stay efuns.Strlen by c s vs xs h = h
  calls_stay efuns.Explode by c s vs xs h = h
  calls_stay efuns.Implode by c s vs xs h = h
  calls_stay efuns.LowerCase by c s vs xs h = h
  calls_stay efuns.UpperCase by c s vs xs h = h
  calls_stay efuns.Capitalize by c s vs xs h = h
  calls_stay efuns.Strstr by c s vs xs h = h
  calls_stay efuns.Trim by c s vs xs h = h
  calls_stay efuns.Sprintf by c s vs xs h = h
  calls_stay efuns.Sscanf by c s vs xs h = h
  calls_stay efuns.ToInt by c s vs xs h = h
  calls_stay efuns.ToString by c s vs xs h = h
  calls_stay efuns.Sizeof by c s vs xs h = h
  calls_stay efuns.Allocate by c s vs xs h = h
  calls_stay efuns.Member by c s vs xs h = h
  calls_stay efuns.Copy by c s vs xs h = h
  calls_stay efuns.Filter by c s vs xs h = over_items_stay efuns.Filter by kept_item vs xs (object_for c s xs) s h
  calls_stay efuns.Map by c s vs xs h = over_items_stay efuns.Map by mapped_item vs xs (object_for c s xs) s h
  calls_stay efuns.MIndices by c s vs xs h = h
  calls_stay efuns.MValues by c s vs xs h = h
  calls_stay efuns.MDelete by c s vs xs h = h
  calls_stay efuns.Mkmapping by c s vs xs h = h
  calls_stay efuns.Min by c s vs xs h = h
  calls_stay efuns.Max by c s vs xs h = h
  calls_stay efuns.Abs by c s vs xs h = h
  calls_stay efuns.ReadFile by c s vs xs h = h
  calls_stay efuns.WriteFile by c s vs xs h = h
  calls_stay efuns.FileSize by c s vs xs h = h
  calls_stay efuns.Rm by c s vs xs h = h
  calls_stay efuns.SaveObject by c s vs xs h = h
  calls_stay efuns.RestoreObject by c s vs xs h = h
