-- Moves and commands keep call-outs.
use Rattle.std.proofs.Common.{◌≡◌, ℕ, ◌+◌, ◌*◌, ◌<◌, cond, List, [], ◌∷◌, Some, None, refl, subst}
use Rattle.std.specs.Prelude.{codes, pos, ◌&&◌, drop}
use Rattle.lp_values.specs.declared.id.ObjId.{ObjId}
use Rattle.lp_values.specs.declared.value.Value.{Value}
use Rattle.lp_values.specs.declared.value.Value.TheVariants.{Int, Str}
use Rattle.lp_values.specs.Errors.{plain}
use Rattle.lp_events.specs.declared.out.Out.TheVariants as outs
use Rattle.lp_language.specs.World.{is_live}
use Rattle.lp_actions.specs.Actions.{Sentence}
use Rattle.lp_language.specs.Course.{AreSameCommands, Typed, State, Failed, End, Gives, Stops, Apply, Ask, Course, Over, Asks, and_then, in_any_case, gives, stops, zero_value}
use Rattle.lp_lasting_laws.specs.Lasting.{After, EndsAfter}
use Rattle.lp_language.specs.Operations.{is_false}
use Rattle.lp_lasting_laws.proofs.Prices.{after_same}
use Rattle.lp_places.specs.Places.{Init, moved, may_move, inits_of_move}
use Rattle.lp_actions.specs.Actions.{holds, matching, verb_of, argument_in}
use Rattle.lp_meaning.specs.WorldSteps.{connection_of}
use Rattle.lp_meaning.specs.Askers.{Asker, asker_of, state_of, ask_value, told, for_player, tell}
use Rattle.lp_meaning.specs.MovesAndCommands.{moved_world, may_init, inits, move_error, moving, fail_text, argument_value, trying, without_command, commanding, command_call}
use Rattle.lp_lasting_laws.specs.Lasting.{StaysBelow}
use Rattle.lp_lasting_laws.proofs.KeptCalls.{keeps_these}
use Rattle.lp_lasting_laws.proofs.Stays.{after_world, then_stays, cond_stays, either_stays, plainly_stays, value_stays, for_player_stays, told_after}

module _ (n : ℕ) (r : State) (low : 2 * r.budget + 0 < n) where
  pub tell_stays : (by : Asker) (o : ObjId) (text : List ℕ) (s : State) → After r s → StaysBelow n r (tell by o text s)
  tell_stays by o text s h =
      let shows : ℕ → Course Value = λ k. gives zero_value (told (outs.Text k text ∷ []) s) in
      let catches : Course Value = and_then (ask_value (Apply o (codes "catch_tell")) (Str text ∷ []) by s) (λ v s. gives zero_value s) in
      cond_stays n r (is_live s.world o) (elim (connection_of s.world o) [ Some k ↦ shows k | None ↦ catches ]) (gives zero_value s)
      (either_stays n r (connection_of s.world o) shows catches (λ k. told_after n r (outs.Text k text ∷ []) s h)
      (then_stays n r (ask_value (Apply o (codes "catch_tell")) (Str text ∷ []) by s) (λ v s. gives zero_value s) (value_stays n r (Apply o (codes "catch_tell")) (Str text ∷ []) by s low h) (λ v s h. h))) h

  init_stays : (by : Asker) (i : Init) (s : State) → After r s → StaysBelow n r (for_player (Some i.player) (λ s. ask_value (Apply i.of (codes "init")) [] by s) s)
  init_stays by i s h =
      for_player_stays n r (Some i.player) (λ s. ask_value (Apply i.of (codes "init")) [] by s) s h (λ l. value_stays n r (Apply i.of (codes "init")) [] by (record s { player = Some i.player }) low l)

  pub inits_stay : (by : Asker) (item dest : ObjId) (is : List Init) (s : State) → After r s → StaysBelow n r (inits by item dest is s)
  inits_stay by item dest [] s h = h
  inits_stay by item dest (i ∷ is) s h =
      let one : Course Value = for_player (Some i.player) (λ s. ask_value (Apply i.of (codes "init")) [] by s) s in
      let more : Value → State → Course Value = λ v s. inits by item dest is s in
      cond_stays n r (may_init s.world item dest i) (and_then one more) (inits by item dest is s)
      (then_stays n r one more (init_stays by i s h) (λ v s h. inits_stay by item dest is s h)) (inits_stay by item dest is s h)

  pub moving_stays : (by : Asker) (item dest : ObjId) (s : State) → After r s → StaysBelow n r (moving by item dest s)
  moving_stays by item dest s h =
      let t : State = record s { world = moved_world s.world item dest } in
      either_stays n r (may_move s.world.places s.world.shadows item dest) (λ reason. stops (Failed (plain (move_error reason))) s) (inits by item dest (inits_of_move (moved s.world.places item dest) item dest) t) (λ reason. h)
      (inits_stay by item dest (inits_of_move (moved s.world.places item dest) item dest) t (after_world r s t h refl refl (keeps_these s.world t.world refl refl)))

  pub trying_stays : (by : Asker) (o : ObjId) (argument : Value) (xs : List Sentence) (s : State) → After r s → StaysBelow n r (trying by o argument xs s)
  trying_stays by o argument [] s h = then_stays n r (tell by o (fail_text s.commands) s) (λ v s. gives zero_value s) (tell_stays by o (fail_text s.commands) s h) (λ v s h. h)
  trying_stays by o argument (x ∷ xs) s h =
      let one : Course Value = ask_value (Apply x.giver x.function) (argument ∷ []) by s in
      let more : Value → State → Course Value = λ v s. cond (is_false s v) (trying by o argument xs s) (gives (Int (pos 1)) s) in
      cond_stays n r (holds s.world.sentences o x.number && is_live s.world x.giver) (and_then one more) (trying by o argument xs s)
      (then_stays n r one more (value_stays n r (Apply x.giver x.function) (argument ∷ []) by s low h) (λ v s h.
      cond_stays n r (is_false s v) (trying by o argument xs s) (gives (Int (pos 1)) s) (trying_stays by o argument xs s h) h))
      (trying_stays by o argument xs s h)

-- the commands without the innermost one
popped : (c : Typed) (cs ds : List Typed) → AreSameCommands (c ∷ cs) ds → cs ≡ drop 1 ds
popped c cs [] h = absurd h
popped c cs (d ∷ ds) h = h.1

popped_after : (s t : State) (c : Typed) → After (record s { commands = c ∷ s.commands }) t → After s (record t { commands = drop 1 t.commands })
popped_after s t c h = record { no_more = h.no_more; keeps = h.keeps; commands = subst (λ cs. AreSameCommands s.commands cs) (popped c s.commands t.commands h.commands) (after_same s).commands }

popped_end : (s : State) (c : Typed) (e : End Value) → EndsAfter (record s { commands = c ∷ s.commands }) e → EndsAfter s (without_command e)
popped_end s c (Gives x t) h = popped_after s t c h
popped_end s c (Stops x t) h = popped_after s t c h

-- what stays with a command more stays without it
command_stays_so : (n : ℕ) (s : State) (c : Typed) (t : Course Value) → StaysBelow n (record s { commands = c ∷ s.commands }) t → StaysBelow n s (in_any_case t (λ e. Over (without_command e)))
command_stays_so n s c (Over e) h = popped_end s c e h
command_stays_so n s c (Asks a k) h = (record { below = h.0.below; keeps = h.0.keeps }, λ o can. command_stays_so n s c (k o) (h.1 o can))

commanding_stays : (n : ℕ) (by : Asker) (o : ObjId) (line : List ℕ) (s : State) → 2 * s.budget + 0 < n → StaysBelow n s (commanding by o line s)
commanding_stays n by o [] s low = after_same s
commanding_stays n by o (c ∷ cs) s low =
    let typed : Typed = record { verb = verb_of (c ∷ cs); fail = None } in
    let t : State = record s { commands = typed ∷ s.commands } in
    let argument : Value = argument_value (argument_in (c ∷ cs)) in
    let actions : List Sentence = matching s.world.sentences o (verb_of (c ∷ cs)) in
    command_stays_so n s typed (trying by o argument actions t) (trying_stays n t low by o argument actions t (after_same t))

pub command_call_stays : (n : ℕ) (a : Ask) (o : ObjId) (line : List ℕ) → 2 * a.budget + 0 < n → StaysBelow n (state_of a) (command_call a o line)
command_call_stays n a o line low = plainly_stays n (state_of a) (commanding (asker_of a) o line (state_of a)) (commanding_stays n (asker_of a) o line (state_of a) low)
