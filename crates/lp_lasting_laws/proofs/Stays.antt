-- Courses that keep call-outs: how they are put together.
use Rattle.std.proofs.Common.{◌≡◌, ℕ, ◌+◌, ◌-◌, ◌*◌, ◌<◌, ◌≤◌, Bool, true, false, cond, List, Option, Some, None, refl, sym, subst, arith}
use Rattle.std.specs.Prelude.{nat_lt}
use Rattle.std.proofs.lemmas.Bool.{ltb-false}
use Rattle.lp_values.specs.declared.id.ObjId.{ObjId}
use Rattle.lp_values.specs.declared.value.Value.{Value}
use Rattle.lp_events.specs.declared.out.Out.{Out}
use Rattle.lp_lasting_laws.specs.Lasting.{Keeps}
use Rattle.lp_language.specs.Course.{AreSameCommands, State, Spent, End, Gives, Stops, here, Asked, Internal, Parent, OfEfun, Apply, Other, Initialise, Command, Load, Read, Check, Answer, Returned, Stopped, Outcome, after, end_of_reply, Course, Over, Asks, and_then, in_any_case, paying}
use Rattle.lp_lasting_laws.specs.Lasting.{CanAnswer}
use Rattle.lp_lasting_laws.specs.Lasting.{After, EndsAfter, GoesAfter}
use Rattle.lp_lasting_laws.proofs.KeptCalls.{keeps_trans}
use Rattle.lp_lasting_laws.proofs.Prices.{after_trans, answer_after}
use Rattle.lp_meaning.specs.Askers.{Asker, question, ask_reply, ask_value, plainly, told, with_player_back, for_player}
use Rattle.lp_meaning.specs.NothingLost.{is_command}
use Rattle.lp_lasting_laws.specs.Lasting.{StaysBelow}

-- another world that keeps the state's
pub after_world : (r s t : State) → After r s → t.budget ≡ s.budget → t.commands ≡ s.commands → Keeps s.world t.world → After r t
after_world r s t h p q k = record {
  no_more = (let x = h.no_more in omega (arith, x, p));
  keeps = keeps_trans r.world s.world t.world h.keeps k;
  commands = subst (λ cs. AreSameCommands r.commands cs) (sym q) h.commands;
}

-- what stays after a later state stays after an earlier one
pub ends_from : {A : Type 0} (r s : State) (e : End A) → After r s → EndsAfter s e → EndsAfter r e
ends_from r s (Gives x t) h g = after_trans r s t h g
ends_from r s (Stops x t) h g = after_trans r s t h g

pub stays_from : {A : Type 0} (n : ℕ) (r s : State) (c : Course A) → After r s → StaysBelow n s c → StaysBelow n r c
stays_from n r s (Over e) h g = ends_from r s e h g
stays_from n r s (Asks a k) h g =
    (record { below = g.0.below; keeps = keeps_trans r.world s.world a.world h.keeps g.0.keeps }, λ o can. stays_from n r s (k o) h (g.1 o can))

command_count : (q : Asked) → is_command q ≤ 1
command_count (Internal name) = omega arith
command_count (Parent inherit name) = omega arith
command_count (OfEfun e) = omega arith
command_count (Apply o name) = omega arith
command_count (Other o name) = omega arith
command_count (Initialise o part) = omega arith
command_count (Command o line) = omega arith
command_count (Load name kind) = omega arith
command_count (Read path) = omega arith
command_count (Check path items pragmas parents simuls) = omega arith

-- what a body asks lies below the level
pub stays_body : {A : Type 0} (n : ℕ) (r : State) (c : Course A) → 2 * r.budget + 1 < n → GoesAfter r c → StaysBelow n r c
stays_body n r (Over e) low g = g
stays_body n r (Asks a k) low g =
    (record { below = (let x = g.0.no_more in let y = command_count a.what in omega (arith, x, y, low)); keeps = g.0.keeps }, λ o can. stays_body n r (k o) low (g.1 o can))

module _ (n : ℕ) (r : State) where
  pub then_stays : {A B : Type 0} (t : Course A) (go : A → State → Course B) → StaysBelow n r t → ((x : A) (s : State) → After r s → StaysBelow n r (go x s)) → StaysBelow n r (and_then t go)
  then_stays (Over (Gives x s)) go h g = g x s h
  then_stays (Over (Stops w s)) go h g = h
  then_stays (Asks a k) go h g = (h.0, λ o can. then_stays (k o) go (h.1 o can) g)

  pub case_stays : {A B : Type 0} (t : Course A) (go : End A → Course B) → StaysBelow n r t → ((e : End A) → EndsAfter r e → StaysBelow n r (go e)) → StaysBelow n r (in_any_case t go)
  case_stays (Over e) go h g = g e h
  case_stays (Asks a k) go h g = (h.0, λ o can. case_stays (k o) go (h.1 o can) g)

  pub cond_stays : {A : Type 0} (b : Bool) (t u : Course A) → StaysBelow n r t → StaysBelow n r u → StaysBelow n r (cond b t u)
  cond_stays true t u p q = p
  cond_stays false t u p q = q

  pub paying_stays : {A : Type 0} (k : ℕ) (s : State) (go : State → Course A) → After r s → (After r (record s { budget = s.budget - k }) → StaysBelow n r (go (record s { budget = s.budget - k }))) → StaysBelow n r (paying k s go)
  paying_stays k s go h g =
      let a = h.no_more in
      cond_stays (nat_lt s.budget k) (Over (Stops (here Spent) (record s { budget = 0 }))) (go (record s { budget = s.budget - k })) (record { no_more = omega arith; keeps = h.keeps; commands = h.commands }) (g (record { no_more = omega arith; keeps = h.keeps; commands = h.commands }))

  -- the same, where the cost is known to be there
  pub paid_stays : {A : Type 0} (k : ℕ) (s : State) (go : State → Course A) → After r s → (k ≤ s.budget → After r (record s { budget = s.budget - k }) → StaysBelow n r (go (record s { budget = s.budget - k }))) → StaysBelow n r (paying k s go)
  paid_stays k s go h g = paid_so (nat_lt s.budget k) refl
    where
      paid_so : (b : Bool) → nat_lt s.budget k ≡ b → StaysBelow n r (cond b (Over (Stops (here Spent) (record s { budget = 0 }))) (go (record s { budget = s.budget - k })))
      paid_so true e = let a = h.no_more in record { no_more = omega arith; keeps = h.keeps; commands = h.commands }
      paid_so false e = let a = h.no_more in g (ltb-false s.budget k e) (record { no_more = omega arith; keeps = h.keeps; commands = h.commands })

  pub either_stays : {A B : Type 0} (o : Option B) (some : B → Course A) (none : Course A) → ((x : B) → StaysBelow n r (some x)) → StaysBelow n r none → StaysBelow n r (elim o [ Some x ↦ some x | None ↦ none ])
  either_stays None some none g h = h
  either_stays (Some x) some none g h = g x

  pub plainly_stays : (c : Course Value) → StaysBelow n r c → StaysBelow n r (plainly c)
  plainly_stays c h = then_stays c _ h (λ v s h. h)

  reply_after : (a : Answer) (s : State) → After r s → EndsAfter r (end_of_reply a s)
  reply_after (Returned x) s h = h
  reply_after (Stopped x) s h = h

  outcome_after : (what : Asked) (xs : List Value) (by : Asker) (s : State) (o : Outcome) → After r s → CanAnswer (question what xs by s) o → After r (after s o)
  outcome_after what xs by s o h can = after_trans r s (after s o) h (record { no_more = can.no_more; keeps = can.keeps; commands = can.commands })

  pub reply_stays : (what : Asked) (xs : List Value) (by : Asker) (s : State) → 2 * r.budget + is_command what < n → After r s → StaysBelow n r (ask_reply what xs by s)
  reply_stays what xs by s low h =
      (record { below = (let x = h.no_more in omega (arith, x, low)); keeps = h.keeps }, λ o can. reply_after o.answer (after s o) (outcome_after what xs by s o h can))

  pub value_stays : (what : Asked) (xs : List Value) (by : Asker) (s : State) → 2 * r.budget + is_command what < n → After r s → StaysBelow n r (ask_value what xs by s)
  value_stays what xs by s low h =
      (record { below = (let x = h.no_more in omega (arith, x, low)); keeps = h.keeps }, λ o can. answer_after r o.answer (after s o) (outcome_after what xs by s o h can))

  pub player_back_after : {A : Type 0} (p : Option ObjId) (e : End A) → EndsAfter r e → EndsAfter r (with_player_back p e)
  player_back_after p (Gives x s) h = record { no_more = h.no_more; keeps = h.keeps; commands = h.commands }
  player_back_after p (Stops x s) h = record { no_more = h.no_more; keeps = h.keeps; commands = h.commands }

  pub for_player_stays : {A : Type 0} (p : Option ObjId) (go : State → Course A) (s : State) → After r s → (After r (record s { player = p }) → StaysBelow n r (go (record s { player = p }))) → StaysBelow n r (for_player p go s)
  for_player_stays p go s h g =
      case_stays (go (record s { player = p })) _ (g (record { no_more = h.no_more; keeps = h.keeps; commands = h.commands })) (λ e h. player_back_after s.player e h)

  pub told_after : (os : List Out) (s : State) → After r s → After r (told os s)
  told_after os s h = record { no_more = h.no_more; keeps = h.keeps; commands = h.commands }
