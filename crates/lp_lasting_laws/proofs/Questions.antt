-- Each question keeps call-outs.
use Rattle.std.proofs.Common.{◌≡◌, ℕ, ◌+◌, ◌-◌, ◌*◌, ◌<◌, ◌≤◌, List, Option, Some, None, sym, subst, arith}
use Rattle.lp_values.specs.declared.value.Value.{Value}
use Rattle.lp_ops.specs.Operands.{Opened, size_of}
use Rattle.lp_ops.specs.Prices.{size_made}
use Rattle.lp_instr.specs.declared.efun.Efun.{Efun}
use Rattle.lp_instr.specs.EfunKinds.{kinds}
use Rattle.lp_language.specs.Course.{Scene, State, End, Gives, Stops, Asked, Internal, Parent, OfEfun, Apply, Other, Initialise, Command, Load, Read, Check, Ask, Outcome, Reply, Course, Over, outcome_of, Answers, ends, asks_one, stated, meant, told}
use Rattle.lp_lasting_laws.specs.Lasting.{CanAnswer}
use Rattle.lp_lasting_laws.specs.Lasting.{After, EndsAfter}
use Rattle.lp_language.specs.Operations.{living, cells_of, seen}
use Rattle.lp_lasting_laws.proofs.Prices.{after_same, pay_after, finished_after}
use Rattle.lp_meaning.specs.Askers.{Asker, asker_of, state_of, plainly}
use Rattle.lp_meaning.specs.FunctionCalls.{nothing_called, internal_call, parent_call, other_call, apply_call, initialise_call}
use Rattle.lp_meaning.specs.FileLoads.{load_call}
use Rattle.lp_meaning.specs.MovesAndCommands.{command_call}
use Rattle.lp_meaning.specs.EfunArguments.{first_bad, price_before, price_after, opened_args}
use Rattle.lp_meaning.specs.ComputingEfuns.{computes}
use Rattle.lp_meaning.specs.WorldEfuns.{Deed, Yields, Throws, deed}
use Rattle.lp_meaning.specs.CallingEfuns.{calls}
use Rattle.lp_meaning.specs.FileEfuns.{files}
use Rattle.lp_meaning.specs.Questions.{Group, Computes, OfWorld, Calls, OfFiles, group, deed_end, value_end, acting, kinds_looked_at, efun_in, efun_call, meaning_of, means}
use Rattle.lp_meaning.specs.Closing.{Has}
use Rattle.lp_meaning.specs.FrontEnd.{FrontEnd, IsTold, unchanged}
use Rattle.lp_meaning.specs.NothingLost.{is_command, level}
use Rattle.lp_lasting_laws.specs.Lasting.{CallOutsLast, CoursesKeep, StaysBelow}
use Rattle.lp_lasting_laws.proofs.Stays.{stays_from, then_stays, paid_stays, either_stays, plainly_stays}
use Rattle.lp_lasting_laws.proofs.StayCalls.{internal_stays, parent_stays, other_stays, apply_stays, initialise_stays}
use Rattle.lp_lasting_laws.proofs.StayLoads.{load_stays}
use Rattle.lp_lasting_laws.proofs.StayMoves.{command_call_stays}
use Rattle.lp_lasting_laws.proofs.StayEfuns.{DeedAfter, deed_after}
use Rattle.lp_lasting_laws.proofs.StayCalling.{calls_stay}
use Rattle.lp_lasting_laws.proofs.StayFiles.{files_stay}
use Rattle.lp_meaning.proofs.Unique.{some_one, some_none}

deed_end_after : (r : State) (e : Efun) (d : Deed) (s : State) → DeedAfter r d → After r s → EndsAfter r (deed_end e d s)
deed_end_after r e (Yields effect t) s h g = finished_after r (price_after e (size_made (living t) (cells_of t) effect)) effect t h
deed_end_after r e (Throws v) s h g = g

value_end_after : (r : State) (e : Efun) (v : Value) (s : State) → After r s → EndsAfter r (value_end e v s)
value_end_after r e v s h = pay_after r (price_after e (size_of (seen s v))) s (Gives v) h (λ t l. l)

module _ (n : ℕ) (r : State) (low : 2 * r.budget + 1 < n) where
  acting_stays : (g : Group) (e : Efun) (by : Asker) (c : Scene) (vs : List Value) (xs : List Opened) (s : State) → After r s → StaysBelow n r (acting g e by c vs xs s)
  acting_stays Computes e by c vs xs s h = deed_end_after r e (Yields (computes e s vs xs) s) s h h
  acting_stays OfWorld e by c vs xs s h = deed_end_after r e (deed e c s vs xs) s (deed_after r e c s vs xs h) h
  acting_stays Calls e by c vs xs s h =
      then_stays n r (calls e by c s vs xs) (λ v s. Over (value_end e v s)) (calls_stay n r (omega (arith, low)) low e by c s vs xs h) (λ v s h. value_end_after r e v s h)
  acting_stays OfFiles e by c vs xs s h =
      then_stays n r (files e by c s xs) (λ v s. Over (value_end e v s)) (files_stay n r (omega (arith, low)) e by c s xs h) (λ v s h. value_end_after r e v s h)

  kinds_stay : (e : Efun) (by : Asker) (c : Scene) (vs : List Value) (o : Option ℕ) (s : State) → After r s → StaysBelow n r (kinds_looked_at e by c vs o s)
  kinds_stay e by c vs (Some k) s h = h
  kinds_stay e by c vs None s h = acting_stays (group e) e by c vs (opened_args s vs) s h

efun_in_stays : (n : ℕ) (e : Efun) (by : Asker) (c : Scene) (vs : List Value) (s : State) → 2 * s.budget ≤ n → StaysBelow n s (efun_in e by c vs s)
efun_in_stays n e by c vs s low =
    let price = price_before e vs s in
    let bad = first_bad 1 (kinds e) (opened_args s vs) in
    paid_stays n s price s (λ s. kinds_looked_at e by c vs bad s) (after_same s) (λ enough l.
    let t : State = record s { budget = s.budget - price } in
    stays_from n s t (kinds_looked_at e by c vs bad t) l (kinds_stay n t (omega (arith, low, enough)) e by c vs bad t (after_same t)))

efun_call_stays : (n : ℕ) (a : Ask) (e : Efun) → 2 * a.budget ≤ n → StaysBelow n (state_of a) (efun_call a e)
efun_call_stays n a e low =
    either_stays n (state_of a) a.scene (λ c. plainly (efun_in e (asker_of a) c a.arguments (state_of a))) (nothing_called a)
    (λ c. plainly_stays n (state_of a) (efun_in e (asker_of a) c a.arguments (state_of a)) (efun_in_stays n e (asker_of a) c a.arguments (state_of a) low)) (after_same (state_of a))

course_is : (n : ℕ) (a : Ask) (c d : Course Reply) → Some c ≡ Some d → StaysBelow n (state_of a) c → StaysBelow n (state_of a) d
course_is n a c d e h = subst (λ x. StaysBelow n (state_of a) x) (some_one e) h

question_stays : (n : ℕ) (a : Ask) (q : Asked) (c : Course Reply) → 2 * a.budget + is_command q ≤ n → meaning_of a q ≡ Some c → StaysBelow n (state_of a) c
question_stays n a (Internal name) c low e = course_is n a (internal_call a name) c e (internal_stays n a (omega (arith, low)) name)
question_stays n a (Parent inherit name) c low e = course_is n a (parent_call a inherit name) c e (parent_stays n a (omega (arith, low)) inherit name)
question_stays n a (OfEfun efun) c low e = course_is n a (efun_call a efun) c e (efun_call_stays n a efun (omega (arith, low)))
question_stays n a (Apply o name) c low e = course_is n a (apply_call a o name) c e (apply_stays n a (omega (arith, low)) o name)
question_stays n a (Other o name) c low e = course_is n a (other_call a o name) c e (other_stays n a (omega (arith, low)) o name)
question_stays n a (Initialise o part) c low e = course_is n a (initialise_call a o part) c e (initialise_stays n a (omega (arith, low)) o part)
question_stays n a (Command o line) c low e = course_is n a (command_call a o line) c e (command_call_stays n a o line (omega (arith, low)))
question_stays n a (Load name kind) c low e = course_is n a (load_call a name kind) c e (load_stays n a name kind (omega (arith, low)))
question_stays n a (Read path) c low e = absurd (some_none (sym e))
question_stays n a (Check path items pragmas parents simuls) c low e = absurd (some_none (sym e))

pub courses_keep : CoursesKeep
courses_keep a c e = question_stays (level a) a a.what c (omega arith) e

-- an end that comes after a question's state is an outcome that keeps call-outs
end_can : (a : Ask) (e : End Reply) → EndsAfter (state_of a) e → CanAnswer a (outcome_of e)
end_can a (Gives x s) h = record { no_more = h.no_more; keeps = h.keeps; commands = h.commands }
end_can a (Stops x s) h = record { no_more = h.no_more; keeps = h.keeps; commands = h.commands }

-- a question to which nothing happens
unchanged_can : (a : Ask) (x : Reply) → CanAnswer a (unchanged a x)
unchanged_can a x = let h = after_same (state_of a) in record { no_more = omega arith; keeps = h.keeps; commands = h.commands }

-- where a course ends
answered_after : (front : FrontEnd) (n : ℕ) (r : State) {c : Course Reply} {e : End Reply} → Answers means (IsTold front) c e → StaysBelow n r c → EndsAfter r e
answered_after front n r ends h = h
answered_after front n r (asks_one {a = a} {c = d} {r = x} m l can more) h =
    answered_after front n r more (h.1 (outcome_of x) (end_can a x (answered_after front (level a) (state_of a) l (courses_keep a d m))))
answered_after front n r (stated {a = a} {o = o} m t can more) h = answered_after front n r more (h.1 o (subst (λ x. CanAnswer a x) (sym t.2) (unchanged_can a t.0)))

outcomes_keep : (front : FrontEnd) (a : Ask) (o : Outcome) → Has front a o → CanAnswer a o
outcomes_keep front a o (meant {c} {r = e} m l i) = subst (λ x. CanAnswer a x) (sym i) (end_can a e (answered_after front (level a) (state_of a) l (courses_keep a c m)))
outcomes_keep front a o (told m t) = subst (λ x. CanAnswer a x) (sym t.2) (unchanged_can a t.0)

pub call_outs_last : CallOutsLast
call_outs_last front a o h = (outcomes_keep front a o h).keeps
