-- A function that asked waits for the answer.
use Rattle.std.proofs.Common.{◌≡◌, ◌∙◌, ◌++◌, ◌∷◌, [], ◌-◌, ◌≤◌, ℕ, zero, suc, List, Some, None, refl, ap, sym, subst, length, length-append, take, drop, slice_get, unwrap_or, append-nil, append_assoc, arith}
use Rattle.std.proofs.Math.Seq.{take-append_seam, drop-append_seam}
use Rattle.std.proofs.lemmas.Option.{slice_get_within}
use Rattle.lp_values.specs.declared.value.Value.{Value}
use Rattle.lp_values.specs.declared.value.Value.TheVariants as values
use Rattle.lp_code.specs.declared.program.RawProgram.{RawProgram}
use Rattle.lp_code.specs.Programs.{code_of}
use Rattle.lp_instr.specs.Code.{Code}
use Rattle.lp_instr.specs.declared.efun.Efun.{Efun}
use Rattle.lp_instr.specs.declared.efun.Efun.TheVariants as efuns
use Rattle.lp_instr.specs.Sound.{Shapes}
use Rattle.lp_language.specs.Course.{Ask, Asked, OfEfun, asking}
use Rattle.lp_language.specs.Eval.{name_or_zero, simul_object}
use Rattle.lp_isa.specs.Machine.{Moment, Next, Goes, awaits, take_arguments}
use Rattle.lp_isa.specs.Runs.{Comes}
use Rattle.lp_isa.specs.SoundCode.{NextMatches}
use Rattle.lp_isa.specs.Work.{NextLess, work_of}
use Rattle.lp_world.specs.declared.frame.Frame.{Frame}
use Rattle.lp_world.specs.declared.live.Live.{Live}
use Rattle.lp_world.specs.Matches.{Around, Matches, Sits, laid}
use Rattle.lp_step.specs.declared.next.CallOf.{CallOf}
use Rattle.lp_step.specs.declared.next.EfunCall.{EfunCall}
use Rattle.lp_step.specs.declared.next.Next.{Next as Led}
use Rattle.lp_step.specs.declared.next.Next.TheVariants as nexts
use Rattle.lp_step.specs.declared.next.Target.{Target}
use Rattle.lp_step.specs.declared.next.Target.TheVariants as targets
use Rattle.lp_step.specs.Steps.{IsFine, told as told_by}
use Rattle.lp_step_laws.specs.Running.{IsHome}
use Rattle.lp_run.specs.Kept.{Later}
use Rattle.lp_run.specs.Runs.{Came, within}
use Rattle.lp_run.proofs.Keeping.{fine_next}
use Rattle.lp_frames.specs.Calls.{AsksFor, Parted, under_call}
use Rattle.lp_frames.proofs.Parts.{calls_part}
use Rattle.lp_asking.specs.declared.question.Question.{Question}
use Rattle.lp_asking.specs.declared.question.Question.TheVariants as questions
use Rattle.lp_asking.specs.Asking.{Means, question_of}
use Rattle.lp_vm.specs.Laying.{HasText, Lays}

-- The machine came by some instructions to a question. The frame matches the moment at which its value goes on top; and so
-- many arguments lie above that function's part of the stack.
pub record Waits (shapes : Shapes) (a : Around) (m : Moment) (live : Live) (stack : List Value) (frame : Frame) (budget args : ℕ) : Type 0 where
  pub moment : Moment
  pub what : Asked
  pub given : List Value
  pub low : List Value
  pub matches : Matches a live low frame budget moment
  pub comes : Comes a.code a.scene (Goes m) (awaits what given a.scene moment.state moment.place moment.catches moment.stack)
  pub shaped : NextMatches shapes (awaits what given a.scene moment.state moment.place moment.catches moment.stack)
  pub less : NextLess a.code (work_of a.code m) (awaits what given a.scene moment.state moment.place moment.catches moment.stack)
  pub later : Later m.state moment.state
  pub home : IsHome a live
  pub lies : stack ≡ low ++ given
  pub many : length given ≡ args

-- the question
abbrev pub ask_of : {shapes : Shapes} (a : Around) {m : Moment} {live : Live} {stack : List Value} {frame : Frame} {budget args : ℕ} → Waits shapes a m live stack frame budget args → Ask
ask_of a c = asking c.what c.given a.scene c.moment.state

-- what was told is a question
abbrev waits_so : (shapes : Shapes) (a : Around) (m : Moment) (n : Led) (live : Live) (stack0 stack1 low rest given : List Value) (frame : Frame) (budget args : ℕ) (what : Asked) (c : Came shapes a m n live stack0 frame budget) → within n (work_of a.code m) ≡ work_of a.code m
    → told_by n a c.moment ≡ awaits what given a.scene c.moment.state c.moment.place c.moment.catches rest
    → Sits a low frame (record { place = c.moment.place; stack = rest; catches = c.moment.catches; state = c.moment.state }) → stack1 ≡ low ++ given → length given ≡ args → Waits shapes a m live stack1 frame budget args
waits_so shapes a m n live stack0 stack1 low rest given frame budget args what c same told sits lies many = record {
  moment = record { place = c.moment.place; stack = rest; catches = c.moment.catches; state = c.moment.state };
  what = what;
  given = given;
  low = low;
  matches = record { stands = c.matches.stands; sits = sits; left = c.matches.left; outputs = c.matches.outputs; player = c.matches.player; commands = c.matches.commands };
  comes = subst (Comes a.code a.scene (Goes m)) told c.comes;
  shaped = subst (NextMatches shapes) told c.shaped;
  less = subst (NextLess a.code (work_of a.code m)) told (subst (λ w. NextLess a.code w (told_by n a c.moment)) same c.less);
  later = c.later;
  home = c.home;
  lies = lies;
  many = many;
}

-- Efuns

record Taken (go : List Value → List Value → Next) (n : ℕ) (taken base stack old : List Value) : Type 0 where
  xs : List Value
  rest : List Value
  lies : old ≡ laid base rest ++ xs
  many : length xs ≡ n
  told : take_arguments n taken stack go ≡ go (xs ++ taken) rest

taken_of : (go : List Value → List Value → Next) (n : ℕ) (taken base stack old : List Value) → old ≡ laid base stack → IsFine (take_arguments n taken stack go) → Taken go n taken base stack old
taken_of go zero taken base stack old e f = record { xs = []; rest = stack; lies = e ∙ sym (append-nil (laid base stack)); many = refl; told = refl }
taken_of go (suc n) taken base [] old e f = absurd f
taken_of go (suc n) taken base (x ∷ stack) old e f =
    let t = taken_of go n (x ∷ taken) base stack (laid base stack) refl f in
    record {
      xs = t.xs ++ x ∷ [];
      rest = t.rest;
      lies = e ∙ ap (λ l. l ++ x ∷ []) t.lies ∙ append_assoc (laid base t.rest) t.xs (x ∷ []);
      many = omega (arith, length-append t.xs (x ∷ []), t.many);
      told = t.told ∙ ap (λ l. go l t.rest) (sym (append_assoc t.xs (x ∷ []) taken));
    }

-- at an efun
pub record AtEfun (shapes : Shapes) (a : Around) (m : Moment) (live : Live) (stack : List Value) (frame : Frame) (budget args : ℕ) (e : Efun) : Type 0 where
  pub waits : Waits shapes a m live stack frame budget args
  pub what : waits.what ≡ OfEfun e

pub at_efun : (shapes : Shapes) (a : Around) (m : Moment) (live : Live) (stack : List Value) (frame : Frame) (budget : ℕ) (call : EfunCall) → Came shapes a m (nexts.Back call) live stack frame budget → AtEfun shapes a m live stack frame budget call.args call.efun
at_efun shapes a m live stack frame budget call c =
    let go : List Value → List Value → Next = λ xs rest. awaits (OfEfun call.efun) xs a.scene c.moment.state c.moment.place c.moment.catches rest in
    let t = taken_of go call.args [] (a.below ++ c.moment.state.locals) c.moment.stack stack c.matches.sits.lies (fine_next shapes (told_by (nexts.Back call) a c.moment) c.shaped) in
    record {
      waits =
          waits_so shapes a m (nexts.Back call) live stack stack (laid (a.below ++ c.moment.state.locals) t.rest) t.rest t.xs frame budget call.args (OfEfun call.efun) c refl
          (t.told ∙ ap (λ l. go l t.rest) (append-nil t.xs))
          (record { lies = refl; bottom = c.matches.sits.bottom; locals = c.matches.sits.locals; place = c.matches.sits.place; catches = c.matches.sits.catches; belongs = c.matches.sits.belongs })
          t.lies t.many;
      what = refl;
    }

-- Calls

-- at a call that stays in its object
pub record AtCall (shapes : Shapes) (a : Around) (m : Moment) (live : Live) (stack : List Value) (frame : Frame) (budget args : ℕ) (q : Question) : Type 0 where
  pub waits : Waits shapes a m live stack frame budget args
  pub means : Means a.code q waits.what

given_is : (t : Target) (q : Question) (a : Around) (m : Moment) (taken xs : List Value) (what : Asked) (given : List Value) → question_of t ≡ Some q → AsksFor t a m taken xs what given → given ≡ xs
given_is (targets.Slot k) q a m taken xs what given e h = h.3
given_is (targets.Fixed j k) q a m taken xs what given e h = h.3
given_is targets.Other q a m taken xs what given e h = absurd (cc)
given_is (targets.Simul k) q a m taken xs what given e h = absurd (cc)

no_items : (xs : List Value) → length xs ≡ 0 → xs ≡ []
no_items [] e = refl
no_items (x ∷ xs) e = absurd (omega (arith, e))

taken_none : (t : Target) (q : Question) (taken : List Value) → question_of t ≡ Some q → length taken ≡ under_call t → taken ≡ []
taken_none (targets.Slot k) q taken e h = no_items taken h
taken_none (targets.Fixed j k) q taken e h = no_items taken h
taken_none targets.Other q taken e h = absurd (cc)
taken_none (targets.Simul k) q taken e h = absurd (cc)

some_question : (q r : Question) → Some q ≡ Some r → q ≡ r
some_question q r e = ap (λ o. unwrap_or o q) e

means_so : (t : Target) (q : Question) (a : Around) (m : Moment) (taken xs : List Value) (what : Asked) (given : List Value) → question_of t ≡ Some q → AsksFor t a m taken xs what given → Means a.code q what
means_so (targets.Slot k) q a m taken xs what given e h = subst (λ r. Means a.code r what) (some_question (questions.Internal k) q e) (h.0, h.1, h.2)
means_so (targets.Fixed j k) q a m taken xs what given e h = subst (λ r. Means a.code r what) (some_question (questions.Parent j k) q e) (h.0, h.1, h.2)
means_so targets.Other q a m taken xs what given e h = absurd (cc)
means_so (targets.Simul k) q a m taken xs what given e h = absurd (cc)

parted_of : (shapes : Shapes) (a : Around) (m : Moment) (live : Live) (stack : List Value) (frame : Frame) (budget : ℕ) (call : CallOf) (c : Came shapes a m (nexts.Call call) live stack frame budget) → Parted call.target call.args a stack frame c.moment
parted_of shapes a m live stack frame budget call c = calls_part call.target call.args a live stack frame budget c.moment c.matches (fine_next shapes (told_by (nexts.Call call) a c.moment) c.shaped)

pub at_call : (shapes : Shapes) (a : Around) (m : Moment) (live : Live) (stack : List Value) (frame : Frame) (budget : ℕ) (call : CallOf) (q : Question) → Came shapes a m (nexts.Call call) live stack frame budget → question_of call.target ≡ Some q → AtCall shapes a m live stack frame budget call.args q
at_call shapes a m live stack frame budget call q c stays =
    let d = parted_of shapes a m live stack frame budget call c in
    let given : d.given ≡ d.xs = given_is call.target q a c.moment d.taken d.xs d.what d.given stays d.asks in
    let none : d.taken ≡ [] = taken_none call.target q d.taken stays d.under in
    record {
      waits =
          waits_so shapes a m (nexts.Call call) live stack stack d.low d.rest d.given frame budget call.args d.what c refl d.told
          (record { lies = d.sits.lies; bottom = d.sits.bottom; locals = d.sits.locals; place = d.sits.place; catches = d.sits.catches; belongs = d.sits.belongs })
          (d.lies ∙ ap (λ l. (d.low ++ l) ++ d.xs) none ∙ ap (λ l. l ++ d.xs) (append-nil d.low) ∙ ap (λ l. d.low ++ l) (sym given)) (ap length given ∙ d.arguments);
      means = means_so call.target q a c.moment d.taken d.xs d.what d.given stays d.asks;
    }

-- Calls of other objects and of simul efuns

-- so many arguments are there
pub call_enough : (shapes : Shapes) (a : Around) (m : Moment) (live : Live) (stack : List Value) (frame : Frame) (budget : ℕ) (call : CallOf) → Came shapes a m (nexts.Call call) live stack frame budget → call.args ≤ length stack
call_enough shapes a m live stack frame budget call c =
    let d = parted_of shapes a m live stack frame budget call c in
    omega (arith, ap length d.lies, length-append (d.low ++ d.taken) d.xs, d.arguments)

texts_are : (a : Around) (p : RawProgram) (k : ℕ) (name : List ℕ) → code_of p a.code.parents ≡ a.code → slice_get a.code.texts k ≡ Some name → slice_get p.consts k ≡ Some name
texts_are a p k name code e = ap (λ (x : Code). slice_get x.texts k) code ∙ e

text_there : (t : Target) (n : ℕ) (a : Around) (stack : List Value) (frame : Frame) (m : Moment) → Parted t n a stack frame m → HasText t frame.code
text_there (targets.Slot k) n a stack frame m d = tt
text_there (targets.Fixed j k) n a stack frame m d = tt
text_there targets.Other n a stack frame m d = tt
text_there (targets.Simul k) n a stack frame m d = slice_get_within frame.code.consts k d.asks.0 (texts_are a frame.code k d.asks.0 d.sits.belongs.code d.asks.1)

pub call_text : (shapes : Shapes) (a : Around) (m : Moment) (live : Live) (stack : List Value) (frame : Frame) (budget : ℕ) (call : CallOf) → Came shapes a m (nexts.Call call) live stack frame budget → HasText call.target frame.code
call_text shapes a m live stack frame budget call c = text_there call.target call.args a stack frame c.moment (parted_of shapes a m live stack frame budget call c)

-- the arguments of `call_other` lie there
record Laid (low given : List Value) (asked : Asked) (stack : List Value) (args : ℕ) : Type 0 where
  what : asked ≡ OfEfun efuns.CallOther
  lies : stack ≡ low ++ given
  many : length given ≡ args

laid_simul : (stack0 stack1 low taken xs : List Value) (n : ℕ) (x y u v : Value) → taken ≡ [] → stack0 ≡ (low ++ taken) ++ xs → length xs ≡ n → x ≡ u → y ≡ v
    → stack1 ≡ take (length stack0 - n) stack0 ++ x ∷ y ∷ drop (length stack0 - n) stack0 → stack1 ≡ low ++ u ∷ v ∷ xs
laid_simul stack0 stack1 low taken xs n x y u v none lies many first second laid =
    let whole : stack0 ≡ low ++ xs = lies ∙ ap (λ l. (low ++ l) ++ xs) none ∙ ap (λ l. l ++ xs) (append-nil low) in
    let k : length stack0 - n ≡ length low = omega (arith, many, ap length whole, length-append low xs) in
    let before : take (length stack0 - n) stack0 ≡ low = ap (λ j. take j stack0) k ∙ ap (λ l. take (length low) l) whole ∙ take-append_seam low xs in
    let behind : drop (length stack0 - n) stack0 ≡ xs = ap (λ j. drop j stack0) k ∙ ap (λ l. drop (length low) l) whole ∙ drop-append_seam low xs in
    laid ∙ ap (λ l. l ++ x ∷ y ∷ drop (length stack0 - n) stack0) before ∙ ap (λ l. low ++ x ∷ y ∷ l) behind ∙ ap (λ z. low ++ z ∷ y ∷ xs) first ∙ ap (λ z. low ++ u ∷ z ∷ xs) second

laid_so : (t : Target) (n n1 : ℕ) (a : Around) (live : Live) (stack0 stack1 : List Value) (frame : Frame) (m : Moment) → question_of t ≡ None → live.simul ≡ m.state.world.simul → (d : Parted t n a stack0 frame m) → Lays t frame.code live n stack0 n1 stack1 → Laid d.low d.given d.what stack1 n1
laid_so (targets.Slot k) n n1 a live stack0 stack1 frame m e simul d l = absurd (cc)
laid_so (targets.Fixed j k) n n1 a live stack0 stack1 frame m e simul d l = absurd (cc)
laid_so targets.Other n n1 a live stack0 stack1 frame m e simul d l = record {
  what = d.asks.0;
  lies = l.1 ∙ d.lies ∙ append_assoc d.low d.taken d.xs ∙ ap (λ g. d.low ++ g) (sym d.asks.1);
  many = omega (arith, ap length d.asks.1, length-append d.taken d.xs, d.under, d.arguments, l.0);
}
laid_so (targets.Simul k) n n1 a live stack0 stack1 frame m e simul d l =
    let name = d.asks.0 in
    record {
      what = d.asks.2;
      lies = laid_simul stack0 stack1 d.low d.taken d.xs n (name_or_zero live.simul) (values.Str name) (simul_object m.state.world) (values.Str name) (no_items d.taken d.under) d.lies d.arguments (ap name_or_zero simul) refl
          (l.1 name (texts_are a frame.code k name d.sits.belongs.code d.asks.1)) ∙ ap (λ g. d.low ++ g) (sym d.asks.3);
      many = omega (arith, ap length d.asks.3, d.arguments, l.0);
    }

pub at_other : (shapes : Shapes) (a : Around) (m : Moment) (live : Live) (stack0 stack1 : List Value) (frame : Frame) (budget args : ℕ) (call : CallOf) → Came shapes a m (nexts.Call call) live stack0 frame budget → question_of call.target ≡ None
    → Lays call.target frame.code live call.args stack0 args stack1 → AtEfun shapes a m live stack1 frame budget args efuns.CallOther
at_other shapes a m live stack0 stack1 frame budget args call c goes lays =
    let d = parted_of shapes a m live stack0 frame budget call c in
    let l = laid_so call.target call.args args a live stack0 stack1 frame c.moment goes c.matches.stands.rest.simul d lays in
    record {
      waits =
          waits_so shapes a m (nexts.Call call) live stack0 stack1 d.low d.rest d.given frame budget args d.what c refl d.told
          (record { lies = d.sits.lies; bottom = d.sits.bottom; locals = d.sits.locals; place = d.sits.place; catches = d.sits.catches; belongs = d.sits.belongs })
          l.lies l.many;
      what = l.what;
    }
