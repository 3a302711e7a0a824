-- Sound code finds what its steps need.
use Rattle.std.proofs.Common.{◌≡◌, ◌++◌, ◌∷◌, [], ◌∙◌, ℕ, zero, suc, ◌+◌, ◌*◌, ◌<◌, ◌≤◌, List, Option, Some, None, length, length-append, map, refl, ap, sym, subst, arith, slice_get, unwrap_or, IsSome}
use Rattle.lp_values.specs.declared.value.Value.{Value}
use Rattle.lp_code.specs.declared.program.FunRow.{FunRow}
use Rattle.lp_code.specs.declared.program.RawProgram.{RawProgram}
use Rattle.lp_code.specs.Owners.{end_of}
use Rattle.lp_code.specs.Programs.{IsFunction, bounds_of, code_of, table_of}
use Rattle.lp_instr.specs.Code.{Catching, Code}
use Rattle.lp_instr.specs.declared.instr.Instr.{Instr}
use Rattle.lp_instr.specs.declared.instr.Instr.TheVariants.{PushInt, PushText, PushLocal, SetLocal, PushGlobal, SetGlobal, Pop, Dup, Dup2, Unary, Binary, Step, Rotate, Index, SetIndex, Range, MakeArray, MakeMap, Jump, JumpIfZero, JumpIfNotZero, KeepIfZero, KeepIfNotZero, LoopTurn, CallSlot, CallFixed, CallOther, CallEfun, CallSimul, Scan, CatchBegin, CatchEnd, Switch, EachBegin, EachNext, Return, ReturnZero}
use Rattle.lp_instr.specs.Sound.{By, Closes, IsFine, IsNamed, IsReachedWell, IsSound, Shape, Takes, end_count}
use Rattle.lp_isa.specs.Machine.{Moment}
use Rattle.lp_world.specs.declared.frame.Frame.{Frame}
use Rattle.lp_world.specs.declared.live.Live.{Live}
use Rattle.lp_world.specs.Matches.{Around, Matches, catch_of, floor, stacked}
use Rattle.lp_world.specs.Rows.{HasPlace, variables_at}
use Rattle.lp_step.specs.Steps.{CanStep, Finds, instr_at}
use Rattle.lp_step.proofs.Moves.{length-laid}
use Rattle.lp_step_laws.specs.Running.{HasVariables, IsOf, Runs, SoundCodeCanStep}

-- Lists

pub inside : {A : Type 0} (xs : List A) (i : ℕ) → IsSome (slice_get xs i) → i < length xs
inside [] i h = cc
inside (x ∷ xs) zero h = omega arith
inside (x ∷ xs) (suc i) h = let t = inside xs i h in omega (arith, t)

length_mapped : {A B : Type 0} (f : A → B) (xs : List A) → length (map f xs) ≡ length xs
length_mapped f [] = refl
length_mapped f (x ∷ xs) = ap suc (length_mapped f xs)

some_there : {A : Type 0} (o : Option A) (x : A) → o ≡ Some x → IsSome o
some_there o x e = subst IsSome (sym e) refl

length_stacked : (n : ℕ) (cs : List Catching) → length (stacked n cs) ≡ length cs
length_stacked n [] = refl
length_stacked n (c ∷ cs) = omega (arith, length_stacked n cs, length-append (stacked n cs) (catch_of n c ∷ []))

-- Variables

has_place : (o : Option (List Value)) (n j : ℕ) → j < n → HasVariables o n → HasPlace o j
has_place None n j l h = h
has_place (Some vs) n j l h = omega (arith, l, h)

-- The program of the frame

pub same_program : (a : Around) (p : RawProgram) (row : FunRow) (live : Live) (stack : List Value) (frame : Frame) (budget : ℕ) (m : Moment) → IsOf a p row → Matches a live stack frame budget m → frame.code ≡ p
same_program a p row live stack frame budget m of h =
    ap (λ o. unwrap_or o p) (let e : Some frame.code ≡ Some p = sym h.sits.belongs.program ∙ ap (λ v. slice_get a.programs v.0) h.sits.belongs.version ∙ of.program in e)

-- How high the stack is

pub height_is : (a : Around) (live : Live) (stack : List Value) (frame : Frame) (budget : ℕ) (m : Moment) → Matches a live stack frame budget m → length stack ≡ length a.below + a.locals + length m.stack
height_is a live stack frame budget m h = omega (arith, ap length h.sits.lies, length-laid (a.below ++ m.state.locals) m.stack, length-append a.below m.state.locals, h.sits.locals)

-- One lemma for each kind

module _ (p : RawProgram) (k : ℕ) (row : FunRow) (f : IsFunction p k row) (a : Around) (live : Live) (stack : List Value) (frame : Frame) (budget : ℕ) (m : Moment) (of : IsOf a p row) (runs : Runs f.shapes a live stack frame budget m) where
  abbrev sh : Shape
  sh = runs.shaped.shape

  abbrev code : Code
  code = code_of p a.code.parents

  sound : IsSound code (bounds_of p row) row.from (end_of p k) f.shapes
  sound = f.sound a.code.parents of.rows

  program : frame.code ≡ p
  program = same_program a p row live stack frame budget m of runs.matches

  height : length stack ≡ length a.below + a.locals + sh.height
  height = omega (arith, height_is a live stack frame budget m runs.matches, runs.shaped.height)

  takes : (n : ℕ) → Takes n sh → n ≤ length stack
  takes n t = omega (arith, t.enough, height)

  local : (j : ℕ) → j < row.locals → frame.bottom + j < length stack
  local j l = omega (arith, l, of.locals, height, runs.matches.sits.bottom)

  variable : (j : ℕ) → j < length p.tables.vars → HasPlace (variables_at live.objects frame.this) (frame.base + j)
  variable j l =
      subst (λ o. HasPlace (variables_at live.objects o) (frame.base + j)) (sym runs.matches.sits.belongs.this)
      (has_place (variables_at live.objects a.scene.this) (a.scene.base + a.variables) (frame.base + j) (omega (arith, l, of.variables, runs.matches.sits.belongs.base)) runs.home)

  caught : (cs : List Catching) → Closes code (By f.shapes) m.place sh cs → 1 ≤ length cs
  caught [] h = absurd h
  caught (c ∷ cs) h = omega arith

  finds_of : (i : Instr) → IsNamed code (bounds_of p row) i → IsFine code (By f.shapes) i m.place sh → Finds live stack frame i
  finds_of (PushInt z) named fine = tt
  finds_of (PushText j) named fine = subst (λ q. j < length q.consts) (sym program) (inside p.consts j named)
  finds_of (PushLocal j) named fine = local j named
  finds_of (SetLocal j) named fine = (local j named, takes 1 fine.takes)
  finds_of (PushGlobal j) named fine = variable j named
  finds_of (SetGlobal j) named fine = (variable j named, takes 1 fine.takes)
  finds_of Pop named fine = takes 1 fine.takes
  finds_of Dup named fine = takes 1 fine.takes
  finds_of Dup2 named fine = takes 2 fine.takes
  finds_of (Unary op) named fine = takes 1 fine.takes
  finds_of (Binary op) named fine = takes 2 fine.takes
  finds_of (Step op) named fine = takes 1 fine.takes
  finds_of (Rotate n) named fine = (named, takes n fine.takes)
  finds_of (Index edge) named fine = takes 2 fine.takes
  finds_of (SetIndex edge) named fine = takes 3 fine.takes
  finds_of (Range x y) named fine = takes (1 + end_count x + end_count y) fine.takes
  finds_of (MakeArray n) named fine = takes n fine.takes
  finds_of (MakeMap n) named fine = takes (2 * n) fine.takes
  finds_of (Jump to) named fine = tt
  finds_of (JumpIfZero to) named fine = takes 1 fine.0.takes
  finds_of (JumpIfNotZero to) named fine = takes 1 fine.0.takes
  finds_of (KeepIfZero to) named fine = takes 1 fine.0.takes
  finds_of (KeepIfNotZero to) named fine = takes 1 fine.0.takes
  finds_of LoopTurn named fine = tt
  finds_of (CallSlot j n) named fine = tt
  finds_of (CallFixed q j n) named fine = tt
  finds_of (CallOther n) named fine = tt
  finds_of (CallEfun e n) named fine = tt
  finds_of (CallSimul j n) named fine = tt
  finds_of (Scan n) named fine = takes 2 fine.takes
  finds_of (CatchBegin to) named fine = omega (arith, height, sound.low m.place sh runs.shaped.reached, of.heights)
  finds_of CatchEnd named fine =
      omega (arith, caught sh.catches fine, ap length runs.matches.sits.catches, length_stacked (floor a) m.catches, ap length runs.shaped.catches)
  finds_of (Switch j) named fine =
      (takes 1 fine.0, subst (λ q. j < length q.switches) (sym program) (omega (arith, inside (map table_of p.switches) j named, length_mapped table_of p.switches)))
  finds_of (EachBegin n) named fine = takes 1 fine.takes
  finds_of (EachNext to n) named fine = takes 2 fine.0.takes
  finds_of Return named fine = takes 1 fine.0
  finds_of ReturnZero named fine = tt

  well : IsReachedWell code (bounds_of p row) (By f.shapes) m.place sh
  well = sound.well m.place sh runs.shaped.reached

  found : instr_at frame ≡ Some well.instr
  found = ap (λ q. slice_get q.instrs frame.at) program ∙ ap (λ n. slice_get p.instrs n) runs.matches.sits.place ∙ well.is

  pub steps : CanStep live stack frame
  steps = record {
    i = well.instr;
    found = found;
    finds = finds_of well.instr well.named well.fine;
    room = omega (arith, runs.matches.sits.place, inside p.instrs m.place (some_there (slice_get p.instrs m.place) well.instr well.is), of.places);
    fit = runs.fit;
  }

pub can_step : SoundCodeCanStep
can_step p k row f a live stack frame budget m of runs = steps p k row f a live stack frame budget m of runs
