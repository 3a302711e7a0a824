-- Each step of sound code leaves what the next one needs.
use Rattle.std.proofs.Common.{◌≡◌, ◌∙◌, ◌+◌, ◌<◌, List, Option, Some, None, arith, refl, ap, sym, subst, slice_get, unwrap_or}
use Rattle.lp_values.specs.declared.value.Value.{Value}
use Rattle.lp_code.specs.Owners.{end_of}
use Rattle.lp_code.specs.Programs.{bounds_of, code_of}
use Rattle.lp_instr.specs.Code.{Code}
use Rattle.lp_instr.specs.declared.instr.Instr.{Instr}
use Rattle.lp_instr.specs.declared.instr.Instr.TheVariants.{PushInt, PushText, PushLocal, SetLocal, PushGlobal, SetGlobal, Pop, Dup, Dup2, Unary, Binary, Step, Rotate, Index, SetIndex, Range, MakeArray, MakeMap, Jump, JumpIfZero, JumpIfNotZero, KeepIfZero, KeepIfNotZero, LoopTurn, CallSlot, CallFixed, CallOther, CallEfun, CallSimul, Scan, CatchBegin, CatchEnd, Switch, EachBegin, EachNext, Return, ReturnZero}
use Rattle.lp_instr.specs.Sound.{Bounds, By, IsNamed, IsReachedWell, IsSound, Shapes}
use Rattle.lp_isa.specs.Machine.{Next, Goes, Ended, Awaits, Wrong, step}
use Rattle.lp_isa.specs.SoundCode.{NextMatches}
use Rattle.lp_isa.specs.Work.{NextLess, work_of}
use Rattle.lp_sim.proofs.SoundCode.{sound_code}
use Rattle.lp_sim.proofs.WorkLess.{sound_code_ends}
use Rattle.lp_world.specs.Rows.{variables_at}
use Rattle.lp_step.specs.Steps.{AreNamed, IsFine, LeadsTo, bounds}
use Rattle.lp_step_laws.specs.Running.{HasVariables, SoundCodeGoesOn, SoundCodeRunsOn}
use Rattle.lp_step_laws.proofs.Found.{same_program}

-- what names ask is told by the numbers of locals and variables alone
named_again : (code : Code) (b d : Bounds) (i : Instr) → b.locals ≡ d.locals → b.variables ≡ d.variables → IsNamed code b i → IsNamed code d i
named_again code b d (PushInt z) l v h = tt
named_again code b d (PushText k) l v h = h
named_again code b d (PushLocal k) l v h = subst (λ n. k < n) l h
named_again code b d (SetLocal k) l v h = subst (λ n. k < n) l h
named_again code b d (PushGlobal k) l v h = subst (λ n. k < n) v h
named_again code b d (SetGlobal k) l v h = subst (λ n. k < n) v h
named_again code b d Pop l v h = tt
named_again code b d Dup l v h = tt
named_again code b d Dup2 l v h = tt
named_again code b d (Unary op) l v h = tt
named_again code b d (Binary op) l v h = tt
named_again code b d (Step op) l v h = tt
named_again code b d (Rotate n) l v h = h
named_again code b d (Index edge) l v h = tt
named_again code b d (SetIndex edge) l v h = tt
named_again code b d (Range x y) l v h = tt
named_again code b d (MakeArray n) l v h = tt
named_again code b d (MakeMap n) l v h = tt
named_again code b d (Jump to) l v h = tt
named_again code b d (JumpIfZero to) l v h = tt
named_again code b d (JumpIfNotZero to) l v h = tt
named_again code b d (KeepIfZero to) l v h = tt
named_again code b d (KeepIfNotZero to) l v h = tt
named_again code b d LoopTurn l v h = tt
named_again code b d (CallSlot k n) l v h = h
named_again code b d (CallFixed q j n) l v h = h
named_again code b d (CallOther n) l v h = tt
named_again code b d (CallEfun e n) l v h = h
named_again code b d (CallSimul k n) l v h = h
named_again code b d (Scan n) l v h = tt
named_again code b d (CatchBegin to) l v h = tt
named_again code b d CatchEnd l v h = tt
named_again code b d (Switch k) l v h = h
named_again code b d (EachBegin n) l v h = h
named_again code b d (EachNext to n) l v h = h
named_again code b d Return l v h = tt
named_again code b d ReturnZero l v h = tt

-- what is as the shapes say does not fail
fine_next : (shapes : Shapes) (x : Next) → NextMatches shapes x → IsFine x
fine_next shapes (Goes m) h = tt
fine_next shapes (Ended e) h = tt
fine_next shapes (Awaits q k) h = tt
fine_next shapes Wrong h = h

pub goes_on : SoundCodeGoesOn
goes_on p k row f a live0 live1 stack0 stack1 frame0 frame1 budget0 budget1 m n of runs steps keeps home = record {
  moment = led.m;
  matches = led.matches;
  told = led.told;
  shaped = subst (NextMatches f.shapes) led.told matched;
  less = subst (NextLess a.code (work_of a.code m)) led.told less;
  fit = (keeps runs.fit).0;
  home = still_home (variables_at live0.objects a.scene.this) refl runs.home;
}
  where
    still_home : (o : Option (List Value)) → variables_at live0.objects a.scene.this ≡ o → HasVariables o (a.scene.base + a.variables) → HasVariables (variables_at live1.objects a.scene.this) (a.scene.base + a.variables)
    still_home None e h = absurd h
    still_home (Some vs) e h = let t = home a.scene.this vs e in subst (λ o. HasVariables o (a.scene.base + a.variables)) (sym t.1) (omega (arith, t.2, h))

    program : frame0.code ≡ p
    program = same_program a p row live0 stack0 frame0 budget0 m of runs.matches

    code : code_of p a.code.parents ≡ a.code
    code = ap (λ q. code_of q a.code.parents) (sym program) ∙ runs.matches.sits.belongs.code

    sound : IsSound (code_of p a.code.parents) (bounds_of p row) row.from (end_of p k) f.shapes
    sound = f.sound a.code.parents of.rows

    well : IsReachedWell (code_of p a.code.parents) (bounds_of p row) (By f.shapes) m.place runs.shaped.shape
    well = sound.well m.place runs.shaped.shape runs.shaped.reached

    matched : NextMatches f.shapes (step a.code a.scene m)
    matched = subst (λ c. NextMatches f.shapes (step c a.scene m)) code (sound_code (code_of p a.code.parents) (bounds_of p row) row.from (end_of p k) f.shapes a.scene m sound runs.shaped)

    less : NextLess a.code (work_of a.code m) (step a.code a.scene m)
    less = subst (λ c. NextLess c (work_of c m) (step c a.scene m)) code (sound_code_ends (code_of p a.code.parents) (bounds_of p row) row.from (end_of p k) f.shapes a.scene m sound runs.shaped)

    named : AreNamed a m
    named i e =
        subst (λ c. IsNamed c (bounds a) i) code
        (named_again (code_of p a.code.parents) (bounds_of p row) (bounds a) i (sym of.locals) (sym of.variables) (subst (IsNamed (code_of p a.code.parents) (bounds_of p row)) (same i e) well.named))
      where
        same : (i : Instr) → slice_get a.code.instrs m.place ≡ Some i → well.instr ≡ i
        same i e = ap (λ o. unwrap_or o i) (let q : Some well.instr ≡ Some i = sym well.is ∙ ap (λ c. slice_get c.instrs m.place) code ∙ e in q)

    led : LeadsTo a n live1 stack1 frame1 budget1 (step a.code a.scene m)
    led = steps a m runs.matches (fine_next f.shapes (step a.code a.scene m) matched) named

pub runs_on : SoundCodeRunsOn
runs_on shapes a m live stack frame budget h = (h.moment, h.told, record { matches = h.matches; shaped = h.shaped; fit = h.fit; home = h.home }, h.less)
