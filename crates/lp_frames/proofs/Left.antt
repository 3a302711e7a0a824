-- A function that is left, in every world.
use Rattle.std.proofs.Common.{◌≡◌, ◌++◌, ◌∷◌, [], ◌∙◌, ℕ, ◌-◌, Bool, true, false, List, All, refl, ap, sym, subst, arith, append-nil, append_assoc, length, length-append, slice_get, take}
use Rattle.std.proofs.Math.Seq.{take-append_seam}
use Rattle.std.proofs.lemmas.List.Elements.{All-take}
use Rattle.lp_values.specs.declared.value.Value.{Value}
use Rattle.lp_cells.specs.Cells.{IsThere}
use Rattle.lp_language.specs.Course.{Gives, Stops, Plain, after, outcome_of}
use Rattle.lp_isa.specs.Machine.{Moment, stop_at}
use Rattle.lp_isa.specs.SoundCode.{NextMatches}
use Rattle.lp_world.specs.declared.frame.Frame.{Frame}
use Rattle.lp_world.specs.declared.live.Live.{Live}
use Rattle.lp_world.specs.Matches.{Around, Matches, Sits, laid}
use Rattle.lp_step.specs.Steps.{IsFit}
use Rattle.lp_step.proofs.Fits.{pushed_fit}
use Rattle.lp_run.specs.Catches.{Catches, CatchesAt}
use Rattle.lp_frames.specs.Returns.{Cuts, Returns, RunsOn, StaysOf, Unwinds, UnwindsOn, Waits, back_in, resumed}

laid_above : (base ops : List Value) → laid base ops ≡ base ++ laid [] ops
laid_above base [] = sym (append-nil base)
laid_above base (x ∷ xs) = ap (λ l. l ++ x ∷ []) (laid_above base xs) ∙ append_assoc base (laid [] xs) (x ∷ [])

-- what is left is what lies below what the call took
cut_low : (inner : Around) (stack0 stack1 : List Value) (frame : Frame) (end : Moment) (under : ℕ) (low taken : List Value) → inner.below ≡ low ++ taken → length taken ≡ under → Sits inner stack0 frame end
    → stack1 ≡ take (frame.bottom - under) stack0 → stack1 ≡ low
cut_low inner stack0 stack1 frame end under low taken b c s e =
    let k : frame.bottom - under ≡ length low = omega (arith, s.bottom, ap length b, length-append low taken, c) in
    let whole : stack0 ≡ low ++ (taken ++ (end.state.locals ++ laid [] end.stack)) =
    s.lies ∙ laid_above (inner.below ++ end.state.locals) end.stack ∙ append_assoc inner.below end.state.locals (laid [] end.stack) ∙ ap (λ l. l ++ (end.state.locals ++ laid [] end.stack)) b
    ∙ append_assoc low taken (end.state.locals ++ laid [] end.stack) in
    e ∙ ap (λ n. take n stack0) k ∙ ap (λ l. take (length low) l) whole ∙ take-append_seam low (taken ++ (end.state.locals ++ laid [] end.stack))

-- the caller with other operands, in the world in which the function ended
back : (outer inner : Around) (live : Live) (stack0 stack1 : List Value) (frame caller : Frame) (budget under : ℕ) (m end : Moment) (rest ops : List Value) → Waits outer inner under caller m rest → Matches inner live stack0 frame budget end
    → stack1 ≡ laid (outer.below ++ m.state.locals) ops
    → Matches (back_in outer inner) live stack1 caller budget (record {
      place = m.place;
      stack = ops;
      catches = m.catches;
      state = record { locals = m.state.locals; player = end.state.player; commands = end.state.commands; world = end.state.world; budget = end.state.budget; outputs = m.state.outputs ++ end.state.outputs };
    })
back outer inner live stack0 stack1 frame caller budget under m end rest ops w h e = record {
  stands = h.stands;
  sits = record {
    lies = e;
    bottom = w.sits.bottom;
    locals = w.sits.locals;
    place = w.sits.place;
    catches = w.sits.catches;
    belongs = record {
      this = w.sits.belongs.this;
      version = w.sits.belongs.version;
      part = w.sits.belongs.part;
      base = w.sits.belongs.base;
      function = w.sits.belongs.function;
      program = w.there;
      code = w.sits.belongs.code;
    };
  };
  left = h.left;
  outputs = h.outputs ∙ ap (λ l. l ++ end.state.outputs) w.outputs ∙ append_assoc outer.before m.state.outputs end.state.outputs;
  player = h.player;
  commands = h.commands;
}

pub cuts : (under : ℕ) (stack0 : List Value) (frame : Frame) (stack1 : List Value) → stack1 ≡ take (frame.bottom - under) stack0 → Cuts under stack0 frame stack1
cuts under stack0 frame stack1 e outer inner live budget caller m end rest (Gives r s) w h q =
    subst (λ t. Matches (back_in outer inner) live stack1 caller budget (resumed m rest (Gives r t))) (sym q)
    (back outer inner live stack0 stack1 frame caller budget under m end rest rest w h (cut_low inner stack0 stack1 frame end under w.low w.taken w.below w.count h.sits e ∙ w.sits.lies))
cuts under stack0 frame stack1 e outer inner live budget caller m end rest (Stops x s) w h q =
    subst (λ t. Matches (back_in outer inner) live stack1 caller budget (resumed m rest (Stops x t))) (sym q)
    (back outer inner live stack0 stack1 frame caller budget under m end rest rest w h (cut_low inner stack0 stack1 frame end under w.low w.taken w.below w.count h.sits e ∙ w.sits.lies))

pub cut_fit : (live : Live) (stack0 stack1 : List Value) (n : ℕ) → stack1 ≡ take n stack0 → IsFit live stack0 → IsFit live stack1
cut_fit live stack0 stack1 n e f = record { closed = f.closed; there = subst (All (IsThere live.cells)) (sym e) (All-take (IsThere live.cells) n stack0 f.there) }

pub returned : (under : ℕ) (v : Value) (stack0 : List Value) (frame : Frame) (stack1 stack2 : List Value) → stack1 ≡ take (frame.bottom - under) stack0 → stack2 ≡ stack1 ++ v ∷ [] → Returns under v stack0 frame stack2
returned under v stack0 frame stack1 stack2 e p outer inner live budget caller m end rest w h = (
  refl,
  back outer inner live stack0 stack2 frame caller budget under m end rest (v ∷ rest) w h
      (p ∙ ap (λ l. l ++ v ∷ []) (cut_low inner stack0 stack1 frame end under w.low w.taken w.below w.count h.sits e ∙ w.sits.lies)),
)

pub runs_on : (under : ℕ) (v : Value) (stack0 : List Value) (frame : Frame) (stack1 stack2 : List Value) → stack1 ≡ take (frame.bottom - under) stack0 → stack2 ≡ stack1 ++ v ∷ [] → RunsOn under v stack0 frame stack2
runs_on under v stack0 frame stack1 stack2 e p shapes outer inner live budget caller m end rest what xs w h shaped fit there home = record {
  matches = (returned under v stack0 frame stack1 stack2 e p outer inner live budget caller m end rest w h).1;
  shaped = shaped (outcome_of (Gives (Plain v) end.state));
  fit = pushed_fit live stack1 stack2 v there p (cut_fit live stack0 stack1 (frame.bottom - under) e fit);
  home = home;
}

pub unwound : (is_caught : Bool) (under : ℕ) (v : Value) (stack0 : List Value) (frame : Frame) (stack1 stack2 : List Value) (caller0 caller1 : Frame) → Cuts under stack0 frame stack1 → Catches is_caught v stack1 caller0 stack2 caller1
    → Unwinds is_caught under v stack0 frame stack2 caller0 caller1
unwound is_caught under v stack0 frame stack1 stack2 caller0 caller1 cut catches outer inner live budget m end rest x e w h =
    subst (λ o. CatchesAt is_caught (back_in outer inner) live stack2 caller1 budget x (resumed m rest (Stops x end.state)) (stop_at o x m.catches rest (after m.state (outcome_of (Stops x end.state))))) (sym e)
    (catches (back_in outer inner) live budget (resumed m rest (Stops x end.state)) x (cut outer inner live budget caller0 m end rest (Stops x end.state) w h refl))

pub unwound_on : (is_caught : Bool) (under : ℕ) (v : Value) (stack0 : List Value) (frame : Frame) (stack1 : List Value) (caller0 caller1 : Frame) → Unwinds is_caught under v stack0 frame stack1 caller0 caller1
    → ((live : Live) → IsThere live.cells v → IsFit live stack0 → IsFit live stack1) → UnwindsOn is_caught under v stack0 frame stack1 caller0 caller1
unwound_on true under v stack0 frame stack1 caller0 caller1 unwinds keeps shapes outer inner live budget m end rest x what xs e w h shaped fit there home =
    let t = unwinds outer inner live budget m end rest x e w h in
    (t.0, t.1, record { matches = t.2; shaped = subst (NextMatches shapes) t.1 (shaped (outcome_of (Stops x end.state))); fit = keeps live there fit; home = home })
unwound_on false under v stack0 frame stack1 caller0 caller1 unwinds keeps shapes outer inner live budget m end rest x what xs e w h shaped fit there home = tt

pub stays_of : StaysOf
stays_of outer inner under caller m rest p row w of = record {
  program = ap (λ v. slice_get inner.programs v.0) (sym w.sits.belongs.version) ∙ w.there ∙ sym w.sits.belongs.program ∙ ap (λ v. slice_get outer.programs v.0) w.sits.belongs.version ∙ of.program;
  locals = of.locals;
  variables = of.variables;
  rows = of.rows;
  places = of.places;
  heights = of.heights;
}
