-- A function that is entered, in every world.
use Rattle.std.proofs.Common.{◌≡◌, ◌++◌, ◌∷◌, [], ◌∙◌, ℕ, zero, suc, ◌+◌, ◌-◌, ◌<◌, ◌≤◌, ◌^◌, List, Some, All, refl, ap, sym, subst, arith, drop, length, length-append, replicate, slice_get, take, unwrap_or}
use Rattle.std.specs.Prelude.{Vec}
use Rattle.std.specs.Global.{Global}
use Rattle.std.proofs.Math.Seq.{drop-append_seam, take-append_seam}
use Rattle.std.proofs.lemmas.List.Elements.{All-append, All-cons, All-drop, All-nil, All-take}
use Rattle.lp_values.specs.declared.value.Value.{Value}
use Rattle.lp_cells.specs.Cells.{IsThere}
use Rattle.lp_code.specs.declared.program.FunRow.{FunRow}
use Rattle.lp_code.specs.declared.program.RawProgram.{RawProgram}
use Rattle.lp_code.specs.Owners.{AreRows, RowsRise}
use Rattle.lp_code.specs.Programs.{IsProgram}
use Rattle.lp_language.specs.Course.{zero_value}
use Rattle.lp_world.specs.declared.frame.Catch.{Catch}
use Rattle.lp_world.specs.declared.frame.Frame.{Frame}
use Rattle.lp_world.specs.declared.live.Live.{Live}
use Rattle.lp_step.specs.Steps.{IsFit}
use Rattle.lp_frames.specs.declared.entry.Callee.{Callee}
use Rattle.lp_frames.specs.Entries.{BeginsAsWritten, CanRunFrom, Enters, IsOfRow, LaysOut, RunsFrom, begins, begun_locals}
use Rattle.lp_frames.proofs.Filled.{length_begun}

-- the frame with which a function begins
abbrev pub first_frame : Callee → RawProgram → ℕ → ℕ → Vec Catch Global → Frame
first_frame callee code at bottom catches = record {
  this = callee.this;
  program = callee.program;
  part = callee.part;
  base = callee.base;
  at = at;
  bottom = bottom;
  fun = callee.fun;
  catches = catches;
  code = code;
}

-- the parameters of each row are among its locals
params_in : (n low : ℕ) (rows : List FunRow) (k : ℕ) (row : FunRow) → RowsRise n low rows → slice_get rows k ≡ Some row → row.params ≤ row.locals
params_in n low [] zero row h e = cc
params_in n low [] (suc k) row h e = cc
params_in n low (r ∷ rs) zero row h e = subst (λ q. q.params ≤ q.locals) (let s : r ≡ row = ap (λ o. unwrap_or o r) e in s) h.2
params_in n low (r ∷ rs) (suc k) row h e = params_in n (suc r.from) rs k row h.3 e

pub params_of : (n : ℕ) (rows : List FunRow) (k : ℕ) (row : FunRow) → AreRows n rows → slice_get rows k ≡ Some row → row.params ≤ row.locals
params_of n [] zero row h e = cc
params_of n [] (suc k) row h e = cc
params_of n (r ∷ rs) k row h e = params_in n 0 (r ∷ rs) k row h.1 e

pub entered : (code : RawProgram) (callee : Callee) (n : ℕ) (stack0 stack1 : List Value) (row0 : FunRow) (at bottom : ℕ) (catches : Vec Catch Global)
    → slice_get code.funs callee.fun ≡ Some row0 → row0.params ≤ row0.locals → n ≤ length stack0 → at ≡ row0.from → bottom ≡ length stack0 - n → catches.items ≡ []
    → stack1 ≡ take bottom stack0 ++ begun_locals row0.params row0.locals (drop bottom stack0)
    → Enters code callee n stack0 stack1 (first_frame callee code at bottom catches)
entered code callee n stack0 stack1 row0 at bottom catches found few enough p b none new row a xs live budget s around e l opens =
    let r : row0 ≡ row = ap (λ o. unwrap_or o row0) (sym found ∙ around.found) in
    let low : bottom ≡ length a.below = omega (arith, b, l, ap length e, length-append a.below xs) in
    let below : take bottom stack0 ≡ a.below = ap (λ k. take k stack0) low ∙ ap (λ l. take (length a.below) l) e ∙ take-append_seam a.below xs in
    let above : drop bottom stack0 ≡ xs = ap (λ k. drop k stack0) low ∙ ap (λ l. drop (length a.below) l) e ∙ drop-append_seam a.below xs in
    record {
      stands = opens.stands;
      sits = record {
        lies = new ∙ ap (λ l. l ++ begun_locals row0.params row0.locals (drop bottom stack0)) below ∙ ap (λ l. a.below ++ begun_locals row0.params row0.locals l) above ∙ ap (λ q. a.below ++ begun_locals q.params q.locals xs) r;
        bottom = low;
        locals = length_begun row.params row.locals xs (subst (λ q. q.params ≤ q.locals) r few) ∙ sym around.locals;
        place = p ∙ ap (λ q. q.from) r;
        catches = none;
        belongs = around.belongs;
      };
      left = opens.left;
      outputs = opens.outputs;
      player = opens.player;
      commands = opens.commands;
    }

pub lays_out : (code : RawProgram) (callee : Callee) (n : ℕ) (stack0 stack1 : List Value) (row : FunRow) (bottom : ℕ) (catches : Vec Catch Global)
    → slice_get code.funs callee.fun ≡ Some row → bottom ≡ length stack0 - n → catches.items ≡ [] → stack1 ≡ take bottom stack0 ++ begun_locals row.params row.locals (drop bottom stack0)
    → LaysOut code callee n stack0 stack1 (first_frame callee code row.from bottom catches)
lays_out code callee n stack0 stack1 row bottom catches found b none new = record {
  row = row;
  found = found;
  stack = new ∙ ap (λ k. take k stack0 ++ begun_locals row.params row.locals (drop k stack0)) b;
  at = refl;
  bottom = b;
  catches = none;
  this = refl;
  program = refl;
  part = refl;
  base = refl;
  fun = refl;
  code_same = refl;
}

zeros_there : (live : Live) (n : ℕ) → All (IsThere live.cells) (replicate n zero_value)
zeros_there live zero = All-nil (IsThere live.cells)
zeros_there live (suc n) = All-cons (IsThere live.cells) zero_value (replicate n zero_value) tt (zeros_there live n)

entered_fit : (live : Live) (stack0 stack1 : List Value) (bottom params locals : ℕ) → stack1 ≡ take bottom stack0 ++ begun_locals params locals (drop bottom stack0) → IsFit live stack0 → IsFit live stack1
entered_fit live stack0 stack1 bottom params locals new f = record {
  closed = f.closed;
  there = subst (All (IsThere live.cells)) (sym new)
      (All-append (IsThere live.cells) (take bottom stack0) (begun_locals params locals (drop bottom stack0)) (All-take (IsThere live.cells) bottom stack0 f.there)
      (All-append (IsThere live.cells) (take params (drop bottom stack0)) (replicate (locals - length (take params (drop bottom stack0))) zero_value)
      (All-take (IsThere live.cells) params (drop bottom stack0) (All-drop (IsThere live.cells) bottom stack0 f.there)) (zeros_there live (locals - length (take params (drop bottom stack0))))));
}

pub runs_entered : (code : RawProgram) (callee : Callee) (n : ℕ) (stack0 stack1 : List Value) (params locals bottom : ℕ) (frame : Frame)
    → stack1 ≡ take bottom stack0 ++ begun_locals params locals (drop bottom stack0) → Enters code callee n stack0 stack1 frame → RunsFrom code callee n stack0 stack1 frame
runs_entered code callee n stack0 stack1 params locals bottom frame new enters row f a xs live budget s around e l opens finds fit home = record {
  matches = enters row a xs live budget s around e l opens;
  shaped = record { shape = record { height = 0; catches = [] }; reached = (f.sound a.code.parents finds).begins; height = refl; catches = refl };
  fit = entered_fit live stack0 stack1 bottom params locals new fit;
  home = home;
}

pub of_row : (code : RawProgram) (callee : Callee) (n : ℕ) (stack0 : List Value) (row0 : FunRow) (bottom : ℕ) → slice_get code.funs callee.fun ≡ Some row0 → n ≤ length stack0 → bottom ≡ length stack0 - n
    → bottom + row0.locals + code.max_height < 2 ^ 32 → IsOfRow code callee n stack0
of_row code callee n stack0 row0 bottom found enough b h row a xs around e l variables finds places =
    let r : row0 ≡ row = ap (λ o. unwrap_or o row0) (sym found ∙ around.found) in
    let low : bottom ≡ length a.below = omega (arith, b, l, ap length e, length-append a.below xs) in
    record {
      program = ap (λ v. slice_get a.programs v.0) (sym around.belongs.version) ∙ around.belongs.program;
      locals = around.locals;
      variables = variables;
      rows = finds;
      places = places;
      heights = omega (arith, h, low, around.locals, ap (λ q. q.locals) r);
    }

pub can_run_from : (code : RawProgram) (callee : Callee) (n : ℕ) (stack0 stack1 : List Value) (frame : Frame) → IsProgram code → IsOfRow code callee n stack0 → RunsFrom code callee n stack0 stack1 frame → CanRunFrom code callee n stack0 stack1 frame
can_run_from code callee n stack0 stack1 frame sound of runs row a xs live budget s around e l opens variables finds places fit home =
    let f = sound.functions callee.fun row around.found in
    record {
      p = code;
      k = callee.fun;
      row = row;
      function = f;
      around = a;
      moment = begins row xs s;
      of = of row a xs around e l variables finds places;
      runs = runs row f a xs live budget s around e l opens finds fit home;
    }

pub begins_as_written : BeginsAsWritten
begins_as_written f row xs p l = ap (λ n. begun_locals n row.locals xs) p ∙ ap (λ n. begun_locals (length f.parameters) n xs) l
