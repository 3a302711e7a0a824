-- A move, and the calls of `init` that follow it.
use Rattle.std.proofs.Common.{◌≡◌, ◌∙◌, ◌+◌, ◌≤◌, ◌<◌, ◌++◌, ◌∷◌, [], ℕ, zero, suc, Bool, true, false, List, Option, Some, None, All, refl, ap, sym, subst, codes, drop, length, map, slice_get, arith, append-nil, if◌then◌else◌}
use mathlib.Core.Path.{fun_ext}
use Rattle.lp_values.specs.declared.id.ObjId.{ObjId}
use Rattle.lp_values.specs.declared.error.ErrorKind.{ErrorKind}
use Rattle.lp_values.specs.Errors.{plain}
use Rattle.lp_values.specs.declared.value.Value.{Value}
use Rattle.lp_cells.specs.Cells.{IsThere, KeepsThere, Store}
use Rattle.lp_code.specs.declared.program.RawProgram.{RawProgram}
use Rattle.lp_instr.specs.declared.efun.Efun.{Efun}
use Rattle.lp_language.specs.World.{World}
use Rattle.lp_language.specs.Course.{Apply, Asked, Asks, Course, End, Failed, Gives, Over, State, Stops, and_then, end_of_outcome, in_any_case, stops}
use Rattle.lp_meaning.specs.Askers.{Asker, ask_value, for_player, question, with_player_back}
use Rattle.lp_meaning.specs.MovesAndCommands.{inits, may_init, move_error, moved_world, moving}
use Rattle.lp_moving.specs.Moving.{IsMoved, IsRefused, init_of}
use Rattle.lp_moving.specs.declared.fault.MoveFault.{MoveFault}
use Rattle.lp_moving.specs.declared.visits.InitCall.{InitCall}
use Rattle.lp_places.specs.Places.{Init, MoveNo, inits_of_move, may_move, moved}
use Rattle.lp_swapfile.specs.Device.{Bytes}
use Rattle.lp_world.specs.Closed.{IsClosed}
use Rattle.lp_world.specs.Rows.{live_in}
use Rattle.lp_world.specs.Stands.{Stands}
use Rattle.lp_world.specs.declared.live.Live.{Live}
use Rattle.lp_step.specs.Steps.{IsFit}
use Rattle.lp_efuns.specs.declared.caller.Turn.{Turn}
use Rattle.lp_settling.proofs.Still.{onward, still}
use Rattle.lp_calling.specs.declared.job.Applied.TheVariants as applies
use Rattle.lp_calling.specs.declared.job.Question.TheVariants as questions
use Rattle.lp_calling.specs.declared.job.Stage.{Stage}
use Rattle.lp_calling.specs.declared.job.Stage.TheVariants as stages
use Rattle.lp_calling.specs.declared.job.Step.TheVariants as steps
use Rattle.lp_calling.specs.declared.moving.Moving.TheVariants as moves
use Rattle.lp_calling.specs.declared.moving.Visits.{Visits}
use Rattle.lp_calling.specs.Entering.{Advances}
use Rattle.lp_calling.specs.Going.{StageGoes, StageTakes}
use Rattle.lp_calling.specs.Jobs.{ended, stage_behind, stage_course}
use Rattle.lp_calling.specs.Moves.{calls_behind}
use Rattle.lp_calling.specs.Moving.{IsNextMade, IsVisitPoised, Passes, Refuses, TellsMade}
use Rattle.lp_calling.specs.Questions.{question_course}
use Rattle.lp_calling.proofs.Lists.{left_at}
use Rattle.lp_calling.proofs.Settled.{settled_here}

-- Calls that are passed over

first_by : (by : Asker) (item dest : ObjId) (i : Init) (is : List Init) (s : State) (b : Bool) → may_init s.world item dest i ≡ b
    → inits by item dest (i ∷ is) s
    ≡ (if b then and_then (for_player (Some i.player) (λ s. ask_value (Apply i.of (codes "init")) [] by s) s) (λ v s. inits by item dest is s) else inits by item dest is s)
first_by by item dest i is s b e =
    ap (λ b. if b then and_then (for_player (Some i.player) (λ s. ask_value (Apply i.of (codes "init")) [] by s) s) (λ v s. inits by item dest is s) else inits by item dest is s) e

pub none_passed : (live : Live) (item dest : ObjId) (calls : List InitCall) (n : ℕ) → Passes live item dest calls n n
none_passed live item dest calls n g turn b by s h = refl

pub one_passed : (live : Live) (item dest : ObjId) (calls : List InitCall) (from at : ℕ) (i : InitCall) → Passes live item dest calls from at → slice_get calls at ≡ Some i → TellsMade false live item dest i
    → Passes live item dest calls from (at + 1)
one_passed live item dest calls from at i p q t g turn b by s h =
    p g turn b by s h
    ∙ ap (λ l. inits by item dest (map init_of l) s) (left_at calls at i q)
    ∙ first_by by item dest (init_of i) (map init_of (drop (at + 1) calls)) s false (sym (t g.told g.programs s.world h.stands))

-- Next calls

-- what there is at a place
pub found_inside : {A : Type 0} (xs : List A) (n : ℕ) (x : A) → slice_get xs n ≡ Some x → n < length xs
found_inside [] n x e = cc
found_inside (y ∷ ys) zero x e = omega arith
found_inside (y ∷ ys) (suc n) x e = let h : n < length ys = found_inside ys n x e in omega arith

pub inside_found : {A : Type 0} (xs : List A) (n : ℕ) → n < length xs → (x : A) × (slice_get xs n ≡ Some x)
inside_found [] n h = absurd (omega (arith, h))
inside_found (y ∷ ys) zero h = (y, refl)
inside_found (y ∷ ys) (suc n) h = inside_found ys n (omega (arith, h))

none_behind : {A : Type 0} (xs : List A) (n : ℕ) → length xs ≤ n → drop n xs ≡ []
none_behind [] zero h = refl
none_behind [] (suc n) h = refl
none_behind (y ∷ ys) zero h = absurd (omega (arith, h))
none_behind (y ∷ ys) (suc n) h = none_behind ys n (omega (arith, h))

-- a call that is made is next
pub made_next : (live : Live) (item dest : ObjId) (calls : List InitCall) (n : ℕ) (i : InitCall) → slice_get calls n ≡ Some i → TellsMade true live item dest i → live_in live.objects i.of ≡ true → IsNextMade live item dest (slice_get calls n)
made_next live item dest calls n i q t l = subst (λ o. IsNextMade live item dest o) (sym q) (λ g turn b s h. sym (t g.told g.programs s.world h.stands), l)

-- no call is next behind the last
pub none_next : (live : Live) (item dest : ObjId) (calls : List InitCall) (n : ℕ) → length calls ≤ n → IsNextMade live item dest (slice_get calls n)
none_next live item dest [] zero h = tt
none_next live item dest [] (suc n) h = tt
none_next live item dest (c ∷ cs) zero h = absurd (omega (arith, h))
none_next live item dest (c ∷ cs) (suc n) h = none_next live item dest cs n (omega (arith, h))

-- Coming to the next call

pub visits_advance : (r : Visits) (live : Live) (turn : Turn) (at : ℕ) (p : Option ObjId) → Passes live r.item r.dest r.calls.items r.done at → Advances (stages.Move (moves.Visiting r)) live turn (stages.Move (moves.Visiting (record r { done = at; back = p }))) live turn
visits_advance r live turn at p k e own g b by s h = (s, settled_here g live turn b s h, ap (λ c. and_then c (ended e)) (k g turn b by s h))

pub visits_over : (r : Visits) (live : Live) (turn : Turn) (at : ℕ) → Passes live r.item r.dest r.calls.items r.done at → length r.calls.items ≤ at → Advances (stages.Move (moves.Visiting r)) live turn stages.Zero live turn
visits_over r live turn at k le e own g b by s h = (
  s,
  settled_here g live turn b s h,
  ap (λ c. and_then c (ended e)) (k g turn b by s h ∙ ap (λ l. inits by r.item r.dest (map init_of l) s) (none_behind r.calls.items at le)),
)

pub visits_poised : (r : Visits) (live : Live) (turn : Turn) (at : ℕ) → at < length r.calls.items → IsNextMade live r.item r.dest (slice_get r.calls.items at) → IsVisitPoised (record r { done = at; back = turn.player }) live turn
visits_poised r live turn at l m =
    let f = inside_found r.calls.items at l in
    record { call = f.0; is = f.1; made = subst (λ o. IsNextMade live r.item r.dest o) f.1 m; back = refl }

-- The move

free_moves : (by : Asker) (item dest : ObjId) (s : State) → may_move s.world.places s.world.shadows item dest ≡ None
    → moving by item dest s ≡ inits by item dest (inits_of_move (moved s.world.places item dest) item dest) (record s { world = moved_world s.world item dest })
free_moves by item dest s e = ap (λ x. elim x as (λ _. Course Value) [
  | Some reason ↦ stops (Failed (plain (move_error reason))) s
  | None ↦ inits by item dest (inits_of_move (moved s.world.places item dest) item dest) (record s { world = moved_world s.world item dest })
]) e

refused_moves : (by : Asker) (item dest : ObjId) (s : State) (r : Option MoveNo) (kind : ErrorKind) → Refuses r kind → may_move s.world.places s.world.shadows item dest ≡ r → moving by item dest s ≡ stops (Failed (plain kind)) s
refused_moves by item dest s None kind k e = absurd k
refused_moves by item dest s (Some reason) kind k e = ap (λ x. elim x as (λ _. Course Value) [
  | Some reason ↦ stops (Failed (plain (move_error reason))) s
  | None ↦ inits by item dest (inits_of_move (moved s.world.places item dest) item dest) (record s { world = moved_world s.world item dest })
]) e ∙ ap (λ k. stops (Failed (plain k)) s) k

-- what a move tells of each world for which the state stood
abbrev pub TellsMoved : Live → ObjId → ObjId → Live → List InitCall → Type 0
TellsMoved live0 item dest live1 calls = (told : Option Bytes) (programs : List RawProgram) (w : World) → Stands told programs live0 w → IsMoved told programs w item dest live1 calls

pub move_advances : (r : Visits) (live0 live1 : Live) (turn : Turn) → r.done ≡ 0 → TellsMoved live0 r.item r.dest live1 r.calls.items → live1.outputs ≡ live0.outputs → Advances (stages.Move (moves.Into r.item r.dest)) live0 turn (stages.Move (moves.Visiting r)) live1 turn
move_advances r live0 live1 turn z f o e own g b by s h =
    let m = f g.told g.programs s.world h.stands in
    let t : State = record s { world = moved_world s.world r.item r.dest } in (
      t,
      record {
        at = record { stands = m.stands; left = h.left; outputs = o ∙ h.outputs; player = h.player; commands = h.commands };
        settles = record { versions = refl; shadows = λ k. k };
      },
      ap (λ c. and_then c (ended e)) (free_moves by r.item r.dest s m.may ∙ ap (λ is. inits by r.item r.dest is t) (sym m.follow ∙ ap (λ n. map init_of (drop n r.calls.items)) (sym z))),
    )

pub refusal_advances : (item dest : ObjId) (live0 live1 : Live) (turn : Turn) (fault : MoveFault) (kind : ErrorKind) → ((r : Option MoveNo) → IsRefused fault r → Refuses r kind)
    → ((told : Option Bytes) (programs : List RawProgram) (w : World) → Stands told programs live0 w → IsRefused fault (may_move w.places w.shadows item dest))
    → ((told : Option Bytes) (programs : List RawProgram) (w : World) → Stands told programs live0 w → Stands told programs live1 w) → live1.outputs ≡ live0.outputs
    → Advances (stages.Move (moves.Into item dest)) live0 turn (stages.Error kind) live1 turn
refusal_advances item dest live0 live1 turn fault kind k f st o e own g b by s h = (
  s,
  record {
    at = record { stands = st g.told g.programs s.world h.stands; left = h.left; outputs = o ∙ h.outputs; player = h.player; commands = h.commands };
    settles = still s.world;
  },
  ap (λ c. and_then c (ended e))
      (refused_moves by item dest s (may_move s.world.places s.world.shadows item dest) kind (k (may_move s.world.places s.world.shadows item dest) (f g.told g.programs s.world h.stands)) refl),
)

-- nothing changes
pub still_advances : (stage : Stage) (live : Live) (turn : Turn) → Advances stage live turn stage live turn
still_advances stage live turn e own g b by s h = (s, settled_here g live turn b s h, refl)

-- one after another
pub advance_on : (stage0 stage1 stage2 : Stage) (live0 live1 live2 : Live) (turn0 turn1 turn2 : Turn) → Advances stage0 live0 turn0 stage1 live1 turn1 → Advances stage1 live1 turn1 stage2 live2 turn2 → Advances stage0 live0 turn0 stage2 live2 turn2
advance_on stage0 stage1 stage2 live0 live1 live2 turn0 turn1 turn2 f k e own g b by s h =
    let i = f e own g b by s h in
    let j = k e own g b by i.0 i.1.at in (j.0, record { at = j.1.at; settles = onward s.world i.0.world j.0.world i.1.settles j.1.settles }, i.2 ∙ j.2)

-- what stays where the cells do
pub fit_moved : (live0 live1 : Live) (stack : List Value) → live1.cells ≡ live0.cells → IsClosed live1 → IsFit live0 stack → IsFit live1 stack
fit_moved live0 live1 stack q c h = record { closed = c; there = subst (λ (cells : Store). All (IsThere cells) stack) (sym q) h.there }

pub stay_moved : (live0 live1 : Live) → live1.cells ≡ live0.cells → KeepsThere live0.cells live1.cells
stay_moved live0 live1 q = subst (λ (cells : Store). KeepsThere live0.cells cells) (sym q) (λ v h. h)

-- Asking

-- However a question ends that was asked for another player, he is put back.
ends_behind : (e : Efun) (r : Visits) (own : List Value) (by : Asker) (p : Option ObjId) (end : End Value) → r.back ≡ p
    → and_then (and_then (Over (with_player_back p end)) (λ v s. inits by r.item r.dest (calls_behind r) s)) (ended e) ≡ stage_behind e (stages.Move (moves.Visiting r)) own by end
ends_behind e r own by p (Gives v s) q = ap (λ p. and_then (inits by r.item r.dest (calls_behind r) (record s { player = p })) (ended e)) (sym q)
ends_behind e r own by p (Stops x s) q = ap (λ p. Over (Stops x (record s { player = p }))) (sym q)

asks_behind : (e : Efun) (r : Visits) (own : List Value) (by : Asker) (what : Asked) (p : Option ObjId) (s : State) → r.back ≡ s.player
    → and_then (and_then (for_player p (λ s. ask_value what [] by s) s) (λ v s. inits by r.item r.dest (calls_behind r) s)) (ended e) ≡ in_any_case (ask_value what [] by (record s { player = p })) (stage_behind e (stages.Move (moves.Visiting r)) own by)
asks_behind e r own by what p s q =
    ap (λ f. Asks (question what [] by (record s { player = p })) f) (fun_ext (λ o. ends_behind e r own by s.player (end_of_outcome (record s { player = p }) o) q))

first_course : (e : Efun) (r : Visits) (own : List Value) (by : Asker) (call : InitCall) (s : State) → slice_get r.calls.items r.done ≡ Some call → may_init s.world r.item r.dest (init_of call) ≡ true → r.back ≡ s.player
    → stage_course e (stages.Move (moves.Visiting r)) own by s ≡ in_any_case (question_course (questions.Apply call.of applies.Init) [] by (record s { player = Some call.player })) (stage_behind e (stages.Move (moves.Visiting r)) own by)
first_course e r own by call s q m p =
    ap (λ l. and_then (inits by r.item r.dest (map init_of l) s) (ended e)) (left_at r.calls.items r.done call q)
    ∙ ap (λ c. and_then c (ended e)) (first_by by r.item r.dest (init_of call) (calls_behind r) s true m)
    ∙ asks_behind e r own by (Apply call.of (codes "init")) (Some call.player) s p

pub init_asks : (e : Efun) (r : Visits) (call : InitCall) (below : ℕ) (stack : List Value) (live : Live) (turn : Turn) (budget : ℕ) → below ≤ length stack → slice_get r.calls.items r.done ≡ Some call
    → IsNextMade live r.item r.dest (Some call) → r.back ≡ turn.player
    → StageGoes (steps.Asks (questions.Apply call.of applies.Init) 0) e (stages.Move (moves.Visiting r)) below live turn stack budget live (record turn { player = Some call.player }) stack budget
init_asks e r call below stack live turn budget le q m p low own z k =
    let inside : r.done < length r.calls.items = found_inside r.calls.items r.done call q in
    record {
      own = own;
      arguments = [];
      stack = z ∙ sym (append-nil (low ++ own));
      count = refl;
      height = refl;
      fits = (subst (λ l. below ≤ length l) z le, omega arith);
      is_asking = inside;
      with_these = tt;
      course = λ g by s h. (
        record s { player = Some call.player },
        record { at = record { stands = h.stands; left = h.left; outputs = h.outputs; player = refl; commands = h.commands }; settles = still s.world },
        first_course e r own by call s q (m.0 g turn budget s h) (p ∙ sym h.player),
      );
    }

-- Answers

-- the next call is left then
pub visit_takes : (r : Visits) (v : Value) (l : ObjId → Bool) (below : ℕ) (stack : List Value) → StageTakes (stages.Move (moves.Visiting r)) v l below stack (stages.Move (moves.Visiting (record r { done = r.done + 1 }))) stack
visit_takes r v l below stack low own q k = record { own = own; stack = q; course = λ e by s i. refl }
