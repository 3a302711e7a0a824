-- `filter` and `map`.
use Rattle.std.proofs.Common.{◌≡◌, ◌∙◌, ◌+◌, ◌-◌, ◌<◌, ◌≤◌, ◌++◌, ◌∷◌, [], ℕ, pos, Bool, true, false, List, Option, Some, None, IsSome, All, refl, ap, sym, subst, drop, length, map, slice_get, take, unwrap_or, arith, length-append, length-drop, append_assoc, append-nil, if◌then◌else◌}
use Rattle.std.proofs.lemmas.List.{take_at, drop_at, drop_all, take_all, drop-drop, length-take-le}
use Rattle.std.proofs.lemmas.List.Elements.{All-append, All-nil, All-drop, All-take}
use Rattle.lp_values.specs.declared.error.ErrorKind.TheVariants.{BadTarget}
use Rattle.lp_values.specs.Errors.{bad_arg, plain}
use Rattle.lp_values.specs.declared.id.ObjId.{ObjId}
use Rattle.lp_values.specs.declared.value.Value.{Value}
use Rattle.lp_values.specs.declared.value.Value.TheVariants as values
use Rattle.lp_values.specs.Read.{is_zero}
use Rattle.lp_cells.specs.Cells.{IsClosed as AreClosed}
use Rattle.lp_cells.specs.Cells.{IsThere, Store, as_items, with_cell}
use Rattle.lp_cells.proofs.ClosedLemmas.{items_there}
use Rattle.lp_cells.specs.declared.content.Content.{Content}
use Rattle.lp_cells.specs.declared.content.Content.TheVariants as content
use Rattle.lp_ops.specs.declared.effect.Effect.TheVariants as effects
use Rattle.lp_ops.specs.Effects.{reference}
use Rattle.lp_ops.specs.Operands.{Opened, Number, opened, operand}
use Rattle.lp_instr.specs.declared.efun.Efun.{Efun}
use Rattle.lp_instr.specs.declared.efun.Efun.TheVariants as efuns
use Rattle.lp_instr.specs.EfunList.{efun_name}
use Rattle.lp_language.specs.World.{is_live}
use Rattle.lp_language.specs.Course.{Failed, Gives, Other, Over, Scene, State, Stops, and_then, here, stops}
use Rattle.lp_language.specs.Operations.{cells_of, is_false, living, with_store}
use Rattle.lp_meaning.specs.Askers.{Asker, ask_value}
use Rattle.lp_meaning.specs.CallingEfuns.{calls, kept_item, mapped_item, object_for, over_items, per_item}
use Rattle.lp_meaning.specs.EfunArguments.{items_arg, items_in, object_in, opened_args, text_arg}
use Rattle.lp_meaning.specs.Questions.{value_end}
use Rattle.lp_world.specs.Rows.{live_in}
use Rattle.lp_world.specs.declared.live.Live.{Live}
use Rattle.lp_world.proofs.Keeping.{get_end, live_same}
use Rattle.lp_step.specs.Steps.{IsFit}
use Rattle.lp_efuns.specs.declared.answer.Answer.{Answer}
use Rattle.lp_efuns.specs.declared.answer.Answer.TheVariants as answers
use Rattle.lp_efuns.specs.declared.answer.Did.TheVariants as did
use Rattle.lp_efuns.specs.declared.caller.Caller.{Caller}
use Rattle.lp_efuns.specs.declared.caller.Turn.{Turn}
use Rattle.lp_efuns.specs.Deeds.{Gave}
use Rattle.lp_efuns.specs.Plain.{Finishes}
use Rattle.lp_efuns.specs.Subjects.{subject}
use Rattle.lp_efuns.specs.Turns.{At, IsScene, Setting}
use Rattle.lp_efuns.proofs.Acted.{effect_at}
use Rattle.lp_efuns.proofs.Called.{finishes}
use Rattle.lp_efuns.proofs.Looking.{subject_same}
use Rattle.lp_efuns.proofs.Parted.{args_same}
use Rattle.lp_calling.specs.declared.job.Begun.TheVariants as begun
use Rattle.lp_calling.specs.declared.job.Question.TheVariants as questions
use Rattle.lp_calling.specs.declared.job.Round.{Round}
use Rattle.lp_calling.specs.declared.job.Stage.TheVariants as stages
use Rattle.lp_calling.specs.declared.job.Step.TheVariants as steps
use Rattle.lp_calling.specs.Beginning.{Starts, acts}
use Rattle.lp_calling.specs.Going.{StageGoes, StageTakes}
use Rattle.lp_calling.specs.Jobs.{added, answered, ended, further, going, items_left, round_efun, taken, taken_by}
use Rattle.lp_calling.proofs.Calling.{error_starts}
use Rattle.lp_calling.proofs.Courses.{asked_on, pays_nothing, then_on}
use Rattle.lp_calling.proofs.Ending.{cut_to}
use Rattle.lp_calling.proofs.Settled.{end_settled, settled_here, value_settles}
use Rattle.lp_calling.proofs.Lists.{further_is, get_above, item_first, item_got, left_behind, left_split, part_at, part_kept, taken_grown}

-- The object

-- the third argument, or this object
for_this : (q : Option Opened) (t : Option ObjId) → elim q as (λ _. Option ObjId) [ Some x ↦ object_in (unwrap_or q (Number (pos 0))) | None ↦ t ] ≡ elim q as (λ _. Option ObjId) [ Some x ↦ object_in x | None ↦ t ]
for_this None t = refl
for_this (Some x) t = refl

object_is : (g : Setting) (live : Live) (turn : Turn) (b : ℕ) (s : State) (caller : Caller) (c : Scene) (vs : List Value) (r : Option ObjId) → At g live turn b s → IsScene caller c
    → ((cells : Store) → r ≡ subject (live_in live.objects) caller.this (map (operand (live_in live.objects) cells) vs) 2) → object_for c s (opened_args s vs) ≡ r
object_is g live turn b s caller c vs r h sc f =
    for_this (slice_get (opened_args s vs) 2) (if is_live s.world c.this then Some c.this else None) ∙ subject_same g live turn b s caller c vs 2 r h sc f

-- Beginning

-- what the parts of a course over items are
same_round : (e : Efun) (by : Asker) (s : State) (o : ObjId) (take : State → Value → Value → List Value) (n m : List ℕ) (more more' got got' xs xs' : List Value) → n ≡ m → more ≡ more' → got ≡ got' → xs ≡ xs'
    → and_then (per_item by o n more take got xs s) (ended e) ≡ and_then (per_item by o m more' take got' xs' s) (ended e)
same_round e by s o take n m more more' got got' xs xs' a b c d =
    ap (λ n. and_then (per_item by o n more take got xs s) (ended e)) a
    ∙ ap (λ l. and_then (per_item by o m l take got xs s) (ended e)) b
    ∙ ap (λ l. and_then (per_item by o m more' take l xs s) (ended e)) c
    ∙ ap (λ l. and_then (per_item by o m more' take got' l s) (ended e)) d

-- the efun goes over the items
over_begun : (f : Bool) (by : Asker) (c : Scene) (s : State) (vs : List Value) (o : ObjId) → object_for c s (opened_args s vs) ≡ Some o
    → acts (round_efun f) vs by c s ≡ and_then (per_item by o (text_arg (opened_args s vs) 1) (drop 3 vs) (taken_by f) [] (items_arg (opened_args s vs) 0) s) (ended (round_efun f))
unfolding calls
over_begun true by c s vs o e = ap (λ o. and_then (over_items efuns.Filter by kept_item vs (opened_args s vs) o s) (ended efuns.Filter)) e
over_begun false by c s vs o e = ap (λ o. and_then (over_items efuns.Map by mapped_item vs (opened_args s vs) o s) (ended efuns.Map)) e

over_nothing : (f : Bool) (by : Asker) (c : Scene) (s : State) (vs : List Value) → object_for c s (opened_args s vs) ≡ None
    → acts (round_efun f) vs by c s ≡ Over (Stops (here (Failed (bad_arg 3 (efun_name (round_efun f))))) s)
unfolding calls
over_nothing true by c s vs e = ap (λ o. and_then (over_items efuns.Filter by kept_item vs (opened_args s vs) o s) (ended efuns.Filter)) e
over_nothing false by c s vs e = ap (λ o. and_then (over_items efuns.Map by mapped_item vs (opened_args s vs) o s) (ended efuns.Map)) e

-- the items in the state are those in the meaning
items_are : (g : Setting) (live : Live) (turn : Turn) (b : ℕ) (s : State) (vs : List Value) → At g live turn b s → All (IsThere live.cells) vs
    → items_arg (map (operand (living s) live.cells) vs) 0 ≡ items_arg (opened_args s vs) 0
items_are g live turn b s vs h t = ap (λ xs. items_arg xs 0) (args_same (living s) live.cells s.world.cells vs h.stands.cells t)

pub round_starts : (f : Bool) (caller : Caller) (live : Live) (n : ℕ) (stack0 stack1 : List Value) (o : ObjId) (name : List ℕ) (arguments count : ℕ) → n ≤ length stack0 → arguments ≡ length stack0 - n
    → IsFit live stack0 → ((l : ObjId → Bool) (cells : Store) → name ≡ text_arg (map (operand l cells) (drop n stack0)) 1)
    → stack1 ≡ stack0 ++ items_arg (map (operand (live_in live.objects) live.cells) (drop n stack0)) 0
    → count ≡ length (items_arg (map (operand (live_in live.objects) live.cells) (drop n stack0)) 0)
    → ((cells : Store) → Some o ≡ subject (live_in live.objects) caller.this (map (operand (live_in live.objects) cells) (drop n stack0)) 2)
    → Starts (begun.Runs (record { efun = round_efun f; low = n; stage = stages.Items (record { object = o; function = name; arguments = arguments; count = count; done = 0; is_filter = f }) })) (round_efun f) caller live n stack0 stack1
round_starts f caller live n stack0 stack1 o name arguments count le a fit t e k ob turn b low vs q h =
    let same : drop n stack0 ≡ vs = ap (drop n) q ∙ drop_at low vs n h in
    let items : List Value = items_arg (map (operand (live_in live.objects) live.cells) vs) 0 in
    let laid : stack1 ≡ stack0 ++ items = e ∙ ap (λ ws. stack0 ++ items_arg (map (operand (live_in live.objects) live.cells) ws) 0) same in
    let total : length stack0 ≡ length low + length vs = ap length q ∙ length-append low vs in
    let size : length vs ≡ arguments = omega arith in
    let counted : length items ≡ count = sym (k ∙ ap (λ ws. length (items_arg (map (operand (live_in live.objects) live.cells) ws) 0)) same) in
    let there : All (IsThere live.cells) vs = subst (λ ws. All (IsThere live.cells) ws) same (All-drop (IsThere live.cells) n stack0 fit.there) in
    record {
      own = vs ++ items;
      stack = laid ∙ ap (λ l. l ++ items) q ∙ append_assoc low vs items;
      height = h;
      fits = (omega (arith, ap length laid, length-append stack0 items), omega arith);
      course = λ g by c s sc at. (
        s,
        settled_here g live turn b s at,
        over_begun f by c s vs o (object_is g live turn b s caller c vs (Some o) at sc (λ cells. ob cells ∙ ap (λ ws. subject (live_in live.objects) caller.this (map (operand (live_in live.objects) cells) ws) 2) same))
            ∙ same_round (round_efun f) by s o (taken_by f) (text_arg (opened_args s vs) 1) name (drop 3 vs) (drop 3 (take arguments (vs ++ items))) [] (drop count (drop arguments (vs ++ items)))
            (items_arg (opened_args s vs) 0) (take count (drop arguments (vs ++ items)))
            (sym (t (living s) (cells_of s) ∙ ap (λ ws. text_arg (opened_args s ws) 1) same))
            (ap (drop 3) (sym (take_at vs items arguments size)))
            (sym (ap (drop count) (drop_at vs items arguments size) ∙ drop_all count items (omega arith)))
            (sym (items_are g live turn b s vs at there) ∙ ap (λ l. items_arg (map (operand l live.cells) vs) 0) (sym (live_same g.told g.programs live s.world at.stands))
            ∙ sym (ap (take count) (drop_at vs items arguments size) ∙ take_all count items (omega arith))),
      );
    }

-- no object is given, and this one is not live
pub no_round_starts : (f : Bool) (caller : Caller) (live : Live) (n : ℕ) (stack0 stack1 : List Value) → stack1 ≡ take n stack0
    → ((cells : Store) → None ≡ subject (live_in live.objects) caller.this (map (operand (live_in live.objects) cells) (drop n stack0)) 2)
    → Starts (begun.Ends (answers.Error (bad_arg 3 (efun_name (round_efun f))))) (round_efun f) caller live n stack0 stack1
no_round_starts f caller live n stack0 stack1 t ob =
    error_starts (round_efun f) (bad_arg 3 (efun_name (round_efun f))) caller live n stack0 stack1 t
    (λ turn b g by c s sc h. over_nothing f by c s (drop n stack0) (object_is g live turn b s caller c (drop n stack0) None h sc ob))

-- Going on

-- the next item asks
item_asked : (e : Efun) (r : Round) (own xs : List Value) (x : Value) (by : Asker) (s : State) → is_live s.world r.object ≡ true → items_left r own ≡ x ∷ xs
    → and_then (going r (further r own) (taken r own) (items_left r own) by s) (ended e)
    ≡ and_then (ask_value (Other r.object r.function) (x ∷ further r own) by s) (λ v t. and_then (answered r (further r own) (taken r own) (items_left r own) by v t) (ended e))
item_asked e r own xs x by s l q =
    ap (λ ls. and_then (going r (further r own) (taken r own) ls by s) (ended e)) q
    ∙ ap (λ b. and_then (if b then and_then (ask_value (Other r.object r.function) (x ∷ further r own) by s) (λ v t. per_item by r.object r.function (further r own) (taken_by r.is_filter) (taken r own ++ taken_by r.is_filter t x v) xs t)
    else stops (Failed (plain BadTarget)) s) (ended e)) l
    ∙ then_on (ask_value (Other r.object r.function) (x ∷ further r own) by s) (λ v t. per_item by r.object r.function (further r own) (taken_by r.is_filter) (taken r own ++ taken_by r.is_filter t x v) xs t) (ended e)
    ∙ ap (λ ls. and_then (ask_value (Other r.object r.function) (x ∷ further r own) by s) (λ v t. and_then (answered r (further r own) (taken r own) ls by v t) (ended e))) (sym q)

item_dead : (e : Efun) (r : Round) (own xs : List Value) (x : Value) (by : Asker) (s : State) → is_live s.world r.object ≡ false → items_left r own ≡ x ∷ xs
    → and_then (going r (further r own) (taken r own) (items_left r own) by s) (ended e) ≡ Over (Stops (here (Failed (plain BadTarget))) s)
item_dead e r own xs x by s l q =
    ap (λ ls. and_then (going r (further r own) (taken r own) ls by s) (ended e)) q
    ∙ ap (λ b. and_then (if b then and_then (ask_value (Other r.object r.function) (x ∷ further r own) by s) (λ v t. per_item by r.object r.function (further r own) (taken_by r.is_filter) (taken r own ++ taken_by r.is_filter t x v) xs t)
    else stops (Failed (plain BadTarget)) s) (ended e)) l

-- how many items there are on the stack
left_size : (r : Round) (low own stack : List Value) (n : ℕ) → stack ≡ low ++ own → length low ≡ n → n + (r.arguments + r.count) ≤ length stack → r.arguments + r.count ≤ length own
left_size r low own stack n q k l = let z : length stack ≡ length low + length own = ap length q ∙ length-append low own in omega arith

next_item : (r : Round) (own : List Value) → r.arguments + r.count ≤ length own → r.done < r.count → (x : Value) × (items_left r own ≡ x ∷ drop (r.done + 1) (take r.count (drop r.arguments own)))
next_item r own l d =
    let size : length (take r.count (drop r.arguments own)) ≡ r.count = length-take-le r.count (drop r.arguments own) (omega (arith, length-drop r.arguments own)) in
    left_split (take r.count (drop r.arguments own)) r.done (omega arith)

pub item_asks : (e : Efun) (r : Round) (below n : ℕ) (stack0 stack1 : List Value) (live : Live) (turn : Turn) (budget : ℕ) → below + (r.arguments + r.count) ≤ length stack0 → r.done < r.count
    → live_in live.objects r.object ≡ true → n ≡ 1 + (r.arguments - 3)
    → stack1 ≡ stack0 ++ (take 1 (drop (below + (r.arguments + r.done)) stack0) ++ take (r.arguments - 3) (drop (below + 3) stack0))
    → StageGoes (steps.Asks (questions.Other r.object r.function) n) e (stages.Items r) below live turn stack0 budget live turn stack1 budget
item_asks e r below n stack0 stack1 live turn budget room d l c t low own q k =
    let inside : r.arguments + r.count ≤ length own = left_size r low own stack0 below q k room in
    let next = next_item r own inside d in
    let behind : (i : ℕ) → drop (below + i) stack0 ≡ drop i own = λ i. sym (drop-drop i below stack0) ∙ ap (drop i) (ap (drop below) q ∙ drop_at low own below k) in
    let first : take 1 (drop (below + (r.arguments + r.done)) stack0) ≡ next.0 ∷ [] =
    ap (take 1) (behind (r.arguments + r.done)) ∙ item_first own (drop (r.done + 1) (take r.count (drop r.arguments own))) r.arguments r.count r.done next.0 d next.1 in
    let more : take (r.arguments - 3) (drop (below + 3) stack0) ≡ further r own = ap (take (r.arguments - 3)) (behind 3) ∙ sym (further_is own r.arguments) in
    let size : length (further r own) ≡ r.arguments - 3 =
    ap length (further_is own r.arguments) ∙ length-take-le (r.arguments - 3) (drop 3 own) (omega (arith, length-drop 3 own)) in
    record {
      own = own;
      arguments = next.0 ∷ further r own;
      stack = t ∙ ap (λ x. stack0 ++ (x ++ take (r.arguments - 3) (drop (below + 3) stack0))) first ∙ ap (λ x. stack0 ++ (next.0 ∷ x)) more ∙ ap (λ s. s ++ (next.0 ∷ further r own)) q;
      count = omega arith;
      height = refl;
      fits = (omega (arith, length-append low own), omega arith);
      is_asking = d;
      with_these = tt;
      course = λ g by s h. (
        s,
        settled_here g live turn budget s h,
        item_asked e r own (drop (r.done + 1) (take r.count (drop r.arguments own))) next.0 by s (sym (ap (λ f. f r.object) (live_same g.told g.programs live s.world h.stands)) ∙ l) next.1
            ∙ asked_on e (stages.Items r) own by (ask_value (Other r.object r.function) (next.0 ∷ further r own) by s) (λ p. refl),
      );
    }

pub item_ends : (e : Efun) (r : Round) (below : ℕ) (stack0 stack1 : List Value) (live : Live) (turn : Turn) (budget : ℕ) → below + (r.arguments + r.count) ≤ length stack0 → r.done < r.count
    → live_in live.objects r.object ≡ false → stack1 ≡ take below stack0
    → StageGoes (steps.Ends (answers.Error (plain BadTarget))) e (stages.Items r) below live turn stack0 budget live turn stack1 budget
item_ends e r below stack0 stack1 live turn budget room d l t low own q k =
    let next = next_item r own (left_size r low own stack0 below q k room) d in
    record {
      stack = cut_to stack0 stack1 low own below t q k;
      course = λ g by s h. (
        Stops (here (Failed (plain BadTarget))) s,
        item_dead e r own (drop (r.done + 1) (take r.count (drop r.arguments own))) next.0 by s (sym (ap (λ f. f r.object) (live_same g.told g.programs live s.world h.stands)) ∙ l) next.1,
        (refl, settled_here g live turn budget s h),
      );
    }

-- no item is left
all_done : (e : Efun) (r : Round) (own : List Value) (by : Asker) (s : State) → items_left r own ≡ []
    → and_then (going r (further r own) (taken r own) (items_left r own) by s) (ended e)
    ≡ ended e (reference (content.Array (taken r own)) (length (cells_of s))) (with_store s (with_cell (cells_of s) (content.Array (taken r own))))
all_done e r own by s q =
    ap (λ ls. and_then (going r (further r own) (taken r own) ls by s) (ended e)) q
    ∙ ap (λ x. and_then (Over x) (ended e)) (pays_nothing (with_store s (with_cell (cells_of s) (content.Array (taken r own)))) (Gives (reference (content.Array (taken r own)) (length (cells_of s)))))

pub items_end : (e : Efun) (r : Round) (below : ℕ) (stack0 stack1 : List Value) (live : Live) (part : Store) (turn : Turn) (old new : ℕ) (v : Value) (a : Answer) → below + (r.arguments + r.count) ≤ length stack0
    → r.count ≤ r.done → stack1 ≡ take below stack0 → v ≡ values.Arr (record { 0 = length live.cells })
    → part ≡ with_cell live.cells (content.Array (drop (below + (r.arguments + r.count)) stack0)) → IsThere part v
    → Finishes e (live_in live.objects) part (did.Value v) old a new
    → StageGoes (steps.Ends a) e (stages.Items r) below live turn stack0 old (record live { cells = part }) turn stack1 new
items_end e r below stack0 stack1 live part turn old new v a room d t is made there f low own q k =
    let inside : r.arguments + r.count ≤ length own = left_size r low own stack0 below q k room in
    let size : length (take r.count (drop r.arguments own)) ≡ r.count = length-take-le r.count (drop r.arguments own) (omega (arith, length-drop r.arguments own)) in
    let none : items_left r own ≡ [] = drop_all r.done (take r.count (drop r.arguments own)) (omega arith) in
    let got : drop (below + (r.arguments + r.count)) stack0 ≡ taken r own =
    sym (drop-drop (r.arguments + r.count) below stack0) ∙ ap (drop (r.arguments + r.count)) (ap (drop below) q ∙ drop_at low own below k) ∙ sym (drop-drop r.count r.arguments own) in
    let x : Content = content.Array (taken r own) in
    let made_so : part ≡ with_cell live.cells x = made ∙ ap (λ l. with_cell live.cells (content.Array l)) got in
    record {
      stack = cut_to stack0 stack1 low own below t q k;
      course = λ g by s h. (
        value_end e (reference x (length (cells_of s))) (with_store s (with_cell (cells_of s) x)),
        all_done e r own by s none,
        end_settled s.world g (record live { cells = part }) turn new a (value_end e (reference x (length (cells_of s))) (with_store s (with_cell (cells_of s) x)))
            (finishes g (record live { cells = part }) turn old new e (did.Value v) a (Gave (reference x (length (cells_of s))) (with_store s (with_cell (cells_of s) x)))
            (effect_at g live turn old s (effects.Makes x) (did.Value v) part h (ap did.Value is, made_so)) there f)
            (value_settles s.world e (reference x (length (cells_of s))) (with_store s (with_cell (cells_of s) x)) (record { versions = refl; shadows = λ l. l })),
      );
    }

-- a new array is there
pub array_there : (cells part : Store) (vs : List Value) (v : Value) → part ≡ with_cell cells (content.Array vs) → v ≡ values.Arr (record { 0 = length cells }) → IsThere part v
array_there cells part vs v e q =
    subst (λ w. IsThere part w) (sym q) (subst (λ p. IsThere p (values.Arr (record { 0 = length cells }))) (sym e)
    (subst (λ o. IsSome (as_items (unwrap_or o None))) (sym (get_end cells (Some (content.Array vs)))) refl))

-- Answers

-- what an answer adds
added_so : (f : Bool) (s : State) (l : ObjId → Bool) (x v : Value) → living s ≡ l → taken_by f s x v ≡ added f l x v
unfolding is_false
added_so true s l x v e = ap (λ l. added true l x v) e
added_so false s l x v e = refl

answer_taken : (e : Efun) (r : Round) (own xs new : List Value) (x v : Value) (by : Asker) (s : State) → r.arguments + r.count ≤ length own → items_left r own ≡ x ∷ xs → new ≡ taken_by r.is_filter s x v
    → and_then (answered r (further r own) (taken r own) (items_left r own) by v s) (ended e)
    ≡ and_then (per_item by r.object r.function (drop 3 (take r.arguments (own ++ new))) (taken_by r.is_filter) (drop r.count (drop r.arguments (own ++ new))) (drop (r.done + 1) (take r.count (drop r.arguments (own ++ new)))) s) (ended e)
answer_taken e r own xs new x v by s l q n =
    ap (λ ls. and_then (answered r (further r own) (taken r own) ls by v s) (ended e)) q
    ∙ same_round e by s r.object (taken_by r.is_filter) r.function r.function (further r own) (drop 3 (take r.arguments (own ++ new))) (taken r own ++ taken_by r.is_filter s x v) (drop r.count (drop r.arguments (own ++ new)))
    xs (drop (r.done + 1) (take r.count (drop r.arguments (own ++ new))))
    refl (ap (drop 3) (sym (part_front own new r.arguments l))) (ap (λ t. taken r own ++ t) (sym n) ∙ sym (taken_grown own new r.arguments r.count l)) (sym (left_behind own new xs r.arguments r.count r.done x l q))
  where
    part_front : (own new : List Value) (a : ℕ) → a + r.count ≤ length own → take a (own ++ new) ≡ take a own
    part_front own new a l = part_kept own new 0 a (omega arith)

pub item_takes : (r : Round) (v : Value) (l : ObjId → Bool) (below : ℕ) (stack0 stack1 : List Value) → below + (r.arguments + r.count) ≤ length stack0 → r.done < r.count
    → ((x : Value) → slice_get stack0 (below + (r.arguments + r.done)) ≡ Some x → stack1 ≡ stack0 ++ added r.is_filter l x v)
    → StageTakes (stages.Items r) v l below stack0 (stages.Items (record r { done = r.done + 1 })) stack1
item_takes r v l below stack0 stack1 room d f low own q k =
    let inside : r.arguments + r.count ≤ length own = left_size r low own stack0 below q k room in
    let next = next_item r own inside d in
    let at : slice_get stack0 (below + (r.arguments + r.done)) ≡ Some next.0 =
    ap (λ s. slice_get s (below + (r.arguments + r.done))) q ∙ get_above low own below (r.arguments + r.done) k
    ∙ item_got own (drop (r.done + 1) (take r.count (drop r.arguments own))) r.arguments r.count r.done next.0 d next.1 in
    record {
      own = own ++ added r.is_filter l next.0 v;
      stack = f next.0 at ∙ ap (λ s. s ++ added r.is_filter l next.0 v) q ∙ append_assoc low own (added r.is_filter l next.0 v);
      course = λ e by s i. answer_taken e r own (drop (r.done + 1) (take r.count (drop r.arguments own))) (added r.is_filter l next.0 v) next.0 v by s inside next.1 (sym (added_so r.is_filter s l next.0 v i));
    }

-- the state stays fit
pub fit_more : (live : Live) (stack0 more stack1 : List Value) → stack1 ≡ stack0 ++ more → All (IsThere live.cells) more → IsFit live stack0 → IsFit live stack1
fit_more live stack0 more stack1 e t h = subst (λ s. IsFit live s) (sym e) (record { closed = h.closed; there = All-append (IsThere live.cells) stack0 more h.there t })

-- a part of the stack is there
pub part_there : (live : Live) (stack : List Value) (k m : ℕ) → IsFit live stack → All (IsThere live.cells) (take m (drop k stack))
part_there live stack k m h = All-take (IsThere live.cells) m (drop k stack) (All-drop (IsThere live.cells) k stack h.there)

pub question_there : (live : Live) (stack0 stack1 : List Value) (k m j i : ℕ) → stack1 ≡ stack0 ++ (take m (drop k stack0) ++ take i (drop j stack0)) → IsFit live stack0 → IsFit live stack1
question_there live stack0 stack1 k m j i e h =
    fit_more live stack0 (take m (drop k stack0) ++ take i (drop j stack0)) stack1 e (All-append (IsThere live.cells) (take m (drop k stack0)) (take i (drop j stack0)) (part_there live stack0 k m h) (part_there live stack0 j i h)) h

-- the items of an array that is there are there
pub items_held : (l : ObjId → Bool) (cells : Store) (v : Value) → AreClosed cells → All (IsThere cells) (items_in (opened l cells v))
items_held l cells (values.Int n) c = All-nil (IsThere cells)
items_held l cells (values.Str t) c = All-nil (IsThere cells)
items_held l cells (values.Arr d) c = items_there cells d c
items_held l cells (values.Map d) c = All-nil (IsThere cells)
items_held l cells (values.Obj o) c = All-nil (IsThere cells)

-- Answers that are laid on the stack

pub laid_zero : (l : ObjId → Bool) (stack : List Value) (x v : Value) → is_zero l v ≡ true → stack ≡ stack ++ added true l x v
laid_zero l stack x v e = sym (append-nil stack) ∙ ap (λ b. stack ++ (if b then [] else x ∷ [])) (sym e)

pub laid_item : (l : ObjId → Bool) (stack0 stack1 : List Value) (at : ℕ) (x v : Value) → is_zero l v ≡ false → slice_get stack0 at ≡ Some x → stack1 ≡ stack0 ++ take (at + 1 - at) (drop at stack0) → stack1 ≡ stack0 ++ added true l x v
laid_item l stack0 stack1 at x v z e t = t ∙ ap (λ p. stack0 ++ p) (part_at stack0 at x e) ∙ ap (λ b. stack0 ++ (if b then [] else x ∷ [])) (sym z)

pub fit_part : (live : Live) (stack0 stack1 : List Value) (at : ℕ) → stack1 ≡ stack0 ++ take (at + 1 - at) (drop at stack0) → IsFit live stack0 → IsFit live stack1
fit_part live stack0 stack1 at e h = fit_more live stack0 (take (at + 1 - at) (drop at stack0)) stack1 e (part_there live stack0 at (at + 1 - at) h) h
