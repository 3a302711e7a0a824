-- What `write` and `printf` write.
use Rattle.std.proofs.Common.{◌≡◌, ◌∙◌, ◌++◌, ◌∷◌, [], ℕ, zero, suc, Bool, true, false, List, None, Result, Ok, Err, All, refl, ap, sym, subst, drop, length, map, take, ◌≤◌, if◌then◌else◌}
use Rattle.std.proofs.lemmas.List.{drop_at}
use Rattle.std.proofs.lemmas.List.Elements.{All-drop, All-weaker}
use Rattle.lp_values.specs.declared.id.CellId.{CellId}
use Rattle.lp_values.specs.declared.id.ObjId.{ObjId}
use Rattle.lp_values.specs.declared.error.RunError.{RunError}
use Rattle.lp_values.specs.declared.value.Value.{Value}
use Rattle.lp_values.specs.declared.value.Value.TheVariants as values
use Rattle.lp_cells.specs.Cells.{IsClosed, IsThere, Store, items_of, stored_pairs}
use Rattle.lp_cells.specs.Mapping.{pairs_there}
use Rattle.lp_format.specs.Forms.{pieces}
use Rattle.lp_format.specs.Formatted.{formatted}
use Rattle.lp_format.specs.Spelled.{array_spelled, deepest, hidden, is_among, mapping_spelled, object_spelled, object_text, pair_spelled, spelled, spelled_within}
use Rattle.lp_ops.specs.declared.effect.Effect.{Effect}
use Rattle.lp_ops.specs.declared.effect.Effect.TheVariants as effects
use Rattle.lp_ops.specs.Operands.{opened, operand}
use Rattle.lp_ops.specs.Operators.{text}
use Rattle.lp_instr.specs.declared.efun.Efun.TheVariants as efuns
use Rattle.lp_language.specs.Course.{Gives, Over, State, and_then}
use Rattle.lp_language.specs.Operations.{cells_of, finished, living}
use Rattle.lp_meaning.specs.CallingEfuns.{calls, formatted_text, write_text}
use Rattle.lp_meaning.specs.ComputingEfuns as meant
use Rattle.lp_meaning.specs.ComputingEfuns.{as_text, format, name_in}
use Rattle.lp_meaning.specs.EfunArguments.{arg, opened_args, text_arg}
use Rattle.lp_value_efuns.specs.Computed.{Named, written}
use Rattle.lp_value_efuns.proofs.MeaningLemmas.{CallAlike, alike, meaning}
use Rattle.lp_world.specs.Rows.{live_in}
use Rattle.lp_world.specs.Stands.{IsPart}
use Rattle.lp_world.specs.declared.live.Live.{Live}
use Rattle.lp_world.proofs.Keeping.{live_same}
use Rattle.lp_efuns.specs.Names.{name_at}
use Rattle.lp_efuns.specs.declared.answer.Answer.TheVariants as answers
use Rattle.lp_efuns.specs.declared.caller.Caller.{Caller}
use Rattle.lp_efuns.specs.declared.caller.Turn.{Turn}
use Rattle.lp_efuns.specs.Turns.{At, Setting}
use Rattle.lp_efuns.proofs.Formatted.{formatted_same, spelled_same}
use Rattle.lp_efuns.proofs.KnownNames.{name_known}
use Rattle.lp_calling.specs.declared.job.Begun.TheVariants as begun
use Rattle.lp_calling.specs.declared.job.Stage.TheVariants as stages
use Rattle.lp_calling.specs.Beginning.{Starts}
use Rattle.lp_calling.specs.Jobs.{ended}
use Rattle.lp_calling.specs.Targets.{Prints}
use Rattle.lp_calling.proofs.Calling.{error_starts}
use Rattle.lp_calling.proofs.Courses.{pays_nothing}
use Rattle.lp_calling.proofs.Settled.{settled_here}

-- Written values

-- the text that an effect gives
text_of : Effect → List ℕ
text_of (effects.Gives (values.Str t)) = t
text_of _ = []

-- what is written of an argument on the state is what is written of it in the meaning
pub written_is : (l : ObjId → Bool) (name : Named) (vs : List Value) (v : Value) (t : List ℕ) (e : Effect) → ((cells : Store) → opened l cells v ≡ arg (map (operand l cells) vs) 0)
    → ((k : ObjId → Bool) (cells : Store) → e ≡ text (written name (opened k cells v))) → e ≡ effects.Gives (values.Str t)
    → (s : State) → living s ≡ l → ((o : ObjId) → l o ≡ true → name_in s.world o ≡ name o) → t ≡ meant.written s.world (arg (opened_args s vs) 0)
unfolding text_of
written_is l name vs v t e a w q s i h =
    let same : CallAlike l name (name_in s.world) = λ o k. sym (h o k) in
    ap text_of (sym q ∙ w l (cells_of s) ∙ ap (λ x. text (written name x)) (a (cells_of s)) ∙ alike efuns.ToString l name (name_in s.world) (cells_of s) vs same
    ∙ ap (λ k. text (written (name_in s.world) (arg (map (operand k (cells_of s)) vs) 0))) (sym i) ∙ sym (meaning efuns.ToString s vs (opened_args s vs)))

pub write_starts : (caller : Caller) (live : Live) (n : ℕ) (stack : List Value) (t : List ℕ) → n ≤ length stack
    → ((s : State) → living s ≡ live_in live.objects → ((o : ObjId) → live_in live.objects o ≡ true → name_in s.world o ≡ name_at live.names o) → t ≡ meant.written s.world (arg (opened_args s (drop n stack)) 0))
    → Starts (begun.Runs (record { efun = efuns.Write; low = n; stage = stages.Write t })) efuns.Write caller live n stack stack
unfolding calls
write_starts caller live n stack t le f turn b low vs q k =
    let same : drop n stack ≡ vs = ap (drop n) q ∙ drop_at low vs n k in
    record {
      own = vs;
      stack = q;
      height = k;
      fits = le;
      course = λ g by c s sc h. (
        s,
        settled_here g live turn b s h,
        ap (λ t. and_then (write_text by t s) (ended efuns.Write))
            (sym (f s (sym (live_same g.told g.programs live s.world h.stands)) (name_known g.told g.programs live s.world h.stands) ∙ ap (λ ws. meant.written s.world (arg (opened_args s ws) 0)) same)),
      );
    }

-- Forms

object_alike : (l : ObjId → Bool) (name other : Named) → CallAlike l name other → (o : ObjId) → object_spelled l name o ≡ object_spelled l other o
object_alike l name other h o = by (l o) refl
  where
    by : (b : Bool) → l o ≡ b → object_text (if b then name o else None) ≡ object_text (if b then other o else None)
    by true q = ap object_text (h o q)
    by false q = refl

spelled_alike : (l : ObjId → Bool) (name other : Named) (cells : Store) → CallAlike l name other → (n : ℕ) (path : List CellId) (v : Value) → spelled_within l name cells n path v ≡ spelled_within l other cells n path v
spelled_alike l name other cells h n path (values.Int z) = refl
spelled_alike l name other cells h n path (values.Str s) = refl
spelled_alike l name other cells h n path (values.Obj o) = object_alike l name other h o
spelled_alike l name other cells h zero path (values.Arr c) = refl
spelled_alike l name other cells h (suc n) path (values.Arr c) = λ i. if is_among c path then hidden else array_spelled (map (λ v. spelled_alike l name other cells h n (path ++ c ∷ []) v i) (items_of cells c))
spelled_alike l name other cells h zero path (values.Map c) = refl
spelled_alike l name other cells h (suc n) path (values.Map c) = λ i. if is_among c path then hidden else mapping_spelled (map (pair_spelled (λ v. spelled_alike l name other cells h n (path ++ c ∷ []) v i)) (pairs_there l (stored_pairs cells c)))

-- what a form makes of its arguments on the state is what it makes in the meaning
form_same : (l : ObjId → Bool) (name other : Named) (part whole : Store) (vs : List Value) (form : List ℕ) → CallAlike l name other → IsPart part whole → IsClosed part → All (IsThere part) vs
    → formatted l (spelled l name part) vs (pieces form) ≡ formatted l (spelled l other whole) vs (pieces form)
form_same l name other part whole vs form h p c t =
    formatted_same l (spelled l name part) (spelled l other whole) vs
    (All-weaker (IsThere part) (λ v. spelled l name part v ≡ spelled l other whole v) (λ v i. spelled_same l name part whole p c deepest [] v i ∙ spelled_alike l name other whole h deepest [] v) vs t) form

form_means : (l : ObjId → Bool) (name : Named) (part : Store) (vs : List Value) (form : List ℕ) → IsClosed part → All (IsThere part) vs → ((cells : Store) → form ≡ text_arg (map (operand l cells) vs) 0)
    → (s : State) → IsPart part s.world.cells → living s ≡ l → ((o : ObjId) → l o ≡ true → name_in s.world o ≡ name o)
    → formatted (living s) (spelled (living s) (name_in s.world) (cells_of s)) (drop 1 vs) (pieces (text_arg (opened_args s vs) 0)) ≡ formatted l (spelled l name part) (drop 1 vs) (pieces form)
form_means l name part vs form c there f s p i h =
    ap (λ k. formatted k (spelled k (name_in s.world) (cells_of s)) (drop 1 vs) (pieces (text_arg (map (operand k (cells_of s)) vs) 0))) i
    ∙ ap (λ t. formatted l (spelled l (name_in s.world) (cells_of s)) (drop 1 vs) (pieces t)) (sym (f (cells_of s)))
    ∙ sym (form_same l name (name_in s.world) part (cells_of s) (drop 1 vs) form (λ o k. sym (h o k)) p c (All-drop (IsThere part) 1 vs there))

-- a text
pub printed_text : (l : ObjId → Bool) (name : Named) (part : Store) (vs : List Value) (form t : List ℕ) → IsClosed part → All (IsThere part) vs → ((cells : Store) → form ≡ text_arg (map (operand l cells) vs) 0)
    → formatted l (spelled l name part) (drop 1 vs) (pieces form) ≡ Ok t
    → (s : State) → IsPart part s.world.cells → living s ≡ l → ((o : ObjId) → l o ≡ true → name_in s.world o ≡ name o) → Prints (Ok t) (format efuns.Printf s (text_arg (opened_args s vs) 0) (drop 1 vs))
printed_text l name part vs form t c there f w s p i h = ap (as_text efuns.Printf) (form_means l name part vs form c there f s p i h ∙ w)

-- an error
pub printed_error : (l : ObjId → Bool) (name : Named) (part : Store) (vs : List Value) (form : List ℕ) (x : RunError) → IsClosed part → All (IsThere part) vs → ((cells : Store) → form ≡ text_arg (map (operand l cells) vs) 0)
    → as_text efuns.Printf (formatted l (spelled l name part) (drop 1 vs) (pieces form)) ≡ effects.Fault x
    → (s : State) → IsPart part s.world.cells → living s ≡ l → ((o : ObjId) → l o ≡ true → name_in s.world o ≡ name o) → Prints (Err x) (format efuns.Printf s (text_arg (opened_args s vs) 0) (drop 1 vs))
printed_error l name part vs form x c there f w s p i h = ap (as_text efuns.Printf) (form_means l name part vs form c there f s p i h) ∙ w

-- what `printf` makes of its arguments, in each state for which the live state stands
abbrev pub Printed : Live → List Value → Result (List ℕ) RunError → Type 0
Printed live vs r =
    (s : State) → IsPart live.cells s.world.cells → living s ≡ live_in live.objects → ((o : ObjId) → live_in live.objects o ≡ true → name_in s.world o ≡ name_at live.names o)
    → Prints r (format efuns.Printf s (text_arg (opened_args s vs) 0) (drop 1 vs))

prints_at : (g : Setting) (live : Live) (turn : Turn) (b : ℕ) (s : State) (n : ℕ) (stack vs : List Value) (r : Result (List ℕ) RunError) → drop n stack ≡ vs → At g live turn b s → Printed live (drop n stack) r
    → Prints r (format efuns.Printf s (text_arg (opened_args s vs) 0) (drop 1 vs))
prints_at g live turn b s n stack vs r same h f =
    subst (λ ws. Prints r (format efuns.Printf s (text_arg (opened_args s ws) 0) (drop 1 ws))) same
    (f s h.stands.cells (sym (live_same g.told g.programs live s.world h.stands)) (name_known g.told g.programs live s.world h.stands))

pub printf_starts : (caller : Caller) (live : Live) (n : ℕ) (stack : List Value) (t : List ℕ) → n ≤ length stack → Printed live (drop n stack) (Ok t)
    → Starts (begun.Runs (record { efun = efuns.Printf; low = n; stage = stages.Write t })) efuns.Printf caller live n stack stack
unfolding calls
printf_starts caller live n stack t le f turn b low vs q k =
    let same : drop n stack ≡ vs = ap (drop n) q ∙ drop_at low vs n k in
    record {
      own = vs;
      stack = q;
      height = k;
      fits = le;
      course = λ g by c s sc h. (
        s,
        settled_here g live turn b s h,
        ap (λ e. and_then (and_then (Over (finished 0 e s)) (λ v s. write_text by (formatted_text v) s)) (ended efuns.Printf)) (prints_at g live turn b s n stack vs (Ok t) same h f)
            ∙ ap (λ e. and_then (and_then (Over e) (λ v s. write_text by (formatted_text v) s)) (ended efuns.Printf)) (pays_nothing s (Gives (values.Str t))),
      );
    }

pub no_printf_starts : (caller : Caller) (live : Live) (n : ℕ) (stack0 stack1 : List Value) (x : RunError) → stack1 ≡ take n stack0 → Printed live (drop n stack0) (Err x)
    → Starts (begun.Ends (answers.Error x)) efuns.Printf caller live n stack0 stack1
unfolding calls
no_printf_starts caller live n stack0 stack1 x t f =
    error_starts efuns.Printf x caller live n stack0 stack1 t
    (λ turn b g by c s sc h. ap (λ e. and_then (and_then (Over (finished 0 e s)) (λ v s. write_text by (formatted_text v) s)) (ended efuns.Printf)) (prints_at g live turn b s n stack0 (drop n stack0) (Err x) refl h f))
