-- What follows a load, and the price of a clone.
use Rattle.std.proofs.Common.{◌≡◌, ◌∙◌, ℕ, arith, sym, ap, subst, Bool, false, List, Option, Some, None, inl, inr, nat_lt}
use Rattle.std.specs.Prelude.{◌-◌, if◌then◌else◌, map}
use Rattle.std.proofs.lemmas.Bool.{cases_Bool, ltb-true}
use Rattle.std.specs.Str.{chars}
use Rattle.std.specs.String.{string_bytes}
use Rattle.std.specs.declared.string.String.{String}
use Rattle.lp_values.specs.declared.id.ObjId.{ObjId}
use Rattle.lp_values.specs.declared.value.Value.{Value}
use Rattle.lp_values.specs.declared.error.ErrorKind.TheVariants.{BadTarget}
use Rattle.lp_values.specs.Errors.{plain}
use Rattle.lp_swapfile.specs.Device.{Bytes}
use Rattle.lp_language.specs.World.{object_named}
use Rattle.lp_language.specs.Course.{Course, End, Failed, Gives, IsFaulty, IsSound, Over, Plain, Spent, State, Stops, WasRead, and_then, here, stops}
use Rattle.lp_meaning.specs.Askers.{Asker}
use Rattle.lp_meaning.specs.WorldSteps.{is_clone_name}
use Rattle.lp_meaning.specs.FileLoads.{clone_of, cloning, live_object, load_value}
use Rattle.lp_world.specs.declared.live.Live.{Live}
use Rattle.lp_world.specs.Rows.{live_in}
use Rattle.lp_world.specs.Stands.{named_of}
use Rattle.lp_world.proofs.Keeping.{live_same}
use Rattle.lp_objects.specs.Objects as named
use Rattle.lp_making.proofs.NewObject.{same_named}
use Rattle.lp_efuns.specs.declared.caller.Turn.{Turn}
use Rattle.lp_efuns.specs.Turns.{Setting}
use Rattle.lp_asking.specs.declared.ending.Ending.{Ending}
use Rattle.lp_beginning.specs.Beginning.{Fits}
use Rattle.lp_beginning.specs.Ends.{IsValueEnd, state_at}
use Rattle.lp_cloning.specs.declared.job.Answered.{Answered}
use Rattle.lp_cloning.specs.declared.job.Answered.TheVariants as answers
use Rattle.lp_cloning.specs.declared.job.Begun.{Begun}
use Rattle.lp_cloning.specs.declared.job.Begun.TheVariants as begun
use Rattle.lp_cloning.specs.declared.job.Cloning.{Cloning}
use Rattle.lp_cloning.specs.declared.job.Cloning.TheVariants as stages
use Rattle.lp_cloning.specs.Beginning.{Asked, BeginsWith, Continues, Feeds, IsOverAt, StartsAs, StartsWith, holds_behind}
use Rattle.lp_cloning.specs.Feeding.{live_in_value}
use Rattle.lp_cloning.specs.Jobs.{clone_loaded, ended, stage_rest}

-- The price of a clone is paid before.

none_less : (n : ℕ) → nat_lt n 0 ≡ false
none_less n = elim (cases_Bool (nat_lt n 0)) [
  | inl t ↦ let l = ltb-true n 0 t in absurd (omega (arith, l))
  | inr f ↦ f
]

pub value_free : (v : Value) (s : State) → ended v s ≡ Over (Gives v s)
value_free v s =
    ap (λ (b : Bool). Over (if b then spent s else Gives v (record s { budget = s.budget - 0 }))) (none_less s.budget)
    ∙ ap (λ n. Over (Gives v (record s { budget = n }))) (let z : s.budget - 0 ≡ s.budget = omega arith in z)
  where
    spent : State → End Value
    spent s = Stops (here Spent) (record s { budget = 0 })

priced_over : (g : Setting) (live : Live) (turn : Turn) (budget : ℕ) (e : Ending) (c : Course Value) (end : End Value) → c ≡ Over end → IsValueEnd g.programs e end → Fits g live turn budget (state_at end) → IsOverAt g live turn budget e (and_then c ended)
priced_over g live turn budget e c (Gives v s) o i f = record { end = Gives v s; over = ap (λ x. and_then x ended) o ∙ value_free v s; is = i; fits = f }
priced_over g live turn budget e c (Stops x s) o i f = record { end = Stops x s; over = ap (λ x. and_then x ended) o; is = i; fits = f }

pub with_price : (holds : Cloning → State → Type 0) (r : Begun) (a : Asked) (told : Option Bytes) (live0 live1 : Live) (budget : ℕ) → StartsWith holds r a told live0 live1 → BeginsWith holds r (λ by s. and_then (a by s) ended) told live0 budget live1 budget
with_price holds (begun.Ends e) a told live0 live1 budget h = λ g by turn s q f.
    let x = h budget g by turn s q f in priced_over g live1 turn budget e (a by s) x.end x.over x.is x.fits
with_price holds (begun.Runs job) a told live0 live1 budget h = λ g by turn s q f.
    let x = h budget g by turn s q f in (x.0, x.1, ap (λ c. and_then c ended) x.2, x.3)

pub feeds_of : (r : Begun) (job : Cloning) (answer : Answered) (told : Option Bytes) (live0 live1 : Live) → Continues r job answer told live0 live1 → Feeds r job answer told live0 live1
feeds_of r job answer told live0 live1 h = λ budget reply i. with_price (holds_behind job) r (λ by s. stage_rest job by reply s) told live0 live1 budget (h reply i)

-- A load gave a value.

pub value_continues : (r : Begun) (name : String _) (text : List ℕ) (v : Value) (told : Option Bytes) (live0 live1 : Live) → text ≡ string_bytes name → StartsAs r (λ by s. clone_loaded by (chars text) v s) told live0 live1
    → Continues r (stages.Load name) (answers.Value v) told live0 live1
value_continues r name text v told live0 live1 e h (Plain u) i =
    subst (λ z. StartsAs r (λ by s. clone_loaded by (chars (string_bytes name)) z s) told live0 live1) i (subst (λ t. StartsAs r (λ by s. clone_loaded by (chars t) v s) told live0 live1) e h)
value_continues r name text v told live0 live1 e h (WasRead items pragmas) i = absurd i
value_continues r name text v told live0 live1 e h IsSound i = absurd i
value_continues r name text v told live0 live1 e h (IsFaulty faults) i = absurd i

live_object_is : (g : Setting) (live : Live) (turn : Turn) (budget : ℕ) (s : State) (v : Value) (o : Option ObjId) → Fits g live turn budget s → o ≡ live_in_value (live_in live.objects) v → live_object s.world v ≡ o
live_object_is g live turn budget s v o f e = ap (λ l. live_in_value l v) (sym (live_same g.told g.programs live s.world f.world.stands)) ∙ sym e

pub loaded_some : (g : Setting) (live : Live) (turn : Turn) (budget : ℕ) (s : State) (name : List ℕ) (v : Value) (o : ObjId) (by : Asker) → Fits g live turn budget s → Some o ≡ live_in_value (live_in live.objects) v → clone_loaded by name v s ≡ cloning by name o s
loaded_some g live turn budget s name v o by f e = ap (target by name s) (live_object_is g live turn budget s v (Some o) f e)
  where
    target : Asker → List ℕ → State → Option ObjId → Course Value
    target by name s x = elim x [ Some o ↦ cloning by name o s | None ↦ stops (Failed (plain BadTarget)) s ]

pub loaded_none : (g : Setting) (live : Live) (turn : Turn) (budget : ℕ) (s : State) (name : List ℕ) (v : Value) (by : Asker) → Fits g live turn budget s → None ≡ live_in_value (live_in live.objects) v → clone_loaded by name v s ≡ stops (Failed (plain BadTarget)) s
loaded_none g live turn budget s name v by f e = ap (target by name s) (live_object_is g live turn budget s v None f e)
  where
    target : Asker → List ℕ → State → Option ObjId → Course Value
    target by name s x = elim x [ Some o ↦ cloning by name o s | None ↦ stops (Failed (plain BadTarget)) s ]

-- A name

abbrev found_course : Asker → List ℕ → State → Option ObjId → Course Value
found_course by name s x = elim x [ Some o ↦ cloning by name o s | None ↦ and_then (load_value by name s) (clone_loaded by name) ]

named_course : (by : Asker) (name : List ℕ) (s : State) (x : Option ObjId) → is_clone_name name ≡ false → object_named s.world name ≡ x → clone_of by name s ≡ found_course by name s x
named_course by name s x c e = ap (λ (b : Bool). if b then no_target s else found_course by name s (object_named s.world name)) c ∙ ap (found_course by name s) e
  where
    no_target : State → Course Value
    no_target s = stops (Failed (plain BadTarget)) s

named_is : (g : Setting) (live : Live) (turn : Turn) (budget : ℕ) (s : State) (name : List ℕ) (x : Option ObjId) → Fits g live turn budget s → x ≡ named.object_named (map named_of s.world.objects) name → object_named s.world name ≡ x
named_is g live turn budget s name x f e = sym (same_named s.world name) ∙ sym e

pub clone_found : (g : Setting) (live : Live) (turn : Turn) (budget : ℕ) (s : State) (name : List ℕ) (o : ObjId) (by : Asker) → is_clone_name name ≡ false → Fits g live turn budget s → Some o ≡ named.object_named (map named_of s.world.objects) name
    → clone_of by name s ≡ cloning by name o s
clone_found g live turn budget s name o by c f e = named_course by name s (Some o) c (named_is g live turn budget s name (Some o) f e)

pub clone_lost : (g : Setting) (live : Live) (turn : Turn) (budget : ℕ) (s : State) (name : List ℕ) (by : Asker) → is_clone_name name ≡ false → Fits g live turn budget s → None ≡ named.object_named (map named_of s.world.objects) name
    → clone_of by name s ≡ and_then (load_value by name s) (clone_loaded by name)
clone_lost g live turn budget s name by c f e = named_course by name s None c (named_is g live turn budget s name None f e)
