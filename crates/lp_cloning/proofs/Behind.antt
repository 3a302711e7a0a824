-- What follows the load of a blueprint, and the end of a clone.
use Rattle.std.proofs.Common.{◌≡◌, ◌∙◌, ◌++◌, ◌∷◌, [], ℕ, List, Option, refl, ap, sym, subst}
use Rattle.lp_values.specs.declared.value.Value.{Value}
use Rattle.lp_swapfile.specs.Device.{Bytes}
use Rattle.lp_language.specs.Course.{Asks, AreCalled, Course, End, Entry, Fits, Gives, IsFaulty, IsSound, Over, Plain, State, Stops, WasRead, and_then}
use Rattle.lp_meaning.specs.Askers.{Asker}
use Rattle.lp_meaning.specs.Closing.{Ends}
use Rattle.lp_meaning.specs.FileLoads.{load_value, object_reply}
use Rattle.lp_meaning.specs.FrontEnd.{FrontEnd, IsTold}
use Rattle.lp_meaning.specs.Questions.{means}
use Rattle.lp_world.specs.declared.live.Live.{Live}
use Rattle.lp_asking.specs.declared.ending.Ending.{Ending}
use Rattle.lp_asking.specs.declared.ending.Ending.TheVariants as endings
use Rattle.lp_asking.specs.declared.ending.Stop.{Stop}
use Rattle.lp_asking.proofs.Courses.{over_ends}
use Rattle.lp_cloning.specs.declared.job.Begun.{Begun}
use Rattle.lp_cloning.specs.declared.job.Begun.TheVariants as begun
use Rattle.lp_cloning.specs.Beginning.{IsAtBeginning, IsOverAt, StartsAs}
use Rattle.lp_cloning.specs.Feeding.{ClonedAs, LeadsTo, LoadedAs, LoadsThrough, loaded_rest}
use Rattle.lp_cloning.specs.Jobs.{clone_loaded, ended}
use Rattle.lp_cloning.proofs.Told.{value_free, with_price}

-- Two courses behind another one

abbrev through : {A B C : Type 0} → (A → State → Course B) → (B → State → Course C) → End A → Course C
through first second (Gives x s) = and_then (first x s) second
through first second (Stops x s) = Over (Stops x s)

over_through : {A B C : Type 0} (first : A → State → Course B) (second : B → State → Course C) (e : End A) → and_then (and_then (Over e) first) second ≡ through first second e
over_through first second (Gives x s) = refl
over_through first second (Stops x s) = refl

fits_through : {A B C : Type 0} (c : Course A) (first : A → State → Course B) (second : B → State → Course C) (xs ys : List Entry) (e : End A) (f : End C) → Fits c xs e → Fits (through first second e) ys f
    → Fits (and_then (and_then c first) second) (xs ++ ys) f
fits_through (Over x) first second [] ys e f h j = subst (λ z. Fits z ys f) (sym (over_through first second x ∙ ap (through first second) h)) j
fits_through (Over x) first second (c ∷ cs) ys e f h j = absurd h
fits_through (Asks a k) first second [] ys e f h j = absurd h
fits_through (Asks a k) first second (c ∷ cs) ys e f h j = (h.0, h.1, fits_through (k c.outcome) first second cs ys e f h.2 j)

both_called : (front : FrontEnd) (xs ys : List Entry) → AreCalled means (IsTold front) xs → AreCalled means (IsTold front) ys → AreCalled means (IsTold front) (xs ++ ys)
both_called front [] ys h k = k
both_called front (x ∷ xs) ys h k = (h.0, both_called front xs ys h.1 k)

through_ends : {A B C : Type 0} (front : FrontEnd) (c : Course A) (first : A → State → Course B) (second : B → State → Course C) (e : End A) (f : End C) → Ends front c e → Ends front (through first second e) f → Ends front (and_then (and_then c first) second) f
through_ends front c first second e f h k = (h.0 ++ k.0, fits_through c first second h.0 k.0 e f h.1 k.1, both_called front h.0 k.0 h.2 k.2)

-- The load of a blueprint

rest_is : (by : Asker) (name : List ℕ) (e : End Value) → loaded_rest by name e ≡ through (clone_loaded by name) ended e
rest_is by name (Gives v s) = refl
rest_is by name (Stops x s) = refl

pub loads_through : LoadsThrough
loads_through front name by s e f h k = through_ends front (load_value by name s) (clone_loaded by name) ended e f h (subst (λ c. Ends front c f) (rest_is by name e) k)

-- it gave a value
pub value_loaded : (r : Begun) (name : List ℕ) (v : Value) (told : Option Bytes) (live0 live1 : Live) → StartsAs r (λ by s. clone_loaded by name v s) told live0 live1 → LoadedAs r name (endings.Value v) told live0 live1
value_loaded (begun.Ends a) name v told live0 live1 h g by turn budget (Gives u s) q f i =
    subst (λ z. IsOverAt g live1 turn budget a (and_then (clone_loaded by name z s) ended)) i (with_price IsAtBeginning (begun.Ends a) (λ by s. clone_loaded by name v s) told live0 live1 budget h g by turn s q f)
value_loaded (begun.Ends a) name v told live0 live1 h g by turn budget (Stops x s) q f i = absurd i
value_loaded (begun.Runs job) name v told live0 live1 h g by turn budget (Gives u s) q f i =
    subst (λ z. LeadsTo (begun.Runs job) g by turn budget live1 (and_then (clone_loaded by name z s) ended)) i (with_price IsAtBeginning (begun.Runs job) (λ by s. clone_loaded by name v s) told live0 live1 budget h g by turn s q f)
value_loaded (begun.Runs job) name v told live0 live1 h g by turn budget (Stops x s) q f i = absurd i

-- or a stop
pub stop_loaded : (stop : Stop) (name : List ℕ) (told : Option Bytes) (live : Live) → LoadedAs (begun.Ends (endings.Stopped stop)) name (endings.Stopped stop) told live live
stop_loaded stop name told live g by turn budget (Gives u s) q f i = absurd i
stop_loaded stop name told live g by turn budget (Stops x s) q f i = record { end = Stops x s; over = refl; is = i; fits = f }

-- The end of a clone

pub cloned_as : (ending : Ending) → ClonedAs ending ending
cloned_as (endings.Value v) front programs c (Gives (Plain u) s) h i =
    (Gives u s, through_ends front c object_reply ended (Gives (Plain u) s) (Gives u s) h (subst (λ z. Ends front z (Gives u s)) (sym (value_free u s)) (over_ends front (Gives u s))), i, refl)
cloned_as (endings.Value v) front programs c (Gives (WasRead items pragmas) s) h i = absurd i
cloned_as (endings.Value v) front programs c (Gives IsSound s) h i = absurd i
cloned_as (endings.Value v) front programs c (Gives (IsFaulty faults) s) h i = absurd i
cloned_as (endings.Value v) front programs c (Stops x s) h i = absurd i
cloned_as (endings.Stopped stop) front programs c (Gives r s) h i = absurd i
cloned_as (endings.Stopped stop) front programs c (Stops x s) h i = (Stops x s, through_ends front c object_reply ended (Stops x s) (Stops x s) h (over_ends front (Stops x s)), i, refl)
