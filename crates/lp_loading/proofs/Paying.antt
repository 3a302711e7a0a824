-- How a load begins.
use Rattle.std.proofs.Common.{◌≡◌, ◌∙◌, ◌-◌, ◌<◌, ◌≤◌, ◌++◌, ℕ, suc, List, [], ◌∷◌, Option, Some, None, IfSome, refl, ap, sym, map, reverse, if◌then◌else◌}
use Rattle.std.proofs.lemmas.Bool.{lt-ltb, le-ltb}
use Rattle.std.proofs.lemmas.List.{map-append, reverse-append}
use Rattle.lp_language.specs.Course as course
use Rattle.lp_language.specs.Course.{Ask, Course, LoadKind, Over, Reply, Spent, Stops, here}
use Rattle.lp_meaning.specs.Askers.{asker_of, state_of}
use Rattle.lp_meaning.specs.FileLoads.{Made, nested_in, reading, under_way, with_simul}
use Rattle.lp_meaning.specs.Limits.{load_price}
use Rattle.lp_asking.specs.Asking.{loading_of}
use Rattle.lp_asking.specs.declared.asker.Loading.{Loading}
use Rattle.lp_loading.specs.declared.job.LoadJob.{LoadJob}
use Rattle.lp_loading.specs.declared.job.Purpose.{Purpose}
use Rattle.lp_loading.specs.Going.{HasBegun, HasSpent}
use Rattle.lp_loading.specs.Loads.{kind_of, last_nested, loads_of}
use Rattle.lp_loading.specs.Present.{all_made}

-- How many loads led to one

nested_from : ℕ → List course.Loading → ℕ
nested_from n [] = n
nested_from n (l ∷ ls) = suc l.nested

from_one : (ls : List course.Loading) → nested_in course.Inherited ls ≡ nested_from 1 ls
unfolding nested_from
from_one [] = refl
from_one (l ∷ ls) = refl

one_behind : (n : ℕ) (ls : List course.Loading) (l : course.Loading) → nested_from n (ls ++ l ∷ []) ≡ nested_from (suc l.nested) ls
unfolding nested_from
one_behind n [] l = refl
one_behind n (x ∷ ls) l = refl

last_is : (n : ℕ) (ls : List Loading) → last_nested n ls ≡ nested_from n (loads_of ls)
unfolding nested_from
last_is n [] = refl
last_is n (l ∷ ls) =
    last_is (suc l.nested) ls ∙ sym (ap (λ xs. nested_from n (map loading_of xs)) (reverse-append (l ∷ []) ls) ∙ ap (nested_from n) (map-append loading_of (reverse ls) (l ∷ [])) ∙ one_behind n (map loading_of (reverse ls)) (loading_of l))

pub nested_is : (ls : List Loading) → last_nested 1 ls ≡ nested_in course.Inherited (loads_of ls)
nested_is ls = last_is 1 ls ∙ sym (from_one (loads_of ls))

-- Prices

-- what a load does that is paid
abbrev paid : Ask → List ℕ → LoadKind → ℕ → List Made → ℕ → Course Reply
paid a name kind nested made b = with_simul kind (under_way (asker_of a) name nested) name (record (state_of a) { budget = b }) (λ s. reading (suc s.budget) kind (under_way (asker_of a) name nested) nested name made s)

abbrev not_paid : Ask → Course Reply
not_paid a = Over (Stops (here Spent) (record (state_of a) { budget = 0 }))

pub spent_begins : (a : Ask) (name : List ℕ) (purpose : Purpose) (budget : ℕ) → a.budget < load_price → budget ≡ 0 → HasSpent name purpose a budget
spent_begins a name purpose budget l z =
    (ap (λ b. if b then not_paid a else paid a name (kind_of purpose) (nested_in (kind_of purpose) a.loads) [] (a.budget - load_price)) (lt-ltb a.budget load_price l), z)

pub load_begins : (a : Ask) (name : List ℕ) (purpose : Purpose) (loads : List Loading) (job : LoadJob) (budget : ℕ) → load_price ≤ a.budget → budget ≡ a.budget - load_price → job.name ≡ name → job.purpose ≡ purpose
    → job.nested ≡ nested_in (kind_of purpose) a.loads → job.made.items ≡ [] → HasBegun job name purpose loads a budget
load_begins a name purpose loads job budget l left n p k m = record {
  name_is = n;
  course =
      ap (λ b. if b then not_paid a else paid a name (kind_of purpose) (nested_in (kind_of purpose) a.loads) [] (a.budget - load_price)) (le-ltb a.budget load_price l)
      ∙ ap (λ b. paid a name (kind_of purpose) (nested_in (kind_of purpose) a.loads) [] b) (sym left)
      ∙ ap (λ ms. paid a name (kind_of purpose) (nested_in (kind_of purpose) a.loads) ms budget) (sym (ap all_made m))
      ∙ ap (λ c. paid a name (kind_of purpose) c (all_made job.made.items) budget) (sym k)
      ∙ ap (λ q. paid a name (kind_of q) job.nested (all_made job.made.items) budget) (sym p)
      ∙ ap (λ w. paid a w (kind_of job.purpose) job.nested (all_made job.made.items) budget) (sym n);
}

-- what an answer says says more
pub if_some : {A : Type 0} (r : Option A) (P Q : A → Type 0) → ((x : A) → P x → Q x) → IfSome r P → IfSome r Q
if_some None P Q f h = tt
if_some (Some x) P Q f h = f x h
