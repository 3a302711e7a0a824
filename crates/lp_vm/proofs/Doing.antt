-- What the machine does, from one point to the next.
use Rattle.std.proofs.Common.{◌≡◌, refl}
use Rattle.lp_values.specs.declared.value.Value.{Value}
use Rattle.lp_language.specs.Course.{Ask, CanAnswer, Course, Over, Asks, End, Outcome, Scene}
use Rattle.lp_instr.specs.Code.{Code}
use Rattle.lp_isa.specs.Machine.{Moment, Next, Goes, Ended, Awaits, step}
use Rattle.lp_isa.specs.Runs.{Comes, there, later, Does, ends, goes_on, waits}

does_step : {code : Code} {c : Scene} {m : Moment} {t : Course Value} → Does code c (Goes m) t → Does code c (step code c m) t
does_step (goes_on d) = d

pub does_comes : (code : Code) (c : Scene) (x y : Next) (t : Course Value) → Comes code c x y → Does code c x t → Does code c y t
does_comes code c x _ t there d = d
does_comes code c _ y t (later {m = m} k) d = does_comes code c (step code c m) y t k (does_step d)

-- where it ended the course is over
pub does_end : {code : Code} {c : Scene} {e : End Value} {t : Course Value} → Does code c (Ended e) t → t ≡ Over e
does_end ends = refl

-- where it awaits an answer the course asks just that, and goes on as the machine does
pub record Awaited (code : Code) (c : Scene) (a : Ask) (resume : Outcome → Next) (t : Course Value) : Type 0 where
  pub goes : Outcome → Course Value
  pub is : t ≡ Asks a goes
  pub does : (o : Outcome) → CanAnswer a o → Does code c (resume o) (goes o)

pub does_wait : {code : Code} {c : Scene} {a : Ask} {resume : Outcome → Next} {t : Course Value} → Does code c (Awaits a resume) t → Awaited code c a resume t
does_wait (waits {k = k} f) = record { goes = k; is = refl; does = f }
