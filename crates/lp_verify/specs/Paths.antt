-- The paths through code: how each place is reached.
use Rattle.std.specs.Prelude.{◌≡◌, ℕ, ⊤, List, [], Contains, Option, Some, None, slice_get}
use Rattle.lp_instr.specs.Sound.{Shape, shape}

-- what is known of a place: no path; each path comes in one shape; or paths mix
pub data Known : Type 0 where
  Never : Known
  Once : Shape → Known
  Mixed : Known

-- what a place is known by says all that x says
abbrev pub Fits : Known → Known → Type 0
Fits Never k = ⊤
Fits x Mixed = ⊤
Fits (Once a) (Once b) = a ≡ b
Fits x k = ⊥

-- what is known when x is learned too, which was not said yet
abbrev pub joined : Known → Known → Known
joined Never x = x
joined k x = Mixed

-- a place that an instruction leads to, and what is learned of it there
pub record Way : Type 0 where
  pub to : ℕ
  pub known : Known

-- where each place leads, by what is known of it
abbrev pub Ways : Type 0
Ways = ℕ → Known → List Way

-- how a path begins: with an empty stack and no open catch
abbrev pub begin_shape : Shape
begin_shape = shape 0 []

-- What paths teach. A path begins at a start. It goes on where an instruction leads. Two paths that reach a place in two
-- shapes mix there.
pub data Learned (ways : ℕ → Known → List Way) (starts : List ℕ) : ℕ → Known → Type 0 where
  begins : {p : ℕ} → Contains starts p → Learned ways starts p (Once begin_shape)
  on : {p : ℕ} {k : Known} {w : Way} → Learned ways starts p k → Contains (ways p k) w → Learned ways starts w.to w.known
  two : {p : ℕ} {a b : Shape} → Learned ways starts p (Once a) → Learned ways starts p (Once b) → (a ≡ b → ⊥) → Learned ways starts p Mixed

-- what a list says of a place
abbrev pub said : Option Known → Known
said None = Never
said (Some k) = k

abbrev pub at : List Known → ℕ → Known
at xs p = said (slice_get xs p)
