-- The work list: what holds between two places that are looked at.
use Rattle.std.specs.Prelude.{◌≡◌, ◌≤◌, ◌<◌, ℕ, ◌+◌, ◌*◌, ⊤, List, [], ◌∷◌, ◌⊎◌, All, Contains, length}
use Rattle.lp_verify.specs.Paths.{Known, Never, Once, Mixed, Fits, Way, Learned, at, begin_shape}

abbrev pub IsLearned : (ways : ℕ → Known → List Way) → (starts : List ℕ) → ℕ → Known → Type 0
IsLearned ways starts p Never = ⊤
IsLearned ways starts p (Once f) = Learned ways starts p (Once f)
IsLearned ways starts p Mixed = Learned ways starts p Mixed

-- all that is said was learned
abbrev pub AreLearned : (ways : ℕ → Known → List Way) → (starts : List ℕ) → List Known → Type 0
AreLearned ways starts xs = (p : ℕ) → IsLearned ways starts p (at xs p)

-- the list says all of this
abbrev pub Says : List Known → List Way → Type 0
Says xs ws = All (λ w. Fits w.known (at xs w.to)) ws

-- how much may still be learned
abbrev pub open_of : Known → ℕ
open_of Never = 2
open_of (Once f) = 1
open_of Mixed = 0

abbrev pub left : List Known → ℕ
left [] = 0
left (v ∷ vs) = open_of v + left vs

-- Some ways are learned: the list grows, says them, and each place of which it says more than before is to be looked at.
pub record Grows (ws : List Way) (old : List Known) (todo : List ℕ) (new : List Known) (todo' : List ℕ) : Type 0 where
  pub size : length new ≡ length old
  pub above : (p : ℕ) → Fits (at old p) (at new p)
  pub says : Says new ws
  pub changed : (p : ℕ) → (at new p ≡ at old p) ⊎ Contains todo' p
  pub stays : (p : ℕ) → Contains todo p → Contains todo' p
  pub inside : All (λ p. p < length old) todo → All (λ p. p < length old) todo'
  pub less : 2 * left new + length todo' ≤ 2 * left old + length todo
  pub learned : (ways : ℕ → Known → List Way) (starts : List ℕ) → AreLearned ways starts old → All (λ w. IsLearned ways starts w.to w.known) ws → AreLearned ways starts new

-- All that is said was learned; each place that is not on the list leads only to what is said.
pub record Works (ways : ℕ → Known → List Way) (starts : List ℕ) (xs : List Known) (todo : List ℕ) : Type 0 where
  pub learned : AreLearned ways starts xs
  pub settled : (p : ℕ) → Contains todo p ⊎ Says xs (ways p (at xs p))
  pub inside : All (λ p. p < length xs) todo

-- the start of each path is said
abbrev pub AreBegun : List ℕ → List Known → Type 0
AreBegun starts xs = All (λ p. Fits (Once begin_shape) (at xs p)) starts

-- What instructions lead to: nowhere from a place that no path is known to reach, and where more is known of a place, the
-- same ways teach more.
pub record AreSteady (ways : ℕ → Known → List Way) : Type 0 where
  pub nowhere : (p : ℕ) → ways p Never ≡ []
  pub more : (p : ℕ) (k j : Known) (w : Way) → Fits k j → Contains (ways p k) w → (v : Way) × Contains (ways p j) v × (v.to ≡ w.to) × Fits w.known v.known

-- what is said of each place is all that paths teach of it, and nothing else
pub record IsAll (ways : ℕ → Known → List Way) (starts : List ℕ) (xs : List Known) : Type 0 where
  pub learned : AreLearned ways starts xs
  pub whole : (p : ℕ) (k : Known) → Learned ways starts p k → Fits k (at xs p)
