-- A needle's periods, and the place where the search cuts it.
use Rattle.std.specs.Prelude.{◌≡◌, ◌≢◌, ◌⊎◌, ℕ, ◌+◌, ◌<◌, ◌≤◌}

-- the first m values of x repeat after d places
abbrev pub IsPeriod : (ℕ → ℕ) → ℕ → ℕ → Type 0
IsPeriod x m d = (k : ℕ) → k + d < m → x k ≡ x (k + d)

-- the values before place c match those d places later, as far as those lie from c up to m
abbrev pub IsRepeat : (ℕ → ℕ) → ℕ → ℕ → ℕ → Type 0
IsRepeat x m c d = (k : ℕ) → k < c → c ≤ k + d → k + d < m → x k ≡ x (k + d)

-- each repeat at place c is a period: the search can go on past what a mismatch rules out
abbrev pub IsCritical : (ℕ → ℕ) → ℕ → ℕ → Type 0
IsCritical x m c = (d : ℕ) → 0 < d → IsRepeat x m c d → IsPeriod x m d

-- no period of the first m values is below s
abbrev pub NoPeriodBelow : (ℕ → ℕ) → ℕ → ℕ → Type 0
NoPeriodBelow x m s = (d : ℕ) → 0 < d → d < s → ¬ IsPeriod x m d

-- the values from s on first differ from those from c on by a lesser one, or end first
pub record IsBeaten (lt : ℕ → ℕ → Type 0) (x : ℕ → ℕ) (m s c : ℕ) : Type 0 where
  pub at : ℕ
  pub same : (t : ℕ) → t < at → x (s + t) ≡ x (c + t)
  pub room : c + at < m
  pub ends : (s + at ≡ m) ⊎ ((s + at < m) × lt (x (s + at)) (x (c + at)))

-- the values from c on are the greatest of those from any place below m
abbrev pub IsMaxSuffix : (ℕ → ℕ → Type 0) → (ℕ → ℕ) → ℕ → ℕ → Type 0
IsMaxSuffix lt x m c = (s : ℕ) → s < m → s ≢ c → IsBeaten lt x m s c

-- the greatest suffix is at p, and per is its least period
pub record IsSuffixAt (lt : ℕ → ℕ → Type 0) (x : ℕ → ℕ) (m p per : ℕ) : Type 0 where
  pub greatest : IsMaxSuffix lt x m p
  pub some : 0 < per
  pub fits : p + per ≤ m
  pub periodic : (i : ℕ) → p ≤ i → i + per < m → x i ≡ x (i + per)
  pub least : (d : ℕ) → 0 < d → d < per → ((i : ℕ) → p ≤ i → i + d < m → x i ≡ x (i + d)) → ⊥

-- what the later of the two greatest suffixes gives: c is critical, shorter than any period, and per is the least period of what follows it
pub record IsCutPlace (x : ℕ → ℕ) (m c per : ℕ) : Type 0 where
  pub below : c < m
  pub critical : IsCritical x m c
  pub above : (d : ℕ) → 0 < d → IsPeriod x m d → c < d
  pub some : 0 < per
  pub fits : c + per ≤ m
  pub periodic : (i : ℕ) → c ≤ i → i + per < m → x i ≡ x (i + per)
  pub least : (d : ℕ) → 0 < d → d < per → ((i : ℕ) → c ≤ i → i + d < m → x i ≡ x (i + d)) → ⊥
