-- Why the later of the two greatest suffixes, one by each order, is a critical place, and which shifts that allows.
use Rattle.std.proofs.Common.{◌≡◌, ℕ, zero, suc, ◌+◌, ◌-◌, ◌*◌, ◌<◌, ◌≤◌, max, sym, ap, subst, ◌∙◌, arith, ⊎_elim}
use Rattle.std.proofs.lemmas.Bool.{cases_lt, cases_eq}
use Rattle.lp_search.specs.Critical.{IsMaxSuffix, IsSuffixAt, IsCutPlace, IsPeriod, IsRepeat, IsCritical, NoPeriodBelow}
use Rattle.lp_search.specs.Cuts.{IsCut, IsShift}
use Rattle.lp_search.specs.declared.two_way.Shift.TheVariants.{Small, Large}

-- a term of the type given
abbrev by : (A : Type 0) → A → A
by A a = a

module _ (lt lt' : ℕ → ℕ → Type 0) (trans : (a b c : ℕ) → lt a b → lt b c → lt a c) (irrefl : (a : ℕ) → lt a a → ⊥) (irrefl' : (a : ℕ) → lt' a a → ⊥)
    (opposed : (a b : ℕ) → lt a b → lt' a b → ⊥) (x : ℕ → ℕ) (m c c' : ℕ) (below : c < m)
    (hi : IsMaxSuffix lt x m c) (lo : IsMaxSuffix lt' x m c') (le : c' ≤ c) where
  -- no repeat at c is as short as c
  no_short_repeat : (d : ℕ) → 0 < d → d ≤ c → IsRepeat x m c d → ⊥
  no_short_repeat d pos short rep =
      let s = c - d in
      let s_below : s < m = omega arith in
      let s_other : (s ≡ c) → ⊥ = λ same. omega arith in
      let b = hi s s_below s_other in
      let l = b.at in
      let room = b.room in
      ⊎_elim
      (λ ended. omega arith)
      (λ differs.
      let less = differs.1 in
      ⊎_elim
      (λ early.
      let eq : x (s + l) ≡ x (c + l) = rep (s + l) (omega arith) (omega arith) (omega arith) ∙ ap x (omega arith) in
      irrefl _ (subst (λ v. lt v (x (c + l))) eq less))
      (λ late.
      let u = l - d in
      let high : c + d + u < m = omega arith in
      let won : lt (x (c + u)) (x (c + d + u)) =
      subst (λ k. lt (x k) (x (c + d + u))) (by (s + l ≡ c + u) (omega arith)) (subst (λ k. lt (x (s + l)) (x k)) (by (c + l ≡ c + d + u) (omega arith)) less) in
      let c_below : c + d < m = omega arith in
      let c_other : (c + d ≡ c) → ⊥ = λ same. omega arith in
      let b2 = hi (c + d) c_below c_other in
      let l2 = b2.at in
      let known : (t : ℕ) → t < u → x (c + t) ≡ x (c + d + t) =
      λ t q. ap x (by (c + t ≡ s + (t + d)) (omega arith)) ∙ b.same (t + d) (omega arith) ∙ ap x (omega arith) in
      ⊎_elim
      (λ sooner.
      ⊎_elim
      (λ ended. omega arith)
      (λ other. irrefl _ (subst (lt (x (c + d + l2))) (known l2 sooner) other.1))
      b2.ends)
      (λ not_sooner.
      ⊎_elim
      (λ here.
      ⊎_elim
      (λ ended. omega arith)
      (λ other.
      let back : lt (x (c + d + u)) (x (c + u)) = subst (λ k. lt (x (c + d + k)) (x (c + k))) (sym here) other.1 in
      irrefl _ (trans _ _ _ won back))
      b2.ends)
      (λ after.
      let eq : x (c + d + u) ≡ x (c + u) = b2.same u (omega arith) in
      irrefl _ (subst (lt (x (c + u))) eq won))
      (cases_eq u l2))
      (cases_lt l2 u))
      (cases_lt l d))
      b.ends

  -- each period is longer than c
  pub period_above : (d : ℕ) → 0 < d → IsPeriod x m d → c < d
  period_above d pos period = ⊎_elim
      (λ above. above)
      (λ short. absurd (no_short_repeat d pos short (λ k l a b. period k b)))
      (cases_lt c d)

  -- where the values from c on do not repeat after d, the other order rules out what the repeat says
  ruled_out : (d : ℕ) → c < d → c + d < m → IsRepeat x m c d → (l1 : ℕ) → ((t : ℕ) → t < l1 → x (c + d + t) ≡ x (c + t)) → c + d + l1 < m
      → lt (x (c + d + l1)) (x (c + l1)) → ⊥
  ruled_out d above room rep l1 same1 inside less =
      let y = c - c' in
      let s_below : c' + d < m = omega arith in
      let s_other : (c' + d ≡ c') → ⊥ = λ same. omega arith in
      let b = lo (c' + d) s_below s_other in
      let l2 = b.at in
      let rep_at : (t : ℕ) → t < y → x (c' + d + t) ≡ x (c' + t) =
      λ t q. ap x (omega arith) ∙ sym (rep (c' + t) (omega arith) (omega arith) (omega arith)) in
      ⊎_elim
      (λ sooner.
      ⊎_elim
      (λ ended. omega arith)
      (λ other. irrefl' _ (subst (λ v. lt' v (x (c' + l2))) (rep_at l2 sooner) other.1))
      b.ends)
      (λ late.
      let u = l2 - y in
      let place : c' + l2 ≡ c + u = omega arith in
      let shifted : c' + d + l2 ≡ c + d + u = omega arith in
      ⊎_elim
      (λ sooner.
      let eq : x (c + d + u) ≡ x (c + u) = same1 u sooner in
      ⊎_elim
      (λ ended. omega arith)
      (λ other.
      let got : lt' (x (c + d + u)) (x (c + u)) = subst (λ k. lt' (x k) (x (c + u))) shifted (subst (λ k. lt' (x (c' + d + l2)) (x k)) place other.1) in
      irrefl' _ (subst (λ v. lt' v (x (c + u))) eq got))
      b.ends)
      (λ not_sooner.
      ⊎_elim
      (λ here.
      ⊎_elim
      (λ ended. omega arith)
      (λ other.
      let got : lt' (x (c + d + u)) (x (c + u)) = subst (λ k. lt' (x k) (x (c + u))) shifted (subst (λ k. lt' (x (c' + d + l2)) (x k)) place other.1) in
      opposed _ _ less (subst (λ k. lt' (x (c + d + k)) (x (c + k))) here got))
      b.ends)
      (λ after.
      let eq : x (c' + d + (y + l1)) ≡ x (c' + (y + l1)) = b.same (y + l1) (omega arith) in
      let same : x (c + d + l1) ≡ x (c + l1) = ap x (omega arith) ∙ eq ∙ ap x (omega arith) in
      irrefl _ (subst (λ v. lt v (x (c + l1))) same less))
      (cases_eq u l1))
      (cases_lt u l1))
      (cases_lt l2 y)

  -- c is critical
  pub IsCritical-cut : IsCritical x m c
  IsCritical-cut d pos rep k fits = ⊎_elim
      (λ above.
      ⊎_elim
      (λ early. rep k early (omega arith) fits)
      (λ late.
      let c_below : c + d < m = omega arith in
      let c_other : (c + d ≡ c) → ⊥ = λ same. omega arith in
      let b = hi (c + d) c_below c_other in
      let l = b.at in
      let room = b.room in
      ⊎_elim
      (λ ended.
      ap x (by (k ≡ c + (k - c)) (omega arith)) ∙ sym (b.same (k - c) (omega arith)) ∙ ap x (omega arith))
      (λ differs. absurd (ruled_out d above (omega arith) rep l b.same differs.0 differs.1))
      b.ends)
      (cases_lt k c))
      (λ short. absurd (no_short_repeat d pos short rep))
      (cases_lt c d)

  -- all that the search needs of the place
  pub IsCutPlace-of : (per : ℕ) → IsSuffixAt lt x m c per → IsCutPlace x m c per
  IsCutPlace-of per h = record {
    below = below;
    critical = IsCritical-cut;
    above = period_above;
    some = h.some;
    fits = h.fits;
    periodic = h.periodic;
    least = h.least;
  }

module _ (x : ℕ → ℕ) (m c p : ℕ) (some : 0 < p) (critical : IsCritical x m c)
    (periodic : (i : ℕ) → c ≤ i → i + p < m → x i ≡ x (i + p))
    (least : (d : ℕ) → 0 < d → d < p → ((i : ℕ) → c ≤ i → i + d < m → x i ≡ x (i + d)) → ⊥) where
  -- the least period of the values from c on is a period of all, if any period is shorter than they are
  period_of_all : (n d : ℕ) → d ≤ n → 0 < d → c + d < m → IsPeriod x m d → IsPeriod x m p
  period_of_all zero d le pos room period = absurd (omega arith)
  period_of_all (suc n) d le pos room period = ⊎_elim
      (λ short. absurd (least d pos short (λ i low high. period i high)))
      (λ long.
      ⊎_elim
      (λ same. subst (IsPeriod x m) same period)
      (λ differs.
      let b = d - p in
      let rep : IsRepeat x m c b = λ k l low high.
      period k (omega arith) ∙ ap x (omega arith) ∙ sym (periodic (k + b) low (omega arith)) in
      period_of_all n b (omega arith) (omega arith) (omega arith) (critical b (omega arith) rep))
      (cases_eq d p))
      (cases_lt d p)

  -- no period is shorter than the least of the values from c on
  pub NoPeriodBelow-least : NoPeriodBelow x m p
  NoPeriodBelow-least d pos short period = least d pos short (λ i low high. period i high)

  -- if the least of the values from c on is no period of all, no period is shorter than those values
  pub NoPeriodBelow-rest : (IsPeriod x m p → ⊥) → NoPeriodBelow x m (m - c)
  NoPeriodBelow-rest other d pos short period = other (period_of_all d d (omega arith) pos (omega arith) period)

module _ (x : ℕ → ℕ) (m c per : ℕ) (h : IsCutPlace x m c per) where
  -- the cut lies in the back half: no period is as short as the front
  pub IsCut-wide : m ≤ c * 2 → IsCut x m c (Large (max c (m - c)))
  unfolding IsShift
  IsCut-wide wide =
      let below = h.below in
      record {
        below = below;
        critical = h.critical;
        shifts = (omega arith, omega arith, λ d pos short period. omega (arith, h.above d pos period));
      }

  -- the values before the cut do not repeat the period of those after it: no period is as short as what follows the cut
  pub IsCut-long : (((k : ℕ) → k < c → x k ≡ x (k + per)) → ⊥) → IsCut x m c (Large (max c (m - c)))
  unfolding IsShift
  IsCut-long differs =
      let below = h.below in
      let fits = h.fits in
      let rest = NoPeriodBelow-rest x m c per h.some h.critical h.periodic h.least
      (λ period. differs (λ k l. period k (omega arith))) in
      record {
        below = below;
        critical = h.critical;
        shifts = (
          omega arith,
          omega arith,
          λ d pos short period.
              ⊎_elim
              (λ inside. rest d pos inside period)
              (λ outside. omega (arith, h.above d pos period))
              (cases_lt d (m - c)),
        );
      }

  -- the values before the cut repeat it: the period of what follows is the needle's
  pub IsCut-small : ((k : ℕ) → k < c → x k ≡ x (k + per)) → IsCut x m c (Small per)
  unfolding IsShift
  IsCut-small same =
      let below = h.below in
      let fits = h.fits in
      let period : IsPeriod x m per = λ k fit. ⊎_elim (λ early. same k early) (λ late. h.periodic k late fit) (cases_lt k c) in
      record {
        below = below;
        critical = h.critical;
        shifts = (h.some, h.above per h.some period, omega arith, period, NoPeriodBelow-least x m c per h.some h.critical h.periodic h.least);
      }
