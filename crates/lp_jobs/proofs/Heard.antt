-- Verdicts that were heard.
use Rattle.std.proofs.Common.{◌≡◌, ◌<◌, ◌∙◌, ℕ, zero, suc, List, [], ◌∷◌, Option, Some, None, refl, sym, ap, subst, length, arith, ◌⊎◌, inl, inr}
use Rattle.std.proofs.Math.ListN.{set}
use Rattle.std.specs.Prelude.{slice_get, replicate, IfSome}
use Rattle.lp_suite.specs.declared.suite.Entry.{Entry}
use Rattle.lp_suite.specs.declared.suite.Entry.TheVariants as entries
use Rattle.lp_verdicts.specs.declared.verdict.Verdict.{Verdict}
use Rattle.lp_jobs.specs.declared.spawner.Ended.{Ended}
use Rattle.lp_jobs.specs.Jobs.{AreTrue, HandsOver, IsAnswerOf, IsJobAt, IsTrueAnswer, IsTrueOf, IsVerdictAt, IsVerdictIn, Job, job_at, test_job}

-- nothing was heard
no-verdict : (n i : ℕ) (v : Verdict) → slice_get (replicate n None) i ≡ Some (Some v) → ⊥
no-verdict zero i v e = cc
no-verdict (suc n) zero v e = cc
no-verdict (suc n) (suc i) v e = no-verdict n i v e

pub none-true : (n : ℕ) (es : List Entry) (input : List ℕ) → AreTrue es input (replicate n None)
none-true n es input i v e = absurd (no-verdict n i v e)

-- a place that is set
pub set-other : (vs : List (Option Verdict)) (n i : ℕ) (x : Option Verdict) → (i ≡ n → ⊥) → slice_get (set vs n x) i ≡ slice_get vs i
set-other [] n i x d = refl
set-other (v ∷ vs) zero zero x d = absurd (d refl)
set-other (v ∷ vs) zero (suc i) x d = refl
set-other (v ∷ vs) (suc n) zero x d = refl
set-other (v ∷ vs) (suc n) (suc i) x d = set-other vs n i x (λ e. d (ap suc e))

pub set-same : (vs : List (Option Verdict)) (n : ℕ) (x v : Option Verdict) → slice_get (set vs n x) n ≡ Some v → v ≡ x
set-same [] n x v e = absurd cc
set-same (w ∷ vs) zero x v e = cc
set-same (w ∷ vs) (suc n) x v e = set-same vs n x v e

-- a place that is not there
pub past-none : (vs : List (Option Verdict)) (n : ℕ) (x v : Option Verdict) → (n < length vs → ⊥) → slice_get vs n ≡ Some v → v ≡ x
past-none [] n x v d e = absurd cc
past-none (w ∷ vs) zero x v d e = absurd (d (omega arith))
past-none (w ∷ vs) (suc n) x v d e = past-none vs n x v (λ l. d (omega arith)) e

-- what a job wrote is true of its test
true-of : (o : Option Entry) (n : ℕ) (input out : List ℕ) (v : Verdict) (j : Option Job) → IsAnswerOf o out v → IsJobAt o n input j → IfSome j (λ j. IsTrueOf j out) → IsVerdictAt o input v
true-of None n input out v j a h t = tt
true-of (Some (entries.Faulty path)) n input out v j a h t = tt
true-of (Some (entries.Test path fun)) n input out v j a h t = λ xs s.
    let told : IfSome (Some (test_job n path fun input)) (λ j. IsTrueOf j out) = subst (λ o. IfSome o (λ j. IsTrueOf j out)) h t in
    told xs path fun v s refl a

same-or-not : (i n : ℕ) → (i ≡ n) ⊎ (i ≡ n → ⊥)
same-or-not zero zero = inl refl
same-or-not zero (suc n) = inr (λ e. omega arith)
same-or-not (suc i) zero = inr (λ e. omega arith)
same-or-not (suc i) (suc n) = elim (same-or-not i n) [ inl e ↦ inl (ap suc e) | inr d ↦ inr (λ e. d (omega arith)) ]

noted-at : (jobs : List Job) (es : List Entry) (input : List ℕ) (e : Ended) (verdict v : Verdict) (i : ℕ) → HandsOver jobs es e.job input → IsTrueAnswer jobs e → IsVerdictIn es e verdict → i ≡ e.job → Some v ≡ Some verdict → IsVerdictAt (slice_get es i) input v
noted-at jobs es input e verdict v i h t a same is =
    let w : v ≡ verdict = cc in
    subst (λ u. IsVerdictAt (slice_get es i) input u) (sym w) (subst (λ k. IsVerdictAt (slice_get es k) input verdict) (sym same) (true-of (slice_get es e.job) e.job input e.out verdict (job_at jobs e.job) a.1 h (t a.0)))

by-place : (es : List Entry) (input : List ℕ) (e : Ended) (verdict v : Verdict) (jobs : List Job) (old new : List (Option Verdict)) (i : ℕ) → HandsOver jobs es e.job input → IsTrueAnswer jobs e → IsVerdictIn es e verdict
    → ((i : ℕ) → (i ≡ e.job → ⊥) → slice_get new i ≡ slice_get old i) → ((v : Option Verdict) → slice_get new e.job ≡ Some v → v ≡ Some verdict) → AreTrue es input old → slice_get new i ≡ Some (Some v) → (i ≡ e.job) ⊎ (i ≡ e.job → ⊥) → IsVerdictAt (slice_get es i) input v
by-place es input e verdict v jobs old new i h t a other noted before is (inl same) = noted-at jobs es input e verdict v i h t a same (noted (Some v) (subst (λ k. slice_get new k ≡ Some (Some v)) same is))
by-place es input e verdict v jobs old new i h t a other noted before is (inr d) = before i v (sym (other i d) ∙ is)

-- one verdict more is noted
pub noted-true : (jobs : List Job) (es : List Entry) (input : List ℕ) (e : Ended) (verdict : Verdict) (old new : List (Option Verdict)) → HandsOver jobs es e.job input → IsTrueAnswer jobs e → IsVerdictIn es e verdict
    → ((i : ℕ) → (i ≡ e.job → ⊥) → slice_get new i ≡ slice_get old i) → ((v : Option Verdict) → slice_get new e.job ≡ Some v → v ≡ Some verdict) → AreTrue es input old → AreTrue es input new
noted-true jobs es input e verdict old new h t a other noted before i v is = by-place es input e verdict v jobs old new i h t a other noted before is (same-or-not i e.job)
