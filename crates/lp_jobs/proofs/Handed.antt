-- Jobs that were handed over, by their numbers.
use Rattle.std.proofs.Common.{◌≡◌, ◌<◌, ◌≤◌, ◌+◌, ◌∙◌, ℕ, zero, suc, List, [], ◌∷◌, ◌++◌, false, Option, Some, None, Result, Ok, Err, OnOk, refl, sym, ap, length, take, get_or, arith, append_assoc, nat_eq}
use Rattle.std.proofs.lemmas.Bool.{eq-eqb}
use Rattle.std.proofs.lemmas.List.{take_more, take_all, append-nil, length-take-le}
use Rattle.std.proofs.lemmas.Bool.Decides.{nat_tests}
use Rattle.std.specs.Prelude.{slice_get, if◌then◌else◌}
use Rattle.lp_suite.specs.declared.suite.Entry.{Entry}
use Rattle.lp_suite.specs.declared.suite.Entry.TheVariants as entries
use Rattle.lp_jobs.specs.Jobs.{HandsOver, IsJobAt, Job, TellsTruth, after_starting, job_at, job_if, jobs_from, later, test_job}

-- The latest job of a number

later-none : (o : Option Job) → later o None ≡ o
later-none None = refl
later-none (Some j) = refl

later-assoc : (a b c : Option Job) → later (later a b) c ≡ later a (later b c)
later-assoc None b c = refl
later-assoc (Some j) b c = refl

job_at-append : (xs ys : List Job) (n : ℕ) → job_at (xs ++ ys) n ≡ later (job_at ys n) (job_at xs n)
job_at-append [] ys n = sym (later-none (job_at ys n))
job_at-append (x ∷ xs) ys n =
    ap (λ o. later o (if nat_eq x.number n then Some x else None)) (job_at-append xs ys n)
    ∙ later-assoc (job_at ys n) (job_at xs n) (if nat_eq x.number n then Some x else None)

other-number : (n m : ℕ) → n < m → nat_eq m n ≡ false
other-number n m l = grind (arith, nat_tests)

-- no job has a number below the first
jobs-below : (m n : ℕ) (es : List Entry) (input : List ℕ) → n < m → job_at (jobs_from m es input) n ≡ None
jobs-below m n [] input l = refl
jobs-below m n (entries.Faulty path ∷ es) input l = jobs-below (suc m) n es input (omega arith)
jobs-below m n (entries.Test path fun ∷ es) input l =
    let rest = jobs-below (suc m) n es input (omega arith) in
    ap (λ o. later o (if nat_eq m n then Some (test_job m path fun input) else None)) rest
    ∙ ap (λ b. if b then Some (test_job m path fun input) else None) (other-number n m l)

first-same : (p f path fun : List ℕ) → Some (entries.Test p f) ≡ Some (entries.Test path fun) → p ≡ path
first-same p f path fun e = cc

second-same : (p f path fun : List ℕ) → Some (entries.Test p f) ≡ Some (entries.Test path fun) → f ≡ fun
second-same p f path fun e = cc

-- the test at a place is the job of its number
jobs-has : (n k i : ℕ) (es : List Entry) (path fun input : List ℕ) → k ≡ n + i → slice_get es i ≡ Some (entries.Test path fun) → job_at (jobs_from n es input) k ≡ Some (test_job k path fun input)
jobs-has n k i [] path fun input e h = absurd cc
jobs-has n k zero (entries.Faulty p ∷ es) path fun input e h = absurd cc
jobs-has n k zero (entries.Test p f ∷ es) path fun input e h =
    let same : k ≡ n = omega arith in
    let rest = jobs-below (suc n) k es input (omega arith) in
    ap (λ o. later o (if nat_eq n k then Some (test_job n p f input) else None)) rest
    ∙ ap (λ b. if b then Some (test_job n p f input) else None) (eq-eqb n k (sym same))
    ∙ ap (λ m. Some (test_job m p f input)) (sym same)
    ∙ ap (λ q. Some (test_job k q f input)) (first-same p f path fun h)
    ∙ ap (λ g. Some (test_job k path g input)) (second-same p f path fun h)
jobs-has n k (suc i) (entries.Faulty p ∷ es) path fun input e h = jobs-has (suc n) k i es path fun input (omega arith) h
jobs-has n k (suc i) (entries.Test p f ∷ es) path fun input e h =
    ap (λ o. later o (if nat_eq n k then Some (test_job n p f input) else None)) (jobs-has (suc n) k i es path fun input (omega arith) h)

take-same : (h i : ℕ) (es : List Entry) → i < h → slice_get (take h es) i ≡ slice_get es i
take-same zero i es l = absurd (omega arith)
take-same (suc h) i [] l = refl
take-same (suc h) zero (e ∷ es) l = refl
take-same (suc h) (suc i) (e ∷ es) l = take-same h i es (omega arith)

by-entry : (o : Option Entry) (js : List Job) (es : List Entry) (i : ℕ) (input : List ℕ) → slice_get es i ≡ o → IsJobAt o i input (job_at (js ++ jobs_from 0 es input) i)
by-entry None js es i input e = tt
by-entry (Some (entries.Faulty path)) js es i input e = tt
by-entry (Some (entries.Test path fun)) js es i input e =
    job_at-append js (jobs_from 0 es input) i ∙ ap (λ o. later o (job_at js i)) (jobs-has 0 i i es path fun input (omega arith) e)

-- the jobs of the first entries are those of their places
pub hands-over : (js : List Job) (es : List Entry) (h i : ℕ) (input : List ℕ) → i < h → HandsOver (js ++ jobs_from 0 (take h es) input) es i input
hands-over js es h i input l = by-entry (slice_get es i) js (take h es) i input (take-same h i es l)

-- One more

jobs-push : (n : ℕ) (es : List Entry) (e : Entry) (input : List ℕ) → jobs_from n (es ++ e ∷ []) input ≡ jobs_from n es input ++ job_if (n + length es) e input
jobs-push n [] e input = append-nil (job_if n e input) ∙ ap (λ m. job_if m e input) (let q : n ≡ n + 0 = omega arith in q)
jobs-push n (x ∷ es) e input =
    ap (λ js. job_if n x input ++ js) (jobs-push (suc n) es e input)
    ∙ sym (append_assoc (job_if n x input) (jobs_from (suc n) es input) (job_if (suc n + length es) e input))
    ∙ ap (λ m. (job_if n x input ++ jobs_from (suc n) es input) ++ job_if m e input) (let q : suc n + length es ≡ n + suc (length es) = omega arith in q)

pub jobs-more : (h : ℕ) (es : List Entry) (e : Entry) (input : List ℕ) → h < length es → jobs_from 0 (take (h + 1) es) input ≡ jobs_from 0 (take h es) input ++ job_if h (get_or es h e) input
jobs-more h es e input l =
    ap (λ xs. jobs_from 0 xs input) (take_more es h e l)
    ∙ jobs-push 0 (take h es) (get_or es h e) input
    ∙ ap (λ m. jobs_from 0 (take h es) input ++ job_if m (get_or es h e) input) (let q : 0 + length (take h es) ≡ h = omega (arith, length-take-le h es (omega arith)) in q)

-- told of more jobs, one after another
pub started-more : (told mid now : Option (List Job)) (js ks : List Job) → mid ≡ after_starting told js → now ≡ after_starting mid ks → now ≡ after_starting told (js ++ ks)
started-more None mid now js ks e f = f ∙ ap (λ o. after_starting o ks) e
started-more (Some old) mid now js ks e f = f ∙ ap (λ o. after_starting o ks) e ∙ ap (λ zs. Some zs) (append_assoc old js ks)

-- told of none more
pub started-none : (told : Option (List Job)) → told ≡ after_starting told []
started-none None = refl
started-none (Some js) = ap (λ zs. Some zs) (sym (append-nil js))

-- before the first
pub first-started : (told : Option (List Job)) (es : List Entry) (input : List ℕ) (h : ℕ) → h ≡ 0 → told ≡ after_starting told (jobs_from 0 (take h es) input)
first-started told es input h e = started-none told ∙ ap (λ n. after_starting told (jobs_from 0 (take n es) input)) (sym e)

-- behind the last
pub all-started : (told now : Option (List Job)) (es : List Entry) (input : List ℕ) (h : ℕ) → length es ≤ h → now ≡ after_starting told (jobs_from 0 (take h es) input) → now ≡ after_starting told (jobs_from 0 es input)
all-started told now es input h l e = e ∙ ap (λ xs. after_starting told (jobs_from 0 xs input)) (take_all h es l)

-- one place more
pub handed-more : (told mid now : Option (List Job)) (es : List Entry) (input : List ℕ) (h : ℕ) (e : Entry) → h < length es → e ≡ get_or es h e → mid ≡ after_starting told (jobs_from 0 (take h es) input) → now ≡ after_starting mid (job_if h e input)
    → now ≡ after_starting told (jobs_from 0 (take (h + 1) es) input)
handed-more told mid now es input h e l is s m =
    started-more told mid now (jobs_from 0 (take h es) input) (job_if h e input) s m
    ∙ ap (after_starting told) (ap (λ x. jobs_from 0 (take h es) input ++ job_if h x input) is ∙ sym (jobs-more h es e input l))

-- what holds anyway
pub anyway : {A E P : Type 0} (r : Result A E) → P → OnOk r P
anyway (Ok x) p = p
anyway (Err x) p = tt

-- a spawner that tells its jobs and the truth
pub told-truth : (told : Option (List Job)) (T : Type 0) → TellsTruth told T → (jobs : List Job) × (told ≡ Some jobs) × T
told-truth None T t = absurd t
told-truth (Some jobs) T t = (jobs, refl, t)
