-- What the devices did in a call, over its parts.
use Rattle.std.proofs.Common.{subst, ◌≡◌, ℕ, ◌≤◌, List, Bool, true, false, Option, Result, Ok, Err, OnOk, OnErr, inl, inr, arith, take}
use Rattle.std.specs.Result.{is_err}
use Rattle.lp_io.specs.declared.put.PutFault.{PutFault}
use Rattle.lp_io.specs.declared.put.PutFault.TheVariants as put
use Rattle.lp_script.specs.Put.{Puts, Told}
use Rattle.lp_folder.specs.Held.{Held}
use Rattle.lp_flush.specs.Flushing.{Flushes, IsCutShort, none_tried, was_kept, has_failed}
use Rattle.lp_serving.specs.Causes.{OutputTells}

pub output_then : (b : Bool) (f0 f1 f2 z0 z1 z2 : ℕ) → OutputTells false f0 f1 z0 z1 → OutputTells b f1 f2 z1 z2 → OutputTells b f0 f2 z0 z2
output_then b f0 f1 f2 z0 z1 z2 e h = subst (λ (z : ℕ). OutputTells b f0 f2 z z2) e.1 (subst (λ (f : ℕ). OutputTells b f f2 z1 z2) e.0 h)

pub put_fine : (r : Result (Unit {0}) PutFault) (before now : Told) (bytes : List ℕ) → is_err r ≡ false → Puts before now r bytes → OutputTells false before.faults now.faults before.zeros now.zeros
put_fine (Ok x) before now bytes fine p = (p.faults, p.zeros)
put_fine (Err put.Failed) before now bytes fine p = cc
put_fine (Err put.ZeroTaken) before now bytes fine p = cc

pub put_failed : (r : Result (Unit {0}) PutFault) (before now : Told) (bytes : List ℕ) → is_err r ≡ true → Puts before now r bytes → OutputTells true before.faults now.faults before.zeros now.zeros
put_failed (Ok x) before now bytes bad p = cc
put_failed (Err put.Failed) before now bytes bad p = inl p.faults
put_failed (Err put.ZeroTaken) before now bytes bad p = inr p.zeros

pub tries_no_fall : (file : List ℕ → Option (List ℕ)) (first : Option Held) (faults : ℕ) (tried left : List (List ℕ)) (now : Option Held) (count : ℕ) → Flushes file first faults tried left now count → faults ≤ count
tries_no_fall file first faults _ _ _ _ none_tried = omega arith
tries_no_fall file first faults _ _ _ _ (was_kept tried left told told1 count count1 p fs one) = omega (arith, tries_no_fall file first faults tried left told count fs, one.1)
tries_no_fall file first faults _ _ _ _ (has_failed tried left told told1 count count1 p fs one) = omega (arith, tries_no_fall file first faults tried left told count fs, one.2)

-- the count of the files never falls in tries
pub flush_no_fall : {A E : Type 0} (r : Result A E) (file : List ℕ → Option (List ℕ)) (first : Option Held) (faults : ℕ) (changed0 changed1 : List (List ℕ)) (now : Option Held) (count : ℕ)
    → OnOk r (Flushes file first faults changed0 changed1 now count) → OnErr r (IsCutShort file first faults changed0 changed1 now count) → faults ≤ count
flush_no_fall (Ok x) file first faults changed0 changed1 now count fine cut = tries_no_fall file first faults changed0 changed1 now count fine
flush_no_fall (Err e) file first faults changed0 changed1 now count fine cut = tries_no_fall file first faults (take cut.tries changed0) cut.left cut.told count cut.flushes
