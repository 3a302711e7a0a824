-- What a folder tells behind a call that failed.
use Rattle.std.proofs.Common.{◌≡◌, ℕ, List, Bool, true, false, Option, Some, None, Result, Ok, Err, OnErr, refl, sym, ap, ◌∙◌, if◌then◌else◌}
use Rattle.std.specs.Option.{unwrap_or}
use Rattle.lp_folder.specs.Held.{Held, HoldsBut}
use Rattle.lp_folder.specs.Memory.{held_of}
use Rattle.lp_folder.specs.declared.memory.MemFiles.{MemFiles}

-- what holds where a call is Err, and it is
pub err_then : {A E : Type 0} (r : Result A E) (P Q : Type 0) → (P → Q) → OnErr r P → OnErr r Q
err_then (Ok a) P Q f p = p
err_then (Err e) P Q f p = f p

held_same : (u v : Held) → Some u ≡ Some v → u ≡ v
held_same u v e = ap (λ (o : Option Held). unwrap_or o u) e

-- where nothing else is said of the folder, nothing else has changed
pub nothing_changed : (path : List ℕ) (tells0 tells1 : Bool) (m0 m1 m2 : MemFiles) → tells1 ≡ tells0 → (tells0 ≡ true → m1 ≡ m0) → ((q : List ℕ) → held_of m2 q ≡ held_of m1 q)
    → HoldsBut path (if tells0 then Some (held_of m0) else None) (if tells1 then Some (held_of m2) else None)
nothing_changed path true true m0 m1 m2 e same kept h told =
    (held_of m0, refl, λ q other. ap (λ (f : Held). f q) (sym (held_same (held_of m2) h told)) ∙ kept q ∙ ap (λ (m : MemFiles). held_of m q) (same refl))
nothing_changed path true false m0 m1 m2 e same kept h told = cc
nothing_changed path false true m0 m1 m2 e same kept h told = cc
nothing_changed path false false m0 m1 m2 e same kept h told = cc
