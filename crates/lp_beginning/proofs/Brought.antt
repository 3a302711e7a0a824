-- What is brought into memory before something else is done.
use Rattle.std.proofs.Common.{◌≡◌, ℕ, List, Option, Result, Ok, Err, IfErr, refl, sym, subst}
use Rattle.lp_swapfile.specs.Device.{Bytes, Last}
use Rattle.lp_world.specs.declared.live.Live.{Live}
use Rattle.lp_residence.specs.declared.answers.EnterFault.{EnterFault}
use Rattle.lp_residence.specs.declared.answers.EnterFault.TheVariants as enters
use Rattle.lp_targets.specs.Brought.{Brings}
use Rattle.lp_targets.proofs.Memory.{brings_err, brings_no_memory, brings_ok, stays_same}
use Rattle.lp_beginning.specs.declared.fault.MakingFault.{MakingFault}
use Rattle.lp_beginning.specs.declared.fault.MakingFault.TheVariants as faults
use Rattle.lp_beginning.specs.Beginning.{BringsFirst, IsRefusal, OnSwap, IsRefusedFor, brought_as, brought_by, fault_of}

on_swap : {P : Type 0} (e : EnterFault) → P → OnSwap (Err e) P
on_swap (enters.Swap cause) p = p
on_swap enters.NoMemory p = tt

-- nothing
pub none_first : {live1 : Live} (told : Option Bytes) (last : Last) (reads writes : ℕ) (truth honest : Type 0) (live : Live) → BringsFirst told told last reads reads writes writes truth truth honest honest live live1 (Ok tt)
none_first told last reads writes truth honest live = record {
  between = live;
  brings = record { stays = stays_same live; cause = tt; faults = refl; write_faults = refl; kept = refl; truthful = λ t. t; honest = λ h. (h, λ t programs w s. tt) };
  still = tt;
}

-- and memory ran out
pub none_left : {live1 : Live} (told : Option Bytes) (last : Last) (reads writes : ℕ) (truth honest : Type 0) (live : Live) → BringsFirst told told last reads reads writes writes truth truth honest honest live live1 (Err enters.NoMemory)
none_left told last reads writes truth honest live = record {
  between = live;
  brings = record { stays = stays_same live; cause = tt; faults = refl; write_faults = refl; kept = refl; truthful = λ t. t; honest = λ h. (h, λ t programs w s. tt) };
  still = tt;
}

pub first_ok : {A : Type 0} {told0 told1 : Option Bytes} {last : Last} {reads0 reads1 writes0 writes1 : ℕ} {true0 true1 honest0 honest1 : Type 0} {old new live1 : Live} {x : A}
    → Brings told0 told1 last reads0 reads1 writes0 writes1 true0 true1 honest0 honest1 old new (Ok x) → BringsFirst told0 told1 last reads0 reads1 writes0 writes1 true0 true1 honest0 honest1 old live1 (Ok tt)
first_ok {new = new} h = record { between = new; brings = brings_ok h (stays_same new); still = tt }

pub first_left : {A : Type 0} {told0 told1 : Option Bytes} {last : Last} {reads0 reads1 writes0 writes1 : ℕ} {true0 true1 honest0 honest1 : Type 0} {old new live1 : Live} {x : A}
    → Brings told0 told1 last reads0 reads1 writes0 writes1 true0 true1 honest0 honest1 old new (Ok x) → BringsFirst told0 told1 last reads0 reads1 writes0 writes1 true0 true1 honest0 honest1 old live1 (Err enters.NoMemory)
first_left {new = new} h = record { between = new; brings = brings_no_memory h; still = tt }

pub first_err : {A : Type 0} {told0 told1 : Option Bytes} {last : Last} {reads0 reads1 writes0 writes1 : ℕ} {true0 true1 honest0 honest1 : Type 0} {old new : Live} {e : EnterFault}
    → Brings {A = A} told0 told1 last reads0 reads1 writes0 writes1 true0 true1 honest0 honest1 old new (Err e) → BringsFirst told0 told1 last reads0 reads1 writes0 writes1 true0 true1 honest0 honest1 old new (Err e)
first_err {new = new} {e = e} h = record { between = new; brings = brings_err h; still = on_swap e refl }

-- as why no object was made
pub first_fault : {A : Type 0} {told0 told1 : Option Bytes} {last : Last} {reads0 reads1 writes0 writes1 : ℕ} {true0 true1 honest0 honest1 : Type 0} {old new : Live} (e : EnterFault) (f : MakingFault) → f ≡ fault_of e
    → Brings {A = A} told0 told1 last reads0 reads1 writes0 writes1 true0 true1 honest0 honest1 old new (Err e) → BringsFirst told0 told1 last reads0 reads1 writes0 writes1 true0 true1 honest0 honest1 old new (brought_as f)
first_fault {told0 = told0} {told1 = told1} {last = last} {reads0 = reads0} {reads1 = reads1} {writes0 = writes0} {writes1 = writes1} {true0 = true0} {true1 = true1} {honest0 = honest0} {honest1 = honest1} {old = old} {new = new} e f is h =
    subst (λ x. BringsFirst told0 told1 last reads0 reads1 writes0 writes1 true0 true1 honest0 honest1 old new (brought_as x)) (sym is) (by e (first_err h))
  where
    by : (e : EnterFault) → BringsFirst told0 told1 last reads0 reads1 writes0 writes1 true0 true1 honest0 honest1 old new (Err e) → BringsFirst told0 told1 last reads0 reads1 writes0 writes1 true0 true1 honest0 honest1 old new (brought_as (fault_of e))
    by (enters.Swap cause) h = h
    by enters.NoMemory h = h

-- the object was refused then
pub first_refused : {A : Type 0} {told0 told1 : Option Bytes} {last : Last} {reads0 reads1 writes0 writes1 : ℕ} {true0 true1 honest0 honest1 : Type 0} {old new live1 : Live} {x : A} (f : MakingFault) → IsRefusal f
    → Brings told0 told1 last reads0 reads1 writes0 writes1 true0 true1 honest0 honest1 old new (Ok x) → BringsFirst told0 told1 last reads0 reads1 writes0 writes1 true0 true1 honest0 honest1 old live1 (brought_as f)
first_refused faults.NameTaken r h = first_ok h
first_refused (faults.Swap cause) r h = absurd r
first_refused faults.NoMemory r h = first_left h

-- nothing was brought where there is no room
pub full_first : {B : Type 0} {live1 : Live} (told : Option Bytes) (last : Last) (reads writes : ℕ) (truth honest : Type 0) (live : Live) (r : Result B MakingFault) → IfErr r (λ e. e ≡ faults.NoMemory)
    → BringsFirst told told last reads reads writes writes truth truth honest honest live live1 (brought_by r)
full_first told last reads writes truth honest live (Ok x) i = none_first told last reads writes truth honest live
full_first {live1 = live1} told last reads writes truth honest live (Err e) i =
    subst (λ f. BringsFirst told told last reads reads writes writes truth truth honest honest live live1 (brought_as f)) (sym i) (none_left told last reads writes truth honest live)

pub full_refused : {B : Type 0} (told : Option Bytes) (live : Live) (name : List ℕ) (r : Result B MakingFault) → IfErr r (λ e. e ≡ faults.NoMemory) → IfErr r (IsRefusedFor told live name)
full_refused told live name (Ok x) i = tt
full_refused told live name (Err e) i = subst (IsRefusedFor told live name) (sym i) tt
