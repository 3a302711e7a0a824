-- Swap items, and what goes out behind them.
use Rattle.std.proofs.Common.{◌≡◌, ◌∙◌, ℕ, Bool, true, false, List, Result, Ok, Err, None, ap, arith, refl, sym, subst}
use Rattle.std.specs.Prelude.{IsOk, is_ok, nat_eq}
use Rattle.lp_events.specs.declared.event.Event.{Event}
use Rattle.lp_events.specs.declared.event.Event.TheVariants as events
use Rattle.lp_objects.specs.Objects.{Named}
use Rattle.lp_objects.specs.Stands as names
use Rattle.lp_objects.specs.declared.objects.Objects.{Objects}
use Rattle.lp_driver.specs.Tidying.{drops_behind}
use Rattle.lp_driver.specs.Turning.{IsSwap, NamesNobody}

pub nobody_is_swap : (e : Event) (table : Objects) → NamesNobody e table → IsSwap e
nobody_is_swap (events.Connect k) table h = absurd h
nobody_is_swap (events.Line k bytes) table h = absurd h
nobody_is_swap (events.Gone k) table h = absurd h
nobody_is_swap (events.Tick t) table h = absurd h
nobody_is_swap (events.Reload path bytes) table h = absurd h
nobody_is_swap (events.Swap name) table h = tt

-- a table that stands for the same names names nobody either
pub nobody_still : (e : Event) (old new : Objects) → ((objects : List Named) → names.Stands old objects → names.Stands new objects) → NamesNobody e old → NamesNobody e new
nobody_still (events.Connect k) old new f h = absurd h
nobody_still (events.Line k bytes) old new f h = absurd h
nobody_still (events.Gone k) old new f h = absurd h
nobody_still (events.Tick t) old new f h = absurd h
nobody_still (events.Reload path bytes) old new f h = absurd h
nobody_still (events.Swap name) old new f h = (h.0, f h.0 h.1, h.2)

same_number : (n : ℕ) → nat_eq n n ≡ true
same_number n = grind arith

-- no version is looked through behind a swap item, in which none was made
pub swap_drops_nothing : (e : Event) (before behind : ℕ) → IsSwap e → behind ≡ before → drops_behind e before behind ≡ false
swap_drops_nothing (events.Connect k) before behind h q = absurd h
swap_drops_nothing (events.Line k bytes) before behind h q = absurd h
swap_drops_nothing (events.Gone k) before behind h q = absurd h
swap_drops_nothing (events.Tick t) before behind h q = absurd h
swap_drops_nothing (events.Reload path bytes) before behind h q = absurd h
swap_drops_nothing (events.Swap name) before behind h q = subst (λ n. drops_behind (events.Swap name) before n ≡ false) (sym q) (rw (same_number before) refl)

-- what went well did not fail
pub no_fault : {A E : Type 0} (r : Result A E) (e : E) → IsOk r → r ≡ Err e → ⊥
no_fault r e h q = differ (sym (ap is_ok q) ∙ h)
  where
    differ : false ≡ true → ⊥
    differ f = cc

-- the one of two truths
pub both_ways : (b c : Bool) → b ≡ c → b ≡ true → c ≡ false → ⊥
both_ways b c q t f = cc
