-- Starting the driver, and what a replay has written before that.
use Rattle.std.proofs.Common.{subst, ◌≡◌, ◌∙◌, ◌≤◌, ◌^◌, ℕ, List, [], ◌∷◌, ◌++◌, Bool, true, false, Option, Some, refl, sym, ap, inr}
use Rattle.std.proofs.lemmas.List.{append-nil}
use Rattle.lp_tree.specs.declared.fault.Fault.{Fault}
use Rattle.lp_swapfile.specs.Device.{Bytes}
use Rattle.lp_events.specs.declared.item.Item.{Item}
use Rattle.lp_events.specs.declared.item.Item.TheVariants as items
use Rattle.lp_events.specs.declared.out.Out.{Out}
use Rattle.lp_events.specs.Script.{beginning, after_item, AllFit, Context, seed_of, events_of}
use Rattle.lp_language.specs.World.{World}
use Rattle.lp_meaning.specs.FrontEnd.{FrontEnd}
use Rattle.lp_meaning.specs.Closing.{MakesNoMaster, over}
use Rattle.lp_world.specs.declared.live.Live.{Live}
use Rattle.lp_world.specs.Closed.{IsClosed}
use Rattle.lp_driver.specs.Driving.{HasStarted, HasNoMaster as has_none, IsAtRest, StartsAs}
use Rattle.lp_script.specs.Reader.{Reading, GoesOn, Reads}
use Rattle.lp_driver.specs.VmFault.{VmFault}
use Rattle.lp_driver.specs.VmFault.TheVariants as faults
use Rattle.lp_top.specs.declared.opening.Opening.{Opening}
use Rattle.lp_top.specs.declared.status.Status.{Status}
use Rattle.lp_top.specs.declared.status.Status.TheVariants as ends
use Rattle.lp_top.specs.Causes.{stop_status}
use Rattle.lp_top.specs.Coming.{begun}
use Rattle.lp_top.specs.Items.{Holds, HasNoMaster, before, has_started, moment_of, world_files}
use Rattle.lp_top.specs.Replay.{IsAtStart, IsGoing, HasRun, Ends, Replays, IsReadingEnd}
use Rattle.lp_top.proofs.Reading.{begins_with}
use Rattle.lp_top.proofs.Filing.{last-fits, is_early, early-not-running, moment-small}
use Rattle.lp_top.proofs.Going.{come-behind, run-behind, wrote-reading, holds-front}

-- no event stands before `start`
no-events : (c : Context) (xs : List Item) → is_early c.stage ≡ true → has_started xs ≡ false → AllFit c xs → events_of xs ≡ []
no-events c [] e h f = refl
no-events c (items.Head seed moment ∷ xs) e h f = no-events (after_item c (items.Head seed moment)) xs refl h f.1
no-events c (items.File path bytes ∷ xs) e h f = no-events (after_item c (items.File path bytes)) xs e h f.1
no-events c (items.Start ∷ xs) e h f = absurd cc
no-events c (items.Event event ∷ xs) e h f = absurd (early-not-running c.stage e f.0.0)
no-events c (items.End ∷ xs) e h f = absurd (early-not-running c.stage e f.0)

events-none : (r : Reading) (opening : Opening) (a : IsAtStart r opening) → events_of a.files ≡ []
events-none r opening a = no-events beginning a.files refl a.not_started (last-fits beginning a.files items.Start a.given.fit).1

started-last : (xs : List Item) → has_started (xs ++ items.Start ∷ []) ≡ true
started-last [] = refl
started-last (items.Head seed moment ∷ xs) = started-last xs
started-last (items.File path bytes ∷ xs) = started-last xs
started-last (items.Start ∷ xs) = refl
started-last (items.Event event ∷ xs) = started-last xs
started-last (items.End ∷ xs) = started-last xs

-- the driver may start at the moment of the head
pub may-start : (r : Reading) (opening : Opening) → IsAtStart r opening → opening.moment ≤ 10 ^ 12
may-start r opening a = subst (λ n. n ≤ 10 ^ 12) (sym a.noted.moment) (moment-small a.files (last-fits beginning a.files items.Start a.given.fit).1)

-- the start is that of the items
of-items : (r : Reading) (opening : Opening) (a : IsAtStart r opening) (P : ℕ → ℕ → Type 0) → P opening.seed opening.moment → P (seed_of a.files) (moment_of a.files)
of-items r opening a P p = subst (λ n. P n (moment_of a.files)) a.noted.seed (subst (P opening.seed) a.noted.moment p)

has_run-start : (front : FrontEnd) (xs : List Item) (outs : List Out) (told : Option Bytes) (live : Live) → events_of xs ≡ [] → HasStarted front (world_files xs) (seed_of xs) (moment_of xs) told live outs
    → HasRun front (xs ++ items.Start ∷ []) (outs ∷ []) told live
has_run-start front xs outs told live e h = record {
  last = h.first;
  run = run-behind front xs items.Start [] (outs ∷ []) h.first refl refl (append-nil (events_of xs) ∙ e) (record { first = h.first; at_start = outs; more = []; starts = h.starts; runs = over; all = refl });
  rest = h.rest;
}

-- the driver has started
pub going-start : (swap_time : ℕ) (r : Reading) (opening : Opening) (told : Option Bytes) (live : Live) (outs : List Out) (a : IsAtStart r opening) → StartsAs opening.store opening.seed opening.moment told live outs → IsClosed live
    → (w : World) × IsAtRest told live w → IsGoing swap_time r told live (a.files ++ items.Start ∷ []) (outs ∷ [])
going-start swap_time r opening told live outs a s closed rest = record {
  given = a.given;
  phase = a.phase;
  started = started-last a.files;
  runs = λ front real. has_run-start front a.files outs told live (events-none r opening a)
      (of-items r opening a (λ seed moment. HasStarted front (world_files a.files) seed moment told live outs) (s front (world_files a.files) real a.noted.files));
  came = come-behind swap_time a.files items.Start [] told live refl refl (append-nil (events_of a.files) ∙ events-none r opening a)
      (begun opening.store told live outs a.noted.files (of-items r opening a (λ seed moment. StartsAs opening.store seed moment told live outs) s));
  closed = closed;
  rest = rest;
}

held : (b : List ℕ) (r : Reading) (told : Option (List ℕ)) (opening : Opening) (a : IsAtStart r opening) → Reads b r told → Holds b (a.files ++ items.Start ∷ [])
held b r told opening a h = begins_with b r told (a.files ++ items.Start ∷ []) h (subst GoesOn (sym a.phase) tt) a.given

-- nothing was written
nothing-more : (from : Option (List ℕ)) (old : List ℕ) → from ≡ Some old → from ≡ Some (old ++ [])
nothing-more from old e = e ∙ ap (λ z. Some z) (sym (append-nil old))

none-of : (r : Reading) (opening : Opening) (fs : List Fault) (a : IsAtStart r opening) → has_none opening.store opening.seed opening.moment fs → HasNoMaster a.files fs
none-of r opening fs a m front real = of-items r opening a (λ seed moment. MakesNoMaster front (world_files a.files) seed moment fs) (m front (world_files a.files) real a.noted.files)

-- there is no master
pub replays-none : (swap_time : ℕ) (report : Bool) (b : List ℕ) (r : Reading) (told from : Option (List ℕ)) (opening : Opening) (fs : List Fault) (a : IsAtStart r opening) → Reads b r told → has_none opening.store opening.seed opening.moment fs → Replays swap_time report b (ends.NoMaster fs) from from
replays-none swap_time report b r told from opening fs a h m = record {
  read = a.files;
  ends = (held b r told opening a h, a.not_started, none-of r opening fs a m);
  wrote = λ old e. ([], nothing-more from old e, refl);
}

-- the start was not carried out
pub replays-unstarted : (swap_time : ℕ) (report : Bool) (b : List ℕ) (r : Reading) (told from : Option (List ℕ)) (opening : Opening) (e : VmFault) (a : IsAtStart r opening) → Reads b r told → Replays swap_time report b (stop_status e) from from
replays-unstarted swap_time report b r told from opening faults.NoMemory a h = record {
  read = a.files;
  ends = holds-front b a.files (items.Start ∷ []) (held b r told opening a h);
  wrote = λ old e. ([], nothing-more from old e, before a.not_started);
}
replays-unstarted swap_time report b r told from opening (faults.Swap cause) a h =
    let k = held b r told opening a h in
    record {
      read = a.files;
      ends = (holds-front b a.files (items.Start ∷ []) k, record { item = items.Start; begins = k; turns = refl });
      wrote = λ old e. ([], nothing-more from old e, before a.not_started);
    }

-- reading ended before `start`
pub replays-early : (swap_time : ℕ) (report : Bool) (b : List ℕ) (from : Option (List ℕ)) (s : Status) (xs : List Item) → has_started xs ≡ false → Ends b xs s → IsReadingEnd s → Replays swap_time report b s from from
replays-early swap_time report b from s xs n e k = record { read = xs; ends = e; wrote = λ old f. ([], nothing-more from old f, wrote-reading swap_time report b xs [] s k (before n)) }

abbrev is_done : Status → Bool
is_done ends.Done = true
is_done s = false

-- what was not carried out is not done
pub stop-not-done : (e : VmFault) → stop_status e ≡ ends.Done → ⊥
stop-not-done faults.NoMemory e = let h : false ≡ true = ap is_done e in absurd cc
stop-not-done (faults.Swap cause) e = let h : false ≡ true = ap is_done e in absurd cc
