-- How the state of a replay came about.
use Rattle.std.specs.Prelude.{ℕ, List, [], ◌∷◌, ◌++◌, Option}
use Rattle.lp_events.specs.declared.event.Event.{Event}
use Rattle.lp_events.specs.declared.out.Out.{Out}
use Rattle.lp_files.specs.declared.store.Store.{Store}
use Rattle.lp_first.specs.First.{HasFiles}
use Rattle.lp_swapfile.specs.Device.{Bytes}
use Rattle.lp_language.specs.World.{File}
use Rattle.lp_world.specs.declared.live.Live.{Live}
use Rattle.lp_residence.specs.declared.answers.Idled.{Idled}
use Rattle.lp_driver.specs.Driving.{StartsAs}
use Rattle.lp_driver.specs.Tidying.{HasTidied}

-- HOW A STATE CAME ABOUT: by the start on these files, with this seed and at this moment, and by a turn for each of these events, behind
-- which what was to go out by the swap time went out or stayed for a cause.
pub data HasCome (swap_time seed moment : ℕ) (files : List File) : List Event → Option Bytes → Live → Type 0 where
  begun : (store : Store) (told : Option Bytes) (live : Live) (outs : List Out) → HasFiles store files → StartsAs store seed moment told live outs → HasCome swap_time seed moment files [] told live
  gone_on : (es : List Event) (e : Event) (told0 told1 : Option Bytes) (live0 live1 : Live) (writes0 writes1 : ℕ) (idled : Idled) → HasCome swap_time seed moment files es told0 live0
      → HasTidied swap_time e told0 writes0 live0 told1 writes1 live1 idled → HasCome swap_time seed moment files (es ++ e ∷ []) told1 live1
