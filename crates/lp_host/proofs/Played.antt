-- One turn more, and a store that lists other paths.
use Rattle.std.proofs.Common.{subst, ◌≡◌, ◌∙◌, ℕ, List, [], ◌∷◌, ◌++◌, map, Option, refl, sym, ap}
use Rattle.lp_events.specs.declared.event.Event.{Event}
use Rattle.lp_events.specs.declared.out.Out.{Out}
use Rattle.lp_swapfile.specs.Device.{Bytes}
use Rattle.lp_language.specs.World.{File, World}
use Rattle.lp_meaning.specs.FrontEnd.{FrontEnd}
use Rattle.lp_meaning.specs.Closing.{Run, RunsFrom, Starts, Turns, over, then}
use Rattle.lp_front_end.specs.FrontEnds.{IsFrontEnd}
use Rattle.lp_files.specs.declared.store.Store.{Store}
use Rattle.lp_first.specs.First.{HasFiles}
use Rattle.lp_world.specs.declared.live.Live.{Live}
use Rattle.lp_driver.specs.Driving.{IsAtRest, StartsAs, TurnsAs}
use Rattle.lp_core.specs.Turning.{Origin, Turn}
use Rattle.lp_host.specs.Playing.{HasPlayed, PlayedBy, event_of, outputs_of, world_files}

events-push : (ts : List Turn) (t : Turn) → map event_of (ts ++ t ∷ []) ≡ map event_of ts ++ event_of t ∷ []
events-push [] t = refl
events-push (u ∷ ts) t = ap (λ es. event_of u ∷ es) (events-push ts t)

outputs-push : (ts : List Turn) (t : Turn) → map outputs_of (ts ++ t ∷ []) ≡ map outputs_of ts ++ outputs_of t ∷ []
outputs-push [] t = refl
outputs-push (u ∷ ts) t = ap (λ os. outputs_of u ∷ os) (outputs-push ts t)

runs-push : (front : FrontEnd) {w mid last : World} {es : List Event} {outputs : List (List Out)} (e : Event) (outs : List Out)
    → RunsFrom front w es outputs mid → Turns front mid e outs last → RunsFrom front w (es ++ e ∷ []) (outputs ++ outs ∷ []) last
runs-push front e outs over t = then t over
runs-push front e outs (then u r) t = then u (runs-push front e outs r t)

run-push : (front : FrontEnd) (seed moment : ℕ) (files : List File) (es : List Event) (first : List Out) (outputs : List (List Out)) (mid last : World) (e : Event) (outs : List Out)
    → Run front seed moment files es (first ∷ outputs) mid → Turns front mid e outs last → Run front seed moment files (es ++ e ∷ []) (first ∷ (outputs ++ outs ∷ [])) last
run-push front seed moment files es first outputs mid last e outs r t = record {
  first = r.first;
  at_start = r.at_start;
  more = r.more ++ outs ∷ [];
  starts = r.starts;
  runs = runs-push front e outs r.runs t;
  all = ap (λ os. os ++ outs ∷ []) r.all;
}

run-told : (front : FrontEnd) (origin : Origin) (ts : List Turn) (t : Turn) (last : World)
    → Run front origin.seed origin.moment (world_files origin.files) (map event_of ts ++ event_of t ∷ []) (origin.outputs ∷ (map outputs_of ts ++ outputs_of t ∷ [])) last
    → Run front origin.seed origin.moment (world_files origin.files) (map event_of (ts ++ t ∷ [])) (origin.outputs ∷ map outputs_of (ts ++ t ∷ [])) last
run-told front origin ts t last r =
    subst (λ es. Run front origin.seed origin.moment (world_files origin.files) es (origin.outputs ∷ map outputs_of (ts ++ t ∷ [])) last) (sym (events-push ts t))
    (subst (λ os. Run front origin.seed origin.moment (world_files origin.files) (map event_of ts ++ event_of t ∷ []) (origin.outputs ∷ os) last) (sym (outputs-push ts t)) r)

-- one turn more
pub played_more : (origin : Origin) (told0 told1 : Option Bytes) (live0 live1 : Live) (ts : List Turn) (e : Event) (outs : List Out)
    → HasPlayed origin told0 live0 ts → TurnsAs e told0 live0 told1 live1 outs → HasPlayed origin told1 live1 (ts ++ (e, outs) ∷ [])
played_more origin told0 told1 live0 live1 ts e outs h t = λ front real.
    let p = h front real in
    let u = t front p.last real p.rest in
    record {
      last = u.next;
      run = run-told front origin ts (e, outs) u.next
          (run-push front origin.seed origin.moment (world_files origin.files) (map event_of ts) origin.outputs (map outputs_of ts) p.last u.next e outs p.run u.turns);
      rest = u.rest;
    }

-- a state that stands for the same worlds came about alike
pub played_alike : (origin : Origin) (told : Option Bytes) (live0 live1 : Live) (ts : List Turn) → ((w : World) → IsAtRest told live0 w → IsAtRest told live1 w) → HasPlayed origin told live0 ts → HasPlayed origin told live1 ts
played_alike origin told live0 live1 ts f h = λ front real.
    let p = h front real in
    record { last = p.last; run = p.run; rest = f p.last p.rest }

-- a game that has just begun
pub played_begun : (origin : Origin) (store : Store) (told : Option Bytes) (live : Live) → HasFiles store (world_files origin.files) → StartsAs store origin.seed origin.moment told live origin.outputs → HasPlayed origin told live []
played_begun origin store told live f h = λ front real.
    let s = h front (world_files origin.files) real f in
    record {
      last = s.first;
      run = record { first = s.first; at_start = origin.outputs; more = []; starts = s.starts; runs = over; all = refl };
      rest = s.rest;
    }
