-- The workload is a script: each item may stand where it stands.
use Rattle.std.proofs.Common.{rules, subst, ◌≡◌, sym, refl, ℕ, zero, suc, ◌+◌, ◌*◌, ◌/◌, ◌%◌, ◌<◌, ◌≤◌, Bool, true, false, [], ◌∷◌, ◌++◌, arith, inr}
use Rattle.std.specs.Prelude.{◌==◌, if◌then◌else◌, codes, Contains}
use Rattle.std.proofs.lemmas.List.Sums.{AllPass-from_list_all}
use Rattle.rand_xoshiro.specs.SplitMix64.{mix_u64}
use Rattle.lp_events.specs.declared.event.Event.TheVariants.{Line, Tick, Swap}
use Rattle.lp_events.specs.declared.item.Item.TheVariants as items
use Rattle.lp_events.specs.Script.{AllFit, Context, FitsEvent, IsObjectName, IsPath, Over, Running, after_event, after_items, is_line_byte, numeral}
use Rattle.lp_words.specs.Paths.{is_path}
use Rattle.lp_words.proofs.PathLaws.{ends_in_c-no, is_path-yes}
use Rattle.lp_workload.specs.Workload.{box_name, box_path, chosen, event_for, events_from, master_path, moment_after}
use Rattle.lp_workload.specs.Laws.{IsOneScript}
use Rattle.lp_workload.proofs.EventLemmas.{moment_later}

-- ---- the names

path_box_c : IsPath box_path
unfolding is_path
path_box_c = is_path-yes box_path refl

path_master : IsPath master_path
unfolding is_path
path_master = is_path-yes master_path refl

path_box : IsPath (codes "/obj/box")
unfolding is_path
path_box = is_path-yes (codes "/obj/box") refl

name_of_box : (n : ℕ) → IsObjectName (codes "/obj/box#" ++ numeral n)
name_of_box n = record { path = codes "/obj/box"; is_path = path_box; no_source = ends_in_c-no (codes "/obj/box") refl; spelled = inr (n, refl) }

-- ---- the events

-- what stands before an event of the workload
record IsAmid (c : Context) (m : ℕ) : Type 0 where
  pub running : c.stage ≡ Running
  pub moment : c.moment ≡ m
  pub connected : c.connected ≡ 1 ∷ []

kind_fits : (a b d : Bool) (c : Context) (m r s : ℕ) → r < 5 → m + 5 ≤ 1000000000000 → IsAmid c m → FitsEvent c (if a then Line 1 (codes "put") else (if b then Line 1 (codes "get") else (if d then Tick (m + 1 + r) else Swap (box_name s))))
kind_fits true b d c m r s l k i = (subst (λ xs. Contains xs 1) (sym i.connected) (search rules), omega arith, AllPass-from_list_all is_line_byte (codes "put") refl)
kind_fits false true d c m r s l k i = (subst (λ xs. Contains xs 1) (sym i.connected) (search rules), omega arith, AllPass-from_list_all is_line_byte (codes "get") refl)
kind_fits false false true c m r s l k i = (omega (arith, i.moment), omega arith)
kind_fits false false false c m r s l k i = name_of_box (1 + s % 8)

event_fits : (c : Context) (m w : ℕ) → m + 5 ≤ 1000000000000 → IsAmid c m → FitsEvent c (event_for m w)
unfolding event_for
event_fits c m w k i = kind_fits (w % 4 == 0) (w % 4 == 1) (w % 4 == 2) c m ((w / 4) % 5) (w / 4) (omega arith) k i

kind_after : (a b d : Bool) (c : Context) (m r s : ℕ) → IsAmid c m
    → IsAmid (after_event c (if a then Line 1 (codes "put") else (if b then Line 1 (codes "get") else (if d then Tick (m + 1 + r) else Swap (box_name s)))))
    (moment_after m (if a then Line 1 (codes "put") else (if b then Line 1 (codes "get") else (if d then Tick (m + 1 + r) else Swap (box_name s)))))
kind_after true b d c m r s i = i
kind_after false true d c m r s i = i
kind_after false false true c m r s i = record { running = i.running; moment = refl; connected = i.connected }
kind_after false false false c m r s i = i

event_after : (c : Context) (m w : ℕ) → IsAmid c m → IsAmid (after_event c (event_for m w)) (moment_after m (event_for m w))
unfolding event_for
event_after c m w i = kind_after (w % 4 == 0) (w % 4 == 1) (w % 4 == 2) c m ((w / 4) % 5) (w / 4) i

-- ---- the whole

-- the events fit, and the end behind them
events_fit : (n x m : ℕ) (c : Context) → m + 5 * n ≤ 1000000000000 → IsAmid c m → AllFit c (chosen n x m ++ items.End ∷ []) × ((after_items c (chosen n x m ++ items.End ∷ [])).stage ≡ Over)
unfolding events_from
events_fit zero x m c k i = ((i.running, tt), refl)
events_fit (suc n) x m c k i =
    let w = (mix_u64 x).0 in
    let h = events_fit n (mix_u64 x).1 (moment_after m (event_for m w)) (after_event c (event_for m w)) (omega (arith, moment_later m w)) (event_after c m w i) in
    (((i.running, event_fits c m w (omega arith) i), h.0), h.1)

-- what stands before the first event
abbrev amid : Context
amid = record { stage = Running; moment = 0; last_path = master_path; highest = 1; connected = 1 ∷ [] }

pub one_script : IsOneScript
one_script count seed few small =
    let h = events_fit count seed 0 amid (omega arith) (record { running = refl; moment = refl; connected = refl }) in
    record {
      spelled = refl;
      fit = ((refl, small, omega arith), ((refl, path_box_c, refl), ((refl, path_master, refl), (refl, ((refl, (omega arith, omega arith)), h.0)))));
      over = h.1;
    }
