-- The events of a workload, one after another.
use Rattle.std.proofs.Common.{◌≡◌, ap, sym, refl, ◌∙◌, ℕ, suc, ◌+◌, ◌*◌, ◌/◌, ◌%◌, ◌<◌, ◌≤◌, Bool, true, false, List, [], ◌++◌, arith, append_assoc}
use Rattle.std.specs.Prelude.{◌==◌, if◌then◌else◌, codes}
use Rattle.std.specs.Prelude.{Ok, Err}
use Rattle.std.proofs.lemmas.List.{append-nil}
use Rattle.std.proofs.lemmas.List.Concat.{flat_map-append}
use Rattle.rand_xoshiro.specs.SplitMix64.{mix_u64}
use Rattle.lp_events.specs.declared.event.Event.TheVariants.{Line, Tick, Swap}
use Rattle.lp_events.specs.declared.item.Item.{Item}
use Rattle.lp_events.specs.declared.item.Item.TheVariants as items
use Rattle.lp_events.specs.Script.{spelling, spellings}
use Rattle.lp_script.specs.Put.{Told}
use Rattle.lp_workload.specs.declared.fault.WorkloadFault.{WorkloadFault}
use Rattle.lp_workload.specs.Writes.{Writes}
use Rattle.lp_workload.specs.Workload.{box_name, chosen, event_for, events_from, moment_after}
use Rattle.lp_workload.proofs.WritingLemmas.{Writes-none, Writes-same, Writes-stop, Writes-then}

-- an event moves the clock by at most five seconds
kind_later : (a b c : Bool) (m r s : ℕ) → r < 5 → moment_after m (if a then Line 1 (codes "put") else (if b then Line 1 (codes "get") else (if c then Tick (m + 1 + r) else Swap (box_name s)))) ≤ m + 5
kind_later true b c m r s l = omega arith
kind_later false true c m r s l = omega arith
kind_later false false true m r s l = omega arith
kind_later false false false m r s l = omega arith

pub moment_later : (m w : ℕ) → moment_after m (event_for m w) ≤ m + 5
unfolding event_for
moment_later m w = kind_later (w % 4 == 0) (w % 4 == 1) (w % 4 == 2) m ((w / 4) % 5) (w / 4) (omega arith)

-- one event, and the others
pub chosen_more : (n x m : ℕ) → spellings (chosen (suc n) x m) ≡ spelling (items.Event (event_for m (mix_u64 x).0)) ++ spellings (chosen n (mix_u64 x).1 (moment_after m (event_for m (mix_u64 x).0)))
unfolding events_from
chosen_more n x m = refl

pub spellings-append : (xs ys : List Item) → spellings (xs ++ ys) ≡ spellings xs ++ spellings ys
spellings-append xs ys = flat_map-append spelling xs ys

-- The events up to where so many are left were written, and the generator and the clock stand before the next.
pub record IsUnderway (a c : Told) (count seed left x t : ℕ) : Type 0 where
  pub fewer : left ≤ count
  pub early : t + 5 * left ≤ 5 * count
  pub bytes : List ℕ
  pub rest : spellings (chosen count seed 0) ≡ bytes ++ spellings (chosen left x t)
  pub wrote : Writes {T = Unit {0}} a c (Ok tt) bytes

pub underway_first : (a : Told) (count seed x : ℕ) → x ≡ seed → IsUnderway a a count seed count x 0
underway_first a count seed x e = record { fewer = omega arith; early = omega arith; bytes = []; rest = ap (λ y. spellings (chosen count y 0)) (sym e); wrote = Writes-none a tt }

-- the rest is one event, and the others
rest_is : (a c : Told) (count seed left n x t : ℕ) → IsUnderway a c count seed left x t → left ≡ suc n → (i : List ℕ) → i ≡ spellings (chosen left x t)
    → i ≡ spelling (items.Event (event_for t (mix_u64 x).0)) ++ spellings (chosen n (mix_u64 x).1 (moment_after t (event_for t (mix_u64 x).0)))
rest_is a c count seed left n x t h e i f = f ∙ ap (λ k. spellings (chosen k x t)) e ∙ chosen_more n x t

wrote_one : (m c : Told) (v : ℕ) (bytes : List ℕ) → Writes {T = ℕ} m c (Ok v) bytes → Writes {T = Unit {0}} m c (Ok tt) bytes
wrote_one m c v bytes w = record { whole = w.whole; cut = tt; faults = w.faults; no_fall = w.no_fall; zeros = w.zeros; zeros_no_fall = w.zeros_no_fall }

-- one more event
pub underway_next : (a m c : Told) (count seed left n x y t u v : ℕ) → IsUnderway a m count seed left x t → left ≡ suc n → Writes {T = ℕ} m c (Ok v) (spelling (items.Event (event_for t (mix_u64 x).0)))
    → u ≡ moment_after t (event_for t (mix_u64 x).0) → y ≡ (mix_u64 x).1 → IsUnderway a c count seed n y u
underway_next a m c count seed left n x y t u v h e w later moved =
    let one = spelling (items.Event (event_for t (mix_u64 x).0)) in
    let others = rest_is a m count seed left n x t h e (spellings (chosen left x t)) refl in
    record {
      fewer = omega (arith, h.fewer);
      early = omega (arith, h.early, later, moment_later t (mix_u64 x).0);
      bytes = h.bytes ++ one;
      rest = h.rest ∙ ap (λ zs. h.bytes ++ zs) others ∙ sym (append_assoc h.bytes one (spellings (chosen n (mix_u64 x).1 (moment_after t (event_for t (mix_u64 x).0)))))
          ∙ ap (λ z. (h.bytes ++ one) ++ spellings (chosen n z (moment_after t (event_for t (mix_u64 x).0)))) (sym moved)
          ∙ ap (λ z. (h.bytes ++ one) ++ spellings (chosen n y z)) (sym later);
      wrote = Writes-then a m c tt (Ok tt) h.bytes one h.wrote (wrote_one m c v one w);
    }

-- an event that was cut
pub underway_stop : (a m c : Told) (e : WorkloadFault) (count seed left n x t : ℕ) → IsUnderway a m count seed left x t → left ≡ suc n → Writes {T = ℕ} m c (Err e) (spelling (items.Event (event_for t (mix_u64 x).0)))
    → Writes {T = Unit {0}} a c (Err e) (spellings (chosen count seed 0))
underway_stop a m c e count seed left n x t h f w =
    let one = spelling (items.Event (event_for t (mix_u64 x).0)) in
    let others = rest_is a m count seed left n x t h f (spellings (chosen left x t)) refl in
    Writes-same a c (Err e) _ _ (sym (h.rest ∙ ap (λ zs. h.bytes ++ zs) others)) (Writes-stop a m c tt e h.bytes one (spellings (chosen n (mix_u64 x).1 (moment_after t (event_for t (mix_u64 x).0)))) h.wrote w)

-- all events
pub underway_last : (a c : Told) (count seed left x t : ℕ) → IsUnderway a c count seed left x t → left ≡ 0 → Writes {T = Unit {0}} a c (Ok tt) (spellings (chosen count seed 0))
unfolding events_from
underway_last a c count seed left x t h e = Writes-same a c (Ok tt) _ _ (sym (h.rest ∙ ap (λ k. h.bytes ++ spellings (chosen k x t)) e ∙ append-nil h.bytes)) h.wrote
