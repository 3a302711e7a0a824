-- Bytes that are written by several calls, one after another.
use Rattle.std.proofs.Common.{subst, ◌≡◌, ap, sym, refl, ◌∙◌, ℕ, ◌<◌, List, [], ◌++◌, Option, Some, None, Result, Ok, Err, length, arith, append_assoc}
use Rattle.std.proofs.lemmas.List.{append-nil}
use Rattle.lp_io.specs.Counts.{Counts}
use Rattle.lp_io.specs.Told.{after_adding}
use Rattle.lp_io.proofs.ToldLemmas.{after_adding-added, IsCut-longer, IsCut-after}
use Rattle.lp_script.specs.Put.{Told}
use Rattle.lp_events.specs.declared.event.Event.TheVariants.{Connect, Line, Gone, Tick, Reload, Swap}
use Rattle.lp_events.specs.declared.item.Item.{Item}
use Rattle.lp_events.specs.declared.item.Item.TheVariants as items
use Rattle.lp_events.specs.Script.{spelling, event_spelling}
use Rattle.lp_workload.specs.declared.fault.WorkloadFault.{WorkloadFault}
use Rattle.lp_workload.specs.declared.fault.WorkloadFault.TheVariants.{NoMemory}
use Rattle.lp_workload.specs.Writes.{Writes, is_failure, is_zero}

-- adding nothing
after_adding-none : (told : Option (List ℕ)) → told ≡ after_adding told []
after_adding-none None = refl
after_adding-none (Some xs) = ap Some (sym (append-nil xs))

-- an item has bytes
some_bytes : (x : Item) → 0 < length (spelling x)
unfolding spelling event_spelling
some_bytes (items.Head seed moment) = omega arith
some_bytes (items.File path bytes) = omega arith
some_bytes items.Start = omega arith
some_bytes (items.Event (Connect k)) = omega arith
some_bytes (items.Event (Line k bytes)) = omega arith
some_bytes (items.Event (Gone k)) = omega arith
some_bytes (items.Event (Tick t)) = omega arith
some_bytes (items.Event (Reload path bytes)) = omega arith
some_bytes (items.Event (Swap name)) = omega arith
some_bytes items.End = omega arith

-- some bytes, and then others
pub Writes-then : {S T : Type 0} (a m c : Told) (x : S) (r : Result T WorkloadFault) (xs ys : List ℕ) → Writes a m (Ok x) xs → Writes m c r ys → Writes a c r (xs ++ ys)
Writes-then a m c x (Ok y) xs ys p q = record {
  whole = q.whole ∙ ap (λ w. after_adding w ys) p.whole ∙ after_adding-added a.written xs ys;
  cut = tt;
  faults = q.faults ∙ p.faults;
  no_fall = omega (arith, p.no_fall, q.no_fall);
  zeros = q.zeros ∙ p.zeros;
  zeros_no_fall = omega (arith, p.zeros_no_fall, q.zeros_no_fall);
}
Writes-then a m c x (Err e) xs ys p q = record {
  whole = tt;
  cut = IsCut-after a.written m.written c.written xs ys p.whole q.cut;
  faults = subst (λ f. Counts (is_failure e) f c.faults) p.faults q.faults;
  no_fall = omega (arith, p.no_fall, q.no_fall);
  zeros = subst (λ f. Counts (is_zero e) f c.zeros) p.zeros q.zeros;
  zeros_no_fall = omega (arith, p.zeros_no_fall, q.zeros_no_fall);
}

-- a cut, where more was to follow
pub Writes-cut : {S T : Type 0} (a c : Told) (e : WorkloadFault) (xs more : List ℕ) → Writes {T = S} a c (Err e) xs → Writes {T = T} a c (Err e) (xs ++ more)
Writes-cut a c e xs more p = record {
  whole = tt;
  cut = IsCut-longer a.written c.written xs more p.cut;
  faults = p.faults;
  no_fall = p.no_fall;
  zeros = p.zeros;
  zeros_no_fall = p.zeros_no_fall;
}

-- other bytes that are the same
pub Writes-same : {T : Type 0} (a c : Told) (r : Result T WorkloadFault) (xs ys : List ℕ) → xs ≡ ys → Writes a c r xs → Writes a c r ys
Writes-same a c r xs ys e p = subst (Writes a c r) e p

-- nothing at all
pub Writes-none : {T : Type 0} (a : Told) (x : T) → Writes a a (Ok x) []
Writes-none a x = record {
  whole = after_adding-none a.written;
  cut = tt;
  faults = refl;
  no_fall = omega arith;
  zeros = refl;
  zeros_no_fall = omega arith;
}

-- no memory for an item
pub Writes-nothing : {T : Type 0} (a : Told) (x : Item) → Writes {T = T} a a (Err NoMemory) (spelling x)
Writes-nothing a x = record {
  whole = tt;
  cut = (0, some_bytes x, after_adding-none a.written);
  faults = refl;
  no_fall = omega arith;
  zeros = refl;
  zeros_no_fall = omega arith;
}

-- some bytes, and then the last ones
pub Writes-last : {S T : Type 0} (a m c : Told) (x : S) (r : Result T WorkloadFault) (xs ys : List ℕ) → Writes a m (Ok x) xs → Writes m c r ys → Writes a c r (xs ++ (ys ++ []))
Writes-last a m c x r xs ys p q = Writes-same a c r (xs ++ ys) (xs ++ (ys ++ [])) (ap (λ zs. xs ++ zs) (sym (append-nil ys))) (Writes-then a m c x r xs ys p q)

-- some bytes, and then a cut where more was to follow
pub Writes-stop : {S T U : Type 0} (a m c : Told) (x : S) (e : WorkloadFault) (xs ys more : List ℕ) → Writes a m (Ok x) xs → Writes {T = T} m c (Err e) ys → Writes {T = U} a c (Err e) (xs ++ (ys ++ more))
Writes-stop a m c x e xs ys more p q = Writes-same a c (Err e) ((xs ++ ys) ++ more) (xs ++ (ys ++ more)) (append_assoc xs ys more) (Writes-cut a c e (xs ++ ys) more (Writes-then a m c x (Err e) xs ys p q))
