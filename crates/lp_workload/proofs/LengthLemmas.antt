-- How many bytes the script of a workload has.
use Rattle.std.proofs.Common.{◌≡◌, ap, refl, ℕ, zero, suc, ◌+◌, ◌*◌, ◌/◌, ◌%◌, ◌^◌, ◌<◌, ◌≤◌, Bool, true, false, List, [], ◌∷◌, ◌++◌, length, arith, length-append}
use Rattle.std.specs.Prelude.{◌==◌, if◌then◌else◌, codes}
use Rattle.std.proofs.lemmas.Fmt.{length-decimal-le_wide}
use Rattle.rand_xoshiro.specs.SplitMix64.{mix_u64}
use Rattle.lp_events.specs.declared.event.Event.TheVariants.{Line, Tick, Swap}
use Rattle.lp_events.specs.declared.item.Item.TheVariants as items
use Rattle.lp_events.specs.Script.{event_spelling, numeral, spelling, spellings}
use Rattle.lp_script.proofs.Numerals.{decimal-numeral}
use Rattle.lp_workload.specs.Workload.{beginning, box_name, box_path, box_source, chosen, event_for, events_from, master_path, master_source, moment_after, mudlib}
use Rattle.lp_workload.specs.Laws.{IsWithinAnInput}
use Rattle.lp_workload.proofs.EventLemmas.{moment_later, spellings-append}

numeral_short : (k n : ℕ) → 0 < k → n < 10 ^ k → n < 10 ^ 64 → length (numeral n) ≤ k
numeral_short k n some fits small = rw (← decimal-numeral n small) (length-decimal-le_wide k n some fits small)

line_short : (k : ℕ) (text : List ℕ) → k < 10 ^ 13 → length text < 10 ^ 13 → length (event_spelling (Line k text)) ≤ 34 + length text
unfolding event_spelling
line_short k text small short =
    let a : length (numeral k) ≤ 13 = numeral_short 13 k (omega arith) small (omega arith) in
    let b : length (numeral (length text)) ≤ 13 = numeral_short 13 (length text) (omega arith) short (omega arith) in
    omega (
      arith,
      a,
      b,
      length-append (codes "line " ++ numeral k) (codes " "),
      length-append (codes "line ") (numeral k),
      length-append ((codes "line " ++ numeral k) ++ codes " ") (((numeral (length text) ++ codes "\n") ++ text) ++ codes "\n"),
      length-append ((numeral (length text) ++ codes "\n") ++ text) (codes "\n"),
      length-append (numeral (length text) ++ codes "\n") text,
      length-append (numeral (length text)) (codes "\n"),
    )

tick_short : (t : ℕ) → t < 10 ^ 13 → length (event_spelling (Tick t)) ≤ 34
unfolding event_spelling
tick_short t small =
    let a : length (numeral t) ≤ 13 = numeral_short 13 t (omega arith) small (omega arith) in
    omega (arith, a, length-append (codes "tick " ++ numeral t) (codes "\n"), length-append (codes "tick ") (numeral t))

swap_short : (n : ℕ) → n < 10 ^ 13 → length (event_spelling (Swap (codes "/obj/box#" ++ numeral n))) ≤ 34
unfolding event_spelling
swap_short n small =
    let a : length (numeral n) ≤ 13 = numeral_short 13 n (omega arith) small (omega arith) in
    omega (arith, a, length-append (codes "swap " ++ (codes "/obj/box#" ++ numeral n)) (codes "\n"), length-append (codes "swap ") (codes "/obj/box#" ++ numeral n), length-append (codes "/obj/box#") (numeral n))

kind_short : (a b d : Bool) (m r s : ℕ) → r < 5 → m + 5 ≤ 1000000000000 → length (event_spelling (if a then Line 1 (codes "put") else (if b then Line 1 (codes "get") else (if d then Tick (m + 1 + r) else Swap (box_name s))))) ≤ 37
kind_short true b d m r s l k = line_short 1 (codes "put") (omega arith) (omega arith)
kind_short false true d m r s l k = line_short 1 (codes "get") (omega arith) (omega arith)
kind_short false false true m r s l k = omega (arith, tick_short (m + 1 + r) (omega arith))
kind_short false false false m r s l k = omega (arith, swap_short (1 + s % 8) (omega arith))

event_short : (m w : ℕ) → m + 5 ≤ 1000000000000 → length (event_spelling (event_for m w)) ≤ 37
unfolding event_for
event_short m w k = kind_short (w % 4 == 0) (w % 4 == 1) (w % 4 == 2) m ((w / 4) % 5) (w / 4) (omega arith) k

item_short : (m w : ℕ) → m + 5 ≤ 1000000000000 → length (spelling (items.Event (event_for m w))) ≤ 37
unfolding spelling
item_short m w k = event_short m w k

events_short : (n x m : ℕ) → m + 5 * n ≤ 1000000000000 → length (spellings (chosen n x m)) ≤ 37 * n
unfolding events_from
events_short zero x m k = omega arith
events_short (suc n) x m k =
    let w = (mix_u64 x).0 in
    let rest = events_short n (mix_u64 x).1 (moment_after m (event_for m w)) (omega (arith, moment_later m w)) in
    let one = item_short m w (omega arith) in
    omega (arith, rest, one, length-append (spelling (items.Event (event_for m w))) (spellings (chosen n (mix_u64 x).1 (moment_after m (event_for m w)))))

counted_short : (bytes : List ℕ) → length bytes < 10 ^ 13 → length (((numeral (length bytes) ++ codes "\n") ++ bytes) ++ codes "\n") ≤ length bytes + 15
counted_short bytes short =
    let a : length (numeral (length bytes)) ≤ 13 = numeral_short 13 (length bytes) (omega arith) short (omega arith) in
    omega (arith, a, length-append ((numeral (length bytes) ++ codes "\n") ++ bytes) (codes "\n"), length-append (numeral (length bytes) ++ codes "\n") bytes, length-append (numeral (length bytes)) (codes "\n"))

file_short : (path bytes : List ℕ) → length bytes < 10 ^ 13 → length (spelling (items.File path bytes)) ≤ length path + length bytes + 21
unfolding spelling
file_short path bytes short =
    omega (arith, counted_short bytes short, length-append ((codes "file " ++ path) ++ codes " ") (((numeral (length bytes) ++ codes "\n") ++ bytes) ++ codes "\n"), length-append (codes "file " ++ path) (codes " "), length-append (codes "file ") path)

head_short : (seed : ℕ) → seed < 2 ^ 64 → length (spelling (items.Head seed 0)) ≤ 40
unfolding spelling
head_short seed small =
    let a : length (numeral seed) ≤ 20 = numeral_short 20 seed (omega arith) (omega arith) (omega arith) in
    let b : length (numeral 0) ≤ 1 = numeral_short 1 0 (omega arith) (omega arith) (omega arith) in
    omega (arith, a, b, length-append (((codes "mudscript 1 " ++ numeral seed) ++ codes " ") ++ numeral 0) (codes "\n"), length-append ((codes "mudscript 1 " ++ numeral seed) ++ codes " ") (numeral 0), length-append (codes "mudscript 1 " ++ numeral seed) (codes " "), length-append (codes "mudscript 1 ") (numeral seed))

box_length : length box_source ≡ 202
unfolding box_source
box_length = refl

master_length : length master_source ≡ 429
unfolding master_source
master_length = refl

mudlib_short : (seed : ℕ) → seed < 2 ^ 64 → length (spellings (mudlib seed)) ≤ 1000
mudlib_short seed small =
    omega (
      arith,
      box_length,
      master_length,
      head_short seed small,
      file_short box_path box_source (omega (arith, box_length)),
      file_short master_path master_source (omega (arith, master_length)),
      length-append (spelling (items.Head seed 0)) (spelling (items.File box_path box_source) ++ (spelling (items.File master_path master_source) ++ [])),
      length-append (spelling (items.File box_path box_source)) (spelling (items.File master_path master_source) ++ []),
      length-append (spelling (items.File master_path master_source)) [],
    )

beginning_short : length (spellings beginning) ≤ 100
unfolding spelling event_spelling
beginning_short =
    let a : length (numeral 1) ≤ 1 = numeral_short 1 1 (omega arith) (omega arith) (omega arith) in
    omega (arith, a, length-append (codes "start\n") (((codes "connect " ++ numeral 1) ++ codes "\n") ++ []), length-append ((codes "connect " ++ numeral 1) ++ codes "\n") [], length-append (codes "connect " ++ numeral 1) (codes "\n"), length-append (codes "connect ") (numeral 1))

end_short : length (spellings (items.End ∷ [])) ≤ 4
unfolding spelling
end_short = omega arith

pub within_an_input : IsWithinAnInput
within_an_input count seed few small =
    let a = events_short count seed 0 (omega arith) in
    let parts = spellings-append ((mudlib seed ++ beginning) ++ chosen count seed 0) (items.End ∷ []) in
    let front = spellings-append (mudlib seed ++ beginning) (chosen count seed 0) in
    let head = spellings-append (mudlib seed) beginning in
    omega (
      arith,
      a,
      mudlib_short seed small,
      beginning_short,
      end_short,
      ap length parts,
      ap length front,
      ap length head,
      length-append (spellings ((mudlib seed ++ beginning) ++ chosen count seed 0)) (spellings (items.End ∷ [])),
      length-append (spellings (mudlib seed ++ beginning)) (spellings (chosen count seed 0)),
      length-append (spellings (mudlib seed)) (spellings beginning),
    )
