-- The parts of a workload's script, one after another.
use Rattle.std.proofs.Common.{◌≡◌, ap, sym, ◌∙◌, ℕ, List, [], ◌∷◌, ◌++◌, Result, Ok, Err}
use Rattle.std.proofs.lemmas.List.{append-nil}
use Rattle.lp_events.specs.declared.item.Item.TheVariants as items
use Rattle.lp_events.specs.Script.{spelling, spellings}
use Rattle.lp_script.specs.Put.{Told}
use Rattle.lp_workload.specs.declared.fault.WorkloadFault.{WorkloadFault}
use Rattle.lp_workload.specs.Workload.{beginning, chosen, mudlib, workload}
use Rattle.lp_workload.specs.Writes.{Writes}
use Rattle.lp_workload.proofs.EventLemmas.{spellings-append}
use Rattle.lp_workload.proofs.WritingLemmas.{Writes-cut, Writes-same, Writes-then}

-- the bytes of the whole are those of its parts
parts : (count seed : ℕ) → ((spellings (mudlib seed) ++ spellings beginning) ++ spellings (chosen count seed 0)) ++ spelling items.End ≡ spellings (workload count seed)
parts count seed =
    let m = mudlib seed in
    let c = chosen count seed 0 in
    sym (spellings-append ((m ++ beginning) ++ c) (items.End ∷ [])
    ∙ ap (λ z. spellings ((m ++ beginning) ++ c) ++ z) (append-nil (spelling items.End))
    ∙ ap (λ z. z ++ spelling items.End) (spellings-append (m ++ beginning) c ∙ ap (λ z. z ++ spellings c) (spellings-append m beginning)))

-- a cut, where more was to follow
cut_more : (a c : Told) (e : WorkloadFault) (xs more : List ℕ) → Writes {T = Unit {0}} a c (Err e) xs → Writes {T = Unit {0}} a c (Err e) (xs ++ more)
cut_more a c e xs more p = Writes-cut a c e xs more p

pub cut_in_mudlib : (a b : Told) (e : WorkloadFault) (count seed : ℕ) → Writes {T = Unit {0}} a b (Err e) (spellings (mudlib seed)) → Writes {T = Unit {0}} a b (Err e) (spellings (workload count seed))
cut_in_mudlib a b e count seed p =
    Writes-same a b (Err e) _ _ (parts count seed) (cut_more a b e _ (spelling items.End) (cut_more a b e _ (spellings (chosen count seed 0)) (cut_more a b e _ (spellings beginning) p)))

pub cut_in_beginning : (a b c : Told) (e : WorkloadFault) (count seed : ℕ) → Writes {T = Unit {0}} a b (Ok tt) (spellings (mudlib seed)) → Writes {T = Unit {0}} b c (Err e) (spellings beginning)
    → Writes {T = Unit {0}} a c (Err e) (spellings (workload count seed))
cut_in_beginning a b c e count seed p q =
    Writes-same a c (Err e) _ _ (parts count seed) (cut_more a c e _ (spelling items.End) (cut_more a c e _ (spellings (chosen count seed 0)) (Writes-then a b c tt (Err e) _ _ p q)))

pub cut_in_events : (a b c d : Told) (e : WorkloadFault) (count seed : ℕ) → Writes {T = Unit {0}} a b (Ok tt) (spellings (mudlib seed)) → Writes {T = Unit {0}} b c (Ok tt) (spellings beginning)
    → Writes {T = Unit {0}} c d (Err e) (spellings (chosen count seed 0)) → Writes {T = Unit {0}} a d (Err e) (spellings (workload count seed))
cut_in_events a b c d e count seed p q r =
    Writes-same a d (Err e) _ _ (parts count seed) (cut_more a d e _ (spelling items.End) (Writes-then a c d tt (Err e) _ _ (Writes-then a b c tt (Ok tt) _ _ p q) r))

pub to_the_end : (a b c d f : Told) (s : Result (Unit {0}) WorkloadFault) (count seed : ℕ) → Writes {T = Unit {0}} a b (Ok tt) (spellings (mudlib seed)) → Writes {T = Unit {0}} b c (Ok tt) (spellings beginning)
    → Writes {T = Unit {0}} c d (Ok tt) (spellings (chosen count seed 0)) → Writes d f s (spelling items.End) → Writes a f s (spellings (workload count seed))
to_the_end a b c d f s count seed p q r z =
    Writes-same a f s _ _ (parts count seed) (Writes-then a d f tt s _ _ (Writes-then a c d tt (Ok tt) _ _ (Writes-then a b c tt (Ok tt) _ _ p q) r) z)
