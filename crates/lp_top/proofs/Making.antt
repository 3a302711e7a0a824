-- Making the script of a workload.
use Rattle.std.proofs.Common.{subst, ◌≡◌, ◌∙◌, ℕ, List, [], ◌++◌, take, drop, Bool, true, false, Option, Some, None, refl, sym, ap, inl, inr, ◌⊎◌, String}
use Rattle.std.specs.declared.alloc.Global.{Global}
use Rattle.lp_files.specs.declared.store.Store.{Store}
use Rattle.std.proofs.lemmas.List.{append-nil, take-append-drop}
use Rattle.lp_io.specs.Told.{after_adding, IsCut}
use Rattle.lp_events.specs.Script.{spellings}
use Rattle.lp_workload.specs.Workload.{workload}
use Rattle.lp_top.specs.declared.words.Command.{Command}
use Rattle.lp_serve_words.specs.declared.words.Serving.{Serving}
use Rattle.lp_top.specs.declared.words.Command.TheVariants.{Check, Make, Replay, Serve}
use Rattle.lp_top.specs.declared.status.Status.{Status}
use Rattle.lp_top.specs.declared.status.Status.TheVariants as ends
use Rattle.lp_top.specs.Make.{IsMakeEnd, Makes}
use Rattle.lp_folder.specs.Held.{Held}
use Rattle.lp_wire.specs.declared.happening.WireCall.{WireCall}
use Rattle.lp_host.specs.declared.run.Hosted.TheVariants as hosted
use Rattle.lp_top.specs.Replay.{IsFrontOf, Replays}
use Rattle.lp_top.specs.Serves.{Serves}

-- the script was written
pub makes_whole : (count seed : ℕ) (before after : Option (List ℕ)) → after ≡ after_adding before (spellings (workload count seed)) → Makes count seed ends.Done before after
makes_whole count seed before after e = record { ends = tt; wrote = λ old f. (spellings (workload count seed), e ∙ ap (λ o. after_adding o (spellings (workload count seed))) f, refl) }

-- the script was written, and not handed on
pub makes_held : (count seed : ℕ) (before after : Option (List ℕ)) → after ≡ after_adding before (spellings (workload count seed)) → Makes count seed ends.OutputFault before after
makes_held count seed before after e = record { ends = tt; wrote = λ old f. (spellings (workload count seed), e ∙ ap (λ o. after_adding o (spellings (workload count seed))) f, ([], sym (append-nil (spellings (workload count seed))))) }

cut_front : (before after : Option (List ℕ)) (script : List ℕ) → IsCut before after script → (old : List ℕ) → before ≡ Some old → (piece : List ℕ) × (after ≡ Some (old ++ piece)) × IsFrontOf piece script
cut_front before after script (n, within, e) old f = (take n script, e ∙ ap (λ o. after_adding o (take n script)) f, (drop n script, sym (take-append-drop n script)))

-- a front of it was written
pub makes_cut : (count seed : ℕ) (before after : Option (List ℕ)) → IsCut before after (spellings (workload count seed)) → Makes count seed ends.OutputFault before after
makes_cut count seed before after h = record { ends = tt; wrote = cut_front before after (spellings (workload count seed)) h }

pub makes_no_memory : (count seed : ℕ) (before after : Option (List ℕ)) → IsCut before after (spellings (workload count seed)) → Makes count seed ends.NoMemory before after
makes_no_memory count seed before after h = record { ends = tt; wrote = cut_front before after (spellings (workload count seed)) h }

-- nothing was written
pub makes_nothing : (count seed : ℕ) (told : Option (List ℕ)) → Makes count seed ends.NoMemory told told
makes_nothing count seed told = record { ends = tt; wrote = λ old f. ([], f ∙ ap (λ xs. Some xs) (sym (append-nil old)), (spellings (workload count seed), refl)) }

-- a workload over a sink that does not fail is made to its end, or memory runs out
pub completes_make : (s : Status) → IsMakeEnd s → (s ≡ ends.OutputFault → ⊥) → (s ≡ ends.Done) ⊎ (s ≡ ends.NoMemory)
completes_make ends.Done i q = inl refl
completes_make ends.OutputFault i q = absurd (q refl)
completes_make ends.NoMemory i q = inr refl
completes_make ends.BadWords i q = absurd i
completes_make (ends.FilesFault path) i q = absurd i
completes_make ends.WireFault i q = absurd i
completes_make ends.TurnsSpent i q = absurd i
completes_make (ends.BadScript at) i q = absurd i
completes_make (ends.NoMaster faults) i q = absurd i
completes_make ends.TooLarge i q = absurd i
completes_make ends.InputFault i q = absurd i
completes_make (ends.SwapFault cause) i q = absurd i

some_same : {x y : Command} → Some x ≡ Some y → x ≡ y
some_same e = cc

same_count : {a b c d : ℕ} → Make a b ≡ Make c d → a ≡ c
same_count e = cc

same_seed : {a b c d : ℕ} → Make a b ≡ Make c d → b ≡ d
same_seed e = cc

-- words name one workload at most
pub makes_named : (o : Option Command) (a b count seed : ℕ) (s : Status) (before after : Option (List ℕ)) → o ≡ Some (Make a b) → o ≡ Some (Make count seed) → Makes a b s before after → Makes count seed s before after
makes_named o a b count seed s before after e f h =
    let same = some_same (sym e ∙ f) in
    subst (λ n. Makes count n s before after) (same_seed same) (subst (λ n. Makes n b s before after) (same_count same) h)

abbrev is_make : Command → Bool
is_make (Make count seed) = true
is_make (Replay swap_time report) = false
is_make (Check simul) = false
is_make (Serve serving) = false

abbrev is_serve : Command → Bool
is_serve (Serve serving) = true
is_serve (Make count seed) = false
is_serve (Replay swap_time report) = false
is_serve (Check simul) = false

same_report : {a c : ℕ} {r q : Bool} → Replay a r ≡ Replay c q → r ≡ q
same_report e = cc

same_time : {a c : ℕ} {r q : Bool} → Replay a r ≡ Replay c q → a ≡ c
same_time e = cc

-- words name one replay at most
pub replays_named : (o : Option Command) (a c : ℕ) (r q : Bool) (b : List ℕ) (s : Status) (before after : Option (List ℕ)) → o ≡ Some (Replay a r) → o ≡ Some (Replay c q) → Replays a r b s before after → Replays c q b s before after
replays_named o a c r q b s before after e f h =
    let same = some_same (sym e ∙ f) in
    subst (λ x. Replays c x b s before after) (same_report same) (subst (λ n. Replays n r b s before after) (same_time same) h)

-- words that name another command, or none, name no workload
pub not_replay : (o : Option Command) (swap_time : ℕ) (report : Bool) (count seed : ℕ) → o ≡ Some (Replay swap_time report) → o ≡ Some (Make count seed) → ⊥
not_replay o swap_time report count seed e f = let h = ap is_make (some_same (sym e ∙ f)) in absurd cc

pub not_check : (o : Option Command) (simul : Option (List ℕ)) (count seed : ℕ) → o ≡ Some (Check simul) → o ≡ Some (Make count seed) → ⊥
not_check o simul count seed e f = let h = ap is_make (some_same (sym e ∙ f)) in absurd cc

pub not_none : (o : Option Command) (count seed : ℕ) → o ≡ None → o ≡ Some (Make count seed) → ⊥
not_none o count seed e f = let h = sym e ∙ f in absurd cc

pub serve_not_make : (o : Option Command) (serving : Serving) (count seed : ℕ) → o ≡ Some (Serve serving) → o ≡ Some (Make count seed) → ⊥
serve_not_make o serving count seed e f = let h = ap is_make (some_same (sym e ∙ f)) in absurd cc

-- words that name another command name no game to serve
pub not_serve : (o : Option Command) (c : Command) (serving : Serving) → is_serve c ≡ false → o ≡ Some c → o ≡ Some (Serve serving) → ⊥
not_serve o c serving n e f = let h = ap is_serve (some_same (sym e ∙ f)) in absurd cc

pub none_not_serve : (o : Option Command) (serving : Serving) → o ≡ None → o ≡ Some (Serve serving) → ⊥
none_not_serve o serving e f = let h = sym e ∙ f in absurd cc

same_serving : {a b : Serving} → Serve a ≡ Serve b → a ≡ b
same_serving e = cc

-- words name one game at most
pub serves_named : (o : Option Command) (a b : Serving) (held : Option Held) (opening : ℕ) (before now : Option (List ℕ)) (told0 told1 : Option (List WireCall)) (left : Option (String Global) → Store → Type 0) (unserved : Type 0) (s : Status) → o ≡ Some (Serve a) → o ≡ Some (Serve b)
    → Serves a held opening before now told0 told1 left unserved s → Serves b held opening before now told0 told1 left unserved s
serves_named o a b held opening before now told0 told1 left unserved s e f h = subst (λ x. Serves x held opening before now told0 told1 left unserved s) (same_serving (some_same (sym e ∙ f))) h

-- nothing was served
pub serves_nothing : (serving : Serving) (held : Option Held) (opening : ℕ) (told : Option (List ℕ)) (calls : Option (List WireCall)) (left : Option (String Global) → Store → Type 0) (unserved : Type 0)
    → Serves serving held opening told told calls calls left unserved ends.NoMemory
serves_nothing serving held opening told calls left unserved = record { end = hosted.NoMemory; is = refl; hosted = tt; no_master = tt }
