-- Reading the files of a script that is checked, and its report.
use Rattle.std.proofs.Common.{Bool, subst, ◌≡◌, ◌∙◌, ◌≤◌, ◌⊎◌, inl, inr, ℕ, List, [], ◌∷◌, ◌++◌, length, take, false, Option, Some, refl, sym, ap, arith}
use Rattle.std.specs.Prelude.{Ok}
use Rattle.std.proofs.lemmas.List.{append-nil, take_all}
use Rattle.lp_io.specs.Told.{after_adding}
use Rattle.lp_events.specs.declared.item.Item.{Item}
use Rattle.lp_events.specs.declared.item.Item.TheVariants as items
use Rattle.lp_events.specs.Script.{IsScript, files_of, longest_input}
use Rattle.lp_top.specs.Items.{Holds, before as none_begun}
use Rattle.lp_script.specs.declared.fault.ScriptFault.{ScriptFault}
use Rattle.lp_script.specs.declared.fault.ScriptFault.TheVariants as script
use Rattle.lp_script.specs.Reader.{Reading, GoesOn, HasGiven, Reads, IsAfter, Says, fresh}
use Rattle.lp_check.specs.declared.sources.Sources.{Sources}
use Rattle.lp_check.specs.Report.{IsReport}
use Rattle.lp_check.specs.Sources.{AreFiles}
use Rattle.lp_top.specs.declared.status.Status.{Status}
use Rattle.lp_top.specs.declared.status.Status.TheVariants as ends
use Rattle.lp_top.specs.Check.{EndsCheck, WroteCheck, Checks, IsCheckEnd, IsGathering, IsGathered, EndsGathering}
use Rattle.lp_top.specs.Replay.{Replays, Finishes, IsReadingEnd, status_of_fault, is_end}
use Rattle.lp_top.proofs.Reading.{begins_with}
use Rattle.lp_top.proofs.Filing.{files-append}
use Rattle.lp_top.proofs.Completeness.{OneSpelling, bad-not-script}

-- an item that is no file adds none
pub files_same : (xs : List Item) (x : Item) (sources : Sources) → files_of (x ∷ []) ≡ [] → AreFiles (files_of xs) sources → AreFiles (files_of (xs ++ x ∷ [])) sources
files_same xs x sources e h = subst (λ fs. AreFiles fs sources) (sym (files-append xs (x ∷ []) ∙ ap (λ fs. files_of xs ++ fs) e ∙ append-nil (files_of xs))) h

pub files_more : (xs : List Item) (path bytes : List ℕ) (sources : Sources) → AreFiles (files_of xs ++ (path, bytes) ∷ []) sources → AreFiles (files_of (xs ++ items.File path bytes ∷ [])) sources
files_more xs path bytes sources h = subst (λ fs. AreFiles fs sources) (sym (files-append xs (items.File path bytes ∷ []))) h

-- before the first item
pub gathering_fresh : (sources : Sources) → AreFiles [] sources → IsGathering fresh sources
gathering_fresh sources h = record { read = []; given = record { within = omega arith; spelled = refl; fit = tt; before = refl }; goes = tt; files = h }

-- an item that is not the last one leaves the reader going
pub goes_after_item : (x : Item) (r : Reading) → is_end x ≡ false → IsAfter (Ok x) r.phase → GoesOn r.phase
goes_after_item items.End r n e = absurd cc
goes_after_item x r n e = subst GoesOn (sym e) tt

-- a fault of the script gives its end
pub ends_gathering : (b : List ℕ) (old : Reading) (told : Option (List ℕ)) (xs : List Item) (f : ScriptFault) → Reads b old told → GoesOn old.phase → HasGiven old xs → Says f b xs → EndsGathering b (status_of_fault f)
ends_gathering b old told xs (script.BadScript at) h g v (inl s) = record { read = xs; ends = s }
ends_gathering b old told xs (script.BadScript at) h g v (inr s) = record { read = xs ++ items.End ∷ []; ends = s }
ends_gathering b old told xs script.TooLarge h g v (inl s) = record { read = xs; ends = s }
ends_gathering b old told xs script.TooLarge h g v (inr s) = record { read = xs ++ items.End ∷ []; ends = s }
ends_gathering b old told xs script.InputFault h g v s = record { read = xs; ends = begins_with b old told xs h g v }
ends_gathering b old told xs script.NoMemory h g v s = record { read = xs; ends = begins_with b old told xs h g v }

added_none : (before : Option (List ℕ)) (old : List ℕ) → before ≡ Some old → before ≡ Some (old ++ [])
added_none before old e = e ∙ ap (λ xs. Some xs) (sym (append-nil old))

-- nothing was written before the end of the script
wrote_none : (simul : Option (List ℕ)) (b : List ℕ) (before : Option (List ℕ)) (s : Status) (xs : List Item) → EndsCheck b xs s → ((piece : List ℕ) → piece ≡ [] → WroteCheck simul xs piece s) → Checks simul b s before before
wrote_none simul b before s xs e w = record { read = xs; ends = e; wrote = λ old f. ([], added_none before old f, w [] refl) }

pub checks_early : (simul : Option (List ℕ)) (b : List ℕ) (before : Option (List ℕ)) (s : Status) → EndsGathering b s → IsReadingEnd s → Checks simul b s before before
checks_early simul b before ends.Done h k = absurd k
checks_early simul b before ends.BadWords h k = absurd k
checks_early simul b before (ends.FilesFault path) h k = absurd k
checks_early simul b before ends.WireFault h k = absurd k
checks_early simul b before ends.TurnsSpent h k = absurd k
checks_early simul b before (ends.BadScript at) h k = wrote_none simul b before (ends.BadScript at) h.read h.ends (λ piece e. e)
checks_early simul b before (ends.NoMaster faults) h k = absurd k
checks_early simul b before ends.TooLarge h k = wrote_none simul b before ends.TooLarge h.read h.ends (λ piece e. e)
checks_early simul b before ends.InputFault h k = wrote_none simul b before ends.InputFault h.read h.ends (λ piece e. e)
checks_early simul b before ends.OutputFault h k = absurd k
checks_early simul b before (ends.SwapFault cause) h k = absurd k
checks_early simul b before ends.NoMemory h k = wrote_none simul b before ends.NoMemory h.read h.ends (λ piece e. e)

-- a script that was read whole is what the input begins with
whole_begins : (b : List ℕ) (xs : List Item) → IsScript b xs → length b ≤ longest_input → Holds b xs
whole_begins b xs s l = record { others = []; spelled = take_all longest_input b l ∙ s.spelled ∙ sym (append-nil _); fit = s.fit }

-- no memory for the report
pub checks_no_memory : (simul : Option (List ℕ)) (b : List ℕ) (before : Option (List ℕ)) (sources : Sources) → IsGathered b sources → Checks simul b ends.NoMemory before before
checks_no_memory simul b before sources h = wrote_none simul b before ends.NoMemory h.read (whole_begins b h.read h.script h.short) (λ piece e. e)

-- no memory before anything was read
pub checks_unread : (simul : Option (List ℕ)) (b : List ℕ) (told : Option (List ℕ)) → Checks simul b ends.NoMemory told told
checks_unread simul b told = wrote_none simul b told ends.NoMemory [] (record { others = take longest_input b; spelled = refl; fit = tt }) (λ piece e. e)

pub replays_unread : (swap_time : ℕ) (report : Bool) (b : List ℕ) (told : Option (List ℕ)) → Replays swap_time report b ends.NoMemory told told
replays_unread swap_time report b told = record {
  read = [];
  ends = record { others = take longest_input b; spelled = refl; fit = tt };
  wrote = λ old f. ([], added_none told old f, none_begun refl);
}

added : (before after : Option (List ℕ)) (old piece : List ℕ) → after ≡ after_adding before piece → before ≡ Some old → after ≡ Some (old ++ piece)
added before after old piece e f = e ∙ ap (λ o. after_adding o piece) f

-- the report was written, or a front of it
pub checks_finished : (simul : Option (List ℕ)) (b : List ℕ) (before after : Option (List ℕ)) (sources : Sources) (whole : List ℕ) (s : Status) (h : IsGathered b sources) → IsReport simul (files_of h.read) whole → Finishes whole before after s → Checks simul b s before after
checks_finished simul b before after sources whole ends.Done h r i = record { read = h.read; ends = (h.script, h.short); wrote = λ old f. (whole, added before after old whole i f, r) }
checks_finished simul b before after sources whole ends.OutputFault h r i = record { read = h.read; ends = (h.script, h.short); wrote = λ old f. (i.0, added before after old i.0 i.2 f, (whole, r, i.1)) }
checks_finished simul b before after sources whole ends.BadWords h r i = absurd i
checks_finished simul b before after sources whole (ends.FilesFault path) h r i = absurd i
checks_finished simul b before after sources whole ends.WireFault h r i = absurd i
checks_finished simul b before after sources whole ends.TurnsSpent h r i = absurd i
checks_finished simul b before after sources whole (ends.BadScript at) h r i = absurd i
checks_finished simul b before after sources whole (ends.NoMaster fs) h r i = absurd i
checks_finished simul b before after sources whole ends.TooLarge h r i = absurd i
checks_finished simul b before after sources whole ends.InputFault h r i = absurd i
checks_finished simul b before after sources whole (ends.SwapFault cause) h r i = absurd i
checks_finished simul b before after sources whole ends.NoMemory h r i = absurd i

pub kind_of_finish : (whole : List ℕ) (before after : Option (List ℕ)) (s : Status) → Finishes whole before after s → IsCheckEnd s
kind_of_finish whole before after ends.BadWords i = absurd i
kind_of_finish whole before after (ends.FilesFault path) i = absurd i
kind_of_finish whole before after ends.WireFault i = absurd i
kind_of_finish whole before after ends.TurnsSpent i = absurd i
kind_of_finish whole before after (ends.NoMaster fs) i = absurd i
kind_of_finish whole before after (ends.SwapFault cause) i = absurd i
kind_of_finish whole before after s i = tt

pub kind_of_reading : (s : Status) → IsReadingEnd s → IsCheckEnd s
kind_of_reading ends.BadWords i = absurd i
kind_of_reading (ends.FilesFault path) i = absurd i
kind_of_reading ends.WireFault i = absurd i
kind_of_reading ends.TurnsSpent i = absurd i
kind_of_reading (ends.NoMaster fs) i = absurd i
kind_of_reading (ends.SwapFault cause) i = absurd i
kind_of_reading s i = tt

-- a script over devices that do not fail is checked to its end, or memory runs out
pub completes_check : OneSpelling → (b : List ℕ) (xs ys : List Item) (s : Status) → length b ≤ longest_input → IsScript b ys → (s ≡ ends.InputFault → ⊥) → (s ≡ ends.OutputFault → ⊥) → EndsCheck b xs s → (s ≡ ends.Done) ⊎ (s ≡ ends.NoMemory)
completes_check law b xs ys ends.Done l i p q e = inl refl
completes_check law b xs ys ends.BadWords l i p q e = absurd e
completes_check law b xs ys (ends.FilesFault path) l i p q e = absurd e
completes_check law b xs ys ends.WireFault l i p q e = absurd e
completes_check law b xs ys ends.TurnsSpent l i p q e = absurd e
completes_check law b xs ys (ends.BadScript at) l i p q e = absurd (bad-not-script law b xs ys at l i e)
completes_check law b xs ys (ends.NoMaster fs) l i p q e = absurd e
completes_check law b xs ys ends.TooLarge l i p q e = absurd (omega (arith, e.0))
completes_check law b xs ys ends.InputFault l i p q e = absurd (p refl)
completes_check law b xs ys ends.OutputFault l i p q e = absurd (q refl)
completes_check law b xs ys (ends.SwapFault cause) l i p q e = absurd e
completes_check law b xs ys ends.NoMemory l i p q e = inr refl
