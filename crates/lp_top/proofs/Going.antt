-- Carrying out the events of a script.
use Rattle.std.proofs.Common.{subst, ◌≡◌, ◌∙◌, ◌≤◌, ◌+◌, ℕ, List, [], ◌∷◌, ◌++◌, length, take, drop, Bool, true, false, Option, Some, None, refl, sym, ap, arith, append_assoc, length-append, ◌⊎◌, inl, inr}
use Rattle.std.proofs.lemmas.List.{append-nil, take-append-drop, take_all}
use Rattle.std.specs.Prelude.{Ok, codes}
use Rattle.lp_io.specs.Counts.{Rose}
use Rattle.lp_io.specs.Told.{after_adding, before_giving, IsCut}
use Rattle.lp_swapfile.specs.Device.{Bytes}
use Rattle.lp_events.specs.declared.event.Event.{Event}
use Rattle.lp_events.specs.declared.event.Event.TheVariants.{Connect, Line, Gone, Tick, Reload, Swap}
use Rattle.lp_events.specs.declared.item.Item.{Item}
use Rattle.lp_events.specs.declared.item.Item.TheVariants as items
use Rattle.lp_events.specs.declared.out.Out.{Out}
use Rattle.lp_events.specs.Script.{beginning, after_items, after_item, after_event, AllFit, Fits, FitsEvent, Context, Stage, Beginning, Filing, Running, Over, files_of, seed_of, events_of, spellings, IsScript, longest_input}
use Rattle.lp_events.specs.Transcript.{block, blocks}
use Rattle.lp_language.specs.World.{File, World}
use Rattle.lp_meaning.specs.FrontEnd.{FrontEnd}
use Rattle.lp_meaning.specs.Closing.{Run, RunsFrom, Turns, over, then}
use Rattle.lp_front_end.specs.FrontEnds.{IsFrontEnd}
use Rattle.lp_world.specs.declared.live.Live.{Live}
use Rattle.lp_driver.specs.Driving.{TurnsAs}
use Rattle.lp_driver.specs.Turning.{MayCome}
use Rattle.lp_script.specs.Reader.{Reading, GoesOn, HasGiven, IsAfter, IsInput, Reads}
use Rattle.lp_script.specs.declared.phase.Phase.TheVariants as phases
use Rattle.lp_script.specs.declared.phase.Ending.TheVariants.{Whole}
use Rattle.lp_top.specs.declared.status.Status.{Status}
use Rattle.lp_top.specs.declared.status.Status.TheVariants as ends
use Rattle.lp_top.specs.Coming.{HasCome, gone_on}
use Rattle.lp_top.specs.Items.{Holds, StopsAt, IsRunOf, Blocks, started, has_started, has_turn, moment_of, world_files}
use Rattle.lp_top.specs.Reports.{IsBehind, IsBehindState, IsLastReport}
use Rattle.lp_top.specs.Replay.{AreOf, Concludes, IsDone, IsGoing, HasRun, IsRunning, EndsReading, IsReadingEnd, Wrote, Replays, Interrupts, Finishes, IsReplayEnd}
use Rattle.lp_top.proofs.Reading.{begins_with, at_phase, cut_is, spellings-append}
use Rattle.lp_top.proofs.Filing.{world_files-same, last-fits, seed-same, moment-same, is_head}

pub events-append : (xs ys : List Item) → events_of (xs ++ ys) ≡ events_of xs ++ events_of ys
events-append [] ys = refl
events-append (items.Head seed moment ∷ xs) ys = events-append xs ys
events-append (items.File path bytes ∷ xs) ys = events-append xs ys
events-append (items.Start ∷ xs) ys = events-append xs ys
events-append (items.Event event ∷ xs) ys = ap (λ es. event ∷ es) (events-append xs ys)
events-append (items.End ∷ xs) ys = events-append xs ys

-- one turn more
runs-push : (front : FrontEnd) {w mid last : World} {es : List Event} {outputs : List (List Out)} (e : Event) (outs : List Out)
    → RunsFrom front w es outputs mid → Turns front mid e outs last → RunsFrom front w (es ++ e ∷ []) (outputs ++ outs ∷ []) last
runs-push front e outs over t = then t over
runs-push front e outs (then u r) t = then u (runs-push front e outs r t)

run-push : (front : FrontEnd) (seed moment : ℕ) (files : List File) (es : List Event) (outputs : List (List Out)) (mid last : World) (e : Event) (outs : List Out)
    → Run front seed moment files es outputs mid → Turns front mid e outs last → Run front seed moment files (es ++ e ∷ []) (outputs ++ outs ∷ []) last
run-push front seed moment files es outputs mid last e outs r t = record {
  first = r.first;
  at_start = r.at_start;
  more = r.more ++ outs ∷ [];
  starts = r.starts;
  runs = runs-push front e outs r.runs t;
  all = ap (λ os. os ++ outs ∷ []) r.all;
}

-- the same run, told of other items with the same head, files and events
pub run-same : (front : FrontEnd) (xs ys : List Item) (es : List Event) (outputs : List (List Out)) (last : World) → seed_of ys ≡ seed_of xs → moment_of ys ≡ moment_of xs → world_files ys ≡ world_files xs → events_of ys ≡ es
    → Run front (seed_of xs) (moment_of xs) (world_files xs) es outputs last → Run front (seed_of ys) (moment_of ys) (world_files ys) (events_of ys) outputs last
run-same front xs ys es outputs last s m f e r =
    subst (λ n. Run front n (moment_of ys) (world_files ys) (events_of ys) outputs last) (sym s)
    (subst (λ n. Run front (seed_of xs) n (world_files ys) (events_of ys) outputs last) (sym m)
    (subst (λ fs. Run front (seed_of xs) (moment_of xs) fs (events_of ys) outputs last) (sym f)
    (subst (λ ds. Run front (seed_of xs) (moment_of xs) (world_files xs) ds outputs last) (sym e) r)))

-- an item that is no head and no file, and has these events, goes on with the same run
pub run-behind : (front : FrontEnd) (xs : List Item) (x : Item) (es : List Event) (outputs : List (List Out)) (last : World) → is_head x ≡ false → files_of (x ∷ []) ≡ [] → events_of xs ++ events_of (x ∷ []) ≡ es
    → Run front (seed_of xs) (moment_of xs) (world_files xs) es outputs last → Run front (seed_of (xs ++ x ∷ [])) (moment_of (xs ++ x ∷ [])) (world_files (xs ++ x ∷ [])) (events_of (xs ++ x ∷ [])) outputs last
run-behind front xs x es outputs last h f e r =
    run-same front xs (xs ++ x ∷ []) es outputs last (seed-same xs x h) (moment-same xs x h) (world_files-same xs x f) (events-append xs (x ∷ []) ∙ e) r

-- how the state came about, told of other items with the same head, files and events
come-same : (swap_time : ℕ) (xs ys : List Item) (es : List Event) (told : Option Bytes) (live : Live) → seed_of ys ≡ seed_of xs → moment_of ys ≡ moment_of xs → world_files ys ≡ world_files xs → events_of ys ≡ es
    → HasCome swap_time (seed_of xs) (moment_of xs) (world_files xs) es told live → HasCome swap_time (seed_of ys) (moment_of ys) (world_files ys) (events_of ys) told live
come-same swap_time xs ys es told live s m f e h =
    subst (λ n. HasCome swap_time n (moment_of ys) (world_files ys) (events_of ys) told live) (sym s)
    (subst (λ n. HasCome swap_time (seed_of xs) n (world_files ys) (events_of ys) told live) (sym m)
    (subst (λ fs. HasCome swap_time (seed_of xs) (moment_of xs) fs (events_of ys) told live) (sym f)
    (subst (λ ds. HasCome swap_time (seed_of xs) (moment_of xs) (world_files xs) ds told live) (sym e) h)))

-- and of an item more that is no head and no file
pub come-behind : (swap_time : ℕ) (xs : List Item) (x : Item) (es : List Event) (told : Option Bytes) (live : Live) → is_head x ≡ false → files_of (x ∷ []) ≡ [] → events_of xs ++ events_of (x ∷ []) ≡ es
    → HasCome swap_time (seed_of xs) (moment_of xs) (world_files xs) es told live → HasCome swap_time (seed_of (xs ++ x ∷ [])) (moment_of (xs ++ x ∷ [])) (world_files (xs ++ x ∷ [])) (events_of (xs ++ x ∷ [])) told live
come-behind swap_time xs x es told live h f e c =
    come-same swap_time xs (xs ++ x ∷ []) es told live (seed-same xs x h) (moment-same xs x h) (world_files-same xs x f) (events-append xs (x ∷ []) ∙ e) c

-- one event more
has_run-more : (front : FrontEnd) (real : IsFrontEnd front) (xs : List Item) (outputs : List (List Out)) (told0 told1 : Option Bytes) (live0 live1 : Live) (e : Event) (outs : List Out)
    → HasRun front xs outputs told0 live0 → TurnsAs e told0 live0 told1 live1 outs → HasRun front (xs ++ items.Event e ∷ []) (outputs ++ outs ∷ []) told1 live1
has_run-more front real xs outputs told0 told1 live0 live1 e outs h t =
    let u = t front h.last real h.rest in
    record {
      last = u.next;
      run = run-behind front xs (items.Event e) (events_of xs ++ e ∷ []) (outputs ++ outs ∷ []) u.next refl refl refl (run-push front _ _ _ (events_of xs) outputs h.last u.next e outs h.run u.turns);
      rest = u.rest;
    }

pub blocks-push : (ts : List (List Out)) (t : List Out) → blocks (ts ++ t ∷ []) ≡ blocks ts ++ block t
blocks-push [] t = append-nil (block t)
blocks-push (u ∷ ts) t = ap (λ bs. block u ++ bs) (blocks-push ts t) ∙ sym (append_assoc (block u) (blocks ts) (block t))

pub started-push : (xs : List Item) (x : Item) → has_started xs ≡ true → has_started (xs ++ x ∷ []) ≡ true
started-push [] x h = absurd cc
started-push (items.Head seed moment ∷ xs) x h = started-push xs x h
started-push (items.File path bytes ∷ xs) x h = started-push xs x h
started-push (items.Start ∷ xs) x h = refl
started-push (items.Event event ∷ xs) x h = started-push xs x h
started-push (items.End ∷ xs) x h = started-push xs x h

-- more was added
pub added-more : (from now : Option (List ℕ)) (xs ys : List ℕ) (next : Option (List ℕ)) → now ≡ after_adding from xs → next ≡ after_adding now ys → next ≡ after_adding from (xs ++ ys)
added-more None now xs ys next e f = f ∙ ap (λ o. after_adding o ys) e
added-more (Some old) now xs ys next e f = f ∙ ap (λ o. after_adding o ys) e ∙ ap (λ zs. Some zs) (append_assoc old xs ys)

-- one event more
pub running-more : (swap_time : ℕ) (old new : Reading) (told0 told1 : Option Bytes) (live after : Live) (from now next : Option (List ℕ)) (e : Event) (h : IsRunning swap_time old told0 live from now) → HasGiven new (h.read ++ items.Event e ∷ [])
    → IsAfter (Ok (items.Event e)) new.phase → IsDone swap_time e told0 live told1 after now next → IsRunning swap_time new told1 after from next
running-more swap_time old new told0 told1 live after from now next e h v p d =
    let g = h.going in
    record {
      read = h.read ++ items.Event e ∷ [];
      outputs = h.outputs ++ d.outs ∷ [];
      going = record {
        given = v;
        phase = p;
        started = started-push h.read (items.Event e) g.started;
        runs = λ front real. has_run-more front real h.read h.outputs told0 told1 live after e d.outs (g.runs front real) d.turns;
        came = come-behind swap_time h.read (items.Event e) (events_of h.read ++ e ∷ []) told1 after refl refl refl
            (gone_on (events_of h.read) e told0 told1 live after d.writes0 d.writes1 d.idled g.came d.tidied);
        closed = d.closed;
        rest = d.rest;
      };
      written = added-more from now (blocks h.outputs) (block d.outs) next h.written d.written ∙ ap (after_adding from) (sym (blocks-push h.outputs d.outs));
    }

-- after `start` a script is in its events, or over
abbrev pub is_late : Stage → Bool
is_late Beginning = false
is_late Filing = false
is_late Running = true
is_late Over = true

pub late-not : (s t : Stage) → is_late s ≡ true → is_late t ≡ false → s ≡ t → ⊥
late-not s t e n f = let h = ap is_late f in absurd cc

pub after-late : (c : Context) (event : Event) → is_late c.stage ≡ true → is_late (after_event c event).stage ≡ true
after-late c (Connect k) e = e
after-late c (Line k bytes) e = e
after-late c (Gone k) e = e
after-late c (Tick t) e = e
after-late c (Reload path bytes) e = e
after-late c (Swap name) e = e

late-after : (c : Context) (xs : List Item) → is_late c.stage ≡ true → AllFit c xs → is_late (after_items c xs).stage ≡ true
late-after c [] e f = e
late-after c (items.Head seed moment ∷ xs) e f = absurd (late-not c.stage Beginning e refl f.0.0)
late-after c (items.File path bytes ∷ xs) e f = absurd (late-not c.stage Filing e refl f.0.0)
late-after c (items.Start ∷ xs) e f = absurd (late-not c.stage Filing e refl f.0)
late-after c (items.Event event ∷ xs) e f = late-after (after_item c (items.Event event)) xs (after-late c event e) f.1
late-after c (items.End ∷ xs) e f = late-after (after_item c items.End) xs refl f.1

late-started : (c : Context) (xs : List Item) → has_started xs ≡ true → AllFit c xs → is_late (after_items c xs).stage ≡ true
late-started c [] h f = absurd cc
late-started c (items.Head seed moment ∷ xs) h f = late-started (after_item c (items.Head seed moment)) xs h f.1
late-started c (items.File path bytes ∷ xs) h f = late-started (after_item c (items.File path bytes)) xs h f.1
late-started c (items.Start ∷ xs) h f = late-after (after_item c items.Start) xs refl f.1
late-started c (items.Event event ∷ xs) h f = late-started (after_item c (items.Event event)) xs h f.1
late-started c (items.End ∷ xs) h f = late-started (after_item c items.End) xs h f.1

-- an item that may stand only before the events
abbrev pub is_first : Item → Bool
is_first (items.Event event) = false
is_first items.End = false
is_first x = true

first-fits : (c : Context) (x : Item) → is_late c.stage ≡ true → is_first x ≡ true → Fits c x → ⊥
first-fits c (items.Head seed moment) e i f = late-not c.stage Beginning e refl f.0
first-fits c (items.File path bytes) e i f = late-not c.stage Filing e refl f.0
first-fits c items.Start e i f = late-not c.stage Filing e refl f
first-fits c (items.Event event) e i f = absurd cc
first-fits c items.End e i f = absurd cc

-- none of these comes after `start`
pub first-not-late : (r : Reading) (xs : List Item) (x : Item) → has_started xs ≡ true → is_first x ≡ true → HasGiven r (xs ++ x ∷ []) → ⊥
first-not-late r xs x h i v = let w = last-fits beginning xs x v.fit in first-fits (after_items beginning xs) x (late-started beginning xs h w.1) i w.0

-- an event of a script may come
event-may : (c : Context) (e : Event) → FitsEvent c e → MayCome e
event-may c (Connect k) f = tt
event-may c (Line k bytes) f = tt
event-may c (Gone k) f = tt
event-may c (Tick t) f = let l : t ≤ 1000000000000 = f.1 in omega (arith, l)
event-may c (Reload path bytes) f = tt
event-may c (Swap name) f = tt

pub may-come : (r : Reading) (xs : List Item) (e : Event) → HasGiven r (xs ++ items.Event e ∷ []) → MayCome e
may-come r xs e v = let w = last-fits beginning xs (items.Event e) v.fit in event-may (after_items beginning xs) e w.0.1

-- what was told before, and is told now
told-now : (from now : Option (List ℕ)) (piece old : List ℕ) → now ≡ after_adding from piece → from ≡ Some old → now ≡ Some (old ++ piece)
told-now from now piece old e f = e ∙ ap (λ o. after_adding o piece) f

-- the run of the items that were carried out
run-of : (swap_time : ℕ) (r : Reading) (told : Option Bytes) (live : Live) (xs : List Item) (outputs : List (List Out)) → IsGoing swap_time r told live xs outputs → IsRunOf xs outputs
run-of swap_time r told live xs outputs g front real = let h = g.runs front real in (h.last, h.run)

-- an `end` behind them has no turn
run-ended : (xs : List Item) (outputs : List (List Out)) → IsRunOf xs outputs → IsRunOf (xs ++ items.End ∷ []) outputs
run-ended xs outputs h front real = let u = h front real in (u.0, run-behind front xs items.End (events_of xs) outputs u.0 refl refl (append-nil (events_of xs)) u.1)

-- the blocks of the items that were carried out
pub blocks-running : (swap_time : ℕ) (r : Reading) (told : Option Bytes) (live : Live) (xs : List Item) (outputs : List (List Out)) → IsGoing swap_time r told live xs outputs → Blocks xs (blocks outputs)
blocks-running swap_time r told live xs outputs g = started outputs g.started (run-of swap_time r told live xs outputs g)

-- an `end` behind them has no block
pub blocks-ended : (swap_time : ℕ) (r : Reading) (told : Option Bytes) (live : Live) (xs : List Item) (outputs : List (List Out)) → IsGoing swap_time r told live xs outputs → Blocks (xs ++ items.End ∷ []) (blocks outputs)
blocks-ended swap_time r told live xs outputs g = started outputs (started-push xs items.End g.started) (run-ended xs outputs (run-of swap_time r told live xs outputs g))

by_read : (swap_time : ℕ) (r : Reading) (told : Option Bytes) (live : Live) (xs ys : List Item) (outputs : List (List Out)) → IsGoing swap_time r told live xs outputs → (ys ≡ xs) ⊎ (ys ≡ xs ++ items.End ∷ []) → Blocks ys (blocks outputs)
by_read swap_time r told live xs ys outputs g (inl e) = subst (λ zs. Blocks zs (blocks outputs)) (sym e) (blocks-running swap_time r told live xs outputs g)
by_read swap_time r told live xs ys outputs g (inr e) = subst (λ zs. Blocks zs (blocks outputs)) (sym e) (blocks-ended swap_time r told live xs outputs g)

pub wrote-reading : (swap_time : ℕ) (report : Bool) (b : List ℕ) (ys : List Item) (piece : List ℕ) (s : Status) → IsReadingEnd s → Blocks ys piece → Wrote swap_time report b ys piece s
wrote-reading swap_time report b ys piece (ends.BadScript at) k p = p
wrote-reading swap_time report b ys piece ends.TooLarge k p = p
wrote-reading swap_time report b ys piece ends.InputFault k p = p
wrote-reading swap_time report b ys piece ends.NoMemory k p = p
wrote-reading swap_time report b ys piece ends.Done k p = absurd k
wrote-reading swap_time report b ys piece ends.BadWords k p = absurd k
wrote-reading swap_time report b ys piece (ends.FilesFault path) k p = absurd k
wrote-reading swap_time report b ys piece ends.WireFault k p = absurd k
wrote-reading swap_time report b ys piece ends.TurnsSpent k p = absurd k
wrote-reading swap_time report b ys piece (ends.NoMaster fs) k p = absurd k
wrote-reading swap_time report b ys piece ends.OutputFault k p = absurd k
wrote-reading swap_time report b ys piece (ends.SwapFault cause) k p = absurd k

-- reading ended the replay
pub replays-reading : (swap_time : ℕ) (report : Bool) (b : List ℕ) (r : Reading) (told : Option Bytes) (live : Live) (from now : Option (List ℕ)) (s : Status) (h : IsRunning swap_time r told live from now) → EndsReading b h.read s → IsReadingEnd s → Replays swap_time report b s from now
replays-reading swap_time report b r told live from now s h e k = record {
  read = e.read;
  ends = e.ends;
  wrote = λ old f. (blocks h.outputs, told-now from now (blocks h.outputs) old h.written f, wrote-reading swap_time report b e.read (blocks h.outputs) s k (by_read swap_time r told live h.read e.read h.outputs h.going e.same));
}

front-fits : (c : Context) (xs ys : List Item) → AllFit c (xs ++ ys) → AllFit c xs
front-fits c [] ys f = tt
front-fits c (x ∷ xs) ys f = (f.0, front-fits (after_item c x) xs ys f.1)

-- fewer items, too
pub holds-front : (b : List ℕ) (xs ys : List Item) → Holds b (xs ++ ys) → Holds b xs
holds-front b xs ys h = record {
  others = spellings ys ++ h.others;
  spelled = h.spelled ∙ ap (λ z. z ++ h.others) (spellings-append xs ys) ∙ append_assoc (spellings xs) (spellings ys) h.others;
  fit = front-fits beginning xs ys h.fit;
}

stops : (b : List ℕ) (xs : List Item) (x : Item) → Holds b (xs ++ x ∷ []) → has_turn x ≡ true → StopsAt b xs
stops b xs x h t = record { item = x; begins = h; turns = t }

-- the turn of an item was not carried out whole
pub replays-interrupted : (swap_time : ℕ) (report : Bool) (b : List ℕ) (xs : List Item) (x : Item) (done : List ℕ) (turned : List Out → Type 0) (from now next : Option (List ℕ)) (s : Status)
    → Holds b (xs ++ x ∷ []) → has_turn x ≡ true → Blocks xs done → ((outs : List Out) → turned outs → Blocks (xs ++ x ∷ []) (done ++ block outs)) → now ≡ after_adding from done
    → Interrupts turned now next s → Replays swap_time report b s from next
replays-interrupted swap_time report b xs x done turned from now next ends.NoMemory h t bs more w i = record {
  read = xs;
  ends = holds-front b xs (x ∷ []) h;
  wrote = λ old f. (done, i ∙ told-now from now done old w f, bs);
}
replays-interrupted swap_time report b xs x done turned from now next (ends.SwapFault cause) h t bs more w i = record {
  read = xs;
  ends = (holds-front b xs (x ∷ []) h, stops b xs x h t);
  wrote = λ old f. (done, i ∙ told-now from now done old w f, bs);
}
replays-interrupted swap_time report b xs x done turned from now next ends.OutputFault h t bs more w (outs, u, cut) =
    let k : List ℕ = block outs in
    record {
      read = xs ++ x ∷ [];
      ends = h;
      wrote = λ old f. (
        done ++ take cut.0 k,
        told-now from next (done ++ take cut.0 k) old (added-more from now done (take cut.0 k) next w cut.2) f,
        (done ++ k, more outs u, inl (drop cut.0 k, ap (λ z. done ++ z) (sym (take-append-drop cut.0 k)) ∙ sym (append_assoc done (take cut.0 k) (drop cut.0 k)))),
      );
    }
replays-interrupted swap_time report b xs x done turned from now next ends.Done h t bs more w i = absurd i
replays-interrupted swap_time report b xs x done turned from now next ends.BadWords h t bs more w i = absurd i
replays-interrupted swap_time report b xs x done turned from now next (ends.FilesFault path) h t bs more w i = absurd i
replays-interrupted swap_time report b xs x done turned from now next ends.WireFault h t bs more w i = absurd i
replays-interrupted swap_time report b xs x done turned from now next ends.TurnsSpent h t bs more w i = absurd i
replays-interrupted swap_time report b xs x done turned from now next (ends.NoMaster fs) h t bs more w i = absurd i
replays-interrupted swap_time report b xs x done turned from now next ends.TooLarge h t bs more w i = absurd i
replays-interrupted swap_time report b xs x done turned from now next ends.InputFault h t bs more w i = absurd i
replays-interrupted swap_time report b xs x done turned from now next (ends.BadScript at) h t bs more w i = absurd i

-- the blocks with that of one event more
blocks-event : (swap_time : ℕ) (r : Reading) (told told1 : Option Bytes) (live live1 : Live) (xs : List Item) (outputs : List (List Out)) (e : Event) (outs : List Out) → IsGoing swap_time r told live xs outputs → TurnsAs e told live told1 live1 outs
    → Blocks (xs ++ items.Event e ∷ []) (blocks outputs ++ block outs)
blocks-event swap_time r told told1 live live1 xs outputs e outs g t =
    subst (Blocks (xs ++ items.Event e ∷ [])) (blocks-push outputs outs)
    (started (outputs ++ outs ∷ []) (started-push xs (items.Event e) g.started) (λ front real. let h = has_run-more front real xs outputs told told1 live live1 e outs (g.runs front real) t in (h.last, h.run)))

-- an event was not carried out whole
pub replays-stopped : (swap_time : ℕ) (report : Bool) (b : List ℕ) (r new : Reading) (told : Option Bytes) (live : Live) (next_told from now next : Option (List ℕ)) (s : Status) (e : Event) (h : IsRunning swap_time r told live from now)
    → Reads b new next_told → HasGiven new (h.read ++ items.Event e ∷ []) → IsAfter (Ok (items.Event e)) new.phase → Interrupts (AreOf e told live) now next s → Replays swap_time report b s from next
replays-stopped swap_time report b r new told live next_told from now next s e h n v p i =
    replays-interrupted swap_time report b h.read (items.Event e) (blocks h.outputs) (AreOf e told live) from now next s
    (begins_with b new next_told (h.read ++ items.Event e ∷ []) n (subst GoesOn (sym p) tt) v) refl
    (blocks-running swap_time r told live h.read h.outputs h.going) (λ outs u. blocks-event swap_time r told u.0 live u.1 h.read h.outputs e outs h.going u.2)
    h.written i

-- the items of a script that was read whole, as the input begins with them
script-holds : (b : List ℕ) (xs : List Item) → IsScript b xs → length b ≤ longest_input → Holds b xs
script-holds b xs s l = record { others = []; spelled = take_all longest_input b l ∙ s.spelled ∙ sym (append-nil _); fit = s.fit }

-- the numbers of the state are those of the run
behind-run : (swap_time : ℕ) (report : Bool) (r : Reading) (told : Option Bytes) (live : Live) (xs : List Item) (outputs : List (List Out)) (more : List ℕ) → IsGoing swap_time r told live xs outputs → IsBehindState report live more → IsBehind swap_time report (xs ++ items.End ∷ []) more
behind-run swap_time false r told live xs outputs more g h = h
behind-run swap_time true r told live xs outputs more g h = (h.0, record { outputs = outputs; told = told; state = live; came = come-behind swap_time xs items.End (events_of xs) told live refl refl (append-nil (events_of xs)) g.came; runs = by }, h.2)
  where
    by : (front : FrontEnd) → IsFrontEnd front → IsLastReport front (xs ++ items.End ∷ []) outputs told live h.0
    by front real =
        let u = g.runs front real in
        record {
          last = u.last;
          run = run-behind front xs items.End (events_of xs) outputs u.last refl refl (append-nil (events_of xs)) u.run;
          rest = u.rest;
          numbers = h.1 told u.rest.programs u.last u.rest.world.stands;
        }

-- the end was read, and the lines at the end written, or a front of them
finished-done : (swap_time : ℕ) (report : Bool) (b : List ℕ) (r : Reading) (told : Option Bytes) (live : Live) (from now next : Option (List ℕ)) (s : Status) (more : List ℕ) (h : IsRunning swap_time r told live from now) → IsScript b (h.read ++ items.End ∷ []) × (length b ≤ longest_input)
    → IsBehindState report live more → Finishes (codes "end\n" ++ more) now next s → Replays swap_time report b s from next
finished-done swap_time report b r told live from now next ends.Done more h t k i =
    let whole = run-ended h.read h.outputs (run-of swap_time r told live h.read h.outputs h.going) in
    record {
      read = h.read ++ items.End ∷ [];
      ends = (t.0, t.1, (h.outputs, whole));
      wrote = λ old f. (
        blocks h.outputs ++ (codes "end\n" ++ more),
        told-now from next (blocks h.outputs ++ (codes "end\n" ++ more)) old (added-more from now (blocks h.outputs) (codes "end\n" ++ more) next h.written i) f,
        (h.outputs, whole, (more, behind-run swap_time report r told live h.read h.outputs more h.going k, sym (append_assoc (blocks h.outputs) (codes "end\n") more))),
      );
    }
finished-done swap_time report b r told live from now next ends.OutputFault more h t k i =
    let xs = h.read ++ items.End ∷ [] in
    let last = codes "end\n" ++ more in
    record {
      read = xs;
      ends = script-holds b xs t.0 t.1;
      wrote = λ old f. (
        blocks h.outputs ++ i.0,
        told-now from next (blocks h.outputs ++ i.0) old (added-more from now (blocks h.outputs) i.0 next h.written i.2) f,
        (
          blocks h.outputs,
          blocks-ended swap_time r told live h.read h.outputs h.going,
          inr (t.0, (more, behind-run swap_time report r told live h.read h.outputs more h.going k, (i.1.0, append_assoc (blocks h.outputs) (codes "end\n") more ∙ ap (λ x. blocks h.outputs ++ x) i.1.1 ∙ sym (append_assoc (blocks h.outputs) i.0 i.1.0)))),
        ),
      );
    }
finished-done swap_time report b r told live from now next ends.BadWords more h t k i = absurd i
finished-done swap_time report b r told live from now next (ends.FilesFault path) more h t k i = absurd i
finished-done swap_time report b r told live from now next ends.WireFault more h t k i = absurd i
finished-done swap_time report b r told live from now next ends.TurnsSpent more h t k i = absurd i
finished-done swap_time report b r told live from now next (ends.BadScript at) more h t k i = absurd i
finished-done swap_time report b r told live from now next (ends.NoMaster fs) more h t k i = absurd i
finished-done swap_time report b r told live from now next ends.TooLarge more h t k i = absurd i
finished-done swap_time report b r told live from now next ends.InputFault more h t k i = absurd i
finished-done swap_time report b r told live from now next (ends.SwapFault cause) more h t k i = absurd i
finished-done swap_time report b r told live from now next ends.NoMemory more h t k i = absurd i

-- there was no memory for them
finished-none : (swap_time : ℕ) (report : Bool) (b : List ℕ) (r : Reading) (told : Option Bytes) (live : Live) (from now : Option (List ℕ)) (h : IsRunning swap_time r told live from now) → IsScript b (h.read ++ items.End ∷ []) × (length b ≤ longest_input) → Replays swap_time report b ends.NoMemory from now
finished-none swap_time report b r told live from now h t =
    let xs = h.read ++ items.End ∷ [] in
    record {
      read = xs;
      ends = script-holds b xs t.0 t.1;
      wrote = λ old f. (blocks h.outputs, told-now from now (blocks h.outputs) old h.written f, blocks-ended swap_time r told live h.read h.outputs h.going);
    }

pub replays-finished : (swap_time : ℕ) (report : Bool) (b : List ℕ) (r : Reading) (told : Option Bytes) (live : Live) (from now next : Option (List ℕ)) (s : Status) (h : IsRunning swap_time r told live from now) → IsScript b (h.read ++ items.End ∷ []) × (length b ≤ longest_input) → Concludes report live now next s
    → Replays swap_time report b s from next
replays-finished swap_time report b r told live from now next s h t (inl k) = finished-done swap_time report b r told live from now next s k.0 h t k.1 k.2
replays-finished swap_time report b r told live from now next s h t (inr k) = subst (λ x. Replays swap_time report b x from next) (sym k.0) (subst (λ x. Replays swap_time report b ends.NoMemory from x) (sym k.1) (finished-none swap_time report b r told live from now h t))

-- only the block of the start is written yet
pub running-start : (swap_time : ℕ) (r : Reading) (told : Option Bytes) (live : Live) (from now : Option (List ℕ)) (xs : List Item) (outs : List Out) → IsGoing swap_time r told live xs (outs ∷ []) → now ≡ after_adding from (block outs) → IsRunning swap_time r told live from now
running-start swap_time r told live from now xs outs g e = record { read = xs; outputs = outs ∷ []; going = g; written = e ∙ ap (after_adding from) (sym (append-nil (block outs))) }

-- the block of the start was cut
pub replays-cut : (swap_time : ℕ) (report : Bool) (b : List ℕ) (r : Reading) (told : Option Bytes) (live : Live) (told_input from next : Option (List ℕ)) (xs : List Item) (outs : List Out) → Reads b r told_input → IsGoing swap_time r told live xs (outs ∷ []) → IsCut from next (block outs) → Replays swap_time report b ends.OutputFault from next
replays-cut swap_time report b r told live told_input from next xs outs h g cut =
    let k : List ℕ = block outs in
    record {
      read = xs;
      ends = begins_with b r told_input xs h (subst GoesOn (sym g.phase) tt) g.given;
      wrote = λ old f. (
        take cut.0 k,
        told-now from next (take cut.0 k) old cut.2 f,
        (blocks (outs ∷ []), blocks-running swap_time r told live xs (outs ∷ []) g, inl (drop cut.0 k, append-nil k ∙ sym (take-append-drop cut.0 k))),
      );
    }

-- a count that rose within a longer time rose in it
pub rose-wider : (m n p q : ℕ) → m ≤ n → p ≤ q → Rose n p → Rose m q
rose-wider m n p q a b r = omega (arith, r)

pub rose-wider-either : (m n p q s t u v : ℕ) → m ≤ n → p ≤ q → s ≤ t → u ≤ v → Rose n p ⊎ Rose t u → Rose m q ⊎ Rose s v
rose-wider-either m n p q s t u v a b c d (inl r) = inl (rose-wider m n p q a b r)
rose-wider-either m n p q s t u v a b c d (inr r) = inr (rose-wider s t u v c d r)

pub kind-interrupted : (turned : List Out → Type 0) (now next : Option (List ℕ)) (s : Status) → Interrupts turned now next s → IsReplayEnd s
kind-interrupted turned now next ends.BadWords i = absurd i
kind-interrupted turned now next (ends.FilesFault path) i = absurd i
kind-interrupted turned now next ends.WireFault i = absurd i
kind-interrupted turned now next ends.TurnsSpent i = absurd i
kind-interrupted turned now next s i = tt

kind-finish : (last : List ℕ) (now next : Option (List ℕ)) (s : Status) → Finishes last now next s → IsReplayEnd s
kind-finish last now next ends.BadWords i = absurd i
kind-finish last now next (ends.FilesFault path) i = absurd i
kind-finish last now next ends.WireFault i = absurd i
kind-finish last now next ends.TurnsSpent i = absurd i
kind-finish last now next s i = tt

pub kind-finished : (report : Bool) (live : Live) (now next : Option (List ℕ)) (s : Status) → Concludes report live now next s → IsReplayEnd s
kind-finished report live now next s (inl k) = kind-finish (codes "end\n" ++ k.0) now next s k.2
kind-finished report live now next s (inr k) = subst IsReplayEnd (sym k.0) tt

pub goes-running : (swap_time : ℕ) (r : Reading) (told : Option Bytes) (live : Live) (from now : Option (List ℕ)) → IsRunning swap_time r told live from now → GoesOn r.phase
goes-running swap_time r told live from now h = subst GoesOn (sym h.going.phase) tt

some-same : {xs ys : List ℕ} → Some xs ≡ Some ys → ys ≡ xs
some-same e = cc

nil-of : (xs : List ℕ) → length xs ≡ 0 → xs ≡ []
nil-of [] e = refl
nil-of (x ∷ xs) e = absurd (omega arith)

whole-taken : (b taken : List ℕ) (told : Option (List ℕ)) → IsInput b taken → before_giving taken told ≡ Some b → length b ≤ longest_input → told ≡ Some []
whole-taken b taken None i e l = absurd cc
whole-taken b taken (Some rest) i e l =
    let same : b ≡ taken ++ rest = some-same e in
    let all : taken ≡ b = i ∙ take_all (longest_input + 1) b (omega arith) in
    let n = length-append taken rest in
    let m : length b ≡ length taken + length rest = ap length same ∙ n in
    let k : length taken ≡ length b = ap length all in
    ap (λ xs. Some xs) (nil-of rest (omega arith))

-- the whole input was taken
pub read-whole : (b : List ℕ) (r : Reading) (told : Option (List ℕ)) → r.phase ≡ phases.Over Whole → Reads b r told → length b ≤ longest_input → told ≡ Some []
read-whole b r told p h l = let w = at_phase b r.taken told r.phase (phases.Over Whole) p h in whole-taken b r.taken told w.0 w.1 l
