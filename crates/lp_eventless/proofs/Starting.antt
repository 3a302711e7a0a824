-- The items before `start`, and those behind it.
use Rattle.std.proofs.Common.{subst, ◌≡◌, ◌∙◌, ◌≤◌, ◌+◌, ◌^◌, ℕ, List, [], ◌∷◌, ◌++◌, length, Bool, true, false, Option, Some, None, refl, sym, ap, arith, append_assoc, length-append, ◌⊎◌, inl, inr}
use Rattle.std.proofs.lemmas.List.{append-nil, take_all}
use Rattle.std.specs.Prelude.{Ok}
use Rattle.lp_io.specs.Told.{before_giving}
use Rattle.lp_events.specs.declared.event.Event.{Event}
use Rattle.lp_events.specs.declared.item.Item.{Item}
use Rattle.lp_events.specs.declared.item.Item.TheVariants as items
use Rattle.lp_events.specs.Script.{beginning, after_items, after_item, AllFit, Fits, Context, Stage, Beginning, Filing, Running, Over, IsScript, events_of, longest_input}
use Rattle.lp_script.specs.Reader.{Reading, GoesOn, HasGiven, IsAfter, IsInput, Reads, fresh}
use Rattle.lp_script.specs.declared.phase.Phase.TheVariants as phases
use Rattle.lp_script.specs.declared.phase.Ending.TheVariants.{Whole}
use Rattle.lp_script.specs.declared.fault.ScriptFault.{ScriptFault}
use Rattle.lp_script.specs.declared.fault.ScriptFault.TheVariants as script
use Rattle.lp_eventless.specs.Eventless.{EndsReading, Holds, IsAtStart, IsFaultOf, IsWhole, has_started, is_end, is_start, moment_of}
use Rattle.lp_eventless.proofs.Readers.{at_phase, cut_is}

-- The reader gives items before the start.
pub record IsFiling (r : Reading) (xs : List Item) : Type 0 where
  pub given : HasGiven r xs
  pub goes : GoesOn r.phase
  pub not_started : has_started xs ≡ false

filing-fresh : IsFiling fresh []
filing-fresh = record {
  given = record { within = omega arith; spelled = refl; fit = tt; before = refl };
  goes = tt;
  not_started = refl;
}

pub filing-first : (r : Reading) (xs : List Item) → r ≡ fresh → xs ≡ [] → IsFiling r xs
filing-first r xs e f = subst (IsFiling r) (sym f) (subst (λ r. IsFiling r []) (sym e) filing-fresh)

-- nothing was taken before
nothing-before : (told : Option (List ℕ)) (b : List ℕ) → told ≡ Some b → before_giving [] told ≡ Some b
nothing-before None b h = h
nothing-before (Some rest) b h = h

pub first-reads : (r : Reading) (told : Option (List ℕ)) (b : List ℕ) → r ≡ fresh → told ≡ Some b → Reads b r told
first-reads r told b e h = subst (λ x. Reads b x told) (sym e) (nothing-before told b h)

-- before `start` a script is in its beginning or its files
abbrev is_early : Stage → Bool
is_early Beginning = true
is_early Filing = true
is_early Running = false
is_early Over = false

early-not-running : (s : Stage) → is_early s ≡ true → s ≡ Running → ⊥
early-not-running s e f = let h = ap is_early f in absurd cc

early-after : (c : Context) (xs : List Item) → is_early c.stage ≡ true → has_started xs ≡ false → AllFit c xs → is_early (after_items c xs).stage ≡ true
early-after c [] e h f = e
early-after c (items.Head seed moment ∷ xs) e h f = early-after (after_item c (items.Head seed moment)) xs refl h f.1
early-after c (items.File path bytes ∷ xs) e h f = early-after (after_item c (items.File path bytes)) xs e h f.1
early-after c (items.Start ∷ xs) e h f = absurd cc
early-after c (items.Event event ∷ xs) e h f = absurd (early-not-running c.stage e f.0.0)
early-after c (items.End ∷ xs) e h f = absurd (early-not-running c.stage e f.0)

last-fits : (c : Context) (xs : List Item) (x : Item) → AllFit c (xs ++ x ∷ []) → Fits (after_items c xs) x × AllFit c xs
last-fits c [] x f = (f.0, tt)
last-fits c (y ∷ xs) x f = let w = last-fits (after_item c y) xs x f.1 in (w.0, (f.0, w.1))

-- no `end` comes before `start`
pub end-not-early : (r : Reading) (xs : List Item) → has_started xs ≡ false → HasGiven r (xs ++ items.End ∷ []) → ⊥
end-not-early r xs h v = let w = last-fits beginning xs items.End v.fit in early-not-running (after_items beginning xs).stage (early-after beginning xs refl h w.1) w.0

not_started-push : (xs : List Item) (x : Item) → has_started xs ≡ false → has_started (x ∷ []) ≡ false → has_started (xs ++ x ∷ []) ≡ false
not_started-push [] x h n = n
not_started-push (items.Head seed moment ∷ xs) x h n = not_started-push xs x h n
not_started-push (items.File path bytes ∷ xs) x h n = not_started-push xs x h n
not_started-push (items.Start ∷ xs) x h n = absurd cc
not_started-push (items.Event event ∷ xs) x h n = not_started-push xs x h n
not_started-push (items.End ∷ xs) x h n = not_started-push xs x h n

-- an item that is neither `start` nor `end`
abbrev pub is_inner : Item → Bool
is_inner items.Start = false
is_inner items.End = false
is_inner x = true

pub inner-goes : (x : Item) (r : Reading) → is_inner x ≡ true → IsAfter (Ok x) r.phase → GoesOn r.phase
inner-goes items.Start r i e = absurd cc
inner-goes items.End r i e = absurd cc
inner-goes x r i e = subst GoesOn (sym e) tt

pub inner-not_started : (x : Item) → is_inner x ≡ true → has_started (x ∷ []) ≡ false
inner-not_started items.Start i = absurd cc
inner-not_started items.End i = absurd cc
inner-not_started x i = refl

-- one item more
pub filing-more : (old new : Reading) (xs : List Item) (x : Item) (f : IsFiling old xs) → HasGiven new (xs ++ x ∷ []) → is_inner x ≡ true → IsAfter (Ok x) new.phase → IsFiling new (xs ++ x ∷ [])
filing-more old new xs x f v i e = record {
  given = v;
  goes = inner-goes x new i e;
  not_started = not_started-push xs x f.not_started (inner-not_started x i);
}

-- the items are those of a list that one was put behind
pub filing-pushed : (r : Reading) (xs ys : List Item) (x : Item) → ys ≡ xs ++ x ∷ [] → IsFiling r (xs ++ x ∷ []) → IsFiling r ys
filing-pushed r xs ys x e f = subst (IsFiling r) (sym e) f

-- the start was read
pub filing-start : (old new : Reading) (xs : List Item) (x : Item) (f : IsFiling old xs) → x ≡ items.Start → HasGiven new (xs ++ x ∷ []) → IsAfter (Ok x) new.phase → IsAtStart new xs
filing-start old new xs x f s v e = record {
  given = subst (λ y. HasGiven new (xs ++ y ∷ [])) s v;
  phase = subst (λ y. IsAfter (Ok y) new.phase) s e;
  not_started = f.not_started;
}

by_same : (xs ys : List Item) → has_started xs ≡ false → (ys ≡ xs) ⊎ (ys ≡ xs ++ items.End ∷ []) → has_started ys ≡ false
by_same xs ys n (inl e) = ap has_started e ∙ n
by_same xs ys n (inr e) = ap has_started e ∙ not_started-push xs items.End n refl

-- an end among the files has no start before
pub filing-ends : (b : List ℕ) (xs : List Item) (s : ScriptFault) → has_started xs ≡ false → EndsReading b xs s → (ys : List Item) × (has_started ys ≡ false) × IsFaultOf b ys s
filing-ends b xs s n r = (r.read, by_same xs r.read n r.same, r.ends)

pub start-is : (x : Item) → is_start x ≡ true → x ≡ items.Start
start-is items.Start h = refl
start-is x h = absurd cc

pub end-is : (x : Item) → is_end x ≡ true → x ≡ items.End
end-is items.End h = refl
end-is x h = absurd cc

pub inner-is : (x : Item) → is_start x ≡ false → is_end x ≡ false → is_inner x ≡ true
inner-is items.Start h k = absurd cc
inner-is items.End h k = absurd cc
inner-is x h k = refl

-- Behind `start`

started-stage : (c : Context) (xs : List Item) → (after_items c (xs ++ items.Start ∷ [])).stage ≡ Running
started-stage c [] = refl
started-stage c (x ∷ xs) = started-stage (after_item c x) xs

abbrev running_or_over : Stage → Bool
running_or_over Beginning = false
running_or_over Filing = false
running_or_over Running = true
running_or_over Over = true

not-running : (s t : Stage) → s ≡ Running → running_or_over t ≡ false → s ≡ t → ⊥
not-running s t e n f = let h = ap running_or_over (sym e ∙ f) in absurd cc

-- an item that may stand only before the events
abbrev pub is_first : Item → Bool
is_first (items.Event event) = false
is_first items.End = false
is_first x = true

first-fits : (c : Context) (x : Item) → c.stage ≡ Running → is_first x ≡ true → Fits c x → ⊥
first-fits c (items.Head seed moment) e i f = not-running c.stage Beginning e refl f.0
first-fits c (items.File path bytes) e i f = not-running c.stage Filing e refl f.0
first-fits c items.Start e i f = not-running c.stage Filing e refl f
first-fits c (items.Event event) e i f = absurd cc
first-fits c items.End e i f = absurd cc

-- none of these comes behind it
pub first-not-behind : (r : Reading) (xs : List Item) (x : Item) → is_first x ≡ true → HasGiven r ((xs ++ items.Start ∷ []) ++ x ∷ []) → ⊥
first-not-behind r xs x i v =
    first-fits (after_items beginning (xs ++ items.Start ∷ [])) x (started-stage beginning xs) i (last-fits beginning (xs ++ items.Start ∷ []) x v.fit).0

pub goes-start : (r : Reading) (xs : List Item) → IsAtStart r xs → GoesOn r.phase
goes-start r xs a = subst GoesOn (sym a.phase) tt

-- the whole of it
pub script-behind : (b : List ℕ) (xs : List Item) → IsScript b ((xs ++ items.Start ∷ []) ++ items.End ∷ []) → IsScript b (xs ++ items.Start ∷ items.End ∷ [])
script-behind b xs s = subst (IsScript b) (append_assoc xs (items.Start ∷ []) (items.End ∷ [])) s

some-same : {xs ys : List ℕ} → Some xs ≡ Some ys → ys ≡ xs
some-same e = cc

nil-of : (xs : List ℕ) → length xs ≡ 0 → xs ≡ []
nil-of [] e = refl
nil-of (x ∷ xs) e = absurd (omega arith)

whole-taken : (b taken : List ℕ) (told : Option (List ℕ)) → IsInput b taken → before_giving taken told ≡ Some b → length b ≤ longest_input → told ≡ Some []
whole-taken b taken None i e l = absurd cc
whole-taken b taken (Some rest) i e l =
    let same : b ≡ taken ++ rest = some-same e in
    let all : taken ≡ b = i ∙ take_all (longest_input + 1) b (omega arith) in
    let n = length-append taken rest in
    let m : length b ≡ length taken + length rest = ap length same ∙ n in
    let k : length taken ≡ length b = ap length all in
    ap (λ xs. Some xs) (nil-of rest (omega arith))

-- the whole input was taken
pub read-whole : (b : List ℕ) (r : Reading) (told : Option (List ℕ)) → r.phase ≡ phases.Over Whole → Reads b r told → length b ≤ longest_input → told ≡ Some []
read-whole b r told p h l = let w = at_phase b r.taken told r.phase (phases.Over Whole) p h in whole-taken b r.taken told w.0 w.1 l

-- no event stands before `start`
no-events : (c : Context) (xs : List Item) → is_early c.stage ≡ true → has_started xs ≡ false → AllFit c xs → events_of xs ≡ []
no-events c [] e h f = refl
no-events c (items.Head seed moment ∷ xs) e h f = no-events (after_item c (items.Head seed moment)) xs refl h f.1
no-events c (items.File path bytes ∷ xs) e h f = no-events (after_item c (items.File path bytes)) xs e h f.1
no-events c (items.Start ∷ xs) e h f = absurd cc
no-events c (items.Event event ∷ xs) e h f = absurd (early-not-running c.stage e f.0.0)
no-events c (items.End ∷ xs) e h f = absurd (early-not-running c.stage e f.0)

events-append : (xs ys : List Item) → events_of (xs ++ ys) ≡ events_of xs ++ events_of ys
events-append [] ys = refl
events-append (items.Head seed moment ∷ xs) ys = events-append xs ys
events-append (items.File path bytes ∷ xs) ys = events-append xs ys
events-append (items.Start ∷ xs) ys = events-append xs ys
events-append (items.Event event ∷ xs) ys = ap (λ es. event ∷ es) (events-append xs ys)
events-append (items.End ∷ xs) ys = events-append xs ys

-- the whole of it has none
pub whole-behind : (b : List ℕ) (r : Reading) (xs : List Item) (x : Item) → IsAtStart r xs → x ≡ items.End → IsScript b ((xs ++ items.Start ∷ []) ++ x ∷ []) × (length b ≤ longest_input) → IsWhole b (xs ++ items.Start ∷ items.End ∷ [])
whole-behind b r xs x a e s =
    let whole = subst (λ y. IsScript b ((xs ++ items.Start ∷ []) ++ y ∷ [])) e s.0 in
    record {
      script = script-behind b xs whole;
      short = s.1;
      eventless = events-append xs (items.Start ∷ items.End ∷ []) ∙ append-nil (events_of xs) ∙ no-events beginning xs refl a.not_started (last-fits beginning xs items.Start a.given.fit).1;
    }

-- the moment of a head is one that the driver may start at
moment-small : (xs : List Item) → AllFit beginning xs → moment_of xs ≤ 10 ^ 12
moment-small [] f = omega arith
moment-small (items.Head seed moment ∷ xs) f = let l : moment ≤ 1000000000000 = f.0.2 in omega (arith, l)
moment-small (items.File path bytes ∷ xs) f = omega arith
moment-small (items.Start ∷ xs) f = omega arith
moment-small (items.Event event ∷ xs) f = omega arith
moment-small (items.End ∷ xs) f = omega arith

pub start-moment : (r : Reading) (xs : List Item) → IsAtStart r xs → moment_of xs ≤ 10 ^ 12
start-moment r xs a = moment-small xs (last-fits beginning xs items.Start a.given.fit).1

-- an event is no part of such a script
pub event-fault : (b : List ℕ) (r new : Reading) (xs : List Item) (x : Item) (event : Event) (at : ℕ) → IsAtStart r xs → x ≡ items.Event event → Holds b ((xs ++ items.Start ∷ []) ++ x ∷ []) → at ≡ r.cut
    → (ys : List Item) × IsFaultOf b ys (script.BadScript at)
event-fault b r new xs x event at a e h p =
    (xs ++ items.Start ∷ [], inr (record { event = event; holds = subst (λ y. Holds b ((xs ++ items.Start ∷ []) ++ y ∷ [])) e h; place = p ∙ cut_is r (xs ++ items.Start ∷ []) a.given }))

pub event-goes : (r : Reading) (x : Item) (event : Event) → x ≡ items.Event event → IsAfter (Ok x) r.phase → GoesOn r.phase
event-goes r x event e h = let k : IsAfter (Ok (items.Event event)) r.phase = subst (λ y. IsAfter (Ok y) r.phase) e h in subst GoesOn (sym k) tt

pub start-goes : (r : Reading) (x : Item) → x ≡ items.Start → IsAfter (Ok x) r.phase → GoesOn r.phase
start-goes r x e h = let k : IsAfter (Ok items.Start) r.phase = subst (λ y. IsAfter (Ok y) r.phase) e h in subst GoesOn (sym k) tt
