-- Reading the items of a script before `start`.
use Rattle.std.proofs.Common.{subst, ◌≡◌, ◌∙◌, ◌≤◌, ◌^◌, ℕ, List, [], ◌∷◌, ◌++◌, map, Bool, true, false, Option, Some, None, nat_eq, refl, sym, ap, arith, ◌⊎◌, inl, inr}
use Rattle.std.specs.Prelude.{if◌then◌else◌, Ok, option_map}
use Rattle.std.specs.Str.{bytes_eq}
use Rattle.std.proofs.lemmas.List.{append-nil, map-append}
use Rattle.lp_io.specs.Told.{before_giving}
use Rattle.lp_events.specs.declared.event.Event.{Event}
use Rattle.lp_events.specs.declared.event.Event.TheVariants.{Connect, Line, Gone, Tick, Reload, Swap}
use Rattle.lp_events.specs.declared.item.Item.{Item}
use Rattle.lp_events.specs.declared.item.Item.TheVariants as items
use Rattle.lp_events.specs.Script.{beginning, after_items, after_item, after_event, AllFit, Fits, Context, Stage, Beginning, Filing, Running, Over, files_of, seed_of}
use Rattle.lp_files.specs.declared.store.Store.{Store}
use Rattle.lp_files.specs.Store.{file_at}
use Rattle.lp_first.specs.First.{HasFiles}
use Rattle.std.specs.Cmp.Lexicographic.{pointwise}
use Rattle.lp_language.specs.World.{File}
use Rattle.lp_meaning.specs.WorldSteps as steps
use Rattle.lp_script.specs.Reader.{Reading, GoesOn, HasGiven, IsAfter, Reads, fresh}
use Rattle.lp_top.specs.declared.opening.Opening.{Opening}
use Rattle.lp_top.specs.declared.status.Status.{Status}
use Rattle.lp_top.specs.Items.{has_started, moment_of, world_file, world_files}
use Rattle.lp_top.specs.Notes.{HasOneMore, Notes, first_of}
use Rattle.lp_top.specs.Replay.{AreNoted, IsAtStart, is_start, is_end, Ends, EndsReading}
use Rattle.lp_top.proofs.Reading.{cut_is}

-- The reader gives items before the start, and what they say was noted.
pub record IsFiling (r : Reading) (opening : Opening) : Type 0 where
  pub read : List Item
  pub given : HasGiven r read
  pub goes : GoesOn r.phase
  pub not_started : has_started read ≡ false
  pub noted : AreNoted read opening

pub filing-fresh : (opening : Opening) → ((q : List ℕ) → file_at opening.store q ≡ None) → opening.seed ≡ 0 → opening.moment ≡ 0 → IsFiling fresh opening
filing-fresh opening f s m = record {
  read = [];
  given = record { within = omega arith; spelled = refl; fit = tt; before = refl };
  goes = tt;
  not_started = refl;
  noted = record { files = f; seed = s; moment = m };
}

-- nothing was taken before
nothing-before : (told : Option (List ℕ)) (b : List ℕ) → told ≡ Some b → before_giving [] told ≡ Some b
nothing-before None b h = h
nothing-before (Some rest) b h = h

pub first-reads : (r : Reading) (told : Option (List ℕ)) (b : List ℕ) → r ≡ fresh → told ≡ Some b → Reads b r told
first-reads r told b e h = subst (λ x. Reads b x told) (sym e) (nothing-before told b h)

-- before `start` a script is in its beginning or its files
abbrev pub is_early : Stage → Bool
is_early Beginning = true
is_early Filing = true
is_early Running = false
is_early Over = false

pub early-not-running : (s : Stage) → is_early s ≡ true → s ≡ Running → ⊥
early-not-running s e f = let h = ap is_early f in absurd cc

early-after : (c : Context) (xs : List Item) → is_early c.stage ≡ true → has_started xs ≡ false → AllFit c xs → is_early (after_items c xs).stage ≡ true
early-after c [] e h f = e
early-after c (items.Head seed moment ∷ xs) e h f = early-after (after_item c (items.Head seed moment)) xs refl h f.1
early-after c (items.File path bytes ∷ xs) e h f = early-after (after_item c (items.File path bytes)) xs e h f.1
early-after c (items.Start ∷ xs) e h f = absurd cc
early-after c (items.Event event ∷ xs) e h f = absurd (early-not-running c.stage e f.0.0)
early-after c (items.End ∷ xs) e h f = absurd (early-not-running c.stage e f.0)

pub last-fits : (c : Context) (xs : List Item) (x : Item) → AllFit c (xs ++ x ∷ []) → Fits (after_items c xs) x × AllFit c xs
last-fits c [] x f = (f.0, tt)
last-fits c (y ∷ xs) x f = let w = last-fits (after_item c y) xs x f.1 in (w.0, (f.0, w.1))

-- no `end` comes before `start`
pub end-not-early : (r : Reading) (xs : List Item) → has_started xs ≡ false → HasGiven r (xs ++ items.End ∷ []) → ⊥
end-not-early r xs h v = let w = last-fits beginning xs items.End v.fit in early-not-running (after_items beginning xs).stage (early-after beginning xs refl h w.1) w.0

pub not_started-push : (xs : List Item) (x : Item) → has_started xs ≡ false → has_started (x ∷ []) ≡ false → has_started (xs ++ x ∷ []) ≡ false
not_started-push [] x h n = n
not_started-push (items.Head seed moment ∷ xs) x h n = not_started-push xs x h n
not_started-push (items.File path bytes ∷ xs) x h n = not_started-push xs x h n
not_started-push (items.Start ∷ xs) x h n = absurd cc
not_started-push (items.Event event ∷ xs) x h n = not_started-push xs x h n
not_started-push (items.End ∷ xs) x h n = not_started-push xs x h n

pub files-append : (xs ys : List Item) → files_of (xs ++ ys) ≡ files_of xs ++ files_of ys
files-append [] ys = refl
files-append (items.Head seed moment ∷ xs) ys = files-append xs ys
files-append (items.File path bytes ∷ xs) ys = ap (λ fs. (path, bytes) ∷ fs) (files-append xs ys)
files-append (items.Start ∷ xs) ys = files-append xs ys
files-append (items.Event event ∷ xs) ys = files-append xs ys
files-append (items.End ∷ xs) ys = files-append xs ys

pub world_files-append : (xs ys : List Item) → world_files (xs ++ ys) ≡ world_files xs ++ world_files ys
world_files-append xs ys = ap (map world_file) (files-append xs ys) ∙ map-append world_file (files_of xs) (files_of ys)

-- an item that is no file adds none
pub world_files-same : (xs : List Item) (x : Item) → files_of (x ∷ []) ≡ [] → world_files (xs ++ x ∷ []) ≡ world_files xs
world_files-same xs x e = ap (map world_file) (files-append xs (x ∷ []) ∙ ap (λ fs. files_of xs ++ fs) e ∙ append-nil (files_of xs))

abbrev pub is_head : Item → Bool
is_head (items.Head seed moment) = true
is_head x = false

-- the first item says the seed and the moment
pub seed-front : (y : Item) (ys : List Item) → seed_of (y ∷ ys) ≡ seed_of (y ∷ [])
seed-front (items.Head seed moment) ys = refl
seed-front (items.File path bytes) ys = refl
seed-front items.Start ys = refl
seed-front (items.Event event) ys = refl
seed-front items.End ys = refl

pub moment-front : (y : Item) (ys : List Item) → moment_of (y ∷ ys) ≡ moment_of (y ∷ [])
moment-front (items.Head seed moment) ys = refl
moment-front (items.File path bytes) ys = refl
moment-front items.Start ys = refl
moment-front (items.Event event) ys = refl
moment-front items.End ys = refl

one-seed : (x : Item) → is_head x ≡ false → seed_of (x ∷ []) ≡ 0
one-seed (items.Head seed moment) h = absurd cc
one-seed (items.File path bytes) h = refl
one-seed items.Start h = refl
one-seed (items.Event event) h = refl
one-seed items.End h = refl

one-moment : (x : Item) → is_head x ≡ false → moment_of (x ∷ []) ≡ 0
one-moment (items.Head seed moment) h = absurd cc
one-moment (items.File path bytes) h = refl
one-moment items.Start h = refl
one-moment (items.Event event) h = refl
one-moment items.End h = refl

pub seed-same : (xs : List Item) (x : Item) → is_head x ≡ false → seed_of (xs ++ x ∷ []) ≡ seed_of xs
seed-same [] x h = one-seed x h
seed-same (y ∷ ys) x h = seed-front y (ys ++ x ∷ []) ∙ sym (seed-front y ys)

pub moment-same : (xs : List Item) (x : Item) → is_head x ≡ false → moment_of (xs ++ x ∷ []) ≡ moment_of xs
moment-same [] x h = one-moment x h
moment-same (y ∷ ys) x h = moment-front y (ys ++ x ∷ []) ∙ sym (moment-front y ys)

-- a script has begun
abbrev pub has_begun : Stage → Bool
has_begun Beginning = false
has_begun Filing = true
has_begun Running = true
has_begun Over = true

begun-event : (c : Context) (event : Event) → has_begun c.stage ≡ true → has_begun (after_event c event).stage ≡ true
begun-event c (Connect k) e = e
begun-event c (Line k bytes) e = e
begun-event c (Gone k) e = e
begun-event c (Tick t) e = e
begun-event c (Reload path bytes) e = e
begun-event c (Swap name) e = e

begun-after : (c : Context) (xs : List Item) → has_begun c.stage ≡ true → has_begun (after_items c xs).stage ≡ true
begun-after c [] e = e
begun-after c (items.Head seed moment ∷ xs) e = begun-after (after_item c (items.Head seed moment)) xs refl
begun-after c (items.File path bytes ∷ xs) e = begun-after (after_item c (items.File path bytes)) xs e
begun-after c (items.Start ∷ xs) e = begun-after (after_item c items.Start) xs refl
begun-after c (items.Event event ∷ xs) e = begun-after (after_item c (items.Event event)) xs (begun-event c event e)
begun-after c (items.End ∷ xs) e = begun-after (after_item c items.End) xs refl

stages-apart : (s t : Stage) → has_begun s ≡ true → has_begun t ≡ false → s ≡ t → ⊥
stages-apart s t e n f = let h = ap has_begun f in absurd cc

-- nothing stands before the head
head-first : (xs : List Item) (seed moment : ℕ) → AllFit beginning (xs ++ items.Head seed moment ∷ []) → xs ≡ []
head-first [] seed moment f = refl
head-first (items.Head a b ∷ xs) seed moment f =
    absurd (stages-apart _ Beginning (begun-after (after_item beginning (items.Head a b)) xs refl) refl (last-fits (after_item beginning (items.Head a b)) xs (items.Head seed moment) f.1).0.0)
head-first (items.File path bytes ∷ xs) seed moment f = absurd (stages-apart Filing Beginning refl refl (sym f.0.0))
head-first (items.Start ∷ xs) seed moment f = absurd (stages-apart Filing Beginning refl refl (sym f.0))
head-first (items.Event event ∷ xs) seed moment f = absurd (stages-apart Running Beginning refl refl (sym f.0.0))
head-first (items.End ∷ xs) seed moment f = absurd (stages-apart Running Beginning refl refl (sym f.0))

-- the moment of a head is one that the driver may start at
pub moment-small : (xs : List Item) → AllFit beginning xs → moment_of xs ≤ 10 ^ 12
moment-small [] f = omega arith
moment-small (items.Head seed moment ∷ xs) f = let l : moment ≤ 1000000000000 = f.0.2 in omega (arith, l)
moment-small (items.File path bytes ∷ xs) f = omega arith
moment-small (items.Start ∷ xs) f = omega arith
moment-small (items.Event event ∷ xs) f = omega arith
moment-small (items.End ∷ xs) f = omega arith

-- the files with one more behind them
found_one : (b : Bool) (path bytes : List ℕ) → option_map (λ (f : File). f.bytes) (if b then Some (record { path = path; bytes = bytes }) else None) ≡ first_of None (if b then Some bytes else None)
found_one true path bytes = refl
found_one false path bytes = refl

found_first : (b : Bool) (g : File) (o p : Option File) (q : Option (List ℕ)) → option_map (λ (f : File). f.bytes) o ≡ first_of (option_map (λ (f : File). f.bytes) p) q
    → option_map (λ (f : File). f.bytes) (if b then Some g else o) ≡ first_of (option_map (λ (f : File). f.bytes) (if b then Some g else p)) q
found_first true g o p q e = refl
found_first false g o p q e = e

file_behind : (fs : List File) (path bytes q : List ℕ) → steps.file_at (fs ++ record { path = path; bytes = bytes } ∷ []) q ≡ first_of (steps.file_at fs q) (if bytes_eq path q then Some bytes else None)
file_behind [] path bytes q = found_one (bytes_eq path q) path bytes
file_behind (g ∷ fs) path bytes q = found_first (pointwise nat_eq g.path q) g _ _ (if bytes_eq path q then Some bytes else None) (file_behind fs path bytes q)

has-more : (old new : Store) (xs : List Item) (path bytes : List ℕ) → HasFiles old (world_files xs) → HasOneMore old new path bytes → HasFiles new (world_files (xs ++ items.File path bytes ∷ []))
has-more old new xs path bytes h m q =
    m q ∙ ap (λ o. first_of o (if bytes_eq path q then Some bytes else None)) (h q)
    ∙ sym (ap (λ fs. steps.file_at fs q) (world_files-append xs (items.File path bytes ∷ [])) ∙ file_behind (world_files xs) path bytes q)

has-same : (store : Store) (xs : List Item) (x : Item) → files_of (x ∷ []) ≡ [] → HasFiles store (world_files xs) → HasFiles store (world_files (xs ++ x ∷ []))
has-same store xs x e h q = h q ∙ sym (ap (λ fs. steps.file_at fs q) (world_files-same xs x e))

same-noted : (xs : List Item) (x : Item) (old new : Opening) → is_head x ≡ false → files_of (x ∷ []) ≡ [] → new ≡ old → AreNoted xs old → AreNoted (xs ++ x ∷ []) new
same-noted xs x old new h e s a = record {
  files = has-same new.store xs x e (subst (λ (o : Opening). HasFiles o.store (world_files xs)) (sym s) a.files);
  seed = ap (λ (o : Opening). o.seed) s ∙ a.seed ∙ sym (seed-same xs x h);
  moment = ap (λ (o : Opening). o.moment) s ∙ a.moment ∙ sym (moment-same xs x h);
}

head-noted : (xs : List Item) (seed moment : ℕ) (old new : Opening) → xs ≡ [] → Notes old (items.Head seed moment) new → AreNoted xs old → AreNoted (xs ++ items.Head seed moment ∷ []) new
head-noted xs seed moment old new e n a = record {
  files = has-same new.store xs (items.Head seed moment) refl (subst (λ s. HasFiles s (world_files xs)) (sym n.2) a.files);
  seed = n.0 ∙ ap (λ ys. seed_of (ys ++ items.Head seed moment ∷ [])) (sym e);
  moment = n.1 ∙ ap (λ ys. moment_of (ys ++ items.Head seed moment ∷ [])) (sym e);
}

pub noted-more : (xs : List Item) (x : Item) (old new : Opening) → AllFit beginning (xs ++ x ∷ []) → Notes old x new → AreNoted xs old → AreNoted (xs ++ x ∷ []) new
noted-more xs (items.Head seed moment) old new f n a = head-noted xs seed moment old new (head-first xs seed moment f) n a
noted-more xs (items.File path bytes) old new f n a = record {
  files = has-more old.store new.store xs path bytes a.files n.2;
  seed = n.0 ∙ a.seed ∙ sym (seed-same xs (items.File path bytes) refl);
  moment = n.1 ∙ a.moment ∙ sym (moment-same xs (items.File path bytes) refl);
}
noted-more xs items.Start old new f n a = same-noted xs items.Start old new refl refl n a
noted-more xs (items.Event event) old new f n a = same-noted xs (items.Event event) old new refl refl n a
noted-more xs items.End old new f n a = same-noted xs items.End old new refl refl n a

-- an item that is neither `start` nor `end`
abbrev pub is_inner : Item → Bool
is_inner items.Start = false
is_inner items.End = false
is_inner x = true

pub inner-goes : (x : Item) (r : Reading) → is_inner x ≡ true → IsAfter (Ok x) r.phase → GoesOn r.phase
inner-goes items.Start r i e = absurd cc
inner-goes items.End r i e = absurd cc
inner-goes x r i e = subst GoesOn (sym e) tt

pub inner-not_started : (x : Item) → is_inner x ≡ true → has_started (x ∷ []) ≡ false
inner-not_started items.Start i = absurd cc
inner-not_started items.End i = absurd cc
inner-not_started x i = refl

-- one item more
pub filing-more : (old new : Reading) (opening after : Opening) (x : Item) (f : IsFiling old opening) → HasGiven new (f.read ++ x ∷ []) → is_inner x ≡ true → IsAfter (Ok x) new.phase → Notes opening x after → IsFiling new after
filing-more old new opening after x f v i e n = record {
  read = f.read ++ x ∷ [];
  given = v;
  goes = inner-goes x new i e;
  not_started = not_started-push f.read x f.not_started (inner-not_started x i);
  noted = noted-more f.read x opening after v.fit n f.noted;
}

-- the start was read
pub filing-start : (old new : Reading) (opening : Opening) (x : Item) (f : IsFiling old opening) → x ≡ items.Start → HasGiven new (f.read ++ x ∷ []) → IsAfter (Ok x) new.phase → new.at ≡ old.cut → IsAtStart new opening
filing-start old new opening x f s v e p = record {
  files = f.read;
  given = subst (λ y. HasGiven new (f.read ++ y ∷ [])) s v;
  phase = subst (λ y. IsAfter (Ok y) new.phase) s e;
  place = p ∙ cut_is old f.read f.given;
  not_started = f.not_started;
  noted = f.noted;
}

by_same : (xs ys : List Item) → has_started xs ≡ false → (ys ≡ xs) ⊎ (ys ≡ xs ++ items.End ∷ []) → has_started ys ≡ false
by_same xs ys n (inl e) = ap has_started e ∙ n
by_same xs ys n (inr e) = ap has_started e ∙ not_started-push xs items.End n refl

-- an end among the files has no start before
pub filing-ends : (b : List ℕ) (xs : List Item) (s : Status) → has_started xs ≡ false → EndsReading b xs s → (ys : List Item) × (has_started ys ≡ false) × Ends b ys s
filing-ends b xs s n r = (r.read, by_same xs r.read n r.same, r.ends)

pub start-is : (x : Item) → is_start x ≡ true → x ≡ items.Start
start-is items.Start h = refl
start-is x h = absurd cc

pub end-is : (x : Item) → is_end x ≡ true → x ≡ items.End
end-is items.End h = refl
end-is x h = absurd cc

pub inner-is : (x : Item) → is_start x ≡ false → is_end x ≡ false → is_inner x ≡ true
inner-is items.Start h k = absurd cc
inner-is items.End h k = absurd cc
inner-is x h k = refl
