-- The state with an object more stands for the world with an object more, and is closed.
use Rattle.std.proofs.Common.{◌≡◌, ◌∙◌, ◌++◌, ◌+◌, ◌≤◌, ℕ, zero, suc, All, Bool, true, false, ◌&&◌, List, [], ◌∷◌, Option, Some, None, IsSome, is_some, refl, ap, sym, subst, inl, inr, map, filter, slice_get, unwrap_or, length, codes, replicate, nat_lt, if◌then◌else◌, pos, arith}
use Rattle.std.specs.Prelude.{nat_eq}
use Rattle.std.specs.Cmp.Lexicographic.{pointwise}
use Rattle.std.proofs.lemmas.Bool.{cases_Bool, eqb-false, eqb-true, lt-ltb, ltb-true}
use Rattle.std.proofs.lemmas.List.{length-replicate, replicate-append-replicate}
use Rattle.std.proofs.lemmas.List.Elements.{All-cons, All-contains, All-nil}
use Rattle.lp_values.specs.declared.id.ObjId.{ObjId}
use Rattle.lp_values.specs.declared.id.ProgId.{ProgId}
use Rattle.lp_values.specs.declared.value.Value.{Value}
use Rattle.lp_values.specs.declared.value.Value.TheVariants.{Int}
use Rattle.lp_cells.specs.Cells.{IsThere, Store}
use Rattle.lp_code.specs.declared.program.RawProgram.{RawProgram}
use Rattle.lp_code.specs.declared.tables.Slot.{Slot}
use Rattle.lp_code.specs.declared.tables.Tables.{Tables}
use Rattle.lp_objects.specs.Objects as named
use Rattle.lp_objects.specs.Objects.{Named, max_live, may_add}
use Rattle.lp_objects.specs.Stands as names
use Rattle.lp_objects.specs.Stands.{IsAdded, is_memory}
use Rattle.lp_objects.specs.declared.fault.ObjectFault.{ObjectFault}
use Rattle.lp_objects.specs.declared.fault.ObjectFault.TheVariants.{NameTaken, NoMemory, TooMany}
use Rattle.lp_objects.specs.declared.objects.Objects.{Objects}
use Rattle.lp_swapfile.specs.Device.{Bytes}
use Rattle.lp_timers.specs.Timers.{CallOut, CleanUp, Reset}
use Rattle.lp_timers.specs.Timing.{Timing}
use Rattle.lp_language.specs.World as world
use Rattle.lp_language.specs.World.{World, named_from, new_world, object_named, version_at}
use Rattle.lp_language.specs.Resolve.{Found, Heritage, heritage, resolve, variable_count}
use Rattle.lp_meaning.specs.IdleAndKept.{IsKept, by_child, by_object}
use Rattle.lp_meaning.specs.WorldSteps as steps
use Rattle.lp_meaning.specs.WorldSteps.{has_room, live_count, next_object, watch_if}
use Rattle.lp_code.specs.Slots.{first_place}
use Rattle.lp_types_expr.specs.Signatures.{has_function as has_row}
use Rattle.lp_layout.specs.Layout.{slot_named}
use Rattle.lp_layout.proofs.Beside.{slot_place}
use Rattle.lp_layout.proofs.Beside as beside
use Rattle.lp_inherit.specs.Heirs.{MeansTheSame, table, with_function}
use Rattle.lp_inherit.proofs.Meanings.{count_variables, row_agrees}
use Rattle.lp_world.specs.Additions.{new_object}
use Rattle.lp_world.specs.Closed.{IsClosed, variables_in}
use Rattle.lp_world.specs.Rows.{row_at, version_state}
use Rattle.lp_world.specs.Stands.{AreObjects, IsObject, IsVersion, ObjectIs, ProgramIs, Stands, heritage_in, named_of}
use Rattle.lp_world.specs.declared.live.Live.{Live}
use Rattle.lp_world.specs.declared.objects.Object.{Object}
use Rattle.lp_world.specs.declared.versions.ProgramState.{ProgramState}
use Rattle.lp_world.specs.declared.versions.ProgramState.TheVariants as programs_of
use Rattle.lp_world.specs.declared.versions.Version.{Version}
use Rattle.lp_world.proofs.BareWorlds.{heritage_same}
use Rattle.lp_world.proofs.Grown.{closed_with_new_object}
use Rattle.lp_world.proofs.Keeping.{get_new}
use Rattle.lp_world.proofs.Numbering.{numbered_same}
use Rattle.lp_residence.specs.Owners.{program_of}
use Rattle.lp_residence.proofs.RowChanges.{row_there}
use Rattle.lp_making.specs.Objects.{IsNotMade, IsRefused, IsUnwatched, IsWanted, IsWantedOf, StandsStill, StandsWithObject, has_function, program_at, with_object, with_watches, without_watches, zeros}
use Rattle.lp_making.specs.Trees.{HasTables}
use Rattle.lp_making.proofs.NewVersion.{parents_there}
use Rattle.lp_making.proofs.Watched.{both_back}

-- Lists

-- two lists that agree place by place still do where one more comes to each
module _ {A B : Type 0} where
  abbrev Agree : (ℕ → Option A → Option B → Type 0) → List A → List B → Type 0
  Agree P xs ys = (n : ℕ) → P n (slice_get xs n) (slice_get ys n)

  one_more : (P : ℕ → Option A → Option B → Type 0) → ((n : ℕ) → P n None None) → ((n : ℕ) (y : B) → P n None (Some y) → ⊥) → ((n : ℕ) (x : A) → P n (Some x) None → ⊥)
      → (xs : List A) (ys : List B) (x : A) (y : B) → Agree P xs ys → P (length ys) (Some x) (Some y) → Agree P (xs ++ x ∷ []) (ys ++ y ∷ [])
  one_more P e f g [] [] x y a l zero = l
  one_more P e f g [] [] x y a l (suc n) = e (suc n)
  one_more P e f g [] (v ∷ ys) x y a l n = absurd (f 0 v (a 0))
  one_more P e f g (u ∷ xs) [] x y a l n = absurd (g 0 u (a 0))
  one_more P e f g (u ∷ xs) (v ∷ ys) x y a l zero = a 0
  one_more P e f g (u ∷ xs) (v ∷ ys) x y a l (suc n) = one_more (λ m. P (suc m)) (λ m. e (suc m)) (λ m. f (suc m)) (λ m. g (suc m)) xs ys x y (λ m. a (suc m)) l n

  same_length : (P : ℕ → Option A → Option B → Type 0) → ((n : ℕ) (y : B) → P n None (Some y) → ⊥) → ((n : ℕ) (x : A) → P n (Some x) None → ⊥)
      → (xs : List A) (ys : List B) → Agree P xs ys → length xs ≡ length ys
  same_length P f g [] [] a = refl
  same_length P f g [] (v ∷ ys) a = absurd (f 0 v (a 0))
  same_length P f g (u ∷ xs) [] a = absurd (g 0 u (a 0))
  same_length P f g (u ∷ xs) (v ∷ ys) a = ap suc (same_length (λ m. P (suc m)) (λ m. f (suc m)) (λ m. g (suc m)) xs ys (λ m. a (suc m)))

named_more : (xs : List world.Object) (x : world.Object) → map named_of (xs ++ x ∷ []) ≡ map named_of xs ++ named_of x ∷ []
named_more [] x = refl
named_more (y ∷ xs) x = ap (λ l. named_of y ∷ l) (named_more xs x)

-- Names

same_from : (name : List ℕ) (n : ℕ) (xs : List world.Object) → named.named_from name n (map named_of xs) ≡ named_from name n xs
same_from name n [] = refl
same_from name n (x ∷ xs) = ap (λ o. if x.is_live && pointwise nat_eq x.name name then Some (record { 0 = n }) else o) (same_from name (suc n) xs)

pub same_named : (w : World) (name : List ℕ) → named.object_named (map named_of w.objects) name ≡ object_named w name
same_named w name = same_from name 0 w.objects

counted : (xs : List world.Object) → named.live_count (map named_of xs) ≡ length (filter (λ (x : world.Object). x.is_live) xs)
counted [] = refl
counted (x ∷ xs) = by x.is_live (counted xs)
  where
    by : (b : Bool) → named.live_count (map named_of xs) ≡ length (filter (λ (y : world.Object). y.is_live) xs)
        → (if b then 1 else 0) + named.live_count (map named_of xs) ≡ length (if b then x ∷ filter (λ (y : world.Object). y.is_live) xs else filter (λ (y : world.Object). y.is_live) xs)
    by true e = omega (arith, e)
    by false e = omega (arith, e)

none_of : (o : Option ObjId) → is_some o ≡ false → o ≡ None
none_of None e = refl
none_of (Some x) e = cc

is_there : (o : Option ObjId) → is_some o ≡ true → IsSome o
is_there None e = cc
is_there (Some x) e = refl

-- Why an object may not be made

may_not_taken : (a b : Bool) → (if a then Some NameTaken else (if b then Some TooMany else None)) ≡ Some NameTaken → a ≡ true
may_not_taken true b e = refl
may_not_taken false true e = cc
may_not_taken false false e = cc

may_not_full : (a b : Bool) → (if a then Some NameTaken else (if b then Some TooMany else None)) ≡ Some TooMany → (a ≡ false) × (b ≡ true)
may_not_full true b e = cc
may_not_full false true e = (refl, refl)
may_not_full false false e = cc

may_be : (a b : Bool) → (if a then Some NameTaken else (if b then Some TooMany else None)) ≡ None → (a ≡ false) × (b ≡ false)
may_be true b e = cc
may_be false true e = cc
may_be false false e = (refl, refl)

room_false : (n m : ℕ) → nat_eq n m ≡ true → nat_lt n m ≡ false
room_false n m e = elim (cases_Bool (nat_lt n m)) [
  | inl t ↦ let lt = ltb-true n m t in let q = eqb-true n m e in absurd (omega (arith, lt, q))
  | inr f ↦ f
]

room_true : (n m : ℕ) → n ≤ m → nat_eq n m ≡ false → nat_lt n m ≡ true
room_true n m l e = let d = eqb-false n m e in lt-ltb n m (omega (arith, l, d))

module _ (w : World) (table : Objects) (before : names.Stands table (map named_of w.objects)) (name : List ℕ) where
  abbrev all : List Named
  all = map named_of w.objects

  same_count : named.live_count all ≡ live_count w
  same_count = counted w.objects

  pub may_have_room : may_add all name ≡ None → (has_room w ≡ true) × (object_named w name ≡ None)
  may_have_room e =
      let m = may_be (is_some (named.object_named all name)) (nat_eq (named.live_count all) max_live) e in
      (ap (λ n. nat_lt n max_live) (sym same_count) ∙ room_true (named.live_count all) max_live before.few m.1, sym (same_named w name) ∙ none_of (named.object_named all name) m.0)

  is_not_made : (e : ObjectFault) → may_add all name ≡ (if is_memory e then None else Some e) → IsNotMade w name e
  is_not_made NameTaken e = subst IsSome (same_named w name) (is_there (named.object_named all name) (may_not_taken (is_some (named.object_named all name)) (nat_eq (named.live_count all) max_live) e))
  is_not_made TooMany e =
      let m = may_not_full (is_some (named.object_named all name)) (nat_eq (named.live_count all) max_live) e in
      (sym (same_named w name) ∙ none_of (named.object_named all name) m.0, ap (λ n. nat_lt n max_live) (sym same_count) ∙ room_false (named.live_count all) max_live m.1)
  is_not_made NoMemory e = tt

  no_memory : (e : ObjectFault) → e ≡ NoMemory → IsNotMade w name e
  no_memory e q = subst (IsNotMade w name) (sym q) tt

  pub refused_so : (e : ObjectFault) → (after : Objects) → IsRefused after all name e → names.Stands after all × IsNotMade w name e
  refused_so e after (inl r) = (r.1, no_memory e r.0)
  refused_so e after (inr r) = (r.after, is_not_made e r.reason)

-- Refused: the state stands for the same world.

pub stands_with_names : (told : Option Bytes) (programs : List RawProgram) (live : Live) (w : World) (table : Objects) → Stands told programs live w
    → names.Stands table (map named_of w.objects) → names.next_clone_in table ≡ names.next_clone_in live.names → Stands told programs (record live { names = table }) w
stands_with_names told programs live w table h n c = record {
  cells = h.cells;
  objects = h.objects;
  names = n;
  versions = h.versions;
  kept = h.kept;
  rest = record {
    files = h.rest.files;
    simul = h.rest.simul;
    places = h.rest.places;
    sentences = h.rest.sentences;
    next_sentence = h.rest.next_sentence;
    timing = h.rest.timing;
    connections = h.rest.connections;
    highest = h.rest.highest;
    present = h.rest.present;
    waiting = h.rest.waiting;
    clock = h.rest.clock;
    generator = h.rest.generator;
    next_clone = c ∙ h.rest.next_clone;
  };
}

pub stands_still : (old : Live) (name : List ℕ) (e : ObjectFault) (table : Objects) → ((all : List Named) → names.Stands old.names all → IsRefused table all name e)
    → names.next_clone_in table ≡ names.next_clone_in old.names → StandsStill old (record old { names = table }) name e
stands_still old name e table r c told programs w h =
    let q = refused_so w old.names h.names name e table (r (map named_of w.objects) h.names) in
    (stands_with_names told programs old w table h q.0 c, q.1)

pub closed_with_names : (live : Live) (table : Objects) → IsClosed live → IsClosed (record live { names = table })
closed_with_names live table h = record { clock = h.clock; cells = h.cells; objects = h.objects; apart = h.apart; versions = h.versions; call_outs = h.call_outs; waiting = h.waiting; placed = h.placed; numbered = h.numbered; room = h.room }

-- Functions of a program

means_some : (s : Option Slot) (f : Option Found) → MeansTheSame s f → is_some s ≡ is_some f
means_some None None m = refl
means_some None (Some f) m = absurd m
means_some (Some s) None m = absurd m
means_some (Some s) (Some f) m = refl

function_same : (h : Heritage) (p : RawProgram) (w : List ℕ) → HasTables h p → has_function p w ≡ is_some (resolve h w)
function_same h p w t =
    ap (λ (x : Tables). is_some (with_function (slot_named x.slots w))) t.tables ∙ means_some (with_function (slot_named (table h).slots w)) (resolve h w) (row_agrees h w t.numbered)

-- The new object

module _ (told : Option Bytes) (programs : List RawProgram) (live : Live) (w : World) (name : List ℕ) (p : ProgId) (row : Version) (raw : RawProgram) (reset clean_up : Bool) (table : Objects)
    (h : Stands told programs live w) (c : IsClosed live) (there : slice_get live.versions p.0 ≡ Some (Some row)) (inside : row.state ≡ programs_of.Resident raw) (wanted : IsWanted raw reset clean_up)
    (tabled : (q : RawProgram) → slice_get programs p.0 ≡ Some q → HasTables (heritage_in w.versions p) q)
    (id : ObjId) (added : IsAdded table (map named_of w.objects) name p id) (clones : names.next_clone_in table ≡ names.next_clone_in live.names) where
  abbrev tree : Heritage
  tree = heritage_in w.versions p

  v : IsVersion told programs w.versions p.0 row
  v = h.versions.each p.0 row there

  same_program : raw ≡ v.program
  same_program = subst (ProgramIs told v.program) inside v.state

  tables : HasTables tree v.program
  tables = tabled v.program v.is

  has_same : (name : List ℕ) → has_function raw name ≡ steps.has_function w p name
  has_same name = ap (λ (q : RawProgram). has_function q name) same_program ∙ function_same tree v.program name tables ∙ ap (λ t. is_some (resolve t name)) (sym (heritage_same w p))

  count_same : row.outline.variables ≡ variable_count (heritage w p)
  count_same = v.outline.variables ∙ ap (λ (t : Tables). length t.vars) tables.tables ∙ count_variables tree ∙ ap variable_count (sym (heritage_same w p))

  abbrev rows : List (Option Object)
  rows = live.objects ++ Some (new_object p live.clock (zeros row.outline.variables)) ∷ []

  abbrev made : world.Object
  made = record { name = name; version = p; is_live = true; is_living = false; variables = replicate (variable_count (heritage w p)) (Int (pos 0)); latest = w.clock }

  is_made : IsObject told live.cells w.cells (length w.objects) (new_object p live.clock (zeros row.outline.variables)) made
  is_made = record { version = refl; live = refl; living = refl; latest = λ l. h.rest.clock; variables = ap zeros count_same }

  objects : AreObjects told live.cells w.cells rows (w.objects ++ made ∷ [])
  objects = one_more (λ n o x. ObjectIs told live.cells w.cells n o x) (λ n. tt) (λ n y a. a) (λ n x a. a) live.objects w.objects (Some (new_object p live.clock (zeros row.outline.variables))) made h.objects is_made

  same_serials : length live.objects ≡ length w.objects
  same_serials = same_length (λ n o x. ObjectIs told live.cells w.cells n o x) (λ n y a. a) (λ n x a. a) live.objects w.objects h.objects

  version_there : IsSome (row_at live.versions p.0)
  version_there = subst (λ o. IsSome (unwrap_or o None)) (sym there) refl

  kept : (q : ProgId) → IsKept (record (new_world [] 0 0) { objects = w.objects ++ made ∷ []; versions = w.versions }) q → IsSome (row_at live.versions q.0)
  kept _ (by_object n x e l) = elim (get_new w.objects made n x e) [
    | inl was ↦ h.kept x.version (by_object n x was l)
    | inr is ↦ subst (λ (q : ProgId). IsSome (row_at live.versions q.0)) (ap (λ (o : Option world.Object). (unwrap_or o made).version) is.0) version_there
  ]
  kept _ (by_child u q k i) =
      All-contains (λ (x : ProgId). IsSome (row_at live.versions x.0)) (version_at (record (new_world [] 0 0) { versions = w.versions }) u).parents q (parents_there told programs live w u h c (kept u k)) i

  abbrev timers : Timing
  timers = with_watches live.timers reset clean_up (record { 0 = length live.objects }) live.clock

  timing : timers ≡ record { next = w.next_call_out; call_outs = w.call_outs; beats = w.beats; watches = w.watches ++ watch_if (steps.has_function w p (codes "reset")) Reset (next_object w) w.clock ++ watch_if (steps.has_function w p (codes "clean_up")) CleanUp (next_object w) w.clock }
  timing =
      ap (λ t. with_watches t reset clean_up (record { 0 = length live.objects }) live.clock) h.rest.timing
      ∙ ap (λ n. with_watches (record { next = w.next_call_out; call_outs = w.call_outs; beats = w.beats; watches = w.watches }) reset clean_up (record { 0 = n }) live.clock) same_serials
      ∙ ap (with_watches (record { next = w.next_call_out; call_outs = w.call_outs; beats = w.beats; watches = w.watches }) reset clean_up (next_object w)) h.rest.clock
      ∙ ap (λ b. with_watches (record { next = w.next_call_out; call_outs = w.call_outs; beats = w.beats; watches = w.watches }) b clean_up (next_object w) w.clock) (wanted.resets ∙ has_same (codes "reset"))
      ∙ ap (λ b. with_watches (record { next = w.next_call_out; call_outs = w.call_outs; beats = w.beats; watches = w.watches }) (steps.has_function w p (codes "reset")) b (next_object w) w.clock) (wanted.cleans_up ∙ has_same (codes "clean_up"))

  pub stands_with_object : Stands told programs (with_object live p (zeros row.outline.variables) table timers) (steps.with_new_object w name p)
  stands_with_object = record {
    cells = h.cells;
    objects = objects;
    names = subst (names.Stands table) (sym (named_more w.objects made)) added.after;
    versions = h.versions;
    kept = kept;
    rest = record {
      files = h.rest.files;
      simul = h.rest.simul;
      places = h.rest.places;
      sentences = h.rest.sentences;
      next_sentence = h.rest.next_sentence;
      timing = timing;
      connections = h.rest.connections;
      highest = h.rest.highest;
      present = h.rest.present;
      waiting = h.rest.waiting;
      clock = h.rest.clock;
      generator = h.rest.generator;
      next_clone = clones ∙ h.rest.next_clone;
    };
  }

-- Closed

zeros_there : (store : Store) (n : ℕ) → All (IsThere store) (zeros n)
zeros_there store zero = All-nil (IsThere store)
zeros_there store (suc n) = All-cons (IsThere store) (Int (pos 0)) (zeros n) tt (zeros_there store n)

pub closed_with_object : (live : Live) (p : ProgId) (row : Version) (table : Objects) (t : Timing) → IsClosed live → slice_get live.versions p.0 ≡ Some (Some row) → t.next ≡ live.timers.next → t.call_outs ≡ live.timers.call_outs
    → IsClosed (with_object live p (zeros row.outline.variables) table t)
closed_with_object live p row table t h there next same =
    let c = closed_with_new_object live p live.clock (zeros row.outline.variables) row h (ap (λ o. unwrap_or o None) there) (length-replicate row.outline.variables (Int (pos 0))) (zeros_there live.cells row.outline.variables) in
    record {
      clock = c.clock;
      cells = c.cells;
      objects = c.objects;
      apart = c.apart;
      versions = c.versions;
      call_outs = subst (All (λ (x : CallOut). All (IsThere live.cells) x.arguments)) (sym same) h.call_outs;
      waiting = c.waiting;
      placed = c.placed;
      numbered = numbered_same live.timers t next same h.numbered;
      room = c.room;
    }

-- Functions of a program, by its map of names

pub one_zero : (n : ℕ) → zeros n ++ Int (pos 0) ∷ [] ≡ zeros (n + 1)
one_zero n = replicate-append-replicate n 1 (Int (pos 0))

found_function : (s : Slot) → is_some (with_function (Some s)) ≡ has_row s
found_function s = by (has_row s)
  where
    by : (b : Bool) → is_some (if b then Some s else None) ≡ b
    by true = refl
    by false = refl

pub function_none : (p : RawProgram) (w : List ℕ) → first_place w p.tables.slots ≡ None → has_function p w ≡ false
function_none p w e = ap (λ o. is_some (with_function o)) (slot_place p.tables.slots w ∙ ap (beside.row_at p.tables.slots) e)

pub function_some : (p : RawProgram) (w : List ℕ) (k : ℕ) (s : Slot) → first_place w p.tables.slots ≡ Some k → slice_get p.tables.slots k ≡ Some s → has_function p w ≡ has_row s
function_some p w k s e g = ap (λ o. is_some (with_function o)) (slot_place p.tables.slots w ∙ ap (beside.row_at p.tables.slots) e ∙ g) ∙ found_function s

-- The steps of making an object

-- the version whose program is in memory
pub inside_row : (live : Live) (p : ProgId) → IsSome (program_at live.versions p)
    → (row : Version) × (raw : RawProgram) × (slice_get live.versions p.0 ≡ Some (Some row)) × (row.state ≡ programs_of.Resident raw) × (program_at live.versions p ≡ Some raw)
inside_row live p i = by (row_at live.versions p.0) refl i
  where
    state_by : (row : Version) (s : ProgramState) → row.state ≡ s → row_at live.versions p.0 ≡ Some row → IsSome (program_of (Some s))
        → (r : Version) × (raw : RawProgram) × (slice_get live.versions p.0 ≡ Some (Some r)) × (r.state ≡ programs_of.Resident raw) × (program_at live.versions p ≡ Some raw)
    state_by row (programs_of.Resident raw) e r j = (row, raw, row_there live.versions p.0 row r, e, ap (λ o. program_of (version_state o)) r ∙ ap (λ s. program_of (Some s)) e)
    state_by row (programs_of.Swapped t) e r j = cc

    by : (o : Option Version) → row_at live.versions p.0 ≡ o → IsSome (program_of (version_state o))
        → (r : Version) × (raw : RawProgram) × (slice_get live.versions p.0 ≡ Some (Some r)) × (r.state ≡ programs_of.Resident raw) × (program_at live.versions p ≡ Some raw)
    by None e j = cc
    by (Some row) e j = state_by row row.state refl e j

module _ (old new : Live) (name : List ℕ) (p : ProgId) (reset clean_up : Bool) (c : IsClosed old) (inside : IsSome (program_at old.versions p)) (wanted : IsWantedOf (program_at old.versions p) reset clean_up) where
  abbrev count : ℕ
  count = variables_in (row_at old.versions p.0)

  abbrev to_come : Timing
  to_come = with_watches old.timers reset clean_up (record { 0 = length old.objects }) old.clock

  count_is : (row : Version) → slice_get old.versions p.0 ≡ Some (Some row) → row.outline.variables ≡ count
  count_is row e = ap (λ q. variables_in (unwrap_or q None)) (sym e)

  pub made_stands : new ≡ with_object old p (zeros count) new.names to_come → ((all : List Named) → names.Stands old.names all → (n : ObjId) × IsAdded new.names all name p n)
      → names.next_clone_in new.names ≡ names.next_clone_in old.names → StandsWithObject old new name p
  made_stands e added clones told programs w h tabled =
      let r = inside_row old p inside in
      let a = added (map named_of w.objects) h.names in
      let is = subst (λ q. IsWantedOf q reset clean_up) r.4 wanted in
      let s = stands_with_object told programs old w name p r.0 r.1 reset clean_up new.names h c r.2 r.3 is tabled a.0 a.1 clones in
      let there : Stands told programs (with_object old p (zeros count) new.names to_come) (steps.with_new_object w name p)
      = subst (λ k. Stands told programs (with_object old p (zeros k) new.names to_come) (steps.with_new_object w name p)) (count_is r.0 r.2) s in
      let m = may_have_room w old.names h.names name a.1.may in
      (subst (λ l. Stands told programs l (steps.with_new_object w name p)) (sym e) there, m.0, m.1)

  pub made_closed : new ≡ with_object old p (zeros count) new.names to_come → IsClosed new
  made_closed e =
      let r = inside_row old p inside in
      subst IsClosed (sym e) (subst (λ k. IsClosed (with_object old p (zeros k) new.names to_come)) (count_is r.0 r.2) (closed_with_object old p r.0 new.names to_come c r.2 refl refl))

pub not_made : (old new : Live) (name : List ℕ) (e : ObjectFault) → new ≡ record old { names = new.names } → ((all : List Named) → names.Stands old.names all → IsRefused new.names all name e)
    → names.next_clone_in new.names ≡ names.next_clone_in old.names → StandsStill old new name e
not_made old new name e s r c told programs w h =
    let q = stands_still old name e new.names r c told programs w h in (subst (λ l. Stands told programs l w) (sym s) q.0, q.1)

pub no_memory_still : (old : Live) (name : List ℕ) → StandsStill old old name NoMemory
no_memory_still old name told programs w h = (h, tt)

pub not_made_closed : (old new : Live) → new ≡ record old { names = new.names } → IsClosed old → IsClosed new
not_made_closed old new e h = subst IsClosed (sym e) (closed_with_names old new.names h)

-- the state after it
pub new_is : (old : Live) (p : ProgId) (reset clean_up : Bool) (table : Objects) (rows : List (Option Object)) (t : Timing) (vs : List Value) (n serial : ℕ)
    → vs ≡ zeros n → n ≡ variables_in (row_at old.versions p.0) → serial ≡ length old.objects → rows ≡ old.objects ++ Some (new_object p old.clock vs) ∷ [] → t ≡ with_watches old.timers reset clean_up (record { 0 = serial }) old.clock
    → record old { names = table; objects = rows; timers = t } ≡ with_object old p (zeros (variables_in (row_at old.versions p.0))) table (with_watches old.timers reset clean_up (record { 0 = length old.objects }) old.clock)
new_is old p reset clean_up table xs t vs n serial e f g h i =
    ap (λ l. record old { names = table; objects = l; timers = t }) (h ∙ ap (λ us. old.objects ++ Some (new_object p old.clock us) ∷ []) (e ∙ ap zeros f))
    ∙ ap (with_object old p (zeros (variables_in (row_at old.versions p.0))) table) (i ∙ ap (λ k. with_watches old.timers reset clean_up (record { 0 = k }) old.clock) g)

-- and after a refusal
pub old_is : (old : Live) (table : Objects) (rows : List (Option Object)) (before after : Timing) (reset clean_up : Bool) (o : ObjId) → IsUnwatched old.timers o → rows ≡ old.objects
    → before ≡ with_watches old.timers reset clean_up o old.clock → after ≡ without_watches before o → record old { names = table; objects = rows; timers = after } ≡ record old { names = table }
old_is old table xs before after reset clean_up o u e f g =
    ap (λ l. record old { names = table; objects = l; timers = after }) e
    ∙ ap (λ t. record old { names = table; timers = t }) (g ∙ ap (λ t. without_watches t o) f ∙ both_back old.timers reset clean_up o old.clock u)
