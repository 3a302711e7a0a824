-- How a clone begins, step by step.
use Rattle.std.proofs.Common.{◌≡◌, ◌∙◌, ℕ, refl, sym, ap, subst, Bool, true, false, List, Option, Some, None}
use Rattle.std.specs.Prelude.{◌+◌, ◌++◌, ◌==◌, codes, if◌then◌else◌}
use Rattle.std.specs.Fmt.{decimal}
use Rattle.lp_objects.specs.Objects.{Named}
use Rattle.lp_values.specs.declared.id.ObjId.{ObjId}
use Rattle.lp_values.specs.declared.id.ProgId.{ProgId}
use Rattle.lp_values.specs.declared.value.Value.{Value}
use Rattle.lp_values.specs.declared.error.ErrorKind.{ErrorKind}
use Rattle.lp_values.specs.declared.error.ErrorKind.TheVariants.{NoClone, TooMany}
use Rattle.lp_values.specs.Errors.{plain}
use Rattle.lp_code.specs.declared.program.RawProgram.{RawProgram}
use Rattle.lp_swapfile.specs.Device.{Bytes}
use Rattle.lp_objects.specs.declared.objects.Objects.{Objects}
use Rattle.lp_objects.specs.Stands as names
use Rattle.lp_language.specs.World.{World, version_at}
use Rattle.lp_language.specs.Course as course
use Rattle.lp_language.specs.Course.{Course, End, Failed, Gives, IsFaulty, IsSound, Over, Plain, Reply, State, Stops, WasRead, and_then, here, stops}
use Rattle.lp_language.specs.Resolve.{Heir, Heritage, version_of}
use Rattle.lp_meaning.specs.WorldSteps.{has_room}
use Rattle.lp_meaning.specs.Askers.{Asker}
use Rattle.lp_meaning.specs.FileLoads.{clone_name, cloning, making, object_reply, with_clone_number}
use Rattle.lp_world.specs.declared.live.Live.{Live}
use Rattle.lp_world.specs.declared.objects.Object.{Object}
use Rattle.lp_world.specs.Rows.{row_at}
use Rattle.lp_world.specs.Stands.{Stands, named_of}
use Rattle.std.specs.Prelude.{map}
use Rattle.lp_inherit.specs.Heirs.{table}
use Rattle.lp_part_laws.specs.Versions.{AreCompiled, heritage_in}
use Rattle.lp_part_laws.proofs.Trees.{version_settled}
use Rattle.lp_targets.specs.Brought.{StaysInMemory, program_at}
use Rattle.lp_targets.proofs.Worlds.{version_is}
use Rattle.lp_efuns.specs.declared.caller.Turn.{Turn}
use Rattle.lp_efuns.specs.Turns.{Setting}
use Rattle.lp_asking.specs.declared.ending.Ending.{Ending}
use Rattle.lp_asking.specs.declared.ending.Ending.TheVariants as endings
use Rattle.lp_beginning.specs.declared.job.Begun as makings
use Rattle.lp_beginning.specs.declared.job.Begun.TheVariants as made
use Rattle.lp_beginning.specs.declared.job.LoadKind.TheVariants as kinds
use Rattle.lp_beginning.specs.Beginning as making_of
use Rattle.lp_beginning.specs.Beginning.{Fits, StandsStill}
use Rattle.lp_beginning.specs.Ends.{IsReplyEnd, IsValueEnd, state_at}
use Rattle.lp_beginning.proofs.SeenParts.{fits_at}
use Rattle.lp_cloning.specs.declared.job.Begun.{Begun}
use Rattle.lp_cloning.specs.declared.job.Begun.TheVariants as begun
use Rattle.lp_cloning.specs.Beginning.{Asked, IsError, IsOverAt, StartsAs, made_named, made_numbered, made_of, made_roomy}
use Rattle.lp_cloning.specs.Feeding.{begun_of}

-- Courses that are the same

-- a course wanted that is another one, from each state for which the live state stands
pub starts_as : (r : Begun) (a b : Asked) (told : Option Bytes) (live0 live1 : Live) → ((g : Setting) (by : Asker) (turn : Turn) (budget : ℕ) (s : State) → g.told ≡ told → Fits g live0 turn budget s → b by s ≡ a by s)
    → StartsAs r a told live0 live1 → StartsAs r b told live0 live1
starts_as (begun.Ends e) a b told live0 live1 same h = λ budget g by turn s q f.
    let x = h budget g by turn s q f in
    record { end = x.end; over = same g by turn budget s q f ∙ x.over; is = x.is; fits = x.fits }
starts_as (begun.Runs job) a b told live0 live1 same h = λ budget g by turn s q f.
    let x = h budget g by turn s q f in
    (x.0, x.1, same g by turn budget s q f ∙ x.2, x.3)

-- an error
pub error_starts : (kind : ErrorKind) (r : Begun) (a : Asked) (told : Option Bytes) (live : Live) → IsError kind r → ((g : Setting) (by : Asker) (turn : Turn) (budget : ℕ) (s : State) → g.told ≡ told → Fits g live turn budget s → a by s ≡ stops (Failed (plain kind)) s)
    → StartsAs r a told live live
error_starts kind (begun.Runs job) a told live i same = absurd i
error_starts kind (begun.Ends e) a told live i same = λ budget g by turn s q f. record {
  end = Stops (here (Failed (plain kind))) s;
  over = same g by turn budget s q f;
  is = subst (λ x. IsValueEnd g.programs x (Stops (here (Failed (plain kind))) s)) (sym i) (record { cause = refl; place = tt });
  fits = f;
}

-- An object with a name of its own

reply_over : (g : Setting) (live : Live) (turn : Turn) (budget : ℕ) (e : Ending) (c : Course Reply) (end : End Reply) → c ≡ Over end → IsReplyEnd g.programs e end → Fits g live turn budget (state_at end) → IsOverAt g live turn budget e (and_then c object_reply)
reply_over g live turn budget (endings.Value v) c (Gives (Plain u) s) o i f = record { end = Gives u s; over = ap (λ x. and_then x object_reply) o; is = i; fits = f }
reply_over g live turn budget (endings.Value v) c (Gives (WasRead items pragmas) s) o i f = absurd i
reply_over g live turn budget (endings.Value v) c (Gives IsSound s) o i f = absurd i
reply_over g live turn budget (endings.Value v) c (Gives (IsFaulty faults) s) o i f = absurd i
reply_over g live turn budget (endings.Value v) c (Stops x s) o i f = absurd i
reply_over g live turn budget (endings.Stopped stop) c (Gives r s) o i f = absurd i
reply_over g live turn budget (endings.Stopped stop) c (Stops x s) o i f = record { end = Stops x s; over = ap (λ x. and_then x object_reply) o; is = i; fits = f }

pub named_starts : (m : makings.Begun) (name : List ℕ) (v : ProgId) (told : Option Bytes) (live0 live1 : Live) → making_of.Begins m kinds.Wanted name v told live0 live1 → StartsAs (begun_of m) (made_named name v) told live0 live1
named_starts (made.Ends e) name v told live0 live1 h = λ budget g by turn s q f.
    let x = h g by turn budget s q f in
    reply_over g live1 turn budget e (making course.Wanted by name v s) x.end x.over x.is x.fits
named_starts (made.Runs job) name v told live0 live1 h = λ budget g by turn s q f.
    let x = h g by turn budget s q f in
    (x.0, x.1, ap (λ c. and_then c object_reply) x.2, x.3)

-- The next number is given.

-- the live state with the number given stands for the state with it given
pub record Numbers (told : Option Bytes) (live0 live1 : Live) (name full : List ℕ) : Type 0 where
  pub fits : (g : Setting) (turn : Turn) (budget : ℕ) (s : State) → g.told ≡ told → Fits g live0 turn budget s → Fits g live1 turn budget (record s { world = with_clone_number s.world })
  pub named : (g : Setting) (turn : Turn) (budget : ℕ) (s : State) → g.told ≡ told → Fits g live0 turn budget s → full ≡ clone_name s.world name
  pub stands : (programs : List RawProgram) (w : World) → Stands told programs live0 w → Stands told programs live1 (with_clone_number w)
  pub called : (programs : List RawProgram) (w : World) → Stands told programs live0 w → full ≡ clone_name w name

pub numbered_starts : (r : Begun) (name full : List ℕ) (v : ProgId) (told : Option Bytes) (live0 mid live1 : Live) → Numbers told live0 mid name full → StartsAs r (made_named full v) told mid live1 → StartsAs r (made_numbered name v) told live0 live1
numbered_starts (begun.Ends e) name full v told live0 mid live1 n h = λ budget g by turn s q f.
    let x = h budget g by turn (record s { world = with_clone_number s.world }) q (n.fits g turn budget s q f) in
    record { end = x.end; over = ap (λ z. made_named z v by (record s { world = with_clone_number s.world })) (sym (n.named g turn budget s q f)) ∙ x.over; is = x.is; fits = x.fits }
numbered_starts (begun.Runs job) name full v told live0 mid live1 n h = λ budget g by turn s q f.
    let x = h budget g by turn (record s { world = with_clone_number s.world }) q (n.fits g turn budget s q f) in
    (x.0, x.1, ap (λ z. made_named z v by (record s { world = with_clone_number s.world })) (sym (n.named g turn budget s q f)) ∙ x.2, x.3)

stands_numbered : (told : Option Bytes) (programs : List RawProgram) (live : Live) (w : World) (table : Objects) → Stands told programs live w → names.Stands table (map named_of w.objects) → names.next_clone_in table ≡ w.next_clone + 1
    → Stands told programs (record live { names = table }) (with_clone_number w)
stands_numbered told programs live w table h n c = record {
  cells = h.cells;
  objects = h.objects;
  names = n;
  versions = h.versions;
  kept = h.kept;
  rest = record {
    files = h.rest.files;
    simul = h.rest.simul;
    places = h.rest.places;
    sentences = h.rest.sentences;
    next_sentence = h.rest.next_sentence;
    timing = h.rest.timing;
    connections = h.rest.connections;
    highest = h.rest.highest;
    present = h.rest.present;
    waiting = h.rest.waiting;
    clock = h.rest.clock;
    generator = h.rest.generator;
    next_clone = c;
  };
}

pub fits_numbered : (g : Setting) (live : Live) (turn : Turn) (budget : ℕ) (s : State) (table : Objects) → Fits g live turn budget s → names.Stands table (map named_of s.world.objects) → names.next_clone_in table ≡ s.world.next_clone + 1
    → Fits g (record live { names = table }) turn budget (record s { world = with_clone_number s.world })
fits_numbered g live turn budget s table f n c =
    let stands = stands_numbered g.told g.programs live s.world table f.world.stands n c in
    record {
      at = record { stands = stands; left = f.at.left; outputs = f.at.outputs; player = f.at.player; commands = f.at.commands };
      world = record { stands = stands; compiled = f.world.compiled; shadows = f.world.shadows };
    }

-- Room, and the pragma

pub room_same : (name : List ℕ) (v : ProgId) (by : Asker) (s : State) → has_room s.world ≡ true → made_roomy name v by s ≡ made_numbered name v by s
room_same name v by s e = ap (λ (b : Bool). if b then made_numbered name v by s else no_room s) e
  where
    no_room : State → Course Value
    no_room s = stops (Failed (plain TooMany)) s

pub full_same : (name : List ℕ) (v : ProgId) (by : Asker) (s : State) → has_room s.world ≡ false → made_roomy name v by s ≡ stops (Failed (plain TooMany)) s
full_same name v by s e = ap (λ (b : Bool). if b then made_numbered name v by s else no_room s) e
  where
    no_room : State → Course Value
    no_room s = stops (Failed (plain TooMany)) s

pub cloned_same : (name : List ℕ) (v : ProgId) (by : Asker) (s : State) → (version_at s.world v).pragmas.no_clone ≡ false → made_of name v by s ≡ made_roomy name v by s
cloned_same name v by s e = ap (λ (b : Bool). if b then not_cloned s else made_roomy name v by s) e
  where
    not_cloned : State → Course Value
    not_cloned s = stops (Failed (plain NoClone)) s

pub uncloned_same : (name : List ℕ) (v : ProgId) (by : Asker) (s : State) → (version_at s.world v).pragmas.no_clone ≡ true → made_of name v by s ≡ stops (Failed (plain NoClone)) s
uncloned_same name v by s e = ap (λ (b : Bool). if b then not_cloned s else made_roomy name v by s) e
  where
    not_cloned : State → Course Value
    not_cloned s = stops (Failed (plain NoClone)) s

table_pragmas : (h : Heritage) → (table h).pragmas ≡ (version_of h).pragmas
table_pragmas (Heir n v ps) = refl

-- the tables of a program that fits have the pragmas of its version
pub pragma_same : (told : Option Bytes) (programs : List RawProgram) (live : Live) (w : World) (v : ProgId) (raw : RawProgram) → Stands told programs live w → AreCompiled programs w.versions → program_at live.versions v ≡ Some raw
    → (version_at w v).pragmas.no_clone ≡ raw.tables.pragmas.no_clone
pragma_same told programs live w v raw s c e =
    let f = fits_at told programs live w v raw s c e in
    ap (λ x. x.pragmas.no_clone) (sym (version_settled w.versions v)) ∙ ap (λ p. p.no_clone) (sym (table_pragmas (heritage_in w.versions v))) ∙ ap (λ t. t.pragmas.no_clone) f.own.own

-- Programs come into memory.

fits_brought : (told0 told1 : Option Bytes) (live0 mid : Live) (g : Setting) (turn : Turn) (budget : ℕ) (s : State) → g.told ≡ told0 → told1 ≡ told0 → StandsStill told0 live0 told1 mid → mid.outputs ≡ live0.outputs → Fits g live0 turn budget s → Fits g mid turn budget s
fits_brought told0 told1 live0 mid g turn budget s q k still out f =
    let there = subst (λ t. Stands t g.programs live0 s.world) q f.world.stands in
    let stands = subst (λ t. Stands t g.programs mid s.world) (k ∙ sym q) (still g.programs s.world there) in
    record {
      at = record { stands = stands; left = f.at.left; outputs = out ∙ f.at.outputs; player = f.at.player; commands = f.at.commands };
      world = record { stands = stands; compiled = f.world.compiled; shadows = f.world.shadows };
    }

pub brought_starts : (r : Begun) (a : Asked) (told0 told1 : Option Bytes) (live0 mid live1 : Live) → told1 ≡ told0 → StandsStill told0 live0 told1 mid → mid.outputs ≡ live0.outputs → StartsAs r a told1 mid live1 → StartsAs r a told0 live0 live1
brought_starts (begun.Ends e) a told0 told1 live0 mid live1 k still out h = λ budget g by turn s q f. h budget g by turn s (q ∙ sym k) (fits_brought told0 told1 live0 mid g turn budget s q k still out f)
brought_starts (begun.Runs job) a told0 told1 live0 mid live1 k still out h = λ budget g by turn s q f. h budget g by turn s (q ∙ sym k) (fits_brought told0 told1 live0 mid g turn budget s q k still out f)

pub outputs_brought : (old new : Live) → StaysInMemory old new → new.outputs ≡ old.outputs
outputs_brought old new s = ap (λ (l : Live). l.outputs) s.others

-- The version of an object is that of its row.
pub cloning_same : (g : Setting) (live : Live) (turn : Turn) (budget : ℕ) (s : State) (name : List ℕ) (o : ObjId) (x : Object) (v : ProgId) (by : Asker) → Fits g live turn budget s → row_at live.objects o.0 ≡ Some x → x.program ≡ v → cloning by name o s ≡ made_of name v by s
cloning_same g live turn budget s name o x v by f e p = ap (λ z. made_of name z by s) (version_is g.told g.programs live s.world o x f.world.stands e ∙ p)

given_so : (b : Bool) (number n m last : ℕ) → Some number ≡ (if b then None else Some n) → m ≡ (if b then last else n + 1) → (number ≡ n) × (m ≡ n + 1)
given_so true number n m last g a = absurd cc
given_so false number n m last g a = (cc, a)

-- the number that the table of names gave is the world's
pub numbers : (told : Option Bytes) (live : Live) (table : Objects) (name full : List ℕ) (number : ℕ) → Some number ≡ (if names.next_clone_in live.names == names.last_number then None else Some (names.next_clone_in live.names))
    → names.next_clone_in table ≡ (if names.next_clone_in live.names == names.last_number then names.last_number else names.next_clone_in live.names + 1) → ((all : List Named) → names.Stands live.names all → names.Stands table all)
    → full ≡ name ++ codes "#" ++ decimal number → Numbers told live (record live { names = table }) name full
numbers told live table name full number given after same is =
    let x = given_so (names.next_clone_in live.names == names.last_number) number (names.next_clone_in live.names) (names.next_clone_in table) names.last_number given after in
    record {
      fits = λ g turn budget s q f. fits_numbered g live turn budget s table f (same (map named_of s.world.objects) f.world.stands.names) (x.1 ∙ ap (λ n. n + 1) f.world.stands.rest.next_clone);
      named = λ g turn budget s q f. is ∙ ap (λ n. name ++ codes "#" ++ decimal n) (x.0 ∙ f.world.stands.rest.next_clone);
      stands = λ programs w s. stands_numbered told programs live w table s (same (map named_of w.objects) s.names) (x.1 ∙ ap (λ n. n + 1) s.rest.next_clone);
      called = λ programs w s. is ∙ ap (λ n. name ++ codes "#" ++ decimal n) (x.0 ∙ s.rest.next_clone);
    }
