-- What a new text of a file leaves.
use Rattle.std.proofs.Common.{Result, Ok, Err, OnErr, ◌≡◌, ◌≢◌, ◌∙◌, ◌++◌, ◌+◌, arith, inl, inr, ℕ, Bool, true, false, List, [], ◌∷◌, Option, Some, None, refl, ap, sym, subst, map, find, length, take, drop, codes, ◌-◌, if◌then◌else◌}
use Rattle.std.specs.Prelude.{bytes_eq}
use Rattle.std.specs.Option.{option_map}
use Rattle.std.specs.Str.{IsAscii, chars}
use Rattle.std.proofs.lemmas.Bool.{cases_Bool}
use Rattle.std.proofs.lemmas.Bool.Decides.{Decides-eqb}
use Rattle.std.proofs.lemmas.Slice.Eq.{bytes_eq-Decides, ends_is}
use Rattle.std.proofs.lemmas.Str.{IsAscii-take, chars-IsAscii}
use Rattle.lp_values.specs.declared.id.ObjId.{ObjId}
use Rattle.lp_code.specs.declared.program.RawProgram.{RawProgram}
use Rattle.lp_events.specs.declared.out.Out.{Out}
use Rattle.lp_instr.specs.EfunList.{is_name}
use Rattle.lp_files.specs.Store.{IsSame, IsWith, file_at}
use Rattle.lp_files.specs.declared.store.Store.{Store}
use Rattle.lp_swapfile.specs.Device.{Bytes}
use Rattle.lp_objects.specs.Objects as named
use Rattle.lp_language.specs.Resolve.{without_c}
use Rattle.lp_language.specs.World.{File, World, is_live, object_named}
use Rattle.lp_meaning.specs.WorldSteps as steps
use Rattle.lp_meaning.specs.WorldSteps.{blueprint, closing, connection_of, destructed, destructed_if, destruction, file_written, is_clone_name, reloaded_blueprint, with_file}
use Rattle.lp_world.specs.Closed.{IsClosed}
use Rattle.lp_world.specs.Stands.{Stands, named_of}
use Rattle.lp_world.specs.declared.live.Live.{Live}
use Rattle.lp_making.proofs.NewObject.{same_named}
use Rattle.lp_making.specs.Reloads.{StandsAsBefore, StandsDestructed, StandsReloaded, destruction_if}

same_name : (a b : List ℕ) → is_name a b ≡ true → a ≡ b
same_name a b e = (bytes_eq-Decides a b).0 e

-- a file that was written is found with its new bytes, every other one as before
written : (fs : List File) (path bytes q : List ℕ) → steps.file_at (file_written fs path bytes) q ≡ (if is_name path q then Some bytes else steps.file_at fs q)
written [] path bytes q = by (is_name path q)
  where
    by : (b : Bool) → option_map (λ (f : File). f.bytes) (if b then Some (record { path = path; bytes = bytes }) else None) ≡ (if b then Some bytes else None)
    by true = refl
    by false = refl
written (f ∷ fs) path bytes q = by (written fs path bytes q) (is_name f.path path) refl
  where
    here : (b : Bool) → option_map (λ (f : File). f.bytes) (if b then Some (record { path = path; bytes = bytes }) else find (λ g. is_name g.path q) fs) ≡ (if b then Some bytes else option_map (λ (f : File). f.bytes) (if b then Some f else find (λ g. is_name g.path q) fs))
    here true = refl
    here false = refl

    there : steps.file_at (file_written fs path bytes) q ≡ (if is_name path q then Some bytes else steps.file_at fs q) → (a b : Bool) → is_name f.path q ≡ a → is_name path q ≡ b → is_name f.path path ≡ false
        → option_map (λ (f : File). f.bytes) (if a then Some f else find (λ g. is_name g.path q) (file_written fs path bytes)) ≡ (if b then Some bytes else option_map (λ (f : File). f.bytes) (if a then Some f else find (λ g. is_name g.path q) fs))
    there i true true x y d =
        let t : true ≡ false = sym ((bytes_eq-Decides f.path path).1 (same_name f.path q x ∙ sym (same_name path q y))) ∙ d in
        absurd cc
    there i true false x y d = refl
    there i false b x y d = i ∙ ap (λ c. if c then Some bytes else option_map (λ (f : File). f.bytes) (find (λ g. is_name g.path q) fs)) y

    by : steps.file_at (file_written fs path bytes) q ≡ (if is_name path q then Some bytes else steps.file_at fs q) → (b : Bool) → is_name f.path path ≡ b → steps.file_at (if b then record { path = path; bytes = bytes } ∷ fs else f ∷ file_written fs path bytes) q ≡ (if is_name path q then Some bytes else steps.file_at (f ∷ fs) q)
    by i true e =
        here (is_name path q)
        ∙ ap (λ (w : List ℕ). if is_name path q then Some bytes else option_map (λ (f : File). f.bytes) (if is_name w q then Some f else find (λ g. is_name g.path q) fs)) (sym (same_name f.path path e))
    by i false e = there i (is_name f.path q) (is_name path q) refl refl e

with_store : (told : Option Bytes) (programs : List RawProgram) (live : Live) (w : World) (s : Store) (files : List File) → Stands told programs live w
    → ((q : List ℕ) → file_at s q ≡ steps.file_at files q) → Stands told programs (record live { store = s }) (record w { files = files })
with_store told programs live w s files h f = record {
  cells = h.cells;
  objects = h.objects;
  names = h.names;
  versions = h.versions;
  kept = h.kept;
  rest = record {
    files = f;
    simul = h.rest.simul;
    places = h.rest.places;
    sentences = h.rest.sentences;
    next_sentence = h.rest.next_sentence;
    timing = h.rest.timing;
    connections = h.rest.connections;
    highest = h.rest.highest;
    present = h.rest.present;
    waiting = h.rest.waiting;
    clock = h.rest.clock;
    generator = h.rest.generator;
    next_clone = h.rest.next_clone;
  };
}

pub file_stands : (told : Option Bytes) (programs : List RawProgram) (live : Live) (w : World) (s : Store) (path bytes : List ℕ) → Stands told programs live w → IsWith live.store s path (Some bytes)
    → Stands told programs (record live { store = s }) (with_file w path bytes)
file_stands told programs live w s path bytes h i =
    with_store told programs live w s (file_written w.files path bytes) h
    (λ q. i q ∙ ap (λ o. if bytes_eq path q then Some bytes else o) (h.rest.files q) ∙ sym (written w.files path bytes q))

pub same_files : (live : Live) (s : Store) → IsSame live.store s → StandsAsBefore live (record live { store = s })
same_files live s i told programs w h = with_store told programs live w s w.files h (λ q. i.files q ∙ h.rest.files q)

pub closed_with_store : (live : Live) (s : Store) → IsClosed live → IsClosed (record live { store = s })
closed_with_store live s h = record { clock = h.clock; cells = h.cells; objects = h.objects; apart = h.apart; versions = h.versions; call_outs = h.call_outs; waiting = h.waiting; placed = h.placed; numbered = h.numbered; room = h.room }

-- an object that is not live stays as it is, and closes nothing
pub dead_stays : (live : Live) (o : ObjId) → ((told : Option Bytes) (programs : List RawProgram) (w : World) → Stands told programs live w → is_live w o ≡ false) → StandsDestructed live live (Some o) None
dead_stays live o d told programs w h =
    let e = d told programs w h in (
      subst (λ b. Stands told programs live (if b then steps.without_connection_if (steps.without_object w o) (connection_of w o) else w)) (sym e) h,
      ap (λ b. if b then closing (connection_of w o) else []) (sym e),
    )

-- nor is there anything to do where there is none
pub none_stays : (live : Live) → StandsDestructed live live None None
none_stays live told programs w h = (h, refl)

pub on_err : {A E : Type 0} (r : Result A E) (P : Type 0) → P → OnErr r P
on_err (Ok x) P p = tt
on_err (Err e) P p = p

pub live_ends : (old new : Live) (o : ObjId) (k : Option ℕ) → ((told : Option Bytes) (programs : List RawProgram) (w : World) → Stands told programs old w → is_live w o ≡ true)
    → ((told : Option Bytes) (programs : List RawProgram) (w : World) → Stands told programs old w → Stands told programs new (destructed w o) × (k ≡ connection_of w o)) → StandsDestructed old new (Some o) k
live_ends old new o k l d told programs w h =
    let e = d told programs w h in
    (e.0, ap closing e.1 ∙ ap (λ b. if b then closing (connection_of w o) else []) (sym (l told programs w h)))

abbrev outputs_of : World → Option ObjId → List Out
outputs_of w o = elim o [ Some x ↦ destruction w x | None ↦ [] ]

outputs : (w : World) (path bytes : List ℕ) (o : Option ObjId) → destruction_if (with_file w path bytes) o ≡ outputs_of w o
outputs w path bytes None = refl
outputs w path bytes (Some x) = refl

pub reload_stands : (old new : Live) (s : Store) (path bytes : List ℕ) (found : Option ObjId) (k : Option ℕ) → IsWith old.store s path (Some bytes)
    → ((told : Option Bytes) (programs : List RawProgram) (w : World) → Stands told programs old w → found ≡ reloaded_blueprint w path) → StandsDestructed (record old { store = s }) new found k
    → StandsReloaded old new path bytes k
reload_stands old new s path bytes found k i f d told programs w h =
    let e = d told programs (with_file w path bytes) (file_stands told programs old w s path bytes h i) in
    let q = f told programs w h in
    (subst (λ o. Stands told programs new (destructed_if (with_file w path bytes) o)) q e.0, e.1 ∙ outputs w path bytes found ∙ ap (outputs_of w) q)

-- The blueprint of a file

no_c : (path : List ℕ) → ((front : List ℕ) → path ≢ front ++ codes ".c") → without_c path ≡ path
no_c path h = elim (cases_Bool (is_name (drop (length path - 2) path) (codes ".c"))) [
  | inl t ↦
      let d : drop (length path - 2) path ≡ codes ".c" = same_name (drop (length path - 2) path) (codes ".c") t in
      let p : is_name (codes ".c") (drop (length path - 2) path) ≡ true = (bytes_eq-Decides (codes ".c") (drop (length path - 2) path)).1 (sym d) in
      absurd (h (take (length path - 2) path) ((ends_is Decides-eqb path (codes ".c") (is_name (codes ".c") (drop (length path - 2) path)) refl).0 p))
  | inr f ↦ ap (λ b. if b then take (length path - 2) path else path) f
]

has_c : (path name : List ℕ) (n : ℕ) → n ≡ 2 → path ≡ take (length path - n) path ++ codes ".c" → name ≡ take (length path - n) path → without_c path ≡ name
has_c path name n two ends e =
    let p : is_name (codes ".c") (drop (length path - 2) path) ≡ true = (ends_is Decides-eqb path (codes ".c") (is_name (codes ".c") (drop (length path - 2) path)) refl).1 (take (length path - n) path) ends in
    let d : codes ".c" ≡ drop (length path - 2) path = same_name (codes ".c") (drop (length path - 2) path) p in
    let t : is_name (drop (length path - 2) path) (codes ".c") ≡ true = (bytes_eq-Decides (drop (length path - 2) path) (codes ".c")).1 (sym d) in
    ap (λ b. if b then take (length path - 2) path else path) t ∙ ap (λ k. take (length path - k) path) (sym two) ∙ sym e

shorter : (name path : List ℕ) (n : ℕ) → n ≡ 2 → length name + n ≡ length path → is_name name path ≡ false
shorter name path n two e = elim (cases_Bool (is_name name path)) [
  | inl t ↦ let q = ap length (same_name name path t) in absurd (omega (arith, q, e, two))
  | inr f ↦ f
]

itself : (path : List ℕ) → is_name path path ≡ true
itself path = (bytes_eq-Decides path path).1 refl

pub no_blueprint : (w : World) (path : List ℕ) → ((front : List ℕ) → path ≢ front ++ codes ".c") → reloaded_blueprint w path ≡ None
no_blueprint w path h =
    ap (λ p. if is_name p path then None else blueprint w p) (no_c path h) ∙ ap (λ b. if b then None else blueprint w path) (itself path)

pub its_blueprint : (w : World) (path name : List ℕ) (n : ℕ) → n ≡ 2 → path ≡ take (length path - n) path ++ codes ".c" → name ≡ take (length path - n) path → length name + n ≡ length path
    → reloaded_blueprint w path ≡ blueprint w name
its_blueprint w path name n two ends e l =
    ap (λ p. if is_name p path then None else blueprint w p) (has_c path name n two ends e) ∙ ap (λ b. if b then None else blueprint w name) (shorter name path n two l)

pub clone_has_none : (w : World) (name : List ℕ) → is_clone_name name ≡ true → blueprint w name ≡ None
clone_has_none w name e = ap (λ b. if b then None else object_named w name) e

pub found_blueprint : (w : World) (name : List ℕ) (r : Option ObjId) → IsAscii name → is_clone_name name ≡ false → r ≡ named.object_named (map named_of w.objects) (chars name) → r ≡ blueprint w name
found_blueprint w name r a e f =
    f ∙ ap (named.object_named (map named_of w.objects)) (chars-IsAscii name a) ∙ same_named w name ∙ sym (ap (λ b. if b then None else object_named w name) e)

pub ascii_name : (path name : List ℕ) (n : ℕ) → name ≡ take (length path - n) path → IsAscii path → IsAscii name
ascii_name path name n e a = subst IsAscii (sym e) (IsAscii-take path (length path - n) a)
