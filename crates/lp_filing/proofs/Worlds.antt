-- Worlds with other files, and with other cells and variables.
use Rattle.std.proofs.Common.{◌≡◌, ◌∙◌, ◌++◌, ◌⊎◌, ℕ, zero, suc, Bool, true, false, List, [], ◌∷◌, Option, Some, None, refl, ap, sym, subst, find, not, inl, inr, slice_get, unwrap_or, length, length-append, arith, IsSome, if◌then◌else◌}
use Rattle.std.specs.Prelude.{bytes_eq}
use Rattle.std.specs.Option.{option_map}
use Rattle.std.proofs.lemmas.Bool.{false≢true}
use Rattle.std.proofs.lemmas.Slice.Eq.{bytes_eq-Decides}
use Rattle.lp_code.specs.declared.program.RawProgram.{RawProgram}
use Rattle.lp_cells.specs.Cells as cells
use Rattle.lp_cells.specs.Cells.{content_at}
use Rattle.lp_cells.specs.declared.content.Content.{Content}
use Rattle.lp_instr.specs.EfunList.{is_name}
use Rattle.lp_files.specs.Store.{IsSame, IsWith, file_at}
use Rattle.lp_files.specs.declared.store.Store.{Store}
use Rattle.lp_swapfile.specs.Device.{Bytes}
use Rattle.lp_language.specs.Course.{State}
use Rattle.lp_language.specs.Operations.{with_world}
use Rattle.lp_language.specs.World.{File, World}
use Rattle.lp_meaning.specs.FileEfuns.{without_file}
use Rattle.lp_meaning.specs.WorldSteps as steps
use Rattle.lp_meaning.specs.WorldSteps.{file_removed, file_written, with_file}
use Rattle.lp_world.specs.Closed.{IsClosed}
use Rattle.lp_world.specs.Stands.{IsPart, Stands}
use Rattle.lp_world.specs.declared.live.Live.{Live}
use Rattle.lp_world.proofs.Keeping.{KeepsOwn, get_kept}
use Rattle.lp_filing.specs.Filing.{Follows, StandsStill}

-- Files

same_name : (a b : List ℕ) → is_name a b ≡ true → a ≡ b
same_name a b e = (bytes_eq-Decides a b).0 e

-- a file that was written is found with its new bytes, every other one as before
written : (fs : List File) (path bytes q : List ℕ) → steps.file_at (file_written fs path bytes) q ≡ (if is_name path q then Some bytes else steps.file_at fs q)
written [] path bytes q = by (is_name path q)
  where
    by : (b : Bool) → option_map (λ (f : File). f.bytes) (if b then Some (record { path = path; bytes = bytes }) else None) ≡ (if b then Some bytes else None)
    by true = refl
    by false = refl
written (f ∷ fs) path bytes q = by (written fs path bytes q) (is_name f.path path) refl
  where
    here : (b : Bool) → option_map (λ (f : File). f.bytes) (if b then Some (record { path = path; bytes = bytes }) else find (λ g. is_name g.path q) fs) ≡ (if b then Some bytes else option_map (λ (f : File). f.bytes) (if b then Some f else find (λ g. is_name g.path q) fs))
    here true = refl
    here false = refl

    there : steps.file_at (file_written fs path bytes) q ≡ (if is_name path q then Some bytes else steps.file_at fs q) → (a b : Bool) → is_name f.path q ≡ a → is_name path q ≡ b → is_name f.path path ≡ false
        → option_map (λ (f : File). f.bytes) (if a then Some f else find (λ g. is_name g.path q) (file_written fs path bytes)) ≡ (if b then Some bytes else option_map (λ (f : File). f.bytes) (if a then Some f else find (λ g. is_name g.path q) fs))
    there i true true x y d =
        let t : true ≡ false = sym ((bytes_eq-Decides f.path path).1 (same_name f.path q x ∙ sym (same_name path q y))) ∙ d in
        absurd cc
    there i true false x y d = refl
    there i false b x y d = i ∙ ap (λ c. if c then Some bytes else option_map (λ (f : File). f.bytes) (find (λ g. is_name g.path q) fs)) y

    by : steps.file_at (file_written fs path bytes) q ≡ (if is_name path q then Some bytes else steps.file_at fs q) → (b : Bool) → is_name f.path path ≡ b → steps.file_at (if b then record { path = path; bytes = bytes } ∷ fs else f ∷ file_written fs path bytes) q ≡ (if is_name path q then Some bytes else steps.file_at (f ∷ fs) q)
    by i true e =
        here (is_name path q)
        ∙ ap (λ (w : List ℕ). if is_name path q then Some bytes else option_map (λ (f : File). f.bytes) (if is_name w q then Some f else find (λ g. is_name g.path q) fs)) (sym (same_name f.path path e))
    by i false e = there i (is_name f.path q) (is_name path q) refl refl e

-- one that was removed is not found, every other one is found as before
gone : (fs : List File) (path q : List ℕ) → steps.file_at (file_removed fs path) q ≡ (if is_name path q then None else steps.file_at fs q)
gone [] path q = by (is_name path q)
  where
    by : (b : Bool) → ◌≡◌ {A = Option (List ℕ)} None (if b then None else None)
    by true = refl
    by false = refl
gone (f ∷ fs) path q = by (gone fs path q) (is_name f.path path) (is_name f.path q) (is_name path q) refl refl refl
  where
    by : steps.file_at (file_removed fs path) q ≡ (if is_name path q then None else steps.file_at fs q) → (a b c : Bool) → is_name f.path path ≡ a → is_name f.path q ≡ b → is_name path q ≡ c
        → steps.file_at (if not a then f ∷ file_removed fs path else file_removed fs path) q ≡ (if c then None else option_map (λ (f : File). f.bytes) (if b then Some f else find (λ g. is_name g.path q) fs))
    by i true true true x y z = i ∙ ap (λ e. if e then None else steps.file_at fs q) z
    by i true true false x y z =
        let t : is_name path q ≡ true = (bytes_eq-Decides path q).1 (sym (same_name f.path path x) ∙ same_name f.path q y) in
        absurd (false≢true (sym z ∙ t))
    by i true false true x y z = i ∙ ap (λ e. if e then None else steps.file_at fs q) z
    by i true false false x y z = i ∙ ap (λ e. if e then None else steps.file_at fs q) z
    by i false true true x y z =
        let t : is_name f.path path ≡ true = (bytes_eq-Decides f.path path).1 (same_name f.path q y ∙ sym (same_name path q z)) in
        absurd (false≢true (sym x ∙ t))
    by i false true false x y z = ap (λ e. option_map (λ (f : File). f.bytes) (if e then Some f else find (λ g. is_name g.path q) (file_removed fs path))) y
    by i false false true x y z = ap (λ e. option_map (λ (f : File). f.bytes) (if e then Some f else find (λ g. is_name g.path q) (file_removed fs path))) y ∙ i ∙ ap (λ e. if e then None else steps.file_at fs q) z
    by i false false false x y z = ap (λ e. option_map (λ (f : File). f.bytes) (if e then Some f else find (λ g. is_name g.path q) (file_removed fs path))) y ∙ i ∙ ap (λ e. if e then None else steps.file_at fs q) z

pub with_store : (told : Option Bytes) (programs : List RawProgram) (live : Live) (w : World) (s : Store) (files : List File) → Stands told programs live w
    → ((q : List ℕ) → file_at s q ≡ steps.file_at files q) → Stands told programs (record live { store = s }) (record w { files = files })
with_store told programs live w s files h f = record {
  cells = h.cells;
  objects = h.objects;
  names = h.names;
  versions = h.versions;
  kept = h.kept;
  rest = record {
    files = f;
    simul = h.rest.simul;
    places = h.rest.places;
    sentences = h.rest.sentences;
    next_sentence = h.rest.next_sentence;
    timing = h.rest.timing;
    connections = h.rest.connections;
    highest = h.rest.highest;
    present = h.rest.present;
    waiting = h.rest.waiting;
    clock = h.rest.clock;
    generator = h.rest.generator;
    next_clone = h.rest.next_clone;
  };
}

-- the same files
pub same_stands : (live live1 : Live) → live1 ≡ record live { store = live1.store } → IsSame live.store live1.store → StandsStill live live1
same_stands live live1 e i told programs w h =
    subst (λ (l : Live). Stands told programs l w) (sym e) (with_store told programs live w live1.store w.files h (λ q. i.files q ∙ h.rest.files q))

pub closed_with_store : (live live1 : Live) → live1 ≡ record live { store = live1.store } → IsClosed live → IsClosed live1
closed_with_store live live1 e h =
    subst IsClosed (sym e)
    (record { clock = h.clock; cells = h.cells; objects = h.objects; apart = h.apart; versions = h.versions; call_outs = h.call_outs; waiting = h.waiting; placed = h.placed; numbered = h.numbered; room = h.room })

-- States

module _ (told : Option Bytes) (programs : List RawProgram) (live live1 : Live) (s : State) (h : Stands told programs live s.world) where
  -- nothing changed
  pub follows_still : live1 ≡ live → Follows told programs live1 s s
  follows_still e = record { stands = subst (λ (l : Live). Stands told programs l s.world) (sym e) h; rest = refl; versions = refl; shadows = refl; lives = λ o. refl }

  -- the files are others
  pub follows_files : live1 ≡ record live { store = live1.store } → (files : List File) → ((q : List ℕ) → file_at live1.store q ≡ steps.file_at files q) → Follows told programs live1 s (with_world s (record s.world { files = files }))
  follows_files e files f = record {
    stands = subst (λ (l : Live). Stands told programs l (record s.world { files = files })) (sym e) (with_store told programs live s.world live1.store files h f);
    rest = refl;
    versions = refl;
    shadows = refl;
    lives = λ o. refl;
  }

  pub follows_written : live1 ≡ record live { store = live1.store } → (path bytes : List ℕ) → IsWith live.store live1.store path (Some bytes) → Follows told programs live1 s (with_world s (with_file s.world path bytes))
  follows_written e path bytes i = follows_files e (file_written s.world.files path bytes) (λ q. i q ∙ ap (λ o. if bytes_eq path q then Some bytes else o) (h.rest.files q) ∙ sym (written s.world.files path bytes q))

  pub follows_gone : live1 ≡ record live { store = live1.store } → (path : List ℕ) → IsWith live.store live1.store path None → Follows told programs live1 s (with_world s (without_file s.world path))
  follows_gone e path i = follows_files e (file_removed s.world.files path) (λ q. i q ∙ ap (λ o. if bytes_eq path q then None else o) (h.rest.files q) ∙ sym (gone s.world.files path q))

-- New cells behind those that were there

behind : (a b more : cells.Store) (c : ℕ) (y : Option Content) → length a ≡ length b → slice_get (a ++ more) c ≡ Some y → (slice_get a c ≡ Some y) ⊎ (slice_get (b ++ more) c ≡ Some y)
behind [] [] more c y l e = inr e
behind [] (z ∷ b) more c y l e = absurd (omega (arith, l))
behind (x ∷ a) [] more c y l e = absurd (omega (arith, l))
behind (x ∷ a) (z ∷ b) more zero y l e = inl e
behind (x ∷ a) (z ∷ b) more (suc c) y l e = behind a b more c y (omega (arith, l)) e

pub part_with_more : (a b more : cells.Store) → IsPart a b → IsPart (a ++ more) (b ++ more)
part_with_more a b more h = record {
  same = λ c x e. elim (behind a b more c (Some x) h.next e) [ inl was ↦ get_kept b more c (Some x) (h.same c x was) | inr is ↦ is ];
  next = omega (arith, h.next, length-append a more, length-append b more);
}

found_there : (o : Option (Option Content)) → IsSome (unwrap_or o None) → (x : Option Content) × (o ≡ Some x)
found_there None h = cc
found_there (Some x) h = (x, refl)

pub own_with_more : (a b more : cells.Store) → KeepsOwn a b (a ++ more) (b ++ more)
own_with_more a b more c h =
    let t = found_there (slice_get b c.0) h.there in
    let same : content_at (b ++ more) c ≡ content_at b c = ap (λ o. unwrap_or o None) (get_kept b more c.0 t.0 t.1 ∙ sym t.1) in
    (record { absent = get_kept a more c.0 None h.absent; there = subst IsSome (sym same) h.there }, same)
