-- What is loaded of a state that stands for a world.
use Rattle.std.proofs.Common.{◌≡◌, ◌∙◌, ◌-◌, ◌++◌, ℕ, zero, suc, Bool, true, false, List, [], ◌∷◌, Option, Some, None, IsSome, refl, ap, sym, subst, map, take, drop, codes, slice_get, unwrap_or, length, length-append, if◌then◌else◌, arith}
use Rattle.std.specs.Str.{IsAscii}
use Rattle.std.proofs.lemmas.Str.{IsAscii-take, IsUtf8-from_ascii, chars-IsAscii}
use Rattle.lp_values.specs.declared.id.ObjId.{ObjId}
use Rattle.lp_values.specs.declared.id.ProgId.{ProgId}
use Rattle.lp_code.specs.declared.program.RawProgram.{RawProgram}
use Rattle.lp_code.specs.declared.tables.Tables.{Tables}
use Rattle.lp_instr.specs.EfunList.{is_name}
use Rattle.lp_objects.specs.Objects as named
use Rattle.lp_objects.specs.Stands as names
use Rattle.lp_objects.specs.declared.objects.Objects.{Objects}
use Rattle.lp_swapfile.specs.Device.{Bytes}
use Rattle.lp_layout.specs.Layout.{AreInside, AreRowsIn, AreVariablesIn, parts_before}
use Rattle.lp_inherit.specs.Heirs.{table, tables}
use Rattle.lp_language.specs.World as world
use Rattle.lp_language.specs.World.{World, new_world, no_object, object_at, object_named}
use Rattle.lp_language.specs.Resolve.{Heir, Heritage, Heritages, NoParent, OneParent, heritage_within, number_of, without_c}
use Rattle.lp_meaning.specs.WorldSteps.{blueprint, is_clone_name, reloaded_blueprint}
use Rattle.lp_front.specs.Settling.{own_version}
use Rattle.lp_front.proofs.Inside.{made_inside}
use Rattle.lp_world.specs.Rows.{row_at}
use Rattle.lp_world.specs.Stands.{IsObject, ProgramIs, Stands, heritage_in, named_of}
use Rattle.lp_world.specs.declared.live.Live.{Live}
use Rattle.lp_world.specs.declared.objects.Object.{Object}
use Rattle.lp_residence.proofs.RowChanges.{object_behind, row_there}
use Rattle.lp_making.specs.Objects.{program_at}
use Rattle.lp_making.specs.Trees.{HasTables}
use Rattle.lp_making.proofs.NewObject.{inside_row, same_named}
use Rattle.lp_loaded.specs.Present.{IsOfBlueprint, KnownIsBlueprints, StandingIsReady, blueprint_in, serial_of, tables_in, tables_of, version_at, version_in}

-- Tables of a tree: their rows stand in parts of them, and their own version is the last part.

abbrev IsFine : Option Tables → Type 0
IsFine None = Unit {0}
IsFine (Some t) = AreRowsIn (length t.parts) t.slots × AreVariablesIn (length t.parts) t.vars

one_inside : (t : Tables) → AreRowsIn (length t.parts) t.slots → AreVariablesIn (length t.parts) t.vars → AreInside (t ∷ [])
one_inside t h k zero u e = subst IsFine e (h, k)
one_inside t h k (suc i) u e = absurd cc

both_inside : (t : Tables) (ts : List Tables) → AreInside (t ∷ []) → AreInside ts → AreInside (t ∷ ts)
both_inside t ts h k zero u e = h zero u e
both_inside t ts h k (suc i) u e = k i u e

none_inside : AreInside []
none_inside i t e = absurd cc

mutual
  pub tree_inside : (h : Heritage) → AreInside (table h ∷ [])
  tree_inside (Heir n v ps) =
      let made = made_inside [] v.items v.pragmas (tables ps) n (trees_inside ps) zero _ refl in
      one_inside (table (Heir n v ps)) made.0 made.1

  trees_inside : (hs : Heritages) → AreInside (tables hs)
  trees_inside NoParent = none_inside
  trees_inside (OneParent h hs) = both_inside (table h) (tables hs) (tree_inside h) (trees_inside hs)

got_end : (xs : List ProgId) (x : ProgId) → slice_get (xs ++ x ∷ []) (length xs) ≡ Some x
got_end [] x = refl
got_end (y ∷ xs) x = got_end xs x

last_one : (xs : List ProgId) (x : ProgId) → slice_get (xs ++ x ∷ []) (length (xs ++ x ∷ []) - 1) ≡ Some x
last_one xs x =
    let c = length-append xs (x ∷ []) in
    let e : length (xs ++ x ∷ []) - 1 ≡ length xs = omega (arith, c) in
    ap (λ n. slice_get (xs ++ x ∷ []) n) e ∙ got_end xs x

own_of_tree : (h : Heritage) → own_version (table h) ≡ Some (number_of h)
own_of_tree (Heir n v ps) = last_one (parts_before (tables ps)) n

number_within : (n : ℕ) (w : World) (v : ProgId) → number_of (heritage_within n w v) ≡ v
number_within zero w v = refl
number_within (suc n) w v = refl

pub own_version_is : (versions : List world.Version) (v : ProgId) (p : RawProgram) → HasTables (heritage_in versions v) p → own_version p.tables ≡ Some v
own_version_is versions v p t =
    ap own_version t.tables ∙ own_of_tree (heritage_in versions v) ∙ ap Some (number_within v.0 (record (new_world [] 0 0) { versions = versions }) v)

-- Programs in memory

-- the program of a version that is in memory is the version's
pub program_is : (told : Option Bytes) (programs : List RawProgram) (live : Live) (w : World) (v : ProgId) (p : RawProgram) → Stands told programs live w → program_at live.versions v ≡ Some p → slice_get programs v.0 ≡ Some p
program_is told programs live w v p h e =
    let r = inside_row live v (subst IsSome (sym e) refl) in
    let x = h.versions.each v.0 r.0 r.2 in
    let same : r.1 ≡ x.program = subst (ProgramIs told x.program) r.3 x.state in
    let it : r.1 ≡ p = ap (λ o. unwrap_or o p) (sym r.4 ∙ e) in
    x.is ∙ ap Some (sym same ∙ it)

pub standing_is_ready : StandingIsReady
standing_is_ready told programs live w h t = record {
  objects = map named_of w.objects;
  names = h.names;
  own = λ v p e. own_version_is w.versions v p (t v.0 p (program_is told programs live w v p h e));
  inside = λ v p e. subst (λ (x : Tables). AreInside (x ∷ [])) (sym (t v.0 p (program_is told programs live w v p h e)).tables) (tree_inside (heritage_in w.versions v));
}

-- Blueprints

ascii_name : (path : List ℕ) → IsAscii path → IsAscii (without_c path)
ascii_name path a = by (is_name (drop (length path - 2) path) (codes ".c"))
  where
    by : (b : Bool) → IsAscii (if b then take (length path - 2) path else path)
    by true = IsAscii-take path (length path - 2) a
    by false = a

same_serial : (w : World) (t : Objects) (name : List ℕ) → names.Stands t (map named_of w.objects) → IsAscii name → serial_of t name ≡ blueprint w name
same_serial w t name h a =
    ap (λ o. if is_clone_name name then None else o)
    (h.listed name (IsUtf8-from_ascii name a) ∙ ap (named.object_named (map named_of w.objects)) (chars-IsAscii name a) ∙ same_named w name)

pub same_blueprint : (w : World) (t : Objects) (path : List ℕ) → names.Stands t (map named_of w.objects) → IsAscii path → blueprint_in t path ≡ reloaded_blueprint w path
same_blueprint w t path h a = ap (λ o. if is_name (without_c path) path then None else o) (same_serial w t (without_c path) h (ascii_name path a))

-- a live blueprint is there
pub record IsThere (live : Live) (w : World) (o : ObjId) : Type 0 where
  pub row : Object
  pub there : row_at live.objects o.0 ≡ Some row
  pub version : row.program ≡ (object_at w o).version

behind_row : (told : Option Bytes) (programs : List RawProgram) (live : Live) (w : World) (o : ObjId) (row : Object) → Stands told programs live w → row_at live.objects o.0 ≡ Some row → IsThere live w o
behind_row told programs live w o row h e =
    let b = object_behind told programs live w o.0 row h (row_there live.objects o.0 row e) in
    let is : IsObject told live.cells w.cells o.0 row b.0 = b.2 in
    record { row = row; there = e; version = is.version ∙ ap (λ (x : Option world.Object). (unwrap_or x no_object).version) (sym b.1) }

-- what is known is of the blueprint

known_by : (told : Option Bytes) (programs : List RawProgram) (live : Live) (w : World) (path : List ℕ) (t : Tables) → Stands told programs live w
    → (o : Option ObjId) → reloaded_blueprint w path ≡ o → tables_of live (version_at live o) ≡ Some t → IsOfBlueprint programs w path t
known_by told programs live w path t h None b e = absurd cc
known_by told programs live w path t h (Some o) b e = row_by (row_at live.objects o.0) refl e
  where
    program_by : (row : Object) → row_at live.objects o.0 ≡ Some row → (q : Option RawProgram) → program_at live.versions row.program ≡ q → tables_in q ≡ Some t → IsOfBlueprint programs w path t
    program_by row r None p f = absurd cc
    program_by row r (Some q) p f =
        let x = behind_row told programs live w o row h r in
        let same : x.row ≡ row = ap (λ k. unwrap_or k row) (sym x.there ∙ r) in
        record {
          object = o;
          blueprint = b;
          program = q;
          is = ap (λ (v : ProgId). slice_get programs v.0) (sym (ap (λ (y : Object). y.program) (sym same) ∙ x.version)) ∙ program_is told programs live w row.program q h p;
          tables = ap (λ k. unwrap_or k t) f;
        }

    row_by : (r : Option Object) → row_at live.objects o.0 ≡ r → tables_of live (version_in r) ≡ Some t → IsOfBlueprint programs w path t
    row_by None r f = absurd cc
    row_by (Some row) r f = program_by row r (program_at live.versions row.program) refl f

pub known_is : KnownIsBlueprints
known_is told programs live w path a h =
    let same = same_blueprint w live.names path h.names a in
    record {
      known = λ t e. known_by told programs live w path t h (reloaded_blueprint w path) refl (ap (λ o. tables_of live (version_at live o)) (sym same) ∙ e);
      there = λ o p row b e q.
          let x = behind_row told programs live w o row h b in
          let same_row : x.row ≡ row = ap (λ k. unwrap_or k row) (sym x.there ∙ b) in
          ap (λ k. tables_of live (version_at live k)) (same ∙ e)
          ∙ ap (λ k. tables_of live (version_in k)) b
          ∙ ap (λ (v : ProgId). tables_in (program_at live.versions v)) (ap (λ (y : Object). y.program) (sym same_row) ∙ x.version)
          ∙ ap tables_in q;
    }
