-- A compiled file becomes a version.
use Rattle.std.proofs.Common.{◌≡◌, ◌∙◌, ◌∷◌, ◌++◌, ◌<◌, ◌^◌, ℕ, zero, suc, List, [], Some, refl, ap, sym, subst, map, length, slice_get}
use Rattle.std.specs.Str.{IsAscii}
use Rattle.std.proofs.lemmas.Str.{IsAscii-append, encodes-IsAscii}
use Rattle.lp_values.specs.declared.id.ProgId.{ProgId}
use Rattle.lp_code.specs.declared.program.RawProgram.{RawProgram}
use Rattle.lp_code.specs.declared.tables.Tables.{Tables}
use Rattle.lp_language.specs.World as world
use Rattle.lp_meaning.specs.FileLoads.{parents_in, version_known, version_now}
use Rattle.lp_meaning.specs.WorldSteps.{file_of_name, with_new_version}
use Rattle.lp_front_end.specs.Parents.{file_bytes}
use Rattle.lp_fits.specs.Fits.{HaveTables, NewVersionFits}
use Rattle.lp_world.specs.Closed.{IsClosed}
use Rattle.lp_world.specs.Stands.{Stands}
use Rattle.lp_world.specs.declared.live.Live.{Live}
use Rattle.lp_residence.specs.Adding.{IsNewVersion}
use Rattle.lp_making.specs.Calls.{CallsFindRows, HaveTablesAt}
use Rattle.lp_making.specs.Versions.{StandsWithVersionOf}
use Rattle.lp_loading.specs.Versions.{MakesVersion}
use Rattle.lp_loading.proofs.Worlds.{ascii_text}

-- a list with one more
within : {A : Type 0} (xs ys : List A) (k : ℕ) (x : A) → slice_get xs k ≡ Some x → slice_get (xs ++ ys) k ≡ Some x
within [] ys k x e = absurd cc
within (z ∷ xs) ys zero x e = e
within (z ∷ xs) ys (suc k) x e = within xs ys k x e

got_end : {A : Type 0} (xs : List A) (x : A) → slice_get (xs ++ x ∷ []) (length xs) ≡ Some x
got_end [] x = refl
got_end (y ∷ xs) x = got_end xs x

-- versions have their programs still
have_still : (programs more : List RawProgram) (ns : List ProgId) (ts : List Tables) → HaveTables programs ns ts → HaveTablesAt (programs ++ more) ns ts
have_still programs more [] [] h = tt
have_still programs more [] (t ∷ ts) h = absurd h
have_still programs more (n ∷ ns) [] h = absurd h
have_still programs more (n ∷ ns) (t ∷ ts) h = (record { program = h.0.program; is = within programs more n.0 h.0.program h.0.is; tables = h.0.tables }, have_still programs more ns ts h.1)

-- the path of a name of letters of ASCII is its bytes
ascii_dot_c : IsAscii (file_of_name [])
ascii_dot_c = ascii_text (file_of_name []) refl

ascii_file : (name : List ℕ) → IsAscii name → IsAscii (file_of_name name)
ascii_file name a = IsAscii-append name (file_of_name []) a ascii_dot_c

file_same : (name : List ℕ) → IsAscii name → file_of_name name ≡ file_bytes name
file_same name a = sym (encodes-IsAscii (file_of_name name) (ascii_file name a))

pub version_comes : NewVersionFits → CallsFindRows → (old new : Live) (name file : List ℕ) (p : RawProgram) (number : ProgId) → file ≡ file_of_name name → IsClosed new → number.0 ≡ length old.versions → IsNewVersion old new file p
    → StandsWithVersionOf old new file p → length p.instrs < 2 ^ 32 → IsAscii name → MakesVersion old new name p number
version_comes fits finds old new name file p number same closed is after stands few a told programs w front made own simuls h n f =
    let ts : List Tables = f.compiles.parents in
    let parents : List ProgId = map (version_known w made) (parents_in f.compiles.items) in
    let v : world.Version = version_now w name f.compiles.items f.compiles.pragmas parents simuls in
    let kept : Stands told (programs ++ p ∷ []) new (with_new_version w v) =
    subst (λ ps. Stands told (programs ++ p ∷ []) new (with_new_version w (version_now w name f.compiles.items f.compiles.pragmas ps simuls))) f.parents (stands told programs w name f.compiles.items f.compiles.pragmas simuls h.stands (sym same)) in
    let row : slice_get new.versions (length old.versions) ≡ Some (Some after.version) = ap (λ (l : Live). slice_get l.versions (length old.versions)) after.after ∙ got_end old.versions (Some after.version) in
    let rows = finds told (programs ++ p ∷ []) new (with_new_version w v) (length old.versions) after.version p ts kept closed row after.is.state (have_still programs (p ∷ []) p.tables.parents ts f.tables) in
    let many : length old.versions ≡ length w.versions = h.stands.versions.next in
    record {
      world = record {
        stands = kept;
        compiled = fits old.store (file_bytes name) own f.known simuls programs w.versions p v h.compiled (n ∙ many) (record {
          compiled = f.compiles;
          path_is = file_same name a;
          items = refl;
          pragmas = refl;
          simuls_are = refl;
          parents = sym f.parents;
          tables = subst (λ ps. HaveTables programs ps ts) f.parents f.tables;
          rows = rows;
          places = few;
        });
        shadows = h.shadows;
      };
      next = ap (λ k. record { 0 = k }) (is ∙ many);
    }
