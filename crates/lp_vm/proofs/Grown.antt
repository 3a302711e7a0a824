-- What was so with some programs is so with more behind them.
use Rattle.std.proofs.Common.{◌≡◌, ◌∙◌, ◌++◌, ◌<◌, ℕ, List, [], ◌∷◌, Option, Some, All, refl, ap, sym, subst, length, map, slice_get, append-nil, append_assoc, arith}
use Rattle.std.proofs.lemmas.List.Elements.{All-head, All-tail, All-weaker}
use Rattle.lp_values.specs.declared.id.ObjId.{ObjId}
use Rattle.lp_values.specs.declared.id.ProgId.{ProgId}
use Rattle.lp_code.specs.declared.program.RawProgram.{RawProgram}
use Rattle.lp_code.specs.declared.tables.Tables.{Tables}
use Rattle.lp_code.specs.Programs.{code_of}
use Rattle.lp_events.specs.declared.out.Out.{Out}
use Rattle.lp_swapfile.specs.Device.{Bytes}
use Rattle.lp_language.specs.World.{Version, World, version_at}
use Rattle.lp_language.specs.Course as course
use Rattle.lp_language.specs.Course.{Outcome}
use Rattle.lp_language.specs.Resolve.{Heir, Heritage, number_of, version_of}
use Rattle.lp_inherit.specs.Heirs.{table}
use Rattle.lp_world.specs.declared.live.Live.{Live}
use Rattle.lp_part_laws.specs.Versions.{AreCompiled, FitsVersion, heritage_in}
use Rattle.lp_part_laws.proofs.Lists.{is_below, there_below, within}
use Rattle.lp_part_laws.proofs.Trees.{bare, rises, version_settled}
use Rattle.lp_asking.specs.declared.asker.Asker.{Asker}
use Rattle.lp_asking.specs.declared.ending.Ending.{Ending}
use Rattle.lp_asking.specs.declared.ending.Place.{Place}
use Rattle.lp_asking.specs.Asking.{code_in, names_in}
use Rattle.lp_asking.specs.Endings.{IsPlace}
use Rattle.lp_reaching.specs.Compiled.{IsCaller}
use Rattle.lp_vm.specs.Going.{IsOutcome}
use Rattle.lp_vm.specs.Growing.{Grows}

pub grows_same : (ps : List RawProgram) → Grows ps ps
grows_same ps = ([], sym (append-nil ps))

pub grows_trans : (ps qs rs : List RawProgram) → Grows ps qs → Grows qs rs → Grows ps rs
grows_trans ps qs rs g h = (g.0 ++ h.0, h.1 ∙ ap (λ l. l ++ h.0) g.1 ∙ append_assoc ps g.0 h.0)

-- a program stays at its number
pub still_at : (ps qs : List RawProgram) (n : ℕ) (p : RawProgram) → Grows ps qs → slice_get ps n ≡ Some p → slice_get qs n ≡ Some p
still_at ps qs n p g e = ap (λ l. slice_get l n) g.1 ∙ within ps g.0 n p e

same_below : (ps qs : List RawProgram) (n : ℕ) → Grows ps qs → n < length ps → slice_get qs n ≡ slice_get ps n
same_below ps qs n g l = let p = there_below ps n l in still_at ps qs n p.0 g p.1 ∙ sym p.1

-- The names in the tables of parents

rows_same : (ps qs : List RawProgram) (vs : List ProgId) → Grows ps qs → All (λ (v : ProgId). v.0 < length ps) vs → map (λ (v : ProgId). names_in (slice_get qs v.0)) vs ≡ map (λ (v : ProgId). names_in (slice_get ps v.0)) vs
rows_same ps qs [] g h = refl
rows_same ps qs (v ∷ vs) g h =
    ap (λ o. names_in o ∷ map (λ (u : ProgId). names_in (slice_get qs u.0)) vs) (same_below ps qs v.0 g (All-head (λ (u : ProgId). u.0 < length ps) v vs h))
    ∙ ap (λ l. names_in (slice_get ps v.0) ∷ l) (rows_same ps qs vs g (All-tail (λ (u : ProgId). u.0 < length ps) v vs h))

parents_in_table : (h : Heritage) → (table h).parents ≡ (version_of h).parents
parents_in_table (Heir n v ps) = refl

-- the parents of a program have lower numbers
parents_below : (ps : List RawProgram) (versions : List Version) (v : ProgId) (p : RawProgram) → AreCompiled ps versions → slice_get ps v.0 ≡ Some p → All (λ (u : ProgId). u.0 < length ps) p.tables.parents
parents_below ps versions v p c e =
    let fits : FitsVersion (heritage_in versions v) p = c.fit v.0 p e in
    let low : v.0 < length ps = is_below ps v.0 p e in
    let own : (version_at (bare versions) v).parents ≡ p.tables.parents
    = ap (λ (x : Version). x.parents) (sym (version_settled versions v)) ∙ sym (parents_in_table (heritage_in versions v)) ∙ ap (λ (t : Tables). t.parents) fits.own.own in
    All-weaker (λ (u : ProgId). u.0 < v.0) (λ (u : ProgId). u.0 < length ps) (λ u l. omega (arith, l, low)) p.tables.parents (subst (All (λ (u : ProgId). u.0 < v.0)) own (rises versions v c.rising))

-- so the code of a program is the same
pub code_grown : (ps qs : List RawProgram) (versions : List Version) (v : ProgId) (p : RawProgram) → Grows ps qs → AreCompiled ps versions → slice_get ps v.0 ≡ Some p → code_in qs p ≡ code_in ps p
code_grown ps qs versions v p g c e = ap (code_of p) (rows_same ps qs p.tables.parents g (parents_below ps versions v p c e))

-- Who calls, and where

pub caller_grown : (ps qs : List RawProgram) (w : World) (this : ObjId) (part : ℕ) (code : RawProgram) → Grows ps qs → IsCaller ps w this part code → IsCaller qs w this part code
caller_grown ps qs w this part code g h = λ u keeps. let c = h u keeps in record { place = c.place; at = c.at; is = still_at ps qs (number_of c.place.tree).0 code g c.is }

pub place_grown : (ps qs : List RawProgram) (w : World) (at : Place) (x : course.Place) → Grows ps qs → IsPlace ps w at x → IsPlace qs w at x
place_grown ps qs w at x g h = record { raw = h.raw; is = still_at ps qs at.program.0 h.raw g h.is; function = h.function; program = h.program; object = h.object }

-- Outcomes

-- with the programs of before, where those had grown already
pub outcome_grown : (told : Option Bytes) (ps qs : List RawProgram) (before : List Out) (live : Live) (asker : Asker) (budget : ℕ) (e : Ending) (o : Outcome) → Grows ps qs → IsOutcome told qs before live asker budget e o → IsOutcome told ps before live asker budget e o
outcome_grown told ps qs before live asker budget e o g h = record {
  programs = h.programs;
  grown = grows_trans ps qs h.programs g h.grown;
  world = h.world;
  left = h.left;
  player = h.player;
  commands = h.commands;
  outputs = h.outputs;
  answer = h.answer;
}
