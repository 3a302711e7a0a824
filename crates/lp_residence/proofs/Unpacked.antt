-- What a record without cells of its own holds.
use Rattle.std.proofs.Common.{◌≡◌, ◌∙◌, List, [], ◌∷◌, ℕ, map, refl, ap, sym, pos}
use Rattle.lp_values.specs.declared.value.Value.{Value}
use Rattle.lp_values.specs.declared.value.Value.TheVariants.{Int, Str, Arr, Map, Obj}
use Rattle.lp_image.specs.Image.{IsRecord, image}
use Rattle.lp_image.specs.declared.record.Packed.{Packed}
use Rattle.lp_image.specs.declared.record.Packed.TheVariants as packs
use Rattle.lp_image.specs.declared.record.Record.{Record}
use Rattle.lp_world.specs.Records.{packed}
use Rattle.lp_residence.specs.Entering.{AreValuesOf}
use Rattle.lp_residence.specs.Owners.{record_of}

-- the value that is so in a record; what is of its own there reads as 0
abbrev unpacked : Packed → Value
unpacked (packs.Int n) = Int n
unpacked (packs.Str s) = Str s
unpacked (packs.Arr c) = Arr c
unpacked (packs.Map c) = Map c
unpacked (packs.Obj o) = Obj o
unpacked (packs.OwnArr k) = Int (pos 0)
unpacked (packs.OwnMap k) = Int (pos 0)

unpacked_packed : (v : Value) → unpacked (packed [] v) ≡ v
unpacked_packed (Int n) = refl
unpacked_packed (Str s) = refl
unpacked_packed (Arr c) = refl
unpacked_packed (Map c) = refl
unpacked_packed (Obj o) = refl

all_unpacked : (vs : List Value) → map unpacked (map (packed []) vs) ≡ vs
all_unpacked [] = refl
all_unpacked (v ∷ vs) = ap (λ u. u ∷ map unpacked (map (packed []) vs)) (unpacked_packed v) ∙ ap (λ us. v ∷ us) (all_unpacked vs)

-- values that are the same in a record are the same
pub one_packed : (us vs : List Value) → map (packed []) us ≡ map (packed []) vs → us ≡ vs
one_packed us vs e = sym (all_unpacked us) ∙ ap (map unpacked) e ∙ all_unpacked vs

pub values_are : (bytes : List ℕ) (r : Record) (vs : List Value) → ((s : Record) → IsRecord s → bytes ≡ image s → s ≡ r) → map (packed []) vs ≡ r.vars → AreValuesOf bytes vs
values_are bytes r vs only m o us fits spelled = one_packed vs us (m ∙ sym (ap (λ s. s.vars) (only (record_of o us) fits spelled)))
