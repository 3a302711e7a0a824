-- Records without cells of their own.
use Rattle.std.proofs.Common.{◌≡◌, ◌∙◌, ◌++◌, List, [], ◌∷◌, map, refl, ap}
use Rattle.std.specs.List.{flat_map}
use Rattle.lp_values.specs.declared.id.ObjId.{ObjId}
use Rattle.lp_values.specs.declared.value.Value.{Value}
use Rattle.lp_values.specs.declared.value.Value.TheVariants.{Int, Str, Arr, Map, Obj}
use Rattle.lp_image.specs.Image.{IsOrdered, mention_of}
use Rattle.lp_world.specs.Records.{packed}
use Rattle.lp_residence.specs.Owners.{record_of}

unmentioned : (v : Value) → mention_of (packed [] v) ≡ []
unmentioned (Int n) = refl
unmentioned (Str s) = refl
unmentioned (Arr c) = refl
unmentioned (Map c) = refl
unmentioned (Obj o) = refl

all_unmentioned : (vs : List Value) → flat_map mention_of (map (packed []) vs) ≡ []
all_unmentioned [] = refl
all_unmentioned (v ∷ vs) = ap (λ l. l ++ flat_map mention_of (map (packed []) vs)) (unmentioned v) ∙ all_unmentioned vs

-- it mentions no cell of its own, and has none
pub is_ordered : (o : ObjId) (vs : List Value) → IsOrdered (record_of o vs)
is_ordered o vs = ap (λ l. l ++ []) (all_unmentioned vs)
