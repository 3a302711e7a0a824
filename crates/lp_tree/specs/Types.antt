-- Which tokens spell a type.
use Rattle.std.specs.Prelude.{ℕ, zero, suc, List, ◌∷◌}
use Rattle.lp_tree.specs.declared.keyword.Base.{Base as BaseWord}
use Rattle.lp_tree.specs.declared.keyword.Keyword.TheVariants.{Base}
use Rattle.lp_tree.specs.declared.operator.BinOp.TheVariants.{Mul}
use Rattle.lp_tree.specs.declared.token.Mark.TheVariants.{Binary}
use Rattle.lp_tree.specs.declared.seen.Seen.{Seen}
use Rattle.lp_tree.specs.declared.types.TypeName.{TypeName}
use Rattle.lp_tree.specs.Seen.{mark, reserved}

-- SpellsStars n ts rest: the tokens of ts before rest are n stars
pub data SpellsStars : ℕ → List Seen → List Seen → Type 0 where
  none : {rest : List Seen} → SpellsStars zero rest rest
  one_more : {n l : ℕ} {ts rest : List Seen} → SpellsStars n ts rest → SpellsStars (suc n) (mark (Binary Mul) l ∷ ts) rest

-- a type is a base word and stars
pub data SpellsType : TypeName → List Seen → List Seen → Type 0 where
  typed : {b : BaseWord} {n l : ℕ} {ts rest : List Seen}
      → SpellsStars n ts rest → SpellsType (record { base = b; stars = n }) (reserved (Base b) l ∷ ts) rest
