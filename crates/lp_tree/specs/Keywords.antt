-- Reserved words and their letters.
use Rattle.std.specs.Prelude.{◌≡◌, ℕ, List, [], ◌∷◌, Option, Some, None, codes, find, bytes_eq}
use Rattle.lp_tree.specs.declared.keyword.Modifier.{Modifier as ModifierWord}
use Rattle.lp_tree.specs.declared.keyword.Modifier.TheVariants as modifiers
use Rattle.lp_tree.specs.declared.keyword.Base.{Base as BaseWord}
use Rattle.lp_tree.specs.declared.keyword.Base.TheVariants as bases
use Rattle.lp_tree.specs.declared.keyword.Keyword.{Keyword}
use Rattle.lp_tree.specs.declared.keyword.Keyword.TheVariants.{Modifier, Base, Inherit, If, Else, While, Do, For, Foreach, Switch, Case, Default, Break, Continue, Return, Catch, Sscanf}

-- how a modifier is written
abbrev pub modifier_letters : ModifierWord → List ℕ
modifier_letters modifiers.Private = codes "private"
modifier_letters modifiers.Protected = codes "protected"
modifier_letters modifiers.Public = codes "public"
modifier_letters modifiers.Static = codes "static"
modifier_letters modifiers.Nosave = codes "nosave"
modifier_letters modifiers.Nomask = codes "nomask"
modifier_letters modifiers.Varargs = codes "varargs"

-- how a base type is written
abbrev pub base_letters : BaseWord → List ℕ
base_letters bases.Int = codes "int"
base_letters bases.Status = codes "status"
base_letters bases.String = codes "string"
base_letters bases.Object = codes "object"
base_letters bases.Mapping = codes "mapping"
base_letters bases.Mixed = codes "mixed"
base_letters bases.Void = codes "void"

-- how a reserved word is written
abbrev pub letters : Keyword → List ℕ
letters (Modifier m) = modifier_letters m
letters (Base b) = base_letters b
letters Inherit = codes "inherit"
letters If = codes "if"
letters Else = codes "else"
letters While = codes "while"
letters Do = codes "do"
letters For = codes "for"
letters Foreach = codes "foreach"
letters Switch = codes "switch"
letters Case = codes "case"
letters Default = codes "default"
letters Break = codes "break"
letters Continue = codes "continue"
letters Return = codes "return"
letters Catch = codes "catch"
letters Sscanf = codes "sscanf"

abbrev pub modifier_words : List ModifierWord
modifier_words = modifiers.Private ∷ modifiers.Protected ∷ modifiers.Public ∷ modifiers.Static ∷ modifiers.Nosave ∷ modifiers.Nomask ∷ modifiers.Varargs ∷ []

abbrev pub base_words : List BaseWord
base_words = bases.Int ∷ bases.Status ∷ bases.String ∷ bases.Object ∷ bases.Mapping ∷ bases.Mixed ∷ bases.Void ∷ []

abbrev pub other_words : List Keyword
other_words = Inherit ∷ If ∷ Else ∷ While ∷ Do ∷ For ∷ Foreach ∷ Switch ∷ Case ∷ Default ∷ Break ∷ Continue ∷ Return ∷ Catch ∷ Sscanf ∷ []

-- the modifier that is written so, if one is
abbrev pub modifier_of : List ℕ → Option ModifierWord
modifier_of w = find (λ m. bytes_eq w (modifier_letters m)) modifier_words

-- the base type that is written so, if one is
abbrev pub base_of : List ℕ → Option BaseWord
base_of w = find (λ b. bytes_eq w (base_letters b)) base_words

-- the other reserved word that is written so, if one is
abbrev pub other_of : List ℕ → Option Keyword
other_of w = find (λ k. bytes_eq w (letters k)) other_words

abbrev pub either_of : Option ModifierWord → Option BaseWord → Option Keyword → Option Keyword
either_of (Some m) b k = Some (Modifier m)
either_of None (Some b) k = Some (Base b)
either_of None None k = k

-- the reserved word that is written so, if one is: every other name is free
abbrev pub keyword_of : List ℕ → Option Keyword
keyword_of w = either_of (modifier_of w) (base_of w) (other_of w)

-- each reserved word is found by its letters, and by no others
pub record AreReserved : Type 0 where
  pub found : (k : Keyword) → keyword_of (letters k) ≡ Some k
  pub only : (w : List ℕ) (k : Keyword) → keyword_of w ≡ Some k → w ≡ letters k
