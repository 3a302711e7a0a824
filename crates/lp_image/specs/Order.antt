-- Going over mentions one by one, beside the cells in their order.
use Rattle.std.specs.Prelude.{◌≡◌, ℕ, Bool, true, false, ◌&&◌, List, [], ◌∷◌, drop, Option, Some, None, nat_eq, if◌then◌else◌}
use Rattle.std.specs.Option.{option_map}
use Rattle.lp_image.specs.declared.record.PackedCell.{PackedCell}
use Rattle.lp_image.specs.Image.{Mention, numbered}

abbrev pub same_kind : Bool → Bool → Bool
same_kind true true = true
same_kind false false = true
same_kind true false = false
same_kind false true = false

abbrev pub same_mention : Mention → Mention → Bool
same_mention m n = same_kind m.0 n.0 && nat_eq m.1 n.1

-- what is left of a list when another is taken off its front, if it begins so
abbrev pub stripped : List Mention → List Mention → Option (List Mention)
stripped [] ns = Some ns
stripped (m ∷ ms) [] = None
stripped (m ∷ ms) (n ∷ ns) = if same_mention m n then stripped ms ns else None

-- the cells that are not mentioned yet, where so many are
abbrev pub expected : List PackedCell → ℕ → List Mention
expected cells n = numbered n (drop n cells)

-- mentions take the next cells off, and so many are mentioned then; or nothing where they are not the next
abbrev pub Follows : List PackedCell → List Mention → ℕ → Option ℕ → Type 0
Follows cells ms n next = stripped ms (expected cells n) ≡ option_map (expected cells) next
