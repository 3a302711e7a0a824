-- What the reader answers is what is spelled.
use Rattle.std.proofs.Common.{◌≡◌, ℕ, zero, suc, ◌+◌, ◌-◌, ◌≤◌, ◌<◌, min, List, [], ◌∷◌, length, take, get_or, map, inl, inr, refl, ap, ◌∙◌, arith}
use Rattle.std.specs.Prelude.{Ok, Err, Vec}
use Rattle.std.specs.declared.alloc.Global.{Global}
use Rattle.lp_tree.specs.declared.token.Token.{Token}
use Rattle.lp_tree.specs.declared.unit.Item.{Item}
use Rattle.lp_tree.specs.Units.{ItemTree, SpellsUnit, unit_height, IsUnexpected, IsTooNested, line_at}
use Rattle.lp_tree.specs.UnitView.{item_of}
use Rattle.lp_parser_expr.specs.declared.fault.Stop.TheVariants as stop
use Rattle.lp_parser.specs.Stops.{IsStuck, Stops}
use Rattle.lp_parser.specs.Theorem.{sight}
use Rattle.lp_parser.proofs.Main.{found, unexpected_at, unexpected_end, nested_at, refused, deep, front_of, no_unit_at_end}

pub ok_found : (limit : ℕ) (ts : List Token) (v : Vec Item Global) → Stops limit ts (Ok v) → SpellsUnit (map item_of v.items) (sight ts) × (unit_height (map item_of v.items) ≤ limit)
ok_found limit ts v s = found limit ts (length ts) s.0 (map item_of v.items) s.1 refl s.2

pub unexpected_found : (limit : ℕ) (ts : List Token) (at : ℕ) → Stops limit ts (Err (stop.Unexpected at)) → IsUnexpected limit (sight ts) at
unexpected_found limit ts at s = by_cause s.2
  where
    by_cause : IsStuck ts at s.0 → IsUnexpected limit (sight ts) at
    by_cause (inl w) = unexpected_at limit ts at s.0 s.1 w.0 w.1
    by_cause (inr w) = unexpected_end limit ts at s.0 s.1 w.0 w.1

pub nested_found : (limit : ℕ) (ts : List Token) (at : ℕ) → Stops limit ts (Err (stop.TooNested at)) → IsTooNested limit (sight ts) at
nested_found limit ts at s = nested_at limit ts at s.0 s.1 s.2 s.3 s.4 s.5

pub unexpected_none : (limit : ℕ) (ts : List Token) (at : ℕ) → Stops limit ts (Err (stop.Unexpected at)) → (is : List ItemTree) → SpellsUnit is (sight ts) → ⊥
unexpected_none limit ts at s is d = by_cause s.2
  where
    by_cause : IsStuck ts at s.0 → ⊥
    by_cause (inl w) = let f = front_of (at + 1) ts is d in refused (sight (take (at + 1) ts)) w.1 (f.0, is, f.1)
    by_cause (inr w) = no_unit_at_end limit ts at s.0 s.1 w.0 w.1 is d

pub nested_none : (limit : ℕ) (ts : List Token) (at : ℕ) → Stops limit ts (Err (stop.TooNested at)) → (is : List ItemTree) → SpellsUnit is (sight ts) → unit_height is ≤ limit → ⊥
nested_none limit ts at s is d h = let f = front_of (at + 1) ts is d in absurd (omega (arith, h, s.5, deep (sight (take (at + 1) ts)) f.0 is s.1 s.4 f.1))

pub line_there : (ts : List Token) (at k : ℕ) (x : Token) → 0 < length ts → k ≡ min at (length ts - 1) → x ≡ get_or ts k x → x.line ≡ line_at (sight ts) at
line_there [] at k x h e w = absurd (omega (arith, h))
line_there (t ∷ []) at k x h e w = let z : k ≡ 0 = omega (arith, e) in ap (λ y. y.line) (w ∙ ap (λ j. get_or (t ∷ []) j x) z)
line_there (t ∷ u ∷ ts) zero k x h e w = let z : k ≡ 0 = omega (arith, e) in ap (λ y. y.line) (w ∙ ap (λ j. get_or (t ∷ u ∷ ts) j x) z)
line_there (t ∷ u ∷ ts) (suc n) k x h e w =
    let m = min n (length ts) in
    let z : k ≡ suc m = omega (arith, e) in
    line_there (u ∷ ts) n m x (omega arith) (omega arith) (w ∙ ap (λ j. get_or (t ∷ u ∷ ts) j x) z)
