-- Closed statements, one after another.
use Rattle.std.proofs.Common.{◌≡◌, ℕ, ◌+◌, ◌<◌, ◌≤◌, Bool, true, false, ◌&&◌, List, ◌∷◌, length, get_or, drop, map, refl, sym, ap, ◌∙◌}
use Rattle.std.proofs.lemmas.List.{drop_more, drop_all}
use Rattle.lp_tree.specs.declared.stmt.Part.{Part}
use Rattle.lp_tree.specs.declared.stmt.Part.TheVariants as parts
use Rattle.lp_tree.specs.declared.stmt.Stmt.{Stmt}
use Rattle.lp_tree.specs.Pieces.{parts_of}
use Rattle.lp_tree.specs.Statements.{Around}
use Rattle.lp_tree.specs.StatementView.{stmt_of, stmt_trees}
use Rattle.lp_codegen_flow.specs.Closed.{are_closed, is_closed, parts_closed}

pub rest : {X : Type 0} (xs : List X) (i : ℕ) (x : X) → i < length xs → get_or xs i x ≡ x → drop i xs ≡ x ∷ drop (i + 1) xs
rest xs i x lt is = drop_more xs i x lt ∙ ap (λ y. y ∷ drop (i + 1) xs) is

abbrev pub closed_from : Around → List Stmt → ℕ → Bool
closed_from a xs i = are_closed a (stmt_trees (map stmt_of (drop i xs)))

one_by_one : (a : Around) (xs : List Stmt) (i : ℕ) (x : Stmt) → i < length xs → get_or xs i x ≡ x → closed_from a xs i ≡ (is_closed a (stmt_of x) && closed_from a xs (i + 1))
one_by_one a xs i x lt is = ap (λ l. are_closed a (stmt_trees (map stmt_of l))) (rest xs i x lt is)

pub one_open : (a : Around) (xs : List Stmt) (i : ℕ) (x : Stmt) (w b : Bool) → i < length xs → get_or xs i x ≡ x → w ≡ closed_from a xs i → b ≡ is_closed a (stmt_of x) → b ≡ false → false ≡ w
one_open a xs i x w b lt is h e f = sym (h ∙ one_by_one a xs i x lt is ∙ ap (λ c. c && closed_from a xs (i + 1)) (sym e ∙ f))

pub one_closed : (a : Around) (xs : List Stmt) (i : ℕ) (x : Stmt) (w b : Bool) → i < length xs → get_or xs i x ≡ x → w ≡ closed_from a xs i → b ≡ is_closed a (stmt_of x) → b ≡ true → w ≡ closed_from a xs (i + 1)
one_closed a xs i x w b lt is h e f = h ∙ one_by_one a xs i x lt is ∙ ap (λ c. c && closed_from a xs (i + 1)) (sym e ∙ f)

pub all_closed : (a : Around) (xs : List Stmt) (i : ℕ) (w : Bool) → length xs ≤ i → w ≡ closed_from a xs i → true ≡ w
all_closed a xs i w le h = sym (h ∙ ap (λ l. are_closed a (stmt_trees (map stmt_of l))) (drop_all i xs le))

-- the parts of a switch
abbrev pub part_closed : Around → Part Stmt → Bool
part_closed a (parts.Label k) = true
part_closed a (parts.Stmt s) = is_closed a (stmt_of s)

abbrev pub parts_from : Around → List (Part Stmt) → ℕ → Bool
parts_from a xs i = parts_closed a (parts_of (drop i xs))

parts_apart : (a : Around) (p : Part Stmt) (ps : List (Part Stmt)) → parts_closed a (parts_of (p ∷ ps)) ≡ (part_closed a p && parts_closed a (parts_of ps))
parts_apart a (parts.Label k) ps = refl
parts_apart a (parts.Stmt s) ps = refl

part_by_part : (a : Around) (xs : List (Part Stmt)) (i : ℕ) (x : Part Stmt) → i < length xs → get_or xs i x ≡ x → parts_from a xs i ≡ (part_closed a x && parts_from a xs (i + 1))
part_by_part a xs i x lt is = ap (λ l. parts_closed a (parts_of l)) (rest xs i x lt is) ∙ parts_apart a x (drop (i + 1) xs)

pub part_is_open : (a : Around) (xs : List (Part Stmt)) (i : ℕ) (x : Part Stmt) (s : Stmt) (w b : Bool) → i < length xs → get_or xs i x ≡ x → x ≡ parts.Stmt s → w ≡ parts_from a xs i → b ≡ is_closed a (stmt_of s) → b ≡ false → false ≡ w
part_is_open a xs i x s w b lt is es h e f = sym (h ∙ part_by_part a xs i x lt is ∙ ap (λ c. c && parts_from a xs (i + 1)) (ap (part_closed a) es ∙ sym e ∙ f))

pub part_is_closed : (a : Around) (xs : List (Part Stmt)) (i : ℕ) (x : Part Stmt) (s : Stmt) (w b : Bool) → i < length xs → get_or xs i x ≡ x → x ≡ parts.Stmt s → w ≡ parts_from a xs i → b ≡ is_closed a (stmt_of s) → b ≡ true → w ≡ parts_from a xs (i + 1)
part_is_closed a xs i x s w b lt is es h e f = h ∙ part_by_part a xs i x lt is ∙ ap (λ c. c && parts_from a xs (i + 1)) (ap (part_closed a) es ∙ sym e ∙ f)

pub label_is_closed : (a : Around) (xs : List (Part Stmt)) (i : ℕ) (x : Part Stmt) (w : Bool) → i < length xs → get_or xs i x ≡ x → ((s : Stmt) → x ≡ parts.Stmt s → ⊥) → w ≡ parts_from a xs i → w ≡ parts_from a xs (i + 1)
label_is_closed a xs i (parts.Label k) w lt is never h = h ∙ part_by_part a xs i (parts.Label k) lt is
label_is_closed a xs i (parts.Stmt s) w lt is never h = absurd (never s refl)

pub parts_all_closed : (a : Around) (xs : List (Part Stmt)) (i : ℕ) (w : Bool) → length xs ≤ i → w ≡ parts_from a xs i → true ≡ w
parts_all_closed a xs i w le h = sym (h ∙ ap (λ l. parts_closed a (parts_of l)) (drop_all i xs le))
