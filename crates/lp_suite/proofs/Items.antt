-- Items and files, one after another.
use Rattle.std.proofs.Common.{◌≡◌, ◌<◌, ◌+◌, ◌∙◌, ℕ, List, [], ◌∷◌, ◌++◌, refl, ap, sym, subst, length, take, get_or, map, append_assoc}
use Rattle.std.proofs.lemmas.List.{take_more, map_push}
use Rattle.lp_files.specs.declared.store.Store.{Store}
use Rattle.lp_loads.specs.Loads.{Loaded}
use Rattle.lp_tree.specs.declared.unit.Item.{Item}
use Rattle.lp_tree.specs.UnitView.{item_of}
use Rattle.lp_tree.specs.Units.{ItemTree, Inherit, Proto, Fun, Var}
use Rattle.lp_suite.specs.declared.suite.Entry.{Entry}
use Rattle.lp_suite.specs.Suite.{AddsEntries, AddsFile, is_test, more, test_if, tests_in}

tests_append : (path : List ℕ) (xs ys : List ItemTree) → tests_in path (xs ++ ys) ≡ tests_in path xs ++ tests_in path ys
tests_append path [] ys = refl
tests_append path (Inherit line name ∷ xs) ys = tests_append path xs ys
tests_append path (Proto line ms ty w ps ∷ xs) ys = tests_append path xs ys
tests_append path (Fun line ms ty w ps b ∷ xs) ys =
    ap (λ es. test_if (is_test ms w ps) path w ++ es) (tests_append path xs ys) ∙ sym (append_assoc (test_if (is_test ms w ps) path w) (tests_in path xs) (tests_in path ys))
tests_append path (Var line ms base ds ∷ xs) ys = tests_append path xs ys

-- one item more
pub one_more_item : (path : List ℕ) (items : List Item) (i : ℕ) (x : Item) → i < length items → tests_in path (map item_of (take (i + 1) items)) ≡ tests_in path (map item_of (take i items)) ++ tests_in path (item_of (get_or items i x) ∷ [])
one_more_item path items i x h =
    ap (λ ys. tests_in path (map item_of ys)) (take_more items i x h)
    ∙ ap (tests_in path) (map_push item_of (take i items) (get_or items i x))
    ∙ tests_append path (map item_of (take i items)) (item_of (get_or items i x) ∷ [])

-- one file more
pub one_more_file : (store : Store) (ls : Loaded) (paths : List (List ℕ)) (i : ℕ) (path file : List ℕ) (before after : List Entry) → i < length paths → path ≡ get_or paths i path → file ≡ path
    → AddsEntries store ls (take i paths) before → AddsFile store ls file before after → AddsEntries store ls (take (i + 1) paths) after
one_more_file store ls paths i path file before after lt is e h k =
    subst (λ ps. AddsEntries store ls ps after) (sym (take_more paths i path lt ∙ ap (λ p. take i paths ++ p ∷ []) (sym is)))
    (subst (λ es. AddsEntries store ls (take i paths ++ path ∷ []) es) (sym k.2)
    (subst (λ p. AddsEntries store ls (take i paths ++ p ∷ []) (before ++ k.0)) e (more (take i paths) file before k.0 h k.1)))
