-- What the last entry of a name has.
use Rattle.std.proofs.Common.{◌≡◌, ℕ, zero, suc, Bool, true, false, List, [], ◌∷◌, ◌++◌, length, Option, Some, None, if◌then◌else◌, refl, sym, ap, ◌∙◌}
use Rattle.std.specs.Prelude.{slice_get}
use Rattle.lp_instr.specs.EfunList.{is_name}
use Rattle.lp_language.specs.Resolve.{or_else}
use Rattle.lp_language.specs.Scope.{Names, slot_of, slot_from}
use Rattle.lp_codegen_expr.specs.Names.{beside}
use Rattle.lp_codegen_expr.proofs.Meanings.{name_there}
use Rattle.lp_codegen_layout.specs.declared.entry.Entry.{Entry}
use Rattle.lp_codegen_layout.specs.Laid.{names_in, numbers_in, last_number, seen, shown, path_names, LastCounts}

abbrev one_on : Option ℕ → Option ℕ
one_on None = None
one_on (Some j) = Some (suc j)

on_choice : (o : Option ℕ) (b : Bool) (k : ℕ) → or_else (one_on o) (if b then Some (suc k) else None) ≡ one_on (or_else o (if b then Some k else None))
on_choice None true k = refl
on_choice None false k = refl
on_choice (Some j) b k = refl

slot_on : (k : ℕ) (ns : Names) (w : List ℕ) → slot_from (suc k) ns w ≡ one_on (slot_from k ns w)
slot_on k [] w = refl
slot_on k (n ∷ ns) w =
    ap (λ o. or_else o (if is_name n w then Some (suc k) else None)) (slot_on (suc k) ns w) ∙ on_choice (slot_from (suc k) ns w) (is_name n w) k

number_there : (es : List Entry) (j : ℕ) (w : List ℕ) → slice_get (names_in es) j ≡ Some w → (x : ℕ) × (slice_get (numbers_in es) j ≡ Some x)
number_there [] j w h = absurd cc
number_there (e ∷ es) zero w h = (e.number, refl)
number_there (e ∷ es) (suc j) w h = number_there es j w h

next_entry : (o m : Option ℕ) (n : ℕ) (ks : List ℕ) (b : Bool) → ((j : ℕ) → o ≡ Some j → (x : ℕ) × (slice_get ks j ≡ Some x)) → beside ks o ≡ m → beside (n ∷ ks) (or_else (one_on o) (if b then Some 0 else None)) ≡ or_else m (if b then Some n else None)
next_entry None m n ks true h e = ap (λ y. or_else y (Some n)) e
next_entry None m n ks false h e = ap (λ y. or_else {A = ℕ} y None) e
next_entry (Some j) m n ks b h e = let x = h j refl in x.1 ∙ ap (λ y. or_else y (if b then Some n else None)) (sym x.1 ∙ e)

-- the number beside the last place of a name
pub last_beside : (es : List Entry) (w : List ℕ) → beside (numbers_in es) (slot_of (names_in es) w) ≡ last_number es w
last_beside [] w = refl
last_beside (e ∷ es) w =
    ap (λ o. beside (numbers_in (e ∷ es)) (or_else o (if is_name e.name w then Some 0 else None))) (slot_on 0 (names_in es) w)
    ∙ next_entry (slot_of (names_in es) w) (last_number es w) e.number (numbers_in es) (is_name e.name w) (λ j q. number_there es j w (name_there (names_in es) w j q)) (last_beside es w)

either : (a b c : Option ℕ) → or_else (or_else a b) c ≡ or_else a (or_else b c)
either None b c = refl
either (Some k) b c = refl

or_none : (a : Option ℕ) → a ≡ or_else a None
or_none None = refl
or_none (Some k) = refl

-- of two lists of entries the second counts first
pub last_of_both : (ds es : List Entry) (w : List ℕ) → last_number (ds ++ es) w ≡ or_else (last_number es w) (last_number ds w)
last_of_both [] es w = or_none (last_number es w)
last_of_both (d ∷ ds) es w =
    ap (λ o. or_else o (if is_name d.name w then Some d.number else None)) (last_of_both ds es w) ∙ either (last_number es w) (last_number ds w) (if is_name d.name w then Some d.number else None)

pub last_counts : LastCounts
last_counts own parents simuls w =
    (last_beside (seen (length own.parts) 0 own.vars) w, last_beside (shown false 0 parents ++ shown true 0 parents) w ∙ last_of_both (shown false 0 parents) (shown true 0 parents) w, last_beside (path_names 0 parents) w)
