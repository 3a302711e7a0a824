-- Loads, one step after another.
use Rattle.std.proofs.Common.{◌≡◌, ◌<◌, ◌≤◌, ◌+◌, ◌∙◌, ℕ, zero, suc, List, [], ◌∷◌, ◌++◌, false, Option, Some, None, refl, sym, ap, subst, length, length-append, drop, get_or, arith}
use Rattle.std.proofs.lemmas.Option.{none-some}
use Rattle.lp_files.specs.declared.store.Store.{Store}
use Rattle.lp_tree.specs.declared.fault.FaultKind.{FaultKind}
use Rattle.lp_code.specs.declared.tables.Tables.{Tables}
use Rattle.lp_layout.specs.Layout.{AreInside}
use Rattle.lp_front.specs.declared.parents.Parent.{Parent}
use Rattle.lp_front.specs.declared.read.Declared.{Declared}
use Rattle.lp_front.specs.Reading.{Declares, items_of}
use Rattle.lp_loads.specs.declared.known.Found.{Found as FoundHere}
use Rattle.lp_loads.specs.Known.{FoundIn, found_of}
use Rattle.lp_loads.specs.Family.{LoadsDeclared, LoadsFirst, behind}
use Rattle.lp_loads.specs.Loads.{Load, Loaded, load_of, is_under_way, most_nested, Found, Stands, Wrong, Lacks, found_version, Family, Whole, Broken, Lacking, with_parent, Loads, read, LoadsParent, known, new, LoadsParents, all, stands, wrong, lacks}

pub of_declared : (files : Store) (simuls under : List (List ℕ)) (file : List ℕ) (d : Declared) (before after : Loaded) → Declares files file (items_of d) d.pragmas → LoadsDeclared files simuls under file d before after → Loads files simuls under file before after
of_declared files simuls under file d before after h l = subst (λ (a : Loaded). Loads files simuls under file before a) (sym l.is) (read h l.parents)

pub at_parents : (files : Store) (simuls : List (List ℕ)) (u v : List (List ℕ)) (ps qs : List Parent) (before after : Loaded) (f : Family) → u ≡ v → ps ≡ qs → LoadsParents files simuls u ps before after f → LoadsParents files simuls v qs before after f
at_parents files simuls u v ps qs before after f d e h = subst (λ (w : List (List ℕ)). LoadsParents files simuls w qs before after f) d (subst (λ (rs : List Parent). LoadsParents files simuls u rs before after f) e h)

-- what an `inherit` leads to, by what was found
abbrev LeadsTo : Store → List (List ℕ) → List (List ℕ) → List ℕ → Loaded → Loaded → Option FoundHere → Type 0
LeadsTo files simuls under file before after None = Unit {0}
LeadsTo files simuls under file before after (Some f) = LoadsParent files simuls under file before after (found_of f)

found_so : (files : Store) (simuls under : List (List ℕ)) (file : List ℕ) (before after : Loaded) (o : Option Load) (r : Option FoundHere) → FoundIn o r → ((l : Load) → o ≡ Some l → LoadsParent files simuls under file before after (found_version l.version)) → LeadsTo files simuls under file before after r
found_so files simuls under file before after o None h k = tt
found_so files simuls under file before after None (Some f) h k = absurd (none-some f (sym h))
found_so files simuls under file before after (Some l) (Some f) h k = subst (λ (x : Found). LoadsParent files simuls under file before after x) (sym h) (k l refl)

pub of_known : (files : Store) (simuls under : List (List ℕ)) (file : List ℕ) (before : Loaded) (r : Option FoundHere) (f : FoundHere) → FoundIn (load_of before file) r → r ≡ Some f → LoadsParent files simuls under file before before (found_of f)
of_known files simuls under file before r f h e = subst (LeadsTo files simuls under file before before) e (found_so files simuls under file before before (load_of before file) r h (λ l i. known i))

pub of_new : (files : Store) (simuls under : List (List ℕ)) (file : List ℕ) (before after : Loaded) (r : Option FoundHere) (f : FoundHere) → FoundIn (load_of after file) r → r ≡ Some f
    → load_of before file ≡ None → is_under_way under file ≡ false → length under ≤ most_nested → Loads files simuls under file before after → LoadsParent files simuls under file before after (found_of f)
of_new files simuls under file before after r f h e n w s l = subst (LeadsTo files simuls under file before after) e (found_so files simuls under file before after (load_of after file) r h (λ x i. new n w s l i))

pub not_known : (o : Option Load) (r : Option FoundHere) → FoundIn o r → ((f : FoundHere) → r ≡ Some f → ⊥) → o ≡ None
not_known None r h n = refl
not_known (Some l) None h n = absurd h
not_known (Some l) (Some f) h n = absurd (n f refl)

-- Parents, one after another

behind_more : (ts : List Tables) (t : Tables) (f : Family) → behind (ts ++ t ∷ []) f ≡ behind ts (with_parent t f)
behind_more [] t f = refl
behind_more (u ∷ ts) t f = ap (with_parent u) (behind_more ts t f)

behind_broken : (ts : List Tables) (k : FaultKind) (n : ℕ) → behind ts (Broken k n) ≡ Broken k n
behind_broken [] k n = refl
behind_broken (t ∷ ts) k n = ap (with_parent t) (behind_broken ts k n)

behind_lacking : (ts : List Tables) → behind ts Lacking ≡ Lacking
behind_lacking [] = refl
behind_lacking (t ∷ ts) = ap (with_parent t) (behind_lacking ts)

behind_whole : (ts : List Tables) → behind ts (Whole []) ≡ Whole ts
behind_whole [] = refl
behind_whole (t ∷ ts) = ap (with_parent t) (behind_whole ts)

drop_suc : (ps : List Parent) (n : ℕ) (p : Parent) → n < length ps → drop n ps ≡ get_or ps n p ∷ drop (suc n) ps
drop_suc [] n p h = absurd (omega (arith, h))
drop_suc (q ∷ ps) zero p h = refl
drop_suc (q ∷ ps) (suc n) p h = drop_suc ps n p (omega (arith, h))

one_on : (n : ℕ) → suc n ≡ n + 1
one_on n = omega arith

drop_next : (ps : List Parent) (n : ℕ) (p : Parent) → n < length ps → drop n ps ≡ get_or ps n p ∷ drop (n + 1) ps
drop_next ps n p h = drop_suc ps n p h ∙ ap (λ (k : ℕ). get_or ps n p ∷ drop k ps) (one_on n)

drop_past : (ps : List Parent) (n : ℕ) → length ps ≤ n → drop n ps ≡ []
drop_past [] zero h = refl
drop_past [] (suc n) h = refl
drop_past (q ∷ ps) zero h = absurd (omega (arith, h))
drop_past (q ∷ ps) (suc n) h = drop_past ps n (omega (arith, h))

at_next : (files : Store) (simuls under : List (List ℕ)) (ps : List Parent) (n : ℕ) (p : Parent) (between after : Loaded) (f : Family) → n < length ps → LoadsParents files simuls under (get_or ps n p ∷ drop (n + 1) ps) between after f → LoadsParents files simuls under (drop n ps) between after f
at_next files simuls under ps n p between after f h l = subst (λ (rs : List Parent). LoadsParents files simuls under rs between after f) (sym (drop_next ps n p h)) l

-- the same parent, told otherwise
pub at_parent : (files : Store) (simuls : List (List ℕ)) (u v : List (List ℕ)) (f g : List ℕ) (before after : Loaded) (x y : FoundHere) → u ≡ v → f ≡ g → x ≡ y → LoadsParent files simuls u f before after (found_of x) → LoadsParent files simuls v g before after (found_of y)
at_parent files simuls u v f g before after x y d e i h =
    subst (λ (z : FoundHere). LoadsParent files simuls v g before after (found_of z)) i
    (subst (λ (w : List (List ℕ)). LoadsParent files simuls w g before after (found_of x)) d (subst (λ (w : List ℕ). LoadsParent files simuls u w before after (found_of x)) e h))

pub at_line : (files : Store) (simuls under : List (List ℕ)) (ps : List Parent) (before after : Loaded) (k : FaultKind) (p q : Parent) → p ≡ q → LoadsParents files simuls under ps before after (Broken k q.line) → LoadsParents files simuls under ps before after (Broken k p.line)
at_line files simuls under ps before after k p q e h = subst (λ (x : Parent). LoadsParents files simuls under ps before after (Broken k x.line)) (sym e) h

pub at_tables : (files : Store) (simuls under : List (List ℕ)) (ps : List Parent) (n : ℕ) (before between : Loaded) (us ts : List Tables) → us ≡ ts → LoadsFirst files simuls under ps n before ts between → LoadsFirst files simuls under ps n before us between
at_tables files simuls under ps n before between us ts e h = subst (λ (xs : List Tables). LoadsFirst files simuls under ps n before xs between) (sym e) h

-- none yet
pub none_first : (files : Store) (simuls under : List (List ℕ)) (ps : List Parent) (before : Loaded) → LoadsFirst files simuls under ps 0 before [] before
none_first files simuls under ps before after family l = l

-- one more that stands
pub one_stands : (files : Store) (simuls under : List (List ℕ)) (ps : List Parent) (n : ℕ) (p : Parent) (before between now : Loaded) (ts : List Tables) (t : Tables) → n < length ps → LoadsFirst files simuls under ps n before ts between
    → LoadsParent files simuls under (get_or ps n p).file between now (Stands t) → LoadsFirst files simuls under ps (n + 1) before (ts ++ t ∷ []) now
one_stands files simuls under ps n p before between now ts t h go l after family rest =
    subst (λ (f : Family). LoadsParents files simuls under ps before after f) (sym (behind_more ts t family))
    (go after (with_parent t family) (at_next files simuls under ps n p between after (with_parent t family) h (stands l rest)))

-- one that is wrong
pub one_wrong : (files : Store) (simuls under : List (List ℕ)) (ps : List Parent) (n : ℕ) (p : Parent) (before between now : Loaded) (ts : List Tables) (k : FaultKind) → n < length ps → LoadsFirst files simuls under ps n before ts between
    → LoadsParent files simuls under (get_or ps n p).file between now (Wrong k) → LoadsParents files simuls under ps before now (Broken k (get_or ps n p).line)
one_wrong files simuls under ps n p before between now ts k h go l =
    subst (λ (f : Family). LoadsParents files simuls under ps before now f) (behind_broken ts k (get_or ps n p).line)
    (go now (Broken k (get_or ps n p).line) (at_next files simuls under ps n p between now (Broken k (get_or ps n p).line) h (wrong l)))

-- one that lacks a version
pub one_lacks : (files : Store) (simuls under : List (List ℕ)) (ps : List Parent) (n : ℕ) (p : Parent) (before between now : Loaded) (ts : List Tables) → n < length ps → LoadsFirst files simuls under ps n before ts between
    → LoadsParent files simuls under (get_or ps n p).file between now Lacks → LoadsParents files simuls under ps before now Lacking
one_lacks files simuls under ps n p before between now ts h go l =
    subst (λ (f : Family). LoadsParents files simuls under ps before now f) (behind_lacking ts)
    (go now Lacking (at_next files simuls under ps n p between now Lacking h (lacks l)))

-- all stand
pub all_stand : (files : Store) (simuls under : List (List ℕ)) (ps : List Parent) (n : ℕ) (before between : Loaded) (ts : List Tables) → length ps ≤ n → LoadsFirst files simuls under ps n before ts between → LoadsParents files simuls under ps before between (Whole ts)
all_stand files simuls under ps n before between ts h go =
    subst (λ (f : Family). LoadsParents files simuls under ps before between f) (behind_whole ts)
    (go between (Whole []) (subst (λ (rs : List Parent). LoadsParents files simuls under rs between between (Whole [])) (sym (drop_past ps n h)) all))

pub inside_more : (ts : List Tables) (t : Tables) → AreInside ts → AreInside (t ∷ []) → AreInside (ts ++ t ∷ [])
inside_more [] t h k i u e = k i u e
inside_more (x ∷ ts) t h k zero u e = h 0 u e
inside_more (x ∷ ts) t h k (suc i) u e = inside_more ts t (λ j v d. h (suc j) v d) k i u e

pub count_more : (ts : List Tables) (t : Tables) (n : ℕ) → length ts ≡ n → length (ts ++ t ∷ []) ≡ n + 1
count_more ts t n h = let e = length-append ts (t ∷ []) in omega (arith, e, h)
