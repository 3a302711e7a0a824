-- Lists of what a loop has gone over, when one more comes.
use Rattle.std.proofs.Common.{◌≡◌, ℕ, suc, ◌+◌, ◌<◌, refl, sym, ap, ◌∙◌, arith, List, [], ◌∷◌, ◌++◌, append_assoc, length, length-append, take, get_or, map}
use Rattle.std.proofs.lemmas.List.{map-append}
use Rattle.std.specs.Prelude.{OnOk}
use Rattle.std.specs.declared.result.Result.{Result}
use Rattle.std.specs.declared.result.Result.TheVariants.{Ok, Err}
use Rattle.lp_tree.specs.declared.unit.Item.{Item}
use Rattle.lp_tree.specs.declared.keyword.Base.{Base}
use Rattle.lp_tree.specs.declared.stmt.Declarator.{Declarator}
use Rattle.lp_tree.specs.Units.{ItemTree, Inherit, Proto, Fun, Var}
use Rattle.lp_tree.specs.UnitView.{item_of}
use Rattle.lp_tree.specs.StatementView.{declarator_of}
use Rattle.lp_code.specs.declared.tables.Tables.{Tables}
use Rattle.lp_types_expr.proofs.Declaring.{take_one}
use Rattle.lp_layout.specs.Layout.{AreSpelled, declared_names, inherited_rows, numbered_row, laid_variables, names_in, own_rows, parts_before, parts_of, row_moved, var_row, variable_names}

pub nil_right : {A : Type 0} (xs : List A) → xs ++ [] ≡ xs
nil_right [] = refl
nil_right (x ∷ xs) = ap (λ l. x ∷ l) (nil_right xs)

-- a list that is made by one item after another
pub made_next : {X Y : Type 0} (F : List X → List Y) → ((xs : List X) (x : X) → F (xs ++ x ∷ []) ≡ F xs ++ F (x ∷ [])) → (xs : List X) (i : ℕ) (x : X) → i < length xs → x ≡ get_or xs i x → F (take (i + 1) xs) ≡ F (take i xs) ++ F (x ∷ [])
made_next F snoc xs i x h e =
    let f : suc i ≡ i + 1 = omega arith in
    ap (λ n. F (take n xs)) (sym f) ∙ ap F (take_one xs i x h e) ∙ snoc (take i xs) x

-- what is behind what was there, when one more is
pub behind : {Y : Type 0} (a b c xs ys zs : List Y) → zs ≡ xs ++ ys → b ≡ a ++ xs → c ≡ b ++ ys → c ≡ a ++ zs
behind a b c xs ys zs e p q = q ∙ ap (λ l. l ++ ys) p ∙ append_assoc a xs ys ∙ ap (λ l. a ++ l) (sym e)

names_snoc : (ts : List Tables) (t : Tables) → names_in (ts ++ t ∷ []) ≡ names_in ts ++ names_in (t ∷ [])
names_snoc [] t = refl
names_snoc (s ∷ ts) t = ap (λ l. map (λ r. r.name) s.slots ++ l) (names_snoc ts t) ∙ sym (append_assoc (map (λ r. r.name) s.slots) (names_in ts) (names_in (t ∷ [])))

-- names of one parent more
pub names_next : (ts : List Tables) (i : ℕ) (t : Tables) → i < length ts → t ≡ get_or ts i t → names_in (take (i + 1) ts) ≡ names_in (take i ts) ++ map (λ s. s.name) t.slots
names_next ts i t h e = made_next names_in names_snoc ts i t h e ∙ ap (λ l. names_in (take i ts) ++ l) (nil_right (map (λ s. s.name) t.slots))

declared_both : (is js : List ItemTree) → declared_names (is ++ js) ≡ declared_names is ++ declared_names js
declared_both [] js = refl
declared_both (Inherit l p ∷ is) js = declared_both is js
declared_both (Proto l ms ty m ps ∷ is) js = ap (λ l. m ∷ l) (declared_both is js)
declared_both (Fun l ms ty m ps b ∷ is) js = ap (λ l. m ∷ l) (declared_both is js)
declared_both (Var l ms b ds ∷ is) js = declared_both is js

-- names of functions of one item more
pub declared_next : (is : List Item) (i : ℕ) (x : Item) → i < length is → x ≡ get_or is i x → declared_names (map item_of (take (i + 1) is)) ≡ declared_names (map item_of (take i is)) ++ declared_names (item_of x ∷ [])
declared_next = made_next (λ is. declared_names (map item_of is)) (λ is x. ap declared_names (map-append item_of is (x ∷ [])) ∙ declared_both (map item_of is) (item_of x ∷ []))

variable_names_both : (is js : List ItemTree) → variable_names (is ++ js) ≡ variable_names is ++ variable_names js
variable_names_both [] js = refl
variable_names_both (Inherit l p ∷ is) js = variable_names_both is js
variable_names_both (Proto l ms ty m ps ∷ is) js = variable_names_both is js
variable_names_both (Fun l ms ty m ps b ∷ is) js = variable_names_both is js
variable_names_both (Var l ms b ds ∷ is) js = ap (λ l. map (λ d. d.name) ds ++ l) (variable_names_both is js) ∙ sym (append_assoc (map (λ d. d.name) ds) (variable_names is) (variable_names js))

-- names of variables of one item more
pub variable_names_next : (is : List Item) (i : ℕ) (x : Item) → i < length is → x ≡ get_or is i x → variable_names (map item_of (take (i + 1) is)) ≡ variable_names (map item_of (take i is)) ++ variable_names (item_of x ∷ [])
variable_names_next = made_next (λ is. variable_names (map item_of is)) (λ is x. ap variable_names (map-append item_of is (x ∷ [])) ∙ variable_names_both (map item_of is) (item_of x ∷ []))

own_rows_both : (part : ℕ) (is js : List ItemTree) → own_rows part (is ++ js) ≡ own_rows part is ++ own_rows part js
own_rows_both part [] js = refl
own_rows_both part (Inherit l p ∷ is) js = own_rows_both part is js
own_rows_both part (Proto l ms ty m ps ∷ is) js = own_rows_both part is js
own_rows_both part (Fun l ms ty m ps b ∷ is) js = own_rows_both part is js
own_rows_both part (Var l ms b ds ∷ is) js = ap (λ l. map (var_row part ms b) ds ++ l) (own_rows_both part is js) ∙ sym (append_assoc (map (var_row part ms b) ds) (own_rows part is) (own_rows part js))

-- variables of one item more
pub own_rows_next : (part : ℕ) (is : List Item) (i : ℕ) (x : Item) → i < length is → x ≡ get_or is i x → own_rows part (map item_of (take (i + 1) is)) ≡ own_rows part (map item_of (take i is)) ++ own_rows part (item_of x ∷ [])
own_rows_next part = made_next (λ is. own_rows part (map item_of is)) (λ is x. ap (own_rows part) (map-append item_of is (x ∷ [])) ∙ own_rows_both part (map item_of is) (item_of x ∷ []))

-- names of declarators, one more
pub ones_next : (ds : List Declarator) (i : ℕ) (d : Declarator) → i < length ds → d ≡ get_or ds i d → map (λ e. e.name) (map declarator_of (take (i + 1) ds)) ≡ map (λ e. e.name) (map declarator_of (take i ds)) ++ d.name ∷ []
ones_next = made_next (λ ds. map (λ e. e.name) (map declarator_of ds)) (λ ds d. ap (map (λ e. e.name)) (map-append declarator_of ds (d ∷ [])) ∙ map-append (λ e. e.name) (map declarator_of ds) (declarator_of d ∷ []))

-- rows of declarators, one more
pub rows_next : (part number : ℕ) (base : Base) (ds : List Declarator) (i : ℕ) (d : Declarator) → i < length ds → d ≡ get_or ds i d
    → map (numbered_row part number base) (map declarator_of (take (i + 1) ds)) ≡ map (numbered_row part number base) (map declarator_of (take i ds)) ++ numbered_row part number base (declarator_of d) ∷ []
rows_next part number base = made_next (λ ds. map (numbered_row part number base) (map declarator_of ds)) (λ ds d. ap (map (numbered_row part number base)) (map-append declarator_of ds (d ∷ [])) ∙ map-append (numbered_row part number base) (map declarator_of ds) (declarator_of d ∷ []))

inherited_both : (ts us : List Tables) (f : ℕ) → inherited_rows (ts ++ us) f ≡ inherited_rows ts f ++ inherited_rows us (f + parts_of ts)
inherited_both [] us f = let e : f ≡ f + 0 = omega arith in ap (inherited_rows us) e
inherited_both (t ∷ ts) us f =
    let e : f + length t.parts + parts_of ts ≡ f + (length t.parts + parts_of ts) = omega arith in
    ap (λ l. map (row_moved f) t.vars ++ l) (inherited_both ts us (f + length t.parts) ∙ ap (λ n. inherited_rows ts (f + length t.parts) ++ inherited_rows us n) e)
    ∙ sym (append_assoc (map (row_moved f) t.vars) (inherited_rows ts (f + length t.parts)) (inherited_rows us (f + (length t.parts + parts_of ts))))

-- variables of one parent more
pub inherited_next : (ts : List Tables) (i : ℕ) (t : Tables) (n : ℕ) → i < length ts → t ≡ get_or ts i t → n ≡ parts_of (take i ts) → inherited_rows (take (i + 1) ts) 0 ≡ inherited_rows (take i ts) 0 ++ map (row_moved n) t.vars
inherited_next ts i t n h e k =
    let f : suc i ≡ i + 1 = omega arith in
    let g : 0 + parts_of (take i ts) ≡ n = omega (arith, k) in
    ap (λ n. inherited_rows (take n ts) 0) (sym f) ∙ ap (λ l. inherited_rows l 0) (take_one ts i t h e) ∙ inherited_both (take i ts) (t ∷ []) 0
    ∙ ap (λ n. inherited_rows (take i ts) 0 ++ inherited_rows (t ∷ []) n) g ∙ ap (λ l. inherited_rows (take i ts) 0 ++ l) (nil_right (map (row_moved n) t.vars))

-- the parents' variables, and then the file's own
pub variables_both : (is : List ItemTree) (ts : List Tables) (f : ℕ) → laid_variables is ts f ≡ inherited_rows ts f ++ own_rows (f + parts_of ts) is
variables_both is [] f = let e : f ≡ f + 0 = omega arith in ap (λ n. own_rows n is) e
variables_both is (t ∷ ts) f =
    let e : f + length t.parts + parts_of ts ≡ f + (length t.parts + parts_of ts) = omega arith in
    ap (λ l. map (row_moved f) t.vars ++ l) (variables_both is ts (f + length t.parts) ∙ ap (λ n. inherited_rows ts (f + length t.parts) ++ own_rows n is) e)
    ∙ sym (append_assoc (map (row_moved f) t.vars) (inherited_rows ts (f + length t.parts)) (own_rows (f + (length t.parts + parts_of ts)) is))

parts_before_snoc : (ts : List Tables) (t : Tables) → parts_before (ts ++ t ∷ []) ≡ parts_before ts ++ parts_before (t ∷ [])
parts_before_snoc [] t = refl
parts_before_snoc (s ∷ ts) t = ap (λ l. s.parts ++ l) (parts_before_snoc ts t) ∙ sym (append_assoc s.parts (parts_before ts) (parts_before (t ∷ [])))

-- parts of one parent more
pub parts_before_next : (ts : List Tables) (i : ℕ) (t : Tables) → i < length ts → t ≡ get_or ts i t → parts_before (take (i + 1) ts) ≡ parts_before (take i ts) ++ t.parts
parts_before_next ts i t h e = made_next parts_before parts_before_snoc ts i t h e ∙ ap (λ l. parts_before (take i ts) ++ l) (nil_right t.parts)

pub count_parts : (ts : List Tables) → length (parts_before ts) ≡ parts_of ts
count_parts [] = refl
count_parts (t ∷ ts) = let h : length (parts_before ts) ≡ parts_of ts = count_parts ts in length-append t.parts (parts_before ts) ∙ ap (λ n. length t.parts + n) h

-- names that are spelled in ASCII, some and others

pub spelled_first : (xs ys : List (List ℕ)) → AreSpelled (xs ++ ys) → AreSpelled xs
spelled_first [] ys h = tt
spelled_first (x ∷ xs) ys h = (h.0, spelled_first xs ys h.1)

pub spelled_second : (xs ys : List (List ℕ)) → AreSpelled (xs ++ ys) → AreSpelled ys
spelled_second [] ys h = h
spelled_second (x ∷ xs) ys h = spelled_second xs ys h.1

-- what holds anyway holds where a call went well
pub anyway : {E A : Type 0} (r : Result (Unit {0}) E) → A → OnOk r A
anyway (Ok u) h = h
anyway (Err e) h = tt
