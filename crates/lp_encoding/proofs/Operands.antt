-- Each instruction and each label reads what it spells, and nothing else.
use Rattle.std.proofs.Common.{◌≡◌, ℕ, zero, suc, ◌+◌, ◌^◌, ◌<◌, List, [], ◌∷◌, ◌++◌, Some, refl, ap, subst, ◌∙◌, append_assoc, arith, slice_get}
use Rattle.std.specs.Int.{Width, w8, w32, byte_len, to_le_bytes}
use Rattle.lp_tree.specs.declared.expr.Edge.{Edge}
use Rattle.lp_tree.specs.declared.expr.Edge.TheVariants.{Front, Back}
use Rattle.lp_tree.specs.declared.operator.BinOp.{BinOp}
use Rattle.lp_tree.specs.declared.operator.BinOp.TheVariants.{Add, Sub, Mul, Div, Rem, And, Or, Xor, Shl, Shr, Lt, Le, Gt, Ge, Eq, Ne}
use Rattle.lp_tree.specs.declared.operator.Step.{Step as StepOp}
use Rattle.lp_tree.specs.declared.operator.Step.TheVariants.{Up, Down}
use Rattle.lp_tree.specs.declared.operator.UnOp.{UnOp}
use Rattle.lp_tree.specs.declared.operator.UnOp.TheVariants.{Not, Flip, Neg}
use Rattle.std.proofs.lemmas.Option.{slice_get_within}
use Rattle.lp_instr.specs.declared.efun.Efun.{Efun}
use Rattle.lp_instr.specs.EfunList.{efuns, efun_number, AreNumbered}
use Rattle.lp_instr.specs.declared.instr.EndKind.{EndKind}
use Rattle.lp_instr.specs.declared.instr.EndKind.TheVariants as ends
use Rattle.lp_instr.specs.declared.instr.Case.{Case}
use Rattle.lp_instr.specs.declared.instr.Case.TheVariants as cases
use Rattle.lp_instr.specs.declared.instr.Instr.{Instr}
use Rattle.lp_instr.specs.declared.instr.Instr.TheVariants.{PushInt, PushText, PushLocal, SetLocal, PushGlobal, SetGlobal, Pop, Dup, Dup2, Unary, Binary, Step, Rotate, Index, SetIndex, Range, MakeArray, MakeMap, Jump, JumpIfZero, JumpIfNotZero, KeepIfZero, KeepIfNotZero, LoopTurn, CallSlot, CallFixed, CallOther, CallEfun, CallSimul, Scan, CatchBegin, CatchEnd, Switch, EachBegin, EachNext, Return, ReturnZero}
use Rattle.lp_encoding.specs.Forms.{Form, ◌>>=◌, number_at, integer, nothing, pair}
use Rattle.lp_encoding.specs.Variants.{Reads, reads, no_variant, variant_at, variants}
use Rattle.lp_encoding.specs.Instructions.{place, unary, binary, step, edge, range, efun, instr_number, operands, OperandsFit, instr_readers, instr, label_number, label_fields, FieldsFit, label_readers, label, unary_number, binary_number, step_number, edge_number, range_number}
use Rattle.lp_encoding.proofs.Laws.{IsBytes, bind_some, some_is, Takes, Takes-then, IsForm, IsWide, wide8, wide32, number_takes, number_again, number_form, integer_form, nothing_form, pair_form, listed_form}

place_form : IsForm place
place_form = number_form w32 wide32

two_form : IsForm (pair place place)
two_form = pair_form place place place_form place_form

three_form : IsForm (pair place (pair place place))
three_form = pair_form place (pair place place) place_form two_form

-- ---- values of small enums

unary_only : (n : ℕ) (x : UnOp) → slice_get (Not ∷ Flip ∷ Neg ∷ []) n ≡ Some x → n ≡ unary_number x
unary_only zero x e = ap unary_number (some_is Not x e)
unary_only (suc zero) x e = ap unary_number (some_is Flip x e)
unary_only (suc (suc zero)) x e = ap unary_number (some_is Neg x e)
unary_only (suc (suc (suc n))) x e = absurd cc

unary_there : (x : UnOp) → (slice_get (Not ∷ Flip ∷ Neg ∷ []) (unary_number x) ≡ Some x) × (unary_number x < 256 ^ byte_len w32)
unary_there Not = (refl, omega arith)
unary_there Flip = (refl, omega arith)
unary_there Neg = (refl, omega arith)

pub unary_form : IsForm unary
unary_form = listed_form w32 unary_number (Not ∷ Flip ∷ Neg ∷ []) wide32 unary_only unary_there

binary_only : (n : ℕ) (x : BinOp) → slice_get (Add ∷ Sub ∷ Mul ∷ Div ∷ Rem ∷ And ∷ Or ∷ Xor ∷ Shl ∷ Shr ∷ Lt ∷ Le ∷ Gt ∷ Ge ∷ Eq ∷ Ne ∷ []) n ≡ Some x → n ≡ binary_number x
binary_only zero x e = ap binary_number (some_is Add x e)
binary_only (suc zero) x e = ap binary_number (some_is Sub x e)
binary_only (suc (suc zero)) x e = ap binary_number (some_is Mul x e)
binary_only (suc (suc (suc zero))) x e = ap binary_number (some_is Div x e)
binary_only (suc (suc (suc (suc zero)))) x e = ap binary_number (some_is Rem x e)
binary_only (suc (suc (suc (suc (suc zero))))) x e = ap binary_number (some_is And x e)
binary_only (suc (suc (suc (suc (suc (suc zero)))))) x e = ap binary_number (some_is Or x e)
binary_only (suc (suc (suc (suc (suc (suc (suc zero))))))) x e = ap binary_number (some_is Xor x e)
binary_only (suc (suc (suc (suc (suc (suc (suc (suc zero)))))))) x e = ap binary_number (some_is Shl x e)
binary_only (suc (suc (suc (suc (suc (suc (suc (suc (suc zero))))))))) x e = ap binary_number (some_is Shr x e)
binary_only (suc (suc (suc (suc (suc (suc (suc (suc (suc (suc zero)))))))))) x e = ap binary_number (some_is Lt x e)
binary_only (suc (suc (suc (suc (suc (suc (suc (suc (suc (suc (suc zero))))))))))) x e = ap binary_number (some_is Le x e)
binary_only (suc (suc (suc (suc (suc (suc (suc (suc (suc (suc (suc (suc zero)))))))))))) x e = ap binary_number (some_is Gt x e)
binary_only (suc (suc (suc (suc (suc (suc (suc (suc (suc (suc (suc (suc (suc zero))))))))))))) x e = ap binary_number (some_is Ge x e)
binary_only (suc (suc (suc (suc (suc (suc (suc (suc (suc (suc (suc (suc (suc (suc zero)))))))))))))) x e = ap binary_number (some_is Eq x e)
binary_only (suc (suc (suc (suc (suc (suc (suc (suc (suc (suc (suc (suc (suc (suc (suc zero))))))))))))))) x e = ap binary_number (some_is Ne x e)
binary_only (suc (suc (suc (suc (suc (suc (suc (suc (suc (suc (suc (suc (suc (suc (suc (suc n)))))))))))))))) x e = absurd cc

binary_there : (x : BinOp) → (slice_get (Add ∷ Sub ∷ Mul ∷ Div ∷ Rem ∷ And ∷ Or ∷ Xor ∷ Shl ∷ Shr ∷ Lt ∷ Le ∷ Gt ∷ Ge ∷ Eq ∷ Ne ∷ []) (binary_number x) ≡ Some x) × (binary_number x < 256 ^ byte_len w32)
binary_there Add = (refl, omega arith)
binary_there Sub = (refl, omega arith)
binary_there Mul = (refl, omega arith)
binary_there Div = (refl, omega arith)
binary_there Rem = (refl, omega arith)
binary_there And = (refl, omega arith)
binary_there Or = (refl, omega arith)
binary_there Xor = (refl, omega arith)
binary_there Shl = (refl, omega arith)
binary_there Shr = (refl, omega arith)
binary_there Lt = (refl, omega arith)
binary_there Le = (refl, omega arith)
binary_there Gt = (refl, omega arith)
binary_there Ge = (refl, omega arith)
binary_there Eq = (refl, omega arith)
binary_there Ne = (refl, omega arith)

pub binary_form : IsForm binary
binary_form = listed_form w32 binary_number (Add ∷ Sub ∷ Mul ∷ Div ∷ Rem ∷ And ∷ Or ∷ Xor ∷ Shl ∷ Shr ∷ Lt ∷ Le ∷ Gt ∷ Ge ∷ Eq ∷ Ne ∷ []) wide32 binary_only binary_there

step_only : (n : ℕ) (x : StepOp) → slice_get (Down ∷ Up ∷ []) n ≡ Some x → n ≡ step_number x
step_only zero x e = ap step_number (some_is Down x e)
step_only (suc zero) x e = ap step_number (some_is Up x e)
step_only (suc (suc n)) x e = absurd cc

step_there : (x : StepOp) → (slice_get (Down ∷ Up ∷ []) (step_number x) ≡ Some x) × (step_number x < 256 ^ byte_len w32)
step_there Down = (refl, omega arith)
step_there Up = (refl, omega arith)

pub step_form : IsForm step
step_form = listed_form w32 step_number (Down ∷ Up ∷ []) wide32 step_only step_there

edge_only : (n : ℕ) (x : Edge) → slice_get (Front ∷ Back ∷ []) n ≡ Some x → n ≡ edge_number x
edge_only zero x e = ap edge_number (some_is Front x e)
edge_only (suc zero) x e = ap edge_number (some_is Back x e)
edge_only (suc (suc n)) x e = absurd cc

edge_there : (x : Edge) → (slice_get (Front ∷ Back ∷ []) (edge_number x) ≡ Some x) × (edge_number x < 256 ^ byte_len w32)
edge_there Front = (refl, omega arith)
edge_there Back = (refl, omega arith)

pub edge_form : IsForm edge
edge_form = listed_form w32 edge_number (Front ∷ Back ∷ []) wide32 edge_only edge_there

range_only : (n : ℕ) (x : (EndKind × EndKind)) → slice_get ((ends.Start, ends.Start) ∷ (ends.Start, ends.Back) ∷ (ends.Start, ends.Open) ∷ (ends.Back, ends.Start) ∷ (ends.Back, ends.Back) ∷ (ends.Back, ends.Open) ∷ (ends.Open, ends.Start) ∷ (ends.Open, ends.Back) ∷ (ends.Open, ends.Open) ∷ []) n ≡ Some x → n ≡ range_number x
range_only zero x e = ap range_number (some_is (ends.Start, ends.Start) x e)
range_only (suc zero) x e = ap range_number (some_is (ends.Start, ends.Back) x e)
range_only (suc (suc zero)) x e = ap range_number (some_is (ends.Start, ends.Open) x e)
range_only (suc (suc (suc zero))) x e = ap range_number (some_is (ends.Back, ends.Start) x e)
range_only (suc (suc (suc (suc zero)))) x e = ap range_number (some_is (ends.Back, ends.Back) x e)
range_only (suc (suc (suc (suc (suc zero))))) x e = ap range_number (some_is (ends.Back, ends.Open) x e)
range_only (suc (suc (suc (suc (suc (suc zero)))))) x e = ap range_number (some_is (ends.Open, ends.Start) x e)
range_only (suc (suc (suc (suc (suc (suc (suc zero))))))) x e = ap range_number (some_is (ends.Open, ends.Back) x e)
range_only (suc (suc (suc (suc (suc (suc (suc (suc zero)))))))) x e = ap range_number (some_is (ends.Open, ends.Open) x e)
range_only (suc (suc (suc (suc (suc (suc (suc (suc (suc n))))))))) x e = absurd cc

range_there : (x : (EndKind × EndKind)) → (slice_get ((ends.Start, ends.Start) ∷ (ends.Start, ends.Back) ∷ (ends.Start, ends.Open) ∷ (ends.Back, ends.Start) ∷ (ends.Back, ends.Back) ∷ (ends.Back, ends.Open) ∷ (ends.Open, ends.Start) ∷ (ends.Open, ends.Back) ∷ (ends.Open, ends.Open) ∷ []) (range_number x) ≡ Some x) × (range_number x < 256 ^ byte_len w32)
range_there (ends.Start, ends.Start) = (refl, omega arith)
range_there (ends.Start, ends.Back) = (refl, omega arith)
range_there (ends.Start, ends.Open) = (refl, omega arith)
range_there (ends.Back, ends.Start) = (refl, omega arith)
range_there (ends.Back, ends.Back) = (refl, omega arith)
range_there (ends.Back, ends.Open) = (refl, omega arith)
range_there (ends.Open, ends.Start) = (refl, omega arith)
range_there (ends.Open, ends.Back) = (refl, omega arith)
range_there (ends.Open, ends.Open) = (refl, omega arith)

pub range_form : IsForm range
range_form = listed_form w32 range_number ((ends.Start, ends.Start) ∷ (ends.Start, ends.Back) ∷ (ends.Start, ends.Open) ∷ (ends.Back, ends.Start) ∷ (ends.Back, ends.Back) ∷ (ends.Back, ends.Open) ∷ (ends.Open, ends.Start) ∷ (ends.Open, ends.Back) ∷ (ends.Open, ends.Open) ∷ []) wide32 range_only range_there

efun_there : AreNumbered → (e : Efun) → (slice_get efuns (efun_number e) ≡ Some e) × (efun_number e < 256 ^ byte_len w32)
efun_there n e = let few = slice_get_within efuns (efun_number e) e (n.there e) in (n.there e, omega (arith, few))

efun_form : AreNumbered → IsForm efun
efun_form n = listed_form w32 efun_number efuns wide32 n.only (efun_there n)

efun_two_form : AreNumbered → IsForm (pair efun place)
efun_two_form n = pair_form efun place (efun_form n) place_form

-- ---- variants, with the number of each value's variant, its fields, and which of these fit

-- what is read behind the number n spells the fields of a value of that variant
abbrev IsGood : {A : Type 0} → (A → ℕ) → (A → List ℕ) → (A → Type 0) → ℕ → Reads A → Type 0
IsGood {A} variant fields FieldsFit n r = (bytes : List ℕ) (x : A) (rest : List ℕ) → IsBytes bytes → r bytes ≡ Some (x, rest) → Takes bytes (fields x) rest × FieldsFit x × (variant x ≡ n)

abbrev AreGood : {A : Type 0} → (A → ℕ) → (A → List ℕ) → (A → Type 0) → ℕ → List (Reads A) → Type 0
AreGood variant fields FieldsFit n [] = Unit {0}
AreGood variant fields FieldsFit n (r ∷ rs) = IsGood variant fields FieldsFit n r × AreGood variant fields FieldsFit (suc n) rs

good_at : {A : Type 0} (variant : A → ℕ) (fields : A → List ℕ) (FieldsFit : A → Type 0) (k : ℕ) (rs : List (Reads A)) (i : ℕ) (r : Reads A) → AreGood variant fields FieldsFit k rs → slice_get rs i ≡ Some r → IsGood variant fields FieldsFit (k + i) r
good_at variant fields FieldsFit k [] i r all e = absurd cc
good_at variant fields FieldsFit k (s ∷ rs) zero r all e = let at : k ≡ k + 0 = omega arith in subst (λ n. IsGood variant fields FieldsFit n r) at (subst (IsGood variant fields FieldsFit k) (some_is s r e) all.0)
good_at variant fields FieldsFit k (s ∷ rs) (suc i) r all e = let at : suc k + i ≡ k + suc i = omega arith in subst (λ n. IsGood variant fields FieldsFit n r) at (good_at variant fields FieldsFit (suc k) rs i r all.1 e)

no_good : {A : Type 0} (variant : A → ℕ) (fields : A → List ℕ) (FieldsFit : A → Type 0) (n : ℕ) → IsGood variant fields FieldsFit n no_variant
no_good variant fields FieldsFit n bytes x rest fits e = absurd cc

-- a variant with fields of a form
reads_good : {A B : Type 0} (variant : A → ℕ) (fields : A → List ℕ) (FieldsFit : A → Type 0) (n : ℕ) (f : Form B) (make : B → A) → IsForm f → ((x : B) → variant (make x) ≡ n) → ((x : B) → f.spelled x ≡ fields (make x)) → ((x : B) → f.Fits x → FieldsFit (make x))
    → IsGood variant fields FieldsFit n (reads f make)
reads_good {A} {B} variant fields FieldsFit n f make hf number_is fields_are fit bytes x rest fits e =
    let a = bind_some (f.read bytes) (λ y. Some (make y.0, y.1)) (x, rest) e in
    let t = hf.takes bytes a.0.0 a.0.1 fits a.1 in
    subst (λ (y : A × List ℕ). Takes bytes (fields y.0) y.1 × FieldsFit y.0 × (variant y.0 ≡ n)) (some_is (make a.0.0, a.0.1) (x, rest) a.2)
    (subst (λ (s : List ℕ). Takes bytes s a.0.1) (fields_are a.0.0) t.0, fit a.0.0 t.1, number_is a.0.0)

variants_take : {A : Type 0} (w : Width) → IsWide w → (variant : A → ℕ) (fields : A → List ℕ) (FieldsFit : A → Type 0) (readers : List (Reads A)) → AreGood variant fields FieldsFit 0 readers
    → (bytes : List ℕ) (x : A) (rest : List ℕ) → IsBytes bytes → (variants w variant fields FieldsFit readers).read bytes ≡ Some (x, rest) → Takes bytes (to_le_bytes w (variant x) ++ fields x) rest × FieldsFit x
variants_take w wide variant fields FieldsFit readers all bytes x rest fits e =
    let a = bind_some (number_at w bytes) (λ n. variant_at readers n.0 n.1) (x, rest) e in
    let b = bind_some (slice_get readers a.0.0) (λ r. r a.0.1) (x, rest) a.2 in
    let t = number_takes w wide bytes a.0.0 a.0.1 fits a.1 in
    let u = good_at variant fields FieldsFit 0 readers a.0.0 b.0 all b.1 a.0.1 x rest t.0.rest_fits b.2 in
    let at : a.0.0 ≡ variant x = omega (arith, u.2) in
    (Takes-then bytes (to_le_bytes w (variant x)) a.0.1 (fields x) rest (subst (λ (n : ℕ). Takes bytes (to_le_bytes w n) a.0.1) at t.0) u.0, u.1)

variant_again : {A B : Type 0} (w : Width) → IsWide w → (readers : List (Reads A)) (n : ℕ) (f : Form B) → IsForm f → (make : B → A) (x : B) (rest : List ℕ) → n < 256 ^ byte_len w → slice_get readers n ≡ Some (reads f make) → f.Fits x
    → (number_at w ((to_le_bytes w n ++ f.spelled x) ++ rest) >>= λ m. variant_at readers m.0 m.1) ≡ Some (make x, rest)
variant_again w wide readers n f hf make x rest lt at fits =
    ap (λ (bytes : List ℕ). number_at w bytes >>= λ m. variant_at readers m.0 m.1) (append_assoc (to_le_bytes w n) (f.spelled x) rest) ∙ rw (number_again w wide n (f.spelled x ++ rest) lt, at, hf.again x rest fits) refl

-- ---- labels

ints_form : IsForm (pair integer (pair integer place))
ints_form = pair_form integer (pair integer place) integer_form (pair_form integer place integer_form place_form)

label_good : AreGood label_number label_fields FieldsFit 0 label_readers
label_good = (
  reads_good label_number label_fields FieldsFit 0 (pair integer (pair integer place)) (λ x. cases.Ints x.0 x.1.0 x.1.1) ints_form (λ x. refl) (λ x. refl) (λ x f. f),
  (reads_good label_number label_fields FieldsFit 1 (pair place place) (λ x. cases.Text x.0 x.1) two_form (λ x. refl) (λ x. refl) (λ x f. f), tt),
)

label_again : (c : Case) (rest : List ℕ) → label.Fits c → label.read (label.spelled c ++ rest) ≡ Some (c, rest)
label_again (cases.Ints a b to) rest fits = variant_again w8 wide8 label_readers 0 (pair integer (pair integer place)) ints_form (λ x. cases.Ints x.0 x.1.0 x.1.1) (a, (b, to)) rest (omega arith) refl fits
label_again (cases.Text k to) rest fits = variant_again w8 wide8 label_readers 1 (pair place place) two_form (λ x. cases.Text x.0 x.1) (k, to) rest (omega arith) refl fits

pub label_form : IsForm label
label_form = record { takes = variants_take w8 wide8 label_number label_fields FieldsFit label_readers label_good; again = label_again }

-- ---- instructions

good : {B : Type 0} (n : ℕ) (f : Form B) (make : B → Instr) → IsForm f → ((x : B) → instr_number (make x) ≡ n) → ((x : B) → f.spelled x ≡ operands (make x)) → ((x : B) → f.Fits x → OperandsFit (make x)) → IsGood instr_number operands OperandsFit n (reads f make)
good n f make hf number_is fields_are fit = reads_good instr_number operands OperandsFit n f make hf number_is fields_are fit

instr_good : AreNumbered → AreGood instr_number operands OperandsFit 0 instr_readers
instr_good h = (
  no_good instr_number operands OperandsFit 0,
  (
    good 1 integer PushInt integer_form (λ x. refl) (λ x. refl) (λ x f. f),
    (
      good 2 place PushText place_form (λ x. refl) (λ x. refl) (λ x f. f),
      (
        good 3 place PushLocal place_form (λ x. refl) (λ x. refl) (λ x f. f),
        (
          good 4 place SetLocal place_form (λ x. refl) (λ x. refl) (λ x f. f),
          (
            good 5 place PushGlobal place_form (λ x. refl) (λ x. refl) (λ x f. f),
            (
              good 6 place SetGlobal place_form (λ x. refl) (λ x. refl) (λ x f. f),
              (
                good 7 nothing (λ _. Pop) nothing_form (λ x. refl) (λ x. refl) (λ x f. f),
                (
                  good 8 nothing (λ _. Dup) nothing_form (λ x. refl) (λ x. refl) (λ x f. f),
                  (
                    good 9 nothing (λ _. Dup2) nothing_form (λ x. refl) (λ x. refl) (λ x f. f),
                    (
                      good 10 unary Unary unary_form (λ x. refl) (λ x. refl) (λ x f. f),
                      (
                        good 11 binary Binary binary_form (λ x. refl) (λ x. refl) (λ x f. f),
                        (
                          good 12 step Step step_form (λ x. refl) (λ x. refl) (λ x f. f),
                          (
                            good 13 place Rotate place_form (λ x. refl) (λ x. refl) (λ x f. f),
                            (
                              good 14 edge Index edge_form (λ x. refl) (λ x. refl) (λ x f. f),
                              (
                                good 15 edge SetIndex edge_form (λ x. refl) (λ x. refl) (λ x f. f),
                                (
                                  good 16 range (λ x. Range x.0 x.1) range_form (λ x. refl) (λ x. refl) (λ x f. f),
                                  (
                                    good 17 place MakeArray place_form (λ x. refl) (λ x. refl) (λ x f. f),
                                    (
                                      good 18 place MakeMap place_form (λ x. refl) (λ x. refl) (λ x f. f),
                                      (
                                        good 19 place Jump place_form (λ x. refl) (λ x. refl) (λ x f. f),
                                        (
                                          good 20 place JumpIfZero place_form (λ x. refl) (λ x. refl) (λ x f. f),
                                          (
                                            good 21 place JumpIfNotZero place_form (λ x. refl) (λ x. refl) (λ x f. f),
                                            (
                                              good 22 place KeepIfZero place_form (λ x. refl) (λ x. refl) (λ x f. f),
                                              (
                                                good 23 place KeepIfNotZero place_form (λ x. refl) (λ x. refl) (λ x f. f),
                                                (
                                                  good 24 nothing (λ _. LoopTurn) nothing_form (λ x. refl) (λ x. refl) (λ x f. f),
                                                  (
                                                    good 25 (pair place place) (λ x. CallSlot x.0 x.1) two_form (λ x. refl) (λ x. refl) (λ x f. f),
                                                    (
                                                      good 26 (pair place (pair place place)) (λ x. CallFixed x.0 x.1.0 x.1.1) three_form (λ x. refl) (λ x. refl) (λ x f. f),
                                                      (
                                                        good 27 place CallOther place_form (λ x. refl) (λ x. refl) (λ x f. f),
                                                        (
                                                          good 28 (pair efun place) (λ x. CallEfun x.0 x.1) (efun_two_form h) (λ x. refl) (λ x. refl) (λ x f. f),
                                                          (
                                                            good 29 (pair place place) (λ x. CallSimul x.0 x.1) two_form (λ x. refl) (λ x. refl) (λ x f. f),
                                                            (
                                                              good 30 place Scan place_form (λ x. refl) (λ x. refl) (λ x f. f),
                                                              (
                                                                good 31 place CatchBegin place_form (λ x. refl) (λ x. refl) (λ x f. f),
                                                                (
                                                                  good 32 nothing (λ _. CatchEnd) nothing_form (λ x. refl) (λ x. refl) (λ x f. f),
                                                                  (
                                                                    good 33 place Switch place_form (λ x. refl) (λ x. refl) (λ x f. f),
                                                                    (
                                                                      good 34 place EachBegin place_form (λ x. refl) (λ x. refl) (λ x f. f),
                                                                      (
                                                                        good 35 (pair place place) (λ x. EachNext x.0 x.1) two_form (λ x. refl) (λ x. refl) (λ x f. f),
                                                                        (
                                                                          good 36 nothing (λ _. Return) nothing_form (λ x. refl) (λ x. refl) (λ x f. f),
                                                                          (good 37 nothing (λ _. ReturnZero) nothing_form (λ x. refl) (λ x. refl) (λ x f. f), tt),
                                                                        ),
                                                                      ),
                                                                    ),
                                                                  ),
                                                                ),
                                                              ),
                                                            ),
                                                          ),
                                                        ),
                                                      ),
                                                    ),
                                                  ),
                                                ),
                                              ),
                                            ),
                                          ),
                                        ),
                                      ),
                                    ),
                                  ),
                                ),
                              ),
                            ),
                          ),
                        ),
                      ),
                    ),
                  ),
                ),
              ),
            ),
          ),
        ),
      ),
    ),
  ),
)

instr_again : AreNumbered → (i : Instr) (rest : List ℕ) → instr.Fits i → instr.read (instr.spelled i ++ rest) ≡ Some (i, rest)
instr_again h (PushInt n) rest fits = variant_again w32 wide32 instr_readers 1 integer integer_form PushInt n rest (omega arith) refl fits
instr_again h (PushText k) rest fits = variant_again w32 wide32 instr_readers 2 place place_form PushText k rest (omega arith) refl fits
instr_again h (PushLocal k) rest fits = variant_again w32 wide32 instr_readers 3 place place_form PushLocal k rest (omega arith) refl fits
instr_again h (SetLocal k) rest fits = variant_again w32 wide32 instr_readers 4 place place_form SetLocal k rest (omega arith) refl fits
instr_again h (PushGlobal k) rest fits = variant_again w32 wide32 instr_readers 5 place place_form PushGlobal k rest (omega arith) refl fits
instr_again h (SetGlobal k) rest fits = variant_again w32 wide32 instr_readers 6 place place_form SetGlobal k rest (omega arith) refl fits
instr_again h Pop rest fits = variant_again w32 wide32 instr_readers 7 nothing nothing_form (λ _. Pop) tt rest (omega arith) refl fits
instr_again h Dup rest fits = variant_again w32 wide32 instr_readers 8 nothing nothing_form (λ _. Dup) tt rest (omega arith) refl fits
instr_again h Dup2 rest fits = variant_again w32 wide32 instr_readers 9 nothing nothing_form (λ _. Dup2) tt rest (omega arith) refl fits
instr_again h (Unary op) rest fits = variant_again w32 wide32 instr_readers 10 unary unary_form Unary op rest (omega arith) refl fits
instr_again h (Binary op) rest fits = variant_again w32 wide32 instr_readers 11 binary binary_form Binary op rest (omega arith) refl fits
instr_again h (Step s) rest fits = variant_again w32 wide32 instr_readers 12 step step_form Step s rest (omega arith) refl fits
instr_again h (Rotate n) rest fits = variant_again w32 wide32 instr_readers 13 place place_form Rotate n rest (omega arith) refl fits
instr_again h (Index e) rest fits = variant_again w32 wide32 instr_readers 14 edge edge_form Index e rest (omega arith) refl fits
instr_again h (SetIndex e) rest fits = variant_again w32 wide32 instr_readers 15 edge edge_form SetIndex e rest (omega arith) refl fits
instr_again h (Range a b) rest fits = variant_again w32 wide32 instr_readers 16 range range_form (λ x. Range x.0 x.1) (a, b) rest (omega arith) refl fits
instr_again h (MakeArray n) rest fits = variant_again w32 wide32 instr_readers 17 place place_form MakeArray n rest (omega arith) refl fits
instr_again h (MakeMap n) rest fits = variant_again w32 wide32 instr_readers 18 place place_form MakeMap n rest (omega arith) refl fits
instr_again h (Jump to) rest fits = variant_again w32 wide32 instr_readers 19 place place_form Jump to rest (omega arith) refl fits
instr_again h (JumpIfZero to) rest fits = variant_again w32 wide32 instr_readers 20 place place_form JumpIfZero to rest (omega arith) refl fits
instr_again h (JumpIfNotZero to) rest fits = variant_again w32 wide32 instr_readers 21 place place_form JumpIfNotZero to rest (omega arith) refl fits
instr_again h (KeepIfZero to) rest fits = variant_again w32 wide32 instr_readers 22 place place_form KeepIfZero to rest (omega arith) refl fits
instr_again h (KeepIfNotZero to) rest fits = variant_again w32 wide32 instr_readers 23 place place_form KeepIfNotZero to rest (omega arith) refl fits
instr_again h LoopTurn rest fits = variant_again w32 wide32 instr_readers 24 nothing nothing_form (λ _. LoopTurn) tt rest (omega arith) refl fits
instr_again h (CallSlot k n) rest fits = variant_again w32 wide32 instr_readers 25 (pair place place) two_form (λ x. CallSlot x.0 x.1) (k, n) rest (omega arith) refl fits
instr_again h (CallFixed p j n) rest fits = variant_again w32 wide32 instr_readers 26 (pair place (pair place place)) three_form (λ x. CallFixed x.0 x.1.0 x.1.1) (p, (j, n)) rest (omega arith) refl fits
instr_again h (CallOther n) rest fits = variant_again w32 wide32 instr_readers 27 place place_form CallOther n rest (omega arith) refl fits
instr_again h (CallEfun e n) rest fits = variant_again w32 wide32 instr_readers 28 (pair efun place) (efun_two_form h) (λ x. CallEfun x.0 x.1) (e, n) rest (omega arith) refl fits
instr_again h (CallSimul k n) rest fits = variant_again w32 wide32 instr_readers 29 (pair place place) two_form (λ x. CallSimul x.0 x.1) (k, n) rest (omega arith) refl fits
instr_again h (Scan n) rest fits = variant_again w32 wide32 instr_readers 30 place place_form Scan n rest (omega arith) refl fits
instr_again h (CatchBegin to) rest fits = variant_again w32 wide32 instr_readers 31 place place_form CatchBegin to rest (omega arith) refl fits
instr_again h CatchEnd rest fits = variant_again w32 wide32 instr_readers 32 nothing nothing_form (λ _. CatchEnd) tt rest (omega arith) refl fits
instr_again h (Switch k) rest fits = variant_again w32 wide32 instr_readers 33 place place_form Switch k rest (omega arith) refl fits
instr_again h (EachBegin n) rest fits = variant_again w32 wide32 instr_readers 34 place place_form EachBegin n rest (omega arith) refl fits
instr_again h (EachNext to n) rest fits = variant_again w32 wide32 instr_readers 35 (pair place place) two_form (λ x. EachNext x.0 x.1) (to, n) rest (omega arith) refl fits
instr_again h Return rest fits = variant_again w32 wide32 instr_readers 36 nothing nothing_form (λ _. Return) tt rest (omega arith) refl fits
instr_again h ReturnZero rest fits = variant_again w32 wide32 instr_readers 37 nothing nothing_form (λ _. ReturnZero) tt rest (omega arith) refl fits

pub instr_form : AreNumbered → IsForm instr
instr_form h = record { takes = variants_take w32 wide32 instr_number operands OperandsFit instr_readers (instr_good h); again = instr_again h }
