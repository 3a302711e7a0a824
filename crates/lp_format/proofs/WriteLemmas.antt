-- Digits, and filling what was appended.
use Rattle.std.proofs.Common.{◌≡◌, ◌∙◌, ◌≤◌, ◌<◌, ◌+◌, ◌/◌, ◌%◌, ◌==◌, ℕ, zero, suc, List, [], ◌∷◌, ◌++◌, Bool, true, false, Option, Result, Ok, Err, cond, drop, take, length, mod-lt, replicate, ap, subst, sym, refl, append_assoc, arith}
use Rattle.std.specs.Fmt.{digit_glyph, digits, digits_onto}
use Rattle.std.specs.Str.{IsAscii}
use Rattle.std.proofs.Math.Seq.{take-add, take-append_seam, drop-append_seam}
use Rattle.std.proofs.lemmas.List.{drop-drop, length-append, take-append-drop}
use Rattle.lp_format.specs.declared.fault.FormatFault.{FormatFault}
use Rattle.lp_format.specs.declared.form.Directive.{Directive}
use Rattle.lp_format.specs.Answers.{Appends, Becomes}
use Rattle.lp_format.specs.Fill.{fill_place, filled, filler, missing, put_in}
use Rattle.lp_format.specs.Conversions.{count_uses, digits_in, measured, written}
use Rattle.lp_format.specs.declared.form.Base.{Base}
use Rattle.lp_format.specs.declared.form.Base.TheVariants.{Octal, SmallHex, LargeHex}
use Rattle.lp_format.specs.Formatted.{after, directive_text}
use Rattle.lp_values.specs.declared.id.ObjId.{ObjId}
use Rattle.lp_values.specs.declared.value.Value.{Value}
use Rattle.lp_format.proofs.AnswerLemmas.{longer}

glyph_ascii : (upper : Bool) (d : ℕ) → d < 36 → digit_glyph upper d < 128
glyph_ascii true d lt = search arith
glyph_ascii false d lt = search arith

one_more : (c : ℕ) (cs : List ℕ) → c < 128 → IsAscii cs → IsAscii (c ∷ cs)
one_more c cs lt h zero = omega (arith, lt)
one_more c cs lt h (suc i) = h i

either_ascii : (b : Bool) (xs ys : List ℕ) → IsAscii xs → IsAscii ys → IsAscii (cond b xs ys)
either_ascii true xs ys h k = h
either_ascii false xs ys h k = k

onto_ascii : (k base n : ℕ) (upper : Bool) (acc : List ℕ) → 0 < base → base ≤ 36 → IsAscii acc → IsAscii (digits_onto k base upper n acc)
onto_ascii zero base n upper acc some few h = h
onto_ascii (suc k) base n upper acc some few h =
    let lt : n % base < base = mod-lt n some in
    let more : IsAscii (digit_glyph upper (n % base) ∷ acc) = one_more (digit_glyph upper (n % base)) acc (glyph_ascii upper (n % base) (omega (arith, lt, few))) h in
    either_ascii (n / base == 0) (digit_glyph upper (n % base) ∷ acc) (digits_onto k base upper (n / base) (digit_glyph upper (n % base) ∷ acc)) more (onto_ascii k base (n / base) upper (digit_glyph upper (n % base) ∷ acc) some few more)

-- the digits of a number in a base up to 36 are ASCII
digits_ascii : (base n : ℕ) (upper : Bool) → 0 < base → base ≤ 36 → IsAscii (digits base upper n)
unfolding digits
digits_ascii base n upper some few = onto_ascii 64 base n upper [] some few (λ i. omega arith)

pub digits_in_ascii : (base : Base) (n : ℕ) → IsAscii (digits_in base n)
digits_in_ascii Octal n = digits_ascii 8 n false (omega arith) (omega arith)
digits_in_ascii SmallHex n = digits_ascii 16 n false (omega arith) (omega arith)
digits_in_ascii LargeHex n = digits_ascii 16 n true (omega arith) (omega arith)

-- what is put in behind the first code points is put in into the rest
pub put_in_behind : (start place n c : ℕ) (s : List ℕ) → put_in (start + place) n c s ≡ take start s ++ put_in place n c (drop start s)
put_in_behind start place n c s =
    let t = take place (drop start s) in
    let d : drop (start + place) s ≡ drop place (drop start s) = sym (drop-drop place start s) in
    ap (λ (l : List ℕ). l ++ replicate n c ++ drop (start + place) s) (take-add start place s) ∙ ap (λ (l : List ℕ). take start s ++ t ++ replicate n c ++ l) d ∙ ap (λ (l : List ℕ). l ++ drop place (drop start s)) (append_assoc (take start s) t (replicate n c)) ∙ append_assoc (take start s) (t ++ replicate n c) (drop place (drop start s))

-- the fill of what was appended
pub fill_is : (start place n c : ℕ) (s : List ℕ) (d : Directive) (width : Option ℕ) → place ≡ fill_place d (drop start s) → n ≡ missing width (drop start s) → c ≡ filler d → put_in (start + place) n c s ≡ take start s ++ filled d width (drop start s)
fill_is start place n c s d width e f g =
    put_in_behind start place n c s ∙ ap (λ (x : ℕ). take start s ++ put_in x n c (drop start s)) e ∙ ap (λ (x : ℕ). take start s ++ put_in (fill_place d (drop start s)) x c (drop start s)) f ∙ ap (λ (x : ℕ). take start s ++ put_in (fill_place d (drop start s)) (missing width (drop start s)) x (drop start s)) g

-- a directive whose numbers are there
pub directive_is : (live : ObjId → Bool) (spell : Value → List ℕ) (args : List Value) (i j k : ℕ) (d : Directive) (width precision : Option ℕ) → Ok width ≡ measured live args i d.width → j ≡ i + count_uses d.width → Ok precision ≡ measured live args j d.precision → k ≡ j + count_uses d.precision → directive_text live spell args i d ≡ after (written live spell args k precision d.conversion) (λ t. Ok (filled d width t))
directive_is live spell args i j k d width precision e f g h = rw (sym e, sym f, sym g, sym h) refl

-- what was appended is filled
pub filled_on : (w : Result (List ℕ) FormatFault) (r : Result (Unit {0}) FormatFault) (old mid new : List ℕ) (d : Directive) (width : Option ℕ) → Appends (Ok tt) old mid w → Becomes r new (take (length old) mid ++ filled d width (drop (length old) mid)) → Appends r old new (after w (λ t. Ok (filled d width t)))
filled_on (Ok t) r old mid new d width a b =
    let e : mid ≡ old ++ t = a.0 in
    let f : take (length old) mid ≡ old = ap (take (length old)) e ∙ take-append_seam old t in
    let g : drop (length old) mid ≡ t = ap (drop (length old)) e ∙ drop-append_seam old t in
    subst (λ (l : List ℕ). Becomes r new (l ++ filled d width t)) f (subst (λ (l : List ℕ). Becomes r new (take (length old) mid ++ filled d width l)) g b)
filled_on (Err fault) r old mid new d width a b = absurd a

length_put_in : (place n c : ℕ) (t : List ℕ) → length t ≤ length (put_in place n c t)
length_put_in place n c t =
    let whole : length (take place t) + length (drop place t) ≡ length t = sym (length-append (take place t) (drop place t)) ∙ ap length (take-append-drop place t) in
    omega (arith, whole, length-append (take place t ++ replicate n c) (drop place t), length-append (take place t) (replicate n c))

-- a text that is too long is too long when it is filled
pub stops_filled : (w : Result (List ℕ) FormatFault) (fault : FormatFault) (old new : List ℕ) (d : Directive) (width : Option ℕ) → Appends (Err fault) old new w → Appends (Err fault) old new (after w (λ t. Ok (filled d width t)))
stops_filled (Ok t) fault old new d width a = longer fault new new (old ++ t) (old ++ filled d width t) (omega (arith, length-append old t, length-append old (filled d width t), length_put_in (fill_place d t) (missing width t) (filler d) t)) a
stops_filled (Err wanted) fault old new d width a = a
