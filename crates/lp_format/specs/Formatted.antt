-- Formatting by the pieces of a form.
use Rattle.std.specs.Prelude.{ℕ, ◌+◌, List, [], ◌∷◌, ◌++◌, Bool, nat_lt, length, if◌then◌else◌, Result, Ok, Err}
use Rattle.lp_values.specs.declared.id.ObjId.{ObjId}
use Rattle.lp_values.specs.declared.value.Value.{Value}
use Rattle.lp_format.specs.declared.fault.FormatFault.{FormatFault}
use Rattle.lp_format.specs.declared.fault.FormatFault.TheVariants.{BadFormat, TooLong}
use Rattle.lp_format.specs.declared.form.Directive.{Directive}
use Rattle.lp_format.specs.declared.form.Piece.{Piece}
use Rattle.lp_format.specs.declared.form.Piece.TheVariants.{Bad, Made, Plain}
use Rattle.lp_format.specs.Forms.{Placed}
use Rattle.lp_format.specs.Fill.{filled}
use Rattle.lp_format.specs.Conversions.{conversion_uses, count_uses, measured, written}
use Rattle.lp_values.specs.Limits.{max_code_points}

-- the first fault counts
abbrev pub after : {A B : Type 0} → Result A FormatFault → (A → Result B FormatFault) → Result B FormatFault
after (Ok x) more = more x
after (Err fault) more = Err fault

-- where a directive, whose arguments begin at place i, has its precision's argument, and its value
abbrev pub precision_place : Directive → ℕ → ℕ
precision_place d i = i + count_uses d.width

abbrev pub value_place : Directive → ℕ → ℕ
value_place d i = precision_place d i + count_uses d.precision

-- a directive's text: its width, its precision and its value take arguments from place i on, in this order
abbrev pub directive_text : (ObjId → Bool) → (Value → List ℕ) → List Value → ℕ → Directive → Result (List ℕ) FormatFault
directive_text live spell args i d =
    after (measured live args i d.width) (λ width. after (measured live args (precision_place d i) d.precision) (λ precision. after (written live spell args (value_place d i) precision d.conversion) (λ t. Ok (filled d width t))))

-- how many arguments a piece takes
abbrev pub uses : Piece → ℕ
uses (Plain c) = 0
uses (Made d) = count_uses d.width + count_uses d.precision + conversion_uses d.conversion
uses Bad = 0

-- a piece's text, where it stands at this place of the form
abbrev pub piece_text : (ObjId → Bool) → (Value → List ℕ) → List Value → ℕ → ℕ → Piece → Result (List ℕ) FormatFault
piece_text live spell args i at (Plain c) = Ok (c ∷ [])
piece_text live spell args i at (Made d) = directive_text live spell args i d
piece_text live spell args i at Bad = Err (BadFormat at)

-- a text of at most 100000 code points
abbrev pub short : List ℕ → Result (List ℕ) FormatFault
short t = if nat_lt max_code_points (length t) then Err TooLong else Ok t

-- the text of pieces, one after another, behind what there is so far: the first fault counts, and the length is looked at after each piece
abbrev pub formatted_after : (ObjId → Bool) → (Value → List ℕ) → List Value → List ℕ → ℕ → List Placed → Result (List ℕ) FormatFault
formatted_after live spell args done i [] = Ok done
formatted_after live spell args done i (p ∷ ps) = after (piece_text live spell args i p.at p.piece) (λ t. after (short (done ++ t)) (λ all. formatted_after live spell args all (i + uses p.piece) ps))

-- the text of all pieces
abbrev pub formatted : (ObjId → Bool) → (Value → List ℕ) → List Value → List Placed → Result (List ℕ) FormatFault
formatted live spell args ps = formatted_after live spell args [] 0 ps
