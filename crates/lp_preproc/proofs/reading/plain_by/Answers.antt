use Rattle.std.proofs.Common.{◌≡◌, false, sym, ap, ◌∙◌, subst}
use Rattle.lp_preproc.specs.Tables.{macros_in}
use Rattle.lp_preproc.specs.Steps.{Reads, state_of}
use Rattle.lp_preproc.specs.Uses.{is_defined_word, read_name, read_plain}
use Rattle.lp_preproc.proofs.reading.plain_by.Goals as goal

pub returns : goal.returns
returns c = λ c' k.
    let s = state_of c.args.reader.now (macros_in c.args.table.now) k in
    let t = state_of c.read_name.new.reader (macros_in c.args.table.now) k in
    let plain : is_defined_word c.args.reader.now.purpose c.in-Some.name ≡ false = ap (is_defined_word c.args.reader.now.purpose) (sym c.as_slice.ensures) ∙ sym c.is_defined_word.ensures ∙ c.if-is_defined_word.false in
    subst (λ m. Reads c' (read_plain c' s c.args.word m) c.read_name.result t) (sym c.in-Some.is)
    (rw plain (subst (λ m. Reads c' (read_name c' s c.args.word m) c.read_name.result t) c.as_slice-2.ensures (c.read_name.ensures c' k)))
