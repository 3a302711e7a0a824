-- Transcripts: the bytes of the outputs of turns.
use Rattle.std.specs.Prelude.{ℕ, List, [], ◌∷◌, ◌++◌, flat_map, nat_eq, if◌then◌else◌, codes}
use Rattle.std.specs.Str.{encode_utf8_all}
use Rattle.lp_events.specs.Script.{numeral, counted}
use Rattle.lp_events.specs.declared.out.Out.{Out}
use Rattle.lp_events.specs.declared.out.Out.TheVariants.{Text, Hide, Show, Close, Log}

-- the bytes of one output
unfoldable pub output_spelling : Out → List ℕ
output_spelling (Text k text) = codes "to " ++ numeral k ++ codes " " ++ counted (encode_utf8_all text)
output_spelling (Hide k) = codes "hide " ++ numeral k ++ codes "\n"
output_spelling (Show k) = codes "show " ++ numeral k ++ codes "\n"
output_spelling (Close k) = codes "close " ++ numeral k ++ codes "\n"
output_spelling (Log text) = codes "log " ++ counted (encode_utf8_all text)

-- a text before outputs whose neighbouring texts are joined
abbrev pub before_joined : ℕ → List ℕ → List Out → List Out
before_joined k text (Text j more ∷ outs) = if nat_eq k j then Text k (text ++ more) ∷ outs else Text k text ∷ Text j more ∷ outs
before_joined k text outs = Text k text ∷ outs

-- neighbouring texts to one connection as one text, and empty texts left out
abbrev pub joined : List Out → List Out
joined [] = []
joined (Text k [] ∷ outs) = joined outs
joined (Text k (c ∷ text) ∷ outs) = before_joined k (c ∷ text) (joined outs)
joined (out ∷ outs) = out ∷ joined outs

-- the bytes of the outputs of one turn
abbrev pub block : List Out → List ℕ
block outs = flat_map output_spelling (joined outs)

-- the blocks of turns, in order
abbrev pub blocks : List (List Out) → List ℕ
blocks turns = flat_map block turns

-- the blocks, that of the start first, and the line at the end
abbrev pub transcript : List (List Out) → List ℕ
transcript turns = blocks turns ++ codes "end\n"
