-- How the code keeps what came out: words, and letters that are still to go behind the text that the last of them is.
use Rattle.std.specs.Prelude.{ℕ, List, [], ◌∷◌, ◌++◌}
use Rattle.lp_tree.specs.declared.token.TokenKind.{TokenKind}
use Rattle.lp_tree.specs.declared.token.TokenKind.TheVariants.{Text}
use Rattle.lp_preproc.specs.declared.word.Word.{Word}

-- a text with letters behind it; what is no text stays
abbrev pub longer_kind : List ℕ → TokenKind → TokenKind
longer_kind more (Text t) = Text (t ++ more)
longer_kind more k = k

-- the words, the last one first, which has these letters more
abbrev pub longer : List ℕ → List Word → List Word
longer more [] = []
longer more (w ∷ ws) = record w { kind = longer_kind more w.kind } ∷ ws
