-- The kinds of arguments that the code knows, as those of the definitions.
use Rattle.std.specs.Prelude.{List, map}
use Rattle.lp_instr.specs.EfunKinds.{Kind}
use Rattle.lp_instr.specs.EfunKinds as kinds
use Rattle.lp_value_efuns.specs.declared.fit.Kind.{Kind as Coded}
use Rattle.lp_value_efuns.specs.declared.fit.Kind.TheVariants.{AnInt, AText, AnObject, AnArray, AMapping, Anything, TextOrObject, CellOrText}

-- the kind
abbrev pub kind_of : Coded → Kind
kind_of AnInt = kinds.AnInt
kind_of AText = kinds.AText
kind_of AnObject = kinds.AnObject
kind_of AnArray = kinds.AnArray
kind_of AMapping = kinds.AMapping
kind_of Anything = kinds.Anything
kind_of TextOrObject = kinds.TextOrObject
kind_of CellOrText = kinds.CellOrText

-- kinds in their order
abbrev pub kinds_of : List Coded → List Kind
kinds_of ks = map kind_of ks
