-- Each file has a reading, so there is a front end.
use Rattle.std.proofs.Common.{inl, inr, List, refl}
use Rattle.std.specs.Str.{encode_utf8_all}
use Rattle.lp_tree.specs.declared.pragma.Pragmas.{Pragmas}
use Rattle.lp_tree.specs.declared.token.Token.{Token}
use Rattle.lp_preproc.specs.Expansion.{IsExpansion}
use Rattle.lp_preproc.specs.State.{Setting}
use Rattle.lp_preproc_laws.specs.Answers.{HasAnswer}
use Rattle.lp_front.specs.Settling.{faults_of}
use Rattle.lp_meaning.specs.FrontEnd.{FrontEnd, Reading, Declares, HasFault}
use Rattle.lp_front_end.specs.Readings.{IsReading, setting_of}
use Rattle.lp_front_end.specs.FrontEnds.{ThereIsOne, tables_in}
use Rattle.lp_front_end.proofs.Grammar.{HasUnit, has_unit}

abbrev HasReading : Setting → Type 0
HasReading c = (r : Reading) × IsReading c r

-- by what the tokens of the expansion spell
by_unit : (c : Setting) (ts : List Token) (p : Pragmas) → IsExpansion c ts p → HasUnit ts → HasReading c
by_unit c ts p e (inl u) = (Declares u.0 p, record { tokens = ts; expands = e; spelled = u.1; shallow = u.2 })
by_unit c ts p e (inr f) = (HasFault (record { file = c.path; line = f.1; kind = f.0 }), (refl, inr (record { tokens = ts; pragmas = p; expands = e; fault = f.2 })))

module _ (answered : (c : Setting) → HasAnswer c) where
  by_answer : (c : Setting) → HasAnswer c → HasReading c
  by_answer c (inl e) = by_unit c e.0 e.1 e.2 (has_unit e.0)
  by_answer c (inr f) = (HasFault (record { file = c.path; line = f.1; kind = f.0 }), (refl, inl f.2))

  reading : (c : Setting) → HasReading c
  reading c = by_answer c (answered c)

  abbrev the_one : FrontEnd
  the_one = record {
    read = λ files path. (reading (setting_of files path)).0;
    check = λ w path items pragmas parents simuls. faults_of (encode_utf8_all path) items pragmas (tables_in w parents) simuls;
  }

  pub there_is_one : ThereIsOne
  there_is_one = (the_one, record { reads = λ files path. (reading (setting_of files path)).1; checks = λ w path items pragmas parents simuls. refl })
