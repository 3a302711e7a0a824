-- All front ends are the same, and read what stores say.
use Rattle.std.proofs.Common.{◌≡◌, ◌∙◌, inl, inr, ℕ, List, Option, sym, ap, subst}
use mathlib.Core.Path.{fun_ext}
use Rattle.std.specs.Str.{encode_utf8_all}
use Rattle.lp_files.specs.declared.store.Store.{Store}
use Rattle.lp_tree.specs.declared.fault.Fault.{Fault}
use Rattle.lp_tree.specs.declared.pragma.Pragmas.{Pragmas}
use Rattle.lp_tree.specs.Units.{ItemTree}
use Rattle.lp_values.specs.declared.id.ProgId.{ProgId}
use Rattle.lp_preproc.specs.Expansion.{setting}
use Rattle.lp_preproc.specs.State.{Setting}
use Rattle.lp_parser.specs.Theorem.{SpellsOne}
use Rattle.lp_front.specs.Reading as stored
use Rattle.lp_language.specs.World.{File, World}
use Rattle.lp_meaning.specs.FrontEnd.{FrontEnd, Reading, Declares, HasFault}
use Rattle.lp_front_end.specs.Readings.{IsDeclared, IsFaultOf, IsReading, setting_of}
use Rattle.lp_front_end.specs.FrontEnds.{AllAreTheSame, IsFrontEnd}
use Rattle.lp_front_end.specs.Stores.{HasFiles, StoresAreRead}
use Rattle.lp_front_end.proofs.OneReading.{OneOutcome, one_reading}

abbrev Reads : Type 0
Reads = List File → List ℕ → Reading

abbrev Checks : Type 0
Checks = World → List ℕ → List ItemTree → Pragmas → List ProgId → List (List ℕ) → List Fault

same_ends : (f g : FrontEnd) → f.read ≡ g.read → f.check ≡ g.check → f ≡ g
same_ends f g r k = ap (λ (x : Reads). record { read = x; check = f.check }) r ∙ ap (λ (x : Checks). record { read = g.read; check = x }) k

same_checks : (f g : FrontEnd) → IsFrontEnd f → IsFrontEnd g → f.check ≡ g.check
same_checks f g a b = fun_ext (λ w. fun_ext (λ path. fun_ext (λ items. fun_ext (λ pragmas. fun_ext (λ parents. fun_ext (λ simuls. a.checks w path items pragmas parents simuls ∙ sym (b.checks w path items pragmas parents simuls)))))))

-- the files of a store and those of a world make one setting
same_setting : (store : Store) (files : List File) (path : List ℕ) → HasFiles store files → setting store (encode_utf8_all path) ≡ setting_of files path
same_setting store files path h = ap (λ (x : List ℕ → Option (List ℕ)). record { files = x; path = encode_utf8_all path }) (fun_ext h)

-- what a store's file declares is what is declared with its setting, and so with faults
declared_there : (store : Store) (path : List ℕ) (items : List ItemTree) (pragmas : Pragmas) → stored.Declares store path items pragmas → IsDeclared (setting store path) items pragmas
declared_there store path items pragmas d = record { tokens = d.tokens; expands = d.expands; spelled = d.spelled; shallow = d.shallow }

declared_back : (store : Store) (path : List ℕ) (items : List ItemTree) (pragmas : Pragmas) → IsDeclared (setting store path) items pragmas → stored.Declares store path items pragmas
declared_back store path items pragmas d = record { tokens = d.tokens; expands = d.expands; spelled = d.spelled; shallow = d.shallow }

faulty_there : (store : Store) (path : List ℕ) (f : Fault) → stored.HasFault store path f → IsFaultOf (setting store path) f
faulty_there store path f (stored.expansion e h) = (e, inl h)
faulty_there store path f (stored.unit {ts = ts} {p = p} e x u) = (e, inr (record { tokens = ts; pragmas = p; expands = x; fault = u }))

faulty_back : (store : Store) (path : List ℕ) (f : Fault) → IsFaultOf (setting store path) f → stored.HasFault store path f
faulty_back store path f (e, inl h) = stored.expansion e h
faulty_back store path f (e, inr u) = stored.unit e u.expands u.fault

module _ (law : OneOutcome) (grammar : SpellsOne) where
  pub all_are_the_same : AllAreTheSame
  all_are_the_same f g a b =
      same_ends f g (fun_ext (λ files. fun_ext (λ path. one_reading law grammar (setting_of files path) (f.read files path) (g.read files path) (a.reads files path) (b.reads files path)))) (same_checks f g a b)

  pub stores_are_read : StoresAreRead
  stores_are_read front store files path is has =
      let e : setting store (encode_utf8_all path) ≡ setting_of files path = same_setting store files path has in
      let one : (s : Reading) → IsReading (setting store (encode_utf8_all path)) s → front.read files path ≡ s = λ s h. one_reading law grammar (setting_of files path) (front.read files path) s (is.reads files path) (subst (λ (c : Setting). IsReading c s) e h) in
      let back : (s : Reading) → front.read files path ≡ s → IsReading (setting store (encode_utf8_all path)) s = λ s r. subst (λ (c : Setting). IsReading c s) (sym e) (subst (λ (x : Reading). IsReading (setting_of files path) x) r (is.reads files path)) in
      record {
        declared = λ items pragmas d. one (Declares items pragmas) (declared_there store (encode_utf8_all path) items pragmas d);
        faulty = λ f h. one (HasFault f) (faulty_there store (encode_utf8_all path) f h);
        only_declared = λ items pragmas r. declared_back store (encode_utf8_all path) items pragmas (back (Declares items pragmas) r);
        only_faulty = λ f r. faulty_back store (encode_utf8_all path) f (back (HasFault f) r);
      }
