-- The answers of compiling exclude each other.
use Rattle.std.proofs.Common.{◌≡◌, ◌∙◌, ℕ, List, [], ◌∷◌, inl, inr, refl, sym, ap, subst}
use Rattle.std.specs.Prelude.{string_bytes}
use Rattle.std.specs.Str.{encode_utf8_all}
use Rattle.std.proofs.lemmas.Option.{none-some, same_Some}
use Rattle.lp_files.specs.declared.store.Store.{Store}
use Rattle.lp_tree.specs.declared.fault.Fault.{Fault}
use Rattle.lp_tree.specs.declared.pragma.Pragmas.{Pragmas}
use Rattle.lp_tree.specs.Units.{ItemTree}
use Rattle.lp_values.specs.declared.id.ProgId.{ProgId}
use Rattle.lp_code.specs.declared.program.RawProgram.{RawProgram}
use Rattle.lp_code.specs.declared.tables.Tables.{Tables}
use Rattle.lp_front.specs.declared.parents.Parent.{Parent as Inherited}
use Rattle.lp_front.specs.Names.{parents_in}
use Rattle.lp_front.specs.Reading as stored
use Rattle.lp_front.specs.Settling.{faults_of}
use Rattle.lp_language.specs.World.{File}
use Rattle.lp_meaning.specs.FrontEnd.{FrontEnd, Reading, Declares, HasFault}
use Rattle.lp_front_end.specs.FrontEnds.{IsFrontEnd}
use Rattle.lp_front_end.specs.Stores.{HasFiles, ReadsStore, StoresAreRead}
use Rattle.lp_compile.specs.Known.{Known, AreGiven, IsFirstMissing}
use Rattle.lp_compile.specs.Compiles.{Compiles, IsFaulty, IsRefused, IsUnread, IsWant, Needs}
use Rattle.lp_compile.specs.declared.fault.CompileFault.{CompileFault}
use Rattle.lp_compile.specs.declared.fault.CompileFault.TheVariants as faults
use Rattle.lp_compile_laws.specs.Told.{AnswersAreApart}
use Rattle.lp_compile_laws.proofs.Telling.{first_needed, given_none}

-- what a reading declares, if it does
abbrev items_read : Reading → List ItemTree
items_read (Declares items pragmas) = items
items_read (HasFault f) = []

abbrev pragmas_read : Pragmas → Reading → Pragmas
pragmas_read none (Declares items pragmas) = pragmas
pragmas_read none (HasFault f) = none

declares_or_not : (items : List ItemTree) (pragmas : Pragmas) (f : Fault) → Declares items pragmas ≡ HasFault f → ⊥
declares_or_not items pragmas f e = absurd cc

-- the tables of parents are given in one way
given_once : (k : Known) (ps : List Inherited) (ts us : List Tables) → AreGiven k ps ts → AreGiven k ps us → us ≡ ts
given_once k [] [] [] g h = refl
given_once k [] [] (u ∷ us) g h = absurd h
given_once k [] (t ∷ ts) us g h = absurd g
given_once k (p ∷ ps) [] us g h = absurd g
given_once k (p ∷ ps) (t ∷ ts) [] g h = absurd h
given_once k (p ∷ ps) (t ∷ ts) (u ∷ us) g h =
    let e : u ≡ t = same_Some u t (sym h.0 ∙ g.0) in
    ap (λ x. x ∷ us) e ∙ ap (λ xs. t ∷ xs) (given_once k ps ts us g.1 h.1)

-- and none of them is missing
given_or_missing : (k : Known) (ps : List Inherited) (ts : List Tables) (file : List ℕ) → AreGiven k ps ts → IsFirstMissing k ps file → ⊥
given_or_missing k ps ts file g m =
    let q = first_needed k ps file m in
    none-some q.0 (sym (given_none k ps ts g) ∙ q.1)

module _ (reads : StoresAreRead) (front : FrontEnd) (files : List File) (store : Store) (path : List ℕ) (real : IsFrontEnd front) (has : HasFiles store files) where
  there : ReadsStore front store files path
  there = reads front store files path real has

  module _ (own : ProgId) (known : Known) (simuls : List (List ℕ)) (p : RawProgram) (c : Compiles store (encode_utf8_all path) own known simuls p) where
    same_read : (items : List ItemTree) (pragmas : Pragmas) → stored.Declares store (encode_utf8_all path) items pragmas → Declares items pragmas ≡ Declares c.items c.pragmas
    same_read items pragmas d = sym (there.declared items pragmas d) ∙ there.declared c.items c.pragmas c.declares

    same_items : (items : List ItemTree) (pragmas : Pragmas) → stored.Declares store (encode_utf8_all path) items pragmas → items ≡ c.items
    same_items items pragmas d = ap items_read (same_read items pragmas d)

    same_pragmas : (items : List ItemTree) (pragmas : Pragmas) → stored.Declares store (encode_utf8_all path) items pragmas → pragmas ≡ c.pragmas
    same_pragmas items pragmas d = ap (pragmas_read c.pragmas) (same_read items pragmas d)

    not_needed : (file : List ℕ) → Needs store (encode_utf8_all path) known file → ⊥
    not_needed file n =
        given_or_missing known (parents_in c.items) c.parents file c.given
        (subst (λ is. IsFirstMissing known (parents_in is) file) (same_items n.items n.pragmas n.declares) n.missing)

    not_unread : (fs : List Fault) → IsUnread store (encode_utf8_all path) fs → ⊥
    not_unread fs u = declares_or_not c.items c.pragmas u.first (sym (there.declared c.items c.pragmas c.declares) ∙ there.faulty u.first u.fault)

    not_faulty : (fs : List Fault) → IsFaulty store (encode_utf8_all path) known simuls fs → ⊥
    not_faulty fs f =
        let ei = same_items f.items f.pragmas f.declares in
        let ep = same_pragmas f.items f.pragmas f.declares in
        let et : f.parents ≡ c.parents = given_once known (parents_in c.items) c.parents f.parents c.given (subst (λ is. AreGiven known (parents_in is) f.parents) ei f.given) in
        f.some (f.faults
        ∙ ap (λ is. faults_of (encode_utf8_all path) is f.pragmas f.parents simuls) ei
        ∙ ap (λ ps. faults_of (encode_utf8_all path) c.items ps f.parents simuls) ep
        ∙ ap (λ ts. faults_of (encode_utf8_all path) c.items c.pragmas ts simuls) et
        ∙ c.faultless)

    apart_from : (f : CompileFault) → IsRefused store (encode_utf8_all path) known simuls f → IsWant f
    apart_from (faults.Need file) n = not_needed (string_bytes file) n
    apart_from (faults.Faults fs) (inl u) = not_unread fs.items u
    apart_from (faults.Faults fs) (inr h) = not_faulty fs.items h
    apart_from faults.TooLarge h = tt
    apart_from faults.NoMemory h = tt

pub apart : StoresAreRead → AnswersAreApart
apart reads front files store path own known simuls p f real has c r = apart_from reads front files store path real has own known simuls p c f r
