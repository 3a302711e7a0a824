-- What is told of one file.
use Rattle.std.proofs.Common.{◌≡◌, ◌<◌, ℕ, List, ◌∷◌, ◌++◌, [], length, Result, Ok, Err, OnOk, inl, inr}
use Rattle.lp_files.specs.declared.store.Store.{Store}
use Rattle.lp_tree.specs.declared.fault.Fault.{Fault}
use Rattle.lp_tree.specs.declared.pragma.Pragmas.{Pragmas}
use Rattle.lp_tree.specs.Units.{ItemTree}
use Rattle.lp_front.specs.Reading.{Declares, HasFault}
use Rattle.lp_loads.specs.Loads.{Loaded, load_of}
use Rattle.lp_check.specs.Report.{load_faults}
use Rattle.lp_suite.specs.declared.suite.Entry.{Entry}
use Rattle.lp_suite.specs.declared.suite.Entry.TheVariants.{Faulty}
use Rattle.lp_suite.specs.Suite.{AddsFile, faulty, sound, tests_in}

-- what holds where a call gave an answer
on_ok : {A E P Q : Type 0} (r : Result A E) → (P → Q) → OnOk r P → OnOk r Q
on_ok (Ok x) f p = f p
on_ok (Err x) f p = tt

-- the load found a fault
pub faulty_load : {A E : Type 0} (r : Result A E) (store : Store) (ls : Loaded) (path : List ℕ) (before after : List Entry) → 0 < length (load_faults (load_of ls path)) → OnOk r (after ≡ before ++ Faulty path ∷ [])
    → OnOk r (AddsFile store ls path before after)
faulty_load r store ls path before after l = on_ok r (λ e. (Faulty path ∷ [], faulty (inl l), e))

-- it cannot be read
pub faulty_text : {A E : Type 0} (r : Result A E) (store : Store) (ls : Loaded) (path : List ℕ) (fault : Fault) (before after : List Entry) → HasFault store path fault → OnOk r (after ≡ before ++ Faulty path ∷ [])
    → OnOk r (AddsFile store ls path before after)
faulty_text r store ls path fault before after h = on_ok r (λ e. (Faulty path ∷ [], faulty (inr (fault, h)), e))

-- it declares this, and no fault was found
pub sound_file : {A E : Type 0} (r : Result A E) (store : Store) (ls : Loaded) (path : List ℕ) (items : List ItemTree) (pragmas : Pragmas) (before after : List Entry) → length (load_faults (load_of ls path)) ≡ 0
    → Declares store path items pragmas → OnOk r (after ≡ before ++ tests_in path items) → OnOk r (AddsFile store ls path before after)
sound_file r store ls path items pragmas before after n d = on_ok r (λ e. (tests_in path items, sound items pragmas n d, e))
