-- Which device an end of a served run blames.
use Rattle.std.proofs.Common.{subst, ◌≡◌, ℕ, ◌≤◌, List, Bool, true, false, Option, Some, None, Result, Ok, Err, IfOk, OnErr, String, sym, inl, inr, arith}
use Rattle.std.specs.Global.{Global}
use Rattle.lp_io.specs.Counts.{Counts, Rose}
use Rattle.lp_io.specs.Told.{is_failed, is_zero_taken}
use Rattle.lp_io.specs.declared.put.PutFault.{PutFault}
use Rattle.lp_io.specs.declared.put.PutFault.TheVariants as put
use Rattle.lp_core.specs.declared.driver.Stop.{Stop}
use Rattle.lp_folder.specs.Held.{Held}
use Rattle.lp_flush.specs.Flushing.{IsCutShort, StopsAt}
use Rattle.lp_flush.proofs.Kept.{counted_so}
use Rattle.lp_serving.specs.Causes.{OutputTells}
use Rattle.lp_serving.proofs.Causes.{tries_no_fall}
use Rattle.lp_serving.specs.declared.server.End.TheVariants as ends
use Rattle.lp_serve.specs.declared.run.Early.{Early}
use Rattle.lp_serve.specs.declared.run.Early.TheVariants as early
use Rattle.lp_serve.specs.declared.run.Served.{Served}
use Rattle.lp_serve.specs.declared.run.Served.TheVariants.{Done, OutputFault, FilesFault, WireFault, TurnsSpent, Stopped, NoMemory}
use Rattle.lp_serve.specs.Causes.{EarlyTells, FilesTell, HasNotRisen, IsBlameless, SwapTells, TriedLast, is_early_output, is_output_fault, is_wire_fault}
use Rattle.lp_serve.specs.Served.{early_served, is_vain}

-- an end before the end of a round

early_output : (e : Early) (f0 f1 z0 z1 : ℕ) → OutputTells (is_early_output (Err e)) f0 f1 z0 z1 → OutputTells (is_output_fault (early_served e)) f0 f1 z0 z1
early_output early.Wire f0 f1 z0 z1 t = t
early_output (early.At ends.Output) f0 f1 z0 z1 t = t
early_output (early.At (ends.Stopped why)) f0 f1 z0 z1 t = t
early_output (early.At ends.NoMemory) f0 f1 z0 z1 t = t

pub early_output_as : (s : Served) (e : Early) (f0 f1 z0 z1 : ℕ) → s ≡ early_served e → OutputTells (is_early_output (Err e)) f0 f1 z0 z1 → OutputTells (is_output_fault s) f0 f1 z0 z1
early_output_as s e f0 f1 z0 z1 is t = subst (λ (x : Served). OutputTells (is_output_fault x) f0 f1 z0 z1) (sym is) (early_output e f0 f1 z0 z1 t)

early_swap : (e : Early) (quiet : Type 0) (blames : Stop → Type 0) → EarlyTells (Err e) quiet blames → SwapTells (early_served e) quiet blames
early_swap early.Wire quiet blames t = t
early_swap (early.At ends.Output) quiet blames t = t
early_swap (early.At (ends.Stopped why)) quiet blames t = t
early_swap (early.At ends.NoMemory) quiet blames t = t

pub early_swap_as : (s : Served) (e : Early) (quiet : Type 0) (blames : Stop → Type 0) → s ≡ early_served e → EarlyTells (Err e) quiet blames → SwapTells s quiet blames
early_swap_as s e quiet blames is t = subst (λ (x : Served). SwapTells x quiet blames) (sym is) (early_swap e quiet blames t)

early_files : (e : Early) (tried : Option (String Global) → Type 0) (rose : Type 0) → FilesTell (early_served e) tried rose
early_files early.Wire tried rose = tt
early_files (early.At ends.Output) tried rose = tt
early_files (early.At (ends.Stopped why)) tried rose = tt
early_files (early.At ends.NoMemory) tried rose = tt

pub early_files_as : (s : Served) (e : Early) (tried : Option (String Global) → Type 0) (rose : Type 0) → s ≡ early_served e → FilesTell s tried rose
early_files_as s e tried rose is = subst (λ (x : Served). FilesTell x tried rose) (sym is) (early_files e tried rose)

-- the last tries

pub tried_last : (failed : Option (String Global)) (file0 file1 : List ℕ → Option (List ℕ)) (held : Option Held) (faults : ℕ) (listed changed : List (List ℕ)) (now : Option Held) (count : ℕ) → ((q : List ℕ) → file1 q ≡ file0 q)
    → StopsAt failed file0 held faults listed changed now count → TriedLast failed file1 faults changed now count
tried_last failed file0 file1 held faults listed changed now count same s =
    let alike : file0 ≡ file1 = sym (λ k q. same q k) in
    record { held = held; faults = faults; since = omega arith; listed = listed; tries = subst (λ (f : List ℕ → Option (List ℕ)). StopsAt failed f held faults listed changed now count) alike s }

pub stops_rose : (path : String Global) (file : List ℕ → Option (List ℕ)) (held : Option Held) (faults : ℕ) (listed changed : List (List ℕ)) (now : Option Held) (count : ℕ) → StopsAt (Some path) file held faults listed changed now count → Rose faults count
stops_rose path file held faults listed changed now count s = counted_so file held faults _ _ now count s.3 (omega arith)

stops_no_fall : (failed : Option (String Global)) (file : List ℕ → Option (List ℕ)) (held : Option Held) (faults : ℕ) (listed changed : List (List ℕ)) (now : Option Held) (count : ℕ) → StopsAt failed file held faults listed changed now count → faults ≤ count
stops_no_fall None file held faults listed changed now count s = tries_no_fall file held faults _ _ now count s.0
stops_no_fall (Some path) file held faults listed changed now count s = tries_no_fall file held faults _ _ now count s.3

pub last_no_fall : {E : Type 0} (r : Result (Option (String Global)) E) (file : List ℕ → Option (List ℕ)) (held : Option Held) (faults : ℕ) (listed changed : List (List ℕ)) (now : Option Held) (count : ℕ)
    → IfOk r (λ failed. StopsAt failed file held faults listed changed now count) → OnErr r (IsCutShort file held faults listed changed now count) → faults ≤ count
last_no_fall (Ok failed) file held faults listed changed now count fine cut = stops_no_fall failed file held faults listed changed now count fine
last_no_fall (Err e) file held faults listed changed now count fine cut = tries_no_fall file held faults _ _ _ count cut.flushes

since : (failed : Option (String Global)) (file : List ℕ → Option (List ℕ)) (a b : ℕ) (changed : List (List ℕ)) (now : Option Held) (count : ℕ) → a ≤ b → TriedLast failed file b changed now count → TriedLast failed file a changed now count
since failed file a b changed now count low t = record { held = t.held; faults = t.faults; since = omega (arith, low, t.since); listed = t.listed; tries = t.tries }

rose_since : (a b c : ℕ) → a ≤ b → Rose b c → Rose a c
rose_since a b c low rose = omega (arith, low, rose)

-- over the whole run
pub files_since : (s : Served) (file : List ℕ → Option (List ℕ)) (a b : ℕ) (changed : List (List ℕ)) (now : Option Held) (count : ℕ) → a ≤ b → FilesTell s (λ failed. TriedLast failed file b changed now count) (Rose b count)
    → FilesTell s (λ failed. TriedLast failed file a changed now count) (Rose a count)
files_since Done file a b changed now count low t = since None file a b changed now count low t
files_since (FilesFault path) file a b changed now count low t = (since (Some path) file a b changed now count low t.0, rose_since a b count low t.1)
files_since TurnsSpent file a b changed now count low t = tt
files_since WireFault file a b changed now count low t = tt
files_since OutputFault file a b changed now count low t = tt
files_since (Stopped why) file a b changed now count low t = tt
files_since NoMemory file a b changed now count low t = tt

-- where nothing failed
pub blameless : (s : Served) (f0 f1 z0 z1 i0 i1 n0 n1 : ℕ) (tried : Option (String Global) → Type 0) → OutputTells (is_output_fault s) f0 f1 z0 z1 → FilesTell s tried (Rose i0 i1) → Counts (is_wire_fault s) n0 n1
    → HasNotRisen f0 f1 → HasNotRisen z0 z1 → HasNotRisen i0 i1 → HasNotRisen n0 n1 → IsBlameless s
blameless Done f0 f1 z0 z1 i0 i1 n0 n1 tried o f w a b c d = tt
blameless TurnsSpent f0 f1 z0 z1 i0 i1 n0 n1 tried o f w a b c d = tt
blameless (Stopped why) f0 f1 z0 z1 i0 i1 n0 n1 tried o f w a b c d = tt
blameless NoMemory f0 f1 z0 z1 i0 i1 n0 n1 tried o f w a b c d = tt
blameless OutputFault f0 f1 z0 z1 i0 i1 n0 n1 tried o f w a b c d = elim o [ inl rose ↦ a rose | inr rose ↦ b rose ]
blameless (FilesFault path) f0 f1 z0 z1 i0 i1 n0 n1 tried o f w a b c d = c f.1
blameless WireFault f0 f1 z0 z1 i0 i1 n0 n1 tried o f w a b c d = d w

early_wire : (e : Early) (n0 n1 : ℕ) → Counts (is_vain (Err e)) n0 n1 → Counts (is_wire_fault (early_served e)) n0 n1
early_wire early.Wire n0 n1 t = t
early_wire (early.At ends.Output) n0 n1 t = t
early_wire (early.At (ends.Stopped why)) n0 n1 t = t
early_wire (early.At ends.NoMemory) n0 n1 t = t

pub early_wire_as : (s : Served) (e : Early) (n0 n1 n2 : ℕ) → s ≡ early_served e → n1 ≡ n0 → Counts (is_vain (Err e)) n1 n2 → Counts (is_wire_fault s) n0 n2
early_wire_as s e n0 n1 n2 is same t = subst (λ (x : Served). Counts (is_wire_fault x) n0 n2) (sym is) (subst (λ (n : ℕ). Counts (is_wire_fault (early_served e)) n n2) same (early_wire e n1 n2 t))

pub still_wire : (s : Served) (n0 n1 : ℕ) → is_wire_fault s ≡ false → n1 ≡ n0 → Counts (is_wire_fault s) n0 n1
still_wire s n0 n1 none same = subst (λ (b : Bool). Counts b n0 n1) (sym none) same

pub put_err : (e : PutFault) (f0 f1 z0 z1 : ℕ) → Counts (is_failed (Err e)) f0 f1 → Counts (is_zero_taken (Err e)) z0 z1 → OutputTells true f0 f1 z0 z1
put_err put.Failed f0 f1 z0 z1 f z = inl f
put_err put.ZeroTaken f0 f1 z0 z1 f z = inr z

-- the same, of an answer as it was matched

pub tried_last_as : (shown failed : Option (String Global)) (file0 file1 : List ℕ → Option (List ℕ)) (held : Option Held) (faults : ℕ) (listed changed : List (List ℕ)) (now : Option Held) (count : ℕ) → shown ≡ failed → ((q : List ℕ) → file1 q ≡ file0 q)
    → StopsAt shown file0 held faults listed changed now count → TriedLast failed file1 faults changed now count
tried_last_as shown failed file0 file1 held faults listed changed now count is same s =
    tried_last failed file0 file1 held faults listed changed now count same (subst (λ (x : Option (String Global)). StopsAt x file0 held faults listed changed now count) is s)

pub stops_rose_as : (shown : Option (String Global)) (path : String Global) (file : List ℕ → Option (List ℕ)) (held : Option Held) (faults : ℕ) (listed changed : List (List ℕ)) (now : Option Held) (count : ℕ) → shown ≡ Some path
    → StopsAt shown file held faults listed changed now count → Rose faults count
stops_rose_as shown path file held faults listed changed now count is s =
    stops_rose path file held faults listed changed now count (subst (λ (x : Option (String Global)). StopsAt x file held faults listed changed now count) is s)
