use Rattle.std.proofs.Common.{◌∙◌, ◌<◌, ◌≤◌, ◌++◌, ◌∷◌, [], subst, sym, ap, arith}
use Rattle.std.proofs.Math.Nat.{le_trans}
use Rattle.std.specs.Prelude.{Ok}
use Rattle.lp_events.specs.Script.{files_of, longest_input}
use Rattle.lp_script.specs.Reader.{IsAfter}
use Rattle.lp_top.specs.Check.{EndsGathering}
use Rattle.lp_top.proofs.Reading.{goes_on, cut_within, gone, says-of, taken-after, script_within, begins_with}
use Rattle.lp_top.proofs.Filing.{end-is}
use Rattle.lp_top.proofs.Going.{read-whole}
use Rattle.lp_top.proofs.Checking.{ends_gathering, goes_after_item, files_same}
use Rattle.lp_top.proofs.check.gather.Goals as goal

pub returns-in-Err-clause-end : goal.returns-in-Err-clause-end
returns-in-Err-clause-end g c = λ b h.
    let i = c.loop-item.invariant.gathering in
    let reads = c.loop-item.invariant.reads b h in
    let s = says-of b c.next.new.self _ i.read c.in-Err.fault c.in-Err.ensures.phase (c.in-Err.ensures.reads b reads) (λ k. c.in-Err.ensures.fault b i.read i.goes i.given k) in
    subst (EndsGathering b) (sym c.status_of.ensures) (ends_gathering b c.loop-item.reader _ i.read c.in-Err.fault reads i.goes i.given s)

pub returns-in-Err-clause-most : goal.returns-in-Err-clause-most
returns-in-Err-clause-most g c = λ b h. gone b c.next.new.self _ c.in-Err.ensures.most (c.in-Err.ensures.reads b (c.loop-item.invariant.reads b h))

pub returns-then-is_end-clause-gathered : goal.returns-then-is_end-clause-gathered
returns-then-is_end-clause-gathered g c = λ b h.
    let i = c.loop-item.invariant.gathering in
    let reads = c.loop-item.invariant.reads b h in
    let e = end-is c.in-Ok.item (sym c.is_end.ensures ∙ c.if-is_end.true) in
    let v = c.in-Ok.ensures.given i.read i.goes i.given in
    let script = c.in-Ok.ensures.end b i.read i.goes i.given (taken-after b c.next.new.self _ c.in-Ok.item c.in-Ok.ensures.phase (c.in-Ok.ensures.reads b reads)) e in
    record {
      read = i.read ++ c.in-Ok.item ∷ [];
      script = script;
      short = script_within b c.next.new.self _ v script;
      files = files_same i.read c.in-Ok.item c.loop-item.sources (ap (λ x. files_of (x ∷ [])) e) i.files;
    }

pub returns-then-is_end-clause-whole : goal.returns-then-is_end-clause-whole
returns-then-is_end-clause-whole g c = λ b h.
    let i = c.loop-item.invariant.gathering in
    let reads = c.loop-item.invariant.reads b h in
    let e = end-is c.in-Ok.item (sym c.is_end.ensures ∙ c.if-is_end.true) in
    let v = c.in-Ok.ensures.given i.read i.goes i.given in
    let script = c.in-Ok.ensures.end b i.read i.goes i.given (taken-after b c.next.new.self _ c.in-Ok.item c.in-Ok.ensures.phase (c.in-Ok.ensures.reads b reads)) e in
    read-whole b c.next.new.self _ (subst (λ x. IsAfter (Ok x) c.next.new.self.phase) e c.in-Ok.ensures.phase) (c.in-Ok.ensures.reads b reads) (script_within b c.next.new.self _ v script)

pub returns-then-is_end-clause-most : goal.returns-then-is_end-clause-most
returns-then-is_end-clause-most g c = λ b h. gone b c.next.new.self _ c.in-Ok.ensures.most (c.in-Ok.ensures.reads b (c.loop-item.invariant.reads b h))

pub loop-item-smaller : goal.loop-item-smaller
loop-item-smaller g c =
    let i = c.loop-item.invariant.gathering in
    let v = c.in-Ok.ensures.given i.read i.goes i.given in
    let more : c.loop-item.reader.cut < c.next.new.self.cut = goes_on c.loop-item.reader c.next.new.self i.read c.in-Ok.item i.given v in
    let within : c.next.new.self.cut ≤ longest_input = cut_within c.next.new.self _ v in
    omega arith

pub loop-item-preserved : goal.loop-item-preserved
loop-item-preserved g c =
    let i = c.loop-item.invariant.gathering in
    record {
      gathering = record {
        read = i.read ++ c.in-Ok.item ∷ [];
        given = c.in-Ok.ensures.given i.read i.goes i.given;
        goes = goes_after_item c.in-Ok.item c.next.new.self (sym c.is_end.ensures ∙ c.if-is_end.false) c.in-Ok.ensures.phase;
        files = c.in-Ok-gathered.ensures i.read i.files;
      };
      reads = λ b h. c.in-Ok.ensures.reads b (c.loop-item.invariant.reads b h);
      no_fall = le_trans c.loop-item.invariant.no_fall c.in-Ok.ensures.no_fall;
    }

pub returns-in-Err-gathered-clause-end : goal.returns-in-Err-gathered-clause-end
returns-in-Err-gathered-clause-end g c = λ b h.
    let i = c.loop-item.invariant.gathering in
    let goes = goes_after_item c.in-Ok.item c.next.new.self (sym c.is_end.ensures ∙ c.if-is_end.false) c.in-Ok.ensures.phase in
    record {
      read = i.read ++ c.in-Ok.item ∷ [];
      ends = begins_with b c.next.new.self _ (i.read ++ c.in-Ok.item ∷ []) (c.in-Ok.ensures.reads b (c.loop-item.invariant.reads b h)) goes (c.in-Ok.ensures.given i.read i.goes i.given);
    }

pub returns-in-Err-gathered-clause-most : goal.returns-in-Err-gathered-clause-most
returns-in-Err-gathered-clause-most g c = λ b h. gone b c.next.new.self _ c.in-Ok.ensures.most (c.in-Ok.ensures.reads b (c.loop-item.invariant.reads b h))
