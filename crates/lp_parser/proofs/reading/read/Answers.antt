use Rattle.std.proofs.Common.{arith}
use Rattle.lp_parser.specs.Depth.{here, least}
use Rattle.lp_parser.specs.Moves.{state_of}
use Rattle.lp_parser.specs.View.{before_of}
use Rattle.lp_parser.proofs.Readings.{unsigned_at, refused_at, walked_on, risen, deeper_than, still_within}
use Rattle.lp_parser.proofs.reading.read.Goals as goal

pub step-requires : goal.step-requires
step-requires c = unsigned_at c.args.tokens.now c.loop-i.i c.index-tokens-i.result c.in_ok-seen.seen c.requires.signs c.loop-i-test.true c.in_ok-seen.ensures c.index-tokens-i.is

pub returns-in-None : goal.returns-in-None
returns-in-None c = refused_at c.args.limit c.args.tokens.now c.loop-i.i c.index-tokens-i.result (state_of c.loop-i.focus (before_of c.loop-i.before)) c.in_ok-seen.seen (before_of c.step.new.before) c.in_ok-next.field-0 c.loop-i-test.true c.loop-i.invariant.walked c.loop-i.invariant.shallow c.in_ok-seen.ensures c.index-tokens-i.is c.in_ok-next.ensures c.in-None.is

pub returns-then-here-limit : goal.returns-then-here-limit
returns-then-here-limit c =
    let st = state_of c.loop-i.focus (before_of c.loop-i.before) in
    let b = before_of c.step.new.before in
    let next = state_of c.in-Some.next b in (
      st,
      next,
      record { within = omega (arith, c.loop-i-test.true); walked = c.loop-i.invariant.walked; shallow = c.loop-i.invariant.shallow },
      c.loop-i-test.true,
      walked_on c.args.tokens.now c.loop-i.i c.index-tokens-i.result st c.in_ok-seen.seen b c.in_ok-next.field-0 c.in-Some.next c.loop-i-test.true c.loop-i.invariant.walked c.in_ok-seen.ensures c.index-tokens-i.is c.in_ok-next.ensures c.in-Some.is,
      deeper_than c.args.limit c.here.result (least st) (here next) (least next) (c.here.ensures b) c.if-here-limit.true (risen st c.in_ok-seen.seen b c.in_ok-next.field-0 c.in-Some.next c.in_ok-next.ensures c.in-Some.is),
    )

pub loop-i-preserved : goal.loop-i-preserved
loop-i-preserved c =
    let st = state_of c.loop-i.focus (before_of c.loop-i.before) in
    let b = before_of c.step.new.before in
    let next = state_of c.in-Some.next b in
    record {
      walked = walked_on c.args.tokens.now c.loop-i.i c.index-tokens-i.result st c.in_ok-seen.seen b c.in_ok-next.field-0 c.in-Some.next c.loop-i-test.true c.loop-i.invariant.walked c.in_ok-seen.ensures c.index-tokens-i.is c.in_ok-next.ensures c.in-Some.is;
      shallow = still_within c.args.limit c.here.result (least st) (here next) (least next) (c.here.ensures b) c.requires.limit c.if-here-limit.false c.loop-i.invariant.shallow (risen st c.in_ok-seen.seen b c.in_ok-next.field-0 c.in-Some.next c.in_ok-next.ensures c.in-Some.is);
    }
