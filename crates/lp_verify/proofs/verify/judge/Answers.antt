use Rattle.std.proofs.Common.{◌≡◌, None, ap, length, rules}
use Rattle.lp_verify.proofs.Others.{refused_here, refused_end, accepted}
use Rattle.lp_verify.proofs.verify.judge.Goals as goal

pub returns-in-Some : goal.returns-in-Some
returns-in-Some c = refused_here c.args.raw.now c.in_ok-at.field-0 c.in-Some.at c.in_ok-at.ensures.least c.in-Some.is

pub returns-then-not-stand : goal.returns-then-not-stand
returns-then-not-stand c = let n : c.in_ok-at.field-0 ≡ None = search rules in
    refused_end c.args.raw.now c.in_ok-at.field-0 _ c.in_ok-stand.stand c.in_ok-at.ensures.least n (ap length c.as_slice-at.ensures) c.in_ok-stand.ensures c.if-not-stand.true

pub returns : goal.returns
returns c = let n : c.in_ok-at.field-0 ≡ None = search rules in
    accepted c.args.raw.now c.in_ok-at.field-0 c.in_ok-stand.stand c.in_ok-at.ensures.least n c.in_ok-at.ensures.functions c.in_ok-stand.ensures c.if-not-stand.false
