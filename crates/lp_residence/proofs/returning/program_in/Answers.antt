use Rattle.std.proofs.lemmas.Result.{IfOk-weaker}
use Rattle.lp_encoding.specs.Programs.{IsEncoding}
use Rattle.lp_residence.specs.Entering.{IsProgramOf}
use Rattle.lp_residence.proofs.Fitted.{image_behind}
use Rattle.lp_residence.proofs.Returned.{program_of_image}
use Rattle.lp_residence.proofs.returning.program_in.Goals as goal

pub returns-in-Some : goal.returns-in-Some
returns-in-Some c =
    IfOk-weaker c.decoded.result (λ p. IsEncoding p c.in-Some.encoding.now) (λ p. IsProgramOf c.args.bytes.now p)
    (λ p e. program_of_image p c.in-Some.encoding.now c.args.bytes.now c.law_prefix_free.ensures e (image_behind c.args.bytes.now c.in-Some.encoding.now c.in-Some.ensures)) c.decoded.ensures
