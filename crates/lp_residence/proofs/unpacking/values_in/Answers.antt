use Rattle.std.proofs.Common.{◌≡◌, ◌∙◌, [], map}
use Rattle.std.proofs.lemmas.Result.{IfOk-weaker}
use Rattle.lp_world.specs.Records.{packed}
use Rattle.lp_residence.specs.Entering.{AreValuesOf}
use Rattle.lp_residence.proofs.Unpacked.{values_are}
use Rattle.lp_residence.proofs.unpacking.values_in.Goals as goal

pub returns : goal.returns
returns c =
    IfOk-weaker c.values_of.result (λ vs. map (packed []) vs ≡ c.as_slice.result.now) (AreValuesOf c.args.bytes.now)
    (λ vs m. values_are c.args.bytes.now c.in_ok-record.record vs c.in_ok-record.ensures (m ∙ c.as_slice.ensures)) c.values_of.ensures
