use Rattle.lp_world.proofs.Keeping.{stands_with_content}
use Rattle.lp_world.proofs.laws.write_stands.Goals as goal

pub returns : goal.returns
returns c = stands_with_content
