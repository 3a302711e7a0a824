use Rattle.std.proofs.Common.{◌≡◌, true, false}
use Rattle.std.specs.Prelude.{string_bytes}
use Rattle.lp_words.specs.Paths.{is_path}
use Rattle.lp_filing.proofs.PathTests.{path_is, path_is_none}
use Rattle.lp_filing.proofs.leave.if_path.Goals as goal

pub returns-then-is_path : goal.returns-then-is_path
returns-then-is_path c = let e : is_path (string_bytes c.args.path) ≡ true = cc in path_is (string_bytes c.args.path) e

pub returns : goal.returns
returns c = let e : is_path (string_bytes c.args.path) ≡ false = cc in path_is_none (string_bytes c.args.path) e
