use Rattle.lp_words.proofs.PathLaws.{path-exact, front-exact, name-exact, name_front-exact}
use Rattle.lp_words.proofs.path.tests_are_exact.Goals as goal

pub returns-clause-path : goal.returns-clause-path
returns-clause-path c = path-exact c.args.word.now

pub returns-clause-path_front : goal.returns-clause-path_front
returns-clause-path_front c = front-exact c.args.last.now c.args.word.now

pub returns-clause-name : goal.returns-clause-name
returns-clause-name c = name-exact c.args.word.now

pub returns-clause-name_front : goal.returns-clause-name_front
returns-clause-name_front c = name_front-exact c.args.word.now
