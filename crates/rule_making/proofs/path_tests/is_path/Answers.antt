-- The walk finds out whether the tokens are a path.
use Rattle.std.proofs.Common.{ap, ◌∙◌}
use Rattle.rule_globs.specs.Tokens.{tokens_of}
use Rattle.rule_making.proofs.WalkTests.{end_of, path_found}
use Rattle.rule_making.proofs.path_tests.is_path.Goals as goal

pub returns-in-Some : goal.returns-in-Some
returns-in-Some c = c.is_end.ensures ∙ ap end_of c.in-Some.ensures ∙ path_found (tokens_of c.args.items.now)

pub returns-in-None : goal.returns-in-None
returns-in-None c = ap end_of c.in-None.ensures ∙ path_found (tokens_of c.args.items.now)
