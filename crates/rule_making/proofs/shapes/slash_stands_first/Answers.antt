-- What follows some items says nothing of what they begin with.
use Rattle.std.proofs.Common.{◌<◌, length, sym, ◌∙◌, arith}
use Rattle.std.proofs.lemmas.Bool.Decides.{nat_tests}
use Rattle.rule_globs.specs.Tokens.{tokens_of}
use Rattle.rule_making.specs.laws.Ends.{begins_as_items}
use Rattle.rule_making.proofs.shapes.slash_stands_first.Goals as goal

pub returns-else-is_empty : goal.returns-else-is_empty
returns-else-is_empty c =
    let some : 0 < length c.args.alternative.now = grind (arith, nat_tests, c.is_empty.ensures, c.if-is_empty.false) in
    c.begins_with_slash-else-is_empty.ensures ∙ sym (begins_as_items c.args.alternative.now (tokens_of c.args.follow.now) some)
