-- What is left of items and name is what is after the front.
use Rattle.std.proofs.Common.{◌≡◌, ◌-◌, length, take, drop, ap, arith, length-drop}
use Rattle.std.proofs.lemmas.List.{take_all}
use Rattle.rule_globs.specs.Glob.{places}
use Rattle.rule_globs.specs.Meaning.{meaning_of}
use Rattle.rule_globs.proofs.Fronts.{places_cut}
use Rattle.rule_globs.proofs.matches.take_all.Goals as goal

pub take_rest-requires : goal.take_rest-requires
take_rest-requires c =
    let left = drop c.in-Some.count c.args.items.now in
    let whole : take (length c.args.items.now - c.in-Some.count) left ≡ left =
    take_all (length c.args.items.now - c.in-Some.count) left (omega (arith, length-drop c.in-Some.count c.args.items.now)) in
    omega (arith, ap (λ z. places (meaning_of z)) whole, places_cut c.args.items.now c.in-Some.count, c.requires)
