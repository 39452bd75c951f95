use Rattle.std.proofs.Common.{◌++◌, arith, ap, ◌∙◌}
use Rattle.std.proofs.lemmas.List.{append-nil, drop_all}
use Rattle.path_lookup.proofs.scratch.Scratch.begin.Goals as goal

pub returns : goal.returns
returns c =
    c.put_in_front-self-inside.ensures.text
    ∙ ap (λ xs. c.args.text.now ++ xs) (drop_all 45015 c.self.inside.room (omega (arith, c.self.told)))
    ∙ append-nil c.args.text.now
