use Rattle.std.proofs.Common.{◌≡◌, ◌<◌, ℕ, length, sym, ap, ◌∙◌, subst, arith}
use Rattle.automaton_rows.proofs.dfa.Dfa.targets.Goals as goal

pub returns-clause-there : goal.returns-clause-there
returns-clause-there c b small =
    subst (λ z. z < length c.args.self.now.rows)
    (sym (c.targets_of.ensures b small ∙ c.row.ensures.targets b small))
    (c.row.ensures.whole.targets c.args.state b c.requires small)
