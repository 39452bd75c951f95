use Rattle.std.proofs.Common.{◌≡◌, ◌<◌, ℕ, length, sym, ap, ◌∙◌, subst, arith}
use Rattle.automaton_rows.specs.Automata.{target}
use Rattle.automaton_rows.proofs.dfa.Dfa.target.Goals as goal

pub returns-clause-there : goal.returns-clause-there
returns-clause-there c =
    subst (λ z. z < length c.args.self.now.rows)
    (sym (c.from.ensures ∙ c.target_of.ensures ∙ c.row.ensures.targets c.args.byte c.ranges.byte.fits))
    (c.row.ensures.whole.targets c.args.state c.args.byte c.requires c.ranges.byte.fits)
