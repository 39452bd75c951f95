use Rattle.std.proofs.Common.{ℕ, List, sym, ap, ◌∙◌}
use Rattle.tree_row.specs.Known.{known_at}
use Rattle.tree_row.proofs.Knowledge.{other_place}
use Rattle.tree_row.proofs.known.KnownWords.learn.Goals as goal

pub returns-clause-learns : goal.returns-clause-learns
returns-clause-learns c = record {
  there = c.in_ok-insert.ensures.updates.1;
  others = λ at other. c.in_ok-insert.ensures.updates.2 at (other_place c.args.place at (λ e. other (sym e)))
      ∙ ap (λ (z : ℕ × List (ℕ × ℕ)). known_at z.1 at) c.self.view_is;
}
