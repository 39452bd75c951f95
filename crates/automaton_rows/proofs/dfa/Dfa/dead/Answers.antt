use Rattle.std.proofs.Common.{◌∙◌, ◌++◌, ◌∷◌, [], ap, length}
use Rattle.automaton_rows.proofs.DeadAutomaton.{dead_whole}
use Rattle.automaton_rows.proofs.dfa.Dfa.dead.Goals as goal

pub of-requires-clause-whole : goal.of-requires-clause-whole
of-requires-clause-whole c = dead_whole _ _ _
    (c.in_ok-push.ensures.items ∙ ap (λ z. z ++ record { last = 255; target = 0 } ∷ []) c.new-ranges.ensures.items)
    (c.in_ok-push-2.ensures.items ∙ ap (λ z. z ++ 0 ∷ []) c.new-firsts.ensures.items)
    (ap length (c.in_ok-push-3.ensures.items ∙ ap (λ z. z ++ c.none.result ∷ []) c.new-records.ensures.items))
