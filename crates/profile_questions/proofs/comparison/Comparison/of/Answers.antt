-- A fault of the search is one of the question, and its visits are those of the rules that are compared.
use Rattle.std.proofs.Common.{◌≡◌, subst}
use Rattle.automaton_rows.specs.Automata.{Automaton}
use Rattle.automaton_search.specs.Visits.{AreAllVisits, VisitsValue}
use Rattle.glob_automaton.specs.Automata.{IsAutomatonOf}
use Rattle.profile_questions.specs.Faults.{of_search}
use Rattle.profile_questions.specs.Names.{CompiledValue}
use Rattle.profile_questions.specs.inner.Comparisons.{IsComparison}
use Rattle.profile_questions.proofs.ReachedNames.{no_fault, passed_on, search_fault}
use Rattle.profile_questions.proofs.comparison.Comparison.of.Goals as goal

module _ (one two three : CompiledValue) (a b c : Automaton) (all : VisitsValue) (e : a ≡ one.automaton) (f : b ≡ two.automaton)
    (g : c ≡ three.automaton) where
  comparison : IsAutomatonOf one.rules a → IsAutomatonOf two.rules b → IsAutomatonOf three.rules c → AreAllVisits a b c all →
      IsComparison one two three all
  comparison first second third visits = record {
    first = subst (IsAutomatonOf one.rules) e first;
    second = subst (IsAutomatonOf two.rules) f second;
    third = subst (IsAutomatonOf three.rules) g third;
    visits = subst (λ (z : Automaton). AreAllVisits z two.automaton three.automaton all) e
        (subst (λ (z : Automaton). AreAllVisits a z three.automaton all) f
        (subst (λ (z : Automaton). AreAllVisits a b z all) g visits));
  }

pub returns-in_err-visits-clause-err : goal.returns-in_err-visits-clause-err
returns-in_err-visits-clause-err c =
    passed_on c.from_residual.result (of_search c.in_err-visits.field-0.0) _ c.from_residual.ensures.1
    (search_fault c.automaton.result.now c.automaton-2.result.now c.automaton-3.result.now _ _ _
    c.automaton.ensures.of_rules c.automaton-2.ensures.of_rules c.automaton-3.ensures.of_rules
    c.in_err-visits.field-0.0 c.in_err-visits.ensures.err)

pub returns-clause-few : goal.returns-clause-few
returns-clause-few c =
    no_fault c.automaton.result.now c.automaton-2.result.now c.automaton-3.result.now _ _ _
    c.automaton.ensures.of_rules c.automaton-2.ensures.of_rules c.automaton-3.ensures.of_rules c.in_ok-visits.ensures.few

pub invariant_of-result : goal.invariant_of-result
invariant_of-result c =
    comparison c.args.first.now c.args.second.now c.args.third.now c.automaton.result.now c.automaton-2.result.now
    c.automaton-3.result.now c.in_ok-visits.visits c.automaton.ensures.automaton c.automaton-2.ensures.automaton
    c.automaton-3.ensures.automaton c.automaton.ensures.of_rules c.automaton-2.ensures.of_rules c.automaton-3.ensures.of_rules
    c.in_ok-visits.ensures.ok
