-- Of two names one is less, and a shortest name is at most each that is found.
use Rattle.std.proofs.Common.{◌≡◌, inl, inr, ℕ, List, Option, Some, None, refl, sym, ap}
use Rattle.automaton_search.specs.Order.{IsAtMost, IsLess}
use Rattle.profile_questions.specs.declared.answer.Answers.{Answers}
use Rattle.profile_questions.specs.Names.{ComparisonValue}
use Rattle.profile_questions.specs.Questions.{IsShortest}
use Rattle.profile_questions.proofs.laws.one_shortest_name.Goals as goal

module _ (irreflexive : (u : List ℕ) → ¬ (IsLess u u)) (transitive : (u v w : List ℕ) → IsLess u v → IsLess v w → IsLess u w) where
  the_same : (u v : List ℕ) → IsAtMost u v → IsAtMost v u → u ≡ v
  the_same u v (inl e) back = e
  the_same u v (inr less) (inl e) = sym e
  the_same u v (inr less) (inr greater) = absurd (irreflexive u (transitive u v u less greater))

  one_answer : (c : ComparisonValue) (answers : Answers) (one other : Option (List ℕ)) → IsShortest c answers one →
      IsShortest c answers other → one ≡ other
  one_answer c answers None None none nothing = refl
  one_answer c answers None (Some v) none is = absurd (none v is.0)
  one_answer c answers (Some u) None is none = absurd (none u is.0)
  one_answer c answers (Some u) (Some v) is was = ap Some (the_same u v (is.1 v was.0) (was.1 u is.0))

pub returns : goal.returns
returns c = one_answer c.names_are_in_one_order.ensures.irreflexive c.names_are_in_one_order.ensures.transitive
