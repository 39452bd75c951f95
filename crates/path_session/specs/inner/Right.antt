-- When kept verdicts are right, by the changes of the tree and of the policy that were seen.
use Rattle.std.specs.Prelude.{List, Contains}
use Rattle.directory_tree.specs.declared.change.Change.{Change}
use Rattle.mediation.specs.Deeds.{Deed}
use Rattle.justification.specs.declared.answer.Answer.TheVariants.{Judged}
use Rattle.justification.specs.Justified.{Justified}
use Rattle.verdict_cache.specs.Questions.{Asked, Kept}
use Rattle.path_session.specs.Sessions.{IsNameJudged}

-- the verdict is a justified answer to what was asked, and the name is that of the file that was judged
pub record IsRightFor (changes : List Change) (deeds : List Deed) (asked : Asked) (kept : Kept) : Type 0 where
  pub justified : Justified asked.profile asked.path asked.ask changes deeds (Judged kept.verdict kept.node asked.tree asked.policy)
  pub named : IsNameJudged changes asked.path asked.ask (Judged kept.verdict kept.node asked.tree asked.policy) kept.name

abbrev pub AreRight : List Change → List Deed → List (Asked × Kept) → Type 0
AreRight changes deeds entries = (e : Asked × Kept) → Contains entries e → IsRightFor changes deeds e.0 e.1
