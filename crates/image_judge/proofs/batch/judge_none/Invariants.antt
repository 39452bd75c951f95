-- Nothing is judged so far.
use Rattle.std.proofs.Common.{◌≡◌, ◌<◌, ℕ, Some, length, slice_get}
use Rattle.image_judge.specs.Answers.{no_answer}
use Rattle.image_judge.specs.declared.answer.Answer.{Answer}
use Rattle.image_judge.proofs.batch.judge_none.Given as goal

abbrev pub invariant-loop-place : goal.invariant-loop-place
invariant-loop-place l = record {
  long : length l.answers ≡ length l.fn.answers;
  none : (i : ℕ) (a : Answer) → i < l.place → slice_get l.answers i ≡ Some a → a ≡ no_answer;
}
