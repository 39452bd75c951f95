use Rattle.std.proofs.Common.{◌≡◌, List, Contains, subst, rules}
use mathlib.Core.Logic.{◌⊎◌}
use Rattle.verdict_cache.specs.StructQuestions.{asked_of}
use Rattle.verdict_cache.specs.Questions.{Asked, Kept}
use Rattle.kept_verdicts.specs.KeptFiles.{kept_of}
use Rattle.kept_verdicts.proofs.Entries.{before_keep}
use Rattle.kept_verdicts.proofs.kept.KeptVerdicts.keep.Goals as goal

pub returns : goal.returns
returns c e there =
    let mine : c.in-Some.cache.entries ≡ c.args.self.now = search rules in
    let asked = asked_of c.args.question in
    let kept = kept_of c.args.room.now c.args.file.now in
    subst (λ (es : List (Asked × Kept)). Contains es e ⊎ (e ≡ (asked, kept))) mine (before_keep asked kept c.in-Some.cache
    c.keep-refused.new.self c.keep-refused.result c.entries_stay.ensures.keep c.keep-refused.ensures.ok c.keep-refused.ensures.err
    e there)
