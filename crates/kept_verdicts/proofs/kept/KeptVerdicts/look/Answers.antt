use Rattle.std.proofs.Common.{◌≡◌, List, Contains, subst, rules}
use Rattle.verdict_cache.specs.StructQuestions.{asked_of}
use Rattle.verdict_cache.specs.Questions.{Asked, Kept}
use Rattle.kept_verdicts.proofs.Entries.{before_look}
use Rattle.kept_verdicts.proofs.kept.KeptVerdicts.look.Goals as goal

pub returns-in_default-look-clause-entries : goal.returns-in_default-look-clause-entries
returns-in_default-look-clause-entries c e there =
    let mine : c.in-Some.cache.entries ≡ c.args.self.now = search rules in
    subst (λ (es : List (Asked × Kept)). Contains es e) mine (before_look _ (asked_of c.args.question) c.in-Some.cache c.look.new.self
    c.look.result c.entries_stay.ensures.look c.look.ensures.used c.look.ensures.err e there)

pub returns-clause-entries : goal.returns-clause-entries
returns-clause-entries c e there =
    let mine : c.in-Some.cache.entries ≡ c.args.self.now = search rules in
    subst (λ (es : List (Asked × Kept)). Contains es e) mine (before_look _ (asked_of c.args.question) c.in-Some.cache c.look.new.self
    c.look.result c.entries_stay.ensures.look c.look.ensures.used c.look.ensures.err e there)
