-- The lines that answer opens and judged links, without their line feeds.
use Rattle.std.specs.Prelude.{ℕ, List, ◌++◌, codes, decimal}
use Rattle.mediation.specs.Links as linking
use Rattle.mediation.specs.Links.{LinkAnswered}
use Rattle.mediation.specs.Opens.{Answered, judged, failed, no_profile}
use Rattle.names.specs.Errors.{errno_text}
use Rattle.rule_judge.specs.Links.{link_verdict_text}
use Rattle.names.specs.VerdictText.{verdict_text}

-- the end of a line: the node, and both versions
abbrev pub versions_text : ℕ → ℕ → ℕ → List ℕ
versions_text node tree policy = codes " node " ++ decimal node ++ codes " tree " ++ decimal tree ++ codes " policy " ++ decimal policy

abbrev pub answered_text : Answered → List ℕ
answered_text (judged j tree policy) = verdict_text j.verdict ++ codes " " ++ j.name ++ versions_text j.node tree policy
answered_text (failed errno tree) = errno_text errno ++ codes " tree " ++ decimal tree
answered_text (no_profile policy) = codes "no profile policy " ++ decimal policy

abbrev pub link_answered_text : LinkAnswered → List ℕ
link_answered_text (linking.made j tree policy) = codes "linked" ++ versions_text j.node tree policy
link_answered_text (linking.not_allowed j tree policy) = link_verdict_text j.verdict ++ codes " " ++ j.name
    ++ versions_text j.node tree policy
link_answered_text (linking.failed errno tree) = errno_text errno ++ codes " tree " ++ decimal tree
link_answered_text (linking.no_profile policy) = codes "no profile policy " ++ decimal policy
