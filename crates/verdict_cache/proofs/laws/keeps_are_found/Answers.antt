use Rattle.verdict_cache.proofs.KeptEntries.{kept_is_found, others_were_found}
use Rattle.verdict_cache.proofs.laws.keeps_are_found.Goals as goal

pub returns-clause-found : goal.returns-clause-found
returns-clause-found c = kept_is_found

pub returns-clause-others : goal.returns-clause-others
returns-clause-others c q other k kept cache differ found = others_were_found q other differ k kept cache found
