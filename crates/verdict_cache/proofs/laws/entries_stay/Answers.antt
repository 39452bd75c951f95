use Rattle.verdict_cache.proofs.KeptEntries.{Contains-first, Contains-kept, Contains-found}
use Rattle.verdict_cache.proofs.laws.entries_stay.Goals as goal

pub returns-clause-look : goal.returns-clause-look
returns-clause-look c = Contains-first

pub returns-clause-keep : goal.returns-clause-keep
returns-clause-keep c = Contains-kept

pub returns-clause-found : goal.returns-clause-found
returns-clause-found c = Contains-found
