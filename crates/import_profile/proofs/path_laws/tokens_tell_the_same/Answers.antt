-- Choices and leads are determined by tokens.
use Rattle.import_profile.proofs.GroupLaws.{same_choice, same_leads}
use Rattle.import_profile.proofs.path_laws.tokens_tell_the_same.Goals as goal

pub returns-clause-choices : goal.returns-clause-choices
returns-clause-choices c = same_choice

pub returns-clause-leads : goal.returns-clause-leads
returns-clause-leads c = same_leads
