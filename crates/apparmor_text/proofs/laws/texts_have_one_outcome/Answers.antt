use Rattle.std.proofs.Common.{◌+◌, length, arith}
use Rattle.apparmor_text.specs.Texts.{at_start}
use Rattle.apparmor_text.proofs.WholeTexts.{one_from, some_from}
use Rattle.apparmor_text.proofs.laws.texts_have_one_outcome.Goals as goal

pub returns-clause-one : goal.returns-clause-one
returns-clause-one c text items others end other r q = one_from at_start text items others end other r q

pub returns-clause-some : goal.returns-clause-some
returns-clause-some c text = some_from (length text + 1) at_start text (omega arith)
