-- The canonical text of what was read is read as it again.
use Rattle.std.proofs.Common.{arith, ◌≡◌, subst, sym, List, ℕ}
use Rattle.std.proofs.lemmas.Grind.{common_steps}
use Rattle.rule_writer.specs.Canonical.{canonical}
use Rattle.rule_reader.specs.Grammar.{ReadsAs}
use Rattle.rule_profile.specs.Profile.{profile_value}
use Rattle.rule_writer.proofs.CanonTexts.{canonical_read}
use Rattle.rule_writer.proofs.writer.write.Goals as goal

pub returns-clause-again : goal.returns-clause-again
unfolding canonical
returns-clause-again c =
    let text : c.put-4.new.text.items ≡ canonical (profile_value c.args.profile.now) = grind (arith, common_steps) in
    subst (λ (x : List ℕ). ReadsAs x (profile_value c.args.profile.now)) (sym text) (canonical_read (profile_value c.args.profile.now)
    (c.profiles_can_be_read.ensures.kept c.args.profile.now))
