-- The lines of an import's account: the place of something that isn't taken as written, what it is, what that changes, and its text.
use Rattle.std.specs.Prelude.{ℕ, List, ◌++◌, codes}
use Rattle.apparmor_rules.specs.declared.what.What.{What}
use Rattle.apparmor_rules.specs.ShownTexts.{shown_text}
use Rattle.apparmor_rules.specs.Whats.{joined}
use Rattle.rule_explain.specs.declared.place.Place.{Place}
use Rattle.apparmor_rules.specs.declared.effect.Effect.{Effect}
use Rattle.apparmor_rules.specs.EffectText.{effect_text}
use Rattle.import_origins.specs.PlaceText.{place_text}

abbrev pub text_of_effect : Effect → List ℕ
text_of_effect effect = effect_text effect.chosen effect.on_chosen effect.on_other

-- `wider for others: owner`, and the end of the line
abbrev pub change_told : Effect → List ℕ → List ℕ
change_told effect bytes = text_of_effect effect ++ (codes ": " ++ (shown_text bytes ++ codes "\n"))

-- `2:1: owner: wider for others: owner`, and the end of the line
abbrev pub account_line : Place → List What → Effect → List ℕ → List ℕ
account_line place whats effect bytes = place_text place ++ (codes ": " ++ (joined whats ++ (codes ": " ++ change_told effect bytes)))
