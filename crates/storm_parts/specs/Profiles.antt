-- Profiles of texts.
use Rattle.std.specs.Prelude.{ℕ, List}
use Rattle.matcher.specs.declared.profiles.AnyProfile.{AnyProfile}
use Rattle.matcher.specs.declared.profiles.AnyProfile.TheVariants.{Compiled, Loaded}
use Rattle.rule_profile.specs.Profile.{profile_value}
use Rattle.rule_reader.specs.Grammar.{ReadsAs}

-- it is compiled from the profile that the text reads as
abbrev pub IsCompiledFrom : List ℕ → AnyProfile → Type 0
IsCompiledFrom text (Compiled compiled) = ReadsAs text (profile_value compiled.profile)
IsCompiledFrom text (Loaded _) = ⊥
