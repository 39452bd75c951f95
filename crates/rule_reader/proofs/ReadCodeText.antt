-- A whole text, part by part.
use Rattle.std.proofs.Common.{◌≡◌, ℕ, true, false, List, [], ◌∷◌, length, Result, Ok, refl, ap, ◌∙◌, arith}
use Rattle.std.proofs.lemmas.Bool.{eqb-true}
use Rattle.std.specs.Prelude.{◌==◌, IsTrue}
use Rattle.rule_reader.specs.declared.reader.local_fault.LocalFault.{LocalFault}
use Rattle.rule_profile.specs.Profile.{RuleValue, ProfileValue}
use Rattle.rule_reader.specs.ReadSteps.{◌>>=◌, syntax}
use Rattle.rule_reader.specs.ReadWords.{blank}
use Rattle.rule_reader.specs.ReadHeader.{header_at}
use Rattle.rule_profile.specs.Readable.{is_profile}
use Rattle.rule_reader.specs.ReadText.{rules_at, end_at, text_at}
use Rattle.rule_reader.proofs.CanonTrees.{read_is_profile}
use Rattle.rule_reader.proofs.TakeTexts.{text_takes}

abbrev value : List ℕ → List RuleValue → ProfileValue
value name rules = record { name = name; rules = rules }

abbrev ends_as : ProfileValue → Result (Unit {0}) LocalFault → Result ProfileValue LocalFault
ends_as p end = end >>= λ _. Ok p

-- all parts were read, and these bytes are left
text_parts : (bytes from name rest inside behind past : List ℕ) (rules : List RuleValue) → blank bytes ≡ Ok from → header_at from
    ≡ Ok (name, rest) → blank rest ≡ Ok inside → rules_at 1024 inside ≡ Ok (rules, behind) → blank behind ≡ Ok past
    → text_at bytes ≡ ends_as (value name rules) (end_at past)
unfolding text_at
text_parts bytes from name rest inside behind past rules h1 h2 h3 h4 h5 = rw (h1, h2, h3, h4, h5) refl

not_ended : (bytes : List ℕ) → length bytes == 0 ≡ false → end_at bytes ≡ syntax bytes
not_ended [] h = absurd cc
not_ended (b ∷ bytes) h = refl

ended : (bytes : List ℕ) → length bytes == 0 ≡ true → end_at bytes ≡ Ok tt
ended [] h = refl
ended (b ∷ bytes) h = let e : length (b ∷ bytes) ≡ 0 = eqb-true (length (b ∷ bytes)) 0 h in absurd (omega arith)

pub text_goes_on : (bytes from name rest inside behind past : List ℕ) (rules : List RuleValue) → blank bytes ≡ Ok from → header_at from
    ≡ Ok (name, rest) → blank rest ≡ Ok inside → rules_at 1024 inside ≡ Ok (rules, behind) → blank behind ≡ Ok past
    → length past == 0 ≡ false → text_at bytes ≡ syntax past
text_goes_on bytes from name rest inside behind past rules h1 h2 h3 h4 h5 e =
    text_parts bytes from name rest inside behind past rules h1 h2 h3 h4 h5 ∙ ap (ends_as (value name rules)) (not_ended past e)

pub text_done : (bytes from name rest inside behind past : List ℕ) (rules : List RuleValue) → blank bytes ≡ Ok from → header_at from
    ≡ Ok (name, rest) → blank rest ≡ Ok inside → rules_at 1024 inside ≡ Ok (rules, behind) → blank behind ≡ Ok past
    → length past == 0 ≡ true → text_at bytes ≡ Ok (value name rules)
text_done bytes from name rest inside behind past rules h1 h2 h3 h4 h5 e =
    text_parts bytes from name rest inside behind past rules h1 h2 h3 h4 h5 ∙ ap (ends_as (value name rules)) (ended past e)

-- what is read is a profile that can be read
pub text_is_profile : (text : List ℕ) (p : ProfileValue) → text_at text ≡ Ok p → IsTrue (is_profile p)
text_is_profile text p e = read_is_profile text p (text_takes text p e)
