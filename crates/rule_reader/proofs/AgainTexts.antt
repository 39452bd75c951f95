-- What is written in the grammar is read, as what it means.
use Rattle.std.proofs.Common.{◌≡◌, ℕ, List, [], ◌∷◌, ◌++◌, Ok, refl, ap, ◌∙◌}
use Rattle.rule_profile.specs.Profile.{RuleValue, ProfileValue}
use Rattle.rule_reader.specs.ReadWords.{blank}
use Rattle.rule_reader.specs.ReadHeader.{header_at}
use Rattle.rule_reader.specs.ReadText.{rules_at, text_at}
use Rattle.rule_reader.specs.GrammarWords.{print_blank, print_last}
use Rattle.rule_reader.specs.Grammar.{print_header, header_means, print_rules, rules_mean, WrittenText, print_text, IsText, text_means}
use Rattle.rule_reader.specs.Grammar.{ReadsAs}
use Rattle.rule_reader.proofs.AgainWords.{blank_again, past_again}
use Rattle.rule_reader.proofs.AgainHeader.{header_again, header_no_blank}
use Rattle.rule_reader.proofs.AgainRules.{rules_again, rules_no_blank}

text_steps : (bytes from behind inside past name : List ℕ) (rules : List RuleValue) → blank bytes ≡ Ok from → header_at from
    ≡ Ok (name, behind) → blank behind ≡ Ok inside → rules_at 1024 inside ≡ Ok (rules, past) → blank past ≡ Ok []
    → text_at bytes ≡ Ok (record { name = name; rules = rules })
unfolding text_at
text_steps bytes from behind inside past name rules e1 e2 e3 e4 e5 = rw (e1, e2, e3, e4, e5) refl

pub text_again : (t : WrittenText) → IsText t → text_at (print_text t) ≡ Ok (text_means t)
unfolding print_text
text_again t h =
    let past : List ℕ = print_blank t.past ++ print_last t.last in
    let inside : List ℕ = print_rules t.rules ++ 125 ∷ past in
    let behind : List ℕ = print_blank t.inside ++ inside in
    let from : List ℕ = print_header t.header ++ 123 ∷ behind in
    text_steps (print_blank t.start ++ from) from behind inside past (header_means t.header) (rules_mean t.rules)
    (blank_again t.start from h.start (header_no_blank t.header (123 ∷ behind) h.header)) (header_again t.header behind h.header)
    (blank_again t.inside inside h.inside (rules_no_blank t.rules past h.rules)) (rules_again 1024 t.rules past h.rules h.rules_fit)
    (past_again t.past t.last h.past h.last)

-- a text in the grammar is read, as the profile that it means
pub read_again : (text : List ℕ) (p : ProfileValue) → ReadsAs text p → text_at text ≡ Ok p
read_again text p h = ap text_at h.bytes ∙ text_again h.written h.valid ∙ ap (λ (x : ProfileValue). Ok x) h.means
