-- The path that the pattern is.
use Rattle.std.proofs.Common.{◌≡◌, ◌∙◌, ℕ, List, Option, Some, Result, Ok, Err, Bor, refl, ap}
use Rattle.std.specs.Prelude.{option_map}
use Rattle.rule_globs.specs.Rules.{ProfileValue}
use Rattle.rule_globs.specs.Tokens.{Token}
use Rattle.trace_questions.specs.Asked.{path_asked}
use Rattle.trace_questions.specs.Differences.{below_asked}
use Rattle.trace_questions.proofs.difference.Below.of.Goals as goal

asked_path : (pattern : List ℕ) (path : List Token) → path_asked pattern ≡ Ok path → below_asked (Some pattern) ≡ Ok (Some path)
asked_path pattern path e =
    let below : Result (List Token) (List ℕ) → Result (Option (List Token)) (List ℕ) =
    λ asked. elim asked [ Err told ↦ Err told | Ok taken ↦ Ok (Some taken) ] in
    ap below e

pub returns-in_ok-pattern_of-in-Some : goal.returns-in_ok-pattern_of-in-Some
returns-in_ok-pattern_of-in-Some c =
    let h = c.in_ok-pattern_of-in-Some.ensures in
    let given = ap (λ (o : Option (Bor (List ℕ))). below_asked (option_map (λ pattern. pattern.now) o)) c.in-Some.is in (
      Some h.0,
      given ∙ asked_path c.in-Some.pattern.now h.0 h.1,
      record { rules = ap (λ (p : ProfileValue). p.rules) h.2; restricted = refl },
    )
