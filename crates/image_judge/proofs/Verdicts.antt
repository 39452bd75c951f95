-- The verdict on grounds in numbers.
use Rattle.std.proofs.Common.{◌≡◌, ◌≢◌, ℕ, zero, suc, Bool, true, false, refl, sym, ap, ◌∙◌, arith, if◌then◌else◌, ◌==◌}
use Rattle.std.proofs.lemmas.Bool.{ne_eqb}
use Rattle.names.specs.Grounds.{HasNone, IsVerdictOn}
use Rattle.names.specs.declared.judgment.Grounds.{Grounds}
use Rattle.names.specs.declared.verdict.Verdict.{Verdict}
use Rattle.names.specs.declared.verdict.Verdict.TheVariants.{Denied, NoRule, Allowed}
use Rattle.image_judge.specs.Answers.{answer_of}
use Rattle.image_judge.specs.declared.answer.Answer.{Answer}
use Rattle.image_judge.specs.Sets.{number_of}
use Rattle.image_judge.proofs.Sums.{none_of_zero, zero_of_none}

-- the numbers that are selected are those of a verdict on the grounds
pub chosen : (g : Grounds) (steps verdict told missing : ℕ) (is_denied : Bool) → (is_denied ≡ true → g.rule ≢ 0) →
    (is_denied ≡ false → g.rule ≡ 0) → missing ≡ number_of g.missing →
    verdict ≡ (if is_denied then 2 else (if missing == 0 then 1 else 3)) → told ≡ (if is_denied then 0 else missing) →
    (v : Verdict) × IsVerdictOn g v
    × ◌≡◌ {A = Answer} (record { steps = steps; verdict = verdict; rule = g.rule; missing = told }) (answer_of v steps)
chosen g steps verdict told missing true there gone m v t =
    (Denied g.rule, (there refl, refl), λ i. record { steps = steps; verdict = v i; rule = g.rule; missing = t i })
chosen g steps verdict told zero false there gone m v t =
    (Allowed, (gone refl, none_of_zero g.missing (sym m)), λ i. record { steps = steps; verdict = v i; rule = gone refl i; missing = t i })
chosen g steps verdict told (suc n) false there gone m v t =
    let some : ¬ (HasNone g.missing) = λ none. let nothing = zero_of_none g.missing none in absurd (omega (arith, m, nothing)) in
    let more : (suc n == 0) ≡ false = ne_eqb (suc n) 0 (λ e. absurd (omega (arith, e))) in
    let no_rule : verdict ≡ 3 = v ∙ ap (λ b. if b then 1 else 3) more in (
      NoRule g.missing,
      (gone refl, some, refl),
      λ i. record {
        steps = steps;
        verdict = no_rule i;
        rule =
            gone refl i;
        missing = (t ∙ m) i;
      },
    )
