-- What is found about rules is one list.
use Rattle.std.proofs.Common.{◌≡◌, ⊎_elim, ℕ, ◌+◌, true, List, [], ◌∷◌, Some, map, get_or, slice_get}
use Rattle.std.proofs.Common.{refl, sym, ap, ◌∙◌, subst, arith}
use Rattle.std.specs.List.{All, flat_map}
use Rattle.std.proofs.lemmas.Bool.{cases_Bool}
use Rattle.std.proofs.lemmas.List.{same_lists}
use Rattle.std.proofs.lemmas.List.Elements.{All-head, All-tail}
use Rattle.std.proofs.lemmas.Option.{slice_get-get_or}
use Rattle.names.specs.laws.PermissionSets.{same_perms}
use Rattle.names.specs.Permissions.{has}
use Rattle.names.specs.declared.permissions.Permission.{Permission}
use Rattle.names.specs.declared.permissions.Perms.{Perms}
use Rattle.rule_globs.specs.Rules.{RuleValue}
use Rattle.rule_influence.specs.laws.IdleStandIns.{one_list}
use Rattle.rule_influence.specs.Influence.{AreDecided}
use Rattle.rule_influence.specs.StandIns.{AreTheStandIns}
use Rattle.rule_reader.specs.Spans.{spans_of}
use Rattle.trace_lint.specs.Findings.{AreFindings, FindingValue, first_idle}
use Rattle.trace_lint.specs.LintOutput.{IsLinted, answer_of, finding_in}
use Rattle.trace_lint.specs.Parts.{case_of}
use Rattle.trace_lint.specs.declared.findings.Part.{Part}
use Rattle.trace_lint.proofs.PartLaws.{not_both}
use Rattle.trace_lint.proofs.Tests.{one_test}
use Rattle.trace_report.specs.Output.{Output}
use Rattle.trace_report.specs.declared.format.Format.{Format}

module _ (rules : List RuleValue) where
  -- what one list has of a rule, the other has
  kept : (one other : List Perms) → AreDecided rules one → AreDecided rules other → (i : ℕ) (a b : Perms) (p : Permission) →
      slice_get one i ≡ Some a → slice_get other i ≡ Some b → has a p ≡ true → has b p ≡ true
  kept one other are be i a b p at there is = ⊎_elim (λ h. h)
      (λ not. absurd (not_both rules (i + 1) p (are.decides i a p at is) (be.idle i b p there not)))
      (cases_Bool (has b p))

  pub one_decided : (one other : List Perms) → AreDecided rules one → AreDecided rules other → one ≡ other
  one_decided one other are be = same_lists one other (are.each ∙ sym be.each)
      (λ k d lt.
      let at = slice_get-get_or one k d lt in
      let there = slice_get-get_or other k d (omega (arith, lt, are.each, be.each)) in
      same_perms (get_or one k d) (get_or other k d)
      (λ p. one_test (has (get_or one k d) p) (has (get_or other k d) p)
      (kept one other are be k (get_or one k d) (get_or other k d) p at there)
      (kept other one be are k (get_or other k d) (get_or one k d) p there at)))

  module _ (decided : List Perms) where
    abbrev pub Stand : FindingValue → Type 0
    Stand f = AreTheStandIns rules (case_of rules f.part) f.stand_ins

    abbrev pub IsFirst : FindingValue → Type 0
    IsFirst f = f.idle ≡ first_idle decided (case_of rules f.part).perms f.stand_ins

    one_finding : (f g : FindingValue) → f.part ≡ g.part → Stand f → Stand g → IsFirst f → IsFirst g → f ≡ g
    one_finding f g part are be first second =
        let lists : f.stand_ins ≡ g.stand_ins =
        one_list rules (case_of rules g.part) f.stand_ins g.stand_ins
        (subst (λ (z : Part). AreTheStandIns rules (case_of rules z) f.stand_ins) part are) be in
        let idle : f.idle ≡ g.idle = first
        ∙ ap (λ (z : Part). first_idle decided (case_of rules z).perms f.stand_ins) part
        ∙ ap (first_idle decided (case_of rules g.part).perms) lists ∙ sym second in
        ap (λ (z : Part). record { part = z; stand_ins = f.stand_ins; idle = f.idle }) part
        ∙ ap (λ (z : List ℕ). record { part = g.part; stand_ins = z; idle = f.idle }) lists
        ∙ ap (λ z. record { part = g.part; stand_ins = g.stand_ins; idle = z }) idle

    pub same_findings : (one other : List FindingValue) →
        map (λ (f : FindingValue). f.part) one ≡ map (λ (f : FindingValue). f.part) other →
        All Stand one → All Stand other → All IsFirst one → All IsFirst other → one ≡ other
    same_findings [] [] parts are be first second = refl
    same_findings [] (g ∷ other) parts are be first second = cc (parts)
    same_findings (f ∷ one) [] parts are be first second = cc (parts)
    same_findings (f ∷ one) (g ∷ other) parts are be first second =
        let here : f.part ≡ g.part = cc (parts) in
        let after : map (λ (z : FindingValue). z.part) one ≡ map (λ (z : FindingValue). z.part) other = cc (parts) in
        ap (λ (z : FindingValue). z ∷ one) (one_finding f g here (All-head Stand f one are) (All-head Stand g other be)
        (All-head IsFirst f one first) (All-head IsFirst g other second))
        ∙ ap (λ z. g ∷ z) (same_findings one other after (All-tail Stand f one are) (All-tail Stand g other be)
        (All-tail IsFirst f one first) (All-tail IsFirst g other second))

    one_of_findings : (one other : List FindingValue) → AreFindings rules decided one → AreFindings rules decided other → one ≡ other
    one_of_findings one other are be =
        same_findings one other (are.parts ∙ sym be.parts) are.stand_ins be.stand_ins are.idle be.idle

pub one_output : (format : Format) (text : List ℕ) (rules : List RuleValue) (one other : Output) → IsLinted format text rules one →
    IsLinted format text rules other → one ≡ other
one_output format text rules one other (decided, are, (findings, found, is)) (again, be, (others, met, so)) =
    let same : findings ≡ others = one_of_findings rules decided findings others found
    (subst (λ (z : List Perms). AreFindings rules z others) (one_decided rules again decided be are) met) in
    is ∙ ap (λ (z : List FindingValue). answer_of (flat_map (finding_in format text rules (spans_of text)) z)) same ∙ sym so
