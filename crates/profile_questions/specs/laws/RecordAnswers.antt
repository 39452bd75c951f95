-- What records say of names, and what rules say of them.
use Rattle.std.proofs.Common.{◌≡◌, ◌≢◌, ◌↔◌, ℕ, Bool, true, false, List, slice_index_or, refl, sym, ◌∙◌}
use Rattle.std.proofs.Common.{subst, arith}
use Rattle.names.specs.Bytes.{are_bytes}
use Rattle.names.specs.declared.permissions.Permission.{Permission}
use Rattle.names.specs.declared.permissions.Perms.{Perms}
use Rattle.names.specs.declared.kind.RuleKind.TheVariants.{Allow, Deny}
use Rattle.names.specs.declared.verdict.Verdict.TheVariants.{Allowed}
use Rattle.names.specs.declared.record.Record.{Record}
use Rattle.names.specs.Least.{hits_of}
use Rattle.names.specs.Records.{IsTold}
use Rattle.names.specs.laws.LeastNumbers.{least_there, least_none, least_some, none_least}
use Rattle.rule_globs.specs.Rules.{RuleValue}
use Rattle.rule_globs.specs.Verdict.{Hits, IsVerdict}
use Rattle.automaton_rows.specs.Automata.{Automaton, state_after}
use Rattle.glob_automaton.specs.Automata.{IsAutomatonOf}
use Rattle.glob_automaton.specs.Least.{IsLeastRecord}
use Rattle.profile_questions.specs.declared.answer.Answer.{Answer}
use Rattle.profile_questions.specs.declared.answer.Answer.TheVariants as answer
use Rattle.profile_questions.specs.Questions.{IsAnswer, IsToldAs}
use Rattle.profile_questions.specs.inner.Marks.{AreMarked}

module _ (rules : List RuleValue) (name : List ℕ) (r : Record) (least : IsLeastRecord rules name r) where
  deny_above : (p : Permission) (n : ℕ) → Hits rules Deny p name n → n ≢ 0
  deny_above p n h none = let e : ⊥ = omega (arith, h.1.0, none) in e

  allow_above : (p : Permission) (n : ℕ) → Hits rules Allow p name n → n ≢ 0
  allow_above p n h none = let e : ⊥ = omega (arith, h.1.0, none) in e

  told_allowed : (ask : Perms) → IsTold r ask Allowed → IsVerdict rules name ask Allowed
  told_allowed ask f = (
    λ n d. let there = least_there (Hits rules Deny d.0 name) (hits_of r d.0).deny n (least d.0).1 d.2 in
        f.0 (hits_of r d.0).deny (deny_above d.0 (hits_of r d.0).deny there.0, (d.0, d.1, refl)),
    λ p m. f.1 p (m.0, none_least (Hits rules Allow p name) (hits_of r p).allow (least p).0 m.1),
  )

  allowed_told : (ask : Perms) → IsVerdict rules name ask Allowed → IsTold r ask Allowed
  allowed_told ask v = (
    λ n t. v.0 n (
      t.1.0,
      t.1.1,
      subst (Hits rules Deny t.1.0 name) t.1.2
          (least_some (Hits rules Deny t.1.0 name) (hits_of r t.1.0).deny (least t.1.0).1 (λ z. t.0 (sym t.1.2 ∙ z))),
    ),
    λ p t. v.1 p (t.0, λ n h. least_none (Hits rules Allow p name) (hits_of r p).allow (allow_above p) (least p).0 t.1 n h),
  )

  pub answer_told : (wanted : Answer) → IsToldAs wanted r ↔ IsAnswer wanted rules name
  answer_told answer.Any = (λ h. tt, λ h. tt)
  answer_told (answer.Allowed ask) = (told_allowed ask, allowed_told ask)
  answer_told (answer.Refused ask) = (λ f. λ v. f (allowed_told ask v), λ f. λ t. f (told_allowed ask t))

-- a state is marked exactly where the rules say what is wanted of the names that lead to it
pub marked_answer : (rules : List RuleValue) (a : Automaton) (wanted : Answer) (marks : List Bool) (name : List ℕ) →
    IsAutomatonOf rules a → AreMarked a wanted marks → are_bytes name →
    (slice_index_or marks (state_after a name) false ≡ true) ↔ IsAnswer wanted rules name
marked_answer rules a wanted marks name is are bytes =
    let least = is.least name bytes in
    let mark = are (state_after a name) least.0 least.1 in
    let told = answer_told rules name least.0 least.2 wanted in
    (λ e. told.0 (mark.0 e), λ h. mark.1 (told.1 h))
