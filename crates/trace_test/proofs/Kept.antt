-- The rules that a test has kept are those that are published.
use Rattle.std.proofs.Common.{◌≡◌, ℕ, Bool, true, false, List, [], ◌∷◌, ◌++◌, Option, Some, None, Result, Ok, Err, refl, sym, ap, ◌∙◌}
use Rattle.std.specs.Prelude.{bytes_eq, codes, decimal, ◌+◌, if◌then◌else◌}
use Rattle.names.specs.declared.errors.Errno.{Errno}
use Rattle.names.specs.Errors.{errno_text}
use Rattle.directory_tree.specs.declared.change.Change.{Change}
use Rattle.directory_tree.specs.Apply.{Changed}
use Rattle.directory_tree.specs.Plain.{outcome}
use Rattle.glob_automaton.specs.Automata.{StateLimit}
use Rattle.mediation.specs.Deeds.{Deed, Policy, policy_after, published_rules, removed}
use Rattle.mediation.specs.History.{History, after_link, link_answer, tree_version, with_change}
use Rattle.mediation.specs.Judge.{Judge, by_rules}
use Rattle.mediation.specs.Links.{LinkAnswered, made, not_allowed, failed, no_profile}
use Rattle.mediation.specs.laws.DeedLaws.{after_both}
use Rattle.rule_profile.specs.Profile.{ProfileValue}
use Rattle.rule_reader.specs.declared.fault.ReadFault.{ReadFault}
use Rattle.rule_reader.specs.ReadText.{outcome_of}
use Rattle.trace_script.specs.RunOutput.{Printed, change_of, change_printed, policy_printed, printed, profile_printed}
use Rattle.trace_script.specs.Script.{Command, publish, remove, alter, judge_open, judge_link}
use Rattle.trace_test.specs.Expectations.{answered}
use Rattle.trace_test.specs.Questions.{RulesByName, explain_text, judge_text, rules_after, rules_of}
use Rattle.test_script.specs.TestScript.{Asked, run, judge, explain}
use Rattle.trace_test.specs.inner.Published.{published_by, with_outcome, with_profile, with_rules, without_rules}
use Rattle.trace_test.specs.inner.Tests.{answered_with, rules_with}

rules_if : (b : Bool) (o p : Option Judge) → rules_of (if b then o else p) ≡ (if b then rules_of o else rules_of p)
rules_if true o p = refl
rules_if false o p = refl

one_published : (deeds : List Deed) (profile : ProfileValue) → rules_after (deeds ++ published_rules profile ∷ [])
    ≡ with_rules (rules_after deeds) profile.name profile.rules
one_published deeds profile = λ i name.
    (ap (λ (policy : Policy). rules_of (policy name)) (after_both (λ name. None) deeds (published_rules profile ∷ []))
    ∙ rules_if (bytes_eq profile.name name) (Some (by_rules profile.rules)) (policy_after deeds name)) i

one_removed : (deeds : List Deed) (own : List ℕ) → rules_after (deeds ++ removed own ∷ []) ≡ without_rules (rules_after deeds) own
one_removed deeds own = λ i name.
    (ap (λ (policy : Policy). rules_of (policy name)) (after_both (λ name. None) deeds (removed own ∷ []))
    ∙ rules_if (bytes_eq own name) None (policy_after deeds name)) i

module _ (limit : StateLimit) (history : History) where
  abbrev now : RulesByName
  now = rules_after history.deeds

  of_profile : (profile : ProfileValue) (b : Bool) → with_profile now profile b
      ≡ rules_after (profile_printed history profile b).history.deeds
  of_profile profile true = refl
  of_profile profile false = sym (one_published history.deeds profile)

  of_policy : (o : Result ProfileValue ReadFault) → with_outcome limit o now ≡ rules_after (policy_printed limit history o).history.deeds
  of_policy (Ok profile) = of_profile profile (limit.is_over profile.rules)
  of_policy (Err fault) = refl

  abbrev of_outcome : Change → Changed → Printed
  of_outcome c o = elim o [
    | Ok t ↦ record { text = codes "ok " ++ decimal (tree_version history + 1); history = with_change history c }
    | Err errno ↦ record { text = errno_text errno; history = history }
  ]

  after_change : (c : Change) (o : Changed) → now ≡ rules_after (of_outcome c o).history.deeds
  after_change c (Ok t) = refl
  after_change c (Err errno) = refl

  of_change : (r : Result Change Errno) → now ≡ rules_after (change_printed history r).history.deeds
  of_change (Err errno) = refl
  of_change (Ok c) = after_change c (outcome history.tree c)

  of_link : (old new : List ℕ) (a : LinkAnswered) → now ≡ rules_after (after_link history old new a).deeds
  of_link old new (made j tree policy) = refl
  of_link old new (not_allowed j tree policy) = refl
  of_link old new (failed errno tree) = refl
  of_link old new (no_profile policy) = refl

  kept_by : (c : Command) → published_by limit c now ≡ rules_after (printed limit history c).history.deeds
  kept_by (publish text) = of_policy (outcome_of text)
  kept_by (remove name) = sym (one_removed history.deeds name)
  kept_by (alter words) = of_change (change_of words)
  kept_by (judge_open profile path asked) = refl
  kept_by (judge_link profile old new) = of_link old new (link_answer history profile old new)

  kept_now : (c : Asked) → rules_with limit c now ≡ rules_after (answered limit history c).history.deeds
  kept_now (run c) = kept_by c
  kept_now (judge q) = refl
  kept_now (explain q) = refl

  -- what is kept after a command
  pub kept_with : (published : RulesByName) (c : Asked) → published ≡ now →
      rules_with limit c published ≡ rules_after (answered limit history c).history.deeds
  kept_with published c kept = ap (rules_with limit c) kept ∙ kept_now c

  -- and what is answered by it
  pub same_answer : (published : RulesByName) (c : Asked) → published ≡ now → answered_with limit history published c
      ≡ answered limit history c
  same_answer published (run c) kept = refl
  same_answer published (judge q) kept =
      let P : RulesByName → Printed = λ rules. record { text = judge_text rules q; history = history } in ap P kept
  same_answer published (explain q) kept =
      let P : RulesByName → Printed = λ rules. record { text = explain_text rules q; history = history } in ap P kept
