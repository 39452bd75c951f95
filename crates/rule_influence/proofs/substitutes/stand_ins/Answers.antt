-- No list has a stand-in at first, then those at the representatives are added one by one, and all of them in the end.
use Rattle.std.proofs.Common.{◌≡◌, ◌∙◌, ◌+◌, ℕ, List, Vec, Global, Some, Contains, slice_get, length, refl, sym, ap, subst, arith}
use Rattle.std.specs.Vec.{with_items}
use Rattle.std.proofs.lemmas.List.{with_items_is}
use Rattle.profile_questions.specs.Names.{ComparisonValue}
use Rattle.profile_questions.specs.declared.comparison.Records.{Records}
use Rattle.rule_profile.specs.Profile.{RuleValue, profile_value}
use Rattle.rule_influence.specs.StandIns.{IsAscending}
use Rattle.rule_influence.specs.declared.substitutes.IdleCase.{IdleCase}
use Rattle.rule_influence.specs.inner.Candidates.{IsCandidateFor}
use Rattle.rule_influence.specs.inner.Lists.{AreNotedAt, list_at}
use Rattle.rule_influence.proofs.ReversedSets.{pair_answer, pair_fault, passed_on}
use Rattle.rule_influence.proofs.StandInLists.{AreFoundSoFar, found_first, found_last, kept_more, noted_more}
use Rattle.rule_influence.proofs.substitutes.stand_ins.Goals.{in-Some+then-some_missing+in-Ok-name+in-Ok-note_name}
use Rattle.rule_influence.proofs.substitutes.stand_ins.Goals.{in-Some+else-some_missing, in_default-records}
use Rattle.rule_influence.proofs.substitutes.stand_ins.Goals as goal

-- lists that are written back
kept : (old : Vec (Vec ℕ Global) Global) (lists : List (Vec ℕ Global)) (new : Vec (Vec ℕ Global) Global) → new ≡ with_items old lists →
    length lists ≡ length old.items → new.items ≡ lists
kept old lists new is same =
    ap (λ (z : Vec (Vec ℕ Global) Global). z.items) is ∙ with_items_is old lists (same ∙ sym old.ok.0)

-- each list has all candidates
abbrev HaveAll : List (Vec ℕ Global) → List IdleCase → Records → List RuleValue → Type 0
HaveAll lists cases records rules = (i : ℕ) (idle : IdleCase) (n : ℕ) → slice_get cases i ≡ Some idle → IsAscending (list_at lists i) →
    IsCandidateFor rules idle records n → Contains (list_at lists i) n

none_missing : (lists same : List (Vec ℕ Global)) (cases : List IdleCase) (records : Records) (rules others : List RuleValue) →
    lists ≡ same → rules ≡ others → HaveAll lists cases records rules → HaveAll same cases records others
none_missing lists same cases records rules others is are all =
    subst (λ z. HaveAll z cases records others) is (subst (HaveAll lists cases records) are all)

pub loop-index-init : goal.loop-index-init
loop-index-init c = record {
  found = found_first c.args.pair.now.rules c.comparison.inside.visits.names c.args.cases.now c.in-Ok.lists.items
      (length c.args.cases.now) refl
      c.in-Ok.ensures;
}

pub loop-index-preserved : goal.loop-index-preserved
loop-index-preserved c =
    let names : c.comparison.inside.visits.names ≡ c.in_ok-comparison.comparison.names =
    ap (λ (z : ComparisonValue). z.names) c.comparison.view_is in
    let so_far : AreFoundSoFar c.args.pair.now.rules c.in_ok-comparison.comparison.names c.args.cases.now c.loop-index.index
    c.loop-index.lists.items =
    subst (λ (z : List (List ℕ)). AreFoundSoFar c.args.pair.now.rules z c.args.cases.now c.loop-index.index c.loop-index.lists.items) names
    c.loop-index.invariant.found in
    let rules : (profile_value c.profile-profile.result.now).rules ≡ c.args.pair.now.rules =
    c.profile-profile.ensures.rules ∙ c.rules-3.ensures.rules in
    record {
      found = subst (λ (z : List (List ℕ)). AreFoundSoFar c.args.pair.now.rules z c.args.cases.now (c.loop-index.index + 1)
          c.match-records.lists.items) (sym names)
          (elim c.match-records.branch [
            | in-Some+then-some_missing+in-Ok-name+in-Ok-note_name w ↦
                let noted : AreNotedAt c.args.pair.now.rules c.args.cases.now w.in-Some.records w.in-Ok-name.name.items
                c.loop-index.lists.items
                w.note_name.new.lists =
                subst (λ (z : List (Vec ℕ Global)). AreNotedAt c.args.pair.now.rules c.args.cases.now w.in-Some.records
                w.in-Ok-name.name.items z
                w.note_name.new.lists) w.deref_mut.ensures.value
                (subst (λ (z : List ℕ). AreNotedAt c.args.pair.now.rules c.args.cases.now w.in-Some.records z w.deref_mut.result.now
                w.note_name.new.lists) w.deref-then-some_missing.ensures.value
                (subst (λ (z : List RuleValue). AreNotedAt z c.args.cases.now w.in-Some.records w.deref-then-some_missing.result.now
                w.deref_mut.result.now w.note_name.new.lists) rules w.in-Ok-note_name.ensures)) in
                subst (λ (z : List (Vec ℕ Global)). AreFoundSoFar c.args.pair.now.rules c.in_ok-comparison.comparison.names
                c.args.cases.now
                (c.loop-index.index + 1) z)
                (sym (kept c.loop-index.lists w.note_name.new.lists c.match-records.lists w.lists-is noted.each))
                (noted_more c.args.pair.now.rules c.in_ok-comparison.comparison
                (c.in_ok-comparison.ensures.first ∙ c.rules.ensures.rules) (c.in_ok-comparison.ensures.second ∙ c.reversed.ensures)
                c.len-index-end.ensures.names c.args.cases.now c.loop-index.index w.in-Some.records w.in-Some.ensures.some
                w.in-Ok-name.name.items c.loop-index.lists.items w.note_name.new.lists w.in-Ok-name.ensures noted so_far)
            | in-Some+else-some_missing w ↦
                subst (λ (z : Vec (Vec ℕ Global) Global). AreFoundSoFar c.args.pair.now.rules c.in_ok-comparison.comparison.names
                c.args.cases.now (c.loop-index.index + 1) z.items) (sym w.lists-is)
                (kept_more c.args.pair.now.rules c.in_ok-comparison.comparison
                (c.in_ok-comparison.ensures.first ∙ c.rules.ensures.rules) (c.in_ok-comparison.ensures.second ∙ c.reversed.ensures)
                c.len-index-end.ensures.names c.args.cases.now c.loop-index.index w.in-Some.records w.in-Some.ensures.some
                c.loop-index.lists.items
                (none_missing w.deref.result.now c.loop-index.lists.items c.args.cases.now w.in-Some.records
                (profile_value c.profile-profile.result.now).rules c.args.pair.now.rules w.deref.ensures.value rules
                (w.some_missing.ensures w.if-some_missing.false))
                so_far)
            | in_default-records w ↦ absurd (omega (
              arith,
              w.in_default-records.ensures.none refl,
              c.loop-index-test.true,
              c.len-index-end.ensures.len,
            ))
          ]);
    }

pub returns-clause-ok : goal.returns-clause-ok
returns-clause-ok c =
    let names : c.comparison.inside.visits.names ≡ c.in_ok-comparison.comparison.names =
    ap (λ (z : ComparisonValue). z.names) c.comparison.view_is in
    found_last c.args.pair.now.rules c.in_ok-comparison.comparison
    (c.in_ok-comparison.ensures.first ∙ c.rules.ensures.rules) (c.in_ok-comparison.ensures.second ∙ c.reversed.ensures)
    c.len-index-end.ensures.names c.args.cases.now c.loop-index.index c.loop-index.lists.items
    (omega (arith, c.loop-index-test.false, c.len-index-end.ensures.len))
    (subst (λ (z : List (List ℕ)). AreFoundSoFar c.args.pair.now.rules z c.args.cases.now c.loop-index.index c.loop-index.lists.items)
    names
    c.loop-index.invariant.found)

pub returns-clause-few : goal.returns-clause-few
returns-clause-few c =
    pair_answer c.args.pair.now.rules c.rules.result.now.rules c.reversed.result.now.rules c.rules-2.result.now.rules c.rules.ensures.rules
    c.in_ok-comparison.ensures.few

pub returns-in_err-comparison-clause-err : goal.returns-in_err-comparison-clause-err
returns-in_err-comparison-clause-err c =
    passed_on c.from_residual.result c.in_err-comparison.field-0.0 _ c.from_residual.ensures.1
    (pair_fault c.args.pair.now.rules _ _ _ c.in_err-comparison.field-0.0 c.rules.ensures.rules c.reversed.ensures c.rules-2.ensures.rules
    c.in_err-comparison.ensures.err)
