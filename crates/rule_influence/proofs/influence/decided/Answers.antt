-- Nothing is noted at first, then the representatives one by one, and all of them in the end.
use Rattle.std.proofs.Common.{◌≡◌, ◌∙◌, ◌+◌, ℕ, List, Vec, Global, length, refl, sym, ap, subst, arith}
use Rattle.std.specs.Vec.{with_items}
use Rattle.std.proofs.lemmas.List.{length-map, with_items_is}
use Rattle.names.specs.declared.permissions.Perms.{Perms}
use Rattle.profile_questions.specs.Names.{ComparisonValue}
use Rattle.rule_globs.specs.Rules.{RuleValue}
use Rattle.rule_profile.specs.Rules.{rule_value}
use Rattle.rule_influence.specs.inner.Deciders.{AreNoted}
use Rattle.rule_influence.proofs.ReversedSets.{pair_answer, pair_fault, passed_on}
use Rattle.rule_influence.proofs.Scans.{AreNotedSoFar, noted_first, noted_last, noted_more}
use Rattle.rule_influence.proofs.influence.decided.Goals.{in-Some, in_default-records}
use Rattle.rule_influence.proofs.influence.decided.Goals as goal

-- entries that are written back
kept : (old : Vec Perms Global) (entries : List Perms) (new : Vec Perms Global) → new ≡ with_items old entries →
    length entries ≡ length old.items → new.items ≡ entries
kept old entries new is same =
    ap (λ (z : Vec Perms Global). z.items) is ∙ with_items_is old entries (same ∙ sym old.ok.0)

pub loop-index-init : goal.loop-index-init
loop-index-init c =
    let count : length c.rules-count.result.now ≡ length c.args.pair.now.rules =
    sym (length-map c.rules-count.result.now rule_value)
    ∙ ap (λ (z : List RuleValue). length z) (c.rules-count.ensures.rules ∙ c.profile.ensures.rules ∙ c.rules-3.ensures.rules) in record {
      noted = subst (λ (z : List Perms). AreNotedSoFar c.args.pair.now.rules c.comparison.inside.visits.names 0 z) (sym c.in-Ok.ensures)
          (noted_first c.args.pair.now.rules c.comparison.inside.visits.names (length c.rules-count.result.now) count);
    }

pub loop-index-preserved : goal.loop-index-preserved
loop-index-preserved c =
    let names : c.comparison.inside.visits.names ≡ c.in_ok-comparison.comparison.names =
    ap (λ (z : ComparisonValue). z.names) c.comparison.view_is in
    elim c.match-records.branch [
      | in-Some w ↦ record {
        noted = subst (λ (z : List Perms). AreNotedSoFar c.args.pair.now.rules c.comparison.inside.visits.names (c.loop-index.index + 1) z)
            (sym (kept c.loop-index.decided w.note.new.decided c.match-records.decided w.decided-is
            (w.note.ensures.each ∙ ap length w.deref_mut.ensures.value)))
            (subst (λ (z : List (List ℕ)). AreNotedSoFar c.args.pair.now.rules z (c.loop-index.index + 1) w.note.new.decided) (sym names)
            (noted_more c.args.pair.now.rules c.in_ok-comparison.comparison
            (c.in_ok-comparison.ensures.first ∙ c.rules.ensures.rules) (c.in_ok-comparison.ensures.second ∙ c.reversed.ensures)
            c.len-index-end.ensures.names c.loop-index.index w.in-Some.records w.in-Some.ensures.some
            c.loop-index.decided.items w.note.new.decided
            (subst (λ (z : List (List ℕ)). AreNotedSoFar c.args.pair.now.rules z c.loop-index.index c.loop-index.decided.items) names
            c.loop-index.invariant.noted)
            (subst (λ (z : List Perms). AreNoted w.in-Some.records.first w.in-Some.records.second z w.note.new.decided)
            w.deref_mut.ensures.value w.note.ensures)));
      }
      | in_default-records w ↦ absurd (omega (
        arith,
        w.in_default-records.ensures.none refl,
        c.loop-index-test.true,
        c.len-index-end.ensures.len,
      ))
    ]

pub returns-clause-few : goal.returns-clause-few
returns-clause-few c =
    pair_answer c.args.pair.now.rules c.rules.result.now.rules c.reversed.result.now.rules c.rules-2.result.now.rules c.rules.ensures.rules
    c.in_ok-comparison.ensures.few

pub returns-clause-ok : goal.returns-clause-ok
returns-clause-ok c =
    let names : c.comparison.inside.visits.names ≡ c.in_ok-comparison.comparison.names =
    ap (λ (z : ComparisonValue). z.names) c.comparison.view_is in
    noted_last c.args.pair.now.rules c.in_ok-comparison.comparison
    (c.in_ok-comparison.ensures.first ∙ c.rules.ensures.rules) (c.in_ok-comparison.ensures.second ∙ c.reversed.ensures)
    c.len-index-end.ensures.names c.loop-index.index c.loop-index.decided.items
    (omega (arith, c.loop-index-test.false, c.len-index-end.ensures.len))
    (subst (λ (z : List (List ℕ)). AreNotedSoFar c.args.pair.now.rules z c.loop-index.index c.loop-index.decided.items) names
    c.loop-index.invariant.noted)

pub returns-in_err-comparison-clause-err : goal.returns-in_err-comparison-clause-err
returns-in_err-comparison-clause-err c =
    passed_on c.from_residual.result c.in_err-comparison.field-0.0 _ c.from_residual.ensures.1
    (pair_fault c.args.pair.now.rules _ _ _ c.in_err-comparison.field-0.0 c.rules.ensures.rules c.reversed.ensures c.rules-2.ensures.rules
    c.in_err-comparison.ensures.err)
