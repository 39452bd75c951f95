-- The list of one more case has all candidates.
use Rattle.std.proofs.Common.{◌≡◌, ◌∙◌, List, Vec, Global, ℕ, Contains, ap, subst, arith}
use Rattle.std.proofs.lemmas.Option.{slice_get-get_or, slice_get_within}
use Rattle.rule_influence.specs.StandIns.{IsAscending}
use Rattle.rule_influence.specs.inner.Candidates.{IsCandidate}
use Rattle.rule_influence.proofs.CaseLists.{none_missing_case, none_missing_none}
use Rattle.rule_influence.proofs.substitutes.some_missing.Goals.{in-Some+else-is_missing, in_default}
use Rattle.rule_influence.proofs.substitutes.some_missing.Goals as goal

-- what is said of a list holds of the same list
same_list : (one other : List ℕ) (S : ℕ → Type 0) → one ≡ other → (IsAscending one → (n : ℕ) → S n → Contains one n) →
    IsAscending other → (n : ℕ) → S n → Contains other n
same_list one other S e all = subst (λ z. IsAscending z → (n : ℕ) → S n → Contains z n) e all

pub loop-index-preserved : goal.loop-index-preserved
loop-index-preserved c = record {
  there = elim c.match-of.branch [
    | in-Some+else-is_missing w ↦ none_missing_case _ c.args.cases.now c.args.records.now c.args.lists.now c.loop-index.index _
        w.in-Some.case w.index-lists-index.result
        (slice_get-get_or c.args.cases.now c.loop-index.index _ c.loop-index-test.true)
        (omega (arith, c.loop-index-test.true, c.requires))
        w.in-Some.ensures.some
        (same_list w.deref.result.now _ (IsCandidate w.in-Some.case c.args.records.now)
        (w.deref.ensures.value ∙ ap (λ (z : Vec ℕ Global). z.items) w.index-lists-index.is)
        (w.is_missing.ensures w.if-is_missing.false))
        c.loop-index.invariant.there
    | in_default w ↦ none_missing_none _ c.args.cases.now c.args.records.now c.args.lists.now c.loop-index.index _
        (slice_get-get_or c.args.cases.now c.loop-index.index _ c.loop-index-test.true)
        w.in_default.ensures.none
        c.loop-index.invariant.there
  ];
}

pub returns : goal.returns
returns c e i idle n at =
    c.loop-index.invariant.there i idle n (omega (arith, c.loop-index-test.false, slice_get_within c.args.cases.now i idle at)) at
