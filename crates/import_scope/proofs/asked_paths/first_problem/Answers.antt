use Rattle.std.proofs.Common.{◌≡◌, ◌<◌, ℕ, List, [], map, drop, get_or, length, Ok, Err, Option, Some, None, sym, ap, ◌∙◌, subst, arith}
use Rattle.std.specs.Prelude.{option_map, unwrap_or}
use Rattle.std.proofs.lemmas.List.{drop_all}
use Rattle.import_scope.specs.declared.fault.ScopeFault.{ScopeFault}
use Rattle.import_scope.specs.declared.outline.Asked.{Asked}
use Rattle.import_scope.specs.FirstFaults.{Question, Counted, Answers, variables_within}
use Rattle.import_scope.specs.Told.{fault_value}
use Rattle.import_scope.specs.inner.Outlines.{asked_value}
use Rattle.import_scope.specs.inner.Problems.{name_at, question_at, counted_of, AnswersAs, FirstProblem, all_answered}
use Rattle.import_scope.proofs.Passes.{fault_here, answered_here}
use Rattle.import_scope.proofs.asked_paths.first_problem.Goals as goal

nothing : Asked
nothing = record { profile = 0; path = record { ref_ptr = (0, 0); now = [] }; place = 0 }

-- the answer, where it is known
found_so : (c next : Counted) (q : Question) (found found_2 : Option ScopeFault) → found ≡ found_2 →
    AnswersAs c q (option_map fault_value found) next → AnswersAs c q (option_map fault_value found_2) next
found_so c next q found found_2 is h = subst (λ (o : Option ScopeFault). AnswersAs c q (option_map fault_value o) next) is h

pub returns-in-Some : goal.returns-in-Some
unfolding nothing
returns-in-Some c =
    let variables = c.args.variables.now in
    let profiles = c.args.profiles.now in
    let asked = c.args.asked.now in
    let i = c.loop-question.question-index in
    let low : i < length asked = omega arith in
    let a : Asked = get_or asked i nothing in
    let q = question_at variables profiles (asked_value a) in
    let old = counted_of c.loop-question.seen in
    let h : Answers old q (Err (fault_value c.in-Some.fault)) = found_so old (counted_of c.ask.new.self) q c.in_ok-fault.field-0
    (Some c.in-Some.fault) c.in-Some.is (c.in_ok-fault.ensures.fault variables c.loop-question.invariant.seen) in
    c.loop-question.invariant.so_far (Some (fault_value c.in-Some.fault)) (fault_here variables profiles asked i nothing low old
    (fault_value c.in-Some.fault) h)

pub loop-question-preserved : goal.loop-question-preserved
unfolding nothing
loop-question-preserved c =
    let variables = c.args.variables.now in
    let profiles = c.args.profiles.now in
    let asked = c.args.asked.now in
    let i = c.loop-question.question-index in
    let low : i < length asked = omega arith in
    let a : Asked = get_or asked i nothing in
    let q = question_at variables profiles (asked_value a) in
    let old = counted_of c.loop-question.seen in
    let next = counted_of c.ask.new.self in
    let h : Answers old q (Ok next) = found_so old next q c.in_ok-fault.field-0 None c.in_default.is
    (c.in_ok-fault.ensures.fault variables c.loop-question.invariant.seen) in
    record {
      seen = c.in_ok-fault.ensures.lists variables c.loop-question.invariant.seen
          ∙ ap (λ (o : Option ℕ). variables_within variables (name_at profiles (unwrap_or o 0)))
          (sym (c.in_ok-fault.ensures.profile c.in_default.is));
      most = c.in_ok-fault.ensures.most c.in_default.is;
      so_far = λ end r. c.loop-question.invariant.so_far end (answered_here variables profiles asked i nothing low old next end h r);
    }

pub returns : goal.returns
returns c =
    let asked = c.args.asked.now in
    let i = c.loop-question.question-index in
    let none : drop i asked ≡ [] = drop_all i asked (omega arith) in
    c.loop-question.invariant.so_far None
    (subst (λ (x : List Asked). FirstProblem c.args.variables.now c.args.profiles.now (counted_of c.loop-question.seen)
    (map asked_value x) None) (sym none) (all_answered (counted_of c.loop-question.seen)))
