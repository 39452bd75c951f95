use Rattle.std.proofs.Common.{true, false, Result, Ok, Err, sym, ap, ◌∙◌, subst}
use Rattle.std.specs.Prelude.{OnOk, option_map}
use Rattle.std.proofs.lemmas.Result.{IfOk-weaker}
use Rattle.import_scope.specs.FirstFaults.{Question, is_last, Answers}
use Rattle.import_scope.specs.Scopes.{Fault}
use Rattle.import_scope.specs.Told.{fault_value}
use Rattle.import_scope.specs.inner.Outlines.{asked_value}
use Rattle.import_scope.specs.inner.Problems.{question_at, counted_of, CountsLists}
use Rattle.import_scope.proofs.AskedPaths.{with_lists, without}
use Rattle.import_scope.proofs.asked_paths.Seen.ask.Goals as goal

whenever : {X E A : Type 0} (r : Result X E) → A → OnOk r A
whenever (Ok x) a = a
whenever (Err e) a = tt

pub returns-then-branch-clause-lists : goal.returns-then-branch-clause-lists
returns-then-branch-clause-lists c =
    whenever c.place.result (λ variables e. c.place.ensures.lists ∙ c.in_ok-go_to.ensures.lists variables e)

pub returns-then-branch-clause-fault : goal.returns-then-branch-clause-fault
returns-then-branch-clause-fault c =
    let old = counted_of c.args.self.now in
    let lists = c.go_to.new.self.lists in
    let mid = c.go_to.new.self.bytes in
    let counts : CountsLists (is_last c.args.self.now.profile c.args.asked.profile) lists c.args.self.now.bytes mid true =
    subst (CountsLists (is_last c.args.self.now.profile c.args.asked.profile) lists c.args.self.now.bytes mid) c.if-branch.true
    c.in_ok-go_to.ensures.count in
    IfOk-weaker c.place.result _ _ (λ fault h. λ variables e.
    with_lists old (question_at variables c.args.profiles.now (asked_value c.args.asked)) lists mid c.place.new.self.bytes
    c.place.new.self.profile (option_map fault_value fault) (c.in_ok-go_to.ensures.lists variables e) counts
    (c.place.ensures.profile ∙ c.in_ok-go_to.ensures.profile c.if-branch.true) h) c.place.ensures.fault

pub returns-else-branch-clause-fault : goal.returns-else-branch-clause-fault
returns-else-branch-clause-fault c = λ variables e.
    let old = counted_of c.args.self.now in
    let q : Question = question_at variables c.args.profiles.now (asked_value c.args.asked) in
    let lists = c.go_to.new.self.lists in
    let mid = c.go_to.new.self.bytes in
    let counts : CountsLists (is_last c.args.self.now.profile c.args.asked.profile) lists c.args.self.now.bytes mid false =
    subst (CountsLists (is_last c.args.self.now.profile c.args.asked.profile) lists c.args.self.now.bytes mid) c.if-branch.false
    c.in_ok-go_to.ensures.count in
    subst (λ (f : Fault). Answers old q (Err f)) (sym (ap fault_value c.fault_at.ensures))
    (without old q lists mid (c.in_ok-go_to.ensures.lists variables e) counts)
