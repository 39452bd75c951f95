use Rattle.std.proofs.lemmas.Result.{err_from_is_err_and}
use Rattle.mediation.specs.Profiles.{judge_of}
use Rattle.mediation.proofs.LinkJudgments.{link_told}
use Rattle.mediation.proofs.made_links.judge_tested.Goals as goal

pub returns-clause-answer : goal.returns-clause-answer
returns-clause-answer g c =
    let plain = g.T.JudgedTree.plain in
    link_told c.links_are_found.ensures (plain c.args.tree.now) (plain c.test.new.self) (judge_of c.args.profile.now) c.args.old.now
    c.args.new.now _ _ _ _ _ (c.plain_trees_are_well_formed.ensures (plain c.args.tree.now)) c.test.ensures.same.0
    c.in_ok-old.ensures.path.0 c.in_ok-old.ensures.path.1 c.in_ok-new.ensures.path.0 c.in_ok-new.ensures.path.1
    c.in-Link.is c.in_ok-test.ensures.ok c.in_ok-judged.ensures.answer

pub returns-in_err-judged-clause-fault : goal.returns-in_err-judged-clause-fault
returns-in_err-judged-clause-fault g c =
    let plain = g.T.JudgedTree.plain in
    let passed = err_from_is_err_and c.from_residual-in_err-judged.result c.from_residual-in_err-judged.ensures.1 in
    rw (passed.1, passed.2) (link_told c.links_are_found.ensures (plain c.args.tree.now) (plain c.test.new.self)
    (judge_of c.args.profile.now) c.args.old.now c.args.new.now _ _ _ _ _ (c.plain_trees_are_well_formed.ensures (plain c.args.tree.now))
    c.test.ensures.same.0 c.in_ok-old.ensures.path.0 c.in_ok-old.ensures.path.1 c.in_ok-new.ensures.path.0 c.in_ok-new.ensures.path.1
    c.in-Link.is c.in_ok-test.ensures.ok c.in_err-judged.ensures.fault)
