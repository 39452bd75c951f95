use Rattle.std.proofs.Common.{◌++◌, ap, ◌∙◌}
use Rattle.directory_tree.specs.Name.{judged, judged_name, name_of}
use Rattle.directory_tree.specs.Place.{named_place}
use Rattle.path_lookup.proofs.PlaceNames.{named_behind, judged_is, judged_more, fault_through}
use Rattle.path_lookup.proofs.WalkSteps.{passed_on}
use Rattle.path_lookup.proofs.place.name_of_place.Goals as goal

pub returns-in_err-end-clause-fault : goal.returns-in_err-end-clause-fault
returns-in_err-end-clause-fault g c =
    let look = g.L.Look in
    let path = c.args.path.now in
    let parts = c.in-Ok.parts in
    let directory = c.in_ok-directory.directory in
    let got = c.in_ok-directory.ensures in
    passed_on c.from_residual-in_err-end.result c.in_err-end.field-0.0 _ c.from_residual-in_err-end.ensures.1
    (fault_through _ _ (λ w. judged_name w.tree (look.means directory w)) (λ w. named_place w.tree path) c.in_err-end.field-0.0
    (λ w errno seen long.
    let before = c.in_err-end.ensures.narrows w seen in
    let spot = look.means directory w in
    named_behind w.tree w.sound path parts spot c.in-Ok.ensures.ok.0 (look.stands _ w directory before got.known) (got.directory w before)
    (got.found w before)
    ∙ judged_more (name_of w.tree spot) parts.last.now errno long)
    c.in_err-end.ensures.fault)

pub returns-in-Ok-put_behind-clause-name : goal.returns-in-Ok-put_behind-clause-name
returns-in-Ok-put_behind-clause-name g c = λ w seen.
    let look = g.L.Look in
    let parts = c.in-Ok.parts in
    let directory = c.in_ok-directory.directory in
    let got = c.in_ok-directory.ensures in
    let before = c.in_ok-end.ensures.narrows w seen in
    let spot = look.means directory w in
    named_behind w.tree w.sound c.args.path.now parts spot c.in-Ok.ensures.ok.0 (look.stands _ w directory before got.known)
    (got.directory w before) (got.found w before)
    ∙ ap (λ z. judged (z ++ parts.last.now)) (judged_is (name_of w.tree spot) _ (c.in_ok-end.ensures.name w seen))
    ∙ c.in-Ok-put_behind.ensures.name

pub returns-in-Err-put_behind-clause-fault : goal.returns-in-Err-put_behind-clause-fault
returns-in-Err-put_behind-clause-fault g c = λ w seen.
    let look = g.L.Look in
    let parts = c.in-Ok.parts in
    let directory = c.in_ok-directory.directory in
    let got = c.in_ok-directory.ensures in
    let before = c.in_ok-end.ensures.narrows w seen in
    let spot = look.means directory w in
    named_behind w.tree w.sound c.args.path.now parts spot c.in-Ok.ensures.ok.0 (look.stands _ w directory before got.known)
    (got.directory w before) (got.found w before)
    ∙ ap (λ z. judged (z ++ parts.last.now)) (judged_is (name_of w.tree spot) _ (c.in_ok-end.ensures.name w seen))
    ∙ c.in-Err-put_behind.ensures.long
