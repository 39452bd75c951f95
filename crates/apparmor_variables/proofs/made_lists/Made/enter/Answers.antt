use Rattle.std.proofs.Common.{◌≡◌, true, false, reverse, slice_set, sym, ap, ◌∙◌, subst, arith}
use Rattle.std.specs.Prelude.{is_some}
use Rattle.apparmor_variables.specs.Problems.{undefined, cycle, Undeclared, Met}
use Rattle.apparmor_variables.specs.inner.Way.{names_of, is_on, IsWay}
use Rattle.apparmor_variables.proofs.KnownLists.{stands_at, stands_nowhere}
use Rattle.apparmor_variables.proofs.WaySteps.{lifted, on_way, entered, pushed}
use Rattle.apparmor_variables.proofs.made_lists.Made.enter.Goals as goal

pub returns-in_default-clause-fault : goal.returns-in_default-clause-fault
returns-in_default-clause-fault g c =
    let variables = c.args.declared.now in
    let made = c.args.self.now in
    let way = reverse c.args.way.now.items in
    let name = c.args.name.now in
    lifted variables made.lists.items made.met.items g.first c.requires.0.levels c.requires.0.right way name
    (undefined name) c.requires.1.0
    (Undeclared (names_of variables way) name (stands_nowhere variables name (sym c.place.ensures ∙ c.in_default.is)))

pub is_on-requires : goal.is_on-requires
is_on-requires g c =
    let at = stands_at c.args.declared.now c.args.name.now c.in-Some.place (sym c.place.ensures ∙ c.in-Some.is) in
    omega (arith, at.within, c.requires.0.met)

pub returns-then-is_on-clause-fault : goal.returns-then-is_on-clause-fault
returns-then-is_on-clause-fault g c =
    let variables = c.args.declared.now in
    let made = c.args.self.now in
    let way = reverse c.args.way.now.items in
    let name = c.args.name.now in
    let stands = sym c.place.ensures ∙ c.in-Some.is in
    let on : is_on made.met.items c.args.way.now.items c.in-Some.place ≡ true = ap (λ w. is_on made.met.items w c.in-Some.place)
    (sym c.deref.ensures.value) ∙ sym c.is_on.ensures ∙ c.if-is_on.true in
    lifted variables made.lists.items made.met.items g.first c.requires.0.levels c.requires.0.right way name (cycle name) c.requires.1.0
    (Met (names_of variables way) name (ap is_some (stands_at variables name c.in-Some.place stands).valued)
    (on_way variables made.met.items c.args.way.now.items name c.in-Some.place stands on))

pub index_mut-requires : goal.index_mut-requires
index_mut-requires g c =
    let at = stands_at c.args.declared.now c.args.name.now c.in-Some.place (sym c.place.ensures ∙ c.in-Some.is) in
    omega (arith, at.within, c.requires.0.met)

pub returns-clause-way : goal.returns-clause-way
returns-clause-way g c =
    let variables = c.args.declared.now in
    let made = c.args.self.now in
    let off : is_on made.met.items c.args.way.now.items c.in-Some.place ≡ false = ap (λ w. is_on made.met.items w c.in-Some.place)
    (sym c.deref.ensures.value) ∙ sym c.is_on.ensures ∙ c.if-is_on.false in
    subst (IsWay variables made.lists.items (slice_set made.met.items c.in-Some.place c.len.result) g.first)
    (pushed c.args.way.now.items (record { variable = c.in-Some.place; next = 0 }) ∙ ap reverse (sym c.in_ok-push.ensures.items))
    (entered variables made.lists.items made.met.items g.first c.args.way.now.items c.args.name.now c.in-Some.place c.len.result
    c.requires.0.lists c.requires.0.met (omega arith) (sym c.place.ensures ∙ c.in-Some.is) c.requires.1.1 off c.requires.1.0)
