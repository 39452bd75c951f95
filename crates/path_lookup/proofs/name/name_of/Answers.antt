use Rattle.std.proofs.Common.{◌≡◌, sym, ap, ◌∙◌, ◌++◌, ◌∷◌, [], drop, arith, rules, inl, inr}
use Rattle.std.specs.Option.{option_map}
use Rattle.std.proofs.lemmas.List.{drop_all}
use Rattle.directory_tree.specs.Components.{slash}
use Rattle.directory_tree.specs.Name.{judged, judged_name}
use Rattle.path_lookup.specs.World.{World}
use Rattle.path_lookup.proofs.NameParts.{stem, name_split, stem_up, closing_directory, closing_other}
use Rattle.path_lookup.proofs.WalkSteps.{fault_along, passed_on}
use Rattle.path_lookup.proofs.name.name_of.Goals as goal
use Rattle.path_lookup.proofs.name.name_of.Goals.{in-Directory, in-File}

pub loop-directory-init : goal.loop-directory-init
loop-directory-init g c = elim c.match-branch-2.branch [
  | in-Directory b ↦
      let written : drop c.match-branch-2.start c.match-branch-2.room ≡ slash ∷ [] =
      (λ i. drop (b.start-is i) (b.room-is i)) ∙ b.put_in_front-start.ensures.text ∙ ap (λ z. slash ∷ z)
      (drop_all 4096 c.args.room.now (omega arith)) in
      record {
        kept = search rules;
        narrows = search rules;
        keeps = search rules;
        known = search rules;
        some = omega arith;
        within = omega arith;
        name = λ w seen.
            let spot = g.L.Look.means c.args.entry w in
            name_split w.tree spot ∙ ap (λ z. stem w.tree spot ++ z)
            (closing_directory spot (c.in_ok-kind.ensures.answer w seen ∙ b.in-Directory.is) ∙ sym written);
      }
  | in-File b ↦
      let written : drop c.match-branch-2.start c.match-branch-2.room ≡ [] = (λ i. drop (b.start-is i) (b.room-is i))
      ∙ drop_all 4096 c.args.room.now (omega arith) in
      record {
        kept = search rules;
        narrows = search rules;
        keeps = search rules;
        known = search rules;
        some = omega arith;
        within = omega arith;
        name = λ w seen.
            let spot = g.L.Look.means c.args.entry w in
            name_split w.tree spot ∙ ap (λ z. stem w.tree spot ++ z)
            (closing_other spot (λ e. elim b.in-File.is [
              | inl p ↦ cc (sym e ∙ c.in_ok-kind.ensures.answer w seen ∙ p)
              | inr p ↦ cc
                  (sym e ∙ c.in_ok-kind.ensures.answer w seen ∙ p)
            ]) ∙ sym written);
      }
]

pub returns-in_err-start-clause-fault : goal.returns-in_err-start-clause-fault
returns-in_err-start-clause-fault g c =
    let look = g.L.Look in
    let here = c.loop-directory.invariant in
    let below = c.loop-directory.below in
    let front : World → _ = λ w. stem w.tree (look.means c.in-Some.directory w) in
    passed_on c.from_residual-in_err-start.result c.in_err-start.field-0.0 _ c.from_residual-in_err-start.ensures.1
    (fault_along _ _ _ (λ w. judged_name w.tree (look.means c.args.entry w)) c.in_err-start.field-0.0
    (λ w seen.
    let before = c.in_err-start.ensures.narrows w seen in
    let earlier = c.in_ok-directory.ensures.narrows w before in
    let up = c.in_ok-directory.ensures.answer w before ∙ ap (option_map (λ e. look.means e w)) c.in-Some.is in
    ap judged
    (here.name w earlier
    ∙ stem_up w.tree w.sound (look.means below w) (look.means c.in-Some.directory w) (look.stands _ w below earlier here.known) up
    (drop c.loop-directory.start c.loop-directory.room)))
    (c.in_err-start.ensures.fault front))

pub loop-directory-preserved : goal.loop-directory-preserved
loop-directory-preserved g c =
    let look = g.L.Look in
    let here = c.loop-directory.invariant in
    let below = c.loop-directory.below in
    let put = c.in_ok-start.ensures in
    record {
      kept = search rules;
      narrows = search rules;
      keeps = search rules;
      known = search rules;
      some = put.start.0;
      within = let less = put.start.1 in omega arith;
      name = λ w seen.
          let before = put.narrows w seen in
          let earlier = c.in_ok-directory.ensures.narrows w before in
          let up = c.in_ok-directory.ensures.answer w before ∙ ap (option_map (λ e. look.means e w)) c.in-Some.is in
          here.name w earlier
          ∙ stem_up w.tree w.sound (look.means below w) (look.means c.in-Some.directory w) (look.stands _ w below earlier here.known) up
          (drop c.loop-directory.start c.loop-directory.room)
          ∙ ap (λ z. stem w.tree (look.means c.in-Some.directory w) ++ z) (sym (put.text w seen));
    }
