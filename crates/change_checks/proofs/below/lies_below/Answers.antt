use Rattle.std.proofs.Common.{refl, sym, ap, subst, ◌∙◌}
use Rattle.std.specs.Prelude.{IfSome}
use Rattle.std.specs.Option.{option_map}
use Rattle.change_checks.proofs.Climbs.{climb_start, climb_here, climb_root, climb_up}
use Rattle.change_checks.proofs.below.lies_below.Goals as goal

pub loop-step-init : goal.loop-step-init
loop-step-init g c = record {
  kept = refl;
  narrows = λ w s. s;
  keeps = λ e k. k;
  known = c.requires.known;
  climbs = λ w s. climb_start w.tree c.args.top (g.L.Look.means c.args.from w) w.sound
      (g.L.Look.stands c.args.look.now w c.args.from s c.requires.known) (c.requires.directory w s);
}

pub loop-step-preserved : goal.loop-step-preserved
loop-step-preserved g c =
    let look = g.L.Look in
    let i = c.loop-step.invariant in
    let node = c.in_ok-node.ensures in
    let parent = c.in_ok-parent.ensures in
    record {
      kept = parent.kept ∙ node.kept ∙ i.kept;
      narrows = λ w s. i.narrows w (node.narrows w (parent.narrows w s));
      keeps = λ e k. parent.keeps e (node.keeps e (i.keeps e k));
      known = subst (λ o. IfSome o (look.knows c.parent.new.self)) c.in-Some.is parent.known;
      climbs = λ w s.
          let before = parent.narrows w s in
          let first = node.narrows w before in
          climb_up w.tree c.args.top (look.means c.args.from w) (look.means c.loop-step.at w) (look.means c.in-Some.parent w)
          c.loop-step.step w.sound (look.stands c.loop-step.look w c.loop-step.at first i.known) (i.climbs w first)
          (parent.answer w s ∙ ap (option_map (λ e. look.means e w)) c.in-Some.is)
          (λ e. c.if-branch-top.false (sym (node.answer w before) ∙ e));
    }

pub returns-then-branch-top-clause-answer : goal.returns-then-branch-top-clause-answer
returns-then-branch-top-clause-answer g c = λ w s.
    let look = g.L.Look in
    let climbs = c.loop-step.invariant.climbs w (c.in_ok-node.ensures.narrows w s) in
    climb_here w.tree c.args.top (look.means c.args.from w) (look.means c.loop-step.at w) c.loop-step.step climbs
    (c.in_ok-node.ensures.answer w s ∙ c.if-branch-top.true)

pub returns-in-None-clause-answer : goal.returns-in-None-clause-answer
returns-in-None-clause-answer g c = λ w s.
    let look = g.L.Look in
    let node = c.in_ok-node.ensures in
    let before = c.in_ok-parent.ensures.narrows w s in
    let none = c.in_ok-parent.ensures.answer w s ∙ ap (option_map (λ e. look.means e w)) c.in-None.is in
    climb_root w.tree c.args.top (look.means c.args.from w) (look.means c.loop-step.at w) c.loop-step.step w.sound
    (c.loop-step.invariant.climbs w (node.narrows w before)) none (λ e. c.if-branch-top.false (sym (node.answer w before) ∙ e))
