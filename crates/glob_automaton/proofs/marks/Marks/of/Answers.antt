-- The byte that a place takes alone is marked.
use Rattle.std.proofs.Common.{◌+◌, Bool, List, sym, ◌∙◌, ap, subst, arith}
use Rattle.glob_automaton.specs.declared.marks.Marks.{Marks}
use Rattle.glob_automaton.specs.inner.Marks.{AreMarks}
use Rattle.glob_automaton.proofs.EdgeSteps.{none_marked, none_named}
use Rattle.glob_automaton.proofs.GatheringSteps.{number_there, read_place}
use Rattle.glob_automaton.proofs.NamedSteps.{NamedBefore, named_more, named_skip, named_all}
use Rattle.glob_automaton.proofs.marks.Marks.of.Goals as goal
use Rattle.glob_automaton.proofs.marks.Marks.of.Goals.{in-Byte, in_default}

pub loop-place-init : goal.loop-place-init
loop-place-init c = record {
  named = none_named c.args.chart.now c.args.set.now;
  marks = none_marked c.args.classes.now.least c.args.classes.now.edges c.requires.edges;
}

pub index-requires : goal.index-requires
index-requires c =
    let lt = number_there c.args.chart.now c.args.set.now 0 c.requires.set c.loop-place.place-index c.loop-place-test.true in
    omega (arith, lt, c.args.chart.now.places.ok.0)

pub loop-place-preserved : goal.loop-place-preserved
loop-place-preserved c =
    let chart = c.args.chart.now in
    let set = c.args.set.now in
    let index = c.loop-place.place-index in
    let named = c.loop-place.marks.named in
    let read = read_place chart set 0 c.requires.set index c.index.result.now c.loop-place-test.true c.index.ensures in
    let Kept : List Bool → Type 0 = λ z. NamedBefore chart set z (index + 1) in
    let Marked : Marks → Type 0 = AreMarks c.args.classes.now.least in
    elim c.match-index.branch [
      | in-Byte w ↦ record {
        named = subst Kept (sym (ap (λ (z : Marks). z.named) w.marks-is ∙ w.add.ensures.named))
            (named_more chart set named index c.index.result.now read c.loop-place.invariant.named w.in-Byte.byte w.in-Byte.is);
        marks = subst Marked (sym w.marks-is) w.add.ensures.marks;
      }
      | in_default w ↦ record {
        named = subst Kept (sym (ap (λ (z : Marks). z.named) w.marks-is))
            (named_skip chart set named index c.index.result.now read c.loop-place.invariant.named w.in_default.not-Byte);
        marks = subst Marked (sym w.marks-is) c.loop-place.invariant.marks;
      }
    ]

pub returns-clause-named : goal.returns-clause-named
returns-clause-named c = named_all c.args.chart.now c.args.set.now c.loop-place.marks.named c.loop-place.place-index
    c.loop-place-test.false c.loop-place.invariant.named
