use Rattle.std.proofs.Common.{◌≡◌, true, false, Ok, ap, sym, subst, ◌∙◌}
use Rattle.apparmor_text.specs.declared.part.PartKind.TheVariants as parts
use Rattle.apparmor_words.specs.Assignments.{line_ends}
use Rattle.apparmor_text.specs.Assignments.{separators_part}
use Rattle.apparmor_text.specs.Readings.{Reading}
use Rattle.apparmor_text.specs.WordParts.{word_part}
use Rattle.apparmor_words.specs.laws.Steps.{ok_is}
use Rattle.apparmor_text.proofs.ValueLoop.{value_shorter, values_end, values_more}
use Rattle.apparmor_text.proofs.reader.Reader.more_values.Goals as goal

pub returns-then-line_ends : goal.returns-then-line_ends
returns-then-line_ends c =
    let s = c.loop-self.self in
    let i = c.loop-self.invariant in
    let same = ok_is (separators_part s) c.separators.new.self c.in_ok-separators.ensures in
    let over : line_ends (separators_part s).rest ≡ true = ap (λ (r : Reading). line_ends r.rest) same ∙ ap line_ends (sym c.rest.ensures)
    ∙ sym c.line_ends.ensures ∙ c.if-line_ends.true in
    values_end i.0 s _ i.1 i.2 over ∙ ap (λ (r : Reading). Ok r) same

pub loop-self-smaller : goal.loop-self-smaller
loop-self-smaller c =
    let s = c.loop-self.self in
    let same = ok_is (separators_part s) c.separators.new.self c.in_ok-separators.ensures in
    value_shorter s c.word.new.self (subst (λ (r : Reading). word_part parts.Value r ≡ Ok c.word.new.self) (sym same) c.in_ok-word.ensures)

pub loop-self-preserved : goal.loop-self-preserved
loop-self-preserved c =
    let s = c.loop-self.self in
    let i = c.loop-self.invariant in
    let same = ok_is (separators_part s) c.separators.new.self c.in_ok-separators.ensures in
    let more : line_ends (separators_part s).rest ≡ false = ap (λ (r : Reading). line_ends r.rest) same ∙ ap line_ends (sym c.rest.ensures)
    ∙ sym c.line_ends.ensures ∙ c.if-line_ends.false in
    values_more i.0 s c.word.new.self _ i.1 i.2 more (subst (λ (r : Reading). word_part parts.Value r ≡ Ok c.word.new.self)
    (sym same) c.in_ok-word.ensures)
