-- One name after another.
use Rattle.std.proofs.Common.{◌∙◌, ◌++◌, ℕ, List, ap, sym, append-nil}
use Rattle.trace_questions.specs.Differences.{difference_text}
use Rattle.trace_questions.specs.inner.Differences.{versions_value}
use Rattle.trace_questions.proofs.ListedLines.{line_added, lines_all}
use Rattle.trace_questions.proofs.changes.put_lines.Goals as goal

pub loop-name-init : goal.loop-name-init
loop-name-init c before after = sym (append-nil c.args.text.now.items)

pub loop-name-preserved : goal.loop-name-preserved
loop-name-preserved c before after =
    line_added (difference_text c.args.format (versions_value c.args.versions.now) c.args.permission c.args.side) c.args.names.now
    c.args.text.now.items c.loop-name.text.items c.put_line.new.text.items c.loop-name.name-index c.name-item.result
    c.deref.result.now c.loop-name-test.true c.name-item.is c.deref.ensures.value (c.loop-name.invariant before after)
    (c.in_ok-put_line.ensures before after)

pub returns : goal.returns
returns c before after =
    c.loop-name.invariant before after
    ∙ ap (λ (lines : List ℕ). c.args.text.now.items ++ lines)
    (lines_all (difference_text c.args.format (versions_value c.args.versions.now) c.args.permission c.args.side) c.args.names.now
    c.loop-name.name-index c.loop-name-test.false)
