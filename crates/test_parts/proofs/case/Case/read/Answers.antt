use Rattle.std.proofs.Common.{rules, ◌≡◌, ◌+◌, length, arith}
use Rattle.std.proofs.lemmas.Grind.{common_steps}
use Rattle.test_parts.specs.Cases.{IsOption, line_of}
use Rattle.test_parts.proofs.LineLaws.{AreOptions_more, after_lines_more, shorter_past_option}
use Rattle.test_parts.proofs.case.Case.read.Goals as goal

-- A line that begins with the mark is an option, and the text left begins one line further.
pub loop-preserved : goal.loop-preserved
loop-preserved c =
    let line = c.line_and_rest-in-loop.ensures in
    let cut = c.in-Some.ensures.cases in
    let begins = cut.1.1 in
    let left = cut.2 in
    let is_option : IsOption (line_of c.loop.text.now) c.in-Some.option.now = cc line.line in
    let items = c.in_ok-push.ensures.items in
    let count : length c.push.new.self.items ≡ length c.loop.options.items + 1 = grind (arith, common_steps) in
    let more = after_lines_more (length c.loop.options.items + 2) (length c.push.new.self.items + 2) c.args.case.now (omega arith) in
    record {
      is_text = search rules;
      rest = cc (c.loop.invariant.rest, line.rest, more);
      each = rw items (AreOptions_more _ _ _ c.loop.invariant.each (rw (← c.loop.invariant.rest) is_option));
      turns = rw line.rest (omega (arith, shorter_past_option c.loop.text.now c.in-Some.option.now is_option));
    }
