use Rattle.std.proofs.Common.{◌≡◌, ◌+◌, ◌≤◌, length}
use Rattle.test_parts.specs.Cases.{after_lines}
use Rattle.test_parts.proofs.LineLaws.{AreOptions}
use Rattle.test_parts.proofs.case.Case.read.Given as goal
use denote.Shadow.{shadow}
use denote.Text.{Utf8}

-- The text left follows the lines that were read, and each of these past the second is an option. As an option's line has a byte at
-- least, the text left has no more bytes than there are turns left: after the last turn it's empty, and begins with no option.
abbrev pub invariant-loop : goal.invariant-loop
invariant-loop l = record {
  is_text : shadow (Utf8 l.text);
  rest : l.text ≡ after_lines (length l.options.items + 2) l.case;
  each : AreOptions l.case l.options.items;
  turns : length l.text + l.counter ≤ l.end;
}
