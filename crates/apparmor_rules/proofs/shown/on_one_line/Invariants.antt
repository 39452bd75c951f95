-- What was shown, and what is still to be shown, is the line.
use Rattle.std.proofs.Common.{◌≡◌, ◌++◌, drop, not, length, ◌==◌, false}
use Rattle.apparmor_rules.specs.ShownTexts.{on_one_line}
use Rattle.apparmor_rules.proofs.shown.on_one_line.Given as goal

abbrev pub invariant-loop-byte : goal.invariant-loop-byte
invariant-loop-byte l = l.line.items ++ on_one_line (not (length l.line.items == 0)) l.gap (drop l.byte-index l.bytes)
    ≡ on_one_line false false l.bytes
