-- What was read, and what the letters that are left add to it, is what the word stands for.
use Rattle.std.proofs.Common.{◌≡◌, drop}
use Rattle.apparmor_words.specs.Letters.{letters_from, no_letters, bare_mode}
use Rattle.apparmor_words.proofs.letters.letters_of.Given as goal

abbrev pub invariant-loop-byte : goal.invariant-loop-byte
invariant-loop-byte l = letters_from l.letters l.mode (drop l.byte-index l.word) ≡ letters_from no_letters bare_mode l.word
