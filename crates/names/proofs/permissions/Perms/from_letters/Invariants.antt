-- The letters so far are all letters of permissions, and the set holds those that they stand for.
use Rattle.std.proofs.Common.{◌≡◌, ◌==◌, true, take}
use Rattle.std.specs.List.{list_all, list_any}
use Rattle.names.specs.Permissions.{letter, is_letter, set_of}
use Rattle.names.proofs.permissions.Perms.from_letters.Given as goal

abbrev pub invariant-loop-letter : goal.invariant-loop-letter
invariant-loop-letter l = record {
  letters_so_far : list_all is_letter (take l.letter-index l.word) ≡ true;
  set_so_far : l.perms ≡ set_of (λ p. list_any (λ b. letter p == b) (take l.letter-index l.word));
}
