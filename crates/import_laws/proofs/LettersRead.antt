-- The letters of each set of permissions are read as that set.
use Rattle.std.proofs.Common.{◌≡◌, Some, arith}
use Rattle.names.specs.declared.permissions.Perms.{Perms}
use Rattle.names.specs.Permissions.{letters}
use Rattle.apparmor_words.specs.Letters.{letters_of}
use Rattle.import_laws.specs.CanonicalItems.{plain_letters}

pub letters_read : (s : Perms) → letters_of (letters s) ≡ Some (plain_letters s)
unfolding letters_of
letters_read s = grind arith
