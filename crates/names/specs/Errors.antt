-- The errors of calls on paths. Names: errno(3). Numbers: those of Linux's generic table (errno-base.h and errno.h of
-- asm-generic); some architectures differ.
use Rattle.std.specs.Prelude.{ℕ, List, ◌++◌, codes}
use Rattle.std.specs.Fmt.{decimal}
use Rattle.names.specs.declared.errors.Errno.{Errno}
use Rattle.names.specs.declared.errors.Errno.TheVariants.{EPERM, ENOENT, ENOMEM, EBUSY, EEXIST, ENOTDIR, EISDIR, EINVAL, ENOSPC}
use Rattle.names.specs.declared.errors.Errno.TheVariants.{ENAMETOOLONG, ENOTEMPTY, ELOOP, EOVERFLOW}

abbrev pub errno_number : Errno → ℕ
errno_number EPERM = 1
errno_number ENOENT = 2
errno_number ENOMEM = 12
errno_number EBUSY = 16
errno_number EEXIST = 17
errno_number ENOTDIR = 20
errno_number EISDIR = 21
errno_number EINVAL = 22
errno_number ENOSPC = 28
errno_number ENAMETOOLONG = 36
errno_number ENOTEMPTY = 39
errno_number ELOOP = 40
errno_number EOVERFLOW = 75

abbrev pub errno_name : Errno → List ℕ
errno_name EPERM = codes "EPERM"
errno_name ENOENT = codes "ENOENT"
errno_name ENOMEM = codes "ENOMEM"
errno_name EBUSY = codes "EBUSY"
errno_name EEXIST = codes "EEXIST"
errno_name ENOTDIR = codes "ENOTDIR"
errno_name EISDIR = codes "EISDIR"
errno_name EINVAL = codes "EINVAL"
errno_name ENOSPC = codes "ENOSPC"
errno_name ENAMETOOLONG = codes "ENAMETOOLONG"
errno_name ENOTEMPTY = codes "ENOTEMPTY"
errno_name ELOOP = codes "ELOOP"
errno_name EOVERFLOW = codes "EOVERFLOW"

-- as it is printed: the name, a space and the number
abbrev pub errno_text : Errno → List ℕ
errno_text e = errno_name e ++ codes " " ++ decimal (errno_number e)

-- how running out of memory is reported, everywhere
abbrev pub no_memory_text : List ℕ
no_memory_text = codes "no memory"
