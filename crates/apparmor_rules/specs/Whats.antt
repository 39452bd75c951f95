-- The words by which an account says why a part of a text isn't in the imported text unchanged.
use Rattle.std.specs.Prelude.{ℕ, List, [], ◌∷◌, ◌++◌, codes, Option, Some, None, find}
use Rattle.std.specs.Str.{bytes_eq}
use Rattle.apparmor_rules.specs.declared.what.What.{What}
use Rattle.apparmor_rules.specs.declared.what.What.TheVariants as whats

abbrev pub what_word : What → List ℕ
what_word whats.Audit = codes "audit"
what_word whats.Priority = codes "priority"
what_word whats.Owner = codes "owner"
what_word whats.Other = codes "other"
what_word whats.File = codes "file"
what_word whats.Safe = codes "safe"
what_word whats.Unsafe = codes "unsafe"
what_word whats.Subset = codes "subset"
what_word whats.Link = codes "link"
what_word whats.Target = codes "target"
what_word whats.Exec = codes "exec"
what_word whats.Capitals = codes "capitals"
what_word whats.Slashes = codes "slashes"
what_word whats.Pattern = codes "pattern"
what_word whats.Flags = codes "flags"
what_word whats.Xattrs = codes "xattrs"
what_word whats.Profile = codes "profile"
what_word whats.Child = codes "child"
what_word whats.Hat = codes "hat"
what_word whats.Parent = codes "parent"
what_word whats.Implied = codes "implied"
what_word whats.Boolean = codes "boolean"
what_word whats.Abi = codes "abi"
what_word whats.Capability = codes "capability"
what_word whats.Network = codes "network"
what_word whats.Mount = codes "mount"
what_word whats.Remount = codes "remount"
what_word whats.Umount = codes "umount"
what_word whats.PivotRoot = codes "pivot_root"
what_word whats.Signal = codes "signal"
what_word whats.Ptrace = codes "ptrace"
what_word whats.Dbus = codes "dbus"
what_word whats.Unix = codes "unix"
what_word whats.Set = codes "set"
what_word whats.ChangeProfile = codes "change_profile"
what_word whats.Userns = codes "userns"
what_word whats.Mqueue = codes "mqueue"
what_word whats.IoUring = codes "io_uring"

-- several are joined by +
abbrev pub joined : List What → List ℕ
joined [] = []
joined (w ∷ []) = what_word w
joined (w ∷ v ∷ whats) = what_word w ++ (codes "+" ++ joined (v ∷ whats))

-- the rules that aren't about files, and abi
abbrev pub statements : List What
statements =
    whats.Abi ∷ whats.Capability ∷ whats.Network ∷ whats.Mount ∷ whats.Remount ∷ whats.Umount ∷ whats.PivotRoot ∷ whats.Signal
    ∷ whats.Ptrace ∷ whats.Dbus ∷ whats.Unix ∷ whats.Set ∷ whats.ChangeProfile ∷ whats.Userns ∷ whats.Mqueue ∷ whats.IoUring ∷ []

-- that of a statement with this first word, if there is one
abbrev pub statement_what : List ℕ → Option What
statement_what word = find (λ w. bytes_eq word (what_word w)) statements
