-- The limits of paths, and of changes.
use Rattle.std.specs.Prelude.{ℕ}

-- the most bytes of a path, and of a name: PATH_MAX without its closing byte 0 (limits.h)
abbrev pub longest_path : ℕ
longest_path = 4095

-- the most bytes of a component: NAME_MAX (limits.h)
abbrev pub longest_component : ℕ
longest_component = 255

-- the most bytes of a link's text (our choice)
abbrev pub longest_link_text : ℕ
longest_link_text = 1023

-- at most this many changes of a tree, and of a policy, are counted: 2^60 - 1 (our choice)
abbrev pub most_changes : ℕ
most_changes = 1152921504606846975
