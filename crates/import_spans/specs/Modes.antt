-- The mode of a profile, by the flags in its head (apparmor.d(5), "Profile Mode").
use Rattle.std.specs.Prelude.{ℕ, List, [], ◌∷◌, codes, if◌then◌else◌}
use Rattle.std.specs.Str.{bytes_eq}
use Rattle.apparmor_words.specs.Conditions.{allowing_flags, flags_of}
use Rattle.apparmor_words.specs.Statements.{is_one_of}
use Rattle.apparmor_text.specs.declared.part.PartKind.{PartKind}
use Rattle.apparmor_text.specs.declared.part.PartKind.TheVariants as kinds
use Rattle.apparmor_text.specs.Parts.{PartValue}
use Rattle.apparmor_rules.specs.declared.mode.Mode.{Mode}
use Rattle.apparmor_rules.specs.declared.mode.Mode.TheVariants.{Enforcing, Permissive, Unconfined}

-- unconfined refuses nothing; complain, default_allow and prompt may allow what no rule does, except what is denied
abbrev pub flag_mode : List ℕ → Mode
flag_mode word =
    if bytes_eq word (codes "unconfined") then Unconfined
    else if is_one_of allowing_flags word then Permissive
    else Enforcing

-- the one of two modes that allows more
abbrev pub more_permissive : Mode → Mode → Mode
more_permissive Enforcing other = other
more_permissive Permissive Enforcing = Permissive
more_permissive Permissive other = other
more_permissive Unconfined other = Unconfined

-- of a mode, and of those of flags, the one that allows most
abbrev pub mode_with : Mode → List (List ℕ) → Mode
mode_with mode [] = mode
mode_with mode (word ∷ words) = mode_with (more_permissive mode (flag_mode word)) words

-- the mode of a list of flags, with or without the word flags before it
abbrev pub mode_of_flags : List ℕ → Mode
mode_of_flags bytes = mode_with Enforcing (flags_of bytes)

-- the mode of a part's flags, if it has any
abbrev pub part_mode : PartKind → List ℕ → Mode
part_mode kinds.Flags bytes = mode_of_flags bytes
part_mode _ bytes = Enforcing

abbrev pub mode_with_parts : Mode → List PartValue → Mode
mode_with_parts mode [] = mode
mode_with_parts mode (p ∷ parts) = mode_with_parts (more_permissive mode (part_mode p.kind p.bytes)) parts

-- the mode of a profile with a head of these parts
abbrev pub mode_of_head : List PartValue → Mode
mode_of_head parts = mode_with_parts Enforcing parts
