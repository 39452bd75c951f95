-- The letters of a rule's permissions (apparmor.d(5), "Access Modes"): r w a l k m in either case (apparmor_parser refuses
-- A and K), and exec modes.
use Rattle.std.specs.Prelude.{ℕ, List, [], ◌∷◌, Option, Some, None, Bool, true, false, not, ◌&&◌, ◌||◌, ◌==◌, if◌then◌else◌, option_map}
use Rattle.std.specs.Char.{to_ascii_lowercase}
use Rattle.names.specs.Ascii as ascii
use Rattle.names.specs.declared.permissions.Permission.{Permission}
use Rattle.names.specs.declared.permissions.Perms.{Perms}
use Rattle.names.specs.declared.permissions.Permission.TheVariants.{Map}
use Rattle.names.specs.Permissions.{permission_of, with_permission, set_of, conflicts}
use Rattle.apparmor_words.specs.declared.letters.ExecMode.{ExecMode}
use Rattle.apparmor_words.specs.declared.letters.Letters.{Letters}

-- x, X
abbrev pub is_exec : ℕ → Bool
is_exec b = to_ascii_lowercase b == ascii.letter_x

-- p, P, c, C
abbrev pub is_change : ℕ → Bool
is_change b = to_ascii_lowercase b == ascii.letter_p || to_ascii_lowercase b == ascii.letter_c

-- i, I, u, U
abbrev pub is_otherwise : ℕ → Bool
is_otherwise b = to_ascii_lowercase b == ascii.letter_i || to_ascii_lowercase b == ascii.letter_u

-- before any letter of a mode
abbrev pub bare_mode : ExecMode
bare_mode = record { change = None; otherwise = None }

abbrev pub is_letter_there : Option ℕ → Bool
is_letter_there None = false
is_letter_there (Some b) = true

-- x alone, or no letter yet
abbrev pub is_bare : ExecMode → Bool
is_bare m = not (is_letter_there m.change || is_letter_there m.otherwise)

abbrev pub is_same_letter : Option ℕ → Option ℕ → Bool
is_same_letter None None = true
is_same_letter None (Some b) = false
is_same_letter (Some a) None = false
is_same_letter (Some a) (Some b) = a == b

-- The case of i doesn't count, nor that of u after another letter.
abbrev pub otherwise_letter : Option ℕ → ℕ → ℕ
otherwise_letter change b = if to_ascii_lowercase b == ascii.letter_i || is_letter_there change then to_ascii_lowercase b else b

abbrev pub is_same_mode : ExecMode → ExecMode → Bool
is_same_mode m n = is_same_letter m.change n.change && is_same_letter m.otherwise n.otherwise

-- a mode with i lets the program's file be mapped
abbrev pub inherits : ExecMode → Bool
inherits m = is_same_letter m.otherwise (Some ascii.letter_i)

-- the mode differs from one before it
abbrev pub differs_from : ExecMode → Option ExecMode → Bool
differs_from m None = false
differs_from m (Some n) = not (is_same_mode m n)

abbrev pub no_perms : Perms
no_perms = set_of (λ p. false)

abbrev pub no_letters : Letters
no_letters = record { perms = no_perms; exec = None; two_modes = false; capitals = false }

abbrev pub with_mode : Letters → ExecMode → Letters
with_mode l m = record {
  perms = if inherits m then with_permission l.perms Map else l.perms;
  exec = Some m;
  two_modes = l.two_modes || differs_from m l.exec;
  capitals = l.capitals;
}

-- a permission, whose letter is a capital or not
abbrev pub with_one : Letters → Bool → Permission → Letters
with_one l capital p = record {
  perms = with_permission l.perms p;
  exec = l.exec;
  two_modes = l.two_modes;
  capitals = l.capitals || capital;
}

-- a letter that is in lower case or not
abbrev pub with_letter : Letters → ℕ → Option Letters
with_letter l b = option_map (with_one l (not (b == to_ascii_lowercase b))) (permission_of (to_ascii_lowercase b))

-- What was read after one more letter: what the letters stand for, and the exec mode whose letters began. None if the letter
-- can't follow them.
abbrev pub letter_step : Letters → ExecMode → ℕ → Option (Letters × ExecMode)
letter_step l m b =
    if is_exec b then Some (with_mode l m, bare_mode)
    else if is_change b then (if is_bare m then Some (l, record { change = Some b; otherwise = None }) else None)
    else if is_otherwise b then
    (if is_letter_there m.otherwise then None else
    Some (l, record { change = m.change; otherwise = Some (otherwise_letter m.change b) }))
    else if is_bare m then option_map (λ n. (n, bare_mode)) (with_letter l b)
    else None

-- what these letters stand for, after others; every mode ends with its x
abbrev pub letters_from : Letters → ExecMode → List ℕ → Option Letters
letters_from l m [] = if is_bare m then Some l else None
letters_from l m (b ∷ bytes) = elim (letter_step l m b) [ None ↦ None | Some x ↦ letters_from x.0 x.1 bytes ]

-- the letters of a word
unfoldable pub letters_of : List ℕ → Option Letters
letters_of word = letters_from no_letters bare_mode word

-- the rule may have this exec mode: a bare x denies, any other mode allows
abbrev pub mode_fits : Bool → Option ExecMode → Bool
mode_fits denies None = true
mode_fits denies (Some m) = if is_bare m then denies else not denies

-- no two permissions that conflict, and at most one exec mode, which fits
abbrev pub are_fitting : Bool → Letters → Bool
are_fitting denies l = not (conflicts l.perms) && not l.two_modes && mode_fits denies l.exec
