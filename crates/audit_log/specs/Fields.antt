-- The fields of a line of a log, `key="value"` or `key=value`, as the kernel writes them (security/apparmor/audit.c and
-- security/lsm_audit.c): with gaps between them, and after whatever the program that prints the log puts before them.
use Rattle.std.specs.Prelude.{ℕ, Bool, false, true, not, ◌==◌, ◌&&◌, List, [], ◌∷◌, length, take, drop, bytes_eq, nat_le}
use Rattle.std.specs.Prelude.{Option, Some, None, Ok, Err, if◌then◌else◌, option_map}
use Rattle.std.specs.List.{before_first, position_or_len}
use Rattle.hex.specs.Hex.{decode_of}
use Rattle.names.specs.Ascii as ascii

-- A blank or a control byte: auditd's enriched format puts byte 29 before what it adds (auditd.conf(5), "log_format").
abbrev pub is_gap : ℕ → Bool
is_gap b = nat_le b ascii.space

abbrev pub is_quote : ℕ → Bool
is_quote b = b == ascii.quote

abbrev pub begins_with : List ℕ → List ℕ → Bool
begins_with key bytes = bytes_eq (take (length key) bytes) key

-- What follows the first place of the line with this key, which ends with an equals sign. `front` says that a field may begin
-- here: at the line's beginning, or after a gap that isn't within quotes.
abbrev pub after_key : List ℕ → Bool → Bool → List ℕ → Option (List ℕ)
after_key key front quoted [] = None
after_key key front quoted (b ∷ bytes) =
    if front && begins_with key (b ∷ bytes) then Some (drop (length key) (b ∷ bytes))
    else after_key key (not quoted && is_gap b) (if is_quote b then not quoted else quoted) bytes

abbrev pub begins : (ℕ → Bool) → List ℕ → Bool
begins test [] = false
begins test (b ∷ bytes) = test b

-- a value in quotes, given what follows the first one: up to the next, which may not be missing
abbrev pub quoted_value : List ℕ → Option (List ℕ)
quoted_value bytes =
    if begins is_quote (drop (position_or_len is_quote bytes) bytes) then Some (before_first is_quote bytes) else None

-- the value that begins here, as it is written
abbrev pub word_at : List ℕ → Option (List ℕ)
word_at bytes = if begins is_quote bytes then quoted_value (drop 1 bytes) else Some (before_first is_gap bytes)

-- The bytes that hex digits stand for, two digits each: the kernel writes a text so that has a quote, a blank, a control byte or
-- a byte above 126 (audit_log_n_untrustedstring of kernel/audit.c). Any other word stands for itself.
abbrev pub text_of_word : List ℕ → List ℕ
text_of_word word = elim (decode_of word) [ Ok bytes ↦ bytes | Err e ↦ word ]

-- the text that begins here
abbrev pub text_at : List ℕ → Option (List ℕ)
text_at bytes = if begins is_quote bytes then quoted_value (drop 1 bytes) else Some (text_of_word (before_first is_gap bytes))

-- the value of the first field with this key, as it is written
abbrev pub word_of : List ℕ → List ℕ → Option (List ℕ)
word_of key line = elim (after_key key true false line) [ None ↦ None | Some value ↦ word_at value ]

-- the text of the first field with this key
abbrev pub text_of : List ℕ → List ℕ → Option (List ℕ)
text_of key line = elim (after_key key true false line) [ None ↦ None | Some value ↦ text_at value ]

-- The text of a field that a line may lack: of the first one with this key, or no text where there is none. A value without its
-- last quote is neither.
abbrev pub given_text : List ℕ → List ℕ → Option (Option (List ℕ))
given_text key line = elim (after_key key true false line) [ None ↦ Some None | Some value ↦ option_map Some (text_at value) ]
