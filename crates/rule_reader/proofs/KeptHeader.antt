-- What comes before a profile's rules, with more bytes after it.
use Rattle.std.proofs.Common.{◌≡◌, ℕ, ◌≤◌, false, List, [], ◌∷◌, ◌++◌, length, length-append, Result, refl, subst, ◌==◌, arith}
use Rattle.std.specs.Prelude.{◌||◌, codes, if◌then◌else◌, nat_eq}
use Rattle.std.specs.List.{starts_with}
use Rattle.std.proofs.lemmas.Bool.{or_from}
use Rattle.rule_reader.specs.declared.reader.local_fault.FaultKind.TheVariants as kinds
use Rattle.rule_reader.specs.declared.reader.local_fault.LocalFault.{LocalFault}
use Rattle.rule_globs.specs.Glob.{is_slash}
use Rattle.rule_reader.specs.ReadSteps.{goes_on, fault_here, syntax}
use Rattle.rule_reader.specs.ReadHeader.{slash_name_at, is_colon, begins_no_name, name_at, attachment_at, brace_at, named_header_at}
use Rattle.rule_reader.specs.ReadHeader.{slash_header_at, header_at}
use Rattle.rule_reader.specs.ReadWords.{name_bytes, name_in, quoted_name, word, after_word, is_word}
use Rattle.rule_reader.specs.TextBytes.{begins, is_quote, is_open_brace, is_letter_byte}
use Rattle.rule_reader.proofs.Kept.{IsFault, claims, KeptBytes, KeptPair, by_test, nothing, known, stays, faults, fault_if, stop_is}
use Rattle.rule_reader.proofs.Kept.{kept_if, after_bytes, after_pair}
use Rattle.rule_reader.specs.laws.ReadRuns.{apart}
use Rattle.rule_reader.proofs.KeptWords.{word_cases, gap_kept, name_in_kept, quoted_name_kept, name_in_room, quoted_name_room}

pub slash_name_kept : (room : ℕ) (bytes more : List ℕ) → KeptPair more (slash_name_at room bytes) (slash_name_at room (bytes ++ more))
unfolding slash_name_at
slash_name_kept room [] more = nothing refl
slash_name_kept room (b ∷ []) more =
    kept_if (is_slash b) (λ _. name_in_kept false room (b ∷ []) more) (λ _. kept_if (is_quote b) (λ _. nothing refl) (λ _. stays))
slash_name_kept room (b ∷ c ∷ bytes) more =
    kept_if (is_slash b) (λ _. name_in_kept false room (b ∷ c ∷ bytes) more) (λ _.
    kept_if (is_quote b) (λ _. kept_if (is_slash c) (λ _. quoted_name_kept room (c ∷ bytes) more) (λ _. stays)) (λ _. stays))

-- with room for all bytes, more room changes nothing
slash_name_room : (room larger : ℕ) (bytes : List ℕ) → length bytes ≤ room → length bytes ≤ larger → slash_name_at room bytes
    ≡ slash_name_at larger bytes
unfolding slash_name_at
slash_name_room room larger [] h g = refl
slash_name_room room larger (b ∷ bytes) h g =
    let bare = name_in_room false room larger (b ∷ bytes) h g in
    let quoted = quoted_name_room room larger bytes (omega arith) (omega arith) in
    rw (bare, quoted)

no_name : claims (λ (x : List ℕ × List ℕ). goes_on x.1) (name_in false 255 []) ≡ false
unfolding name_in name_bytes
no_name = refl

none_in_quotes : claims (λ (x : List ℕ × List ℕ). goes_on x.1) (quoted_name 255 []) ≡ false
unfolding quoted_name name_in name_bytes
none_in_quotes = refl

pub name_kept : (bytes more : List ℕ) → KeptPair more (name_at bytes) (name_at (bytes ++ more))
unfolding name_at
name_kept [] more = nothing no_name
name_kept (b ∷ []) more =
    kept_if (is_quote b) (λ _. nothing none_in_quotes) (λ _.
    kept_if (is_colon b) (λ _. stays) (λ _.
    kept_if (begins_no_name b) (λ _. stays) (λ _. name_in_kept false 255 (b ∷ []) more)))
name_kept (b ∷ c ∷ bytes) more =
    kept_if (is_quote b) (λ _. kept_if (is_colon c) (λ _. stays) (λ _. quoted_name_kept 255 (c ∷ bytes) more)) (λ _.
    kept_if (is_colon b) (λ _. stays) (λ _.
    kept_if (begins_no_name b) (λ _. stays) (λ _. name_in_kept false 255 (b ∷ c ∷ bytes) more)))

pub attachment_kept : (bytes more : List ℕ) → KeptBytes more (attachment_at bytes) (attachment_at (bytes ++ more))
unfolding attachment_at
attachment_kept [] more = nothing refl
attachment_kept (b ∷ bytes) more =
    let here : List ℕ = b ∷ bytes in
    let name : KeptPair more (slash_name_at (length here) here) (slash_name_at (length (here ++ more)) (here ++ more)) =
    subst (λ x. KeptPair more x (slash_name_at (length (here ++ more)) (here ++ more)))
    (slash_name_room (length (here ++ more)) (length here) here (simp length-append (omega arith)) (omega arith))
    (slash_name_kept (length (here ++ more)) here more) in
    kept_if (is_slash b || is_quote b) (λ _. after_pair _ _ name (λ name rest. gap_kept rest more) (λ name. refl)) (λ _. known (λ _. refl))

abbrev flags : List ℕ → Result (List ℕ) LocalFault
flags bytes =
    if starts_with nat_eq bytes (codes "flags=") then fault_here (kinds.LeftOut 5) bytes
    else if starts_with nat_eq bytes (codes "xattrs=") then fault_here (kinds.LeftOut 6) bytes
    else if begins (λ b. b == 40) bytes then fault_here (kinds.LeftOut 1) bytes
    else syntax bytes

no_brace : (bytes : List ℕ) → IsFault (flags bytes)
no_brace bytes =
    fault_if (starts_with nat_eq bytes (codes "flags=")) stop_is (fault_if (starts_with nat_eq bytes (codes "xattrs=")) stop_is
    (fault_if (begins (λ b. b == 40) bytes) stop_is stop_is))

pub brace_kept : (bytes more : List ℕ) → KeptBytes more (brace_at bytes) (brace_at (bytes ++ more))
unfolding brace_at
brace_kept [] more = nothing refl
brace_kept (b ∷ bytes) more =
    kept_if (is_open_brace b) (λ _. known (λ _. refl)) (λ _.
    faults (no_brace (b ∷ bytes)) (no_brace (b ∷ bytes ++ more)))

named_header_kept : (bytes more : List ℕ) → after_word (bytes ++ more) ≡ after_word bytes ++ more → KeptPair more (named_header_at bytes)
    (named_header_at (bytes ++ more))
unfolding named_header_at name_at attachment_at brace_at name_in name_bytes
named_header_kept bytes more past =
    rw past
    (after_bytes _ _ (gap_kept (after_word bytes) more) (λ from.
    after_pair _ _ (name_kept from more) (λ name rest.
    after_bytes _ _ (gap_kept rest more) (λ behind.
    after_bytes _ _ (attachment_kept behind more) (λ brace.
    after_bytes _ _ (brace_kept brace more) (λ inside. known (λ _. refl)) refl) refl) refl) (λ _. refl)) refl)

slash_header_kept : (bytes more : List ℕ) → KeptPair more (slash_header_at bytes) (slash_header_at (bytes ++ more))
unfolding slash_header_at brace_at
slash_header_kept bytes more =
    after_pair _ _ (slash_name_kept 255 bytes more) (λ name rest.
    after_bytes _ _ (gap_kept rest more) (λ brace. after_bytes _ _ (brace_kept brace more) (λ inside. known (λ _. refl)) refl) refl)
    (λ _. refl)

-- the word profile at the end
profile_open : (bytes : List ℕ) → after_word bytes ≡ [] → claims (λ (x : List ℕ × List ℕ). goes_on x.1) (named_header_at bytes) ≡ false
unfolding named_header_at
profile_open bytes past = rw past refl

pub header_kept : (bytes more : List ℕ) → KeptPair more (header_at bytes) (header_at (bytes ++ more))
unfolding header_at
header_kept [] more = nothing refl
header_kept (b ∷ bytes) more =
    let here : List ℕ = b ∷ bytes in
    word_cases b bytes more
    (λ other. rw other (kept_if (is_slash b || is_quote b) (λ _. slash_header_kept here more)
    (λ _. kept_if (b == 64) (λ _. stays) (λ _. stays))))
    (λ letter same past. rw same (
    kept_if (is_word (codes "profile") here) (λ _. named_header_kept here more past) (λ _.
    kept_if (is_slash b || is_quote b) (λ _. slash_header_kept here more) (λ _.
    kept_if (length (word here) == 0) (λ _. kept_if (b == 64) (λ _. stays) (λ _. stays)) (λ _. stays)))))
    (λ letter past some.
    let slash : is_slash b || is_quote b ≡ false = or_from _ _ (apart is_letter_byte b 47 letter refl)
    (apart is_letter_byte b 34 letter refl) in
    nothing (by_test (is_word (codes "profile") here) (λ e. rw e (profile_open here past)) (λ e. rw (e, slash, some, past) refl)))
