-- The walk over a path's tokens finds out what their tests do.
use Rattle.std.proofs.Common.{◌≡◌, ℕ, suc, ◌-◌, ◌==◌, List, [], ◌∷◌, length, Option, Some, None, Bool, true, false, not, ◌&&◌, ◌||◌}
use Rattle.std.proofs.Common.{if◌then◌else◌, refl, sym, ap, ◌∙◌, arith}
use Rattle.std.specs.Prelude.{option_and_then, nat_le, nat_lt}
use Rattle.std.proofs.lemmas.Bool.Decides.{nat_tests}
use Rattle.std.specs.List.{list_all}
use Rattle.rule_globs.specs.Glob.{is_slash}
use Rattle.rule_globs.specs.Tokens.{Token, byte, any_byte, bracket, stars, opening, between, closing}
use Rattle.rule_profile.specs.PathTokens.{slash_or_end_behind}
use Rattle.rule_profile.specs.Limits.{most_items}
use Rattle.rule_profile.specs.Readable.{can_stand, is_range, begins_with_run, begins_with_slash, are_tokens, is_path}
use Rattle.rule_making.specs.declared.place.Place.{Place}
use Rattle.rule_making.specs.declared.place.Wanted.{Wanted}
use Rattle.rule_making.specs.declared.place.Wanted.TheVariants.{FirstSlash, Anything, NoRun, SlashOrEnd, Other}
use Rattle.rule_making.specs.inner.TokenTests.{can_begin, passed, behind_run, walk, is_end, start}

-- these tokens are what is required
abbrev pub fits : Wanted → List Token → Bool
fits FirstSlash tokens = begins_with_slash tokens
fits Anything tokens = true
fits NoRun tokens = not (begins_with_run tokens)
fits SlashOrEnd tokens = slash_or_end_behind tokens
fits Other tokens = not (begins_with_run tokens) && not (slash_or_end_behind tokens)

abbrev pub end_of : Option Place → Bool
end_of None = false
end_of (Some p) = is_end p

abbrev place : Wanted → Bool → ℕ → ℕ → Place
place wanted after_slash depth room = record { wanted = wanted; after_slash = after_slash; depth = depth; room = room }

-- what the walk over the tokens is to find out
abbrev Finds : List Token → Type 0
Finds tokens = (wanted : Wanted) (after_slash : Bool) (depth room : ℕ) →
    end_of (walk tokens (place wanted after_slash depth room))
    ≡ (nat_le (length tokens) room && (fits wanted tokens && are_tokens after_slash depth tokens))

and_false : (a : Bool) → (a && false) ≡ false
and_false true = refl
and_false false = refl

and_true : (a : Bool) → (a && true) ≡ a
and_true true = refl
and_true false = refl

-- ---- a token that is no run

-- where there is no room, where there is
no_room : (n room : ℕ) → (room == 0) ≡ true → nat_le (suc n) room ≡ false
no_room n room h = grind (arith, nat_tests)

some_room : (n room : ℕ) → (room == 0) ≡ false → nat_le (suc n) room ≡ nat_le n (room - 1)
some_room n room h = grind (arith, nat_tests)

roomy : (tokens : List Token) (none c : Bool) (less : ℕ) (le : Bool) (wanted : Wanted) (slash : Bool) (depth : ℕ) → Finds tokens →
    (none ≡ true → le ≡ false) → (none ≡ false → le ≡ nat_le (length tokens) less) →
    end_of (option_and_then (walk tokens) (if none || not c then None else Some (place wanted slash depth less)))
    ≡ (le && (c && (fits wanted tokens && are_tokens slash depth tokens)))
roomy tokens true c less le wanted slash depth ih without within =
    sym (ap (λ x. x && (c && (fits wanted tokens && are_tokens slash depth tokens))) (without refl))
roomy tokens false true less le wanted slash depth ih without within =
    ih wanted slash depth less ∙ sym (ap (λ x. x && (fits wanted tokens && are_tokens slash depth tokens)) (within refl))
roomy tokens false false less le wanted slash depth ih without within = sym (and_false le)

passed_walk : (tokens : List Token) (wanted : Wanted) (after_slash slash : Bool) (from depth room : ℕ) → Finds tokens →
    end_of (option_and_then (walk tokens) (passed (place wanted after_slash from room) slash depth))
    ≡ (nat_le (suc (length tokens)) room && (can_begin wanted slash && are_tokens slash depth tokens))
passed_walk tokens wanted after_slash slash from depth room ih =
    roomy tokens (room == 0) (can_begin wanted slash) (room - 1) (nat_le (suc (length tokens)) room) Anything slash depth ih
    (no_room (length tokens) room) (some_room (length tokens) room)

-- what is under a test of its own
tested : (c : Bool) (tokens : List Token) (o : Option Place) (room fit others : Bool) →
    end_of (option_and_then (walk tokens) o) ≡ (room && (fit && others)) →
    end_of (option_and_then (walk tokens) (if c then o else None)) ≡ (room && (fit && (c && others)))
tested true tokens o room fit others h = h
tested false tokens o room fit others h = sym (ap (λ x. room && x) (and_false fit) ∙ and_false room)

fits-byte : (wanted : Wanted) (b : ℕ) (tokens : List Token) → fits wanted (byte b ∷ tokens) ≡ can_begin wanted (is_slash b)
fits-byte FirstSlash b tokens = refl
fits-byte Anything b tokens = refl
fits-byte NoRun b tokens = refl
fits-byte SlashOrEnd b tokens = refl
fits-byte Other b tokens = refl

-- a token that is no run and no slash
abbrev IsOther : Token → Type 0
IsOther t = (wanted : Wanted) (tokens : List Token) → fits wanted (t ∷ tokens) ≡ can_begin wanted false

other-any_byte : IsOther any_byte
other-any_byte FirstSlash tokens = refl
other-any_byte Anything tokens = refl
other-any_byte NoRun tokens = refl
other-any_byte SlashOrEnd tokens = refl
other-any_byte Other tokens = refl

other-bracket : (negated : Bool) (ranges : List _) → IsOther (bracket negated ranges)
other-bracket negated ranges FirstSlash tokens = refl
other-bracket negated ranges Anything tokens = refl
other-bracket negated ranges NoRun tokens = refl
other-bracket negated ranges SlashOrEnd tokens = refl
other-bracket negated ranges Other tokens = refl

other-opening : IsOther opening
other-opening FirstSlash tokens = refl
other-opening Anything tokens = refl
other-opening NoRun tokens = refl
other-opening SlashOrEnd tokens = refl
other-opening Other tokens = refl

other-between : IsOther between
other-between FirstSlash tokens = refl
other-between Anything tokens = refl
other-between NoRun tokens = refl
other-between SlashOrEnd tokens = refl
other-between Other tokens = refl

other-closing : IsOther closing
other-closing FirstSlash tokens = refl
other-closing Anything tokens = refl
other-closing NoRun tokens = refl
other-closing SlashOrEnd tokens = refl
other-closing Other tokens = refl

-- ---- a run

slash_is_no_run : (tokens : List Token) → (not (begins_with_run tokens) && slash_or_end_behind tokens) ≡ slash_or_end_behind tokens
slash_is_no_run [] = refl
slash_is_no_run (byte b ∷ tokens) = refl
slash_is_no_run (any_byte ∷ tokens) = refl
slash_is_no_run (bracket negated ranges ∷ tokens) = refl
slash_is_no_run (stars crosses_slashes strict ∷ tokens) = refl
slash_is_no_run (opening ∷ tokens) = refl
slash_is_no_run (between ∷ tokens) = refl
slash_is_no_run (closing ∷ tokens) = refl

run_room : (tokens : List Token) (c : Bool) (wanted : Wanted) (depth room : ℕ) → Finds tokens →
    end_of (option_and_then (walk tokens) (if (room == 0) || not c then None else Some (place wanted false depth (room - 1))))
    ≡ (nat_le (suc (length tokens)) room && (c && (fits wanted tokens && are_tokens false depth tokens)))
run_room tokens c wanted depth room ih =
    roomy tokens (room == 0) c (room - 1) (nat_le (suc (length tokens)) room) wanted false depth ih
    (no_room (length tokens) room) (some_room (length tokens) room)

run_walk : (tokens : List Token) (crosses_slashes strict : Bool) → Finds tokens → Finds (stars crosses_slashes strict ∷ tokens)
run_walk tokens crosses_slashes strict ih FirstSlash after_slash depth room =
    run_room tokens false (behind_run strict after_slash) depth room ih
run_walk tokens crosses_slashes strict ih NoRun after_slash depth room =
    run_room tokens false (behind_run strict after_slash) depth room ih
run_walk tokens crosses_slashes strict ih SlashOrEnd after_slash depth room =
    run_room tokens false (behind_run strict after_slash) depth room ih
run_walk tokens crosses_slashes strict ih Other after_slash depth room =
    run_room tokens false (behind_run strict after_slash) depth room ih
run_walk tokens crosses_slashes true ih Anything true depth room =
    run_room tokens true SlashOrEnd depth room ih
    ∙ ap (λ x. nat_le (suc (length tokens)) room && (x && are_tokens false depth tokens))
    (sym (ap (λ x. x && slash_or_end_behind tokens) (and_true (not (begins_with_run tokens))) ∙ slash_is_no_run tokens))
run_walk tokens crosses_slashes true ih Anything false depth room =
    run_room tokens false SlashOrEnd depth room ih
    ∙ ap (λ x. nat_le (suc (length tokens)) room && ((x && slash_or_end_behind tokens) && are_tokens false depth tokens))
    (sym (and_false (not (begins_with_run tokens))))
run_walk tokens crosses_slashes false ih Anything true depth room = run_room tokens true Other depth room ih
run_walk tokens crosses_slashes false ih Anything false depth room =
    run_room tokens true NoRun depth room ih
    ∙ ap (λ x. nat_le (suc (length tokens)) room && (x && are_tokens false depth tokens)) (sym (and_true (not (begins_with_run tokens))))

-- ---- the tokens

-- one more token that is no run and no slash
other_walk : (tokens : List Token) (t : Token) (wanted : Wanted) (after_slash c : Bool) (from depth room : ℕ) → Finds tokens → IsOther t →
    end_of (option_and_then (walk tokens) (if c then passed (place wanted after_slash from room) false depth else None))
    ≡ (nat_le (suc (length tokens)) room && (fits wanted (t ∷ tokens) && (c && are_tokens false depth tokens)))
other_walk tokens t wanted after_slash c from depth room ih other =
    tested c tokens (passed (place wanted after_slash from room) false depth) (nat_le (suc (length tokens)) room) (can_begin wanted false)
    (are_tokens false depth tokens) (passed_walk tokens wanted after_slash false from depth room ih)
    ∙ ap (λ x. nat_le (suc (length tokens)) room && (x && (c && are_tokens false depth tokens))) (sym (other wanted tokens))

room_for_none : (room : ℕ) → nat_le 0 room ≡ true
room_for_none room = grind (arith, nat_tests)

ended : (c d le : Bool) → le ≡ true → (d && c) ≡ (le && (c && d))
ended true true le h = sym (ap (λ x. x && true) h)
ended true false le h = sym (ap (λ x. x && false) h)
ended false true le h = sym (ap (λ x. x && false) h)
ended false false le h = sym (ap (λ x. x && false) h)

finds : (tokens : List Token) → Finds tokens
finds [] FirstSlash after_slash depth room = ended false (depth == 0) (nat_le 0 room) (room_for_none room)
finds [] Anything after_slash depth room = ended true (depth == 0) (nat_le 0 room) (room_for_none room)
finds [] NoRun after_slash depth room = ended true (depth == 0) (nat_le 0 room) (room_for_none room)
finds [] SlashOrEnd after_slash depth room = ended true (depth == 0) (nat_le 0 room) (room_for_none room)
finds [] Other after_slash depth room = ended false (depth == 0) (nat_le 0 room) (room_for_none room)
finds (byte b ∷ tokens) wanted after_slash depth room =
    tested (can_stand b) tokens (passed (place wanted after_slash depth room) (is_slash b) depth) (nat_le (suc (length tokens)) room)
    (can_begin wanted (is_slash b)) (are_tokens (is_slash b) depth tokens)
    (passed_walk tokens wanted after_slash (is_slash b) depth depth room (finds tokens))
    ∙ ap (λ x. nat_le (suc (length tokens)) room && (x && (can_stand b && are_tokens (is_slash b) depth tokens)))
    (sym (fits-byte wanted b tokens))
finds (any_byte ∷ tokens) wanted after_slash depth room =
    other_walk tokens any_byte wanted after_slash true depth depth room (finds tokens) other-any_byte
finds (bracket negated ranges ∷ tokens) wanted after_slash depth room =
    other_walk tokens (bracket negated ranges) wanted after_slash (not (length ranges == 0) && list_all is_range ranges) depth depth room
    (finds tokens) (other-bracket negated ranges)
finds (stars crosses_slashes strict ∷ tokens) wanted after_slash depth room =
    run_walk tokens crosses_slashes strict (finds tokens) wanted after_slash depth room
finds (opening ∷ tokens) wanted after_slash depth room =
    other_walk tokens opening wanted after_slash (nat_lt depth 50) depth (suc depth) room (finds tokens) other-opening
finds (between ∷ tokens) wanted after_slash depth room =
    other_walk tokens between wanted after_slash (nat_lt 0 depth) depth depth room (finds tokens) other-between
finds (closing ∷ tokens) wanted after_slash depth room =
    other_walk tokens closing wanted after_slash (nat_lt 0 depth) depth (depth - 1) room (finds tokens) other-closing

swapped : (a b c : Bool) → (a && (b && c)) ≡ ((b && a) && c)
swapped true true c = refl
swapped true false c = refl
swapped false true c = refl
swapped false false c = refl

-- From the path's start on it finds out whether they are a path.
pub path_found : (tokens : List Token) → end_of (walk tokens start) ≡ is_path tokens
path_found tokens =
    finds tokens FirstSlash false 0 most_items
    ∙ swapped (nat_le (length tokens) most_items) (begins_with_slash tokens) (are_tokens false 0 tokens)
