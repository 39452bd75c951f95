-- Paths with more bytes after them. A bare path that ends at a comma, if the comma is the text's last byte, may go on.
use Rattle.std.proofs.Common.{◌≡◌, ℕ, zero, suc, Bool, true, false, cond, List, [], ◌∷◌, ◌++◌, length, Result, Ok, Err, refl, sym, ap}
use Rattle.std.proofs.Common.{subst, ◌==◌, inl, inr, ◌⊎◌, arith}
use Rattle.std.specs.Prelude.{◌&&◌, ◌||◌, not, codes, drop, nat_le}
use Rattle.std.specs.Char.{is_ascii_alphanumeric}
use Rattle.std.proofs.lemmas.Bool.{eqb-true, or_parts, and_parts, not-true, not-false}
use Rattle.rule_globs.specs.declared.items.ByteRange.{ByteRange}
use Rattle.rule_reader.specs.declared.reader.class.ClassByte.{ClassByte}
use Rattle.rule_reader.specs.declared.reader.class.ClassByte.TheVariants.{Member, End, PathEnd, Backslash, Code, Wrong}
use Rattle.rule_reader.specs.declared.reader.class.Pending.{Pending}
use Rattle.rule_reader.specs.declared.reader.class.Pending.TheVariants.{Start}
use Rattle.rule_reader.specs.declared.reader.local_fault.FaultKind.TheVariants as kinds
use Rattle.rule_reader.specs.declared.reader.local_fault.LocalFault.{LocalFault}
use Rattle.rule_globs.specs.Glob.{is_slash}
use Rattle.rule_reader.specs.ReadSteps.{◌>>=◌, goes_on, fault_with_left, syntax}
use Rattle.rule_reader.specs.ReadClasses.{class_byte, with_member, is_reversed, at_end, members_at, class_at}
use Rattle.rule_reader.specs.ReadPaths.{path_ends, escaped_at, goes_on_at, slash_or_end, token_at, braces_behind, all_closed, tokens_at}
use Rattle.rule_reader.specs.ReadPaths.{path_in, path_at}
use Rattle.rule_profile.specs.PathTokens.{is_plain_slash}
use Rattle.rule_reader.specs.ReadWords.{after}
use Rattle.rule_reader.specs.TextBytes.{begins, is_white, is_quote, is_comma, is_star, is_open_brace, is_close_brace}
use Rattle.rule_globs.specs.Tokens.{Token, byte, any_byte, bracket, stars, opening, between, closing}
use Rattle.rule_reader.proofs.Kept.{IsFault, claims, Kept, KeptPair, then_more, by_test, both, ends_here, nothing, known, stays, faults}
use Rattle.rule_reader.proofs.Kept.{stop_is, fault_goes_on, kept_if, kept_option, kept_less, kept_bind, after_bytes, after_pair}
use Rattle.rule_reader.proofs.KeptWords.{after_more, literal_kept}

-- ---- classes

abbrev by_class_byte : {A : Type 0} → ClassByte → Result A LocalFault → Result A LocalFault → Result A LocalFault → Result A LocalFault →
    Result A LocalFault → Result A LocalFault → Result A LocalFault
by_class_byte kind x1 x2 x3 x4 x5 x6 = elim kind [ Member ↦ x1 | End ↦ x2 | PathEnd ↦ x3 | Backslash ↦ x4 | Code ↦ x5 | Wrong ↦ x6 ]

kept_class_byte : {A : Type 0} {put : A → A} {enough : A → Bool} {x1 x2 x3 x4 x5 x6 y1 y2 y3 y4 y5 y6 : Result A LocalFault}
    (kind : ClassByte)
    → Kept put enough x1 y1 → Kept put enough x2 y2 → Kept put enough x3 y3 → Kept put enough x4 y4 → Kept put enough x5 y5 →
    Kept put enough x6 y6 → Kept put enough (by_class_byte kind x1 x2 x3 x4 x5 x6) (by_class_byte kind y1 y2 y3 y4 y5 y6)
kept_class_byte Member h1 h2 h3 h4 h5 h6 = h1
kept_class_byte End h1 h2 h3 h4 h5 h6 = h2
kept_class_byte PathEnd h1 h2 h3 h4 h5 h6 = h3
kept_class_byte Backslash h1 h2 h3 h4 h5 h6 = h4
kept_class_byte Code h1 h2 h3 h4 h5 h6 = h5
kept_class_byte Wrong h1 h2 h3 h4 h5 h6 = h6

no_end_here : (t : Bool) (here : ℕ) → claims (λ (x : List ByteRange × List ℕ). goes_on x.1)
    (cond t (syntax []) (fault_with_left kinds.Class here [])) ≡ false
no_end_here true here = refl
no_end_here false here = refl

members_kept : (quoted : Bool) (here there : ℕ) (pending : Pending) (escaped : Bool) (bytes more : List ℕ)
    → KeptPair more (members_at quoted here pending escaped bytes) (members_at quoted there pending escaped (bytes ++ more))
unfolding members_at
members_kept quoted here there pending escaped [] more = nothing (no_end_here (quoted || escaped) here)
members_kept quoted here there pending escaped (b ∷ bytes) more =
    kept_class_byte (class_byte quoted escaped b)
    (kept_option _ _ (with_member pending (not escaped && b == 45) b) stays (λ x.
    after_pair _ _ (members_kept quoted here there x.1 false bytes more) (λ ranges rest. known (λ _. refl)) (λ ranges. refl)))
    (kept_option _ _ (at_end pending) stays (λ ranges. known (λ _. refl)))
    stays
    (kept_if (is_reversed pending) (λ _. stays) (λ _. members_kept quoted here there pending true bytes more))
    stays
    stays

class_kept : (quoted : Bool) (here there : ℕ) (bytes more : List ℕ) → KeptPair more (class_at quoted here bytes)
    (class_at quoted there (bytes ++ more))
unfolding class_at members_at
class_kept true here there [] more = nothing refl
class_kept false here there [] more = nothing refl
class_kept quoted here there (b ∷ bytes) more =
    kept_if (b == 94)
    (λ _. after_pair _ _ (members_kept quoted here there Start false bytes more) (λ ranges rest. known (λ _. refl)) (λ ranges. refl))
    (λ _. after_pair _ _ (members_kept quoted here there Start false (b ∷ bytes) more) (λ ranges rest. known (λ _. refl)) (λ ranges. refl))

-- ---- escapes

escaped_seen : (b : ℕ) (bytes more : List ℕ) → Kept (then_more more) (λ _. true) (escaped_at (b ∷ bytes)) (escaped_at (b ∷ bytes ++ more))
escaped_seen b bytes more = kept_if (b == 0 || b == 10) (λ _. stays) (λ _. kept_if (is_ascii_alphanumeric b) (λ _. stays)
    (λ _. known (λ _. refl)))

escaped_kept : (bytes more : List ℕ) → KeptPair more (escaped_at bytes) (escaped_at (bytes ++ more))
escaped_kept [] more = nothing refl
escaped_kept (b ∷ bytes) more = kept_less (λ a _. refl) (escaped_seen b bytes more)

-- ---- where a path ends

-- It is certain whether a path ends here. It isn't at the text's end, at a last backslash, and at the last comma of a bare path
-- outside groups.
abbrev sure : Bool → ℕ → List ℕ → Bool
sure quoted depth [] = false
sure quoted depth (b ∷ []) = not (92 == b || (not quoted && (is_comma b && (depth == 0))))
sure quoted depth (b ∷ c ∷ bytes) = true

-- what is left over is certainly no part of the path: it isn't empty, and after a bare path it isn't a last comma
abbrev pub over : Bool → List ℕ → Bool
over quoted [] = false
over quoted (b ∷ []) = quoted || not (is_comma b)
over quoted (b ∷ c ∷ bytes) = true

ends_alike : (bare white comma outside x y : Bool) → bare && (comma && outside) ≡ false → bare && (white || (comma && outside && x)) ≡ bare
    && (white || (comma && outside && y))
ends_alike false white comma outside x y h = refl
ends_alike true white false outside x y h = refl
ends_alike true white true false x y h = refl
ends_alike true white true true x y h = both h

sure_parts : (quoted : Bool) (depth b : ℕ) → sure quoted depth (b ∷ []) ≡ true → (92 == b ≡ false)
    × (not quoted && (is_comma b && (depth == 0)) ≡ false)
sure_parts quoted depth b h = or_parts _ _ (not-true _ h)

path_ends_more : (quoted : Bool) (depth : ℕ) (bytes more : List ℕ) → sure quoted depth bytes ≡ true →
    path_ends quoted depth (bytes ++ more) ≡ path_ends quoted depth bytes
path_ends_more quoted depth [] more h = both (sym h)
path_ends_more quoted depth (b ∷ []) more h = ap (λ t. is_quote b || t) (ends_alike (not quoted) (is_white b) (is_comma b) (depth == 0) _ _
    (sure_parts quoted depth b h).1)
path_ends_more quoted depth (b ∷ c ∷ bytes) more h = refl

slash_or_end_more : (quoted : Bool) (depth : ℕ) (bytes more : List ℕ) → sure quoted depth bytes ≡ true →
    slash_or_end quoted depth (bytes ++ more) ≡ slash_or_end quoted depth bytes
slash_or_end_more quoted depth [] more h = both (sym h)
slash_or_end_more quoted depth (b ∷ []) more h =
    let slash = (sure_parts quoted depth b h).0 in
    let ends = path_ends_more quoted depth (b ∷ []) more h in
    rw (slash, ends) refl
slash_or_end_more quoted depth (b ∷ c ∷ bytes) more h = refl

sure_goes : (quoted : Bool) (depth : ℕ) (bytes : List ℕ) → sure quoted depth bytes ≡ true → goes_on bytes ≡ true
sure_goes quoted depth [] h = h
sure_goes quoted depth (b ∷ bytes) h = refl

-- @ is the text's last byte: a brace after it would be a fault
abbrev at_last : ℕ → List ℕ → Bool
at_last b bytes = b == 64 && not (goes_on bytes)

variable_more : (b : ℕ) (bytes more : List ℕ) → at_last b bytes ≡ false → b == 64 && begins is_open_brace (bytes ++ more) ≡ b == 64
    && begins is_open_brace bytes
variable_more b [] more h = by_test (b == 64) (λ e. both (rw e at h)) (λ e. rw e refl)
variable_more b (c ∷ bytes) more h = refl

escape_kept : (bytes more : List ℕ) → Kept (λ m. m) (λ _. true) (escaped_at bytes >>= λ _. Ok true)
    (escaped_at (bytes ++ more) >>= λ _. Ok true)
escape_kept [] more = nothing refl
escape_kept (b ∷ bytes) more = kept_bind _ _ (escaped_seen b bytes more) (λ x _. known (λ _. refl)) (λ x e. both e)

goes_kept : (quoted : Bool) (depth b : ℕ) (bytes more : List ℕ) → at_last b bytes ≡ false → path_ends quoted depth (b ∷ bytes ++ more)
    ≡ path_ends quoted depth (b ∷ bytes)
    → Kept (λ m. m) (λ _. true) (goes_on_at quoted depth (b ∷ bytes)) (goes_on_at quoted depth (b ∷ bytes ++ more))
unfolding goes_on_at
goes_kept quoted depth b bytes more h ends =
    let variable = variable_more b bytes more h in
    rw (ends, variable) (
    kept_if (b == 0 || (quoted && b == 10)) (λ _. stays) (λ _.
    kept_if (path_ends quoted depth (b ∷ bytes)) (λ _. known (λ _. refl)) (λ _.
    kept_if (is_open_brace b && nat_le 50 depth) (λ _. stays) (λ _.
    kept_if (is_close_brace b && (depth == 0)) (λ _. stays) (λ _.
    kept_if (b == 64 && begins is_open_brace bytes) (λ _. stays) (λ _.
    kept_if (b == 92) (λ _. escape_kept bytes more) (λ _. known (λ _. refl))))))))

-- ---- tokens

-- the depth of groups after a token, whatever the places of the braces are
abbrev Alike : List ℕ → List ℕ → Type 0
Alike braces others = length others ≡ length braces

fewer_alike : (braces others : List ℕ) → Alike braces others → Alike (drop 1 braces) (drop 1 others)
fewer_alike [] [] h = refl
fewer_alike [] (o ∷ others) h = absurd (omega arith)
fewer_alike (b ∷ braces) [] h = absurd (omega arith)
fewer_alike (b ∷ braces) (o ∷ others) h = omega (arith, h)

behind_alike : (t : Token) (here there : ℕ) (braces others : List ℕ) → Alike braces others → Alike (braces_behind t here braces)
    (braces_behind t there others)
behind_alike opening here there braces others h = ap suc h
behind_alike closing here there braces others h = fewer_alike braces others h
behind_alike between here there braces others h = h
behind_alike (byte b) here there braces others h = h
behind_alike any_byte here there braces others h = h
behind_alike (bracket negated ranges) here there braces others h = h
behind_alike (stars crosses strict) here there braces others h = h

abbrev rest_over : {V : Type 0} → Bool → V × List ℕ → Bool
rest_over quoted x = over quoted x.1

-- what follows a token is enough
abbrev token_over : Bool → ℕ → List ℕ → Token × List ℕ → Bool
token_over quoted left braces x = sure quoted (length (braces_behind x.0 left braces)) x.1

closed_kept : (quoted : Bool) (braces others bytes more : List ℕ) → Alike braces others → Kept (then_more more) (rest_over quoted)
    (all_closed braces bytes) (all_closed others (bytes ++ more))
closed_kept quoted [] [] bytes more h = known (λ _. refl)
closed_kept quoted [] (o ∷ others) bytes more h = absurd (omega arith)
closed_kept quoted (b ∷ braces) [] bytes more h = absurd (omega arith)
closed_kept quoted (b ∷ braces) (o ∷ others) bytes more h = stays

begins_more : (test : ℕ → Bool) (bytes more : List ℕ) → goes_on bytes ≡ true → begins test (bytes ++ more) ≡ begins test bytes
begins_more test [] more h = both (sym h)
begins_more test (b ∷ bytes) more h = refl

after_goes : (test : ℕ → Bool) (bytes : List ℕ) → goes_on (after test bytes) ≡ true → goes_on bytes ≡ true
after_goes test [] h = h
after_goes test (b ∷ bytes) h = refl

abbrev token_and : Token → List ℕ → Token × List ℕ
token_and t rest = (t, rest)

stars_more : (quoted : Bool) (depth : ℕ) (slash : Bool) (bytes more : List ℕ) → sure quoted depth (after is_star bytes) ≡ true
    → token_and (stars (begins is_star (bytes ++ more)) (slash && slash_or_end quoted depth (after is_star (bytes ++ more))))
    (after is_star (bytes ++ more)) ≡ token_and (stars (begins is_star bytes) (slash && slash_or_end quoted depth (after is_star bytes)))
    (after is_star bytes ++ more)
stars_more quoted depth slash bytes more h =
    let goes = sure_goes quoted depth (after is_star bytes) h in
    let first = begins_more is_star bytes more (after_goes is_star bytes goes) in
    let past = after_more is_star bytes more goes in
    let ends = slash_or_end_more quoted depth (after is_star bytes) more h in
    rw (first, past, ends) refl

token_kept : (quoted : Bool) (left : ℕ) (braces : List ℕ) (slash : Bool) (b : ℕ) (bytes more : List ℕ)
    → Kept (then_more more) (token_over quoted left braces) (token_at quoted (length braces) slash (b ∷ bytes))
    (token_at quoted (length braces) slash (b ∷ bytes ++ more))
unfolding token_at
token_kept quoted left braces slash b bytes more =
    kept_if (is_star b) (λ _. known (stars_more quoted (length braces) slash bytes more)) (λ _.
    kept_if (b == 63) (λ _. known (λ _. refl)) (λ _.
    kept_if (b == 91) (λ _. after_pair _ _ (class_kept quoted (length (b ∷ bytes)) (length (b ∷ bytes ++ more)) bytes more)
    (λ x rest. known (λ _. refl)) (λ x. refl)) (λ _. kept_if (is_open_brace b) (λ _. known (λ _. refl)) (λ _.
    kept_if (is_close_brace b) (λ _. known (λ _. refl)) (λ _.
    kept_if (is_comma b && not (length braces == 0)) (λ _. known (λ _. refl)) (λ _.
    kept_if (b == 92) (λ _. after_pair _ _ (escaped_kept bytes more) (λ x rest. known (λ _. refl)) (λ x. refl))
    (λ _. known (λ _. refl))))))))

-- ---- where nothing is claimed

none_escaped : (quoted : Bool) (room : ℕ) (braces : List ℕ) (slash : Bool) →
    claims (rest_over quoted) (tokens_at quoted room braces slash (92 ∷ [])) ≡ false
unfolding tokens_at goes_on_at
none_escaped true zero braces slash = refl
none_escaped true (suc room) braces slash = refl
none_escaped false zero braces slash = refl
none_escaped false (suc room) braces slash = refl

none_comma : (room : ℕ) (braces : List ℕ) (slash : Bool) → length braces == 0 ≡ true →
    claims (rest_over false) (tokens_at false room braces slash (44 ∷ [])) ≡ false
unfolding tokens_at goes_on_at
none_comma zero [] slash h = refl
none_comma (suc room) [] slash h = refl
none_comma room (o ∷ braces) slash h = let z : length (o ∷ braces) ≡ 0 = eqb-true _ 0 h in absurd (omega arith)

-- no token is read
none_at : (quoted : Bool) (room : ℕ) (braces : List ℕ) (slash : Bool) (bytes : List ℕ) → sure quoted (length braces) bytes ≡ false
    → claims (rest_over quoted) (tokens_at quoted room braces slash bytes) ≡ false
unfolding tokens_at goes_on_at
none_at true zero braces slash [] h = refl
none_at true (suc room) braces slash [] h = refl
none_at false zero [] slash [] h = refl
none_at false (suc room) [] slash [] h = refl
none_at false zero (o ∷ braces) slash [] h = refl
none_at false (suc room) (o ∷ braces) slash [] h = refl
none_at quoted room braces slash (b ∷ []) h =
    by_test (92 == b)
    (λ e. subst (λ x. claims (rest_over quoted) (tokens_at quoted room braces slash (x ∷ [])) ≡ false) (eqb-true 92 b e)
    (none_escaped quoted room braces slash))
    (λ e.
    let comma = and_parts _ _ (not-false _ (rw e at h)) in
    let outside = and_parts _ _ comma.1 in
    subst (λ q. claims (rest_over q) (tokens_at q room braces slash (b ∷ [])) ≡ false) (sym (not-true quoted comma.0))
    (subst (λ x. claims (rest_over false) (tokens_at false room braces slash (x ∷ [])) ≡ false) (sym (eqb-true b 44 outside.0))
    (none_comma room braces slash outside.1)))
none_at quoted room braces slash (b ∷ c ∷ bytes) h = both h

none_behind : (quoted : Bool) (t : Token) (others : Result (List Token × List ℕ) LocalFault) → claims (rest_over quoted) others ≡ false
    → claims (rest_over quoted) (others >>= λ x. Ok (t ∷ x.0, x.1)) ≡ false
none_behind quoted t (Ok x) h = h
none_behind quoted t (Err s) h = h

-- ---- @ as the last byte

variable_goes : (quoted : Bool) (depth : ℕ) (more : List ℕ) → (goes_on_at quoted depth (64 ∷ more) ≡ Ok true)
    ⊎ IsFault (goes_on_at quoted depth (64 ∷ more))
unfolding goes_on_at
variable_goes true depth [] = inl refl
variable_goes false depth [] = inl refl
variable_goes true depth (c ∷ more) = by_test (is_open_brace c) (λ e. inr (rw e stop_is)) (λ e. inl (rw e refl))
variable_goes false depth (c ∷ more) = by_test (is_open_brace c) (λ e. inr (rw e stop_is)) (λ e. inl (rw e refl))

too_many : (quoted : Bool) (braces : List ℕ) (slash : Bool) (more : List ℕ) → IsFault (tokens_at quoted zero braces slash (64 ∷ more))
unfolding tokens_at
too_many quoted braces slash more = elim (variable_goes quoted (length braces) more) [
  | inl e ↦ rw e stop_is
  | inr f ↦ fault_goes_on _ _ f
]

variable_none : (quoted : Bool) (room : ℕ) (braces : List ℕ) (slash : Bool) →
    claims (rest_over quoted) (tokens_at quoted (suc room) braces slash (64 ∷ [])) ≡ false
unfolding tokens_at goes_on_at token_at
variable_none true room braces slash = none_behind true (byte 64) (tokens_at true room braces false [])
    (none_at true room braces false [] refl)
variable_none false room braces slash = none_behind false (byte 64) (tokens_at false room braces false [])
    (none_at false room braces false [] refl)

variable_kept : (quoted : Bool) (room : ℕ) (braces others : List ℕ) (slash : Bool) (more : List ℕ)
    → Kept (then_more more) (rest_over quoted) (tokens_at quoted room braces slash (64 ∷ []))
    (tokens_at quoted room others slash (64 ∷ more))
variable_kept quoted zero braces others slash more = faults (too_many quoted braces slash []) (too_many quoted others slash more)
variable_kept quoted (suc room) braces others slash more = nothing (variable_none quoted room braces slash)

-- ---- paths

-- a first byte for which something is claimed, and is other than a last @
token_cases : (quoted : Bool) (room : ℕ) (braces others : List ℕ) (slash : Bool) (b : ℕ) (bytes more : List ℕ)
    → (at_last b bytes ≡ false → sure quoted (length braces) (b ∷ bytes) ≡ true
    → Kept (then_more more) (rest_over quoted) (tokens_at quoted room braces slash (b ∷ bytes))
    (tokens_at quoted room others slash (b ∷ bytes ++ more)))
    → Kept (then_more more) (rest_over quoted) (tokens_at quoted room braces slash (b ∷ bytes))
    (tokens_at quoted room others slash (b ∷ bytes ++ more))
token_cases quoted room braces others slash b bytes more h =
    by_test (at_last b bytes)
    (λ e. let parts = and_parts _ _ e in
    subst (λ x. Kept (then_more more) (rest_over quoted) (tokens_at quoted room braces slash (x ∷ bytes))
    (tokens_at quoted room others slash (x ∷ bytes ++ more))) (sym (eqb-true b 64 parts.0))
    (ends_here (λ x. Kept (then_more more) (rest_over quoted) (tokens_at quoted room braces slash (64 ∷ x))
    (tokens_at quoted room others slash (64 ∷ x ++ more))) bytes (not-true _ parts.1)
    (variable_kept quoted room braces others slash more)))
    (λ last. by_test (sure quoted (length braces) (b ∷ bytes)) (λ sees. h last sees)
    (λ e. nothing (none_at quoted room braces slash (b ∷ bytes) e)))

pub tokens_kept : (quoted : Bool) (room : ℕ) (braces others : List ℕ) (slash : Bool) (bytes more : List ℕ) → Alike braces others
    → Kept (then_more more) (rest_over quoted) (tokens_at quoted room braces slash bytes)
    (tokens_at quoted room others slash (bytes ++ more))
unfolding tokens_at
tokens_kept quoted room braces others slash [] more h = nothing (none_at quoted room braces slash [] refl)
tokens_kept quoted zero braces others slash (b ∷ bytes) more h =
    token_cases quoted zero braces others slash b bytes more (λ last sees.
    let ends = path_ends_more quoted (length braces) (b ∷ bytes) more sees in
    rw h (kept_bind _ _ (goes_kept quoted (length braces) b bytes more last ends)
    (λ goes _. kept_if goes (λ _. stays) (λ _. closed_kept quoted braces others (b ∷ bytes) more h)) (λ goes e. both e)))
tokens_kept quoted (suc room) braces others slash (b ∷ bytes) more h =
    let here : List ℕ = b ∷ bytes in
    token_cases quoted (suc room) braces others slash b bytes more (λ last sees.
    let ends = path_ends_more quoted (length braces) here more sees in
    rw h (kept_bind _ _ (goes_kept quoted (length braces) b bytes more last ends)
    (λ goes _. kept_if goes
    (λ _. kept_bind _ _ (token_kept quoted (length here) braces slash b bytes more)
    (λ x _. kept_bind _ _
    (tokens_kept quoted room (braces_behind x.0 (length here) braces) (braces_behind x.0 (length (here ++ more)) others)
    (is_plain_slash x.0) x.1 more (behind_alike x.0 (length here) (length (here ++ more)) braces others h))
    (λ rest _. known (λ _. refl)) (λ rest e. e))
    (λ x e. none_behind quoted x.0 (tokens_at quoted room (braces_behind x.0 (length here) braces) (is_plain_slash x.0) x.1)
    (none_at quoted room (braces_behind x.0 (length here) braces) (is_plain_slash x.0) x.1 e)))
    (λ _. closed_kept quoted braces others here more h)) (λ goes e. both e)))

path_in_kept : (quoted : Bool) (bytes more : List ℕ) → Kept (then_more more) (rest_over quoted) (path_in quoted bytes)
    (path_in quoted (bytes ++ more))
unfolding path_in
path_in_kept quoted [] more = nothing refl
path_in_kept quoted (b ∷ bytes) more =
    kept_if (is_slash b) (λ _. tokens_kept quoted 1024 [] [] false (b ∷ bytes) more refl) (λ _.
    kept_if (b == 0 || (quoted && b == 10)) (λ _. stays) (λ _. stays))

-- less than enough after a path in quotes is nothing, and nothing is no quote
none_quoted : (rest : List ℕ) → over true rest ≡ false → rest ≡ []
none_quoted [] h = refl
none_quoted (b ∷ []) h = both h
none_quoted (b ∷ c ∷ rest) h = both h

pub path_kept : (bytes more : List ℕ) → Kept (then_more more) (λ x. over false x.1) (path_at bytes) (path_at (bytes ++ more))
unfolding path_at path_in
path_kept [] more = nothing refl
path_kept (b ∷ bytes) more =
    kept_if (is_quote b)
    (λ _. kept_bind _ _ (path_in_kept true bytes more)
    (λ path _. after_bytes _ _ (literal_kept (codes "\"") path.1 more) (λ rest. known (λ _. refl)) refl)
    (λ path e. let none = none_quoted path.1 e in rw none refl))
    (λ _. path_in_kept false (b ∷ bytes) more)
