-- Rules and whole texts with more bytes after them: a settled fault stays whatever follows.
use Rattle.std.proofs.Common.{◌≡◌, ℕ, zero, suc, Bool, true, false, cond, List, [], ◌∷◌, ◌++◌, length, Option, Some, None, Result, Ok, Err}
use Rattle.std.proofs.Common.{refl, sym, ap, subst, ◌==◌}
use Rattle.std.specs.Prelude.{◌||◌, codes, drop, if◌then◌else◌}
use Rattle.std.specs.List.{list_all}
use Rattle.std.proofs.lemmas.Bool.{ne_eqb, eqb-true, not-false}
use Rattle.names.specs.declared.permissions.Perms.{Perms}
use Rattle.names.specs.Permissions.{perms_of, conflicts}
use Rattle.rule_reader.specs.declared.fault.ReadFault.{ReadFault}
use Rattle.names.specs.declared.kind.RuleKind.{RuleKind}
use Rattle.names.specs.declared.kind.RuleKind.TheVariants.{Allow, Deny}
use Rattle.rule_reader.specs.declared.reader.local_fault.FaultKind.TheVariants as kinds
use Rattle.rule_reader.specs.declared.reader.local_fault.LocalFault.{LocalFault}
use Rattle.rule_globs.specs.Glob.{is_slash}
use Rattle.rule_profile.specs.Profile.{RuleValue, ProfileValue}
use Rattle.rule_reader.specs.ReadFaults.{Refused, IsSettled}
use Rattle.rule_reader.specs.ReadHeader.{header_at}
use Rattle.rule_reader.specs.ReadPaths.{path_at, path_in}
use Rattle.rule_reader.specs.ReadText.{is_mode, perms_at, perms_behind, first_word_at, qualifier_at, start_at, comma_at}
use Rattle.rule_reader.specs.ReadText.{body_at, rule_at, rule_begins, rules_at, end_at, text_at, outcome_of}
use Rattle.rule_reader.specs.ReadSteps.{◌>>=◌, goes_on, fault_here, fault_with_left, syntax, fault_of}
use Rattle.rule_reader.specs.ReadWords.{blank, gap, word, after_word, is_word, fault_of_word, word_left_out}
use Rattle.rule_reader.specs.TextBytes.{begins, is_quote, is_comma, is_close_brace, is_arrow, is_letter_byte}
use Rattle.rule_globs.specs.Tokens.{Token}
use Rattle.rule_reader.proofs.Kept.{IsFault, claims, Same, Kept, KeptBytes, KeptPair, then_more, with_rest, some_over, by_test, both}
use Rattle.rule_reader.proofs.Kept.{ends_here, nothing, known, stays, faults, stop_is, fault_if, kept_if, kept_option, none_claimed}
use Rattle.rule_reader.proofs.Kept.{kept_bind, after_bytes, after_pair}
use Rattle.rule_reader.proofs.KeptHeader.{header_kept}
use Rattle.rule_reader.proofs.KeptPaths.{over, path_kept}
use Rattle.rule_reader.proofs.KeptWords.{word_cases, ended_word, blank_kept, gap_kept}
use Rattle.rule_reader.specs.laws.ReadRuns.{apart}

-- ---- permissions

no_dash : (b : ℕ) → is_letter_byte b ≡ true → 45 == b ≡ false
no_dash b h = ne_eqb 45 b (λ e. let same : is_letter_byte 45 ≡ is_letter_byte b = ap is_letter_byte e in absurd cc)

-- permissions, or a fault of the word, where the end ends the word
open_perms : (bytes : List ℕ) (perms : Option Perms) (t : Bool) → after_word bytes ≡ []
    → claims (λ (x : Perms × List ℕ). goes_on x.1)
    (elim perms [
      | Some p ↦ cond (conflicts p) (fault_of_word kinds.Conflict bytes) (Ok (p, after_word bytes))
      | None ↦ cond t (word_left_out bytes) (fault_of_word kinds.Permission bytes)
    ]) ≡ false
open_perms bytes (Some p) t e = by_test (conflicts p) (λ c. rw (c, e) refl) (λ c. rw (c, e) refl)
open_perms bytes None true e = rw e refl
open_perms bytes None false e = rw e refl

perms_kept : (bytes more : List ℕ) → KeptPair more (perms_at bytes) (perms_at (bytes ++ more))
unfolding perms_at
perms_kept [] more = nothing refl
perms_kept (b ∷ bytes) more =
    let here : List ℕ = b ∷ bytes in
    kept_if (is_comma b) (λ _. stays) (λ _.
    word_cases b bytes more
    (λ other. rw other (faults (fault_if (is_arrow here) stop_is stop_is) (fault_if (is_arrow (here ++ more)) stop_is stop_is)))
    (λ letter same past.
    let arrow = no_dash b letter in
    rw (same, arrow) (kept_if (length (word here) == 0) (λ _. stays) (λ _.
    kept_option _ _ (perms_of (word here)) (faults (fault_if (list_all is_mode (word here)) stop_is stop_is)
    (fault_if (list_all is_mode (word (here ++ more))) stop_is stop_is)) (λ perms.
    kept_if (conflicts perms) (λ _. stays) (λ _. known (λ _. ap (with_rest perms) past))))))
    (λ letter past some.
    let arrow = no_dash b letter in
    nothing (rw (arrow, some) (open_perms here (perms_of (word here)) (list_all is_mode (word here)) past))))

behind_kept : (bytes more : List ℕ) → over false bytes ≡ true → KeptPair more (perms_behind bytes) (perms_behind (bytes ++ more))
unfolding perms_behind perms_at
behind_kept [] more h = nothing refl
behind_kept (b ∷ bytes) more h = kept_if (is_comma b) (λ _. stays) (λ _. after_bytes _ _ (gap_kept (b ∷ bytes) more)
    (λ from. perms_kept from more) refl)

-- nothing is here, or a comma at the end
over_cases : (P : List ℕ → Type 0) (rest : List ℕ) → over false rest ≡ false → P [] → P (44 ∷ []) → P rest
over_cases P [] h none comma = none
over_cases P (b ∷ []) h none comma = subst (λ x. P (x ∷ [])) (sym (eqb-true b 44 (not-false _ h))) comma
over_cases P (b ∷ c ∷ rest) h none comma = both h

-- ---- rules

-- what is here is certainly not a longer word
abbrev word_over : List ℕ → Bool
word_over [] = false
word_over (b ∷ bytes) = cond (is_letter_byte b) (goes_on (after_word (b ∷ bytes))) true

-- the same value if there is one, with more left over
abbrev option_more : {V : Type 0} → List ℕ → Option (V × List ℕ) → Option (V × List ℕ)
option_more more None = None
option_more more (Some x) = Some (then_more more x)

abbrev first_over : List ℕ → Option (RuleKind × List ℕ) → Bool
first_over bytes None = word_over bytes
first_over bytes (Some x) = goes_on x.1

-- a first word that ends at the text's end, by whether it is allow, deny or all
open_first : (b : ℕ) (bytes : List ℕ) (s t u : Bool) → is_letter_byte b ≡ true → after_word (b ∷ bytes) ≡ []
    → claims (first_over (b ∷ bytes)) (cond s (Ok (Some (Allow, after_word (b ∷ bytes))))
    (cond t (Ok (Some (Deny, after_word (b ∷ bytes)))) (cond u (word_left_out (b ∷ bytes)) (Ok None)))) ≡ false
open_first b bytes true t u letter past = rw past refl
open_first b bytes false true u letter past = rw past refl
open_first b bytes false false true letter past = rw past refl
open_first b bytes false false false letter past = rw (letter, past) refl

first_kept : (bytes more : List ℕ) → Kept (option_more more) (first_over bytes) (first_word_at bytes) (first_word_at (bytes ++ more))
unfolding first_word_at
first_kept [] more = nothing refl
first_kept (b ∷ bytes) more =
    let here : List ℕ = b ∷ bytes in
    word_cases b bytes more
    (λ other. rw other (known (λ _. refl)))
    (λ letter same past. rw (same, past) (
    kept_if (is_word (codes "allow") here) (λ _. known (λ _. refl)) (λ _.
    kept_if (is_word (codes "deny") here) (λ _. known (λ _. refl)) (λ _.
    kept_if (is_word (codes "all") here) (λ _. stays) (λ _. known (λ _. refl))))))
    (λ letter past some. nothing
    (open_first b bytes (is_word (codes "allow") here) (is_word (codes "deny") here) (is_word (codes "all") here) letter past))

abbrev by_first : List ℕ → Option (RuleKind × List ℕ) → Result (RuleKind × List ℕ) LocalFault
by_first bytes first = elim first [ Some qualifier ↦ gap qualifier.1 >>= λ from. Ok (qualifier.0, from) | None ↦ Ok (Allow, bytes) ]

by_first_kept : (bytes more : List ℕ) (first : Option (RuleKind × List ℕ)) → Kept (then_more more) (λ x. word_over x.1)
    (by_first bytes first) (by_first (bytes ++ more) (option_more more first))
by_first_kept bytes more None = known (λ _. refl)
by_first_kept bytes more (Some q) = after_bytes _ _ (gap_kept q.1 more) (λ from. known (λ _. refl)) refl

by_first_none : (bytes : List ℕ) (first : Option (RuleKind × List ℕ)) → first_over bytes first ≡ false →
    claims (λ x. word_over x.1) (by_first bytes first) ≡ false
by_first_none bytes None e = e
by_first_none bytes (Some q) e = ends_here (λ r. claims (λ x. word_over x.1) (by_first bytes (Some (q.0, r))) ≡ false) q.1 e refl

qualifier_kept : (bytes more : List ℕ) → Kept (then_more more) (λ x. word_over x.1) (qualifier_at bytes) (qualifier_at (bytes ++ more))
unfolding qualifier_at
qualifier_kept bytes more = kept_bind (by_first bytes) (by_first (bytes ++ more)) (first_kept bytes more)
    (λ first _. by_first_kept bytes more first) (by_first_none bytes)

abbrev start_over : Option (Perms × List ℕ) → Bool
start_over None = true
start_over (Some x) = goes_on x.1

open_start : (bytes : List ℕ) (perms : Option Perms) → after_word bytes ≡ []
    → claims start_over (elim perms [ Some p ↦ Ok (Some (p, after_word bytes)) | None ↦ word_left_out bytes ]) ≡ false
open_start bytes (Some p) e = rw e refl
open_start bytes None e = rw e refl

-- a word that ends at the text's end is here, or nothing
start_none : (bytes : List ℕ) → word_over bytes ≡ false → claims start_over (start_at bytes) ≡ false
unfolding start_at
start_none [] h = refl
start_none (b ∷ bytes) h =
    let here : List ℕ = b ∷ bytes in
    by_test (is_letter_byte b)
    (λ letter.
    let ended = ended_word b bytes letter (rw letter at h) in
    let past = ended.0 in
    let some = ended.1 in
    let slash = apart is_letter_byte b 47 letter refl in
    let quote = apart is_letter_byte b 34 letter refl in
    rw (slash, quote, some) (open_start here (perms_of (word here)) past))
    (λ other. both (rw other at h))

start_kept : (bytes more : List ℕ) → Kept (option_more more) start_over (start_at bytes) (start_at (bytes ++ more))
unfolding start_at
start_kept [] more = nothing refl
start_kept (b ∷ bytes) more =
    let here : List ℕ = b ∷ bytes in
    kept_if (is_slash b || is_quote b) (λ _. known (λ _. refl)) (λ _.
    word_cases b bytes more
    (λ other. rw other (kept_if (b == 64 || b == 94 || b == 36) (λ _. stays) (λ _. stays)))
    (λ letter same past. rw same
    (kept_if (length (word here) == 0) (λ _. kept_if (b == 64 || b == 94 || b == 36) (λ _. stays) (λ _. stays)) (λ _.
    kept_option _ _ (perms_of (word here)) stays (λ perms. known (λ _. ap (λ (x : List ℕ). Some (with_rest perms x)) past)))))
    (λ letter past some. nothing (rw some (open_start here (perms_of (word here)) past))))

comma_here : (bytes more : List ℕ)
    → KeptBytes more (if begins is_comma bytes then Ok (drop 1 bytes) else if is_arrow bytes then fault_here (kinds.LeftOut 2)
    bytes else syntax bytes)
    (if begins is_comma (bytes ++ more) then Ok (drop 1 (bytes ++ more)) else if is_arrow (bytes ++ more) then fault_here (kinds.LeftOut 2)
    (bytes ++ more) else syntax (bytes ++ more))
comma_here [] more = nothing refl
comma_here (b ∷ bytes) more =
    kept_if (is_comma b) (λ _. known (λ _. refl)) (λ _. faults (fault_if (is_arrow (b ∷ bytes)) stop_is stop_is)
    (fault_if (is_arrow (b ∷ bytes ++ more)) stop_is stop_is))

comma_kept : (bytes more : List ℕ) → KeptBytes more (comma_at bytes) (comma_at (bytes ++ more))
unfolding comma_at
comma_kept bytes more = after_bytes _ _ (blank_kept false bytes more) (λ at. comma_here at more) refl

abbrev Body : Type 0
Body = (Perms × List Token) × List ℕ

abbrev body_over : Body → Bool
body_over x = over false x.1

abbrev path_body : List ℕ → Result Body LocalFault
path_body bytes = path_at bytes >>= λ path. perms_behind path.1 >>= λ perms. Ok ((perms.0, path.0), perms.1)

abbrev perms_body : Perms × List ℕ → Result Body LocalFault
perms_body perms = gap perms.1 >>= λ from. path_at from >>= λ path. Ok ((perms.0, path.0), path.1)

path_body_kept : (bytes more : List ℕ) → Kept (then_more more) body_over (path_body bytes) (path_body (bytes ++ more))
unfolding perms_behind
path_body_kept bytes more =
    kept_bind _ _ (path_kept bytes more)
    (λ path some. after_pair _ _ (behind_kept path.1 more some) (λ perms rest. known (λ _. refl)) (λ perms. refl))
    (λ path e. over_cases (λ r. claims body_over (perms_behind r >>= λ perms. Ok ((perms.0, path.0), perms.1)) ≡ false) path.1 e refl refl)

perms_body_kept : (perms : Perms × List ℕ) (more : List ℕ) → Kept (then_more more) body_over (perms_body perms)
    (perms_body (then_more more perms))
unfolding path_at path_in
perms_body_kept perms more =
    after_bytes _ _ (gap_kept perms.1 more) (λ from. kept_bind _ _ (path_kept from more) (λ path _. known (λ _. refl)) (λ path e. e)) refl

abbrev rest_body : List ℕ → Option (Perms × List ℕ) → Result Body LocalFault
rest_body bytes start = elim start [
  | None ↦ path_body bytes
  | Some perms ↦ cond (conflicts perms.0) (fault_with_left kinds.Conflict (length bytes) perms.1) (perms_body perms)
]

rest_body_kept : (bytes more : List ℕ) (start : Option (Perms × List ℕ)) → Kept (then_more more) body_over (rest_body bytes start)
    (rest_body (bytes ++ more) (option_more more start))
rest_body_kept bytes more None = path_body_kept bytes more
rest_body_kept bytes more (Some perms) = kept_if (conflicts perms.0) (λ _. stays) (λ _. perms_body_kept perms more)

rest_body_none : (bytes : List ℕ) (start : Option (Perms × List ℕ)) → start_over start ≡ false →
    claims body_over (rest_body bytes start) ≡ false
rest_body_none bytes None e = both e
rest_body_none bytes (Some perms) e =
    ends_here (λ r. claims body_over (rest_body bytes (Some (perms.0, r))) ≡ false) perms.1 e
    (by_test (conflicts perms.0) (λ c. rw c refl) (λ c. rw c refl))

body_kept : (bytes more : List ℕ) → Kept (then_more more) body_over (body_at bytes) (body_at (bytes ++ more))
unfolding body_at
body_kept bytes more = kept_bind (rest_body bytes) (rest_body (bytes ++ more)) (start_kept bytes more)
    (λ start _. rest_body_kept bytes more start) (rest_body_none bytes)

body_none : (bytes : List ℕ) → word_over bytes ≡ false → claims body_over (body_at bytes) ≡ false
unfolding body_at
body_none bytes h = none_claimed start_over body_over (start_at bytes) (rest_body bytes) (start_none bytes h) (rest_body_none bytes)

abbrev rule_value : RuleKind → Body → List ℕ → Result (RuleValue × List ℕ) LocalFault
rule_value kind body past = Ok (record { kind = kind; perms = body.0.0; items = body.0.1 }, past)

rule_none : (kind : RuleKind) (body : Body) → body_over body ≡ false → claims some_over (comma_at body.1 >>= rule_value kind body) ≡ false
unfolding comma_at
rule_none kind body e = over_cases (λ r. claims some_over (comma_at r >>= rule_value kind body) ≡ false) body.1 e refl refl

rule_kept : (bytes more : List ℕ) → KeptPair more (rule_at bytes) (rule_at (bytes ++ more))
unfolding rule_at comma_at
rule_kept bytes more =
    kept_bind _ _ (qualifier_kept bytes more)
    (λ kind _. kept_bind _ _ (body_kept kind.1 more)
    (λ body _. after_bytes _ _ (comma_kept body.1 more) (λ past. known (λ _. refl)) refl)
    (rule_none kind.0))
    (λ kind e. none_claimed body_over some_over (body_at kind.1) (λ body. comma_at body.1 >>= rule_value kind.0 body) (body_none kind.1 e)
    (rule_none kind.0))

too_many : (bytes : List ℕ) (begins_here : Result (Unit {0}) LocalFault) →
    IsFault (begins_here >>= λ _. fault_here {A = List RuleValue × List ℕ} kinds.TooManyRules bytes)
too_many bytes (Ok x) = stop_is
too_many bytes (Err s) = stop_is

rules_none : (room : ℕ) → claims some_over (rules_at room []) ≡ false
unfolding rules_at rule_begins rule_at first_word_at qualifier_at body_at start_at
rules_none zero = refl
rules_none (suc room) = refl

one_more_none : (first : RuleValue) (others : Result (List RuleValue × List ℕ) LocalFault) → claims some_over others ≡ false →
    claims some_over (others >>= λ x. Ok (first ∷ x.0, x.1)) ≡ false
one_more_none first (Ok x) h = h
one_more_none first (Err s) h = h

rules_kept : (room : ℕ) (bytes more : List ℕ) → KeptPair more (rules_at room bytes) (rules_at room (bytes ++ more))
unfolding rules_at
rules_kept room [] more = nothing (rules_none room)
rules_kept zero (b ∷ bytes) more =
    kept_if (is_close_brace b) (λ _. known (λ _. refl)) (λ _. faults (too_many (b ∷ bytes) (rule_begins (b ∷ bytes)))
    (too_many (b ∷ bytes ++ more) (rule_begins (b ∷ bytes ++ more))))
rules_kept (suc room) (b ∷ bytes) more =
    kept_if (is_close_brace b) (λ _. known (λ _. refl)) (λ _.
    after_pair _ _ (rule_kept (b ∷ bytes) more)
    (λ first rest. after_bytes _ _ (blank_kept false rest more)
    (λ from. after_pair _ _ (rules_kept room from more) (λ others past. known (λ _. refl)) (λ others. refl))
    (one_more_none first (rules_at room []) (rules_none room)))
    (λ first. one_more_none first (rules_at room []) (rules_none room)))

-- ---- whole texts

abbrev all_read : Result (List RuleValue × List ℕ) LocalFault → List ℕ → Result ProfileValue LocalFault
all_read rules name = rules >>= λ x. blank x.1 >>= λ past. end_at past >>= λ all. Ok (record { name = name; rules = x.0 })

rules_open : (name : List ℕ) (rules : Result (List RuleValue × List ℕ) LocalFault) → claims some_over rules ≡ false →
    claims (λ _. false) (all_read rules name) ≡ false
rules_open name (Ok x) e = ends_here (λ r. claims (λ _. false) (all_read (Ok (x.0, r)) name) ≡ false) x.1 e refl
rules_open name (Err s) e = e

abbrev all_of : List ℕ → List RuleValue → Result ProfileValue LocalFault
all_of name rules = Ok (record { name = name; rules = rules })

end_kept : (name : List ℕ) (rules : List RuleValue) (past more : List ℕ)
    → Kept (λ p. p) (λ _. false) (end_at past >>= λ all. all_of name rules) (end_at (past ++ more) >>= λ all. all_of name rules)
end_kept name rules [] more = nothing refl
end_kept name rules (b ∷ past) more = stays

text_kept : (text more : List ℕ) → Kept (λ p. p) (λ _. false) (text_at text) (text_at (text ++ more))
unfolding text_at header_at
text_kept text more =
    after_bytes _ _ (blank_kept false text more)
    (λ from. after_pair _ _ (header_kept from more)
    (λ name rest. after_bytes _ _ (blank_kept false rest more)
    (λ inside. after_pair _ _ (rules_kept 1024 inside more)
    (λ rules past. after_bytes _ _ (blank_kept false past more) (λ end. end_kept name rules end more) refl)
    (λ rules. refl))
    (rules_open name (rules_at 1024 []) (rules_none 1024)))
    (λ name. rules_open name (rules_at 1024 []) (rules_none 1024)))
    refl

abbrev told_of : ℕ → Result ProfileValue LocalFault → Result ProfileValue ReadFault
told_of n read = elim read [ Ok p ↦ Ok p | Err s ↦ Err (fault_of n s) ]

fault_told : (text : List ℕ) → IsFault (text_at text) → Refused text
unfolding outcome_of
fault_told text f = (fault_of (length text) f.0, ap (told_of (length text)) f.1)

pub settled_stays : (text more : List ℕ) → IsSettled text → Refused (text ++ more)
settled_stays text more h =
    let told = h.1 in
    let same : Same (λ p. p) (text_at text) (text_at (text ++ more)) = (text_kept text more).same (rw told h.2) in
    fault_told (text ++ more) (rw told at same)
