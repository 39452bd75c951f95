-- Reading one part after the other, as a loop does.
use Rattle.std.proofs.Common.{◌≡◌, ℕ, zero, suc, ◌-◌, ◌+◌, ◌≤◌, ◌<◌, Bool, true, false, cond, List, [], ◌∷◌, ◌++◌, length, drop, map}
use Rattle.std.proofs.Common.{Option, Some, None, Result, Ok, Err, refl, sym, ap, subst, ◌∙◌, inl, inr, append_assoc, arith}
use Rattle.std.proofs.lemmas.List.{append-nil, length-append, map_push}
use Rattle.rule_profile.specs.declared.profile.Rule.{Rule}
use Rattle.rule_reader.specs.declared.reader.local_fault.LocalFault.{LocalFault}
use Rattle.rule_reader.specs.declared.reader.local_fault.FaultKind.TheVariants.{TooManyRules, TooManyItems}
use Rattle.rule_reader.specs.declared.reader.local_fault.Failure.{Failure}
use Rattle.rule_reader.specs.declared.reader.local_fault.Failure.TheVariants as failures
use Rattle.rule_profile.specs.Profile.{RuleValue, rule_value}
use Rattle.rule_reader.specs.ReadSteps.{◌>>=◌, fault_here}
use Rattle.rule_reader.specs.inner.Gives.{Fails}
use Rattle.rule_reader.specs.ReadWords.{blank}
use Rattle.rule_reader.specs.ReadPaths.{goes_on_at, token_at, tokens_at, braces_behind, all_closed}
use Rattle.rule_profile.specs.PathTokens.{is_plain_slash}
use Rattle.rule_reader.specs.ReadText.{rule_at, rule_begins, rules_at}
use Rattle.rule_reader.specs.TextBytes.{begins, is_close_brace}
use Rattle.rule_globs.specs.Tokens.{Token}
use Rattle.rule_reader.proofs.ReadSteps.{chosen, some_is, none_some}

-- what was read before, and what is still read
abbrev pub with_front : {A : Type 0} → List A → Result (List A × List ℕ) LocalFault → Result (List A × List ℕ) LocalFault
with_front front read = read >>= λ x. Ok (front ++ x.0, x.1)

regroup : {A : Type 0} (front : List A) (n : A) (read : Result (List A × List ℕ) LocalFault) →
    with_front front (read >>= λ x. Ok (n ∷ x.0, x.1)) ≡ with_front (front ++ n ∷ []) read
regroup {A = A} front n (Ok x) = ap (λ (ns : List A). Ok (ns, x.1)) (simp append_assoc)
regroup {A = A} front n (Err s) = refl

-- if a step failed, all steps after it do
pub fails_on : {A B : Type 0} (failure : Failure) (read : Result A LocalFault) (f : A → Result B LocalFault) → Fails failure read →
    Fails failure (read >>= f)
fails_on failures.NoMemory read f h = tt
fails_on {A = A} {B = B} (failures.At s) read f h = ap (λ (r : Result A LocalFault). r >>= f) h

-- the same after what was read before
pub front_fails : {A : Type 0} (failure : Failure) (front : List A) (read total : Result (List A × List ℕ) LocalFault) →
    with_front front read ≡ total → Fails failure read → Fails failure total
front_fails {A = A} failure front read total so_far h = subst (λ (r : Result (List A × List ℕ) LocalFault). Fails failure r) so_far
    (fails_on failure read (λ x. Ok (front ++ x.0, x.1)) h)

-- nothing more is read
pub front_done : {A : Type 0} (front : List A) (read total : Result (List A × List ℕ) LocalFault) (rest : List ℕ) → with_front front read
    ≡ total → read ≡ Ok ([], rest) → total ≡ Ok (front, rest)
front_done {A = A} front read total rest so_far h =
    sym so_far ∙ ap (λ (r : Result (List A × List ℕ) LocalFault). with_front front r) h ∙ ap (λ (ns : List A). Ok (ns, rest))
    (append-nil front)

-- one more is read
front_more : {A : Type 0} (front : List A) (n : A) (read others total : Result (List A × List ℕ) LocalFault) → with_front front read
    ≡ total → read ≡ (others >>= λ x. Ok (n ∷ x.0, x.1)) → with_front (front ++ n ∷ []) others ≡ total
front_more {A = A} front n read others total so_far h =
    sym (regroup front n others) ∙ sym (ap (λ (r : Result (List A × List ℕ) LocalFault). with_front front r) h) ∙ so_far

-- ---- rules: i of them are read

-- what is left after a closing brace
abbrev pub closing : List ℕ → Option (List ℕ)
closing bytes = cond (begins is_close_brace bytes) (Some (drop 1 bytes)) None

abbrev pub nothing : Option (List ℕ)
nothing = None

abbrev pub just : List ℕ → Option (List ℕ)
just x = Some x

pub not_closing : (bytes : List ℕ) → closing bytes ≡ nothing → begins is_close_brace bytes ≡ false
not_closing bytes h =
    elim (chosen (begins is_close_brace bytes) (just (drop 1 bytes)) nothing nothing h) [
      | inl e ↦ absurd (none_some (drop 1 bytes) (sym e.1))
      | inr e ↦ e.0
    ]

pub is_closing : (bytes rest : List ℕ) → closing bytes ≡ just rest → (begins is_close_brace bytes ≡ true) × (drop 1 bytes ≡ rest)
is_closing bytes rest h =
    elim (chosen (begins is_close_brace bytes) (just (drop 1 bytes)) nothing (just rest) h) [
      | inl e ↦ (e.0, some_is _ _ e.1)
      | inr e ↦ absurd (none_some rest e.1)
    ]

abbrev rule_first : ℕ → RuleValue × List ℕ → Result (List RuleValue × List ℕ) LocalFault
rule_first room first = blank first.1 >>= λ from. rules_at room from >>= λ others. Ok (first.0 ∷ others.0, others.1)

rules_more : (i : ℕ) (bytes : List ℕ) → i < 1024 → closing bytes ≡ nothing → rules_at (1024 - i) bytes
    ≡ (rule_at bytes >>= rule_first (1024 - (i + 1)))
unfolding rules_at
rules_more i bytes lt e =
    let k : 1024 - i ≡ suc (1024 - (i + 1)) = omega arith in
    let no = not_closing bytes e in
    rw (k, rules_at, no) refl

rules_full : (i : ℕ) (bytes : List ℕ) → i ≡ 1024 → closing bytes ≡ nothing → rules_at (1024 - i) bytes
    ≡ (rule_begins bytes >>= λ _. fault_here TooManyRules bytes)
unfolding rules_at
rules_full i bytes full e =
    let k : 1024 - i ≡ 0 = omega arith in
    let no = not_closing bytes e in
    rw (k, rules_at, no) refl

pub rules_end : (room : ℕ) (bytes rest : List ℕ) → closing bytes ≡ just rest → rules_at room bytes ≡ Ok ([], rest)
unfolding rules_at
rules_end zero bytes rest h = let p = is_closing bytes rest h in rw (rules_at, p.0, p.1) refl
rules_end (suc room) bytes rest h = let p = is_closing bytes rest h in rw (rules_at, p.0, p.1) refl

pub rules_refused : (failure : Failure) (i : ℕ) (bytes : List ℕ) → i ≡ 1024 → closing bytes ≡ nothing → Fails failure (rule_begins bytes) →
    Fails failure (rules_at (1024 - i) bytes)
rules_refused failure i bytes full e h =
    subst (λ (r : Result (List RuleValue × List ℕ) LocalFault). Fails failure r) (sym (rules_full i bytes full e))
    (fails_on failure (rule_begins bytes) (λ _. fault_here TooManyRules bytes) h)

pub rules_stop : (i : ℕ) (bytes : List ℕ) → i ≡ 1024 → closing bytes ≡ nothing → rule_begins bytes ≡ Ok tt → rules_at (1024 - i) bytes
    ≡ fault_here TooManyRules bytes
rules_stop i bytes full e h = rules_full i bytes full e
    ∙ ap (λ (r : Result (Unit {0}) LocalFault). r >>= λ _. fault_here TooManyRules bytes) h

pub rules_fault : (failure : Failure) (i : ℕ) (bytes : List ℕ) → i < 1024 → closing bytes ≡ nothing → Fails failure (rule_at bytes) →
    Fails failure (rules_at (1024 - i) bytes)
rules_fault failure i bytes lt e h =
    subst (λ (r : Result (List RuleValue × List ℕ) LocalFault). Fails failure r) (sym (rules_more i bytes lt e))
    (fails_on failure (rule_at bytes) (rule_first (1024 - (i + 1))) h)

rules_one : (i : ℕ) (bytes : List ℕ) (n : RuleValue) (more : List ℕ) → i < 1024 → closing bytes ≡ nothing → rule_at bytes ≡ Ok (n, more) →
    rules_at (1024 - i) bytes ≡ rule_first (1024 - (i + 1)) (n, more)
rules_one i bytes n more lt e h = rules_more i bytes lt e
    ∙ ap (λ (r : Result (RuleValue × List ℕ) LocalFault). r >>= rule_first (1024 - (i + 1))) h

pub rules_blank_fault : (failure : Failure) (i : ℕ) (bytes : List ℕ) (n : RuleValue) (more : List ℕ) → i < 1024 → closing bytes ≡ nothing →
    rule_at bytes ≡ Ok (n, more) → Fails failure (blank more) → Fails failure (rules_at (1024 - i) bytes)
rules_blank_fault failure i bytes n more lt e r h =
    subst (λ (r : Result (List RuleValue × List ℕ) LocalFault). Fails failure r) (sym (rules_one i bytes n more lt e r))
    (fails_on failure (blank more) (λ from. rules_at (1024 - (i + 1)) from >>= λ others. Ok (n ∷ others.0, others.1)) h)

pub rules_step : (old new : List Rule) (bytes : List ℕ) (n : Rule) (more rest : List ℕ)
    (total : Result (List RuleValue × List ℕ) LocalFault) → new ≡ old ++ n ∷ [] → length old < 1024 → closing bytes ≡ nothing →
    rule_at bytes ≡ Ok (rule_value n, more) → blank more ≡ Ok rest
    → with_front (map rule_value old) (rules_at (1024 - length old) bytes) ≡ total → (length new ≤ 1024)
    × (with_front (map rule_value new) (rules_at (1024 - length new) rest) ≡ total)
rules_step old new bytes n more rest total e lt none h b so_far =
    let k : length (old ++ n ∷ []) ≡ length old + 1 = length-append old (n ∷ []) in
    let m : map rule_value (old ++ n ∷ []) ≡ map rule_value old ++ rule_value n ∷ [] = map_push rule_value old n in
    let others : Result (List RuleValue × List ℕ) LocalFault = rules_at (1024 - (length old + 1)) rest in
    let one : rules_at (1024 - length old) bytes ≡ (others >>= λ x. Ok (rule_value n ∷ x.0, x.1)) =
    rules_one (length old) bytes (rule_value n) more lt none h ∙ ap (λ (r : Result (List ℕ) LocalFault). r >>= λ from. rules_at
    (1024 - (length old + 1)) from >>= λ x. Ok (rule_value n ∷ x.0, x.1)) b in
    rw (e, k, m) (omega arith, front_more (map rule_value old) (rule_value n) (rules_at (1024 - length old) bytes) others total so_far one)

-- ---- tokens: i of them are read

abbrev token_first : Bool → ℕ → List ℕ → List ℕ → Token × List ℕ → Result (List Token × List ℕ) LocalFault
token_first quoted room braces bytes x = tokens_at quoted room (braces_behind x.0 (length bytes) braces) (is_plain_slash x.0) x.1 >>=
    λ others. Ok (x.0 ∷ others.0, others.1)

tokens_more : (quoted : Bool) (i : ℕ) (braces : List ℕ) (after_slash : Bool) (bytes : List ℕ) → i < 1024 →
    goes_on_at quoted (length braces) bytes ≡ Ok true
    → tokens_at quoted (1024 - i) braces after_slash bytes ≡ (token_at quoted (length braces) after_slash bytes >>= token_first quoted
    (1024 - (i + 1)) braces bytes)
unfolding tokens_at
tokens_more quoted i braces after_slash bytes lt h =
    let k : 1024 - i ≡ suc (1024 - (i + 1)) = omega arith in
    rw (k, tokens_at, h) refl

pub tokens_full : (quoted : Bool) (i : ℕ) (braces : List ℕ) (after_slash : Bool) (bytes : List ℕ) → i ≡ 1024 →
    goes_on_at quoted (length braces) bytes ≡ Ok true
    → tokens_at quoted (1024 - i) braces after_slash bytes ≡ fault_here TooManyItems bytes
unfolding tokens_at
tokens_full quoted i braces after_slash bytes full h =
    let k : 1024 - i ≡ 0 = omega arith in
    rw (k, tokens_at, h) refl

pub tokens_end : (quoted : Bool) (room : ℕ) (braces : List ℕ) (after_slash : Bool) (bytes : List ℕ) →
    goes_on_at quoted (length braces) bytes ≡ Ok false
    → tokens_at quoted room braces after_slash bytes ≡ all_closed braces bytes
unfolding tokens_at
tokens_end quoted zero braces after_slash bytes h = rw (tokens_at, h) refl
tokens_end quoted (suc room) braces after_slash bytes h = rw (tokens_at, h) refl

pub tokens_none : (failure : Failure) (quoted : Bool) (room : ℕ) (braces : List ℕ) (after_slash : Bool) (bytes : List ℕ) →
    Fails failure (goes_on_at quoted (length braces) bytes) → Fails failure (tokens_at quoted room braces after_slash bytes)
unfolding tokens_at
tokens_none failures.NoMemory quoted room braces after_slash bytes h = tt
tokens_none (failures.At s) quoted zero braces after_slash bytes h = rw (tokens_at, h) refl
tokens_none (failures.At s) quoted (suc room) braces after_slash bytes h = rw (tokens_at, h) refl

pub tokens_fault : (failure : Failure) (quoted : Bool) (i : ℕ) (braces : List ℕ) (after_slash : Bool) (bytes : List ℕ) → i < 1024 →
    goes_on_at quoted (length braces) bytes ≡ Ok true
    → Fails failure (token_at quoted (length braces) after_slash bytes) →
    Fails failure (tokens_at quoted (1024 - i) braces after_slash bytes)
tokens_fault failure quoted i braces after_slash bytes lt g h =
    subst (λ (r : Result (List Token × List ℕ) LocalFault). Fails failure r) (sym (tokens_more quoted i braces after_slash bytes lt g))
    (fails_on failure (token_at quoted (length braces) after_slash bytes) (token_first quoted (1024 - (i + 1)) braces bytes) h)

pub tokens_step : (quoted : Bool) (front : List Token) (i : ℕ) (braces : List ℕ) (after_slash : Bool) (bytes : List ℕ) (t : Token)
    (rest : List ℕ) (total : Result (List Token × List ℕ) LocalFault) → i < 1024 → goes_on_at quoted (length braces) bytes ≡ Ok true
    → token_at quoted (length braces) after_slash bytes ≡ Ok (t, rest) →
    with_front front (tokens_at quoted (1024 - i) braces after_slash bytes) ≡ total
    → with_front (front ++ t ∷ []) (tokens_at quoted (1024 - (i + 1)) (braces_behind t (length bytes) braces) (is_plain_slash t) rest)
    ≡ total
tokens_step quoted front i braces after_slash bytes t rest total lt g h so_far =
    let others : Result (List Token × List ℕ) LocalFault = tokens_at quoted (1024 - (i + 1)) (braces_behind t (length bytes) braces)
    (is_plain_slash t) rest in
    let one : tokens_at quoted (1024 - i) braces after_slash bytes ≡ (others >>= λ x. Ok (t ∷ x.0, x.1)) =
    tokens_more quoted i braces after_slash bytes lt g ∙ ap (λ (r : Result (Token × List ℕ) LocalFault). r >>= token_first quoted
    (1024 - (i + 1)) braces bytes) h in
    front_more front t (tokens_at quoted (1024 - i) braces after_slash bytes) others total so_far one
