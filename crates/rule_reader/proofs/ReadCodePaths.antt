-- A token that continues a group or ends it is in one.
use Rattle.std.proofs.Common.{◌≡◌, ℕ, ◌<◌, Bool, true, false, cond, List, [], ◌∷◌, length, Result, Ok, Err, refl, subst, arith}
use Rattle.std.specs.Prelude.{◌&&◌, ◌||◌, ◌==◌, not, nat_le}
use Rattle.std.proofs.lemmas.Bool.{eqb-false, not-true, and_parts}
use Rattle.rule_globs.specs.declared.items.ByteRange.{ByteRange}
use Rattle.rule_reader.specs.declared.reader.local_fault.LocalFault.{LocalFault}
use Rattle.rule_reader.specs.declared.reader.local_fault.FaultKind.TheVariants as kinds
use Rattle.rule_reader.specs.inner.PartialPaths.{StandsIn}
use Rattle.rule_reader.specs.ReadClasses.{class_at}
use Rattle.rule_reader.specs.ReadPaths.{path_ends, escaped_at, goes_on_at, slash_or_end, token_at}
use Rattle.rule_reader.specs.ReadSteps.{◌>>=◌}
use Rattle.rule_reader.specs.ReadWords.{after}
use Rattle.rule_reader.specs.TextBytes.{begins, is_star, is_comma, is_open_brace, is_close_brace}
use Rattle.rule_globs.specs.Tokens.{Token, byte, any_byte, bracket, stars, opening, between, closing}
use Rattle.rule_reader.proofs.ReadSteps.{ok_is, not_ok}

abbrev Read : Type 0
Read = Result (Token × List ℕ) LocalFault

abbrev Stands : List ℕ → Read → Token × List ℕ → Type 0
Stands braces read x = read ≡ Ok x → StandsIn braces x.0

it_is : (braces : List ℕ) (x y : Token × List ℕ) → StandsIn braces x.0 → Stands braces (Ok x) y
it_is braces x y h e = subst (λ (z : Token × List ℕ). StandsIn braces z.0) (ok_is x y e) h

-- the tests one after another, and what is read where each is the first that holds
stands_by : (braces : List ℕ) (x : Token × List ℕ) (star any class opens close comma back : Bool) (crosses strict : Bool)
    (rest bytes : List ℕ) (b : ℕ) (members : Result ((Bool × List ByteRange) × List ℕ) LocalFault)
    (escaped : Result (ℕ × List ℕ) LocalFault)
    → (close ≡ true → 0 < length braces) → (comma ≡ true → 0 < length braces)
    → Stands braces (cond star (Ok (stars crosses strict, rest))
    (cond any (Ok (any_byte, bytes)) (cond class (members >>= λ x. Ok (bracket x.0.0 x.0.1, x.1))
    (cond opens (Ok (opening, bytes))
    (cond close (Ok (closing, bytes))
    (cond comma (Ok (between, bytes)) (cond back (escaped >>= λ x. Ok (byte x.0, x.1)) (Ok (byte b, bytes))))))))) x
stands_by braces x true any class opens close comma back crosses strict rest bytes b members escaped h g =
    it_is braces (stars crosses strict, rest) x tt
stands_by braces x false true class opens close comma back crosses strict rest bytes b members escaped h g =
    it_is braces (any_byte, bytes) x tt
stands_by braces x false false true opens close comma back crosses strict rest bytes b (Ok c) escaped h g =
    it_is braces (bracket c.0.0 c.0.1, c.1) x tt
stands_by braces x false false true opens close comma back crosses strict rest bytes b (Err s) escaped h g = λ e. absurd (not_ok s x e)
stands_by braces x false false false true close comma back crosses strict rest bytes b members escaped h g =
    it_is braces (opening, bytes) x tt
stands_by braces x false false false false true comma back crosses strict rest bytes b members escaped h g =
    it_is braces (closing, bytes) x (h refl)
stands_by braces x false false false false false true back crosses strict rest bytes b members escaped h g =
    it_is braces (between, bytes) x (g refl)
stands_by braces x false false false false false false true crosses strict rest bytes b members (Ok c) h g =
    it_is braces (byte c.0, c.1) x tt
stands_by braces x false false false false false false true crosses strict rest bytes b members (Err s) h g = λ e. absurd (not_ok s x e)
stands_by braces x false false false false false false false crosses strict rest bytes b members escaped h g =
    it_is braces (byte b, bytes) x tt

-- where a path goes on, no group is closed that is not opens
open_by : (wrong ends deep close variable back : Bool) (s1 s2 s3 s4 : LocalFault) (escaped : Result Bool LocalFault) →
    cond wrong (Err s1) (cond ends (Ok false)
    (cond deep (Err s2) (cond close (Err s3) (cond variable (Err s4) (cond back escaped (Ok true)))))) ≡ Ok true → close ≡ false
open_by true ends deep close variable back s1 s2 s3 s4 escaped e = absurd (not_ok s1 true e)
open_by false true deep close variable back s1 s2 s3 s4 escaped e = let no = ok_is false true e in absurd cc
open_by false false true close variable back s1 s2 s3 s4 escaped e = absurd (not_ok s2 true e)
open_by false false false true variable back s1 s2 s3 s4 escaped e = absurd (not_ok s3 true e)
open_by false false false false variable back s1 s2 s3 s4 escaped e = refl

closes_open : (quoted : Bool) (depth b : ℕ) (bytes : List ℕ) → goes_on_at quoted depth (b ∷ bytes) ≡ Ok true →
    (is_close_brace b && (depth == 0)) ≡ false
unfolding goes_on_at
closes_open quoted depth b bytes e =
    let left : ℕ = length (b ∷ bytes) in
    open_by (b == 0 || (quoted && b == 10)) (path_ends quoted depth (b ∷ bytes)) (is_open_brace b && nat_le 50 depth)
    (is_close_brace b && (depth == 0)) (b == 64 && begins is_open_brace bytes) (b == 92)
    (record { kind = kinds.Syntax; left = left; settled = true }) (record { kind = kinds.Depth; left = left; settled = true })
    (record { kind = kinds.Group; left = left; settled = true }) (record { kind = kinds.LeftOut 2; left = left; settled = true })
    (escaped_at bytes >>= λ _. Ok true) e

some_open : (close : Bool) (depth : ℕ) → (close && (depth == 0)) ≡ false → close ≡ true → 0 < depth
some_open true depth h e = let no : depth ≡ 0 → ⊥ = eqb-false depth 0 h in omega arith
some_open false depth h e = absurd cc

pub stands_in : (quoted : Bool) (braces : List ℕ) (after_slash : Bool) (bytes rest : List ℕ) (t : Token) →
    goes_on_at quoted (length braces) bytes ≡ Ok true → token_at quoted (length braces) after_slash bytes ≡ Ok (t, rest) →
    StandsIn braces t
unfolding token_at
stands_in quoted braces after_slash [] rest t g e = absurd (not_ok _ (t, rest) e)
stands_in quoted braces after_slash (b ∷ bytes) rest t g e =
    let depth : ℕ = length braces in
    stands_by braces (t, rest) (is_star b) (b == 63) (b == 91) (is_open_brace b) (is_close_brace b)
    (is_comma b && not (depth == 0)) (b == 92) (begins is_star bytes) (after_slash && slash_or_end quoted depth (after is_star bytes))
    (after is_star bytes) bytes b (class_at quoted (length (b ∷ bytes)) bytes) (escaped_at bytes)
    (some_open (is_close_brace b) depth (closes_open quoted depth b bytes g))
    (λ h. let no : depth ≡ 0 → ⊥ = eqb-false depth 0 (not-true (depth == 0) (and_parts (is_comma b) (not (depth == 0)) h).1) in
    omega arith) e
