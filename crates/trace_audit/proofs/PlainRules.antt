-- A rule of exactly one name.
use Rattle.std.proofs.Common.{◌≡◌, ◌∙◌, ℕ, Bool, true, false, List, [], ◌∷◌, ◌++◌, Option, Some, None, map, sym, ap, refl, IsTrue}
use Rattle.std.proofs.Common.{arith}
use Rattle.std.specs.Prelude.{◌&&◌, ◌==◌, nat_lt, not, if◌then◌else◌}
use Rattle.std.proofs.lemmas.Bool.{and_from, and_parts, eq-eqb, eqb-true, lt-ltb, ltb-false, or_parts}
use Rattle.names.specs.Ascii as ascii
use Rattle.std.specs.List.{list_any}
use Rattle.rule_globs.specs.Glob.{Takes, fits, exactly}
use Rattle.rule_globs.specs.Tokens.{byte, pattern_of}
use Rattle.trace_audit.specs.Answers.{is_control}

-- both tests passed
pub passed : (r c : Bool) (t text : List ℕ) → (if r && not c then Some t else None) ≡ Some text → IsTrue r × (c ≡ false) × (t ≡ text)
passed true false t text e = (refl, refl, cc)
passed true true t text e = absurd (cc)
passed false c t text e = absurd (cc)

-- a byte of which the class holds is that byte
same_byte : (b x : ℕ) → IsTrue (fits (exactly b) x) → x ≡ b
same_byte b x h = sym (eqb-true b x (and_parts (nat_lt 0 x) (b == x) h).1)

-- a byte that is no control byte fits itself
own_byte : (b : ℕ) → is_control b ≡ false → IsTrue (fits (exactly b) b)
own_byte b e =
    let below = or_parts (nat_lt b ascii.space) (b == ascii.delete) e in
    and_from (nat_lt 0 b) (b == b) (lt-ltb 0 b (omega (arith, ltb-false b ascii.space below.0))) (eq-eqb b b refl)

pub takes_only : (name other : List ℕ) → Takes (pattern_of (map byte name)) other → other ≡ name
takes_only [] other t = t
takes_only (b ∷ name) other (front, back, split, (x, one, fit), more) =
    split ∙ ap (λ (l : List ℕ). l ++ back) one ∙ ap (λ (l : List ℕ). x ∷ l) (takes_only name back more)
    ∙ ap (λ (y : ℕ). y ∷ name) (same_byte b x fit)

no_control : (b : ℕ) (name : List ℕ) → list_any is_control (b ∷ name) ≡ false → (is_control b ≡ false) × (list_any is_control name ≡ false)
no_control b name e = or_parts (is_control b) (list_any is_control name) e

pub takes_it : (name : List ℕ) → list_any is_control name ≡ false → Takes (pattern_of (map byte name)) name
takes_it [] e = refl
takes_it (b ∷ name) e =
    let both = no_control b name e in
    (b ∷ [], name, refl, (b, refl, own_byte b both.0), takes_it name both.1)
