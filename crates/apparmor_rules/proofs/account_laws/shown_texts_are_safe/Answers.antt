use Rattle.std.proofs.Common.{ℕ, ◌≡◌, ◌≤◌, ◌++◌, List, Bool, true, false, length, take, refl, arith, length-append}
use Rattle.std.proofs.lemmas.Bool.{leb-true, leb-false}
use Rattle.std.proofs.lemmas.List.{length-take-le}
use Rattle.std.specs.Prelude.{codes, nat_le, if◌then◌else◌}
use Rattle.apparmor_rules.specs.ShownTexts.{on_one_line, shortened, shown_text}
use Rattle.apparmor_rules.proofs.account_laws.shown_texts_are_safe.Goals as goal

short : (bytes : List ℕ) → length (shortened bytes) ≤ 72
short bytes =
    elim (nat_le (length bytes) 72) as (λ (b : Bool). nat_le (length bytes) 72 ≡ b →
    length (if b then bytes else take 70 bytes ++ codes "..") ≤ 72) [
      | true ↦ λ is. leb-true (length bytes) 72 is
      | false ↦ λ is. omega (
        arith,
        length-append (take 70 bytes) (codes ".."),
        length-take-le 70 bytes
            (omega (arith, leb-false (length bytes) 72 is)),
      )
    ] refl

pub returns-clause-short : goal.returns-clause-short
unfolding shown_text
returns-clause-short c = λ bytes. short (on_one_line false false bytes)
