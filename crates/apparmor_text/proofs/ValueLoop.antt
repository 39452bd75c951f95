-- The values of an assignment, one by one, with more room than bytes are left.
use Rattle.std.proofs.Common.{◌≡◌, ℕ, zero, suc, ◌<◌, ◌≤◌, true, false, cond, length, Result, Ok, sym, ap, ◌∙◌, arith}
use Rattle.apparmor_text.specs.declared.part.PartKind.TheVariants as parts
use Rattle.apparmor_words.specs.Steps.{Stop, ◌>>=◌}
use Rattle.apparmor_text.specs.Readings.{Reading}
use Rattle.apparmor_text.specs.WordParts.{word_part}
use Rattle.apparmor_words.specs.Assignments.{line_ends}
use Rattle.apparmor_text.specs.Assignments.{separators_part, values_at}
use Rattle.apparmor_text.specs.laws.Progress.{going_shortens}
use Rattle.apparmor_text.specs.laws.GoingWords.{word_shortens}
use Rattle.apparmor_text.proofs.GoingItems.{separators_go}

-- a value takes something
pub value_shorter : (s t : Reading) → word_part parts.Value (separators_part s) ≡ Ok t → length t.rest < length s.rest
value_shorter s t e =
    let a = (word_shortens parts.Value (λ b. absurd cc) (separators_part s) t e).less in
    let b = going_shortens s (separators_part s) (separators_go s) in
    omega (arith, a, b)

pub values_end : (room : ℕ) (s : Reading) (whole : Result Reading Stop) → length s.rest < room → values_at room s ≡ whole →
    line_ends (separators_part s).rest ≡ true → whole ≡ Ok (separators_part s)
values_end zero s whole h e l = absurd (omega (arith, h))
values_end (suc room) s whole h e l =
    sym e ∙ ap (λ b. cond b (Ok (separators_part s)) (word_part parts.Value (separators_part s) >>= λ behind. values_at room behind)) l

pub values_fail : (room : ℕ) (s : Reading) (whole : Result Reading Stop) (r : Result Reading Stop) → length s.rest < room →
    values_at room s ≡ whole → line_ends (separators_part s).rest ≡ false
    → word_part parts.Value (separators_part s) ≡ r → (k : ℕ) × (whole ≡ (r >>= λ behind. values_at k behind)) × (length s.rest ≤ k)
values_fail zero s whole r h e l w = absurd (omega (arith, h))
values_fail (suc room) s whole r h e l w = (
  room,
  sym e ∙ ap (λ b. cond b (Ok (separators_part s)) (word_part parts.Value (separators_part s) >>= λ behind. values_at room
      behind)) l ∙ ap (λ (x : Result Reading Stop). x >>= λ behind. values_at room behind) w,
  omega (arith, h),
)

pub values_more : (room : ℕ) (s t : Reading) (whole : Result Reading Stop) → length s.rest < room → values_at room s ≡ whole →
    line_ends (separators_part s).rest ≡ false
    → word_part parts.Value (separators_part s) ≡ Ok t → (k : ℕ) × (length t.rest < k) × (values_at k t ≡ whole)
values_more room s t whole h e l w =
    let p = values_fail room s whole (Ok t) h e l w in
    let less = value_shorter s t w in
    (p.0, omega (arith, less, p.2), sym p.1)
