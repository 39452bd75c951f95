-- One more word that was read.
use Rattle.std.proofs.Common.{◌≡◌, ℕ, ◌≢◌, false, List, length, Some, None, Option, sym, refl, ap, ◌∙◌}
use Rattle.std.specs.Prelude.{slice_index, is_some}
use mathlib.Core.Logic.{dite}
use native.Mathlib.Decide.{ℕ_discrete}
use Rattle.std.proofs.lemmas.Option.{same_Some}
use Rattle.tree_row.specs.declared.reader.Lack.{Lack}
use Rattle.tree_row.specs.Known.{known_at, Agrees, Learns}
use Rattle.tree_row.specs.ReadWords.{AreNew}
use Rattle.tree_row.specs.inner.Lacks.{IsHonestLack}

pub none_of : (o : Option ℕ) → is_some o ≡ false → o ≡ None
none_of None h = refl
none_of (Some n) h = absurd (cc h)

pub own_more : (old new : List (ℕ × ℕ)) (row : List ℕ) (place word : ℕ) → Learns old new place word → word ≡ slice_index row place →
    Agrees old row → Agrees new row
own_more old new row place word learns at own q n is = dite (ℕ_discrete q place)
    (λ e. ap (slice_index row) e ∙ sym at ∙ same_Some word n (sym learns.there ∙ ap (known_at new) (sym e) ∙ is))
    (λ other. own q n (sym (learns.others q other) ∙ is))

pub new_more : (known old new : List (ℕ × ℕ)) (place word : ℕ) → Learns old new place word → known_at known place ≡ None →
    AreNew known old → AreNew known new
new_more known old new place word learns none h q n is = dite (ℕ_discrete q place)
    (λ e. ap (known_at known) e ∙ none)
    (λ other. h q n (sym (learns.others q other) ∙ is))

pub honest_more : (capacity : ℕ) (known old new : List (ℕ × ℕ)) (most : ℕ) (lacks : Option Lack) → length old ≢ most →
    IsHonestLack capacity known old most lacks → IsHonestLack capacity known new most lacks
honest_more capacity known old new most lacks less h q is = absurd (less (h q is).3)
