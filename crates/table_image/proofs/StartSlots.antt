-- Slots of starts.
use Rattle.std.proofs.Common.{◌≡◌, ◌⊎◌, inl, inr, ⊎_elim, ℕ, zero, suc, ◌<◌, ◌++◌, ◌∷◌, [], List, length, true, Some, slice_get, slice_set}
use Rattle.std.proofs.Common.{sym, ap, ◌∙◌, subst, arith}
use Rattle.std.proofs.lemmas.Bool.Decides.{eqb_tells}
use Rattle.std.proofs.lemmas.Option.{none-some, same_Some, slice_get-get_or, slice_get_within, get_or_from_slice_get}
use Rattle.std.proofs.lemmas.Grind.{get_or-set_at}
use Rattle.std.proofs.lemmas.List.{get_or-set_other, length-set}
use Rattle.table_image.specs.declared.taken.Taken.{Taken}
use Rattle.table_image.specs.declared.starts.Slot.{Slot}
use Rattle.table_image.specs.inner.FirstBases.{IsStartFor}
use Rattle.table_image.specs.inner.TakenCells.{is_taken}
use Rattle.table_image.proofs.TakenCells.{stays_blocked}

get_either : (xs : List Slot) (x y : Slot) (i : ℕ) → slice_get (xs ++ x ∷ []) i ≡ Some y → (slice_get xs i ≡ Some y) ⊎ (x ≡ y)
get_either [] x y zero e = inr (same_Some x y e)
get_either [] x y (suc i) e = absurd (none-some y e)
get_either (z ∷ xs) x y zero e = inl e
get_either (z ∷ xs) x y (suc i) e = get_either xs x y i e

abbrev pub AreSlots : Taken → List Slot → Type 0
AreSlots taken slots = (i : ℕ) (slot : Slot) → slice_get slots i ≡ Some slot → IsStartFor taken slot.bytes.items slot.start

pub one_slot_more : (slots new : List Slot) → ((taken : Taken) → AreSlots taken slots) →
    ((slot : Slot) × (slot.start ≡ 0) × (new ≡ slots ++ slot ∷ [])) →
    (taken : Taken) → AreSlots taken new
one_slot_more slots new are added taken i slot at = ⊎_elim
    (λ h. are taken i slot h)
    (λ h. λ x lt. absurd (omega (arith, lt, ap (λ (z : Slot). z.start) (sym h), added.1)))
    (get_either slots added.0 slot i (ap (λ z. slice_get z i) (sym added.2) ∙ at))

pub slot_set : (taken : Taken) (slots : List Slot) (place : ℕ) (new : Slot) → place < length slots → AreSlots taken slots →
    IsStartFor taken new.bytes.items new.start →
    AreSlots taken (slice_set slots place new)
slot_set taken slots place new there are start i slot at =
    let lt = slice_get_within (slice_set slots place new) i slot at in
    let within : i < length slots = omega (arith, lt, length-set slots place new) in
    let is = get_or_from_slice_get (slice_set slots place new) i slot slot at in
    ⊎_elim
    (λ h. subst (λ (z : Slot). IsStartFor taken z.bytes.items z.start) (sym (get_or-set_at slots place i new slot h.1 there) ∙ is) start)
    (λ h. are i slot (slice_get-get_or slots i slot within ∙ ap Some (sym (get_or-set_other slots place i new slot h.1) ∙ is)))
    (eqb_tells i place)

pub slots_stay : (taken more : Taken) (slots : List Slot) → ((c : ℕ) → is_taken taken c ≡ true → is_taken more c ≡ true) →
    AreSlots taken slots → AreSlots more slots
slots_stay taken more slots grows are i slot at x lt = stays_blocked taken more slot.bytes.items x grows (are i slot at x lt)
