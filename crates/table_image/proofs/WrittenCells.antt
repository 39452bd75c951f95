-- One more cell of a row is written.
use Rattle.std.proofs.Common.{◌≡◌, ◌≢◌, ⊎_elim, ℕ, ◌+◌, ◌<◌, ◌==◌, ◌||◌, true, List, [], ◌∷◌, ◌++◌, length}
use Rattle.std.proofs.Common.{slice_index_or, ap, ◌∙◌, arith}
use Rattle.std.specs.List.{Contains}
use Rattle.std.proofs.Math.Bool.{or-false, or-true}
use Rattle.std.proofs.Math.ListN.{set}
use Rattle.std.proofs.lemmas.Bool.Decides.{eqb_tells}
use Rattle.std.proofs.lemmas.Grind.{get_or-set_at}
use Rattle.std.proofs.lemmas.List.{get_or-set_other, length-set}
use Rattle.std.proofs.lemmas.List.Elements.{Contains-append_left, Contains-push, Contains-push_cases}
use Rattle.table_image.specs.declared.taken.Taken.{Taken}
use Rattle.table_image.specs.inner.TakenCells.{is_taken}
use Rattle.table_image.specs.inner.PackSteps.{IsWritten}

module _ (next check : List ℕ) (taken : Taken) (next1 check1 : List ℕ) (taken1 taken2 : Taken) (targets bytes : List ℕ) (base state b : ℕ)
    (is : IsWritten next check taken next1 check1 taken1 targets bytes base state)
    (room_next : base + b < length next) (room_check : base + b < length check)
    (takes : (c : ℕ) → is_taken taken2 c ≡ (is_taken taken1 c || (c == (base + b)))) (long : length taken2.words.items
    ≡ length taken1.words.items) where
  cell : ℕ
  cell = base + b

  next2 : List ℕ
  next2 = set next1 (base + b) (slice_index_or targets b 0)

  check2 : List ℕ
  check2 = set check1 (base + b) state

  yes : (c : ℕ) → c ≡ base + b → is_taken taken2 c ≡ true
  yes c e = takes c ∙ ⊎_elim (λ h. ap (λ z. is_taken taken1 c || z) h.0 ∙ or-true (is_taken taken1 c)) (λ h. absurd (h.1 e))
      (eqb_tells c (base + b))

  no : (c : ℕ) → c ≢ base + b → is_taken taken2 c ≡ is_taken taken1 c
  no c other = takes c ∙ ⊎_elim (λ h. absurd (other h.1)) (λ h. ap (λ z. is_taken taken1 c || z) h.0 ∙ or-false (is_taken taken1 c))
      (eqb_tells c (base + b))

  pub one_written : IsWritten next check taken (set next1 (base + b) (slice_index_or targets b 0)) (set check1 (base + b) state) taken2
      targets (bytes ++ b ∷ []) base state
  one_written = record {
    next_long = length-set next1 (base + b) (slice_index_or targets b 0) ∙ is.next_long;
    check_long = length-set check1 (base + b) state ∙ is.check_long;
    room = long ∙ is.room;
    own = λ x there. ⊎_elim
        (λ h.
        let one : b ≡ x = omega (arith, h.1) in (
          get_or-set_at check1 (base + b) (base + x) state 0 h.1 (omega (arith, room_check, is.check_long)),
          get_or-set_at next1 (base + b) (base + x) (slice_index_or targets b 0) 0 h.1 (omega (arith, room_next, is.next_long))
              ∙ ap (λ z. slice_index_or targets z 0) one,
          yes (base + x) h.1,
        ))
        (λ h.
        let old : Contains bytes x = ⊎_elim (λ k. k) (λ e. absurd (h.1 (omega (arith, e)))) (Contains-push_cases bytes b x there) in
        let was = is.own x old in (
          get_or-set_other check1 (base + b) (base + x) state 0 h.1 ∙ was.0,
          get_or-set_other next1 (base + b) (base + x) (slice_index_or targets b 0) 0 h.1 ∙ was.1,
          no (base + x) h.1 ∙ was.2,
        ))
        (eqb_tells (base + x) (base + b));
    others = λ c none.
        let other : c ≢ base + b = λ e. none (b, Contains-push bytes b, e) in
        let was = is.others c (λ h. none (h.0, Contains-append_left bytes (b ∷ []) h.0 h.1, h.2)) in (
          get_or-set_other check1 (base + b) c state 0 other ∙ was.0,
          get_or-set_other next1 (base + b) c (slice_index_or targets b 0) 0 other ∙ was.1,
          no c other ∙ was.2,
        );
  }
