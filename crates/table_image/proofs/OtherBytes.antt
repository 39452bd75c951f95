-- The bytes that need a cell, range after range.
use Rattle.std.proofs.Common.{◌≡◌, ◌≢◌, ◌⊎◌, inl, ⊎_elim, ℕ, ◌+◌, ◌<◌, ◌≤◌, List, Bool, if◌then◌else◌, length, slice_index_or}
use Rattle.std.proofs.Common.{sym, ap, ◌∙◌, arith}
use Rattle.std.specs.List.{Contains}
use Rattle.std.proofs.lemmas.Bool.{cases_lt}
use Rattle.automaton_rows.specs.Automata.{Automaton, target}
use Rattle.table_image.specs.Chains.{source}
use Rattle.table_image.specs.inner.PackSteps.{AreOthers, without_cell}
use Rattle.table_image.proofs.ChainedTables.{not_zero}

-- the bytes before one that need a cell, each with its target
pub record OthersBefore (target without : ℕ → ℕ) (from : ℕ) (bytes targets : List ℕ) : Type 0 where
  pub each : (b : ℕ) → b < from → target b ≢ without b → Contains bytes b
  pub only : (b : ℕ) → Contains bytes b → (b < from) × (target b ≢ without b) × (slice_index_or targets b 0 ≡ target b)

-- the next range: its bytes have one target, and one target without a cell
pub range_more : (target without : ℕ → ℕ) (from last t w : ℕ) (bytes targets new_bytes new_targets : List ℕ) → from ≤ last →
    ((b : ℕ) → from ≤ b → b ≤ last → target b ≡ t) → ((b : ℕ) → from ≤ b → b ≤ last → without b ≡ w) →
    ((b : ℕ) → Contains bytes b → Contains new_bytes b) →
    ((b : ℕ) → Contains new_bytes b → Contains bytes b ⊎ ((from ≤ b) × (b ≤ last) × (t ≢ w))) →
    (t ≢ w → (b : ℕ) → from ≤ b → b ≤ last → Contains new_bytes b × (slice_index_or new_targets b 0 ≡ t)) →
    ((b : ℕ) → (b < from) ⊎ (last < b) → slice_index_or new_targets b 0 ≡ slice_index_or targets b 0) →
    OthersBefore target without from bytes targets → OthersBefore target without (last + 1) new_bytes new_targets
range_more target without from last t w bytes targets new_bytes new_targets ascend its its_without kept added within outside is = record {
  each = λ b lt other. ⊎_elim
      (λ before. kept b (is.each b before other))
      (λ le.
      let low : b ≤ last = omega (arith, lt) in
      (within (λ same. other (its b le low ∙ same ∙ sym (its_without b le low))) b le low).0)
      (cases_lt b from);
  only = λ b there. ⊎_elim
      (λ was.
      let had = is.only b was in (omega (arith, had.0, ascend), had.1, outside b (inl had.0) ∙ had.2))
      (λ inside.
      let le = inside.0 in
      let low = inside.1 in (
        omega (arith, low),
        λ same. inside.2 (sym (its b le low) ∙ same ∙ its_without b le low),
        (within inside.2 b le low).1 ∙ sym (its b le low),
      ))
      (added b there);
}

pub all_others : (target without : ℕ → ℕ) (from : ℕ) (bytes targets : List ℕ) → from ≡ 256 → OthersBefore target without from bytes targets
    → AreOthers target without bytes targets
all_others target without from bytes targets all is = record {
  each = λ b small other. is.each b (omega (arith, small, all)) other;
  only = λ b there. let has = is.only b there in (omega (arith, has.0, all), has.1, has.2);
}

-- the same targets need the same cells
pub others_as : (target without its its_without : ℕ → ℕ) (bytes targets : List ℕ) → ((b : ℕ) → b < 256 → target b ≡ its b) →
    ((b : ℕ) → b < 256 → without b ≡ its_without b) → AreOthers target without bytes targets → AreOthers its its_without bytes targets
others_as target without its its_without bytes targets same same_without is = record {
  each = λ b small other. is.each b small (λ e. other (sym (same b small) ∙ e ∙ same_without b small));
  only = λ b there.
      let has = is.only b there in
      let small = has.0 in (
        small,
        λ e. has.1 (same b small ∙ e ∙ sym (same_without b small)),
        has.2 ∙ same b small,
      );
}

-- without a cell, a state of depth 0 goes to its default
pub leads_flat : (a : Automaton) (default depth b : ℕ) → depth ≡ 0 → without_cell a default depth b ≡ default
leads_flat a default depth b none = ap (λ (d : ℕ). without_cell a default d b) none

-- and another leads where its default does
pub leads_on : (a : Automaton) (default depth b : ℕ) → default < length a.rows → depth ≢ 0 →
    without_cell a default depth b ≡ target a default b
leads_on a default depth b there some =
    ap (λ (z : Bool). if z then default else target a (source a default) b) (not_zero depth (omega (arith, some)))
    ∙ ap (λ z. target a z b) (omega (arith, there))
