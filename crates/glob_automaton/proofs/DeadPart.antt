-- No rules.
use Rattle.std.proofs.Common.{◌≡◌, inl, ℕ, List, length, Some, slice_get, sym, ap, ◌∙◌, arith}
use Rattle.names.specs.Bytes.{are_bytes}
use Rattle.names.specs.declared.permissions.Permission.{Permission}
use Rattle.rule_profile.specs.Profile.{RuleValue}
use Rattle.names.specs.declared.record.LeastHits.{LeastHits}
use Rattle.names.specs.Least.{hits_of, record_of, no_hit}
use Rattle.names.specs.Hits.{no_hits}
use Rattle.automaton_rows.specs.Automata.{Automaton, IsWhole, state_after}
use Rattle.automaton_products.specs.laws.PairLaws.{after_there}
use Rattle.glob_automaton.specs.Parts.{IsAutomatonOfPart}

pub dead_part : ((hits : Permission → LeastHits) (p : Permission) → hits_of (record_of hits) p ≡ hits p) →
    (rules : List RuleValue) (first last : ℕ) (a : Automaton) → first ≡ last → IsWhole a → length a.rows ≡ 1 →
    slice_get a.records 0 ≡ Some no_hits →
    IsAutomatonOfPart rules first last a
dead_part made rules first last a none whole alone nothing = record {
  whole = whole;
  least = λ x small. (
    no_hits,
    ap (slice_get a.records) (zero_after x small) ∙ nothing,
    λ p. (
      inl (ap (λ (h : LeastHits). h.allow) (made (λ q. no_hit) p), λ m h. omega (arith, none, h.0, h.1)),
      inl (ap (λ (h : LeastHits). h.deny) (made (λ q. no_hit) p), λ m h. omega (arith, none, h.0, h.1)),
    ),
  );
  one_each = λ x y one two. (λ e n p low high. absurd (omega (arith, none, low, high)), λ same. zero_after x one ∙ sym (zero_after y two));
  dead = λ x small. (λ e n p low high live. omega (arith, none, low, high), λ h. zero_after x small);
  hits_nothing = nothing;
  met = λ s some lt. absurd (omega (arith, some, lt, alone));
}
  where
    zero_after : (x : List ℕ) → are_bytes x → state_after a x ≡ 0
    zero_after x small = let lt = after_there a x whole small in omega (arith, lt, alone)
