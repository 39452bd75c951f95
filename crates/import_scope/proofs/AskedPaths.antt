-- A path that is asked: the variables are counted, and then its text.
use Rattle.std.proofs.Common.{◌≡◌, ◌≤◌, ◌+◌, ℕ, true, false, List, length, Ok, Err, Option, Some, None, sym, ap₂, subst, inl, inr, arith}
use Rattle.apparmor_variables.specs.Variables.{Variable}
use Rattle.import_scope.specs.FirstFaults.{Question, Counted, most_together, is_last, CountBefore, too_much_at, Answers, lists_too_long}
use Rattle.import_scope.specs.FirstFaults.{no_text, text_too_long, answered}
use Rattle.import_scope.specs.Scopes.{Fault}
use Rattle.import_scope.specs.inner.Problems.{CountsLists, Places, AnswersAs}

module _ (c : Counted) (q : Question) where
  placed : (n mid new : ℕ) (profile : Option ℕ) (found : Option Fault) → CountBefore (is_last c.profile q.profile) q.variables n →
      mid ≡ c.bytes + n → mid ≤ most_together → profile ≡ Some q.profile → Places q.variables q.path q.place found mid new →
      AnswersAs c q found (record { bytes = new; profile = profile })
  placed n mid new profile None before is fits in_it (text, sub, sum, short) =
      let bytes : c.bytes + n + length text ≡ new = omega (arith, is, sum) in
      subst (λ (next : Counted). Answers c q (Ok next))
      (ap₂ (λ (b : ℕ) (p : Option ℕ). record { bytes = b; profile = p }) bytes (sym in_it))
      (answered n text before sub (omega (arith, is, sum, short)))
  placed n mid new profile (Some fault) before is fits in_it (inl h) =
      subst (λ (f : Fault). Answers c q (Err f)) (sym h.told) (no_text n h.problem before (omega (arith, is, fits)) h.has)
  placed n mid new profile (Some fault) before is fits in_it (inr h) =
      let more = h.more in
      subst (λ (f : Fault). Answers c q (Err f)) (sym h.told) (text_too_long n h.text before h.is (omega (arith, is, more)))

  pub with_lists : (variables : List Variable) (mid new : ℕ) (profile : Option ℕ) (found : Option Fault) → variables ≡ q.variables →
      CountsLists (is_last c.profile q.profile) variables c.bytes mid true → profile ≡ Some q.profile →
      Places variables q.path q.place found mid new → AnswersAs c q found (record { bytes = new; profile = profile })
  with_lists variables mid new profile found same counts in_it places =
      placed counts.0 mid new profile found
      (subst (λ (vs : List Variable). CountBefore (is_last c.profile q.profile) vs counts.0) same counts.1) counts.2 counts.3 in_it
      (subst (λ (vs : List Variable). Places vs q.path q.place found mid new) same places)

  pub without : (variables : List Variable) (mid : ℕ) → variables ≡ q.variables →
      CountsLists (is_last c.profile q.profile) variables c.bytes mid false → Answers c q (Err (too_much_at q))
  without variables mid same counts =
      lists_too_long counts.0 (subst (λ (vs : List Variable). CountBefore (is_last c.profile q.profile) vs counts.0) same counts.1)
      counts.2
