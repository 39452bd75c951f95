-- Which rules decide, by reasons and by least hits, and which of them were met.
use Rattle.std.specs.Prelude.{◌≡◌, ◌⊎◌, ◌↔◌, ◌==◌, ℕ, Bool, List, IsTrue, Option, Some, if◌then◌else◌, slice_get}
use Rattle.names.specs.Least.{hits_of}
use Rattle.names.specs.Permissions.{has}
use Rattle.names.specs.declared.permissions.Permission.{Permission}
use Rattle.names.specs.declared.permissions.Perms.{Perms}
use Rattle.names.specs.declared.record.LeastHits.{LeastHits}
use Rattle.profile_questions.specs.Names.{AreLeastHits, ComparisonValue}
use Rattle.profile_questions.specs.declared.answer.Answers.{Answers}
use Rattle.profile_questions.specs.declared.comparison.Records.{Records}
use Rattle.profile_questions.specs.Questions.{IsToldAs}
use Rattle.rule_explain.specs.Reasons.{IsReason}
use Rattle.rule_explain.specs.declared.reason.Reason.{Reason}
use Rattle.rule_explain.specs.declared.reason.Reason.TheVariants as reason
use Rattle.rule_globs.specs.Tokens.{Token}
use Rattle.question_answers.specs.declared.cause.Cause.{Cause}
use Rattle.question_answers.specs.declared.cause.Cause.TheVariants.{Allowed, Denied, NoRule}
use Rattle.question_answers.specs.declared.cause.Causes.{Causes}
use Rattle.question_answers.specs.declared.least.Wanted.{Wanted}
use Rattle.question_answers.specs.inner.Wants.{IsWantedOf}

-- a cause as a reason
abbrev pub reason_of : Cause → Reason
reason_of (Allowed n) = reason.Allowed n
reason_of (Denied n) = reason.Denied n
reason_of NoRule = reason.NoRule

-- a name of which two lists of rules say what is wanted, and what decides there about something that is asked
abbrev pub HasCauses : Option (List Token) → ComparisonValue → Wanted → Perms → Causes → List ℕ → Type 0
HasCauses below c wanted ask causes name = IsWantedOf below c wanted name
    × ((p : Permission) × IsTrue (has ask p) × IsReason c.first name p (reason_of causes.first)
    × IsReason c.second name p (reason_of causes.second))

-- ---- by least hits

abbrev pub cause_of : LeastHits → Cause
cause_of hits = if hits.deny == 0 then (if hits.allow == 0 then NoRule else Allowed hits.allow) else Denied hits.deny

abbrev pub causes_at : Records → Permission → Causes
causes_at r p = record { first = cause_of (hits_of r.first p); second = cause_of (hits_of r.second p) }

-- those of something that is asked
abbrev pub AreCauses : Records → Perms → Causes → Type 0
AreCauses r ask causes = (p : Permission) × IsTrue (has ask p) × (causes ≡ causes_at r p)

-- all three records say what is wanted
abbrev pub AreTold : Answers → Records → Type 0
AreTold answers r = IsToldAs answers.first r.first × IsToldAs answers.second r.second × IsToldAs answers.third r.third

-- ---- noted

abbrev pub IsIn : List Causes → Causes → Type 0
IsIn keys causes = (i : ℕ) × (slice_get keys i ≡ Some causes)

-- these are noted, and whether one of them wasn't before
pub record AreNoted (old new : List Causes) (is_new : Bool) (Are : Causes → Type 0) : Type 0 where
  pub noted : (k : Causes) → IsIn new k ↔ (IsIn old k ⊎ Are k)
  pub news : IsTrue is_new ↔ ((k : Causes) × Are k × ¬ (IsIn old k))

-- the causes of the representative with this index are noted, if its least hits say what is wanted
abbrev pub HasNoted : ComparisonValue → ℕ → Answers → Perms → List Causes → List Causes → Bool → Type 0
HasNoted c index answers ask old new is_new = (name : List ℕ) × (records : Records) × (slice_get c.names index ≡ Some name)
    × AreLeastHits c name records × AreNoted old new is_new (λ k. AreTold answers records × AreCauses records ask k)
