-- What the record of a name's last state says.
use Rattle.std.proofs.Common.{◌≡◌, ◌<◌, ℕ, Bool, false, List, Fits, w8, Some, slice_index_or, refl, sym, ap, ◌∙◌, subst, arith}
use Rattle.std.specs.Prelude.{unwrap_or}
use Rattle.std.proofs.lemmas.List.{get_or_default}
use Rattle.names.specs.declared.permissions.Permission.{Permission}
use Rattle.names.specs.declared.permissions.Perms.{Perms}
use Rattle.names.specs.Permissions.{only}
use Rattle.names.specs.Hits.{no_hits}
use Rattle.names.specs.Records.{IsTold}
use Rattle.names.specs.Bytes.{are_bytes}
use Rattle.names.specs.declared.record.Record.{Record}
use Rattle.matcher.specs.TableVerdicts.{TellsVerdicts}
use Rattle.mediation.specs.Judge.{Judge, by_rules, by_table, verdict_by}
use Rattle.mediation.specs.Told.{told}
use Rattle.mediation.specs.inner.RecordVerdicts.{Tells}
use Rattle.rule_judge.specs.Links.{is_allowed}
use Rattle.rule_profile.specs.Profile.{RuleValue}
use Rattle.names.specs.declared.verdict.Verdict.{Verdict}
use Rattle.names.specs.declared.verdict.Verdict.TheVariants.{Denied, NoRule, Allowed}
use Rattle.tables.specs.Tables.{Table, record_after}

-- each element of a slice of bytes fits
are_all_bytes : (name : List ℕ) → ((i : ℕ) → Fits w8 (slice_index_or name i 0)) → are_bytes name
are_all_bytes name fits k d lt = subst (λ (b : ℕ). b < 256) (get_or_default name k 0 d lt) (omega (arith, fits k))

-- by a table of rules
pub rules_tell : (rules : List RuleValue) (t : Table) (name : List ℕ) (r : Record) → TellsVerdicts rules t
    → ((i : ℕ) → Fits w8 (slice_index_or name i 0)) → record_after t name ≡ Some r → Tells (by_rules rules) name r
rules_tell rules t name r tells fits is ask v told = tells name r ask v (are_all_bytes name fits) is told

-- by any table
pub table_tells : ((r : Record) (ask : Perms) (v : Verdict) → IsTold r ask v → v ≡ told r ask) → (t : Table) (name : List ℕ) (r : Record)
    → record_after t name ≡ Some r → Tells (by_table t) name r
table_tells one t name r is ask v h = one r ask v h ∙ ap (λ o. told (unwrap_or o no_hits) ask) (sym is)

-- a table of rules says what they say
pub table_as_rules : ((r : Record) (ask : Perms) → IsTold r ask (told r ask)) → (rules : List RuleValue) (t : Table) (name : List ℕ)
    (ask : Perms) (r : Record)
    → TellsVerdicts rules t → are_bytes name → record_after t name ≡ Some r → verdict_by (by_table t) name ask
    ≡ verdict_by (by_rules rules) name ask
table_as_rules some rules t name ask r tells bytes is =
    ap (λ o. told (unwrap_or o no_hits) ask) is ∙ tells name r ask (told r ask) bytes is (some r ask)

-- whether a permission is allowed when it is asked for alone
abbrev pub is_allowed_by : Judge → List ℕ → Permission → Bool
is_allowed_by judge name p = is_allowed (verdict_by judge name (only p))

-- what a record says about a permission that is asked for alone
pub told_allowed : (judge : Judge) (name : List ℕ) (p : Permission) (r : Record) (b : Bool) → Tells judge name r
    → (v : Verdict) × IsTold r (only p) v × (b ≡ is_allowed v) → b ≡ is_allowed_by judge name p
told_allowed judge name p r b tells (v, told, same) = same ∙ ap is_allowed (tells (only p) v told)

pub not_allowed : (v : Verdict) → (v ≡ Allowed → ⊥) → false ≡ is_allowed v
not_allowed Allowed other = absurd (other refl)
not_allowed (Denied rule) other = refl
not_allowed (NoRule missing) other = refl
