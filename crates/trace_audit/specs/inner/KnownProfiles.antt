-- What the names of profiles lead to, once they were looked up.
use Rattle.std.specs.Prelude.{◌≡◌, ◌++◌, ℕ, List, IfSome}
use Rattle.std.specs.BTreeMap.{BTreeMap, get}
use Rattle.trace_audit.specs.Answers.{answer_to}
use Rattle.trace_audit.specs.Audit.{line_in}
use Rattle.trace_audit.specs.Groups.{Group}
use Rattle.trace_audit.specs.Lookups as looked
use Rattle.trace_audit.specs.Lookups.{IsFound, TextValue}
use Rattle.trace_audit.specs.contracts.known.ProfileKeyOrd.TheImpl as key_order
use Rattle.trace_audit.specs.declared.known.ProfileKey.{ProfileKey}
use Rattle.trace_audit.specs.declared.lookup.Found.{Found}
use Rattle.trace_audit.specs.inner.FoundValues.{found_value}
use Rattle.trace_report.specs.declared.format.Format.{Format}

-- each key that is known has what its name leads to for its subject
abbrev pub AreFound : List TextValue → BTreeMap ProfileKey Found → Type 0
AreFound texts known = (key : ProfileKey) → IfSome (get key_order.cmp-value.it known key)
    (λ found. IsFound texts key.profile.items key.by_owner (found_value found))

-- one more line, about this group
abbrev pub IsLineOf : Format → List TextValue → Group → List ℕ → List ℕ → Type 0
IsLineOf format texts group before after = (to : looked.Found) × IsFound texts group.denial.profile group.denial.by_owner to
    × (after ≡ before ++ line_in format group (answer_to to group.denial))
