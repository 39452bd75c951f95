-- The kinds of changes: something of a rule is lost, something is gained, or nothing is either.
use Rattle.std.proofs.Common.{◌≡◌, ◌≢◌, Bool, true, false, if◌then◌else◌, refl, sym, ◌∙◌}
use Rattle.apparmor_rules.specs.declared.effect.Extent.{Extent}
use Rattle.apparmor_rules.specs.declared.effect.Extent.TheVariants.{Exact, Wider, Narrower}
use Rattle.apparmor_rules.specs.Changes.{gained, lost}
use Rattle.names.specs.declared.kind.RuleKind.{RuleKind}
use Rattle.names.specs.declared.kind.RuleKind.TheVariants.{Allow, Deny}

exact_is_wider : Exact ≡ Wider → ⊥
exact_is_wider e = cc (e)

pub exact_is_narrower : Exact ≡ Narrower → ⊥
exact_is_narrower e = cc (e)

pub exact_gains_nothing : (kind : RuleKind) (c : Extent) → c ≡ Exact → c ≢ gained kind
exact_gains_nothing Allow c is e = exact_is_wider (sym is ∙ e)
exact_gains_nothing Deny c is e = exact_is_narrower (sym is ∙ e)

pub exact_loses_nothing : (kind : RuleKind) (c : Extent) → c ≡ Exact → c ≢ lost kind
exact_loses_nothing Allow c is e = exact_is_narrower (sym is ∙ e)
exact_loses_nothing Deny c is e = exact_is_wider (sym is ∙ e)

wider_is_narrower : Wider ≡ Narrower → ⊥
wider_is_narrower e = cc (e)

pub lost_is_gained : (kind : RuleKind) → lost kind ≡ gained kind → ⊥
lost_is_gained Allow e = wider_is_narrower (sym e)
lost_is_gained Deny e = wider_is_narrower e

-- the change where something may be lost, and nothing is gained
pub is_lost : (kind : RuleKind) (loses : Bool) → (if loses then lost kind else Exact) ≡ lost kind → loses ≡ true
is_lost kind true e = refl
is_lost kind false e = absurd (exact_loses_nothing kind Exact refl e)

pub never_gained : (kind : RuleKind) (loses : Bool) → (if loses then lost kind else Exact) ≡ gained kind → ⊥
never_gained kind true e = lost_is_gained kind e
never_gained kind false e = exact_gains_nothing kind Exact refl e
