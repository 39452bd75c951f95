use Rattle.std.proofs.Common.{◌≡◌, ◌∙◌, Some, None, ap, sym}
use Rattle.std.specs.Prelude.{bytes_eq, if◌then◌else◌}
use Rattle.std.specs.Option.{option_map}
use Rattle.mediation.specs.Deeds.{after_deed}
use Rattle.mediation.specs.PolicyChanges.{deed_of, judge_shared}
use Rattle.mediation.specs.Profiles.{judge_of}
use Rattle.names.specs.laws.ByteKeys.{updates_bytes}
use Rattle.mediation.specs.inner.Profiles.{policy_in}
use Rattle.mediation.proofs.MapSteps.{mapped_if}
use Rattle.mediation.proofs.published_profiles.Profiles.make.Goals as goal

pub returns-in_ok-insert-in-Replace : goal.returns-in_ok-insert-in-Replace
returns-in_ok-insert-in-Replace c =
    let old = c.args.self.now in
    let bytes = c.in_ok-name-in-Replace.name.items in
    let same : bytes ≡ c.in-Replace.name.items = c.in_ok-name-in-Replace.ensures.items ∙ c.deref.ensures.value in
    let share = c.in_ok-try_clone-in-Replace.field-0 in
    λ i other. (ap (option_map judge_shared) (updates_bytes bytes old.by_name c.insert.new.self (Some share)
    c.in_ok-insert-in-Replace.ensures.updates other)
    ∙ mapped_if judge_shared (bytes_eq bytes other) (Some share) _
    ∙ (λ j. if bytes_eq (same j) other then Some (judge_of (c.in_ok-try_clone-in-Replace.ensures j)) else policy_in old other)
    ∙ ap (λ change. after_deed (policy_in old) (deed_of change) other) (sym c.in-Replace.is)) i

pub returns-in-Remove : goal.returns-in-Remove
returns-in-Remove c =
    let old = c.args.self.now in
    let bytes = c.as_slice.result.now in
    λ i other. (ap (option_map judge_shared) (updates_bytes bytes old.by_name c.remove.new.self None c.remove.ensures.updates other)
    ∙ mapped_if judge_shared (bytes_eq bytes other) None _
    ∙ (λ j. if bytes_eq (c.as_slice.ensures.value j) other then None else policy_in old other)
    ∙ ap (λ change. after_deed (policy_in old) (deed_of change) other) (sym c.in-Remove.is)) i
