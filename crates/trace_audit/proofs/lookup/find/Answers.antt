use Rattle.std.proofs.Common.{List, ℕ, map, subst}
use Rattle.std.specs.Prelude.{option_map}
use Rattle.rule_profile.specs.Profile.{profile_value}
use Rattle.trace_audit.specs.Lookups.{IsHeld, leads_to}
use Rattle.trace_audit.specs.inner.FoundValues.{found_value, held_value, refusal_value, text_value}
use Rattle.trace_audit.proofs.FoundLaws.{found_further, found_here, found_last}
use Rattle.trace_audit.proofs.lookup.find.Goals as goal

pub returns-in-Ok : goal.returns-in-Ok
returns-in-Ok c =
    let is_held : IsHeld c.text-item.result.text.items c.args.name.now c.args.by_owner (held_value c.in_ok-held.held) =
    subst (λ (t : List ℕ). IsHeld t c.args.name.now c.args.by_owner (held_value c.in_ok-held.held)) c.deref.ensures.value
    c.in_ok-held.ensures in
    c.loop-text.invariant (leads_to (profile_value c.in-Ok.profile).rules)
    (found_here c.args.name.now c.args.by_owner (option_map refusal_value c.loop-text.first) c.args.texts.now c.loop-text.text-index
    c.text-item.result (held_value c.in_ok-held.held) (profile_value c.in-Ok.profile).rules c.loop-text-test.true c.text-item.is
    is_held c.in-Ok.ensures.ok)

pub loop-text-preserved : goal.loop-text-preserved
loop-text-preserved c to h =
    let is_held : IsHeld c.text-item.result.text.items c.args.name.now c.args.by_owner (held_value c.in_ok-held.held) =
    subst (λ (t : List ℕ). IsHeld t c.args.name.now c.args.by_owner (held_value c.in_ok-held.held)) c.deref.ensures.value
    c.in_ok-held.ensures in
    c.loop-text.invariant to (found_further c.args.name.now c.args.by_owner (option_map refusal_value c.loop-text.first)
    c.args.texts.now c.loop-text.text-index c.text-item.result (held_value c.in_ok-held.held) to (option_map refusal_value c.in-Err.other)
    c.loop-text-test.true c.text-item.is is_held c.in-Err.ensures.passed c.in-Err.ensures.err h)

pub returns : goal.returns
returns c =
    c.loop-text.invariant (found_value c.not_found.result) (found_last c.args.name.now c.args.by_owner
    (option_map refusal_value c.loop-text.first) c.args.texts.now c.loop-text.text-index (found_value c.not_found.result)
    c.loop-text-test.false c.not_found.ensures)
