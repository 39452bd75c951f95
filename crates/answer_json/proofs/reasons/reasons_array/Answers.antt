use Rattle.std.proofs.Common.{◌≡◌, ℕ, Vec, Global, List, take, map, filter, sym, ap, ◌∙◌, rules}
use Rattle.names.specs.declared.permissions.Permission.{Permission}
use Rattle.names.specs.declared.permissions.Permission.TheVariants.{Read}
use Rattle.names.specs.Permissions.{all_permissions, has}
use Rattle.rule_explain.specs.Reasons.{reason}
use Rattle.rule_profile.specs.Profile.{profile_value}
use Rattle.rule_profile.specs.RuleSpans.{profile_spans}
use Rattle.serde_json.specs.Data.{Data, array}
use Rattle.serde_json.specs.View.{items_of, view}
use Rattle.serde_json.specs.Written.{has_float}
use Rattle.serde_json.specs.declared.value.Value.{Value, Array, the_lemmas}
use Rattle.answer_json.specs.Values.{reason_object}
use Rattle.answer_json.specs.laws.NoFloats.{no_float_in_reasons}
use Rattle.answer_json.proofs.PassedMembers.{passed, failed}
use Rattle.answer_json.proofs.reasons.reasons_array.Goals as goal
use Rattle.answer_json.proofs.reasons.reasons_array.Goals.{then-contains+in_ok-reason+in-Ok, else-contains}

pub loop-permission-preserved : goal.loop-permission-preserved
loop-permission-preserved c =
    let f : Permission → Data = reason_object c.args.text.now (profile_value c.args.profile.now).rules
    (profile_spans c.args.profile.now) c.args.name.now in
    let i : ℕ = c.loop-permission.permission-index in
    elim c.if-contains.branch [
      | then-contains+in_ok-reason+in-Ok w ↦
          passed f (has c.args.ask) all_permissions i Read c.loop-permission-test.true c.loop-permission.reasons.items
          c.if-contains.reasons.items w.in_ok-reason.reason (sym c.contains.ensures ∙ w.if-contains.true)
          c.loop-permission.invariant
          (ap (λ (v : Vec Value Global). v.items) w.reasons-is ∙ w.in-Ok.ensures.items) w.in_ok-reason.ensures.value
      | else-contains w ↦
          failed f (has c.args.ask) all_permissions i Read c.loop-permission-test.true c.loop-permission.reasons.items
          c.if-contains.reasons.items (sym c.contains.ensures ∙ w.if-contains.false) c.loop-permission.invariant
          (ap (λ (v : Vec Value Global). v.items) w.reasons-is)
    ]

pub returns-clause-value : goal.returns-clause-value
returns-clause-value c =
    let f : Permission → Data = reason_object c.args.text.now (profile_value c.args.profile.now).rules
    (profile_spans c.args.profile.now) c.args.name.now in
    let all : take c.loop-permission.permission-index all_permissions ≡ all_permissions = search rules in
    let seen : view (Array c.loop-permission.reasons) ≡ array (items_of (map view c.loop-permission.reasons.items)) =
    search (rules, the_lemmas) in
    seen ∙ ap (λ (ds : List Data). array (items_of ds)) (c.loop-permission.invariant
    ∙ ap (λ (ps : List Permission). map f (filter (has c.args.ask) ps)) all)

pub returns-clause-integers : goal.returns-clause-integers
returns-clause-integers c = ap has_float (returns-clause-value c)
    ∙ no_float_in_reasons c.args.text.now (profile_value c.args.profile.now).rules (profile_spans c.args.profile.now)
    (reason (profile_value c.args.profile.now).rules c.args.name.now) (filter (has c.args.ask) all_permissions)
