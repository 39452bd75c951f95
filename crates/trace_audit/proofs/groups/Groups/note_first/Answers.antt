use Rattle.std.proofs.Common.{◌≡◌, ◌∙◌, ◌++◌, ◌∷◌, [], ap, length, map, sym}
use Rattle.std.specs.BTreeMap.{get}
use Rattle.audit_log.specs.Denials.{denial_value}
use Rattle.audit_log.specs.contracts.denial.DenialOrd.TheImpl as denial_order
use Rattle.trace_audit.specs.Groups.{noted}
use Rattle.trace_audit.specs.declared.groups.Group.{Group}
use Rattle.trace_audit.specs.inner.GroupValues.{group_value, place_of}
use Rattle.trace_audit.proofs.Noting.{noted_first, places_more}
use Rattle.trace_audit.proofs.groups.Groups.note_first.Goals as goal

pub invariant_of-self-2 : goal.invariant_of-self-2
invariant_of-self-2 c = λ q.
    let old = c.self.inside.groups in
    let g : Group = record { denial = c.args.denial; line = c.args.line; again = c.new-again.result } in
    let place : c.len-place.result ≡ length old.items = c.len-place.ensures ∙ old.ok.0 in
    let all : c.push_reserved.new.self.items ≡ old.items ++ g ∷ [] =
    c.push_reserved.ensures.items ∙ ap (λ items. items ++ g ∷ []) c.reserve.ensures.items in
    places_more (λ d. get denial_order.cmp-value.it c.self.inside.places d) (λ d. get denial_order.cmp-value.it c.insert.new.self d)
    old.items g c.in_ok-key.key c.len-place.result c.self.invariant
    (ap (λ gs. place_of gs (denial_value c.args.denial)) c.self.view_is ∙ c.requires)
    c.in_ok-key.ensures place c.in_ok-insert.ensures.updates.0 q
    ∙ ap (λ items. place_of (map group_value items) (denial_value q)) (sym all)

pub returns : goal.returns
returns c =
    let old = c.self.inside.groups in
    let g : Group = record { denial = c.args.denial; line = c.args.line; again = c.new-again.result } in
    ap (map group_value) (c.push_reserved.ensures.items ∙ ap (λ items. items ++ g ∷ []) c.reserve.ensures.items)
    ∙ noted_first g c.new-again.ensures.items old.items (ap (λ gs. place_of gs (denial_value c.args.denial)) c.self.view_is ∙ c.requires)
    ∙ ap (λ gs. noted c.args.line (denial_value c.args.denial) gs) c.self.view_is
