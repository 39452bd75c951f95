use Rattle.std.proofs.Common.{◌∙◌, ap, arith, sym}
use Rattle.std.proofs.lemmas.Result.{on_ok_weaker}
use Rattle.audit_log.specs.Denials.{denial_value}
use Rattle.trace_audit.specs.Groups.{noted}
use Rattle.trace_audit.specs.inner.GroupValues.{place_of}
use Rattle.trace_audit.proofs.Noting.{noted_again, place_within, places_stay}
use Rattle.trace_audit.proofs.groups.Groups.note_at.Goals as goal

pub index_mut-requires : goal.index_mut-requires
index_mut-requires c =
    let groups = c.self.inside.groups in
    let below = place_within groups.items (denial_value c.args.denial.now) c.args.place
    (ap (λ gs. place_of gs (denial_value c.args.denial.now)) c.self.view_is ∙ c.requires) in
    let count = groups.ok.0 in
    omega (arith, below, count)

pub invariant_of-self : goal.invariant_of-self
invariant_of-self c = λ q. c.self.invariant q ∙ sym (places_stay c.self.inside.groups.items c.args.place c.index_mut.result.now
    c.note_again.new.self c.index_mut.ensures.value c.note_again.ensures.denial (denial_value q))

pub returns : goal.returns
returns c =
    on_ok_weaker c.note_again.result (λ more. noted_again c.args.line (denial_value c.args.denial.now) c.index_mut.result.now
    c.note_again.new.self more c.self.inside.groups.items c.args.place
    (ap (λ gs. place_of gs (denial_value c.args.denial.now)) c.self.view_is ∙ c.requires) c.index_mut.ensures.value
    ∙ ap (λ gs. noted c.args.line (denial_value c.args.denial.now) gs) c.self.view_is) c.note_again.ensures.line
