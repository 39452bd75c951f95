use Rattle.std.proofs.Common.{List, ℕ, map, subst}
use Rattle.std.proofs.lemmas.Result.{IfOk-weaker}
use Rattle.trace_audit.specs.Lookups.{IsFound}
use Rattle.trace_audit.specs.inner.FoundValues.{found_value, text_value}
use Rattle.trace_audit.proofs.KnownKeys.{known_more}
use Rattle.trace_audit.proofs.rows.put_group.Goals as goal

pub returns-in_ok-put_found-in-None-clause-known : goal.returns-in_ok-put_found-in-None-clause-known
returns-in_ok-put_found-in-None-clause-known c =
    let texts = map text_value c.args.texts.now in
    let key = c.in_ok-key.key in
    let found = c.in_ok-found-in-None.found in
    let is = subst (λ (name : List ℕ). IsFound texts name key.by_owner (found_value found)) c.deref.ensures.value
    c.in_ok-found-in-None.ensures in
    IfOk-weaker c.keep.result _ _ (λ _ h. known_more texts c.args.known.now c.keep.new.known key found c.requires is h.0) c.keep.ensures
