use Rattle.std.proofs.Common.{List, length, Option, refl, sym, ap, ◌∙◌, subst}
use Rattle.apparmor_text.specs.Parts.{ItemValue}
use Rattle.apparmor_words.specs.Steps.{Stop}
use Rattle.import_scope.specs.FirstFaults.{FirstFault}
use Rattle.import_scope.specs.Scopes.{Fault, at_start}
use Rattle.import_profile.specs.Imports.{items_seen, read_outcome}
use Rattle.import_laws.proofs.outcomes.texts_have_one_import.Goals as goal

pub returns-clause-some : goal.returns-clause-some
returns-clause-some c options text =
    let items = c.texts_have_one_outcome.ensures.some text in
    let fault = c.texts_have_one_first_fault.ensures.some (at_start options.defines.now) (items_seen options items.0) in (
      read_outcome options (length text) items.0 fault.0 items.1,
      record { items = items.0; end = items.1; fault = fault.0; read = items.2; first = fault.1; is = refl },
    )

pub returns-clause-one : goal.returns-clause-one
returns-clause-one c options text one other a b =
    let s = at_start options.defines.now in
    let same = c.texts_have_one_outcome.ensures.one text a.items b.items a.end b.end a.read b.read in
    let fault = c.texts_have_one_first_fault.ensures.one s (items_seen options a.items) a.fault b.fault a.first
    (subst (λ (items : List ItemValue). FirstFault s (items_seen options items) b.fault) (sym same.0) b.first) in
    a.is
    ∙ ap (λ (items : List ItemValue). read_outcome options (length text) items a.fault a.end) same.0
    ∙ ap (λ (x : Option Fault). read_outcome options (length text) b.items x a.end) fault
    ∙ ap (λ (x : Option Stop). read_outcome options (length text) b.items b.fault x) same.1
    ∙ sym b.is
