use Rattle.std.proofs.Common.{◌++◌, List, ℕ, Some, None, refl, sym, ap, ◌∙◌}
use Rattle.std.proofs.lemmas.List.{append-nil}
use Rattle.apparmor_text.specs.Parts.{bytes_of_items}
use Rattle.apparmor_text.specs.Texts.{at_start}
use Rattle.apparmor_text.proofs.WholeTexts.{front_from, items_from}
use Rattle.apparmor_text.proofs.laws.items_are_the_text.Goals as goal

pub returns-clause-whole : goal.returns-clause-whole
returns-clause-whole c text items r =
    let h = front_from at_start text items None r in
    sym (append-nil (bytes_of_items items)) ∙ ap (λ (x : List ℕ). bytes_of_items items ++ x) (sym (h.2 refl)) ∙ h.1

pub returns-clause-front : goal.returns-clause-front
returns-clause-front c text items stop r = let h = front_from at_start text items (Some stop) r in (h.0, h.1)

pub returns-clause-items : goal.returns-clause-items
returns-clause-items c text items end r = items_from at_start text items end r
