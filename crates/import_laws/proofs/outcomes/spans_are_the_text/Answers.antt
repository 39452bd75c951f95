use Rattle.std.proofs.Common.{ℕ, List, length, sym, subst}
use Rattle.rule_globs.specs.Each.{Each}
use Rattle.import_spans.specs.Spans.{Covers, IsRight}
use Rattle.import_profile.specs.FileRules.{item_reading}
use Rattle.import_profile.specs.Imports.{ImportValue, choice_of}
use Rattle.import_profile.specs.Restated.{cut_for}
use Rattle.import_laws.proofs.Opened.{known, opened}
use Rattle.import_laws.proofs.outcomes.spans_are_the_text.Goals as goal

pub returns-clause-whole : goal.returns-clause-whole
returns-clause-whole c options text value i =
    let o = opened options text value i in
    let choice = choice_of options o.head o.number in
    let reading = item_reading (known options o.items o.head) options.subject in
    subst (λ (v : ImportValue). Covers v.spans 0 (length text)) (sym o.is)
    (subst (λ (bytes : List ℕ). Covers (cut_for (known options o.items o.head) choice o.items).spans 0 (length bytes))
    (c.items_are_the_text.ensures.whole text o.items o.read) (c.spans_cover_the_text.ensures reading choice o.items))

pub returns-clause-blank : goal.returns-clause-blank
returns-clause-blank c options text value i =
    let o = opened options text value i in
    let choice = choice_of options o.head o.number in
    let reading = item_reading (known options o.items o.head) options.subject in
    let items = c.items_are_the_text.ensures.items text o.items _ o.read in
    subst (λ (v : ImportValue). Each (IsRight text) v.spans) (sym o.is)
    (subst (λ (bytes : List ℕ). Each (IsRight bytes) (cut_for (known options o.items o.head) choice o.items).spans)
    (c.items_are_the_text.ensures.whole text o.items o.read) (c.blank_spans_are_blank.ensures reading choice o.items items))
