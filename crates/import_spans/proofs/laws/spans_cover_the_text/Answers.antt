use Rattle.std.proofs.Common.{ℕ, ◌∙◌, subst}
use Rattle.import_spans.specs.Cuts.{cut_of}
use Rattle.import_spans.specs.Spans.{Covers}
use Rattle.import_spans.proofs.WholeCuts.{whole_cut}
use Rattle.import_spans.proofs.laws.spans_cover_the_text.Goals as goal

pub returns : goal.returns
returns c reading choice items =
    let cut = whole_cut ⊥ (λ _. Unit {0}) (λ _ _ _. tt) choice reading items (λ none. absurd none) tt in
    subst (λ (n : ℕ). Covers (cut_of reading choice items).spans 0 n) (cut.1 ∙ cut.0.at) cut.0.covers
