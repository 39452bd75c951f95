use Rattle.import_spans.proofs.WholeCuts.{whole_cut}
use Rattle.import_spans.proofs.laws.blank_spans_are_blank.Goals as goal

pub returns : goal.returns
returns c reading choice items whole =
    let cut = whole_cut (Unit {0}) (λ _. Unit {0}) (λ _ _ _. tt) choice reading items (λ _. whole) tt in
    cut.0.right tt
