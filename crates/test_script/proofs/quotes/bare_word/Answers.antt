use Rattle.std.proofs.Common.{drop, sym, ap, ◌∙◌, List, ℕ}
use Rattle.std.specs.List.{position_or_len}
use Rattle.trace_script.specs.Script.{is_blank}
use Rattle.test_script.specs.TestScript.{quoted_words, with_word}
use Rattle.test_script.specs.laws.WordReads.{first_bare}
use Rattle.test_script.proofs.quotes.bare_word.Goals as goal

pub returns-clause-word : goal.returns-clause-word
returns-clause-word c =
    let line = c.args.line.now in
    first_bare line c.requires.some c.requires.at_word c.requires.bare
    ∙ ap (λ w. with_word w (quoted_words (drop (position_or_len is_blank line) line)))
    (sym c.split_at.ensures.before ∙ sym c.in_ok-word.ensures.items)
    ∙ ap (λ r. with_word c.in_ok-word.word.items (quoted_words r)) (sym c.split_at.ensures.from)
