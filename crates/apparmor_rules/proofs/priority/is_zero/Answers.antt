use Rattle.std.proofs.Common.{◌==◌, List, ℕ, ap, ◌∙◌}
use Rattle.std.specs.Char.{is_ascii_digit}
use Rattle.std.specs.List.{list_all}
use Rattle.rule_reader.specs.ReadWords.{leading}
use Rattle.apparmor_words.specs.Priorities.{past_sign}
use Rattle.apparmor_rules.proofs.Decimals.{zero_digits}
use Rattle.apparmor_rules.proofs.priority.is_zero.Goals as goal

pub returns : goal.returns
returns c =
    c.are_zeros.ensures
    ∙ ap (λ (l : List ℕ). list_all (λ digit. digit == 48) (leading is_ascii_digit l))
    (c.after_sign.ensures ∙ ap past_sign c.priority_number.ensures)
    ∙ zero_digits c.args.bytes.now
