use Rattle.std.proofs.Common.{◌+◌, ◌==◌, ℕ, Bool, length, take, sym, ap, ◌∙◌, arith, rules, take_all}
use Rattle.std.proofs.lemmas.List.Sums.{position_or_len_is}
use Rattle.fault_notes.proofs.variable.variable_word.Goals as goal

abbrev closes : ℕ → Bool
closes b = b == 125

pub returns-in-Some : goal.returns-in-Some
returns-in-Some c =
    let bytes = c.args.from.now in
    let found = position_or_len_is closes bytes c.in-Some.end 0 (search rules) (search rules) (search rules) in
    ap (λ n. take (n + 1) bytes) (sym found)

pub returns-in-None : goal.returns-in-None
returns-in-None c =
    let bytes = c.args.from.now in
    let none = position_or_len_is closes bytes (length bytes) 0 (omega arith) (search rules) (search rules) in
    sym (ap (λ n. take (n + 1) bytes) none ∙ take_all (length bytes + 1) bytes (omega arith))
