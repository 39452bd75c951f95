use Rattle.std.proofs.Common.{◌+◌, ◌<◌, ◌∷◌, length, take, drop, sym, ap, ◌∙◌, arith, rules}
use Rattle.std.proofs.lemmas.List.{take_rest}
use Rattle.std.proofs.lemmas.List.Sums.{position_or_len_is}
use Rattle.trace_names.specs.Choices.{end_byte}
use Rattle.trace_names.specs.NameLists.{names_of}
use Rattle.trace_names.proofs.Lists.{first_ends, is_end, whole_is_one}
use Rattle.trace_names.proofs.list.first_name.Goals as goal

pub returns-in-Some-clause-some : goal.returns-in-Some-clause-some
returns-in-Some-clause-some c =
    let end = end_byte c.args.end in
    let list = c.args.list.now in
    let within : c.in-Some.at < length list = search rules in
    let found = position_or_len_is (is_end end) list c.in-Some.at 0 (search rules) (search rules) (search rules) in
    first_ends end list (omega (arith, found, within))
    ∙ ap (λ n. take n list ∷ names_of end (drop (n + 1) list)) found
    ∙ ap (λ r. take c.in-Some.at list ∷ names_of end r) (sym (take_rest list (c.in-Some.at + 1)))

pub returns-in-None-clause-some : goal.returns-in-None-clause-some
returns-in-None-clause-some c =
    let end = end_byte c.args.end in
    let list = c.args.list.now in
    let some : 0 < length list = search rules in
    let none = position_or_len_is (is_end end) list (length list) 0 (omega arith) (search rules) (search rules) in
    whole_is_one end list some (omega (arith, none))
