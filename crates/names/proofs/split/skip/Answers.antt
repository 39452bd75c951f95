use Rattle.std.proofs.Common.{length, drop, sym, ap, ◌∙◌, arith, rules}
use Rattle.std.proofs.lemmas.List.Sums.{prefix_len_is}
use Rattle.std.proofs.lemmas.List.{take_rest, drop_all}
use Rattle.names.proofs.split.skip.Goals as goal

pub returns-in-Some : goal.returns-in-Some
returns-in-Some g c =
    let bytes = c.args.bytes.now in
    let found = prefix_len_is g.S.Separator.separates bytes c.in-Some.i 0 (search rules) (search rules) (search rules) in
    take_rest bytes _ ∙ ap (λ n. drop n bytes) (sym found)

pub returns-in-None : goal.returns-in-None
returns-in-None g c =
    let bytes = c.args.bytes.now in
    let none = prefix_len_is g.S.Separator.separates bytes (length bytes) 0 (omega arith) (search rules) (search rules) in
    sym (ap (λ n. drop n bytes) none ∙ drop_all (length bytes) bytes (omega arith))
