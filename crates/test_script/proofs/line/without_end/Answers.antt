use Rattle.std.proofs.Common.{◌≡◌, ◌+◌, ◌<◌, ◌-◌, length, take, sym, ap, ◌∙◌, arith, rules}
use Rattle.std.specs.List.{suffix_len}
use Rattle.std.proofs.lemmas.List.Sums.{suffix_len_is}
use Rattle.trace_script.specs.Script.{is_blank}
use Rattle.test_script.proofs.line.without_end.Goals as goal

pub returns-in-Some : goal.returns-in-Some
returns-in-Some c =
    let bytes = c.args.bytes.now in
    let within : c.in-Some.i < length bytes = search rules in
    let found = suffix_len_is is_blank bytes (c.in-Some.i + 1) 0 (search rules) (search rules) (search rules) in
    let same : c.in-Some.i + 1 ≡ length bytes - suffix_len is_blank bytes = omega (arith, within, found) in
    ap (λ n. take n bytes) same

pub returns-in-None : goal.returns-in-None
returns-in-None c =
    let bytes = c.args.bytes.now in
    let none = suffix_len_is is_blank bytes 0 0 (omega arith) (search rules) (search rules) in
    let same : 0 ≡ length bytes - suffix_len is_blank bytes = omega arith in
    ap (λ n. take n bytes) same
