use Rattle.std.proofs.Common.{length, take, drop, sym, ap, ◌∙◌, arith, rules, take_all}
use Rattle.std.proofs.lemmas.List.Sums.{position_or_len_is}
use Rattle.std.proofs.lemmas.List.{drop_all}
use Rattle.names.proofs.split.split_at.Goals as goal

pub returns-in-Some : goal.returns-in-Some
returns-in-Some g c =
    let bytes = c.args.bytes.now in
    let found = position_or_len_is g.S.Separator.separates bytes c.in-Some.i 0 (search rules) (search rules) (search rules) in
    record {
      before = c.split_at.ensures.front ∙ ap (λ n. take n bytes) (sym found);
      from = c.split_at.ensures.back ∙ ap (λ n. drop n bytes) (sym found);
    }

pub returns-in-None : goal.returns-in-None
returns-in-None g c =
    let bytes = c.args.bytes.now in
    let none = position_or_len_is g.S.Separator.separates bytes (length bytes) 0 (omega arith) (search rules) (search rules) in
    record {
      before = sym (ap (λ n. take n bytes) none ∙ take_all (length bytes) bytes (omega arith));
      from = sym (ap (λ n. drop n bytes) none ∙ drop_all (length bytes) bytes (omega arith));
    }
