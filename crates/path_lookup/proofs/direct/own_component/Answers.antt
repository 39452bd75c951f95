use Rattle.std.proofs.Common.{◌≡◌, ◌<◌, ◌-◌, false, drop, take, length, sym, ap, ◌∙◌, arith, rules}
use Rattle.std.specs.Prelude.{bytes_eq, slice_index}
use Rattle.std.specs.List.{position_or_len, before_first}
use Rattle.std.proofs.lemmas.List.{take_all, length-drop}
use Rattle.names.specs.Paths.{is_slash}
use Rattle.directory_tree.specs.Components.{slash, dot, dot_dot}
use Rattle.path_lookup.proofs.OwnNames.{own}
use Rattle.path_lookup.proofs.direct.own_component.Goals as goal

pub returns : goal.returns
returns c =
    let left = c.args.left.now in
    let component = c.split_at.result.0.now in
    let begins : slice_index left 0 ≡ slash = search rules in
    let some : 0 < length left = search rules in
    let filled : 0 < length component = search rules in
    let no_dot : bytes_eq component dot ≡ false = ap (bytes_eq component) (sym c.as_slice.ensures) ∙ sym c.eq.ensures
    ∙ c.if-eq.false in
    let no_dot_dot : bytes_eq component dot_dot ≡ false = ap (bytes_eq component) (sym c.as_slice-else-eq.ensures)
    ∙ sym c.eq-else-eq.ensures ∙ c.if-eq-2.false in
    let long = length-drop 1 left in
    let all : take (length left - 1) (drop 1 left) ≡ drop 1 left = take_all (length left - 1) (drop 1 left) (omega arith) in
    own left begins some component c.split_at.result.1.now
    (c.split_at.ensures.before ∙ ap (before_first is_slash) all)
    (c.split_at.ensures.from ∙ ap (λ z. drop (position_or_len is_slash z) z) all) filled no_dot no_dot_dot
