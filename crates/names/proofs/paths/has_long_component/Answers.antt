use Rattle.std.proofs.Common.{sym, ◌∙◌, length}
use Rattle.std.proofs.lemmas.Bool.{le-ltb}
use Rattle.names.specs.laws.PathLaws.{short_text}
use Rattle.names.proofs.paths.has_long_component.Goals as goal

pub returns-else-text-gt-LONGEST_COMPONENT : goal.returns-else-text-gt-LONGEST_COMPONENT
returns-else-text-gt-LONGEST_COMPONENT c =
    let text = c.args.text.now in
    let short = c.if-text-gt-LONGEST_COMPONENT.false in
    le-ltb 255 (length text) short ∙ sym (short_text text short)
