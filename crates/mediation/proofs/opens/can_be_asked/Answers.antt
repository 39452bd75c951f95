use Rattle.std.proofs.Common.{ap, sym, ◌∙◌, not, ◌&&◌, refl}
use Rattle.names.specs.declared.permissions.Permission.TheVariants.{Link}
use Rattle.names.specs.Permissions.{has}
use Rattle.mediation.proofs.Asked.{none_of}
use Rattle.mediation.proofs.opens.can_be_asked.Goals as goal

pub returns-else-not-is_empty : goal.returns-else-not-is_empty
returns-else-not-is_empty c =
    ap not c.if-not-is_empty.false
    ∙ sym (ap (λ b. b && not (has c.args.ask Link)) (none_of c.args.ask (c.if-not-is_empty.ensures.0 refl)))
