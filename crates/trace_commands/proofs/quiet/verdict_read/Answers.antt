use Rattle.std.proofs.Common.{◌≡◌, Err, rules}
use Rattle.trace_report.specs.laws.Endings.{text_of}
use Rattle.trace_commands.specs.Quiet.{IsQuietMatchOutput}
use Rattle.trace_commands.proofs.ImageRead.{image_unread, reads_nothing}
use Rattle.trace_commands.proofs.QuietOutputs.{arguments, in_vain, refused, said}
use Rattle.trace_commands.proofs.quiet.verdict_read.Goals as goal

pub returns-in_err-ask-clause-output : goal.returns-in_err-ask-clause-output
returns-in_err-ask-clause-output g c =
    let text = text_of (g.R.Read.remaining c.args.input.now) in
    let told : c.from_residual.result ≡ Err c.in_err-ask.field-0.0 = search rules in
    let why = in_vain c.args.perms.now c.args.name.now text.0 c.in_err-ask.field-0.0 c.in_err-ask.ensures.0 c.in_err-ask.ensures.1 in
    (text.0, text.1, rw told why)

pub returns-in_err-ask-clause-front : goal.returns-in_err-ask-clause-front
returns-in_err-ask-clause-front g c = reads_nothing (g.R.Read.remaining c.args.input.now)

pub returns-in_err-image-clause-output : goal.returns-in_err-image-clause-output
returns-in_err-image-clause-output g c =
    let perms = c.args.perms.now in
    let name = c.args.name.now in
    let ask = c.in_ok-ask.ask in
    let told : c.from_residual-in_err-image.result ≡ Err c.in_err-image.field-0.0 = search rules in
    let why = image_unread (g.R.Read.remaining c.args.input.now) (IsQuietMatchOutput perms name) c.in_err-image.field-0.0
    (λ text. arguments perms name text ask c.in_ok-ask.ensures)
    (λ text output h. refused perms name text ask output c.in_ok-ask.ensures h)
    c.in_err-image.ensures.image in
    (why.0, why.1, rw told why.2)

pub returns-clause-output : goal.returns-clause-output
returns-clause-output g c = (
  c.in_ok-image.image.items,
  c.in_ok-image.ensures.image,
  said c.args.perms.now c.args.name.now c.in_ok-image.image.items c.as_bytes.result.now c.deref.result.now
      c.in_ok-ask.ask c.verdict_of_image.result c.as_bytes.ensures.value c.deref.ensures.value c.in_ok-ask.ensures
      c.verdict_of_image.ensures.output,
)
