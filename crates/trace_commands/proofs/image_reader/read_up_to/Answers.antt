use Rattle.std.proofs.Common.{◌≡◌, ◌+◌, ℕ, List, ◌++◌, length, take, drop, arith, ap, ◌∙◌, append_assoc, length-append, length-take}
use Rattle.std.proofs.lemmas.List.{take-append-le}
use Rattle.std.proofs.lemmas.Result.{err_from_is_err_and}
use Rattle.trace_commands.proofs.Consumption.{consumes_kept, consumes_more}
use Rattle.trace_commands.proofs.image_reader.read_up_to.Goals as goal
use Rattle.trace_commands.proofs.image_reader.read_up_to.Goals.{in-Ok+in_ok-extend_from_slice-in-Ok, in-Err+else-ne}

pub returns-in_err-extend_from_slice-in-Ok-clause-read : goal.returns-in_err-extend_from_slice-in-Ok-clause-read
returns-in_err-extend_from_slice-in-Ok-clause-read g c =
    let (read, taken, is, low) = c.loop.invariant in
    let part : List ℕ = take c.in-Ok.count c.read.new.buf in
    let p = err_from_is_err_and c.from_residual.result c.from_residual.ensures.1 in
    let within = c.in-Ok.ensures.bound.0 in
    let far : length c.loop.bytes.items ≡ length c.args.bytes.now.items + length read =
    ap length is ∙ length-append c.args.bytes.now.items read in
    let more = length-append read part in
    let some = length-take c.in-Ok.count c.read.new.buf in
    let room = length-take c.min-room.result c.loop.piece in
    (read ++ part, consumes_more _ _ _ read part taken c.in-Ok.ensures.bytes.0, omega (arith, c.read.auto.buf), rw p.1 tt)

pub returns-then-ne-clause-read : goal.returns-then-ne-clause-read
returns-then-ne-clause-read g c =
    let (read, taken, is, low) = c.loop.invariant in
    let far : length c.loop.bytes.items ≡ length c.args.bytes.now.items + length read =
    ap length is ∙ length-append c.args.bytes.now.items read in
    (read, consumes_kept _ _ _ read taken c.in-Err.ensures.bytes, omega (arith, far, low), tt)

pub loop-preserved : goal.loop-preserved
loop-preserved g c =
    let (read, taken, is, low) = c.loop.invariant in
    elim c.match-read.branch [
      | in-Ok+in_ok-extend_from_slice-in-Ok w ↦
          let part : List ℕ = take w.in-Ok.count c.read.new.buf in
          let within = w.in-Ok.ensures.bound.0 in
          let some = length-take w.in-Ok.count c.read.new.buf in
          let room = length-take c.min-room.result c.loop.piece in
          let given = w.in_ok-extend_from_slice-in-Ok.ensures.items in
          let here : c.match-read.bytes.items ≡ c.loop.bytes.items ++ part = ap (λ v. v.items) w.bytes-is ∙ given
          ∙ ap (λ l. c.loop.bytes.items ++ l) (take-append-le w.in-Ok.count c.read.new.buf (drop c.min-room.result c.loop.piece) within) in
          let far = ap length here ∙ length-append c.loop.bytes.items part in (
            read ++ part,
            consumes_more _ _ _ read part taken w.in-Ok.ensures.bytes.0,
            here ∙ ap (λ l. l ++ part) is ∙ append_assoc c.args.bytes.now.items read part,
            omega (arith, c.read.auto.buf),
          )
      | in-Err+else-ne w ↦
          let same : c.match-read.bytes.items ≡ c.loop.bytes.items = ap (λ v. v.items) w.bytes-is in
          (read, consumes_kept _ _ _ read taken w.in-Err.ensures.bytes, same ∙ is, rw same low)
    ]
