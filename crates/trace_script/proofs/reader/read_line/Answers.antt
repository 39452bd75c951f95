use Rattle.std.proofs.Common.{◌≡◌, ◌<◌, [], ◌∷◌, false, length, nat_eq, rules}
use Rattle.std.specs.List.{ends_with}
use Rattle.trace_script.proofs.LineReads.{last_read, part_read, stopped_reading}
use Rattle.trace_script.specs.Script.{line_feed}
use Rattle.trace_script.proofs.reader.read_line.Goals as goal

pub returns : goal.returns
returns g c =
    let read = c.in_ok-read_until.ensures in
    let some : 0 < length c.read_until.new.buf.items = search rules in
    let ends : ends_with nat_eq c.read_until.new.buf.items (line_feed ∷ []) ≡ false = search rules in
    last_read (g.R.Read.remaining c.args.input.now) _ _ _ c.clear.ensures.items some ends read.stops read.bytes read.none_lost

pub returns-in_err-read_until : goal.returns-in_err-read_until
returns-in_err-read_until g c =
    let read = c.in_err-read_until.ensures in
    let part = part_read (g.R.Read.remaining c.args.input.now) (g.R.Read.remaining c.read_until.new.self) _ c.read_until.new.buf.items
    c.clear.ensures.items read.stops read.none_lost in
    stopped_reading _ _ _ c.in_err-read_until.field-0.0 c.from_residual.result c.from_residual.ensures.1 part
