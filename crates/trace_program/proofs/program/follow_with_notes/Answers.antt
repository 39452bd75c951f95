use Rattle.std.proofs.Common.{Some}
use Rattle.trace_program.proofs.program.follow_with_notes.Goals as goal

pub returns : goal.returns
returns g c limit =
    let ran = c.follow-first.ensures.output limit in
    record {
      told = g.F.Write.contents c.follow-first.new.faults;
      left = Some c.follow-first.new.input.now;
      first = c.follow-first.result;
      ended = rw ran.1 at ran.2;
      noted = c.write_notes.ensures;
    }
