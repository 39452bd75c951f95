use Rattle.trace_commands.proofs.judge_command.answer.Goals as goal

pub returns-in-Ok : goal.returns-in-Ok
returns-in-Ok g c = rw c.in-Ok.ensures at (rw c.deref.ensures.value at c.write_answer.ensures)
