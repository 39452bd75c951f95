use Rattle.std.proofs.Common.{arith, inr, refl}
use Rattle.tables.specs.Tables.{table_value}
use Rattle.trace_commands.proofs.compile_command.flat_image.Goals as goal

pub returns-in-Ok : goal.returns-in-Ok
returns-in-Ok c =
    let made = c.in_ok-table.ensures in
    let written = c.in-Ok.ensures in
    inr (
      made.few,
      record {
        table = table_value c.in_ok-table.table;
        of_rules = made.rules;
        bounds = made.bounds;
        depth_asked = omega (arith, made.flat);
        version = written.0;
        version_asked = written.1;
        bytes = c.in-Ok.image.items;
        image = written.2;
        is = refl;
      },
    )
