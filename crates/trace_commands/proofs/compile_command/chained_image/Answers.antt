use Rattle.std.proofs.Common.{inr, refl}
use Rattle.tables.specs.Tables.{table_value}
use Rattle.tables.specs.declared.header.Version.TheVariants.{Second}
use Rattle.trace_commands.specs.laws.OneOutput.{second_asked}
use Rattle.trace_commands.proofs.compile_command.chained_image.Goals as goal

pub returns-in-Ok : goal.returns-in-Ok
returns-in-Ok c =
    let made = c.in_ok-table.ensures in
    let table = table_value c.in_ok-table.table in
    let bytes = c.in-Ok.image.items in
    inr (
      made.few,
      record {
        table = table;
        of_rules = made.rules;
        bounds = made.bounds;
        depth_asked = made.depth;
        version = Second;
        version_asked = second_asked c.args.depth table c.requires;
        bytes = bytes;
        image = c.in-Ok.ensures;
        is = refl;
      },
    )
