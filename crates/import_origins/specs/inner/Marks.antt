-- Marks as the code keeps them.
use Rattle.import_origins.specs.declared.included.Mark as code
use Rattle.import_origins.specs.Included.{Mark}

abbrev pub mark_value : code.Mark → Mark
mark_value m = record { file = m.file.now; end = m.end }
