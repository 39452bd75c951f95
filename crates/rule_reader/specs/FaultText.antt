-- A fault as it is printed.
use Rattle.std.specs.Prelude.{ℕ, List, ◌++◌, codes, decimal}
use Rattle.rule_reader.specs.declared.fault.ReadFault.{ReadFault}
use Rattle.rule_reader.specs.declared.fault.ReadFault.TheVariants.{Syntax, LeftOut, Permission, EmptyPermissions, NotAbsolute, Class}
use Rattle.rule_reader.specs.declared.fault.ReadFault.TheVariants.{Group, Depth, TooManyRules, TooManyItems, NoMemory, Conflict}

abbrev pub fault_text : ReadFault → List ℕ
fault_text (Syntax offset) = codes "syntax error at byte " ++ decimal offset
fault_text (LeftOut offset len) = codes "not supported: what is at byte " ++ decimal offset
fault_text (Permission offset) = codes "no permissions at byte " ++ decimal offset
fault_text (EmptyPermissions offset) = codes "permissions are missing at byte " ++ decimal offset
fault_text (NotAbsolute offset) = codes "the path at byte " ++ (decimal offset ++ codes " isn't absolute")
fault_text (Class offset) = codes "bad class at byte " ++ decimal offset
fault_text (Group offset) = codes "unbalanced brace at byte " ++ decimal offset
fault_text (Depth offset) = codes "groups nested too deep at byte " ++ decimal offset
fault_text (TooManyRules offset) = codes "too many rules at byte " ++ decimal offset
fault_text (TooManyItems offset) = codes "too many items at byte " ++ decimal offset
fault_text NoMemory = codes "memory allocation failed"
fault_text (Conflict offset) = codes "append and write conflict at byte " ++ decimal offset
