-- The numbers by which faults of reading are reported.
use Rattle.std.specs.Prelude.{ℕ, Option, Some, None}
use Rattle.rule_reader.specs.declared.fault.ReadFault.{ReadFault}
use Rattle.rule_reader.specs.declared.fault.ReadFault.TheVariants.{Syntax, LeftOut, Permission, EmptyPermissions, NotAbsolute, Class}
use Rattle.rule_reader.specs.declared.fault.ReadFault.TheVariants.{Group, Depth, TooManyRules, TooManyItems, NoMemory, Conflict}

abbrev pub fault_number : ReadFault → ℕ
fault_number (Syntax offset) = 1
fault_number (LeftOut offset len) = 2
fault_number (Permission offset) = 3
fault_number (EmptyPermissions offset) = 4
fault_number (NotAbsolute offset) = 5
fault_number (Class offset) = 6
fault_number (Group offset) = 7
fault_number (Depth offset) = 8
fault_number (TooManyRules offset) = 9
fault_number (TooManyItems offset) = 10
fault_number NoMemory = 11
fault_number (Conflict offset) = 12

-- how many bytes are before the fault
abbrev pub fault_offset : ReadFault → Option ℕ
fault_offset (Syntax offset) = Some offset
fault_offset (LeftOut offset len) = Some offset
fault_offset (Permission offset) = Some offset
fault_offset (EmptyPermissions offset) = Some offset
fault_offset (NotAbsolute offset) = Some offset
fault_offset (Class offset) = Some offset
fault_offset (Group offset) = Some offset
fault_offset (Depth offset) = Some offset
fault_offset (TooManyRules offset) = Some offset
fault_offset (TooManyItems offset) = Some offset
fault_offset NoMemory = None
fault_offset (Conflict offset) = Some offset
