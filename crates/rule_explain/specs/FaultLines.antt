-- How a refused text's fault is shown: the fault in words, its place, and the part of its line about the place.
use Rattle.std.specs.Prelude.{ℕ, List, unwrap_or}
use Rattle.rule_reader.specs.declared.fault.ReadFault.{ReadFault}
use Rattle.rule_reader.specs.FaultNumber.{fault_offset}
use Rattle.rule_explain.specs.FaultWords.{fault_said}
use Rattle.rule_explain.specs.Windows.{place_lines}

-- Of a text before which there are this many lines. Running out of memory, which is no fault of the text, is shown at its start.
abbrev pub fault_lines_from : ℕ → List ℕ → ReadFault → List ℕ
fault_lines_from lines_before text fault = place_lines lines_before text (unwrap_or (fault_offset fault) 0) (fault_said text fault)

abbrev pub fault_lines : List ℕ → ReadFault → List ℕ
fault_lines text fault = fault_lines_from 0 text fault
