use Rattle.std.proofs.Common.{◌≡◌, ◌++◌, drop, string_bytes}
use Rattle.std.specs.List.{flat_map}
use Rattle.mysql_program.specs.Change.{variable_text}
use Rattle.mysql_program.proofs.commands.change.variables_text.Given as goal

-- what is written, followed by the remaining variables
abbrev pub invariant-loop-variable : goal.invariant-loop-variable
invariant-loop-variable l =
    string_bytes l.text ++ flat_map variable_text (drop l.variable-index l.variables) ≡ string_bytes l.initial.text ++ flat_map variable_text l.variables
