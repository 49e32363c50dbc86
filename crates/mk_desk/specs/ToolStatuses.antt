-- The number of each status of a tool.
use Rattle.std.specs.Prelude.{ℕ}
use Rattle.mk_desk.specs.declared.tool_status.ToolStatus.{ToolStatus}
use Rattle.mk_desk.specs.declared.tool_status.ToolStatus.TheVariants.{Done, Usage, Input, Folder, Overflow, Budget, Memory, Full, No}

-- the exit status of the program
abbrev pub tool_code_of : ToolStatus → ℕ
tool_code_of Done = 0
tool_code_of Usage = 1
tool_code_of Input = 2
tool_code_of Folder = 3
tool_code_of Overflow = 4
tool_code_of Budget = 5
tool_code_of Memory = 6
tool_code_of Full = 7
tool_code_of No = 8
