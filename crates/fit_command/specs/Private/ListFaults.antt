-- Why a list isn't read.
use Rattle.std.specs.Prelude.{ℕ, List}
use Rattle.fit_command.specs.declared.list_fault.ListFault.{ListFault}
use Rattle.fit_command.specs.declared.list_fault.ListFault.TheVariants.{ListSyntax, OutOfMemory}
use Rattle.fit_command.specs.ListText.{IsListRefused}

-- a fault is the refusal of the text, or want of memory
abbrev pub IsListFaultOf : List ℕ → ListFault → Type 0
IsListFaultOf text (ListSyntax line) = IsListRefused text line
IsListFaultOf text OutOfMemory = Unit {0}
