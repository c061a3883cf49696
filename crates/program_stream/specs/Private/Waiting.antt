-- What a pass over elements holds between two of them.
use Rattle.std.specs.Prelude.{ℕ, List, ◌++◌, replicate}
use Rattle.program_stream.specs.declared.passing_elements.PassingElements.{PassingElements}

-- what was taken from the source and isn't passed, while no element is held
abbrev pub waiting_of : PassingElements → List ℕ
waiting_of passing = replicate passing.zeros 0 ++ passing.buffer
