pub mod EmptyMacroblock
