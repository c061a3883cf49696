mod CodeLemmas
pub mod CoefficientLemmas
pub mod Computing
pub mod Examples
pub mod LevelLemmas
pub mod TableLemmas
pub mod WholeLemmas
