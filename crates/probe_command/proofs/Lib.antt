pub mod OneStatus
mod ProbedTable
mod ProbeSteps
