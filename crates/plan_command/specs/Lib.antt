pub mod Plan
pub mod PlanCommand
pub mod Private
pub mod Refused
pub mod Report
