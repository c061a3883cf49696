pub mod CheckPlanCommand
