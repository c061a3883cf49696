mod AfterPlan
mod AfterProbe
mod AfterRun
mod Answered
mod FaultsEnd
mod LineStatus
mod One
