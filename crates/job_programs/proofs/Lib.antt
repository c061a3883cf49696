mod Asks
pub mod Ends
pub mod NearLemmas
mod TogetherLemmas
mod NextLemmas
mod Forms
mod ReadLemmas
mod ReadJobs
pub mod ShareLemmas
mod ProbeLemmas
mod LawLemmas
mod FirstLemmas
mod MissingLemmas
mod ProbeLaws
mod AloneLemmas
mod SizesLemmas
mod TimeLemmas
mod PassedLemmas
mod PassedSteps
mod Examples
