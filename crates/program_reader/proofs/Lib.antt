pub mod AudioMaps
pub mod CarryLemmas
pub mod CutLemmas
pub mod DueLemmas
pub mod FrameLemmas
pub mod IntervalExamples
pub mod KeepLemmas
pub mod Missing
pub mod OnePicture
pub mod OneProgram
pub mod OneUnits
pub mod PieceLemmas
pub mod PassedLemmas
pub mod PlaceLemmas
pub mod ProgramLemmas
pub mod ReferenceLemmas
pub mod StatedTimes
pub mod StreamsLemmas
pub mod SameTimes
pub mod SizedLemmas
pub mod SizeLemmas
pub mod SourceLemmas
pub mod StampLemmas
pub mod TimesWalked
pub mod UnitLemmas
pub mod WalkEnds
pub mod WalkLemmas
pub mod Maps
pub mod ReadPrograms
pub mod TakenMaps
pub mod TakenOut
mod CarryExamples
mod Examples
mod FormExamples
