mod AudioStreams
mod CarriedShape
mod JobPrograms
mod JobRows
mod MapPids
mod ReadyPrograms
mod SentAudios
pub mod SentStreams
pub mod SentUnits
mod SentVideos
