pub mod PassedFile
pub mod PassedProgram
pub mod PassedAudio
pub mod PassedVideo
pub mod VideoPackets
pub mod Private
