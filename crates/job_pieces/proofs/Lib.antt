mod AllPrograms
mod Filling
mod JobLanes
mod OneProgram
mod OtherFiles
mod Sent
mod SentJobs
