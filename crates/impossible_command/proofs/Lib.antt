mod Judged
mod OneStatus
mod Shown
