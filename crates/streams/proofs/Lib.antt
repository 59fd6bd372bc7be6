mod Held
mod Transcripts
mod Telling
mod Running
mod Lines
