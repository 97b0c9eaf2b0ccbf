mod Lines
mod Waiting
