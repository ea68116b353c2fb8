mod Answered
mod Cutting
mod Lines
mod Words
