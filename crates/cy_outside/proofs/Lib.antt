mod Below
mod Fronts
mod Listed
mod Stored
mod Taken
mod Writes
