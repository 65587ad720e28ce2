mod Blocks
mod Rules
