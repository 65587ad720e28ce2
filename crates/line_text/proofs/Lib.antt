mod Decimals
mod HexBlock
mod Tables
mod Texts
