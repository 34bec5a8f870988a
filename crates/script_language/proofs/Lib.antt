mod Pieces
pub mod Fronts
mod PrintedLines
mod Cuts
mod Gathered
mod Words
mod Decimals
mod HexTexts
mod Lanes
mod Lines
mod OneCommand
pub mod Scripts
mod PlainCommands
mod BadLines
mod Outputs
mod WorkedLines
mod WorkedScripts
pub mod OnLiterals
