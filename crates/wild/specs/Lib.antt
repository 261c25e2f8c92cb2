pub mod Dice
pub mod Wilds
