-- What is read of a sheet that passed. Reading order: Placed, Slots, Sets, Sound.
pub mod Placed
pub mod Slots
pub mod Sets
pub mod Sound
pub mod SoundOnce
pub mod Sheets
