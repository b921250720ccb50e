-- What a visit computes from a block's neighbors.
pub mod Directions
pub mod Transfer
