-- How many blocks there are, and whether there is room for them.
pub mod Rooms
