-- The leaders of a script and the numbers of its blocks, as the words of scratch hold them.
pub mod Leaders
pub mod Numbers
pub mod Index
