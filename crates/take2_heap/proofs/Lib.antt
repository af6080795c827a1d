pub mod Heights
pub mod Holes
pub mod Sifting
pub mod Rooms
