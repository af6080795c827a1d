pub mod Bests
pub mod Left
pub mod RootSlots
pub mod RunBounds
