pub mod Laws
pub mod WitnessKey
