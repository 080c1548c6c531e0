pub mod Ordinates
mod Parted
pub mod Sound
mod Spreading
