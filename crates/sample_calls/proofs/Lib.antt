pub mod CounterPlaces
pub mod Told
