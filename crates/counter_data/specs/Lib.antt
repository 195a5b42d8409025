pub mod CounterBodies
