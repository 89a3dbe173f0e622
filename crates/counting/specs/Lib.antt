pub mod CountingState
