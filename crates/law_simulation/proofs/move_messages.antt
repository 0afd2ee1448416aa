pub mod Wires
pub mod HuskAnswers
pub mod EndMoves
pub mod Heard
pub mod Takings
pub mod Unfounds
