pub mod Words
pub mod OldAnswers
pub mod AtomPackets
pub mod AtomTurns
pub mod AtomRepeats
pub mod Cases
