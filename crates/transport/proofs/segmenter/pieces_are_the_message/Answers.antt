use Rattle.transport.proofs.Pieces.{front_all, piece_full, piece_last, length-piece}
use Rattle.transport.proofs.segmenter.pieces_are_the_message.Goals as goal

pub returns-clause-whole : goal.returns-clause-whole
returns-clause-whole c = front_all

pub returns-clause-full : goal.returns-clause-full
returns-clause-full c = piece_full

pub returns-clause-last : goal.returns-clause-last
returns-clause-last c = piece_last

pub returns-clause-sizes : goal.returns-clause-sizes
returns-clause-sizes c = length-piece
