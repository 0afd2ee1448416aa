use Rattle.rdma_types.proofs.Numbers.{split, within, piece_below, found, ends, landing_after, landing_before_end}
use Rattle.rdma_types.proofs.laws.a_number_belongs_to_one_request.Goals as goal

pub returns-clause-split : goal.returns-clause-split
returns-clause-split c = split

pub returns-clause-within : goal.returns-clause-within
returns-clause-within c = within

pub returns-clause-piece : goal.returns-clause-piece
returns-clause-piece c = piece_below

pub returns-clause-found : goal.returns-clause-found
returns-clause-found c = found

pub returns-clause-ends : goal.returns-clause-ends
returns-clause-ends c = ends

pub returns-clause-landing_after : goal.returns-clause-landing_after
returns-clause-landing_after c = landing_after

pub returns-clause-landing_before_end : goal.returns-clause-landing_before_end
returns-clause-landing_before_end c = landing_before_end
