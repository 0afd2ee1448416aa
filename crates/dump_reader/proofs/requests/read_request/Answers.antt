use Rattle.dump_reader.proofs.Latched.{group, first, onward}
use Rattle.dump_reader.proofs.requests.read_request.Goals as goal

pub returns-clause-request : goal.returns-clause-request
returns-clause-request c = group _ _ c.of-fields.ensures (first _ c.read_request_head-head.ensures.head (onward c.read_request_places-request.ensures.request)) c.end.ensures
