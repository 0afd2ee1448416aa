-- What is known of a queue pair whose work is looked through.
use Rattle.std.specs.Prelude.{◌≤◌, length}
use Rattle.endpoint_core.specs.declared.end.Endpoint.{Endpoint}
use Rattle.endpoint_core.specs.Ends.{untold_by}

-- it has no more untold requests than its send queue is deep
abbrev pub IsFit : Endpoint → Type 0
IsFit e = length (untold_by e.link) ≤ e.send_depth
