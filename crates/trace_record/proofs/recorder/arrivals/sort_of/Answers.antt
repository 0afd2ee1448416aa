use Rattle.std.proofs.Common.{arith, ◌∙◌, sym}
use Rattle.std.proofs.lemmas.Bool.Decides.{nat_tests}
use Rattle.roce_headers.specs.Packets.{packet}
use Rattle.trace_record.proofs.Sorts.{ack_sort, moving_sort, request_sort, response_sort, value_sort}
use Rattle.trace_record.proofs.recorder.arrivals.sort_of.Goals as goal

pub returns-then-is_request : goal.returns-then-is_request
returns-then-is_request c = request_sort (packet c.args.d.now) (sym c.is_request.ensures ∙ c.if-is_request.true)

pub returns-then-is_read_response : goal.returns-then-is_read_response
returns-then-is_read_response c = response_sort (packet c.args.d.now) (sym c.is_request.ensures ∙ c.if-is_request.false) (sym c.is_read_response.ensures ∙ c.if-is_read_response.true)

pub returns-then-d-eq-ATOMIC_ACKNOWLEDGE : goal.returns-then-d-eq-ATOMIC_ACKNOWLEDGE
returns-then-d-eq-ATOMIC_ACKNOWLEDGE c =
    value_sort (packet c.args.d.now) (sym c.is_request.ensures ∙ c.if-is_request.false) (sym c.is_read_response.ensures ∙ c.if-is_read_response.false) (grind (arith, nat_tests, c.if-d-eq-ATOMIC_ACKNOWLEDGE.true))

pub returns-then-d-eq-ACKNOWLEDGE : goal.returns-then-d-eq-ACKNOWLEDGE
returns-then-d-eq-ACKNOWLEDGE c =
    c.sort_of_aeth.ensures ∙ ack_sort (packet c.args.d.now) (sym c.is_request.ensures ∙ c.if-is_request.false) (sym c.is_read_response.ensures ∙ c.if-is_read_response.false) (grind (arith, nat_tests, c.if-d-eq-ATOMIC_ACKNOWLEDGE.false)) (grind (arith, nat_tests, c.if-d-eq-ACKNOWLEDGE.true))

pub returns : goal.returns
returns c =
    moving_sort (packet c.args.d.now) (sym c.is_request.ensures ∙ c.if-is_request.false) (sym c.is_read_response.ensures ∙ c.if-is_read_response.false) (grind (arith, nat_tests, c.if-d-eq-ATOMIC_ACKNOWLEDGE.false)) (grind (arith, nat_tests, c.if-d-eq-ACKNOWLEDGE.false))
