use Rattle.std.proofs.Common.{◌≡◌, ◌∙◌, Some, ap, sym, subst}
use Rattle.std.specs.Prelude.{IfSome, Option}
use Rattle.std.specs.Option.{option_map}
use Rattle.protocol.specs.Requester.{transmission}
use Rattle.endpoint_core.specs.declared.end.EndLink.{EndLink}
use Rattle.endpoint_core.specs.Answers.{IsPacketOf, link_after_row, row_in, sent_at, transmission_at}
use Rattle.endpoint_core.specs.Ends.{link_in}
use Rattle.endpoint_core.specs.Sites.{end_at, home}
use Rattle.endpoint_core.proofs.Frames.{end-linked, home-linked, link-of, promised-linked}
use Rattle.endpoint_core.proofs.end.Endpoint.transmit.Goals as goal

pub returns-clause-row : goal.returns-clause-row
returns-clause-row c = λ pool held end.
    let linked = link-of pool held c.args.self.now c.in-Some.link end c.in-Some.is in
    subst (λ (o : Option EndLink). transmission_at (option_map (link_in pool) o) ≡ row_in pool o c.send.result) (sym c.in-Some.is) (c.send.ensures.row pool linked.sending_terms)

pub returns-clause-packet : goal.returns-clause-packet
returns-clause-packet c = λ pool held end.
    let linked = link-of pool held c.args.self.now c.in-Some.link end c.in-Some.is in
    subst (λ (o : Option EndLink). IfSome o (λ l. IsPacketOf pool l c.send.result)) (sym c.in-Some.is) (c.send.ensures.packet pool held c.args.self.now.domain linked.sending_terms linked.posted)

pub returns-clause-step : goal.returns-clause-step
returns-clause-step c = λ s same end ctx names at.
    let linked = link-of s.pool s.held c.args.self.now c.in-Some.link end c.in-Some.is in
    let is : s.end.link ≡ Some c.in-Some.link = ap (λ e. e.link) same ∙ c.in-Some.is in
    ap (λ o. sent_at ctx (end_at names s) (option_map (link_in s.pool) o)) is
    ∙ (home-linked ctx names s c.send.new.self (link_after_row (link_in s.pool c.in-Some.link) (transmission (link_in s.pool c.in-Some.link))) at (c.send.ensures.next s.pool linked.sending_terms)
    ∙ ap (λ e. home ctx names (record s { end = record e { link = Some c.send.new.self } })) same)

pub returns-clause-sound : goal.returns-clause-sound
returns-clause-sound c = λ pool held end. end-linked pool held c.args.self.now c.in-Some.link c.send.new.self end c.in-Some.is c.send.ensures.keeps

pub returns-clause-reserved : goal.returns-clause-reserved
returns-clause-reserved c = λ send recv place. promised-linked c.args.self.now c.in-Some.link c.send.new.self send recv place c.in-Some.is c.send.ensures.keeps
