use Rattle.std.proofs.Common.{◌≡◌, ◌∙◌, Some, ap}
use Rattle.std.specs.Option.{option_map}
use Rattle.protocol.specs.EndWords.{with_sender}
use Rattle.protocol.specs.Requester.{waited_out}
use Rattle.endpoint_core.specs.Answers.{waited_at}
use Rattle.endpoint_core.specs.Ends.{link_in}
use Rattle.endpoint_core.specs.Sites.{end_at, home}
use Rattle.endpoint_core.proofs.Frames.{end-linked, home-linked, promised-linked}
use Rattle.endpoint_core.proofs.end.Endpoint.rnr_over.Goals as goal

pub returns-clause-step : goal.returns-clause-step
returns-clause-step c = λ s same ctx names at.
    let is : s.end.link ≡ Some c.in-Some.link = ap (λ e. e.link) same ∙ c.in-Some.is in
    ap (λ o. waited_at ctx (end_at names s) (option_map (link_in s.pool) o)) is
    ∙ (home-linked ctx names s c.wait_over.new.self (with_sender (link_in s.pool c.in-Some.link) (waited_out (link_in s.pool c.in-Some.link).sender)) at (c.wait_over.ensures.next s.pool)
    ∙ ap (λ e. home ctx names (record s { end = record e { link = Some c.wait_over.new.self } })) same)

pub returns-clause-sound : goal.returns-clause-sound
returns-clause-sound c = λ pool held end. end-linked pool held c.args.self.now c.in-Some.link c.wait_over.new.self end c.in-Some.is c.wait_over.ensures.keeps

pub returns-clause-reserved : goal.returns-clause-reserved
returns-clause-reserved c = λ send recv place. promised-linked c.args.self.now c.in-Some.link c.wait_over.new.self send recv place c.in-Some.is c.wait_over.ensures.keeps
