use Rattle.std.proofs.Common.{◌∙◌, ap, sym}
use Rattle.std.specs.Option.{option_map}
use Rattle.protocol.specs.Requester.{not_counted}
use Rattle.endpoint_core.specs.Answers.{IsExpiry, expired_at, expiry_of, link_after_expiry}
use Rattle.endpoint_core.specs.Ends.{link_in}
use Rattle.endpoint_core.specs.Sites.{end_at, site_of}
use Rattle.endpoint_core.proofs.Expired.{expired-few}
use Rattle.endpoint_core.proofs.Frames.{home-linked, link-keeps, link-of, link-sound, linked-same}
use Rattle.endpoint_core.proofs.end.Endpoint.expire.Goals as goal

pub returns-clause-answer : goal.returns-clause-answer
returns-clause-answer c =
    let s = site_of c.args.memory c.args.self.now in
    let linked = link-of s.pool s.held s.end c.in-Some.link c.requires.sound.end c.in-Some.is in
    let x : IsExpiry (link_in s.pool c.in-Some.link) c.in-Some-expire.answer (link_in s.pool c.expire.new.self) = c.in-Some-expire.ensures.answer s.pool linked.sending_terms in
    x.answer ∙ sym (ap (λ o. expiry_of (option_map (link_in s.pool) o)) c.in-Some.is)

pub returns-clause-step : goal.returns-clause-step
returns-clause-step c = λ ctx names at.
    let s = site_of c.args.memory c.args.self.now in
    let l = link_in s.pool c.in-Some.link in
    let linked = link-of s.pool s.held s.end c.in-Some.link c.requires.sound.end c.in-Some.is in
    let x : IsExpiry l c.in-Some-expire.answer (link_in s.pool c.expire.new.self) = c.in-Some-expire.ensures.answer s.pool linked.sending_terms in
    ap (λ o. expired_at ctx (end_at names s) (option_map (link_in s.pool) o)) c.in-Some.is
    ∙ (expired-few ctx (end_at names s) l (not_counted l) x.few (linked-same ctx names s c.in-Some.link at c.in-Some.is)
    ∙ home-linked ctx names s c.expire.new.self (link_after_expiry l (not_counted l)) at (sym x.next))

pub returns-clause-sound : goal.returns-clause-sound
returns-clause-sound c = link-sound (site_of c.args.memory c.args.self.now) c.in-Some.link c.expire.new.self c.requires.sound c.in-Some.is c.expire.ensures.keeps

pub returns-clause-keeps : goal.returns-clause-keeps
returns-clause-keeps c = link-keeps (site_of c.args.memory c.args.self.now) c.in-Some.link c.expire.new.self c.in-Some.is c.expire.ensures.keeps
