use Rattle.std.proofs.Common.{◌≡◌, ◌∙◌, ap, sym}
use Rattle.std.specs.Prelude.{◌∷◌, []}
use Rattle.end_queues.specs.Postings.{posting as queueing}
use Rattle.endpoint_core.specs.Queues.{count_at, nothing, settle_at}
use Rattle.endpoint_core.specs.Sites.{IsSound, Keeps, site_of}
use Rattle.endpoint_core.proofs.Frames.{on-ok}
use Rattle.endpoint_core.proofs.Posted.{flushed-keeps, flushed-sound, flushed-step, received-keeps, received-sound, received-step}
use Rattle.endpoint_core.proofs.end.Endpoint.post_recv.Goals as goal

pub returns-then-is_ended-clause-step : goal.returns-then-is_ended-clause-step
returns-then-is_ended-clause-step c = λ ctx names at.
    let s = site_of c.args.memory c.args.self.now in
    flushed-step s c.args.r c.push_at.new.queues.entries c.requires.sound (sym c.is_ended.ensures ∙ c.if-is_ended.true)
    (c.push_at.ensures ∙ ap (λ w. settle_at s.queues s.recv 1 (w ∷ [])) c.received-completion.ensures) ctx names at

pub returns-then-is_ended-clause-sound : goal.returns-then-is_ended-clause-sound
returns-then-is_ended-clause-sound c =
    let s = site_of c.args.memory c.args.self.now in
    flushed-sound s c.args.r c.push_at.new.queues.entries c.requires.sound (sym c.is_ended.ensures ∙ c.if-is_ended.true)
    (c.push_at.ensures ∙ ap (λ w. settle_at s.queues s.recv 1 (w ∷ [])) c.received-completion.ensures)

pub returns-then-is_ended-clause-keeps : goal.returns-then-is_ended-clause-keeps
returns-then-is_ended-clause-keeps c =
    let s = site_of c.args.memory c.args.self.now in
    flushed-keeps s c.args.r c.push_at.new.queues.entries c.requires.sound (sym c.is_ended.ensures ∙ c.if-is_ended.true)
    (c.push_at.ensures ∙ ap (λ w. settle_at s.queues s.recv 1 (w ∷ [])) c.received-completion.ensures)

pub returns-clause-step : goal.returns-clause-step
returns-clause-step c =
    let s = site_of c.args.memory c.args.self.now in
    on-ok c.post.result (c.post.new.self ≡ queueing s.end.recvs c.args.r) _ c.post.ensures.ok
    (λ queued. λ ctx names at. received-step s c.args.r c.post.new.self c.requires.sound (sym c.is_ended.ensures ∙ c.if-is_ended.false) c.requires.place queued (λ v. c.soundness_stays.ensures.posted s.held s.end.domain v s.end.recvs.items c.args.r c.requires.place) ctx names at)

pub returns-clause-sound : goal.returns-clause-sound
returns-clause-sound c =
    let s = site_of c.args.memory c.args.self.now in
    on-ok c.post.result (c.post.new.self ≡ queueing s.end.recvs c.args.r) (IsSound (record s { end = record s.end { recvs = c.post.new.self } }) nothing) c.post.ensures.ok
    (λ queued. received-sound s c.args.r c.post.new.self c.requires.sound (sym c.is_ended.ensures ∙ c.if-is_ended.false) c.requires.place queued (λ v. c.soundness_stays.ensures.posted s.held s.end.domain v s.end.recvs.items c.args.r c.requires.place))

pub returns-clause-keeps : goal.returns-clause-keeps
returns-clause-keeps c =
    let s = site_of c.args.memory c.args.self.now in
    on-ok c.post.result (c.post.new.self ≡ queueing s.end.recvs c.args.r) (Keeps s (record s { end = record s.end { recvs = c.post.new.self } }) [] (count_at s.recv 1)) c.post.ensures.ok
    (λ queued. received-keeps s c.args.r c.post.new.self c.requires.sound (sym c.is_ended.ensures ∙ c.if-is_ended.false) c.requires.place queued (λ v. c.soundness_stays.ensures.posted s.held s.end.domain v s.end.recvs.items c.args.r c.requires.place))
