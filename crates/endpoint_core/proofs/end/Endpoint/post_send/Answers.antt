use Rattle.std.proofs.Common.{◌≡◌, ◌<◌, ◌∙◌, length, ap, sym, subst, arith}
use Rattle.std.specs.Prelude.{◌∷◌, [], OnOk}
use Rattle.requester.specs.Sending.{posting}
use Rattle.endpoint_core.specs.Ends.{untold_by}
use Rattle.endpoint_core.specs.Queues.{count_at, nothing}
use Rattle.endpoint_core.specs.Sites.{IsSound, Keeps, home, site_of}
use Rattle.endpoint_core.proofs.Frames.{link-of, on-both, room-of, with_link'}
use Rattle.endpoint_core.proofs.Posted.{posted-keeps, posted-sound, posted-step, refused-keeps, refused-sound, refused-step}
use Rattle.endpoint_core.proofs.end.Endpoint.post_send.Goals as goal

pub returns-then-not-link-clause-step : goal.returns-then-not-link-clause-step
returns-then-not-link-clause-step c =
    let s = site_of c.args.memory c.args.self.now in
    let l = c.in-Some.link in
    let linked = link-of s.pool s.held s.end l c.requires.sound.end c.in-Some.is in
    on-both c.post.result (c.post.new.self ≡ record l { requester = posting l.requester c.args.p }) (length l.requester.items < s.end.send_depth) _
    c.post.ensures.ok (subst (λ d. OnOk c.post.result (length l.requester.items < d)) linked.depth (room-of c.post.result (length l.requester.items) l.requester.depth c.post.ensures.full (rw linked.depth linked.fit)))
    (λ same room. λ ctx names at.
    posted-step s l c.args.p c.requires.sound c.requires.new c.in-Some.is c.if-not-link.true room ctx names at ∙ ap (λ x. home ctx names (with_link' s x)) (sym same))

pub returns-then-not-link-clause-sound : goal.returns-then-not-link-clause-sound
returns-then-not-link-clause-sound c =
    let s = site_of c.args.memory c.args.self.now in
    let l = c.in-Some.link in
    let linked = link-of s.pool s.held s.end l c.requires.sound.end c.in-Some.is in
    on-both c.post.result (c.post.new.self ≡ record l { requester = posting l.requester c.args.p }) (length l.requester.items < s.end.send_depth) (IsSound (with_link' s c.post.new.self) nothing)
    c.post.ensures.ok (subst (λ d. OnOk c.post.result (length l.requester.items < d)) linked.depth (room-of c.post.result (length l.requester.items) l.requester.depth c.post.ensures.full (rw linked.depth linked.fit)))
    (λ same room. subst (λ x. IsSound (with_link' s x) nothing) (sym same) (posted-sound s l c.args.p c.requires.sound c.requires.new c.in-Some.is c.if-not-link.true room))

pub returns-then-not-link-clause-keeps : goal.returns-then-not-link-clause-keeps
returns-then-not-link-clause-keeps c =
    let s = site_of c.args.memory c.args.self.now in
    let l = c.in-Some.link in
    let linked = link-of s.pool s.held s.end l c.requires.sound.end c.in-Some.is in
    on-both c.post.result (c.post.new.self ≡ record l { requester = posting l.requester c.args.p }) (length l.requester.items < s.end.send_depth) (Keeps s (with_link' s c.post.new.self) (c.args.p ∷ []) (count_at s.send 1))
    c.post.ensures.ok (subst (λ d. OnOk c.post.result (length l.requester.items < d)) linked.depth (room-of c.post.result (length l.requester.items) l.requester.depth c.post.ensures.full (rw linked.depth linked.fit)))
    (λ same room. subst (λ x. Keeps s (with_link' s x) (c.args.p ∷ []) (count_at s.send 1)) (sym same) (posted-keeps s l c.args.p c.requires.sound c.requires.new c.in-Some.is c.if-not-link.true room))

pub returns-then-not-link-clause-full : goal.returns-then-not-link-clause-full
returns-then-not-link-clause-full c =
    let s = site_of c.args.memory c.args.self.now in
    let l = c.in-Some.link in
    let linked = link-of s.pool s.held s.end l c.requires.sound.end c.in-Some.is in
    let u : length (untold_by c.args.self.now.link) ≡ length l.requester.items = ap (λ o. length (untold_by o)) c.in-Some.is in
    let depth = linked.depth in
    let fit = linked.fit in
    (λ err. let same = c.post.ensures.full.0 err in omega (arith, same, u, depth), λ le. c.post.ensures.full.1 (omega (arith, le, u, depth, fit)))

pub returns-clause-step : goal.returns-clause-step
returns-clause-step c = λ ctx names at.
    let s = site_of c.args.memory c.args.self.now in
    refused-step s c.args.p c.in-Some.link c.fail_at.new.pool c.fail_at.new.queues.entries c.requires.sound c.requires.new c.in-Some.is c.if-not-link.false c.fail_at.ensures.queues c.fail_at.ensures.pool ctx names at
    ∙ ap (λ o. home ctx names (record s { pool = c.fail_at.new.pool; queues = c.fail_at.new.queues.entries; end = record s.end { link = o } })) c.in-Some.is

pub returns-clause-sound : goal.returns-clause-sound
returns-clause-sound c =
    let s = site_of c.args.memory c.args.self.now in
    subst (λ o. IsSound (record s { pool = c.fail_at.new.pool; queues = c.fail_at.new.queues.entries; end = record s.end { link = o } }) nothing) c.in-Some.is
    (refused-sound s c.args.p c.in-Some.link c.fail_at.new.pool c.fail_at.new.queues.entries c.requires.sound c.requires.new c.in-Some.is c.if-not-link.false c.fail_at.ensures.queues c.fail_at.ensures.pool)

pub returns-clause-keeps : goal.returns-clause-keeps
returns-clause-keeps c =
    let s = site_of c.args.memory c.args.self.now in
    subst (λ o. Keeps s (record s { pool = c.fail_at.new.pool; queues = c.fail_at.new.queues.entries; end = record s.end { link = o } }) (c.args.p ∷ []) (count_at s.send 1)) c.in-Some.is
    (refused-keeps s c.args.p c.in-Some.link c.fail_at.new.pool c.fail_at.new.queues.entries c.requires.sound c.requires.new c.in-Some.is c.if-not-link.false c.fail_at.ensures.queues c.fail_at.ensures.pool)
