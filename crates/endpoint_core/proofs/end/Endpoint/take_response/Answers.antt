use Rattle.std.proofs.Common.{ℕ, List, ◌≡◌, ◌∙◌, Some, [], ap, sym, subst, refl}
use Rattle.rdma_types.specs.declared.answers.ArrivalEffect.TheVariants as took
use Rattle.rdma_types.specs.declared.names.Name.{Name}
use Rattle.memory_keys.specs.declared.RegisteredRegion.{RegisteredRegion}
use Rattle.protocol.specs.State.{Context}
use Rattle.protocol.specs.Requester.{ended_with, takes_response, told_completions}
use Rattle.protocol.specs.Requester as rows
use Rattle.roce_headers.specs.Packets.{packet}
use Rattle.requester.specs.Sending.{sender_of}
use Rattle.requester.specs.Taking.{taken_response}
use Rattle.endpoint_core.specs.declared.end.EndLink.{EndLink}
use Rattle.endpoint_core.specs.Ends.{is_ended_link, link_in}
use Rattle.endpoint_core.specs.Queues.{StandsAt, nothing}
use Rattle.endpoint_core.specs.Responded.{is_useless}
use Rattle.endpoint_core.specs.Sites.{IsSound, Keeps, EndWithMemory, end_at, home, site_of}
use Rattle.endpoint_core.proofs.Answered.{ended-step, home-of, home-twice, told-keeps, told-sound}
use Rattle.endpoint_core.proofs.Frames.{site_after}
use Rattle.endpoint_core.proofs.Settled.{stands-settled}
use Rattle.endpoint_core.proofs.Whole.{IsStep, keeps-both, old-there, response-whole}
use Rattle.endpoint_core.proofs.end.Endpoint.take_response.Goals as goal

-- ---- an end that fails

-- the site before it
abbrev failing : (c : goal.After-fail) → EndWithMemory
failing c = record (site_of c.args.memory c.args.self.now) { pool = c.respond-taken.new.pool; held = c.respond-taken.new.regions; queues = c.respond-taken.new.queues.entries; end = record c.args.self.now { link = Some c.respond-taken.new.self } }

pub fail-requires-clause-sound : goal.fail-requires-clause-sound
fail-requires-clause-sound c =
    let s = site_of c.args.memory c.args.self.now in
    subst (λ h. IsSound (record s { pool = c.respond-taken.new.pool; held = h; queues = c.respond-taken.new.queues.entries; end = record s.end { link = Some c.respond-taken.new.self } }) nothing) (sym c.respond-taken.ensures.regions)
    (told-sound s c.in-Some.link c.respond-taken.new.self (taken_response c.in-Some.link.requester.terms (sender_of c.in-Some.link.requester) (packet c.args.d.now)).sender (packet c.args.d.now) c.respond-taken.result c.respond-taken.new.pool c.respond-taken.new.queues.entries c.requires.sound c.in-Some.is (sym (ap is_ended_link c.in-Some.is) ∙ c.requires.running) (c.respond-taken.ensures.answered (ap is_useless c.in-Ended.is)))

pub returns-in-Ended-clause-step : goal.returns-in-Ended-clause-step
returns-in-Ended-clause-step c = λ ctx names l at is.
    let s = site_of c.args.memory c.args.self.now in
    let k = c.in-Some.link in
    let l' = c.respond-taken.new.self in
    let some : Some l ≡ Some k = sym is ∙ c.in-Some.is in
    let same : l ≡ k = cc in
    let answered = c.respond-taken.ensures.answered (ap is_useless c.in-Ended.is) in
    let s1 : EndWithMemory = failing c in
    let ended : (h : List RegisteredRegion) → Context = λ h. ended_with (home ctx names (record s1 { held = h })) (end_at names s1) (link_in s1.pool l') c.in-Ended.status in
    let stands : (name : Name) (place : ℕ) → StandsAt s.queues name place → StandsAt s1.queues name place =
    λ name place there. subst (λ qs. StandsAt qs name place) (sym answered.queues) (stands-settled s.queues name place s.send (rows.told_count k.requester.terms (taken_response k.requester.terms (sender_of k.requester) (packet c.args.d.now)).sender) (told_completions s.end.number k.requester.terms (taken_response k.requester.terms (sender_of k.requester) (packet c.args.d.now)).sender) there) in
    ap (λ (x : EndLink). takes_response ctx (end_at names s) (link_in s.pool x) (packet c.args.d.now)) same
    ∙ (ended-step s k l' (packet c.args.d.now) c.respond-taken.result s1.pool s1.queues c.requires.sound c.in-Some.is (sym (ap is_ended_link c.in-Some.is) ∙ c.requires.running) (old-there (packet c.args.d.now) c.requires.fits) c.respond-taken.ensures.taken ctx names c.in-Ended.status at c.in-Ended.is answered
    ∙ (ap (λ h. record { context = ended h; took = took.Ended c.in-Ended.status; sent = [] }) (sym c.respond-taken.ensures.regions)
    ∙ ap (λ x. record { context = x; took = took.Ended c.in-Ended.status; sent = [] })
    (c.fail.ensures.step (home ctx names s1) names (home-of ctx names s1 (stands names.send_cq s.send at.send) (stands names.recv_cq s.recv at.recv))
    ∙ home-twice ctx names s1 (site_after c.args.memory c.fail.new.memory c.fail.new.self))))

pub returns-in-Ended-clause-keeps : goal.returns-in-Ended-clause-keeps
returns-in-Ended-clause-keeps c =
    let s = site_of c.args.memory c.args.self.now in
    let one = told-keeps s c.in-Some.link c.respond-taken.new.self (taken_response c.in-Some.link.requester.terms (sender_of c.in-Some.link.requester) (packet c.args.d.now)).sender (packet c.args.d.now) c.respond-taken.result c.respond-taken.new.pool c.respond-taken.new.queues.entries c.requires.sound c.in-Some.is (sym (ap is_ended_link c.in-Some.is) ∙ c.requires.running) (c.respond-taken.ensures.answered (ap is_useless c.in-Ended.is)) in
    keeps-both s (failing c) (site_after c.args.memory c.fail.new.memory c.fail.new.self) refl refl
    (subst (λ h. Keeps s (record (failing c) { held = h }) [] nothing) (sym c.respond-taken.ensures.regions) one) c.fail.ensures.keeps

-- ---- any other response

whole : (c : goal.After-took_of) → IsStep (site_of c.args.memory c.args.self.now) (record (site_of c.args.memory c.args.self.now) { pool = c.respond-taken.new.pool; held = c.respond-taken.new.regions; queues = c.respond-taken.new.queues.entries; end = record c.args.self.now { link = Some c.respond-taken.new.self } }) c.in-Some.link (packet c.args.d.now) c.respond-taken.result
whole c =
    response-whole (site_of c.args.memory c.args.self.now) c.in-Some.link c.respond-taken.new.self (packet c.args.d.now) c.respond-taken.result c.respond-taken.new.pool c.respond-taken.new.regions c.respond-taken.new.queues.entries
    c.requires.sound c.in-Some.is (sym (ap is_ended_link c.in-Some.is) ∙ c.requires.running) (old-there (packet c.args.d.now) c.requires.fits) c.respond-taken.ensures.taken c.respond-taken.ensures.regions
    c.respond-taken.ensures.useless_link c.respond-taken.ensures.useless_pool c.respond-taken.ensures.useless_queues c.respond-taken.ensures.answered
    (λ status is. c.in_default-taken.not-Ended status is)

pub returns-clause-step : goal.returns-clause-step
returns-clause-step c = λ ctx names l at is.
    let s = site_of c.args.memory c.args.self.now in
    let some : Some l ≡ Some c.in-Some.link = sym is ∙ c.in-Some.is in
    let same : l ≡ c.in-Some.link = cc in
    ap (λ (x : EndLink). takes_response ctx (end_at names s) (link_in s.pool x) (packet c.args.d.now)) same
    ∙ ((whole c).step ctx names at
    ∙ ap (λ t. record { context = home ctx names (record s { pool = c.respond-taken.new.pool; held = c.respond-taken.new.regions; queues = c.respond-taken.new.queues.entries; end = record s.end { link = Some c.respond-taken.new.self } }); took = t; sent = [] }) (sym c.took_of.ensures))

pub returns-clause-sound : goal.returns-clause-sound
returns-clause-sound c = (whole c).sound

pub returns-clause-keeps : goal.returns-clause-keeps
returns-clause-keeps c = (whole c).keeps
