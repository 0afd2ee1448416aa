use Rattle.std.proofs.Common.{[], ◌≡◌, ◌∙◌, None, ap, sym, subst, refl, rules}
use Rattle.std.specs.Option.{option_map}
use Rattle.rdma_types.specs.declared.answers.DropReason.TheVariants as why
use Rattle.protocol.specs.EndWords.{EndStep, silent}
use Rattle.protocol.specs.Requester.{takes_response}
use Rattle.protocol.specs.Responder.{takes_request}
use Rattle.protocol.specs.State.{Context}
use Rattle.roce_headers.specs.Packets.{packet}
use Rattle.memory_keys.specs.Regions.{regions_of}
use Rattle.endpoint_core.specs.Answers.{sent_by, sent_of, taken_at}
use Rattle.endpoint_core.specs.Ends.{Names, link_in}
use Rattle.endpoint_core.specs.Sites.{IsHome, end_at, home, site_of}
use Rattle.endpoint_core.proofs.Frames.{home-linked, home-same, link-keeps, link-sound, linked-same, same-site, site_after, with_link'}
use Rattle.endpoint_core.proofs.Taken.{ack-reply, none-sent, taken-control, taken-ended, taken-paused, taken-request, taken-response}
use Rattle.std.specs.Prelude.{Some}
use Rattle.endpoint_core.specs.declared.answers.EndEffect.{EndEffect}
use Rattle.endpoint_core.specs.declared.end.EndLink.{EndLink}
use Rattle.endpoint_core.specs.Due.{WasDue}
use Rattle.endpoint_core.proofs.DueReads.{ack-due, none-due}
use Rattle.endpoint_core.proofs.end.Endpoint.take.Goals as goal

-- ---- in Error

ended : (c : goal.After-silent) (ctx : Context) (names : Names) → IsHome ctx names (site_of c.args.memory c.args.self.now)
    → taken_at ctx (end_at names (site_of c.args.memory c.args.self.now)) (option_map (link_in c.args.memory.pool.now) c.args.self.now.link) (packet c.args.d.now) ≡ silent ctx why.Ended
ended c ctx names at =
    let s = site_of c.args.memory c.args.self.now in
    ap (λ o. taken_at ctx (end_at names s) (option_map (link_in s.pool) o) (packet c.args.d.now)) c.in-Some.is
    ∙ taken-ended ctx (end_at names s) (link_in s.pool c.in-Some.link) (packet c.args.d.now) c.if-link.true

pub returns-then-link-clause-step : goal.returns-then-link-clause-step
returns-then-link-clause-step c = λ ctx names at.
    let s = site_of c.args.memory c.args.self.now in
    ap (λ (x : EndStep). x.context) (ended c ctx names at)
    ∙ (sym (home-same ctx names s at) ∙ ap (λ x. home ctx names x) (same-site s c.in-Some.link c.in-Some.link c.in-Some.is refl))

pub returns-then-link-clause-took : goal.returns-then-link-clause-took
returns-then-link-clause-took c = λ ctx names at. ap (λ (x : EndStep). x.took) (ended c ctx names at) ∙ sym (ap (λ x. x.took) c.silent.ensures)

pub returns-then-link-clause-sent : goal.returns-then-link-clause-sent
returns-then-link-clause-sent c = λ ctx names at.
    ap (λ (x : EndStep). x.sent) (ended c ctx names at)
    ∙ sym (ap (λ x. sent_by (regions_of c.args.memory.pool.now c.args.memory.regions.now) (link_in c.args.memory.pool.now c.in-Some.link) x.reply) c.silent.ensures)

-- ---- a message of moving

control : (c : goal.After-take_control) (ctx : Context) (names : Names) → IsHome ctx names (site_of c.args.memory c.args.self.now)
    → taken_at ctx (end_at names (site_of c.args.memory c.args.self.now)) (option_map (link_in c.args.memory.pool.now) c.args.self.now.link) (packet c.args.d.now)
    ≡ record {
      context = home ctx names (with_link' (site_of c.args.memory c.args.self.now) c.take_control.new.self);
      took = c.take_control.result.took;
      sent = sent_by (regions_of c.args.memory.pool.now c.args.memory.regions.now) (link_in c.args.memory.pool.now c.take_control.new.self) c.take_control.result.reply;
    }
control c ctx names at =
    let s = site_of c.args.memory c.args.self.now in
    let l = c.in-Some.link in
    let l' = c.take_control.new.self in
    ap (λ o. taken_at ctx (end_at names s) (option_map (link_in s.pool) o) (packet c.args.d.now)) c.in-Some.is
    ∙ (taken-control ctx (end_at names s) (link_in s.pool l) (packet c.args.d.now) c.control_of.result c.in-Some-control_of.control c.if-link.false c.control_of.ensures c.in-Some-control_of.is
    ∙ (c.take_control.ensures.step ctx (end_at names s) s.pool (regions_of s.pool s.held) (linked-same ctx names s l at c.in-Some.is)
    ∙ ap (λ x. record { context = x; took = c.take_control.result.took; sent = sent_by (regions_of s.pool s.held) (link_in s.pool l') c.take_control.result.reply }) (home-linked ctx names s l' (link_in s.pool l') at refl)))

pub returns-in-Some-control_of-clause-step : goal.returns-in-Some-control_of-clause-step
returns-in-Some-control_of-clause-step c = λ ctx names at. ap (λ (x : EndStep). x.context) (control c ctx names at)

pub returns-in-Some-control_of-clause-took : goal.returns-in-Some-control_of-clause-took
returns-in-Some-control_of-clause-took c = λ ctx names at. ap (λ (x : EndStep). x.took) (control c ctx names at)

pub returns-in-Some-control_of-clause-sent : goal.returns-in-Some-control_of-clause-sent
returns-in-Some-control_of-clause-sent c = λ ctx names at. ap (λ (x : EndStep). x.sent) (control c ctx names at)

pub returns-in-Some-control_of-clause-reply : goal.returns-in-Some-control_of-clause-reply
returns-in-Some-control_of-clause-reply c = ack-reply c.args.memory.regions.now c.take_control.new.self c.take_control.result.reply c.take_control.ensures.reply

pub returns-in-Some-control_of-clause-sound : goal.returns-in-Some-control_of-clause-sound
returns-in-Some-control_of-clause-sound c = link-sound (site_of c.args.memory c.args.self.now) c.in-Some.link c.take_control.new.self c.requires.sound c.in-Some.is c.take_control.ensures.keeps

pub returns-in-Some-control_of-clause-keeps : goal.returns-in-Some-control_of-clause-keeps
returns-in-Some-control_of-clause-keeps c = link-keeps (site_of c.args.memory c.args.self.now) c.in-Some.link c.take_control.new.self c.in-Some.is c.take_control.ensures.keeps

-- ---- a response

response : (c : goal.After-take_response-took) (ctx : Context) (names : Names) → IsHome ctx names (site_of c.args.memory c.args.self.now)
    → taken_at ctx (end_at names (site_of c.args.memory c.args.self.now)) (option_map (link_in c.args.memory.pool.now) c.args.self.now.link) (packet c.args.d.now)
    ≡ record {
      context = home ctx names (site_after c.args.memory c.take_response-took.new.memory c.take_response-took.new.self);
      took = c.take_response-took.result;
      sent = [];
    }
response c ctx names at =
    let s = site_of c.args.memory c.args.self.now in
    let l = c.in-Some.link in
    let none : c.control_of.result ≡ None = search rules in
    ap (λ o. taken_at ctx (end_at names s) (option_map (link_in s.pool) o) (packet c.args.d.now)) c.in-Some.is
    ∙ (taken-response ctx (end_at names s) (link_in s.pool l) (packet c.args.d.now) c.control_of.result c.if-link.false c.control_of.ensures none (sym c.is_request.ensures ∙ c.if-not-is_request.true)
    ∙ (ap (λ x. takes_response ctx (end_at names x) (link_in s.pool l) (packet c.args.d.now)) (same-site s l l c.in-Some.is refl)
    ∙ c.take_response-took.ensures.step ctx names l (subst (λ x. IsHome ctx names x) (same-site s l l c.in-Some.is refl) at) refl))

pub returns-then-not-is_request-clause-step : goal.returns-then-not-is_request-clause-step
returns-then-not-is_request-clause-step c = λ ctx names at. ap (λ (x : EndStep). x.context) (response c ctx names at)

pub returns-then-not-is_request-clause-took : goal.returns-then-not-is_request-clause-took
returns-then-not-is_request-clause-took c = λ ctx names at. ap (λ (x : EndStep). x.took) (response c ctx names at)

pub returns-then-not-is_request-clause-sent : goal.returns-then-not-is_request-clause-sent
returns-then-not-is_request-clause-sent c = λ ctx names at.
    ap (λ (x : EndStep). x.sent) (response c ctx names at)
    ∙ none-sent (site_after c.args.memory c.take_response-took.new.memory c.take_response-took.new.self)

-- ---- a request at a Paused end

paused : (c : goal.After-silent-then-is_paused) (ctx : Context) (names : Names) → IsHome ctx names (site_of c.args.memory c.args.self.now)
    → taken_at ctx (end_at names (site_of c.args.memory c.args.self.now)) (option_map (link_in c.args.memory.pool.now) c.args.self.now.link) (packet c.args.d.now) ≡ silent ctx why.Paused
paused c ctx names at =
    let s = site_of c.args.memory c.args.self.now in
    let l = c.in-Some.link in
    let none : c.control_of.result ≡ None = search rules in
    ap (λ o. taken_at ctx (end_at names s) (option_map (link_in s.pool) o) (packet c.args.d.now)) c.in-Some.is
    ∙ taken-paused ctx (end_at names s) (link_in s.pool l) (packet c.args.d.now) c.control_of.result c.if-link.false c.control_of.ensures none (sym c.is_request.ensures ∙ c.if-not-is_request.false) (sym c.is_paused.ensures ∙ c.if-is_paused.true)

pub returns-then-is_paused-clause-step : goal.returns-then-is_paused-clause-step
returns-then-is_paused-clause-step c = λ ctx names at.
    let s = site_of c.args.memory c.args.self.now in
    ap (λ (x : EndStep). x.context) (paused c ctx names at)
    ∙ (sym (home-same ctx names s at) ∙ ap (λ x. home ctx names x) (same-site s c.in-Some.link c.in-Some.link c.in-Some.is refl))

pub returns-then-is_paused-clause-took : goal.returns-then-is_paused-clause-took
returns-then-is_paused-clause-took c = λ ctx names at. ap (λ (x : EndStep). x.took) (paused c ctx names at) ∙ sym (ap (λ x. x.took) c.silent-then-is_paused.ensures)

pub returns-then-is_paused-clause-sent : goal.returns-then-is_paused-clause-sent
returns-then-is_paused-clause-sent c = λ ctx names at.
    ap (λ (x : EndStep). x.sent) (paused c ctx names at)
    ∙ sym (ap (λ x. sent_by (regions_of c.args.memory.pool.now c.args.memory.regions.now) (link_in c.args.memory.pool.now c.in-Some.link) x.reply) c.silent-then-is_paused.ensures)

-- ---- a request

request : (c : goal.After-take_request) (ctx : Context) (names : Names) → IsHome ctx names (site_of c.args.memory c.args.self.now)
    → taken_at ctx (end_at names (site_of c.args.memory c.args.self.now)) (option_map (link_in c.args.memory.pool.now) c.args.self.now.link) (packet c.args.d.now)
    ≡ record {
      context = home ctx names (site_after c.args.memory c.take_request.new.memory c.take_request.new.self);
      took = c.take_request.result.took;
      sent = sent_of (site_after c.args.memory c.take_request.new.memory c.take_request.new.self) c.take_request.result.reply;
    }
request c ctx names at =
    let s = site_of c.args.memory c.args.self.now in
    let l = c.in-Some.link in
    let none : c.control_of.result ≡ None = search rules in
    ap (λ o. taken_at ctx (end_at names s) (option_map (link_in s.pool) o) (packet c.args.d.now)) c.in-Some.is
    ∙ (taken-request ctx (end_at names s) (link_in s.pool l) (packet c.args.d.now) c.control_of.result c.if-link.false c.control_of.ensures none (sym c.is_request.ensures ∙ c.if-not-is_request.false) (sym c.is_paused.ensures ∙ c.if-is_paused.false)
    ∙ (ap (λ x. takes_request ctx (end_at names x) (link_in s.pool l) (packet c.args.d.now)) (same-site s l l c.in-Some.is refl)
    ∙ c.take_request.ensures.step ctx names l (subst (λ x. IsHome ctx names x) (same-site s l l c.in-Some.is refl) at) refl))

pub returns-clause-step : goal.returns-clause-step
returns-clause-step c = λ ctx names at. ap (λ (x : EndStep). x.context) (request c ctx names at)

pub returns-clause-took : goal.returns-clause-took
returns-clause-took c = λ ctx names at. ap (λ (x : EndStep). x.took) (request c ctx names at)

pub returns-clause-sent : goal.returns-clause-sent
returns-clause-sent c = λ ctx names at. ap (λ (x : EndStep). x.sent) (request c ctx names at)

-- ---- what was due

pub returns-then-link-clause-due : goal.returns-then-link-clause-due
returns-then-link-clause-due c = λ l is. none-due _ _ l (packet c.args.d.now) c.silent.result.reply (ap (λ (x : EndEffect). x.reply) c.silent.ensures)

pub returns-in-Some-control_of-clause-due : goal.returns-in-Some-control_of-clause-due
returns-in-Some-control_of-clause-due c = λ l is. ack-due _ _ l (packet c.args.d.now) c.take_control.result.reply c.take_control.ensures.reply

pub returns-then-is_paused-clause-due : goal.returns-then-is_paused-clause-due
returns-then-is_paused-clause-due c = λ l is. none-due _ _ l (packet c.args.d.now) c.silent-then-is_paused.result.reply (ap (λ (x : EndEffect). x.reply) c.silent-then-is_paused.ensures)

pub returns-clause-due : goal.returns-clause-due
returns-clause-due c = λ l at.
    let s = site_of c.args.memory c.args.self.now in
    let k = c.in-Some.link in
    let some : Some l ≡ Some k = sym at ∙ c.in-Some.is in
    let same : l ≡ k = cc in
    let after = site_after c.args.memory c.take_request.new.memory c.take_request.new.self in
    subst (λ x. WasDue x after l (packet c.args.d.now) c.take_request.result.reply) (sym (same-site s k k c.in-Some.is refl))
    (subst (λ (x : EndLink). WasDue (with_link' s k) after x (packet c.args.d.now) c.take_request.result.reply) (sym same) (c.take_request.ensures.due k refl (sym c.is_paused.ensures ∙ c.if-is_paused.false)))
