-- What each event does in its context.
use Rattle.std.proofs.Common.{◌∙◌, ap, length, refl, sym}
use Rattle.rdma_types.specs.declared.answers.Answer.TheVariants as answer
use Rattle.protocol.specs.declared.events.Event.TheVariants as event
use Rattle.protocol.specs.DeviceStep.{connects, drops, expires, loads, makes_domain, makes_queue, polls, posts, receives, rnr_over, stores}
use Rattle.protocol.specs.Refusals.{connected_causes, end_causes, recv_causes, send_causes}
use Rattle.protocol.specs.State.{end_at, queue_at, region_at}
use Rattle.context_core.specs.Context.{context_in}
use Rattle.context_core.specs.Causes.{connect_causes, domain_causes, drop_causes, poll_causes, queue_causes, range_causes}
use Rattle.device_core.specs.Done.{plain}
use Rattle.device_core.proofs.Acting.{acts, acts-plainly, err-same, for-event, kept-there, plain-turn}
use Rattle.device_core.proofs.events.act_in.Goals as goal

pub returns-in-MakeDomain-clause-acts : goal.returns-in-MakeDomain-clause-acts
returns-in-MakeDomain-clause-acts c =
    let b = c.in-MakeDomain in
    let e = c.make_domain.ensures in
    let s' = c.make_domain.new.self in
    for-event c.in-MakeDomain.is refl (acts (event.MakeDomain b.name) b.name.context c.args.pool.now c.args.pool.now c.args.state.now s' (λ d k. domain_causes k b.name.name) (λ d. refl) (λ d k. makes_domain d k b.name.name) (λ d. refl) (λ y. plain _) c.told.result
    c.make_domain.result c.told.ensures (plain-turn c.args.pool.now b.name.context c.args.state.now s' e.lists (λ m. e.pages c.args.pool.now m c.requires.is) (e.is c.args.pool.now c.requires.is) (e.numbers c.args.pool.now b.name.context)) (λ d l. e.refused c.args.pool.now b.name.context) (λ d l. e.made c.args.pool.now b.name.context d) e.err (err-same _ c.args.pool.now))

pub returns-in-MakeCq-clause-acts : goal.returns-in-MakeCq-clause-acts
returns-in-MakeCq-clause-acts c =
    let b = c.in-MakeCq in
    let e = c.make_cq.ensures in
    let s' = c.make_cq.new.self in
    for-event c.in-MakeCq.is refl (acts (event.MakeCq b.name b.capacity) b.name.context c.args.pool.now c.args.pool.now c.args.state.now s' (λ d k. queue_causes k b.name.name) (λ d. refl) (λ d k. makes_queue d k b.name.name b.capacity) (λ d. refl) (λ y. plain _) c.told-in-MakeCq.result
    c.make_cq.result c.told-in-MakeCq.ensures (plain-turn c.args.pool.now b.name.context c.args.state.now s' e.lists (λ m. e.pages c.args.pool.now m c.requires.is) (e.is c.args.pool.now c.requires.is) (e.numbers c.args.pool.now b.name.context)) (λ d l. e.refused c.args.pool.now b.name.context) (λ d l. e.made c.args.pool.now b.name.context d c.requires.is) e.err (err-same _ c.args.pool.now))

pub returns-in-Connect-clause-acts : goal.returns-in-Connect-clause-acts
returns-in-Connect-clause-acts c =
    let b = c.in-Connect in
    let e = c.connect.ensures in
    let s' = c.connect.new.self in
    for-event c.in-Connect.is refl (acts-plainly (event.Connect b.end b.peer b.partner b.terms) b.end.context c.args.pool.now c.args.pool.now c.args.state.now s' (λ d k. connect_causes k b.end.name) (λ d. refl) (λ d k. connects d k (end_at k b.end.name) b.peer b.partner b.terms) (λ d. refl) (λ y. plain _) c.outcome_of_done.result
    c.connect.result c.outcome_of_done.ensures.told (plain-turn c.args.pool.now b.end.context c.args.state.now s' e.lists (λ m. e.pages c.args.pool.now m c.requires.is) (e.is c.args.pool.now c.requires.is) (e.numbers c.args.pool.now b.end.context)) (λ d l. e.refused c.args.pool.now b.end.context) (λ d l. e.connected c.args.pool.now b.end.context d c.requires.is) e.err (err-same _ c.args.pool.now))

pub returns-in-DropRegion-clause-acts : goal.returns-in-DropRegion-clause-acts
returns-in-DropRegion-clause-acts c =
    let b = c.in-DropRegion in
    let e = c.drop_region.ensures in
    let s' = c.drop_region.new.self in
    for-event c.in-DropRegion.is refl (acts-plainly (event.DropRegion b.name) b.name.context c.args.pool.now c.drop_region.new.pool c.args.state.now s' (λ d k. drop_causes k b.name.name) (λ d. refl) (λ d k. drops d k b.name.name) (λ d. refl) (λ y. plain _) c.outcome_of_done-in-DropRegion.result
    c.drop_region.result c.outcome_of_done-in-DropRegion.ensures.told (record { moves = e.moves; is = e.is; numbers = e.numbers b.name.context }) (λ d l. e.refused b.name.context) (λ d l. e.dropped b.name.context d) e.err e.err_pool)

pub returns-in-Store-clause-acts : goal.returns-in-Store-clause-acts
returns-in-Store-clause-acts c =
    let b = c.in-Store in
    let e = c.store.ensures in
    let s' = c.store.new.self in
    for-event (c.in-Store.is ∙ ap (event.Store b.region b.at) (sym c.as_slice.ensures)) refl (acts-plainly (event.Store b.region b.at c.as_slice.result.now) b.region.context c.args.pool.now c.store.new.pool c.args.state.now s' (λ d k. range_causes k b.region.name b.at (length c.as_slice.result.now)) (λ d. refl) (λ d k. stores d k (region_at k b.region.name) b.at c.as_slice.result.now) (λ d. refl) (λ y. plain _) c.outcome_of_done-in-Store.result
    c.store.result c.outcome_of_done-in-Store.ensures.told (record { moves = e.moves; is = e.is; numbers = e.numbers b.region.context }) (λ d l. e.refused b.region.context) (λ d l. e.stored b.region.context d) e.err e.err_pool)

pub returns-in-Load-clause-acts : goal.returns-in-Load-clause-acts
returns-in-Load-clause-acts c =
    let b = c.in-Load in
    let e = c.load.ensures in
    let s' = c.args.state.now in
    for-event c.in-Load.is refl (acts (event.Load b.region b.at b.length) b.region.context c.args.pool.now c.args.pool.now c.args.state.now s' (λ d k. range_causes k b.region.name b.at b.length) (λ d. refl) (λ d k. loads d (region_at k b.region.name) b.at b.length) (λ d. refl) (λ bytes. plain (answer.Bytes bytes)) c.told_bytes.result
    c.load.result c.told_bytes.ensures (plain-turn c.args.pool.now b.region.context c.args.state.now s' refl (λ m. refl) c.requires.is refl) (λ d l. e.refused b.region.context) (λ d l. kept-there d c.args.pool.now b.region.context c.args.state.now l (loads d (region_at (context_in c.args.pool.now b.region.context c.args.state.now) b.region.name) b.at b.length) (λ bytes. plain (answer.Bytes bytes)) c.load.result (e.loaded b.region.context d)) (err-same _ c.args.state.now) (err-same _ c.args.pool.now))

pub returns-in-PostSend-clause-acts : goal.returns-in-PostSend-clause-acts
returns-in-PostSend-clause-acts c =
    let b = c.in-PostSend in
    let e = c.post_send.ensures in
    let s' = c.post_send.new.self in
    for-event c.in-PostSend.is refl (acts (event.PostSend b.end b.request) b.end.context c.args.pool.now c.post_send.new.pool c.args.state.now s' (λ d k. end_causes k b.end.name (send_causes d k (end_at k b.end.name) b.request)) (λ d. refl) (λ d k. posts d k (end_at k b.end.name) b.request) (λ d. refl) (λ y. plain _) c.told-in-PostSend.result
    c.post_send.result c.told-in-PostSend.ensures (record { moves = e.moves; is = e.is; numbers = e.numbers b.end.context }) (λ d l. e.refused b.end.context d l.free) (λ d l. e.posted b.end.context d) e.err e.err_pool)

pub returns-in-PostRecv-clause-acts : goal.returns-in-PostRecv-clause-acts
returns-in-PostRecv-clause-acts c =
    let b = c.in-PostRecv in
    let e = c.post_recv.ensures in
    let s' = c.post_recv.new.self in
    for-event c.in-PostRecv.is refl (acts-plainly (event.PostRecv b.end b.receive) b.end.context c.args.pool.now c.post_recv.new.pool c.args.state.now s' (λ d k. end_causes k b.end.name (recv_causes k (end_at k b.end.name) b.receive)) (λ d. refl) (λ d k. receives d k (end_at k b.end.name) b.receive) (λ d. refl) (λ y. plain _) c.outcome_of_done-in-PostRecv.result
    c.post_recv.result c.outcome_of_done-in-PostRecv.ensures.told (record { moves = e.moves; is = e.is; numbers = e.numbers b.end.context }) (λ d l. e.refused b.end.context) (λ d l. e.posted b.end.context d) e.err e.err_pool)

pub returns-in-Poll-clause-acts : goal.returns-in-Poll-clause-acts
returns-in-Poll-clause-acts c =
    let b = c.in-Poll in
    let e = c.poll.ensures in
    let s' = c.poll.new.self in
    for-event c.in-Poll.is refl (acts (event.Poll b.cq b.max) b.cq.context c.args.pool.now c.args.pool.now c.args.state.now s' (λ d k. poll_causes k b.cq.name) (λ d. refl) (λ d k. polls d k (queue_at k b.cq.name) b.max) (λ d. refl) (λ entries. plain (answer.Polled entries)) c.told_polled.result
    c.poll.result c.told_polled.ensures (plain-turn c.args.pool.now b.cq.context c.args.state.now s' e.lists (λ m. e.pages c.args.pool.now m c.requires.is) (e.is c.args.pool.now c.requires.is) (e.numbers c.args.pool.now b.cq.context)) (λ d l. e.refused c.args.pool.now b.cq.context) (λ d l. e.polled c.args.pool.now b.cq.context d) e.err (err-same _ c.args.pool.now))

pub returns-in-Expire-clause-acts : goal.returns-in-Expire-clause-acts
returns-in-Expire-clause-acts c =
    let b = c.in-Expire in
    let e = c.expire.ensures in
    let s' = c.expire.new.self in
    for-event c.in-Expire.is refl (acts-plainly (event.Expire b.end) b.end.context c.args.pool.now c.expire.new.pool c.args.state.now s' (λ d k. connected_causes k b.end.name) (λ d. refl) (λ d k. expires d k (end_at k b.end.name)) (λ d. refl) (plain) c.told_answer.result
    c.expire.result c.told_answer.ensures.told (record { moves = e.moves; is = e.is; numbers = e.numbers b.end.context }) (λ d l. e.refused b.end.context) (λ d l. e.expired b.end.context d l.same) e.err e.err_pool)

pub returns-in-RnrOver-clause-acts : goal.returns-in-RnrOver-clause-acts
returns-in-RnrOver-clause-acts c =
    let b = c.in-RnrOver in
    let e = c.rnr_over.ensures in
    let s' = c.rnr_over.new.self in
    for-event c.in-RnrOver.is refl (acts-plainly (event.RnrOver b.end) b.end.context c.args.pool.now c.args.pool.now c.args.state.now s' (λ d k. connected_causes k b.end.name) (λ d. refl) (λ d k. rnr_over d k (end_at k b.end.name)) (λ d. refl) (plain) c.told_answer-in-RnrOver.result
    c.rnr_over.result c.told_answer-in-RnrOver.ensures.told (plain-turn c.args.pool.now b.end.context c.args.state.now s' e.lists (λ m. e.pages c.args.pool.now m c.requires.is) (e.is c.args.pool.now c.requires.is) (e.numbers c.args.pool.now b.end.context)) (λ d l. e.refused c.args.pool.now b.end.context) (λ d l. e.over c.args.pool.now b.end.context d c.requires.is l.same) e.err (err-same _ c.args.pool.now))
