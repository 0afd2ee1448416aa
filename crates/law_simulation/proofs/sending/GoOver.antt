-- An end goes to Error on both sides: its work is completed, and its numbers end.
use Rattle.std.proofs.Common.{arith, ◌≡◌, ℕ, List, [], ◌∷◌, ◌++◌, length, map, true, refl, sym, ap, ◌∙◌, subst}
use Rattle.std.specs.Prelude.{Some, None, option_to_list}
use Rattle.std.proofs.lemmas.List.{drop_all}
use Rattle.rdma_types.specs.declared.names.Name.{Name}
use Rattle.rdma_types.specs.declared.names.ObjName.{ObjName}
use Rattle.rdma_types.specs.declared.requests.Completion.{Completion}
use Rattle.rdma_types.specs.declared.requests.Receive.{Receive}
use Rattle.rdma_types.specs.declared.requests.WcStatus.{WcStatus}
use Rattle.rdma_types.specs.declared.requests.WcStatus.TheVariants as statuses
use Rattle.rdma_types.specs.Lists.{has_name, has_word, named, store_named}
use Rattle.rdma_types.specs.Objects.{CompletionQueue, Posted, no_queue}
use Rattle.protocol.specs.State as state
use Rattle.protocol.specs.State.{World, Link, Progress, NoMessage, InSend, InWrite}
use Rattle.protocol.specs.EndWords as words
use Rattle.protocol.specs.Requester.{ended_link, ended_with, failing}
use Rattle.packetless_machine.specs.Machine as machine
use Rattle.packetless_machine.specs.Machine.{Machine, End, has_context, has_end, completed}
use Rattle.packetless_machine.specs.Steps as steps
use Rattle.packetless_machine.specs.Steps.{closed, failed_queues, failed_receives, failed_requests, receives_of, untold}
use Rattle.law_simulation.specs.Views.{Owned, owned, owned_there, link_or_none, receive_in}
use Rattle.law_simulation.specs.Stands.{Stands, IsContextSound, IsEndSound}
use Rattle.law_simulation.proofs.relation.Tables.{All-named, replaced-stored, has_name-store, name-named_there, named-store_same}
use Rattle.law_simulation.proofs.relation.Machines as machines
use Rattle.law_simulation.proofs.relation.Machines.{MachineChanged, context_name, with_context_changed}
use Rattle.law_simulation.proofs.relation.Ends.{ends_store, queue_in, with_more, with_more_names, completing_there}
use Rattle.law_simulation.proofs.relation.Sounds.{queue_there, queues_like}
use Rattle.law_simulation.proofs.relation.Live.{live_of, live_same}
use Rattle.law_simulation.proofs.relation.Linked.{HasEnd, context_with, end_there_of, end_changed, connected_sound}
use Rattle.law_simulation.proofs.sending.GoTables.{changed_twice, stored_twice}
use Rattle.law_simulation.proofs.sending.GoLive.{LiveEnd, ContextGoes, name_there}
use Rattle.law_simulation.proofs.sending.GoSound.{closed_sound}

-- ---- what is completed is the same

flushed : (number : ℕ) (rs : List Posted) → map (words.failed_request number statuses.Flush) rs ≡ failed_requests number statuses.Flush rs
unfolding failed_requests
flushed number [] = refl
flushed number (r ∷ rs) = ap (λ xs. words.failed_request number statuses.Flush r ∷ xs) (flushed number rs)

pub failing_same : (number : ℕ) (status : WcStatus) (rs : List Posted) → failing number status rs ≡ failed_requests number status rs
unfolding failing failed_requests
failing_same number status [] = refl
failing_same number status (r ∷ rs) = ap (λ xs. words.failed_request number status r ∷ xs) (flushed number rs)

in_use_same : (p : Progress) → words.in_use_by p ≡ option_to_list (receive_in p)
unfolding receive_in
in_use_same NoMessage = refl
in_use_same (InSend done receive) = refl
in_use_same (InWrite region off count done) = refl

-- ---- the queues after it

-- more entries in two queues
abbrev pub with_both : List CompletionQueue → Name → List Completion → Name → List Completion → List CompletionQueue
with_both queues a xs b ys = with_more (with_more queues a xs) b ys

completed_there : (queues : List CompletionQueue) (n : Name) (more : List Completion) → has_name (λ q. q.name) n queues ≡ true → completed n more queues ≡ with_more queues n more
unfolding completed
completed_there queues n more there = replaced-stored (λ q. q.name) n (machine.longer (queue_in queues n) more) queues there

still_there : (queues : List CompletionQueue) (a b : Name) (xs : List Completion) → has_name (λ q. q.name) a queues ≡ true → has_name (λ q. q.name) b queues ≡ true → has_name (λ q. q.name) b (with_more queues a xs) ≡ true
still_there queues a b xs there there' = has_name-store (λ q. q.name) a b (record (queue_in queues a) { entries = (queue_in queues a).entries ++ xs }) queues there (name-named_there (λ q. q.name) no_queue a queues there) ∙ there'

both_names : (queues : List CompletionQueue) (a b : Name) (xs ys : List Completion) → has_name (λ q. q.name) a queues ≡ true → has_name (λ q. q.name) b queues ≡ true → map (λ q. q.name) (with_both queues a xs b ys) ≡ map (λ q. q.name) queues
both_names queues a b xs ys there there' = with_more_names (with_more queues a xs) b ys (still_there queues a b xs there there') ∙ with_more_names queues a xs there

failed_are : (e : End) (status : WcStatus) (receives : List Receive) (queues : List CompletionQueue) → has_name (λ q. q.name) e.send_queue queues ≡ true → has_name (λ q. q.name) e.receive_queue queues ≡ true →
    failed_queues e status receives queues ≡ with_both queues e.send_queue (failed_requests e.number status (untold e)) e.receive_queue (failed_receives e.number receives)
unfolding failed_queues
failed_are e status receives queues there there' =
    ap (completed e.receive_queue (failed_receives e.number receives)) (completed_there queues e.send_queue (failed_requests e.number status (untold e)) there)
    ∙ completed_there (with_more queues e.send_queue (failed_requests e.number status (untold e))) e.receive_queue (failed_receives e.number receives) (still_there queues e.send_queue e.receive_queue _ there there')

completing_both : (x : state.Context) (queues : List CompletionQueue) (a b : Name) (xs ys : List Completion) → x.queues ≡ queues → has_name (λ q. q.name) a queues ≡ true → has_name (λ q. q.name) b queues ≡ true → words.completing (words.completing x a xs) b ys ≡ record x { queues = with_both queues a xs b ys }
completing_both x queues a b xs ys same there there' =
    ap (λ z. words.completing z b ys) (completing_there x queues a xs same there)
    ∙ completing_there (record x { queues = with_more queues a xs }) (with_more queues a xs) b ys refl (still_there queues a b xs there there')

-- ---- the machine's context

-- the context of the end o, which was f and has failed
abbrev pub over_context : machine.Context → Name → End → WcStatus → machine.Context
over_context y n f status = record y { ends = store_named (λ z. z.name) n (closed f) y.ends; queues = failed_queues f status (receives_of f) y.queues }

pub made_still : (m m' : Machine) (c : Name) (y : machine.Context) → MachineChanged m m' c y → has_context m' c ≡ true
unfolding has_context
made_still m m' c y cm = ap (has_name (λ x. x.name) c) cm.contexts ∙ (has_name-store (λ x. x.name) c c y m.contexts cm.there cm.named ∙ cm.there)

over_changed : (m : Machine) (o : ObjName) (status : WcStatus) → has_context m o.context ≡ true → HasEnd m o → MachineChanged m (steps.ended_with m o status) o.context (over_context (machine.context_of m o.context) o.name (machine.end_of m o) status)
unfolding steps.ended_with machine.with_queues
over_changed m o status there found =
    let g : End = closed (machine.end_of m o) in
    let m1 : Machine = machine.with_end m o g in
    let queues : List CompletionQueue = failed_queues (machine.end_of m o) status (receives_of (machine.end_of m o)) (machine.context_of m o.context).queues in
    let one : MachineChanged m m1 o.context (context_with m o g) = end_changed m o g there found in
    let here : machine.context_of m1 o.context ≡ context_with m o g = machines.context_here m m1 o.context (context_with m o g) one in
    let two : MachineChanged m1 (steps.ended_with m o status) o.context (record (machine.context_of m1 o.context) { queues = queues }) = with_context_changed m1 o.context (record (machine.context_of m1 o.context) { queues = queues }) (context_name m1 o.context) (made_still m m1 o.context (context_with m o g) one) in
    changed_twice m m1 (steps.ended_with m o status) o.context (context_with m o g) (over_context (machine.context_of m o.context) o.name (machine.end_of m o) status) one
    (subst (λ z. MachineChanged m1 (steps.ended_with m o status) o.context (record z { queues = queues })) here two)

over_numbers : (m : Machine) (o : ObjName) (status : WcStatus) → (steps.ended_with m o status).numbers ≡ m.numbers
unfolding steps.ended_with machine.with_queues machine.with_end machine.with_context
over_numbers m o status = refl

over_keys : (m : Machine) (o : ObjName) (status : WcStatus) → (steps.ended_with m o status).keys ≡ m.keys
unfolding steps.ended_with machine.with_queues machine.with_end machine.with_context
over_keys m o status = refl

-- ---- what an owner has of it

-- the end e with the link l, which goes to Error
abbrev pub over_end : state.End → Link → state.End
over_end e l = record e { unused = []; link = Some (ended_link l) }

owned_over : (e : state.End) (f : End) (l : Link) → owned_there (record e { link = Some l }) ≡ owned f → owned_there (over_end e l) ≡ owned (closed f)
unfolding owned_there owned untold link_or_none closed ended_link receive_in
owned_over e f l same =
    ap (λ (z : Owned). record z { ended = true; untold = []; in_use = None; unused = [] }) same
    ∙ ap (λ us. record (owned f) { ended = true; untold = us; in_use = None; unused = [] }) (sym (drop_all (length f.posted) f.posted (omega arith)))

-- ---- the context on both sides

module _ (w : World) (m : Machine) (o : ObjName) (l : Link) (s : Stands w m) (h : LiveEnd w m o l) where
  abbrev e : state.End
  e = end_there_of w o

  -- what was completed before it came to x and y, where the end had the link l' and was f'
  module _ (m' : Machine) (x : state.Context) (y : machine.Context) (f' : End) (l' : Link) (status : WcStatus) (live : x.ends ≡ (live_of w o.context).ends)
      (c : ContextGoes w m m' o (record x { ends = store_named (λ z. z.name) o.name (record e { link = Some l' }) x.ends }) y (record e { link = Some l' }) f' l') (owns : owned_there (record e { link = Some l' }) ≡ owned f') (connected : f'.connected ≡ true) (sound : IsEndSound y.regions (map (λ q. q.name) y.queues) f') where
    in_context : has_name (λ z. z.name) o.name y.ends ≡ true
    unfolding has_end
    in_context = ap (has_name (λ z. z.name) o.name) c.ends_here ∙ (has_name-store (λ z. z.name) o.name o.name f' (machine.context_of m o.context).ends h.found c.named_here ∙ h.found)

    context_is : machine.context_of m' o.context ≡ y
    context_is = machines.context_here m m' o.context y c.changed

    end_is : machine.end_of m' o ≡ f'
    unfolding machine.end_of
    end_is = ap (λ z. named (λ u. u.name) (machine.nobody o) o.name z.ends) context_is ∙ (ap (named (λ u. u.name) (machine.nobody o) o.name) c.ends_here ∙ named-store_same (λ u. u.name) (machine.nobody o) o.name f' (machine.context_of m o.context).ends c.named_here)

    send_there : has_name (λ q. q.name) f'.send_queue y.queues ≡ true
    send_there = queue_there f'.send_queue y.queues sound.send_queue

    receive_there : has_name (λ q. q.name) f'.receive_queue y.queues ≡ true
    receive_there = queue_there f'.receive_queue y.queues sound.receive_queue

    changed_here : MachineChanged m (steps.ended_with m' o status) o.context (over_context y o.name f' status)
    changed_here =
        changed_twice m m' (steps.ended_with m' o status) o.context y (over_context y o.name f' status) c.changed
        (subst (λ z. MachineChanged m' (steps.ended_with m' o status) o.context (over_context y o.name z status)) end_is
        (subst (λ z. MachineChanged m' (steps.ended_with m' o status) o.context (over_context z o.name (machine.end_of m' o) status)) context_is
        (over_changed m' o status (made_still m m' o.context y c.changed) (ap (λ z. has_name (λ u. u.name) o.name z.ends) context_is ∙ in_context))))

    -- the context of the world
    abbrev there_after : state.Context
    there_after = record x { ends = store_named (λ z. z.name) e.name (over_end e l') x.ends; queues = with_both y.queues f'.send_queue (failed_requests f'.number status (untold f')) f'.receive_queue (failed_receives f'.number (receives_of f')) }

    ended_is : ended_with x e l' status ≡ there_after
    unfolding ended_with words.with_end words.with_link words.with_unused owned_there owned link_or_none untold failed_receives
    ended_is =
        let x1 : state.Context = words.linked x (words.with_unused e []) (ended_link l') in
        let used : words.in_use_by l'.receiver.progress ++ e.unused ≡ receives_of f' = ap (λ us. us ++ e.unused) (in_use_same l'.receiver.progress) ∙ ap (λ z. option_to_list z.in_use ++ z.unused) owns in
        let requests : failing e.number status l'.sender.untold ≡ failed_requests f'.number status (untold f') = failing_same e.number status l'.sender.untold ∙ ap (λ z. failed_requests z.number status z.untold) owns in
        let receives : map (words.failed_receive e.number statuses.Flush) (words.in_use_by l'.receiver.progress ++ e.unused) ≡ failed_receives f'.number (receives_of f') = ap (map (words.failed_receive e.number statuses.Flush)) used ∙ ap (λ z. map (words.failed_receive z.number statuses.Flush) (receives_of f')) owns in
        ap (λ xs. words.completing (words.completing x1 e.send_cq xs) e.recv_cq (map (words.failed_receive e.number statuses.Flush) (words.in_use_by l'.receiver.progress ++ e.unused))) requests
        ∙ (ap (λ ys. words.completing (words.completing x1 e.send_cq (failed_requests f'.number status (untold f'))) e.recv_cq ys) receives
        ∙ (ap (λ z. words.completing (words.completing x1 z.send_queue (failed_requests f'.number status (untold f'))) z.receive_queue (failed_receives f'.number (receives_of f'))) owns
        ∙ completing_both x1 y.queues f'.send_queue f'.receive_queue (failed_requests f'.number status (untold f')) (failed_receives f'.number (receives_of f')) c.same.queues send_there receive_there))

    queues_are : failed_queues f' status (receives_of f') y.queues ≡ with_both y.queues f'.send_queue (failed_requests f'.number status (untold f')) f'.receive_queue (failed_receives f'.number (receives_of f'))
    queues_are = failed_are f' status (receives_of f') y.queues send_there receive_there

    ends_are : (over_context y o.name f' status).ends ≡ store_named (λ z. z.name) o.name (closed f') (machine.context_of m o.context).ends
    ends_are = ap (store_named (λ z. z.name) o.name (closed f')) c.ends_here ∙ stored_twice (λ z. z.name) o.name f' (closed f') (machine.context_of m o.context).ends c.named_here

    ends_there : there_after.ends ≡ store_named (λ z. z.name) o.name (over_end e l') (live_of w o.context).ends
    ends_there = ap (λ k. store_named (λ z. z.name) k (over_end e l') x.ends) (name_there w m o l s h) ∙ ap (store_named (λ z. z.name) o.name (over_end e l')) live

    -- the end lies in a domain that is there
    domain_is : has_word (closed f').domain y.domains ≡ true
    unfolding closed
    domain_is =
        subst (λ z. has_word z.domain y.domains ≡ true) (ap (named (λ u. u.name) (machine.nobody o) o.name) c.ends_here ∙ named-store_same (λ u. u.name) (machine.nobody o) o.name f' (machine.context_of m o.context).ends c.named_here)
        (All-named (λ z. has_word z.domain y.domains ≡ true) (λ z. z.name) (machine.nobody o) o.name y.ends c.sound.ends_in in_context)

    sound_after : IsContextSound m.keys (over_context y o.name f' status)
    unfolding closed
    sound_after =
        let before = connected_sound m.keys y o.name (machine.nobody o) (closed f') in_context c.named_here domain_is (closed_sound y.regions (map (λ q. q.name) y.queues) f' connected sound) c.sound in
        record {
          whole = before.whole;
          bytes = before.bytes;
          keyed = before.keyed;
          keyed_once = before.keyed_once;
          named_once = before.named_once;
          ends = queues_like y.regions _ _ _ (ap (map (λ q. q.name)) queues_are ∙ both_names y.queues f'.send_queue f'.receive_queue _ _ send_there receive_there) before.ends;
          regions_in = before.regions_in;
          ends_in = before.ends_in;
          regions_end = before.regions_end;
        }

    pub over_goes : ContextGoes w m (steps.ended_with m' o status) o (ended_with x e l' status) (over_context y o.name f' status) (over_end e l') (closed f') (ended_link l')
    unfolding closed
    over_goes = subst (λ z. ContextGoes w m (steps.ended_with m' o status) o z (over_context y o.name f' status) (over_end e l') (closed f') (ended_link l')) (sym ended_is) (record {
      name = c.name;
      changed = changed_here;
      ends = ends_there;
      named_there = name_there w m o l s h;
      link = refl;
      ends_here = ends_are;
      named_here = c.named_here;
      number = c.number;
      numbers = over_numbers m' o status ∙ c.numbers;
      keys = over_keys m' o status ∙ c.keys;
      same = record {
        domains = c.same.domains;
        regions = c.same.regions;
        queues = sym queues_are;
        ends = ap (map owned_there) ends_there ∙ (ends_store o.name (over_end e l') (closed f') (live_of w o.context).ends (machine.context_of m o.context).ends (live_same w m o.context s h.live).ends (owned_over e f' l' owns) ∙ ap (map owned) (sym ends_are));
      };
      sound = sound_after;
      regions = c.regions;
    })
