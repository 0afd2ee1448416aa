-- The step of an end on a response.
use Rattle.std.proofs.Common.{◌≡◌, ◌≢◌, ℕ, zero, suc, ◌+◌, ◌-◌, ◌≤◌, Bool, true, false, List, [], ◌∷◌, ◌++◌, drop, take, length, refl, ap, sym, ◌∙◌, arith, subst}
use Rattle.std.specs.Prelude.{◌==◌, nat_lt, All, Some, IsSome, bytes_eq, filter, map, nat_eq, if◌then◌else◌}
use Rattle.std.specs.List.{IsDistinct}
use Rattle.std.proofs.Math.ListN.{get_or}
use Rattle.std.proofs.lemmas.List.{length-drop, take-append-drop}
use Rattle.std.proofs.lemmas.List.Elements.{All-drop, All-take}
use Rattle.rdma_types.specs.declared.names.Name.{Name}
use Rattle.rdma_types.specs.declared.requests.Completion.{Completion}
use Rattle.rdma_types.specs.declared.requests.Terms.{Terms}
use Rattle.rdma_types.specs.declared.requests.WcStatus.{WcStatus}
use Rattle.rdma_types.specs.Kinds.{request_done}
use Rattle.rdma_types.specs.Lists.{store_named}
use Rattle.rdma_types.specs.Objects as objects
use Rattle.rdma_types.specs.Spans.{first_number, request_of, span_of}
use Rattle.rdma_types.specs.declared.requests.Request.{Request}
use Rattle.rdma_types.specs.declared.requests.WcStatus.TheVariants as status
use Rattle.rdma_types.specs.declared.answers.ArrivalEffect.TheVariants as took
use Rattle.rdma_types.specs.Limits.{AreTerms}
use Rattle.rdma_types.specs.Memory.{word_bytes}
use Rattle.protocol.specs.Memory.{landed}
use Rattle.responder.specs.Sound.{IsSound as IsServing}
use Rattle.requester.proofs.Bares.{length-bares}
use Rattle.rdma_types.proofs.Tables.{same_name}
use Rattle.page_pool.specs.Pool.{Pool, bytes_of}
use Rattle.end_queues.specs.Completions.{Queue}
use Rattle.memory_keys.specs.Regions.{regions_of}
use Rattle.end_queues.specs.declared.work_queues.posted.QueuedRequest.{QueuedRequest}
use Rattle.end_queues.specs.Untold.{posted_in, untold_in}
use Rattle.protocol.specs.EndWords.{completing, done_request, failed_receive, in_use_by, linked, with_end, with_link, with_sender, with_unused}
use Rattle.protocol.specs.Requester as rows
use Rattle.protocol.specs.Requester.{after_telling, cut_by, ended_link, ended_with, failing, takes_response, telling, told_completions}
use Rattle.protocol.specs.State.{Context, End, Link, Sender}
use Rattle.protocol.specs.Wire.{Packet}
use Rattle.requester.specs.declared.answers.ResponseEffect.{ResponseEffect}
use Rattle.requester.specs.declared.answers.ResponseEffect.TheVariants.{Acked, Ended, Landed, OldLanded, Rewound, Useless, Waits}
use Rattle.requester.specs.Sending.{KeepsQueue, Sending, bare, bares, numbers_of, sender_in, sender_of, sender_with}
use Rattle.requester.specs.Taking.{Taking, step_by, step_of, taken_response}
use Rattle.requester.proofs.Payloads.{place_same, response_in}
use Rattle.requester.proofs.Rows.{response_is}
use Rattle.end_completions.specs.Payloads.{payload_lists, payload_pages}
use Rattle.end_completions.proofs.Given.{AreKept, pages-kept}
use Rattle.endpoint_core.specs.declared.end.EndLink.{EndLink}
use Rattle.endpoint_core.specs.Ends.{Names, link_in, untold_by}
use Rattle.endpoint_core.specs.Queues.{StandsAt, count_at, nothing, promised, queues_of, settle_at}
use Rattle.endpoint_core.specs.Flushed.{all_receives}
use Rattle.endpoint_core.specs.Responded.{HasAnswered, is_useless, landed_by, request_in, response_took}
use Rattle.endpoint_core.specs.Sites.{IsHome, IsSound, Keeps, EndWithMemory, end_at, home}
use Rattle.endpoint_core.specs.Sound.{IsLinked, IsPosted}
use Rattle.endpoint_core.proofs.Ended.{count-here, promised-is}
use Rattle.endpoint_core.proofs.Frames.{all-posted-kept, link-of, none-of, untold-kept}
use Rattle.endpoint_core.proofs.Given.{all-front, append-none, distinct-rest, frame-free, frame-lists, given-held, given-regions, outside, rest-kept}
use Rattle.endpoint_core.proofs.Rows.{first_same}
use Rattle.endpoint_core.proofs.Settled.{Settles, completing-settles, keeps-settled, reserved-after, settles-at}

-- ---- words that look at no payload

untold-drop : (pool : Pool) (ps : List QueuedRequest) (n : ℕ) → untold_in pool (drop n ps) ≡ drop n (untold_in pool ps)
untold-drop pool ps zero = refl
untold-drop pool [] (suc n) = refl
untold-drop pool (p ∷ ps) (suc n) = untold-drop pool ps n

completions-in : (number : ℕ) (pool : Pool) (ps : List QueuedRequest) (n : ℕ)
    → map (done_request number) (filter (λ p. p.request.signaled) (take n (untold_in pool ps))) ≡ map (done_request number) (filter (λ p. p.request.signaled) (take n (bares ps)))
unfolding request_done
completions-in number pool ps zero = refl
completions-in number pool [] (suc n) = refl
completions-in number pool (p ∷ ps) (suc n) = by_signal p.request.signaled (completions-in number pool ps n)
  where
    by_signal : (b : Bool) → map (done_request number) (filter (λ p. p.request.signaled) (take n (untold_in pool ps))) ≡ map (done_request number) (filter (λ p. p.request.signaled) (take n (bares ps)))
        → map (done_request number) (if b then posted_in pool p ∷ filter (λ p. p.request.signaled) (take n (untold_in pool ps)) else filter (λ p. p.request.signaled) (take n (untold_in pool ps)))
        ≡ map (done_request number) (if b then bare p ∷ filter (λ p. p.request.signaled) (take n (bares ps)) else filter (λ p. p.request.signaled) (take n (bares ps)))
    by_signal true rest = ap (λ l. done_request number (bare p) ∷ l) rest
    by_signal false rest = rest

-- the sender with the bytes that its requests have in a pool
abbrev pub in_pool : Pool → List QueuedRequest → Sender → Sender
in_pool pool ps s = sender_with (untold_in pool ps) (numbers_of s)

told-count : (t : Terms) (pool : Pool) (ps : List QueuedRequest) (s : Sender) → s.untold ≡ bares ps → rows.told_count t (in_pool pool ps s) ≡ rows.told_count t s
told-count t pool ps s is = place_same pool ps t.mtu (s.una - s.first) ∙ sym (ap (λ us. request_of us t.mtu (s.una - s.first)) is)

told-completions : (number : ℕ) (t : Terms) (pool : Pool) (ps : List QueuedRequest) (s : Sender) → s.untold ≡ bares ps → told_completions number t (in_pool pool ps s) ≡ told_completions number t s
unfolding told_completions
told-completions number t pool ps s is =
    ap (λ n. map (done_request number) (filter (λ p. p.request.signaled) (take n (untold_in pool ps)))) (told-count t pool ps s is)
    ∙ (completions-in number pool ps (rows.told_count t s)
    ∙ sym (ap (λ us. map (done_request number) (filter (λ p. p.request.signaled) (take (rows.told_count t s) us))) is))

after-telling : (t : Terms) (a b : Pool) (ps : List QueuedRequest) (s : Sender) (new : Sending) → s.untold ≡ bares ps → sender_of new ≡ after_telling t s → new.items ≡ drop (rows.told_count t s) ps
    → AreKept a b (drop (rows.told_count t s) ps) → sender_in b new ≡ after_telling t (in_pool a ps s)
unfolding after_telling
after-telling t a b ps s new is numbers items kept =
    let k : ℕ = rows.told_count t s in
    let untold : untold_in b new.items ≡ drop k (untold_in a ps) = ap (untold_in b) items ∙ (untold-kept a b (drop k ps) kept ∙ untold-drop a ps k) in
    let first : s.first + first_number s.untold t.mtu k ≡ s.first + first_number (untold_in a ps) t.mtu k =
    ap (λ us. s.first + first_number us t.mtu k) is ∙ ap (λ n. s.first + n) (sym (first_same a ps t.mtu k)) in
    ap (λ us. sender_with us new.numbers) untold
    ∙ (ap (λ x. sender_with (drop k (untold_in a ps)) (numbers_of x)) numbers
    ∙ (ap (λ n. record s { untold = drop k (untold_in a ps); first = n }) first
    ∙ sym (ap (λ n. cut_by t (in_pool a ps s) n) (told-count t a ps s is))))

told-few : (us : List objects.Posted) (mtu n : ℕ) → request_of us mtu n ≤ length us
unfolding request_of
told-few [] mtu n = omega arith
told-few (p ∷ ps) mtu n = elim (nat_lt n (span_of p mtu)) as (λ b. (if b then 0 else suc (request_of ps mtu (n - span_of p mtu))) ≤ length (p ∷ ps)) [ true ↦ omega arith | false ↦ (let rest = told-few ps mtu (n - span_of p mtu) in omega (arith, rest)) ]

pub count-sum : (here a b n place : ℕ) → a + b ≡ n → count_at here n place ≡ count_at here a place + count_at here b place
count-sum here a b n place is = let none : ℕ = 0 in elim (here == place) as (λ v. (if v then n else none) ≡ (if v then a else none) + (if v then b else none)) [ true ↦ omega arith | false ↦ omega arith ]

-- ---- an end put in its own place twice

store-twice : {A : Type 0} (name : A → Name) (n : Name) (a b : A) (xs : List A) → name a ≡ n → store_named name n b (store_named name n a xs) ≡ store_named name n b xs
unfolding store_named
store-twice name n a b [] is = let here : bytes_eq (name a) n ≡ true = subst (λ m. bytes_eq m n ≡ true) (sym is) (same_name n) in rw here refl
store-twice name n a b (x ∷ xs) is = by_test (bytes_eq (name x) n) refl (store-twice name n a b xs is)
  where
    by_test : (v : Bool) → bytes_eq (name x) n ≡ v → store_named name n b (store_named name n a xs) ≡ store_named name n b xs → store_named name n b (store_named name n a (x ∷ xs)) ≡ store_named name n b (x ∷ xs)
    by_test true e rest = let here : bytes_eq (name a) n ≡ true = subst (λ m. bytes_eq m n ≡ true) (sym is) (same_name n) in rw (e, here) refl
    by_test false e rest = rw (e, e) (ap (λ l. x ∷ l) rest)

pub end-twice : (c : Context) (a b : End) → a.name ≡ b.name → with_end (with_end c a) b ≡ with_end c b
unfolding with_end
end-twice c a b same = ap (λ es. record c { ends = es }) (ap (λ n. store_named (λ x. x.name) b.name b (store_named (λ x. x.name) n a c.ends)) same ∙ store-twice (λ x. x.name) b.name a b c.ends same)

-- ---- the end after what landed and what was told

module _ (s : EndWithMemory) (l l' : EndLink) (S : Sender) (d : Packet) (T : ResponseEffect) (pool' : Pool) (qs' : List (Name × Queue))
    (sound : IsSound s nothing) (is : s.end.link ≡ Some l) (running : l.ended ≡ false)
    (answered : HasAnswered s.end.number s.send S d T l l' s.pool pool' s.held s.queues qs') where
  -- the site after it
  abbrev pub told : EndWithMemory
  told = record s { pool = pool'; queues = qs'; end = record s.end { link = Some l' } }

  linked-before : IsLinked s.pool s.held s.end l
  linked-before = link-of s.pool s.held s.end l sound.end is

  -- landing leaves the payloads
  landed-kept : AreKept s.pool answered.mid l.requester.items
  landed-kept = λ i p within.
      answered.landed'.others.others (get_or l.requester.items i p).payload.list (linked-before.posted i p within).payload.holds.lives (linked-before.posted i p within).payload.apart

  -- .. and telling leaves those of the others
  told-kept : AreKept s.pool pool' (drop (rows.told_count l.requester.terms S) l.requester.items)
  told-kept = λ i p within.
      rest-kept answered.mid pool' l.requester.items (rows.told_count l.requester.terms S) linked-before.apart answered.gives i p within
      ∙ All-drop (λ p. bytes_of answered.mid p.payload.list ≡ bytes_of s.pool p.payload.list) (rows.told_count l.requester.terms S) l.requester.items landed-kept i p within

  beside : All (λ p. All (λ h. h.list ≢ p.payload.list) s.held) (take (rows.told_count l.requester.terms S) l.requester.items)
  beside = All-take (λ p. All (λ h. h.list ≢ p.payload.list) s.held) (rows.told_count l.requester.terms S) l.requester.items (outside s.pool s.held s.end.domain l.requester.items linked-before.posted)

  regions-after : regions_of pool' s.held ≡ regions_of answered.mid s.held
  regions-after = given-regions answered.mid pool' s.held (take (rows.told_count l.requester.terms S) l.requester.items) answered.gives beside

  pub link-after : with_sender (link_in s.pool l) (after_telling l.terms (in_pool s.pool l.requester.items S)) ≡ link_in pool' l'
  unfolding with_sender
  link-after =
      let sender : sender_in pool' l'.requester ≡ after_telling l.requester.terms (in_pool s.pool l.requester.items S) =
      after-telling l.requester.terms s.pool pool' l.requester.items S l'.requester answered.untold answered.numbers answered.items told-kept in
      ap (λ t. record (link_in s.pool l) { sender = after_telling t (in_pool s.pool l.requester.items S) }) (sym linked-before.sending_terms)
      ∙ (ap (λ x. record (link_in s.pool l) { sender = x }) (sym sender)
      ∙ sym (ap (λ (x : EndLink). link_in pool' x) answered.same))

  pub told-step : (c : Context) (names : Names) → IsHome c names s
      → telling (landed_by c (bares l.requester.items) d T) (end_at names s) (link_in s.pool l) (in_pool s.pool l.requester.items S) ≡ home c names told
  unfolding telling with_end with_link
  told-step c names at =
      let e : End = end_at names s in
      let new : Link = with_sender (link_in s.pool l) (after_telling l.terms (in_pool s.pool l.requester.items S)) in
      let m : List Completion = told_completions s.end.number l.terms (in_pool s.pool l.requester.items S) in
      let n : ℕ = rows.told_count l.requester.terms S in
      let same-m : m ≡ told_completions s.end.number l.requester.terms S =
      ap (λ t. told_completions s.end.number t (in_pool s.pool l.requester.items S)) (sym linked-before.sending_terms)
      ∙ told-completions s.end.number l.requester.terms s.pool l.requester.items S answered.untold in
      let c1 : Context = record c { regions = regions_of answered.mid s.held } in
      ap (λ x. completing (linked x e new) names.send_cq m) (answered.landed'.landing c at.regions)
      ∙ (completing-settles (linked c1 e new) s.queues names.send_cq s.send n m at.queues at.send
      ∙ (ap (λ qs. with_end (record c1 { queues = queues_of qs }) (with_link e new)) (ap (λ x. settle_at s.queues s.send n x) same-m ∙ sym answered.queues)
      ∙ (ap (λ x. with_end (record c1 { queues = queues_of qs' }) (record e { link = Some x })) link-after
      ∙ ap (λ rs. with_end (record c { regions = rs; queues = queues_of qs' }) (end_at names told)) (sym regions-after))))

  -- what is told where nothing lands
  pub told-first : (c : Context) (names : Names) → IsHome c names s → (why : WcStatus) → T ≡ Ended why
      → completing c names.send_cq (told_completions s.end.number l.terms (in_pool s.pool l.requester.items S)) ≡ record c { regions = regions_of pool' s.held; queues = queues_of qs' }
  told-first c names at why ends =
      let n : ℕ = rows.told_count l.requester.terms S in
      let same-m : told_completions s.end.number l.terms (in_pool s.pool l.requester.items S) ≡ told_completions s.end.number l.requester.terms S =
      ap (λ t. told_completions s.end.number t (in_pool s.pool l.requester.items S)) (sym linked-before.sending_terms)
      ∙ told-completions s.end.number l.requester.terms s.pool l.requester.items S answered.untold in
      let none : c ≡ record c { regions = regions_of answered.mid s.held } = sym (ap (landed_by c (bares l.requester.items) d) ends) ∙ answered.landed'.landing c at.regions in
      completing-settles c s.queues names.send_cq s.send n (told_completions s.end.number l.terms (in_pool s.pool l.requester.items S)) at.queues at.send
      ∙ (ap (λ qs. record c { queues = queues_of qs }) (ap (λ x. settle_at s.queues s.send n x) same-m ∙ sym answered.queues)
      ∙ (ap (λ (x : Context). record x { queues = queues_of qs' }) none
      ∙ ap (λ rs. record c { regions = rs; queues = queues_of qs' }) (sym regions-after)))

  few : rows.told_count l.requester.terms S ≤ length l.requester.items
  few = let count = told-few S.untold l.requester.terms.mtu (S.una - S.first) in let size = ap length answered.untold in let bare-size = length-bares l.requester.items in omega (arith, count, size, bare-size)

  items-length : length l'.requester.items + rows.told_count l.requester.terms S ≡ length l.requester.items
  items-length = let size = ap length answered.items in let dropped = length-drop (rows.told_count l.requester.terms S) l.requester.items in let bound = few in omega (arith, size, dropped, bound)

  work : (place : ℕ) → promised s.send s.recv s.end place + nothing place ≡ promised s.send s.recv told.end place + count_at s.send (rows.told_count l.requester.terms S) place
  work place =
      let before = promised-is s.end l s.send s.recv place is in
      let after = promised-is told.end l' s.send s.recv place refl in
      let responder : l'.responder ≡ l.responder = ap (λ (x : EndLink). x.responder) answered.same in
      let receives : length (all_receives l' s.end.recvs) ≡ length (all_receives l s.end.recvs) = ap (λ r. length (in_use_by r.receiver.progress ++ s.end.recvs.items)) responder in
      let same = ap (λ n. count_at s.recv n place) receives in
      let sum = count-sum s.send (length l'.requester.items) (rows.told_count l.requester.terms S) (length l.requester.items) place items-length in
      omega (arith, before, after, same, sum)

  settles : Settles s.queues qs' (count_at s.send (rows.told_count l.requester.terms S))
  settles =
      let before = promised-is s.end l s.send s.recv s.send is in
      let enough = sound.reserved.enough s.send in
      let here = count-here s.send (length l.requester.items) in
      let bound = few in
      subst (λ qs. Settles s.queues qs (count_at s.send (rows.told_count l.requester.terms S))) (sym answered.queues)
      (settles-at s.queues s.send (rows.told_count l.requester.terms S) (told_completions s.end.number l.requester.terms S) sound.reserved.send_there (omega (arith, before, enough, here, bound)))

  pub told-sound : IsSound told nothing
  told-sound =
      let terms : l'.terms ≡ l.terms = ap (λ (x : EndLink). x.terms) answered.same in
      let ended : l'.ended ≡ l.ended = ap (λ (x : EndLink). x.ended) answered.same in
      let responder : l'.responder ≡ l.responder = ap (λ (x : EndLink). x.responder) answered.same in
      let moves : l'.moves ≡ l.moves = ap (λ (x : EndLink). x.moves) answered.same in
      let h = linked-before in
      record {
        end = record {
          queue = none-of s.pool s.held s.end l sound.end is;
          depth = sound.end.depth;
          state = record {
            terms = subst AreTerms (sym terms) h.terms;
            sending_terms = answered.terms ∙ (h.sending_terms ∙ sym terms);
            serving_terms = ap (λ r. r.terms) responder ∙ (h.serving_terms ∙ sym terms);
            depth = answered.depth ∙ h.depth;
            fit = let size = items-length in let fit = h.fit in omega (arith, size, fit);
            posted = subst (λ ps. All (IsPosted pool' s.held s.end.domain) ps) (sym answered.items)
                (all-posted-kept s.pool pool' s.held s.end.domain (drop (rows.told_count l.requester.terms S) l.requester.items) told-kept (All-drop (IsPosted s.pool s.held s.end.domain) (rows.told_count l.requester.terms S) l.requester.items h.posted));
            apart = subst (λ ps. IsDistinct nat_eq (payload_lists ps)) (sym answered.items) (distinct-rest l.requester.items (rows.told_count l.requester.terms S) h.apart);
            serving = subst (λ r. IsServing s.held s.end.domain r s.end.recvs.items) (sym responder) h.serving;
            none_untold = λ e. absurd (let no' : l.ended ≡ true = sym ended ∙ e in cc);
            none_unused = λ e. h.none_unused (sym ended ∙ e);
            no_message = λ e. ap (λ r. r.receiver.progress) responder ∙ h.no_message (sym ended ∙ e);
            running = λ e. ap (λ m. m.phase) moves ∙ h.running (sym ended ∙ e);
          };
        };
        regions = given-held answered.mid pool' s.held (take (rows.told_count l.requester.terms S) l.requester.items) answered.gives beside answered.landed'.regions;
        reserved = reserved-after s.queues qs' s.send s.recv s.end told.end nothing (count_at s.send (rows.told_count l.requester.terms S)) settles work sound.reserved;
      }

  pub told-keeps : Keeps s told [] nothing
  told-keeps =
      let n : ℕ = rows.told_count l.requester.terms S in
      let items : untold_by s.end.link ++ [] ≡ l.requester.items = append-none (untold_by s.end.link) ∙ ap untold_by is in
      let parts : l.requester.items ≡ take n l.requester.items ++ l'.requester.items = sym (ap (λ ps. take n l.requester.items ++ ps) answered.items ∙ take-append-drop n l.requester.items) in
      let lists = frame-lists answered.mid pool' s.held (untold_by s.end.link ++ []) (take n l.requester.items) l'.requester.items (items ∙ parts) answered.gives in
      let rest-kept' : AreKept answered.mid pool' l'.requester.items = subst (λ ps. AreKept answered.mid pool' ps) (sym answered.items) (rest-kept answered.mid pool' l.requester.items n linked-before.apart answered.gives) in
      let free = frame-free answered.mid pool' l.requester.items (take n l.requester.items) l'.requester.items parts answered.gives rest-kept' in
      let same = pages-kept s.pool answered.mid l.requester.items landed-kept in
      let all = ap (payload_pages s.pool) items in
      let free-same = answered.landed'.free in
      record {
        end = record { number = refl; domain = refl; send_depth = refl; recv_depth = refl };
        untold = record { gone = n; left = answered.items ∙ ap (drop n) (sym items) };
        regions = refl;
        lists = record {
          pages = answered.gives.pages ∙ answered.landed'.others.pages;
          others = λ list lives regions own.
              answered.gives.others list (own-front list own items parts)
              ∙ answered.landed'.others.others list lives regions;
        };
        kept = subst (λ ps. AreKept s.pool pool' ps) (sym answered.items) told-kept;
        free = omega (arith, free, same, all, free-same);
        queues = keeps-settled s.queues qs' s.send s.recv s.end told.end nothing (count_at s.send n) settles work;
      }
    where
      own-front : (list : ℕ) → All (λ x. x ≢ list) (payload_lists (untold_by s.end.link ++ [])) → untold_by s.end.link ++ [] ≡ l.requester.items
          → l.requester.items ≡ take (rows.told_count l.requester.terms S) l.requester.items ++ l'.requester.items → All (λ x. x ≢ list) (payload_lists (take (rows.told_count l.requester.terms S) l.requester.items))
      own-front list own items parts = all-front (λ x. x ≢ list) (take (rows.told_count l.requester.terms S) l.requester.items) l'.requester.items (subst (λ ps. All (λ x. x ≢ list) (payload_lists ps)) (items ∙ parts) own)

-- ---- the step

-- the protocol's answer to a response, from the requester's
response-step : (c : Context) (e : End) (pool : Pool) (l : EndLink) (d : Packet) → l.requester.terms ≡ l.terms → (d.opcode ≡ 0x12 → IsSome d.old)
    → takes_response c e (link_in pool l) d
    ≡ step_by c e (link_in pool l) d (taken_response l.requester.terms (sender_of l.requester) d).taken (in_pool pool l.requester.items (taken_response l.requester.terms (sender_of l.requester) d).sender)
unfolding step_of
response-step c e pool l d same old =
    response_is c e (link_in pool l) d old
    ∙ (ap (λ t. step_of c e (link_in pool l) d (taken_response t (sender_in pool l.requester) d)) (sym same)
    ∙ ap (λ (r : Taking). step_by c e (link_in pool l) d r.taken r.sender) (response_in pool l.requester d))

request-same : (pool : Pool) (ps : List QueuedRequest) (index : ℕ) → (request_in (untold_in pool ps) index).request ≡ (request_in (bares ps) index).request
request-same pool [] index = refl
request-same pool (p ∷ ps) zero = refl
request-same pool (p ∷ ps) (suc index) = request-same pool ps index

landed-same : (c : Context) (pool : Pool) (ps : List QueuedRequest) (d : Packet) (T : ResponseEffect) → landed_by c (untold_in pool ps) d T ≡ landed_by c (bares ps) d T
landed-same c pool ps d (Landed index off) = ap (λ (r : Request). landed c r.lkey (r.local + off) d.payload) (request-same pool ps index)
landed-same c pool ps d (OldLanded index old) = ap (λ (r : Request). landed c r.lkey r.local (word_bytes old)) (request-same pool ps index)
landed-same c pool ps d Acked = refl
landed-same c pool ps d Rewound = refl
landed-same c pool ps d Waits = refl
landed-same c pool ps d (Ended why) = refl
landed-same c pool ps d Useless = refl

-- a step that is no end
stays-by : (c : Context) (e : End) (pool : Pool) (l : EndLink) (d : Packet) (T : ResponseEffect) (S : Sender) → is_useless T ≡ false → ((why : WcStatus) → T ≡ Ended why → ⊥)
    → step_by c e (link_in pool l) d T S ≡ record { context = telling (landed_by c (untold_in pool l.requester.items) d T) e (link_in pool l) S; took = response_took T; sent = [] }
stays-by c e pool l d Acked S busy alive = refl
stays-by c e pool l d (Landed index off) S busy alive = refl
stays-by c e pool l d (OldLanded index old) S busy alive = refl
stays-by c e pool l d Rewound S busy alive = refl
stays-by c e pool l d Waits S busy alive = refl
stays-by c e pool l d (Ended why) S busy alive = absurd (alive why refl)
stays-by c e pool l d Useless S busy alive = absurd (cc)

useless-is : (T : ResponseEffect) → is_useless T ≡ true → T ≡ Useless
useless-is Acked u = absurd (cc)
useless-is (Landed index off) u = absurd (cc)
useless-is (OldLanded index old) u = absurd (cc)
useless-is Rewound u = absurd (cc)
useless-is Waits u = absurd (cc)
useless-is (Ended why) u = absurd (cc)
useless-is Useless u = refl

pub useless-taken : (T : ResponseEffect) → is_useless T ≡ true → T ≡ Useless
useless-taken = useless-is

-- a response at a site, by its answer
module _ (s : EndWithMemory) (l l' : EndLink) (d : Packet) (T : ResponseEffect) (pool' : Pool) (qs' : List (Name × Queue))
    (sound : IsSound s nothing) (is : s.end.link ≡ Some l) (running : l.ended ≡ false) (old : d.opcode ≡ 0x12 → IsSome d.old)
    (taken : T ≡ (taken_response l.requester.terms (sender_of l.requester) d).taken) where
  before : IsLinked s.pool s.held s.end l
  before = link-of s.pool s.held s.end l sound.end is

  -- the requester after the response
  abbrev pub moved : Sender
  moved = (taken_response l.requester.terms (sender_of l.requester) d).sender

  by-answer : (c : Context) (names : Names) → takes_response c (end_at names s) (link_in s.pool l) d ≡ step_by c (end_at names s) (link_in s.pool l) d T (in_pool s.pool l.requester.items (taken_response l.requester.terms (sender_of l.requester) d).sender)
  by-answer c names =
      response-step c (end_at names s) s.pool l d before.sending_terms old
      ∙ ap (λ t. step_by c (end_at names s) (link_in s.pool l) d t (in_pool s.pool l.requester.items (taken_response l.requester.terms (sender_of l.requester) d).sender)) (sym taken)

  pub useless-step : (c : Context) (names : Names) → is_useless T ≡ true → takes_response c (end_at names s) (link_in s.pool l) d ≡ record { context = c; took = response_took T; sent = [] }
  useless-step c names useless =
      by-answer c names
      ∙ (ap (λ t. step_by c (end_at names s) (link_in s.pool l) d t (in_pool s.pool l.requester.items (taken_response l.requester.terms (sender_of l.requester) d).sender)) (useless-is T useless)
      ∙ sym (ap (λ t. record { context = c; took = response_took t; sent = [] }) (useless-is T useless)))

  pub alive-step : (c : Context) (names : Names) → IsHome c names s → is_useless T ≡ false → ((why : WcStatus) → T ≡ Ended why → ⊥)
      → HasAnswered s.end.number s.send (taken_response l.requester.terms (sender_of l.requester) d).sender d T l l' s.pool pool' s.held s.queues qs'
      → takes_response c (end_at names s) (link_in s.pool l) d ≡ record { context = home c names (record s { pool = pool'; queues = qs'; end = record s.end { link = Some l' } }); took = response_took T; sent = [] }
  alive-step c names at busy alive answered =
      by-answer c names
      ∙ (stays-by c (end_at names s) s.pool l d T (in_pool s.pool l.requester.items (taken_response l.requester.terms (sender_of l.requester) d).sender) busy alive
      ∙ (ap (λ x. record { context = telling x (end_at names s) (link_in s.pool l) (in_pool s.pool l.requester.items (taken_response l.requester.terms (sender_of l.requester) d).sender); took = response_took T; sent = [] }) (landed-same c s.pool l.requester.items d T)
      ∙ ap (λ x. record { context = x; took = response_took T; sent = [] }) (told-step s l l' (taken_response l.requester.terms (sender_of l.requester) d).sender d T pool' qs' sound is running answered c names at)))

  -- a response that ends the end: what is told first, and then all else is flushed
  pub ended-step : (c : Context) (names : Names) (why : WcStatus) → IsHome c names s → T ≡ Ended why
      → HasAnswered s.end.number s.send (taken_response l.requester.terms (sender_of l.requester) d).sender d T l l' s.pool pool' s.held s.queues qs'
      → takes_response c (end_at names s) (link_in s.pool l) d
      ≡ record {
        context = ended_with (home c names (record s { pool = pool'; queues = qs'; end = record s.end { link = Some l' } })) (end_at names (record s { pool = pool'; queues = qs'; end = record s.end { link = Some l' } })) (link_in pool' l') why;
        took = took.Ended why;
        sent = [];
      }
  unfolding ended_with with_end with_link with_unused
  ended-step c names why at ends answered =
      let S' : Sender = in_pool s.pool l.requester.items (taken_response l.requester.terms (sender_of l.requester) d).sender in
      let e : End = end_at names s in
      let e1 : End = end_at names (record s { pool = pool'; queues = qs'; end = record s.end { link = Some l' } }) in
      let x : Context = record c { regions = regions_of pool' s.held; queues = queues_of qs' } in
      let told : completing c names.send_cq (told_completions s.end.number l.terms S') ≡ x =
      told-first s l l' (taken_response l.requester.terms (sender_of l.requester) d).sender d T pool' qs' sound is running answered c names at why ends in
      let link = link-after s l l' (taken_response l.requester.terms (sender_of l.requester) d).sender d T pool' qs' sound is running answered in
      by-answer c names
      ∙ (ap (λ t. step_by c e (link_in s.pool l) d t S') ends
      ∙ (ap (λ y. record { context = ended_with y e (with_sender (link_in s.pool l) (after_telling l.terms S')) why; took = took.Ended why; sent = [] }) told
      ∙ (ap (λ y. record { context = ended_with x e y why; took = took.Ended why; sent = [] }) link
      ∙ ap (λ y. record {
        context = completing (completing y names.send_cq (failing s.end.number why (sender_in pool' l'.requester).untold)) names.recv_cq (map (failed_receive s.end.number status.Flush) (in_use_by l'.responder.receiver.progress ++ s.end.recvs.items));
        took = took.Ended why;
        sent = [];
      }) (sym (end-twice x e1 (with_link (with_unused e1 []) (ended_link (link_in pool' l'))) refl)))))

-- a context that holds the end of a site as it is there
pub home-of : (c : Context) (names : Names) (s : EndWithMemory) → StandsAt s.queues names.send_cq s.send → StandsAt s.queues names.recv_cq s.recv → IsHome (home c names s) names s
unfolding with_end
home-of c names s send recv = record {
  regions = refl;
  queues = refl;
  there = end-twice (record c { regions = regions_of s.pool s.held; queues = queues_of s.queues }) (end_at names s) (end_at names s) refl;
  send = send;
  recv = recv;
}

pub home-twice : (c : Context) (names : Names) (s s' : EndWithMemory) → home (home c names s) names s' ≡ home c names s'
unfolding with_end
home-twice c names s s' = end-twice (record c { regions = regions_of s'.pool s'.held; queues = queues_of s'.queues }) (end_at names s) (end_at names s') refl

-- ---- what a response leaves of a requester

pub sending-same : (a b : Sending) → KeepsQueue a b → sender_of b ≡ sender_of a → b ≡ a
sending-same a b keeps is =
    ap (λ t. record b { terms = t }) keeps.terms
    ∙ (ap (λ n. record { terms = a.terms; depth = n; items = b.items; numbers = b.numbers }) keeps.depth
    ∙ (ap (λ ps. record { terms = a.terms; depth = a.depth; items = ps; numbers = b.numbers }) keeps.items
    ∙ ap (λ s. record { terms = a.terms; depth = a.depth; items = a.items; numbers = numbers_of s }) is))
