-- The step of an end on a response, whole: nothing, or what lands and is told.
use Rattle.std.proofs.Common.{◌≡◌, ◌≢◌, ℕ, zero, suc, ◌+◌, Bool, true, false, List, [], ◌∷◌, ◌++◌, drop, refl, ap, sym, ◌∙◌, arith, subst}
use Rattle.std.specs.Prelude.{All, Some, IsSome, is_some}
use Rattle.std.proofs.Math.Seq.{drop-nil}
use Rattle.std.proofs.lemmas.List.Elements.{All-tail}
use Rattle.rdma_types.specs.declared.names.Name.{Name}
use Rattle.rdma_types.specs.declared.requests.WcStatus.{WcStatus}
use Rattle.page_pool.specs.Pool.{Pool, bytes_of, free_pages}
use Rattle.end_queues.specs.Completions.{Queue}
use Rattle.memory_keys.specs.declared.RegisteredRegion.{RegisteredRegion}
use Rattle.end_queues.specs.declared.work_queues.posted.QueuedRequest.{QueuedRequest}
use Rattle.protocol.specs.Requester.{takes_response}
use Rattle.protocol.specs.State.{Context}
use Rattle.protocol.specs.Wire.{Fits, Packet, has_old, layout_of}
use Rattle.protocol.specs.declared.wire.Headers.TheVariants as headers
use Rattle.requester.specs.declared.answers.ResponseEffect.{ResponseEffect}
use Rattle.requester.specs.declared.answers.ResponseEffect.TheVariants.{Ended}
use Rattle.requester.specs.Sending.{sender_of}
use Rattle.requester.specs.Taking.{taken_response}
use Rattle.end_completions.specs.Payloads.{payload_lists, payload_pages}
use Rattle.endpoint_core.specs.declared.end.EndLink.{EndLink}
use Rattle.endpoint_core.specs.Ends.{Names, link_in, untold_by}
use Rattle.endpoint_core.specs.Queues.{nothing, promised, reserved_in}
use Rattle.endpoint_core.specs.Responded.{HasAnswered, is_useless, response_took}
use Rattle.endpoint_core.specs.Sites.{IsHome, IsSound, Keeps, EndWithMemory, end_at, home}
use Rattle.endpoint_core.proofs.Answered.{alive-step, told-keeps, told-sound, useless-step}
use Rattle.endpoint_core.proofs.Frames.{home-same, same-site}
use Rattle.endpoint_core.proofs.Given.{append-none}
use Rattle.endpoint_core.proofs.Settled.{keeps-settled, settles-none}

-- ---- datagrams

-- an ATOMIC acknowledge has an old value
pub old-there : (d : Packet) → Fits d → d.opcode ≡ 0x12 → IsSome d.old
unfolding layout_of
old-there d fits is =
    let known : layout_of 0x12 ≡ Some fits.layout = sym (ap layout_of is) ∙ fits.known in
    let layout : fits.layout ≡ record { headers = headers.AethOld; payload = false } = cc in
    fits.old ∙ ap (λ l. has_old l.headers) layout

-- ---- one step, then another

drop-twice : {A : Type 0} (a b : ℕ) (xs : List A) → drop b (drop a xs) ≡ drop (a + b) xs
drop-twice zero b xs = ap (λ n. drop n xs) (zero-left b)
  where
    zero-left : (n : ℕ) → n ≡ 0 + n
    zero-left n = omega arith
drop-twice (suc a) b [] = drop-nil b ∙ sym (drop-nil (suc a + b))
drop-twice (suc a) b (x ∷ xs) = drop-twice a b xs ∙ ap (λ n. drop n (x ∷ xs)) (suc-left a b)
  where
    suc-left : (m n : ℕ) → suc (m + n) ≡ suc m + n
    suc-left m n = omega arith

lists-rest : (P : ℕ → Type 0) (n : ℕ) (ps : List QueuedRequest) → All P (payload_lists ps) → All P (payload_lists (drop n ps))
lists-rest P zero ps all = all
lists-rest P (suc n) [] all = all
lists-rest P (suc n) (p ∷ ps) all = lists-rest P n ps (All-tail P p.payload.list (payload_lists ps) all)

all-rest : (P : QueuedRequest → Type 0) (n : ℕ) (ps : List QueuedRequest) → All P ps → All P (drop n ps)
all-rest P zero ps all = all
all-rest P (suc n) [] all = all
all-rest P (suc n) (p ∷ ps) all = all-rest P n ps (All-tail P p ps all)

pub keeps-both : (a b c : EndWithMemory) → b.send ≡ a.send → b.recv ≡ a.recv → Keeps a b [] nothing → Keeps b c [] nothing → Keeps a c [] nothing
keeps-both a b c send recv one two =
    let mid : untold_by b.end.link ++ [] ≡ untold_by b.end.link = append-none (untold_by b.end.link) in
    record {
      end = record {
        number = two.end.number ∙ one.end.number;
        domain = two.end.domain ∙ one.end.domain;
        send_depth = two.end.send_depth ∙ one.end.send_depth;
        recv_depth = two.end.recv_depth ∙ one.end.recv_depth;
      };
      untold = record {
        gone = one.untold.gone + two.untold.gone;
        left = two.untold.left ∙ (ap (drop two.untold.gone) (mid ∙ one.untold.left) ∙ drop-twice one.untold.gone two.untold.gone (untold_by a.end.link ++ []));
      };
      regions = two.regions ∙ one.regions;
      lists = record {
        pages = two.lists.pages ∙ one.lists.pages;
        others = λ list lives regions own.
            let before = one.lists.others list lives regions own in
            two.lists.others list (ap is_some before ∙ lives) (subst (λ hs. All (λ h. h.list ≢ list) hs) (sym one.regions) regions)
            (subst (λ ps. All (λ x. x ≢ list) (payload_lists ps)) (sym (mid ∙ one.untold.left)) (lists-rest (λ x. x ≢ list) one.untold.gone (untold_by a.end.link ++ []) own))
            ∙ before;
      };
      kept =
          let rest : All (λ p. bytes_of b.pool p.payload.list ≡ bytes_of a.pool p.payload.list) (untold_by c.end.link) =
          subst (λ ps. All (λ p. bytes_of b.pool p.payload.list ≡ bytes_of a.pool p.payload.list) ps) (sym (two.untold.left ∙ ap (drop two.untold.gone) mid))
          (all-rest (λ p. bytes_of b.pool p.payload.list ≡ bytes_of a.pool p.payload.list) two.untold.gone (untold_by b.end.link) one.kept) in
          λ i p within. two.kept i p within ∙ rest i p within;
      free = let x = two.free in let y = one.free in let same = ap (payload_pages b.pool) mid in omega (arith, x, y, same);
      queues = record {
        names = two.queues.names ∙ one.queues.names;
        capacities = two.queues.capacities ∙ one.queues.capacities;
        balance = λ place.
            let x = subst (λ n. reserved_in c.queues place + (promised n b.recv b.end place + nothing place) ≡ reserved_in b.queues place + promised n b.recv c.end place) send (two.queues.balance place) in
            let x' = subst (λ n. reserved_in c.queues place + (promised a.send n b.end place + nothing place) ≡ reserved_in b.queues place + promised a.send n c.end place) recv x in
            let y = one.queues.balance place in
            omega (arith, x', y);
      };
    }

pub keeps-same : (s : EndWithMemory) → Keeps s s [] nothing
keeps-same s = record {
  end = record { number = refl; domain = refl; send_depth = refl; recv_depth = refl };
  untold = record { gone = 0; left = sym (append-none (untold_by s.end.link)) };
  regions = refl;
  lists = record { pages = refl; others = λ list lives regions own. refl };
  kept = λ i p within. refl;
  free = ap (λ ps. free_pages s.pool + payload_pages s.pool ps) (sym (append-none (untold_by s.end.link)));
  queues = keeps-settled s.queues s.queues s.send s.recv s.end s.end nothing nothing (settles-none s.queues) (λ place. refl);
}

-- ---- a response that does not end the end

-- what it does at a site
pub record IsStep (s s' : EndWithMemory) (l : EndLink) (d : Packet) (T : ResponseEffect) : Type 0 where
  pub step : (c : Context) (names : Names) → IsHome c names s → takes_response c (end_at names s) (link_in s.pool l) d ≡ record { context = home c names s'; took = response_took T; sent = [] }
  pub sound : IsSound s' nothing
  pub keeps : Keeps s s' [] nothing

module _ (s : EndWithMemory) (l l' : EndLink) (d : Packet) (T : ResponseEffect) (pool' : Pool) (held' : List RegisteredRegion) (qs' : List (Name × Queue))
    (sound : IsSound s nothing) (is : s.end.link ≡ Some l) (running : l.ended ≡ false) (old : d.opcode ≡ 0x12 → IsSome d.old)
    (taken : T ≡ (taken_response l.requester.terms (sender_of l.requester) d).taken) (regions : held' ≡ s.held)
    (link : is_useless T ≡ true → l' ≡ l) (pool : is_useless T ≡ true → pool' ≡ s.pool) (queues : is_useless T ≡ true → qs' ≡ s.queues)
    (answered : is_useless T ≡ false → HasAnswered s.end.number s.send (taken_response l.requester.terms (sender_of l.requester) d).sender d T l l' s.pool pool' s.held s.queues qs') where
  -- the site after it
  abbrev pub after : EndWithMemory
  after = record s { pool = pool'; held = held'; queues = qs'; end = record s.end { link = Some l' } }

  pub response-whole : ((why : WcStatus) → T ≡ Ended why → ⊥) → IsStep s after l d T
  response-whole alive = by_busy (is_useless T) refl
    where
      by_busy : (b : Bool) → is_useless T ≡ b → IsStep s after l d T
      by_busy true u =
          let same : s ≡ after =
          same-site s l l' is (link u)
          ∙ (ap (λ p. record s { pool = p; end = record s.end { link = Some l' } }) (sym (pool u))
          ∙ (ap (λ h. record s { pool = pool'; held = h; end = record s.end { link = Some l' } }) (sym regions)
          ∙ ap (λ q. record s { pool = pool'; held = held'; queues = q; end = record s.end { link = Some l' } }) (sym (queues u)))) in
          record {
            step = λ c names at.
                useless-step s l l' d T pool' qs' sound is running old taken c names u
                ∙ ap (λ x. record { context = x; took = response_took T; sent = [] }) (sym (home-same c names s at) ∙ ap (λ x. home c names x) same);
            sound = subst (λ x. IsSound x nothing) same sound;
            keeps = subst (λ x. Keeps s x [] nothing) same (keeps-same s);
          }
      by_busy false u =
          let S = (taken_response l.requester.terms (sender_of l.requester) d).sender in
          let same : record s { pool = pool'; queues = qs'; end = record s.end { link = Some l' } } ≡ after =
          ap (λ h. record s { pool = pool'; held = h; queues = qs'; end = record s.end { link = Some l' } }) (sym regions) in
          record {
            step = λ c names at.
                alive-step s l l' d T pool' qs' sound is running old taken c names at u alive (answered u)
                ∙ ap (λ x. record { context = home c names x; took = response_took T; sent = [] }) same;
            sound = subst (λ x. IsSound x nothing) same (told-sound s l l' S d T pool' qs' sound is running (answered u));
            keeps = subst (λ x. Keeps s x [] nothing) same (told-keeps s l l' S d T pool' qs' sound is running (answered u));
          }
