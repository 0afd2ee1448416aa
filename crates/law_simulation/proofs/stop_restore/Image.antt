-- The context of the image of a context is that context, but that Paused is no field of an image.
use Rattle.std.proofs.Common.{◌≡◌, ℕ, suc, List, [], ◌∷◌, map, true, refl, sym, ap, ◌∙◌, inl, inr}
use Rattle.std.specs.Prelude.{Option, Some, None, option_map, get_or, ◌||◌, if◌then◌else◌, All}
use Rattle.std.proofs.lemmas.Bool.Decides.{eqb_tells}
use Rattle.std.proofs.lemmas.List.Elements.{All-head, All-tail}
use Rattle.rdma_types.specs.declared.names.Name.{Name}
use Rattle.rdma_types.specs.Lists.{has, has_name, has_word}
use Rattle.rdma_types.specs.Objects.{CompletionQueue, Posted, Region}
use Rattle.protocol.specs.Images.{place_of_name, place_of_key, name_at, region_image, queue_image, posted_image, progress_image, link_image, untold_images, end_image, image_of, region_of_image, queue_of_image, posted_of_image, local_key_at, progress_of_image, link_of_image, end_of_image, context_of}
use Rattle.protocol.specs.EndWords.{is_resuming}
use Rattle.protocol.specs.Moves.{unpaused}
use Rattle.protocol.specs.State.{Progress, NoMessage, InSend, InWrite, Phase, Running, Paused, Resuming, Link, End, Context}
use Rattle.law_simulation.proofs.relation.Tables.{name_tells}

-- ---- a context without Paused

abbrev pub calm_link : Link → Link
calm_link l = record l { moving = record l.moving { phase = unpaused l.moving.phase } }

abbrev pub calm_end : End → End
calm_end e = record e { link = option_map calm_link e.link }

abbrev pub calm : Context → Context
calm x = record x { ends = map calm_end x.ends }

phase_back : (p : Phase) → (if is_resuming p then Resuming else Running) ≡ unpaused p
phase_back Running = refl
phase_back Paused = refl
phase_back Resuming = refl

-- ---- names and keys that are there

name_back : (n : Name) (ns : List Name) → has_word n ns ≡ true → name_at ns (place_of_name n ns) ≡ n
unfolding has_name place_of_name
name_back n [] h = absurd (cc)
name_back n (x ∷ xs) h = elim (name_tells x n) [
  | inl t ↦ ap (λ b. get_or (x ∷ xs) (if b then 0 else suc (place_of_name n xs)) []) t.0 ∙ t.1
  | inr t ↦ ap (λ b. get_or (x ∷ xs) (if b then 0 else suc (place_of_name n xs)) []) t.0 ∙ name_back n xs (ap (λ b. b || has_word n xs) (sym t.0) ∙ h)
]

key_back : (domains : List Name) (k : ℕ) (rs : List Region) → has (λ r. r.keys.local) k rs ≡ true → local_key_at (map (region_image domains) rs) (place_of_key k rs) ≡ k
unfolding has place_of_key
key_back domains k [] h = absurd (cc)
key_back domains k (r ∷ rs) h = elim (eqb_tells r.keys.local k) [
  | inl t ↦ ap (λ b. local_key_at (region_image domains r ∷ map (region_image domains) rs) (if b then 0 else suc (place_of_key k rs))) t.0 ∙ t.1
  | inr t ↦ ap (λ b. local_key_at (region_image domains r ∷ map (region_image domains) rs) (if b then 0 else suc (place_of_key k rs))) t.0 ∙ key_back domains k rs (ap (λ b. b || has (λ r. r.keys.local) k rs) (sym t.0) ∙ h)
]

-- ---- parts

region_back : (domains : List Name) (r : Region) → has_word r.domain domains ≡ true → region_of_image domains (region_image domains r) ≡ r
region_back domains r h = λ i. record { name = r.name; domain = name_back r.domain domains h i; base = r.base; length = r.length; rights = r.rights; keys = r.keys; bytes = r.bytes }

regions_back : (domains : List Name) (rs : List Region) → All (λ r. has_word r.domain domains ≡ true) rs → map (region_of_image domains) (map (region_image domains) rs) ≡ rs
regions_back domains [] all = refl
regions_back domains (r ∷ rs) all =
    ap (λ x. x ∷ map (region_of_image domains) (map (region_image domains) rs)) (region_back domains r (All-head (λ x. has_word x.domain domains ≡ true) r rs all))
    ∙ ap (λ xs. r ∷ xs) (regions_back domains rs (All-tail (λ x. has_word x.domain domains ≡ true) r rs all))

queues_back : (qs : List CompletionQueue) → map queue_of_image (map queue_image qs) ≡ qs
queues_back [] = refl
queues_back (q ∷ qs) = ap (λ xs. q ∷ xs) (queues_back qs)

queue_names_back : (qs : List CompletionQueue) → map (λ q. q.name) (map queue_image qs) ≡ map (λ q. q.name) qs
queue_names_back [] = refl
queue_names_back (q ∷ qs) = ap (λ xs. q.name ∷ xs) (queue_names_back qs)

posted_back : (ps : List Posted) → map posted_of_image (map posted_image ps) ≡ ps
posted_back [] = refl
posted_back (p ∷ ps) = ap (λ xs. p ∷ xs) (posted_back ps)

-- a message in progress writes a region that is there
abbrev pub IsFound : List Region → Progress → Type 0
IsFound rs NoMessage = Unit {0}
IsFound rs (InSend bytes receive) = Unit {0}
IsFound rs (InWrite region off count bytes) = has (λ r. r.keys.local) region rs ≡ true

progress_back : (domains : List Name) (rs : List Region) (p : Progress) → IsFound rs p → progress_of_image (map (region_image domains) rs) (progress_image rs p) ≡ p
progress_back domains rs NoMessage h = refl
progress_back domains rs (InSend bytes receive) h = refl
progress_back domains rs (InWrite region off count bytes) h = ap (λ k. InWrite k off count bytes) (key_back domains region rs h)

link_back : (domains : List Name) (rs : List Region) (l : Link) → IsFound rs l.receiver.progress → link_of_image (map (region_image domains) rs) (map posted_image l.sender.untold) (link_image rs l) ≡ calm_link l
unfolding link_of_image link_image
link_back domains rs l h = λ i. record {
  ended = l.ended;
  peer = l.peer;
  terms = l.terms;
  moving = record { phase = phase_back l.moving.phase i; own = l.moving.own; recorded = l.moving.recorded; partner = l.moving.partner };
  sender = record { untold = posted_back l.sender.untold i; first = l.sender.first; una = l.sender.una; next = l.sender.next; top = l.sender.top; spent = l.sender.spent; waits = l.sender.waits; rnr_wait = l.sender.rnr_wait };
  receiver = record { expected = l.receiver.expected; nak_sent = l.receiver.nak_sent; msn = l.receiver.msn; progress = progress_back domains rs l.receiver.progress h i; kept = l.receiver.kept };
}

abbrev pub IsLinkFound : List Region → Option Link → Type 0
IsLinkFound rs None = Unit {0}
IsLinkFound rs (Some l) = IsFound rs l.receiver.progress

links_back : (domains : List Name) (rs : List Region) (l : Option Link) → IsLinkFound rs l → option_map (link_of_image (map (region_image domains) rs) (untold_images l)) (option_map (link_image rs) l) ≡ option_map calm_link l
links_back domains rs None h = refl
links_back domains rs (Some l) h = ap Some (link_back domains rs l h)

-- ---- an end, and the whole

-- what an end names is there
pub record IsEndFound (x : Context) (e : End) : Type 0 where
  pub domain : has_word e.domain x.domains ≡ true
  pub send : has_word e.send_cq (map (λ q. q.name) x.queues) ≡ true
  pub receive : has_word e.recv_cq (map (λ q. q.name) x.queues) ≡ true
  pub link : IsLinkFound x.regions e.link

queue_back : (x : Context) (n : Name) → has_word n (map (λ q. q.name) x.queues) ≡ true → name_at (map (λ q. q.name) (map queue_image x.queues)) (place_of_name n (map (λ q. q.name) x.queues)) ≡ n
queue_back x n h = ap (λ ns. name_at ns (place_of_name n (map (λ q. q.name) x.queues))) (queue_names_back x.queues) ∙ name_back n (map (λ q. q.name) x.queues) h

end_back : (x : Context) (e : End) → IsEndFound x e → end_of_image (image_of x) (end_image x e) ≡ calm_end e
unfolding end_of_image end_image image_of
end_back x e h = λ i. record {
  name = e.name;
  number = e.number;
  domain = name_back e.domain x.domains h.domain i;
  send_cq = queue_back x e.send_cq h.send i;
  recv_cq = queue_back x e.recv_cq h.receive i;
  send_depth = e.send_depth;
  recv_depth = e.recv_depth;
  unused = e.unused;
  link = links_back x.domains x.regions e.link h.link i;
}

ends_back : (x : Context) (es : List End) → All (IsEndFound x) es → map (end_of_image (image_of x)) (map (end_image x) es) ≡ map calm_end es
ends_back x [] all = refl
ends_back x (e ∷ es) all =
    ap (λ z. z ∷ map (end_of_image (image_of x)) (map (end_image x) es)) (end_back x e (All-head (IsEndFound x) e es all))
    ∙ ap (λ zs. calm_end e ∷ zs) (ends_back x es (All-tail (IsEndFound x) e es all))

pub image_back : (x : Context) → All (λ r. has_word r.domain x.domains ≡ true) x.regions → All (IsEndFound x) x.ends → context_of (image_of x) ≡ calm x
unfolding context_of image_of
image_back x regions ends = λ i. record {
  name = x.name;
  domains = x.domains;
  regions = regions_back x.domains x.regions regions i;
  queues = queues_back x.queues i;
  ends = ends_back x x.ends ends i;
}
