-- Groups of fields are read alike where more bytes come.
use Rattle.std.proofs.Common.{◌≡◌, ℕ, ◌+◌, ◌-◌, Bool, List, ◌++◌, length, drop, ap, ◌∙◌, subst, arith, length-drop}
use Rattle.std.proofs.lemmas.List.{drop-drop}
use Rattle.rdma_types.specs.declared.names.Name.{Name}
use Rattle.rdma_types.specs.declared.requests.Terms.{Terms}
use Rattle.rdma_types.specs.Objects.{Region}
use Rattle.protocol.specs.declared.images.EndImage.{EndImage}
use Rattle.protocol.specs.declared.images.LinkImage.{LinkImage}
use Rattle.protocol.specs.declared.images.RegionImage.{RegionImage}
use Rattle.protocol.specs.Dumps.{Reading, Reader, Good, ReadQueue, count_field}
use Rattle.law_dump_round_trip.proofs.Steady.{IsSteady, Stays, Goes, GoesOn, then_steady, gives_steady, raw_steady, magic_steady, number_steady, name_steady, placed_steady, progress_steady, terms_steady}
use Rattle.dump_reader.specs.declared.heads.RequestHead.{RequestHead}
use Rattle.dump_reader.specs.declared.heads.RequestPosition.{RequestPosition}
use Rattle.dump_reader.specs.Ahead.{opening_field}
use Rattle.dump_reader.specs.Groups.{region_head_field, queue_head_field, end_head_field, peer_field, numbers_field, waiting_field, message_field, link_head_field, request_head_field, request_places_field, request_start_field}
use Rattle.dump_reader.specs.Steps.{IsLeft}

-- ---- groups of fields

pub opening_steady : IsSteady opening_field
unfolding opening_field
opening_steady =
    then_steady (then_steady (raw_steady 8) magic_steady) λ same. then_steady (number_steady _ _ _) λ version. then_steady (name_steady _) λ name.
    then_steady (number_steady _ _ _) λ count. gives_steady _

pub region_head_steady : (domains : ℕ) (seen : List RegionImage) → IsSteady (region_head_field domains seen)
unfolding region_head_field
region_head_steady domains seen =
    then_steady (name_steady _) λ name. then_steady (number_steady _ _ _) λ domain. then_steady (number_steady _ _ _) λ base.
    then_steady (number_steady _ _ _) λ length'. then_steady (number_steady _ _ _) λ rights. then_steady (number_steady _ _ _) λ local.
    then_steady (number_steady _ _ _) λ remote. gives_steady _

pub queue_head_steady : (seen : List ReadQueue) → IsSteady (queue_head_field seen)
unfolding queue_head_field
queue_head_steady seen =
    then_steady (name_steady _) λ name. placed_steady λ place. then_steady (number_steady _ _ _) λ capacity.
    then_steady (number_steady _ _ _) λ count. gives_steady _

pub end_head_steady : (domains queues : ℕ) (seen : List EndImage) → IsSteady (end_head_field domains queues seen)
unfolding end_head_field
end_head_steady domains queues seen =
    then_steady (name_steady _) λ name. then_steady (number_steady _ _ _) λ n. then_steady (number_steady _ _ _) λ domain.
    then_steady (number_steady _ _ _) λ send_cq. then_steady (number_steady _ _ _) λ recv_cq. then_steady (number_steady _ _ _) λ send_depth.
    then_steady (number_steady _ _ _) λ recv_depth. then_steady (number_steady _ _ _) λ state. gives_steady _

peer_steady : (ended : Bool) → IsSteady (peer_field ended)
unfolding peer_field
peer_steady ended =
    then_steady (number_steady _ _ _) λ peer. then_steady (number_steady _ _ _) λ ip. then_steady (number_steady _ _ _) λ port.
    then_steady (number_steady _ _ _) λ moves. then_steady (number_steady _ _ _) λ partner_moves. then_steady (number_steady _ _ _) λ resuming. gives_steady _

numbers_steady : (ended : Bool) → IsSteady (numbers_field ended)
unfolding numbers_field
numbers_steady ended =
    then_steady (number_steady _ _ _) λ first. then_steady (number_steady _ _ _) λ una. then_steady (number_steady _ _ _) λ next.
    then_steady (number_steady _ _ _) λ top. gives_steady _

waiting_steady : (terms : Terms) → IsSteady (waiting_field terms)
unfolding waiting_field
waiting_steady terms =
    then_steady (number_steady _ _ _) λ spent. then_steady (number_steady _ _ _) λ waits. then_steady (number_steady _ _ _) λ rnr_wait.
    then_steady (number_steady _ _ _) λ expected. then_steady (number_steady _ _ _) λ nak_sent. then_steady (number_steady _ _ _) λ msn. gives_steady _

message_steady : (regions : List Region) (domain : Name) (mtu : ℕ) (ended : Bool) → IsSteady (message_field regions domain mtu ended)
unfolding message_field
message_steady regions domain mtu ended = then_steady (number_steady _ _ _) λ code. progress_steady regions domain mtu code

pub link_head_steady : (regions : List Region) (domain : Name) (ended : Bool) → IsSteady (link_head_field regions domain ended)
unfolding link_head_field
link_head_steady regions domain ended =
    then_steady (peer_steady ended) λ peer. then_steady terms_steady λ terms. then_steady (numbers_steady ended) λ numbers.
    then_steady (waiting_steady terms) λ waiting. then_steady (message_steady _ _ _ _) λ progress'. then_steady (number_steady _ _ _) λ count. gives_steady _

pub request_head_steady : (version : ℕ) (l : LinkImage) (count i low : ℕ) (landing : Bool) → IsSteady (request_head_field version l count i low landing)
unfolding request_head_field
request_head_steady version l count i low landing =
    then_steady (number_steady _ _ _) λ id. then_steady (number_steady _ _ _) λ k. then_steady (number_steady _ _ _) λ flags.
    then_steady (number_steady _ _ _) λ imm. then_steady (number_steady _ _ _) λ length'. gives_steady _

pub request_places_steady : (regions : List Region) (domain : Name) (h : RequestHead) → IsSteady (request_places_field regions domain h)
unfolding request_places_field
request_places_steady regions domain h =
    then_steady (number_steady _ _ _) λ lkey. then_steady (number_steady _ _ _) λ local. then_steady (number_steady _ _ _) λ remote.
    then_steady (number_steady _ _ _) λ rkey. then_steady (number_steady _ _ _) λ swap_add. then_steady (number_steady _ _ _) λ compare. gives_steady _

pub limit_steady : (width limit : ℕ) → IsSteady (count_field width limit)
limit_steady width limit = number_steady _ _ _

-- ---- what a step uses

good_by : {A : Type 0} (more : List ℕ) {x : A} {p' : ℕ} {bs' : List ℕ} (a b : Reading A) → Stays more a b → a ≡ Good x p' bs' → b ≡ Good x p' (bs' ++ more)
good_by more a b h e = subst (λ (r : Reading _). Stays more r b) e h

-- what was read whole is read alike where more bytes come
pub read_alike : {A : Type 0} {r : Reader A} {x : A} {p : ℕ} {bs : List ℕ} {p' : ℕ} {bs' : List ℕ} → IsSteady r → r p bs ≡ Good x p' bs' → (later : List ℕ) → r p (bs ++ later) ≡ Good x p' (bs' ++ later)
read_alike {r = r} {p = p} {bs = bs} h e later = good_by later (r p bs) (r p (bs ++ later)) (h.stays p bs later) e

goes_by : {A : Type 0} {x : A} {p : ℕ} {bs : List ℕ} {p' : ℕ} {bs' : List ℕ} (a : Reading A) → Goes p bs a → a ≡ Good x p' bs' → GoesOn p bs p' bs'
goes_by {p = p} {bs = bs} a h e = subst (λ (r : Reading _). Goes p bs r) e h

-- what was read whole stands at the front
pub read_goes : {A : Type 0} {r : Reader A} {x : A} {p : ℕ} {bs : List ℕ} {p' : ℕ} {bs' : List ℕ} → IsSteady r → r p bs ≡ Good x p' bs' → GoesOn p bs p' bs'
read_goes {r = r} {p = p} {bs = bs} h e = goes_by (r p bs) (h.goes p bs) e

-- the bytes behind it
pub left_behind : {p : ℕ} {bs : List ℕ} {p' : ℕ} {bs' : List ℕ} → GoesOn p bs p' bs' → IsLeft p bs p' bs'
left_behind {p = p} {bs = bs} {p' = p'} {bs' = bs'} h =
    let m = h.place in
    let within = h.within in
    let n : h.count ≡ p' - p = omega arith in
    let long : length bs' ≡ length bs - h.count = ap length h.left ∙ length-drop h.count bs in
    record { left = h.left ∙ ap (λ (k : ℕ). drop k bs) n; fits = omega arith }

-- one thing read after another
pub goes_twice : {p : ℕ} {bs : List ℕ} {p' : ℕ} {bs' : List ℕ} {p'' : ℕ} {bs'' : List ℕ} → GoesOn p bs p' bs' → GoesOn p' bs' p'' bs'' → GoesOn p bs p'' bs''
goes_twice {p = p} {bs = bs} {p' = p'} {bs' = bs'} {p'' = p''} h g =
    let long : length bs' ≡ length bs - h.count = ap length h.left ∙ length-drop h.count bs in
    record {
      count = h.count + g.count;
      within = let m = h.within in let n = g.within in omega arith;
      place = let m = h.place in let n = g.place in omega arith;
      left = g.left ∙ (ap (drop g.count) h.left ∙ drop-drop g.count h.count bs);
    }

pub request_start_steady : (at : RequestPosition) (l : LinkImage) (regions : List Region) (domain : Name) → IsSteady (request_start_field at l regions domain)
request_start_steady at l regions domain = then_steady (request_head_steady _ _ _ _ _ _) λ h. request_places_steady _ _ _
