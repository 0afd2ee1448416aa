-- The pages of a list, and those of them that are the pool's own.
use Rattle.std.proofs.Common.{◌≡◌, ℕ, subst, ◌+◌, ◌-◌, ◌*◌, ◌<◌, ◌≤◌, ◌≢◌, List, [], ◌∷◌, ◌++◌, length, take, drop, get_or, set, sum, arith, refl, ap, sym, ◌∙◌}
use Rattle.std.specs.Prelude.{All, Bool, true, false, IsFalse, Option, IfSome, Result, Ok, Err, IfOk}
use Rattle.std.specs.Bool.{OnTrue}
use Rattle.std.specs.Result.{result_ok}
use Rattle.std.specs.List.{flat_map}
use Rattle.std.proofs.lemmas.List.{take_more, take-append-drop, length-append, length_push, length-set, append-nil, get_or_append_left, get_or_push}
use Rattle.std.proofs.lemmas.List.Concat.{flat_map-append}
use Rattle.std.proofs.lemmas.List.Elements.{All-nil, All-cons}
use Rattle.std.proofs.lemmas.List.Sums.{sum_by-append}
use Rattle.rdma_types.specs.Memory.{cut, put}
use Rattle.byte_run.proofs.Runs.{take-meet}
use Rattle.rdma_types.proofs.Cuts.{length-put}
use Rattle.page_pool.specs.Store.{times}
use Rattle.page_pool.specs.Ledger.{own_number, own_numbers, page_at, page_bytes}
use Rattle.page_pool.specs.declared.page.Page.{Page}
use Rattle.page_pool.specs.declared.page.Page.TheVariants.{Own, Shared}
use Rattle.page_pool.proofs.Counts.{one_if, one_if-same, times-none, times-push, sum-set}
use Rattle.page_pool.proofs.Pages.{page-put_other, page-put_whole, page-put_whole_other}
use Rattle.page_pool.proofs.Steps.{inside, one_more-at, one_less-at}

-- ---- what is known of a value

-- where a result is read as an option
pub some_of : {T E : Type 0} (r : Result T E) (o : Option T) (P Q : T → Type 0) → o ≡ result_ok r → IfOk r P → ((x : T) → P x → Q x) → IfSome o Q
some_of (Ok x) o P Q e h f = rw e (f x h)
some_of (Err x) o P Q e h f = rw e tt

-- ---- counts

pub times-append : (p : ℕ) (xs ys : List ℕ) → times p (xs ++ ys) ≡ times p xs + times p ys
unfolding times
times-append p xs ys = sum_by-append (λ x. one_if x p) xs ys

pub times-one : (p q : ℕ) → times p (q ∷ []) ≡ one_if q p
times-one p q = omega (arith, times-push p [] q, times-none p)

-- ---- a page of a list that gives way to a page of the pool's own

-- a page of the pool's own that is held
pub held-own : (hs : List ℕ) (page : Page) (q : ℕ) → page ≡ Own q → All (λ p. 0 < get_or hs p 0) (own_number page) → 0 < get_or hs q 0
held-own hs (Own n) q e h = let same : n ≡ q = cc in rw (← same) (h 0 0 (omega arith))
held-own hs (Shared s) q e h = absurd (cc e)

-- to a new page
pub fresh-counted : (hs hs' ns : List ℕ) (q p : ℕ) → ns ≡ [] → q < length hs → get_or hs q 0 ≡ 0 → hs' ≡ set hs q 1 → get_or hs' p 0 + times p ns ≡ get_or hs p 0 + times p (q ∷ [])
fresh-counted hs hs' ns q p none l idle is = omega (arith, ap (times p) none, times-none p, times-one p q, ap (λ xs. get_or xs p 0) is, one_more-at hs q 1 p l (omega arith))

-- to a copy of a page of several holders
pub fork-counted : (hs hs' ns : List ℕ) (r q p : ℕ) → ns ≡ r ∷ [] → 1 < get_or hs r 0 → q < length hs → get_or hs q 0 ≡ 0 → hs' ≡ set (set hs r (get_or hs r 0 - 1)) q 1 → get_or hs' p 0 + times p ns ≡ get_or hs p 0 + times p (q ∷ [])
fork-counted hs hs' ns r q p own held l idle is =
    let less = set hs r (get_or hs r 0 - 1) in
    let size : length (set hs r (get_or hs r 0 - 1)) ≡ length hs = length-set hs r (get_or hs r 0 - 1) in
    let at_q : get_or (set hs r (get_or hs r 0 - 1)) q 0 + one_if r q ≡ get_or hs q 0 = one_less-at hs r q (omega arith) in
    let at_p : get_or (set hs r (get_or hs r 0 - 1)) p 0 + one_if r p ≡ get_or hs p 0 = one_less-at hs r p (omega arith) in
    let more = one_more-at less q 1 p (omega arith) (omega arith) in
    omega (arith, more, ap (times p) own, times-one p r, times-one p q, ap (λ xs. get_or xs p 0) is)

pub fork-sum : (hs hs' ns : List ℕ) (r q : ℕ) → ns ≡ r ∷ [] → 1 < get_or hs r 0 → q < length hs → get_or hs q 0 ≡ 0 → hs' ≡ set (set hs r (get_or hs r 0 - 1)) q 1 → sum hs' + length ns ≡ sum hs + 1
fork-sum hs hs' ns r q own held l idle is =
    let size : length (set hs r (get_or hs r 0 - 1)) ≡ length hs = length-set hs r (get_or hs r 0 - 1) in
    let at_q : get_or (set hs r (get_or hs r 0 - 1)) q 0 + one_if r q ≡ get_or hs q 0 = one_less-at hs r q (omega arith) in
    let less = sum-set hs r (get_or hs r 0 - 1) (inside hs r (omega arith)) in
    let more = sum-set (set hs r (get_or hs r 0 - 1)) q 1 (omega arith) in
    omega (arith, less, more, ap sum is, ap length own)

-- a page that is held is as it was where another is written
pub written-kept : (hs bytes bytes' w : List ℕ) (q p : ℕ) → length bytes ≡ 4096 * length hs → q < length hs → get_or hs q 0 ≡ 0 → length w ≡ 4096 → bytes' ≡ put bytes (4096 * q) w → 0 < get_or hs p 0 → page_at bytes' p ≡ page_at bytes p
written-kept hs bytes bytes' w q p size l idle whole is held =
    let other : p ≢ q = λ same. absurd (omega (arith, ap (λ x. get_or hs x 0) same)) in
    ap (λ b. page_at b p) is ∙ page-put_whole_other bytes w (length hs) q p size l whole other

pub written-here : (hs bytes bytes' w : List ℕ) (q : ℕ) → length bytes ≡ 4096 * length hs → q < length hs → length w ≡ 4096 → bytes' ≡ put bytes (4096 * q) w → page_at bytes' q ≡ w
written-here hs bytes bytes' w q size l whole is = ap (λ b. page_at b q) is ∙ page-put_whole bytes w (length hs) q size l whole

-- and where bytes of a page are written that has one holder, which was no other's
pub put-kept : (hs hs' ns bytes bytes' w : List ℕ) (q off p : ℕ) → length bytes ≡ 4096 * length hs' → get_or hs' q 0 ≡ 1 → get_or hs' q 0 + times q ns ≡ get_or hs q 0 + times q (q ∷ []) → off + length w ≤ 4096 → bytes' ≡ put bytes (4096 * q + off) w → times p ns < get_or hs p 0 → page_at bytes' p ≡ page_at bytes p
put-kept hs hs' ns bytes bytes' w q off p size alone counted room is held =
    let one : one_if q q ≡ 1 = one_if-same q in
    let all : times q ns ≡ get_or hs q 0 = omega (arith, times-one q q) in
    let other : p ≢ q = λ same. absurd (omega (arith, ap (λ x. get_or hs x 0) same, ap (λ x. times x ns) same)) in
    ap (λ b. page_at b p) is ∙ page-put_other bytes w (length hs') q off p size (inside hs' q (omega arith)) room other

-- a page that is written in place, or left
pub even-put : (b : Bool) (new old w : List ℕ) (at : ℕ) → length old ≡ 4096 → at + length w ≤ 4096 → OnTrue b (new ≡ put old at w) → (IsFalse b → new ≡ old) → length new ≡ 4096
even-put true new old w at size room done left = ap length done ∙ (length-put old at w (omega arith) ∙ size)
even-put false new old w at size room done left = ap length (left refl) ∙ size

-- ---- the pages of a list

pub own-push : (ps : List Page) (x : Page) → own_numbers (ps ++ x ∷ []) ≡ own_numbers ps ++ own_number x
unfolding own_numbers
own-push ps x = flat_map-append own_number ps (x ∷ []) ∙ ap (λ ns. flat_map own_number ps ++ ns) (append-nil (own_number x))

pub own-more : (ps : List Page) (i : ℕ) (x : Page) → i < length ps → x ≡ get_or ps i x → own_numbers (take (i + 1) ps) ≡ own_numbers (take i ps) ++ own_number x
own-more ps i x l is = ap own_numbers (take_more ps i x l) ∙ (own-push (take i ps) (get_or ps i x) ∙ ap (λ y. own_numbers (take i ps) ++ own_number y) (sym is))

pub own-more_own : (ps : List Page) (i : ℕ) (x : Page) (q : ℕ) → i < length ps → x ≡ get_or ps i x → x ≡ Own q → own_numbers (take (i + 1) ps) ≡ own_numbers (take i ps) ++ q ∷ []
own-more_own ps i x q l is own = own-more ps i x l is ∙ ap (λ y. own_numbers (take i ps) ++ own_number y) own

pub own-more_shared : (ps : List Page) (i : ℕ) (x : Page) → i < length ps → x ≡ get_or ps i x → own_number x ≡ [] → own_numbers (take (i + 1) ps) ≡ own_numbers (take i ps)
own-more_shared ps i x l is none = own-more ps i x l is ∙ (ap (λ ns. own_numbers (take i ps) ++ ns) none ∙ append-nil (own_numbers (take i ps)))

pub own-split : (ps : List Page) (i : ℕ) → own_numbers ps ≡ own_numbers (take i ps) ++ own_numbers (drop i ps)
unfolding own_numbers
own-split ps i = ap (flat_map own_number) (sym (take-append-drop i ps)) ∙ flat_map-append own_number (take i ps) (drop i ps)

pub times-own-take : (ps : List Page) (i p : ℕ) → times p (own_numbers (take i ps)) ≤ times p (own_numbers ps)
times-own-take ps i p = omega (arith, ap (times p) (own-split ps i), times-append p (own_numbers (take i ps)) (own_numbers (drop i ps)))

pub length-own-take : (ps : List Page) (i : ℕ) → length (own_numbers (take i ps)) ≤ length (own_numbers ps)
length-own-take ps i = omega (arith, ap length (own-split ps i), length-append (own_numbers (take i ps)) (own_numbers (drop i ps)))

pub length-own : (x : Page) → length (own_number x) ≤ 1
length-own (Own q) = omega arith
length-own (Shared s) = omega arith

pub own-none : own_numbers [] ≡ []
unfolding own_numbers
own-none = refl

-- a page of the pool's own stands among them
pub own-at : (ps : List Page) (i : ℕ) (x : Page) (q : ℕ) → i < length ps → x ≡ get_or ps i x → x ≡ Own q → get_or (own_numbers ps) (length (own_numbers (take i ps))) 0 ≡ q
own-at ps i x q l is own =
    let front = own_numbers (take i ps) in
    let rest = own_numbers (drop (i + 1) ps) in
    let more : own_numbers (take (i + 1) ps) ≡ own_numbers (take i ps) ++ q ∷ [] = own-more_own ps i x q l is own in
    let whole : own_numbers ps ≡ (own_numbers (take i ps) ++ q ∷ []) ++ own_numbers (drop (i + 1) ps) = own-split ps (i + 1) ∙ ap (λ ns. ns ++ own_numbers (drop (i + 1) ps)) more in
    ap (λ ns. get_or ns (length (own_numbers (take i ps))) 0) whole
    ∙ (get_or_append_left (front ++ q ∷ []) rest 0 (length front) (omega (arith, length_push front q))
    ∙ get_or_push front q 0 (length front) refl)

pub own-there : (ps : List Page) (i : ℕ) (x : Page) (q : ℕ) → i < length ps → x ≡ get_or ps i x → x ≡ Own q → length (own_numbers (take i ps)) < length (own_numbers ps)
own-there ps i x q l is own =
    let more : own_numbers (take (i + 1) ps) ≡ own_numbers (take i ps) ++ q ∷ [] = own-more_own ps i x q l is own in
    omega (arith, ap length more, length_push (own_numbers (take i ps)) q, length-own-take ps (i + 1))

pub own-there_held : (hs : List ℕ) (ps : List Page) (i : ℕ) (x : Page) (q : ℕ) → i < length ps → x ≡ get_or ps i x → x ≡ Own q → ((k : ℕ) → k < length (own_numbers ps) → 0 < get_or hs (get_or (own_numbers ps) k 0) 0) → 0 < get_or hs q 0
own-there_held hs ps i x q l is own held = subst (λ n. 0 < get_or hs n 0) (own-at ps i x q l is own) (held (length (own_numbers (take i ps))) (own-there ps i x q l is own))

-- what holds of all of them holds of those of one page
pub own-held : (P : ℕ → Type 0) (ps : List Page) (i : ℕ) (x : Page) → i < length ps → x ≡ get_or ps i x → All P (own_numbers ps) → All P (own_number x)
own-held P ps i (Own q) l is h = All-cons P q [] (subst P (own-at ps i (Own q) q l is refl) (h (length (own_numbers (take i ps))) 0 (own-there ps i (Own q) q l is refl))) (All-nil P)
own-held P ps i (Shared s) l is h = All-nil P

-- pages that are as they were have the bytes that they had
pub bytes-same : (bytes bytes' : List ℕ) (x : Page) → ((p : ℕ) → 0 < times p (own_number x) → page_at bytes' p ≡ page_at bytes p) → page_bytes bytes' x ≡ page_bytes bytes x
bytes-same bytes bytes' (Own q) h = h q (omega (arith, times-one q q, one_if-same q))
bytes-same bytes bytes' (Shared s) h = refl

pub bytes-kept : (bytes bytes' : List ℕ) (ps : List Page) → ((p : ℕ) → 0 < times p (own_numbers ps) → page_at bytes' p ≡ page_at bytes p) → flat_map (page_bytes bytes') ps ≡ flat_map (page_bytes bytes) ps
unfolding own_numbers
bytes-kept bytes bytes' [] h = refl
bytes-kept bytes bytes' (x ∷ xs) h =
    let count : (p : ℕ) → times p (own_number x ++ flat_map own_number xs) ≡ times p (own_number x) + times p (flat_map own_number xs) = λ p. times-append p (own_number x) (flat_map own_number xs) in
    ap (λ b. b ++ flat_map (page_bytes bytes') xs) (bytes-same bytes bytes' x (λ p l. h p (omega (arith, count p))))
    ∙ ap (λ bs. page_bytes bytes x ++ bs) (bytes-kept bytes bytes' xs (λ p l. h p (omega (arith, count p))))

-- one page more
pub bytes-push : (bytes bytes' : List ℕ) (ps ps' : List Page) (x : Page) (all : List ℕ) (n a : ℕ) → ps' ≡ ps ++ x ∷ [] → ((p : ℕ) → 0 < times p (own_numbers ps) → page_at bytes' p ≡ page_at bytes p) → flat_map (page_bytes bytes) ps ≡ take (4096 * n) all → page_bytes bytes' x ≡ cut a 4096 all → a ≡ 4096 * n → 4096 * n + 4096 ≤ length all → flat_map (page_bytes bytes') ps' ≡ take (4096 * (n + 1)) all
bytes-push bytes bytes' ps ps' x all n a more kept before here at room =
    let next : 4096 * n + 4096 ≡ 4096 * (n + 1) = omega arith in
    ap (flat_map (page_bytes bytes')) more
    ∙ (flat_map-append (page_bytes bytes') ps (x ∷ [])
    ∙ (ap (λ b. b ++ flat_map (page_bytes bytes') (x ∷ [])) (bytes-kept bytes bytes' ps kept ∙ before)
    ∙ (ap (λ b. take (4096 * n) all ++ b) (append-nil (page_bytes bytes' x) ∙ (here ∙ ap (λ k. cut k 4096 all) at))
    ∙ (take-meet (4096 * n) 4096 all room
    ∙ ap (λ k. take k all) next))))
