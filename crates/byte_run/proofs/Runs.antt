-- Runs of bytes in pages.
use Rattle.std.proofs.Common.{◌≡◌, ℕ, ◌+◌, ◌*◌, ◌/◌, ◌%◌, ◌<◌, ◌≤◌, ◌⊎◌, inl, inr, List, [], ◌∷◌, ◌++◌, length, take, drop, get_or, set, arith, refl, ap, sym, subst, ◌∙◌}
use Rattle.std.specs.Prelude.{OnErr, Result, Ok, Err, Option, Some, None, MatchOption, IsOk, vec_len}
use Rattle.std.specs.List.{AllZip}
use Rattle.std.specs.Arc.{arc_value}
use Rattle.std.specs.declared.sync.Arc.{Arc}
use Rattle.std.specs.declared.vec.Vec.{Vec}
use Rattle.std.proofs.lemmas.List.{append_assoc, places, same_lists, length-take, length-set, length-append, take_all, take-take, take-append-le, length-take-le, length-drop, drop-drop, get_or_default, get_or-set_same, get_or-set_other, append-nil, set-get_or}
use Rattle.std.proofs.lemmas.Slice.{take-put_mid}
use borrow.Rule.Slice.PartMut.{put_mid, mid_of}
use Rattle.std.proofs.lemmas.List.Elements.{All-get_or, All-set, All-cons, All-head, All-tail}
use Rattle.std.proofs.lemmas.List.Concat.{flat_map-append}
use Rattle.rdma_types.specs.Memory.{cut, put}
use Rattle.byte_run.specs.Pages.{joined, pages_in, ArePages, IsRun}
use Rattle.byte_run.proofs.Joined.{AreEven, length-joined, cut-joined, put-joined, joined-part}
use Rattle.rdma_types.proofs.Cuts.{length-cut, length-put, put-meet, cut-meet}

-- a part of a front
pub cut-take : (a n m : ℕ) (bytes : List ℕ) → a + n ≤ m → m ≤ length bytes → cut a n (take m bytes) ≡ cut a n bytes
unfolding cut
cut-take a n m bytes h k = same_lists _ _ (simp (length-take, length-drop) (omega arith)) (λ i d l. grind (arith, places))

-- a front with its next bytes
pub take-meet : (a n : ℕ) (bytes : List ℕ) → a + n ≤ length bytes → take a bytes ++ cut a n bytes ≡ take (a + n) bytes
unfolding cut
take-meet a n bytes h = same_lists _ _ (simp (length-append, length-take, length-drop) (omega arith)) (λ i d l. grind (arith, places))

-- a part as it is lent
pub mid-cut : (a k n : ℕ) (xs : List ℕ) → k ≡ n → mid_of a k xs ≡ cut a n xs
unfolding cut
mid-cut a k n xs e = rw e refl

-- a list with a front of the next one
pub take_behind : (xs ys : List ℕ) (n : ℕ) → take (length xs + n) (xs ++ ys) ≡ xs ++ take n ys
take_behind xs ys n = same_lists _ _ (simp (length-append, length-take) (omega arith)) (λ i d l. grind (arith, places))

-- the bytes before a place, where more were put behind them
pub before_more : (at done : ℕ) (later before more : List ℕ) → at ≤ length before → take (at + done) later ≡ take at before ++ more → take at later ≡ take at before
before_more at done later before more h e =
    let size : length (take at before) ≡ at = length-take-le at before h in
    sym (take-take at (at + done) later (omega arith)) ∙ (ap (take at) e ∙ (take-append-le at (take at before) more (omega arith) ∙ take_all at (take at before) (omega arith)))

-- one more piece behind what was put
pub piece_more : (at done count k : ℕ) (before mid later bytes : List ℕ) → done + count ≤ length bytes → k ≡ count → take (at + done) mid ≡ take at before ++ take done bytes → take (at + done + length (mid_of done k bytes)) later ≡ take (at + done) mid ++ mid_of done k bytes → take (at + (done + count)) later ≡ take at before ++ take (done + count) bytes
piece_more at done count k before mid later bytes h k_is is e =
    let piece : mid_of done k bytes ≡ cut done count bytes = mid-cut done k count bytes k_is in
    let size : length (mid_of done k bytes) ≡ count = ap length piece ∙ length-cut done count bytes h in
    let place : at + (done + count) ≡ at + done + length (mid_of done k bytes) = omega arith in
    ap (λ n. take n later) place
    ∙ (e
    ∙ (ap (λ xs. xs ++ mid_of done k bytes) is
    ∙ (append_assoc (take at before) (take done bytes) (mid_of done k bytes)
    ∙ ap (λ xs. take at before ++ xs) (ap (λ xs. take done bytes ++ xs) piece ∙ take-meet done count bytes h))))

-- bytes written at the end of a front
pub take-put : (a : ℕ) (w bytes : List ℕ) → a + length w ≤ length bytes → take (a + length w) (put bytes a w) ≡ take a bytes ++ w
unfolding put
take-put a w bytes h = same_lists _ _ (simp (length-append, length-take, length-drop) (omega arith)) (λ i d l. grind (arith, places))

module _ {A : Type 0} where
  even : (pages : List (Arc (List ℕ) A)) (d : Arc (List ℕ) A) → ArePages pages → AreEven (λ page. page.value) 4096 d pages
  even pages d h i l = All-get_or (λ page. length page.value ≡ 4096) pages i d l h

  pub length-pages : (pages : List (Arc (List ℕ) A)) → ArePages pages → length (joined pages) ≡ 4096 * length pages
  length-pages [] h = refl
  length-pages (p ∷ ps) h = length-joined (λ page. page.value) 4096 p (p ∷ ps) (even (p ∷ ps) p h)

  pub length-run : (pages : List (Arc (List ℕ) A)) (n : ℕ) → IsRun pages n → length (take n (joined pages)) ≡ n
  length-run pages n h =
      let whole : length (joined pages) ≡ 4096 * length pages = length-pages pages h.even in
      let room : n ≤ 4096 * length pages = h.room in
      simp length-take (omega arith)

  -- a piece of one page
  pub piece_is : (pages : List (Arc (List ℕ) A)) (n at count : ℕ) (d : Arc (List ℕ) A) → IsRun pages n → at < n → at + count ≤ n → at % 4096 + count ≤ 4096 → cut at count (take n (joined pages)) ≡ cut (at % 4096) count (get_or pages (at / 4096) d).value
  piece_is pages n at count d h l k page =
      let whole : length (joined pages) ≡ 4096 * length pages = length-pages pages h.even in
      let room : n ≤ 4096 * length pages = h.room in
      let place : at / 4096 < length pages = omega arith in
      let split : at ≡ 4096 * (at / 4096) + at % 4096 = omega arith in
      cut-take at count n (joined pages) k (omega arith)
      ∙ (ap (λ a. cut a count (joined pages)) split
      ∙ cut-joined (λ p. p.value) 4096 d pages (at / 4096) (at % 4096) count (even pages d h.even) place page)

  -- a piece written in one page
  pub piece_put : (pages later : List (Arc (List ℕ) A)) (at : ℕ) (w : List ℕ) (d : Arc (List ℕ) A) → ArePages pages → at / 4096 < length pages → at % 4096 + length w ≤ 4096 → later ≡ set pages (at / 4096) d → d.value ≡ put (get_or pages (at / 4096) d).value (at % 4096) w → joined later ≡ put (joined pages) at w
  piece_put pages later at w d h place page e v =
      let split : 4096 * (at / 4096) + at % 4096 ≡ at = omega arith in
      rw e (put-joined (λ p. p.value) (λ p. p.value) 4096 d d pages (set pages (at / 4096) d) (at / 4096) (at % 4096) w (even pages d h) place page (length-set pages (at / 4096) d)
      (ap (λ (p : Arc (List ℕ) A). p.value) (get_or-set_same pages (at / 4096) d d place) ∙ v)
      (λ j l n. ap (λ (p : Arc (List ℕ) A). p.value) (get_or-set_other pages (at / 4096) j d d n))
      ∙ ap (λ a. put (joined pages) a w) split)

  -- a page behind whole pages
  pub page_added : (pages later : List (Arc (List ℕ) A)) (page : Arc (List ℕ) A) (at : ℕ) (w : List ℕ) → IsRun pages at → length pages ≤ at / 4096 → later ≡ pages ++ page ∷ [] → take (length w) page.value ≡ w → take (at + length w) (joined later) ≡ take at (joined pages) ++ w
  page_added pages later page at w h end added begins =
      let whole : length (joined pages) ≡ 4096 * length pages = length-pages pages h.even in
      let room : at ≤ 4096 * length pages = h.room in
      let here : at ≡ length (joined pages) = omega arith in
      let all : joined later ≡ joined pages ++ page.value = ap joined added ∙ (flat_map-append (λ (p : Arc (List ℕ) A). p.value) pages (page ∷ []) ∙ ap (λ xs. joined pages ++ xs) (append-nil page.value)) in
      rw (all, here, take_all (length (joined pages)) (joined pages) (omega arith)) (take_behind (joined pages) page.value (length w) ∙ ap (λ xs. joined pages ++ xs) begins)

-- the front of a part
pub take-cut : (a n m : ℕ) (bytes : List ℕ) → n ≤ m → take n (cut a m bytes) ≡ cut a n bytes
unfolding cut
take-cut a n m bytes h = take-take n m (drop a bytes) h

-- one more piece of a copy
pub copied-more : (out self piece new : List ℕ) (at done count k j : ℕ) → done + count ≤ length out → count ≤ length piece → piece ≡ cut (at + done) (length piece) self → at + done + length piece ≤ length self → new ≡ take k piece → k ≡ count → j ≡ count → take done out ≡ cut at done self → take (done + count) (put_mid done j out new) ≡ cut at (done + count) self
copied-more out self piece new at done count k j room within is inside e ke je before =
    let front : take count piece ≡ cut (at + done) count self = ap (take count) is ∙ take-cut (at + done) count (length piece) self within in
    let new_is : new ≡ cut (at + done) count self = e ∙ (ap (λ i. take i piece) ke ∙ front) in
    let size : length new ≡ count = ap length new_is ∙ length-cut (at + done) count self (omega arith) in
    take-put_mid done j out new (done + count) (omega arith) (omega arith)
    ∙ (ap (λ x. x ++ new) before
    ∙ (ap (λ x. cut at done self ++ x) new_is
    ∙ cut-meet at done count self (omega arith)))

-- a part written in place
pub put_mid-put : (xs ys zs : List ℕ) (a k : ℕ) → ys ≡ zs → k ≡ length zs → put_mid a k xs ys ≡ put xs a zs
unfolding put
put_mid-put xs ys zs a k e h = rw (e, h, drop-drop (length zs) a xs) refl

-- one more piece of bytes written
pub put-more : (before bytes : List ℕ) (at done count : ℕ) → at + length bytes ≤ length before → done + count ≤ length bytes → put (put before at (take done bytes)) (at + done) (cut done count bytes) ≡ put before at (take (done + count) bytes)
put-more before bytes at done count h l =
    let size : length (take done bytes) ≡ done = length-take-le done bytes (omega arith) in
    let size' : length (cut done count bytes) ≡ count = length-cut done count bytes l in
    ap (λ a. put (put before at (take done bytes)) (at + a) (cut done count bytes)) (sym size)
    ∙ (put-meet before at (take done bytes) (cut done count bytes) (omega arith)
    ∙ ap (put before at) (take-meet done count bytes l))

module _ {A : Type 0} where
  -- a piece written in a page
  pub page_written : (pages : List (Arc (List ℕ) A)) (at : ℕ) (w : List ℕ) (x d : Arc (List ℕ) A) → ArePages pages → at / 4096 < length pages → at % 4096 + length w ≤ 4096 → x ≡ get_or pages (at / 4096) x → d.value ≡ put x.value (at % 4096) w → joined (set pages (at / 4096) d) ≡ put (joined pages) at w
  page_written pages at w x d h place room read v =
      let found : get_or pages (at / 4096) d ≡ x = get_or_default pages (at / 4096) d x place ∙ sym read in
      piece_put pages (set pages (at / 4096) d) at w d h place room refl (v ∙ ap (λ (b : Arc (List ℕ) A). put b.value (at % 4096) w) (sym found))

  pub even_written : (pages : List (Arc (List ℕ) A)) (i at : ℕ) (w : List ℕ) (x d : Arc (List ℕ) A) → ArePages pages → length x.value ≡ 4096 → at + length w ≤ 4096 → d.value ≡ put x.value at w → ArePages (set pages i d)
  even_written pages i at w x d h size room v =
      All-set (λ page. length page.value ≡ 4096) pages i d (ap length v ∙ (length-put x.value at w (omega arith) ∙ size)) h

  pub page_even : (pages : List (Arc (List ℕ) A)) (i : ℕ) (x : Arc (List ℕ) A) → ArePages pages → i < length pages → x ≡ get_or pages i x → length x.value ≡ 4096
  page_even pages i x h l read = ap (λ (b : Arc (List ℕ) A). length b.value) read ∙ All-get_or (λ page. length page.value ≡ 4096) pages i x l h

  -- a page that is as it was
  pub page_left : (pages : List (Arc (List ℕ) A)) (i : ℕ) (x d : Arc (List ℕ) A) → x ≡ get_or pages i x → d ≡ x → set pages i d ≡ pages
  page_left pages i x d read e = ap (set pages i) (e ∙ read) ∙ set-get_or pages i x

  -- the first pages
  pub joined_front : (pages : List (Arc (List ℕ) A)) (k : ℕ) (d : Arc (List ℕ) A) → ArePages pages → k ≤ length pages → joined (take k pages) ≡ take (4096 * k) (joined pages)
  unfolding cut
  joined_front pages k d h l = joined-part (λ p. p.value) 4096 d pages 0 k (even pages d h) (omega arith)

  -- the whole pages of a run
  pub whole_front : (pages : List (Arc (List ℕ) A)) (n : ℕ) (self : List ℕ) → IsRun pages n → take n (joined pages) ≡ self → joined (take (n / 4096) pages) ≡ take (length self / 4096 * 4096) self
  whole_front [] n self h view =
      let room : n ≤ 4096 * 0 = h.room in
      let none : n ≡ 0 = omega arith in
      let empty : self ≡ [] = sym view ∙ ap (λ k. take k []) none in
      rw (none, empty) refl
  whole_front (p ∷ ps) n self h view =
      let room : n ≤ 4096 * length (p ∷ ps) = h.room in
      let size : length self ≡ n = ap length (sym view) ∙ length-run (p ∷ ps) n h in
      let count : 4096 * (n / 4096) ≡ length self / 4096 * 4096 = omega (arith, ap (λ k. k / 4096) size) in
      joined_front (p ∷ ps) (n / 4096) p h.even (omega arith)
      ∙ (ap (λ k. take k (joined (p ∷ ps))) count
      ∙ (sym (take-take (length self / 4096 * 4096) n (joined (p ∷ ps)) (omega arith)) ∙ ap (take (length self / 4096 * 4096)) view))

  -- a piece read from one page
  pub piece_found : (pages : List (Arc (List ℕ) A)) (n at count k : ℕ) (page self : List ℕ) (x : Arc (List ℕ) A) → IsRun pages n → at < n → at + count ≤ n → at % 4096 + count ≤ 4096 → x ≡ get_or pages (at / 4096) x → page ≡ x.value → k ≡ count → take n (joined pages) ≡ self
      → (mid_of (at % 4096) k page ≡ cut at (length (mid_of (at % 4096) k page)) self) × (length (mid_of (at % 4096) k page) ≡ count)
  unfolding cut
  piece_found pages n at count k page self x h l room within read is k_is view =
      let whole : length self ≡ n = ap length (sym view) ∙ length-run pages n h in
      let here : cut at count self ≡ cut (at % 4096) count x.value = ap (cut at count) (sym view) ∙ (piece_is pages n at count x h l room within ∙ ap (λ (b : Arc (List ℕ) A). cut (at % 4096) count b.value) (sym read)) in
      let mid : mid_of (at % 4096) k page ≡ cut at count self = rw (k_is, is) (sym here) in
      let size : length (mid_of (at % 4096) k page) ≡ count = ap length mid ∙ length-cut at count self (omega arith) in
      (mid ∙ ap (λ m. cut at m self) (sym size), size)

-- the same bytes in other pages
pub record AreSame {A : Type 0} (pages later : List (Arc (List ℕ) A)) : Type 0 where
  pub bytes : joined later ≡ joined pages
  pub even : ArePages pages → ArePages later
  pub count : length later ≡ length pages

module _ {A : Type 0} where
  -- pages that share the bytes of others
  pub same_copies : (pages later : List (Arc (List ℕ) A)) → AllZip (λ page copy. arc_value copy ≡ arc_value page) pages later → AreSame pages later
  same_copies [] [] h = record { bytes = refl; even = λ even. even; count = refl }
  same_copies [] (y ∷ ys) h = absurd h
  same_copies (x ∷ xs) [] h = absurd h
  same_copies (x ∷ xs) (y ∷ ys) h =
      let first : y.value ≡ x.value = h.0 in
      let rest : AreSame xs ys = same_copies xs ys h.1 in
      let behind : joined ys ≡ joined xs = rest.bytes in
      record {
        bytes = cc;
        even = λ even. All-cons (λ page. length page.value ≡ 4096) y ys (ap length first ∙ All-head (λ page. length page.value ≡ 4096) x xs even) (rest.even (All-tail (λ page. length page.value ≡ 4096) x xs even));
        count = omega (arith, rest.count);
      }

  -- the list that was there, or one that was made for none
  list_found : (pages : Option (Arc (Vec (Arc (List ℕ) A) A) A)) (found : Arc (Vec (Arc (List ℕ) A) A) A) (Made : Type 0) → MatchOption pages Made (λ list. found ≡ list) → (Made → found.value.items ≡ []) → found.value.items ≡ pages_in pages
  list_found None found Made h f = f h
  list_found (Some list) found Made h f = ap (λ (l : Arc (Vec (Arc (List ℕ) A) A) A). l.value.items) h

  list_owned : (old new : Vec (Arc (List ℕ) A) A) → (new ≡ old) ⊎ (AllZip (λ page copy. arc_value copy ≡ arc_value page) old.items new.items × (vec_len new ≡ vec_len old)) → AreSame old.items new.items
  list_owned old new (inl h) =
      let same : new.items ≡ old.items = ap (λ (v : Vec (Arc (List ℕ) A) A). v.items) h in
      record { bytes = ap joined same; even = λ even. rw same even; count = ap length same }
  list_owned old new (inr h) = same_copies old.items new.items h.0

  -- a list to be written, which is the one that was found or a copy of it
  pub same_list : (pages : Option (Arc (Vec (Arc (List ℕ) A) A) A)) (found : Arc (Vec (Arc (List ℕ) A) A) A) (new : Vec (Arc (List ℕ) A) A) (Made : Type 0) → MatchOption pages Made (λ list. found ≡ list) → (Made → found.value.items ≡ [])
      → (new ≡ found.value) ⊎ (AllZip (λ page copy. arc_value copy ≡ arc_value page) found.value.items new.items × (vec_len new ≡ vec_len found.value)) → AreSame (pages_in pages) new.items
  same_list pages found new Made cases made h =
      subst (λ xs. AreSame xs new.items) (list_found pages found Made cases made) (list_owned found.value new h)

  pub run_same : (pages later : List (Arc (List ℕ) A)) (n : ℕ) → AreSame pages later → IsRun pages n → IsRun later n
  run_same pages later n same h = record { even = same.even h.even; room = omega (arith, h.room, same.count) }

-- a result that is an error, or that is none
pub at_error : {T E P : Type 0} (r : Result T E) (e : E) → r ≡ Err e → OnErr r P → P
at_error {P} r e is h = subst (λ q. OnErr q P) is h

pub at_ok : {T E : Type 0} (r : Result T E) (x : T) → r ≡ Ok x → IsOk r
at_ok r x is = subst IsOk (sym is) refl

-- what holds anyway holds at an error
pub on_err : {T E P : Type 0} (r : Result T E) → P → OnErr r P
on_err (Ok x) p = tt
on_err (Err x) p = p
