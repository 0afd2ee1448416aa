-- How far a dump was read, and what one step more comes to.
use Rattle.std.proofs.Common.{◌≡◌, ℕ, ◌+◌, ◌-◌, ◌*◌, ◌≤◌, ◌<◌, List, [], ◌∷◌, ◌++◌, length, take, drop, refl, ap, sym, ◌∙◌, subst, arith, length-drop, append-nil}
use Rattle.std.proofs.lemmas.List.{drop-drop, take_all}
use Rattle.protocol.specs.declared.dumps.DumpWhy.TheVariants as dump_why
use Rattle.protocol.specs.declared.images.ContextImage.{ContextImage}
use Rattle.protocol.specs.Dumps.{Reading, Reader, Good, Bad, after, at_end, read_dump}
use Rattle.law_dump_round_trip.proofs.Steady.{GoesOn}
use Rattle.dump_reader.specs.declared.fault.DumpFault.{DumpFault}
use Rattle.dump_reader.specs.declared.heads.DumpHead.{DumpHead}
use Rattle.dump_reader.specs.declared.lists.Lists.{Lists}
use Rattle.dump_reader.specs.declared.lists.ReadState.{ReadState}
use Rattle.dump_reader.specs.declared.lists.ReadState.TheVariants as place
use Rattle.dump_reader.specs.declared.read_progress.ReadProgress.{ReadProgress}
use Rattle.dump_reader.specs.Ahead.{ahead, more_domains, opening_field}
use Rattle.dump_reader.specs.Steps.{IsFault}
use Rattle.dump_reader.specs.ReadProgress.{Stands, IsWhole, image_at}
use Rattle.dump_reader.proofs.Later.{opening_steady, read_alike, read_goes, left_behind}
use Rattle.dump_reader.proofs.Whole.{dump_opens}

opened_by : (a : Reading DumpHead) {o : DumpHead} {p : ℕ} {bs : List ℕ} → a ≡ Good o p bs → after a (λ x. more_domains x x.count []) ≡ more_domains o o.count [] p bs
unfolding after
opened_by a e = rw e refl

-- behind the first fields
pub begins : (bs : List ℕ) (o : DumpHead) (s : Lists) (next : ReadState) (p : ℕ) (left : List ℕ) → opening_field 0 bs ≡ Good o p left → ahead o s next ≡ more_domains o o.count [] → Stands (record { opened = o; lists = s; place = next; at = p }) bs
begins bs o s next p left e entered =
    let goes : GoesOn 0 bs p left = read_goes opening_steady e in
    let from_first : p - 0 ≡ p = omega arith in
    record {
      within = let m = goes.within in let n = goes.place in omega arith;
      alike = λ later.
          dump_opens (bs ++ later)
          ∙ (opened_by (opening_field 0 (bs ++ later)) (read_alike opening_steady e later)
          ∙ (ap (λ (r : Reader ContextImage). r p (left ++ later)) (sym entered)
          ∙ ap (λ (x : List ℕ). ahead o s next p (x ++ later)) ((left_behind goes).left ∙ ap (λ (n : ℕ). drop n bs) from_first)));
    }

-- one step more
pub goes_on : (way : ReadProgress) (bs front : List ℕ) (s : Lists) (next : ReadState) (p : ℕ) (left : List ℕ) → Stands way bs → front ≡ drop way.at bs → ((later : List ℕ) → ahead way.opened way.lists way.place way.at (front ++ later) ≡ ahead way.opened s next p (left ++ later)) → left ≡ drop (p - way.at) front → p + length left ≡ way.at + length front → Stands (record { opened = way.opened; lists = s; place = next; at = p }) bs
goes_on way bs front s next p left h front_is alike behind fits =
    let within = h.within in
    let all : length front ≡ length bs - way.at = ap length front_is ∙ length-drop way.at bs in
    let few : length left ≡ length front - (p - way.at) = ap length behind ∙ length-drop (p - way.at) front in
    let past : way.at + (p - way.at) ≡ p = omega arith in
    record {
      within = omega arith;
      alike = λ later.
          h.alike later
          ∙ (ap (λ (x : List ℕ). ahead way.opened way.lists way.place way.at (x ++ later)) (sym front_is)
          ∙ (alike later
          ∙ ap (λ (x : List ℕ). ahead way.opened s next p (x ++ later)) (behind ∙ (ap (λ (x : List ℕ). drop (p - way.at) x) front_is ∙ (drop-drop (p - way.at) way.at bs ∙ ap (λ (n : ℕ). drop n bs) past)))));
    }

-- the bytes from a place on, as a slice
pub slice_from : (bs : List ℕ) (at : ℕ) → take (length bs - at) (drop at bs) ≡ drop at bs
slice_from bs at = take_all (length bs - at) (drop at bs) (omega (arith, length-drop at bs))

-- fewer bytes are left
pub fewer : (long at p front left w w' : ℕ) → at ≤ long → front ≡ long - at → p + left ≡ at + front → 2 * left + w' < 2 * front + w → 2 * (long - p) + w' < 2 * (long - at) + w
fewer long at p front left w w' within all fits less = omega arith

-- what is read of the bytes alone
pub reads : (way : ReadProgress) (bs : List ℕ) → Stands way bs → read_dump bs ≡ ahead way.opened way.lists way.place way.at (drop way.at bs)
reads way bs h =
    ap read_dump (sym (append-nil bs))
    ∙ (h.alike [] ∙ ap (λ (x : List ℕ). ahead way.opened way.lists way.place way.at x) (append-nil (drop way.at bs)))

-- a fault of what is ahead
pub fault_of_step : (way : ReadProgress) (bs front : List ℕ) (e : DumpFault) → Stands way bs → front ≡ drop way.at bs → IsFault (ahead way.opened way.lists way.place way.at front) e → IsFault (read_dump bs) e
fault_of_step way bs front e h front_is f = subst (λ (r : Reading ContextImage). IsFault r e) (ap (λ (x : List ℕ). ahead way.opened way.lists way.place way.at x) front_is ∙ sym (reads way bs h)) f

ended_by : (o : DumpHead) (s : Lists) (at : ℕ) (bs : List ℕ) (left : List ℕ) (c : ContextImage) → left ≡ [] → at_end c at left ≡ Good c at []
ended_by o s at bs left c e = rw e refl

trailing_by : (c : ContextImage) (at : ℕ) (left : List ℕ) → 0 < length left → at_end c at left ≡ Bad at dump_why.Trailing
trailing_by c at [] h = absurd (omega arith)
trailing_by c at (b ∷ left) h = refl

-- all was read, and bytes follow
pub trailing : (way : ReadProgress) (bs : List ℕ) → Stands way bs → way.place ≡ place.Done → way.at < length bs → read_dump bs ≡ Bad way.at dump_why.Trailing
unfolding ahead
trailing way bs h e more =
    let all : length (drop way.at bs) ≡ length bs - way.at = length-drop way.at bs in
    reads way bs h
    ∙ (ap (λ (x : ReadState). ahead way.opened way.lists x way.at (drop way.at bs)) e
    ∙ trailing_by (image_at way) way.at (drop way.at bs) (omega arith))

none_left : (left : List ℕ) → length left ≡ 0 → left ≡ []
none_left [] e = refl
none_left (b ∷ left) e = absurd (omega arith)

-- all was read, and no bytes follow
pub whole : (way : ReadProgress) (bs : List ℕ) → Stands way bs → way.place ≡ place.Done → length bs ≤ way.at → IsWhole way bs
unfolding ahead
whole way bs h e past =
    let within = h.within in
    let all : length (drop way.at bs) ≡ length bs - way.at = length-drop way.at bs in
    let at : way.at ≡ length bs = omega arith in
    record {
      stands = h;
      dump =
          reads way bs h
          ∙ (ap (λ (x : ReadState). ahead way.opened way.lists x way.at (drop way.at bs)) e
          ∙ (ended_by way.opened way.lists way.at bs (drop way.at bs) (image_at way) (none_left (drop way.at bs) (omega arith))
          ∙ ap (λ (n : ℕ). Good (image_at way) n []) at));
    }

-- nothing was read
pub stands_same : (way : ReadProgress) (bs : List ℕ) (s : Lists) → Stands way bs → s ≡ way.lists → Stands (record { opened = way.opened; lists = s; place = way.place; at = way.at }) bs
stands_same way bs s h e = subst (λ (x : Lists). Stands (record { opened = way.opened; lists = x; place = way.place; at = way.at }) bs) (sym e) h
