-- One step: a group of fields is read, and the next place is entered.
use Rattle.std.proofs.Common.{◌≡◌, ℕ, ◌+◌, ◌*◌, ◌≤◌, ◌<◌, List, ◌++◌, length, true, refl, ap, sym, ◌∙◌, subst, arith}
use Rattle.std.specs.Prelude.{Result, Ok, Err, IfOk, IsErrAnd}
use Rattle.protocol.specs.declared.dumps.DumpWhy.{DumpWhy}
use Rattle.protocol.specs.declared.images.ContextImage.{ContextImage}
use Rattle.protocol.specs.Dumps.{Reading, Reader, Good, Bad, after, then_read}
use Rattle.law_dump_round_trip.proofs.Steady.{IsSteady, GoesOn}
use Rattle.dump_reader.specs.declared.cursor.Cursor.{Cursor}
use Rattle.dump_reader.specs.declared.cursor.Offence.{Offence}
use Rattle.dump_reader.specs.declared.fault.DumpFault.{DumpFault}
use Rattle.dump_reader.specs.declared.fault.DumpFault.TheVariants.{BadDump, OutOfMemory}
use Rattle.dump_reader.specs.declared.heads.DumpHead.{DumpHead}
use Rattle.dump_reader.specs.declared.lists.Lists.{Lists}
use Rattle.dump_reader.specs.declared.lists.ReadState.{ReadState}
use Rattle.dump_reader.specs.declared.lists.ReadState.TheVariants as place
use Rattle.dump_reader.specs.Ahead.{ahead, weight}
use Rattle.dump_reader.specs.Faults.{fault_of}
use Rattle.dump_reader.specs.Steps.{Enters, Fails, Steps, WentOn, IsLeft, IsFault, is_wanting}
use Rattle.dump_reader.proofs.Later.{read_alike, read_goes, left_behind}

place_on : {p : ℕ} {bs : List ℕ} {p' : ℕ} {bs' : List ℕ} → GoesOn p bs p' bs' → p ≤ p'
place_on h = let m = h.place in omega arith

weight_small : (n : ReadState) → weight n ≤ 1
weight_small (place.Domain m) = omega arith
weight_small place.RegionCount = omega arith
weight_small (place.Region m) = omega arith
weight_small (place.Bytes h missing n) = omega arith
weight_small place.QueueCount = omega arith
weight_small (place.Queue m) = omega arith
weight_small (place.Entry h m n) = omega arith
weight_small place.EndCount = omega arith
weight_small (place.End m) = omega arith
weight_small (place.Link h n) = omega arith
weight_small (place.Kept h l m n) = omega arith
weight_small (place.Untold h l n) = omega arith
weight_small (place.Request h l before m n) = omega arith
weight_small (place.Payload h l before k n r missing) = omega arith
weight_small (place.Unused h l n) = omega arith
weight_small (place.Receive h l m n) = omega arith
weight_small place.Done = omega arith

good_on : {A B : Type 0} {x : A} {p : ℕ} {bs : List ℕ} (a : Reading A) (k : A → Reader B) → a ≡ Good x p bs → after a k ≡ k x p bs
unfolding after
good_on a k e = rw e refl

bad_on : {A B : Type 0} {at : ℕ} {why : DumpWhy} (a : Reading A) (k : A → Reader B) → a ≡ Bad at why → after a k ≡ Bad at why
unfolding after
bad_on a k e = rw e refl

module _ (o : DumpHead) (state : ReadState) (s : Lists) (c : Cursor) {A : Type 0} (r : Reader A) (k : A → Reader ContextImage) (opens : (q : ℕ) (b : List ℕ) → ahead o s state q b ≡ then_read r k q b) where
  module _ (c' : Cursor) {x : A} (s' : Lists) (steady : IsSteady r) (read : r c.place c.bytes.now ≡ Good x c'.place c'.bytes.now) where
    went : (after : Reader ContextImage) (w' : ℕ) → ((q : ℕ) (b : List ℕ) → k x q b ≡ after q b) → (c'.place + length c'.bytes.now ≡ c.place + length c.bytes.now → 2 * length c'.bytes.now + w' < 2 * length c.bytes.now + weight state) → WentOn (ahead o s state) after (weight state) w' c.place c.bytes.now c'.place c'.bytes.now
    went after w' enters less =
        let left : IsLeft c.place c.bytes.now c'.place c'.bytes.now = left_behind (read_goes steady read) in
        record {
          alike = λ later. opens c.place (c.bytes.now ++ later) ∙ (good_on (r c.place (c.bytes.now ++ later)) k (read_alike steady read later) ∙ enters c'.place (c'.bytes.now ++ later));
          left = left;
          less = less left.fits;
        }

    -- the next place is entered
    pub goes : (next : ReadState) → c.place < c'.place → (ahead' : Reader ContextImage) → k x ≡ ahead' → ahead o s' next ≡ ahead' → Steps o state s s' c c' (Ok next)
    goes next passed ahead' item entered =
        let small : weight next ≤ 1 = weight_small next in
        went (ahead o s' next) (weight next) (λ q b. ap (λ (R : Reader ContextImage). R q b) (item ∙ sym entered)) (λ fits. omega arith)

    -- bytes were read that may be none
    pub goes_light : (next : ReadState) → weight state ≡ 1 → weight next ≡ 0 → (ahead' : Reader ContextImage) → k x ≡ ahead' → ahead o s' next ≡ ahead' → Steps o state s s' c c' (Ok next)
    goes_light next heavy light ahead' item entered =
        let on = place_on (read_goes steady read) in
        went (ahead o s' next) (weight next) (λ q b. ap (λ (R : Reader ContextImage). R q b) (item ∙ sym entered)) (λ fits. omega arith)

    into_by : (res : Result ReadState DumpFault) → IfOk res (λ next. 2 * length c'.bytes.now + weight next < 2 * length c.bytes.now + weight state) → Enters (k x) (ahead o s') res → Steps o state s s' c c' res
    into_by (Ok next) less enters = went (ahead o s' next) (weight next) enters (λ fits. less)
    into_by (Err (BadDump at why)) less enters = record {
      bad = opens c.place c.bytes.now ∙ (good_on (r c.place c.bytes.now) k read ∙ enters.bad c'.place c'.bytes.now);
      same = λ short. let enough = enters.enough in cc;
    }
    into_by (Err OutOfMemory) less enters = tt

    fewer_left : (res : Result ReadState DumpFault) → c.place < c'.place → IfOk res (λ next. 2 * length c'.bytes.now + weight next < 2 * length c.bytes.now + weight state)
    fewer_left (Ok next) passed =
        let small : weight next ≤ 1 = weight_small next in
        let left : IsLeft c.place c.bytes.now c'.place c'.bytes.now = left_behind (read_goes steady read) in
        let fits = left.fits in
        omega arith
    fewer_left (Err e) passed = tt

    light_left : (res : Result ReadState DumpFault) → weight state ≡ 1 → IfOk res (λ next. weight next ≡ 0) → IfOk res (λ next. 2 * length c'.bytes.now + weight next < 2 * length c.bytes.now + weight state)
    light_left (Ok next) heavy light =
        let left : IsLeft c.place c.bytes.now c'.place c'.bytes.now = left_behind (read_goes steady read) in
        let fits = left.fits in
        let on = place_on (read_goes steady read) in
        omega arith
    light_left (Err e) heavy light = tt

    -- the next place is entered, or the bytes are bad there
    pub into : (res : Result ReadState DumpFault) → c.place < c'.place → (ahead' : Reader ContextImage) → k x ≡ ahead' → Enters ahead' (ahead o s') res → Steps o state s s' c c' res
    into res passed ahead' item enters = into_by res (fewer_left res passed) (subst (λ (R : Reader ContextImage). Enters R (ahead o s') res) (sym item) enters)

    -- the same where bytes were read that may be none
    pub into_light : (res : Result ReadState DumpFault) → weight state ≡ 1 → IfOk res (λ next. weight next ≡ 0) → (ahead' : Reader ContextImage) → k x ≡ ahead' → Enters ahead' (ahead o s') res → Steps o state s s' c c' res
    into_light res heavy light ahead' item enters = into_by res (light_left res heavy light) (subst (λ (R : Reader ContextImage). Enters R (ahead o s') res) (sym item) enters)

  refused_by : (c' : Cursor) (e : Offence) → r c.place c.bytes.now ≡ Bad e.place e.why → Steps o state s s c c' (Err (fault_of e))
  refused_by c' e read = record {
    bad = opens c.place c.bytes.now ∙ bad_on (r c.place c.bytes.now) k read;
    same = λ short. refl;
  }

  -- the bytes are bad
  pub refused : (c' : Cursor) (e : Offence) (res : Result ReadState DumpFault) → IsErrAnd res (λ f. f ≡ fault_of e) → r c.place c.bytes.now ≡ Bad e.place e.why → Steps o state s s c c' res
  refused c' e (Ok n) is read = absurd is
  refused c' e (Err f) is read = subst (λ (g : DumpFault). Steps o state s s c c' (Err g)) (sym is) (refused_by c' e read)

-- the same is read before both
pub enters_from : (a b : Reader ContextImage) (next : ReadState → Reader ContextImage) (res : Result ReadState DumpFault) → ((p : ℕ) (bs : List ℕ) → a p bs ≡ b p bs) → Enters b next res → Enters a next res
enters_from a b next (Ok n) same h = λ p bs. same p bs ∙ h p bs
enters_from a b next (Err (BadDump at why)) same h = record { bad = λ p bs. same p bs ∙ h.bad p bs; enough = h.enough }
enters_from a b next (Err OutOfMemory) same h = tt

-- a step that failed left the lists as they were where the bytes ended too early
pub same_of_step : (before : Reading ContextImage) (s s' : Lists) (e : DumpFault) → Fails before s s' e → is_wanting e ≡ true → s' ≡ s
same_of_step before s s' (BadDump at why) h short = h.same short
same_of_step before s s' OutOfMemory h short = absurd (cc)

-- its fault is that of the bytes
pub fault_of_went : (before : Reading ContextImage) (s s' : Lists) (e : DumpFault) → Fails before s s' e → IsFault before e
fault_of_went before s s' (BadDump at why) h = h.bad
fault_of_went before s s' OutOfMemory h = tt
