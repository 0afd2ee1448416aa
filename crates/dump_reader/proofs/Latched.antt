-- Fields of a group, read one after the other.
use Rattle.std.proofs.Common.{◌≡◌, ℕ, ◌<◌, ◌≤◌, nat_le, Bool, true, false, List, refl, ap, sym, ◌∙◌, subst, arith}
use Rattle.std.specs.Prelude.{Option, Some, None, IfNone, Result, Ok, Err, IfOk, IsErrAnd}
use Rattle.protocol.specs.declared.dumps.DumpWhy.{DumpWhy}
use Rattle.protocol.specs.declared.dumps.DumpWhy.TheVariants as dump_why
use Rattle.protocol.specs.Bytes.{big_number}
use Rattle.protocol.specs.Dumps.{Reading, Reader, Good, Bad, after, then_read, gives, raw, judged, number, number_by, any, count_field, count_by, progress_by}
use Rattle.dump_reader.specs.declared.cursor.Cursor.{Cursor}
use Rattle.dump_reader.specs.declared.cursor.Offence.{Offence}
use Rattle.dump_reader.specs.declared.fields.Fields.{Fields}
use Rattle.dump_reader.specs.Groups.{came, send_field, write_field}
use Rattle.rdma_types.specs.declared.names.Name.{Name}
use Rattle.rdma_types.specs.Objects.{Region}
use Rattle.protocol.specs.declared.images.Progress.{Progress}
use Rattle.dump_reader.specs.Latched.{reading, before, at, Begun, Reads, Onward, Parsed, Number, Took, Stuck, fault_after, Keeps, Ended}

-- ---- numbers

took_by : {A : Type 0} (o : Option Offence) (p : ℕ) (b : List ℕ) (r : Reader A) → o ≡ None → before r o p b ≡ r p b
unfolding after
took_by None p b r e = refl
took_by (Some e) p b r is = absurd cc

good_is : {A : Type 0} (o : Option Offence) (p : ℕ) (b : List ℕ) (x : A) → o ≡ None → Good x p b ≡ reading x o p b
good_is None p b x e = refl
good_is (Some e) p b x is = absurd cc

raw_number : (w p : ℕ) (b field : List ℕ) (p' : ℕ) (b' : List ℕ) → raw w p b ≡ Good field p' b' → number w any p b ≡ Good (big_number field) p' b'
unfolding after judged
raw_number w p b field p' b' e = rw e refl

none_is : (P : Type 0) (o : Option Offence) → P → IfNone o P
none_is P None h = h
none_is P (Some e) h = tt

-- a number of the bytes that were taken
pub number_took : {w n : ℕ} {field : List ℕ} {f f' : Fields} → Took w field f f' → big_number field ≡ n → 1 ≤ w → Number w n f f'
number_took {w = w} {n = n} {field = field} {f = f} {f' = f'} h e some = record {
  read = took_by f.fault f.place f.bytes.now (number w any) h.sound ∙ (raw_number w f.place f.bytes.now field f'.place f'.bytes.now h.read ∙ (ap (λ (m : ℕ). Good m f'.place f'.bytes.now) e ∙ good_is f'.fault f'.place f'.bytes.now n h.still));
  passed = let m = h.place in none_is (f.place < f'.place) f'.fault (omega arith);
  start = none_is (f'.start ≡ f.place) f'.fault h.start;
}

stuck_by : (w : ℕ) (o : Option Offence) (p : ℕ) (b : List ℕ) (at : ℕ) (why : DumpWhy) → before (raw w) o p b ≡ Bad at why → before (number w any) o p b ≡ Bad at why
unfolding after
stuck_by w (Some e) p b at why h = cc
stuck_by w None p b at why h = rw h refl

bad_is : {A : Type 0} (o : Option Offence) (p : ℕ) (b : List ℕ) (x : A) (e : Offence) → o ≡ Some e → Bad e.place e.why ≡ reading x o p b
bad_is None p b x e is = absurd cc
bad_is (Some d) p b x e is = cc

bad_none : (P : Type 0) (o : Option Offence) (e : Offence) → o ≡ Some e → IfNone o P
bad_none P None e is = absurd cc
bad_none P (Some d) e is = tt

-- no number
pub number_stuck : {w n : ℕ} {f f' : Fields} → Stuck w f f' → Number w n f f'
number_stuck {w = w} {n = n} {f = f} {f' = f'} h = record {
  read = stuck_by w f.fault f.place f.bytes.now h.fault.place h.fault.why h.read ∙ bad_is f'.fault f'.place f'.bytes.now n h.fault h.bad;
  passed = bad_none (f.place < f'.place) f'.fault h.fault h.bad;
  start = bad_none (f'.start ≡ f.place) f'.fault h.fault h.bad;
}

-- ---- rules

judged_kept : (why : DumpWhy) (ok : ℕ → Bool) (n m p q : ℕ) (b : List ℕ) (s : ℕ) (t : Bool) → m ≡ n → s ≡ p → t ≡ ok n → judged p why ok m q b ≡ reading n (fault_after None s why t) q b
unfolding judged
judged_kept why ok n m p q b s true e s_is t_is = rw (e, sym t_is) refl
judged_kept why ok n m p q b s false e s_is t_is = rw (e, sym t_is, s_is) refl

kept_raw : (why : DumpWhy) (ok : ℕ → Bool) (n p : ℕ) (r : Reading (List ℕ)) (o : Option Offence) (p' : ℕ) (b' : List ℕ) (s : ℕ) (t : Bool) → after r (λ field. judged p dump_why.Field any (big_number field)) ≡ reading n o p' b' → IfNone o (s ≡ p) → t ≡ ok n → after r (λ field. judged p why ok (big_number field)) ≡ reading n (fault_after o s why t) p' b'
unfolding after judged
kept_raw why ok n p (Bad a w) None p' b' s t h start is = absurd cc
kept_raw why ok n p (Bad a w) (Some e) p' b' s t h start is = h
kept_raw why ok n p (Good f q b) (Some e) p' b' s t h start is = absurd cc
kept_raw why ok n p (Good f q b) None p' b' s t h start is =
    let m : big_number f ≡ n = cc in
    let place : q ≡ p' = cc in
    let bytes : b ≡ b' = cc in
    rw (sym place, sym bytes) (judged_kept why ok n (big_number f) p q b s t m start is)

kept_by : (why : DumpWhy) (w : ℕ) (ok : ℕ → Bool) (n : ℕ) (o₀ : Option Offence) (p : ℕ) (b : List ℕ) (o : Option Offence) (p' : ℕ) (b' : List ℕ) (s : ℕ) (t : Bool) → before (number w any) o₀ p b ≡ reading n o p' b' → IfNone o (s ≡ p) → t ≡ ok n → before (number_by why w ok) o₀ p b ≡ reading n (fault_after o s why t) p' b'
unfolding after
kept_by why w ok n None p b o p' b' s t h start is = kept_raw why ok n p (raw w p b) o p' b' s t h start is
kept_by why w ok n (Some e) p b None p' b' s t h start is = absurd cc
kept_by why w ok n (Some e) p b (Some d) p' b' s t h start is = h

kept_none : (P : Type 0) (o : Option Offence) (s : ℕ) (why : DumpWhy) (t : Bool) → IfNone o P → IfNone (fault_after o s why t) P
kept_none P None s why true h = h
kept_none P None s why false h = tt
kept_none P (Some e) s why t h = tt

-- a number that keeps a rule
pub kept : {why : DumpWhy} {w n : ℕ} {t : Bool} {f f' f'' : Fields} (ok : ℕ → Bool) → Number w n f f' → Keeps why t f' f'' → t ≡ ok n → Reads (number_by why w ok) f f'' n
kept {why = why} {w = w} {n = n} {t = t} {f = f} {f' = f'} {f'' = f''} ok h k is =
    let read = kept_by why w ok n f.fault f.place f.bytes.now f'.fault f'.place f'.bytes.now f'.start t h.read h.start is in
    record {
      read = rw (k.fault, k.place, k.bytes) read;
      passed = rw (k.fault, k.place) (kept_none (f.place < f'.place) f'.fault f'.start why t h.passed);
    }

-- a number
pub plain : {w n : ℕ} {f f' : Fields} → Number w n f f' → Reads (number w any) f f' n
plain h = record { read = h.read; passed = h.passed }

-- ---- one field after another

on_by : {A B : Type 0} (r : Reader A) (k : A → Reader B) (x : A) (y : B) (o : Option Offence) (p : ℕ) (b : List ℕ) (o' : Option Offence) (p' : ℕ) (b' : List ℕ) (o'' : Option Offence) (p'' : ℕ) (b'' : List ℕ) → before r o p b ≡ reading x o' p' b' → before (k x) o' p' b' ≡ reading y o'' p'' b'' → before (then_read r k) o p b ≡ reading y o'' p'' b''
unfolding after
on_by r k x y (Some e) p b None p' b' o'' p'' b'' h g = absurd cc
on_by r k x y (Some e) p b (Some d) p' b' o'' p'' b'' h g = cc
on_by r k x y None p b None p' b' o'' p'' b'' h g = rw h g
on_by r k x y None p b (Some d) p' b' o'' p'' b'' h g = rw h g

on_place : {B : Type 0} (R : Reader B) (y : B) (o' : Option Offence) (p' : ℕ) (b' : List ℕ) (o'' : Option Offence) (p'' : ℕ) (b'' : List ℕ) (p : ℕ) → before R o' p' b' ≡ reading y o'' p'' b'' → IfNone o' (p < p') → IfNone o'' (p' ≤ p'') → IfNone o'' (p < p'')
unfolding after
on_place R y o' p' b' (Some e) p'' b'' p g h i = tt
on_place R y (Some d) p' b' None p'' b'' p g h i = absurd cc
on_place R y None p' b' None p'' b'' p g h i = omega arith

below_on : (o : Option Offence) (m n : ℕ) → IfNone o (m < n) → IfNone o (m ≤ n)
below_on None m n h = omega arith
below_on (Some e) m n h = tt

-- what is read first, and what follows it
pub first : {A B : Type 0} {r : Reader A} (k : A → Reader B) {x : A} {y : B} {f f' f'' : Fields} → Reads r f f' x → Onward (k x) f' f'' y → Reads (then_read r k) f f'' y
first {r = r} k {x = x} {y = y} {f = f} {f' = f'} {f'' = f''} h g = record {
  read = on_by r k x y f.fault f.place f.bytes.now f'.fault f'.place f'.bytes.now f''.fault f''.place f''.bytes.now h.read g.read;
  passed = on_place (k x) y f'.fault f'.place f'.bytes.now f''.fault f''.place f''.bytes.now f.place g.read h.passed g.passed;
}

-- the same, behind something
pub next : {A B : Type 0} {r : Reader A} (k : A → Reader B) {x : A} {y : B} {f f' f'' : Fields} → Reads r f f' x → Onward (k x) f' f'' y → Onward (then_read r k) f f'' y
next {r = r} k {x = x} {y = y} {f = f} {f' = f'} {f'' = f''} h g = let both : Reads (then_read r k) f f'' y = first k h g in record { read = both.read; passed = below_on f''.fault f.place f''.place both.passed }

given_by : {A : Type 0} (x : A) (o : Option Offence) (p : ℕ) (b : List ℕ) → before (gives x) o p b ≡ reading x o p b
unfolding after
given_by x None p b = refl
given_by x (Some e) p b = refl

-- the value of the fields
pub given : {A : Type 0} {x y : A} {f : Fields} → x ≡ y → Onward (gives x) f f y
given {A = A} {x = x} {y = y} {f = f} e = record { read = given_by x f.fault f.place f.bytes.now ∙ ap (λ (z : A). reading z f.fault f.place f.bytes.now) e; passed = none_is (f.place ≤ f.place) f.fault (omega arith) }

-- ---- the group

came_by : {A : Type 0} (f : Fields) (x : A) (c : Cursor) (res : Result A Offence) → Ended f x c res → reading x f.fault f.place f.bytes.now ≡ came res c.place c.bytes.now
came_by f x c (Ok y) h = let e = h.1 in rw (h.0, e.place, e.bytes) (sym (good_is f.fault f.place f.bytes.now x e.sound))
came_by f x c (Err e) h = sym (bad_is f.fault f.place f.bytes.now x e h)

passed_by : {A : Type 0} (f f' : Fields) (x : A) (c c' : Cursor) (res : Result A Offence) → f.place ≡ c.place → IfNone f'.fault (f.place < f'.place) → Ended f' x c' res → IfOk res (λ y. c.place < c'.place)
passed_by f f' x c c' (Err e) s h g = tt
passed_by f f' x c c' (Ok y) s h g =
    let e = g.1 in
    let below = subst (λ (o : Option Offence). IfNone o (f.place < f'.place)) e.sound h in
    let there = e.place in
    omega arith

-- what the fields of a group came to
pub group : {A : Type 0} {r : Reader A} {c : Cursor} {f f' : Fields} {x : A} (c' : Cursor) (res : Result A Offence) → Begun c f → Reads r f f' x → Ended f' x c' res → Parsed r c c' res
group {r = r} {c = c} {f = f} {f' = f'} {x = x} c' res h g e =
    let begun = sym (took_by f.fault f.place f.bytes.now r h.sound) ∙ (g.read ∙ came_by f' x c' res e) in
    record {
      read = rw (← h.place, ← h.bytes) begun;
      passed = passed_by f f' x c c' res h.place g.passed e;
    }

-- ---- groups of which the first part is read by itself

good_then : {A B : Type 0} (a : Reading A) (k : A → Reader B) (x : A) (p : ℕ) (b : List ℕ) → a ≡ Good x p b → after a k ≡ k x p b
unfolding after
good_then a k x p b e = rw e refl

bad_then : {A B : Type 0} (a : Reading A) (k : A → Reader B) (p : ℕ) (why : DumpWhy) → a ≡ Bad p why → after a k ≡ Bad p why
unfolding after
bad_then a k p why e = rw e refl

pass_both : {A : Type 0} (p p' p'' : ℕ) (res : Result A Offence) → p < p' → IfOk res (λ y. p' < p'') → IfOk res (λ y. p < p'')
pass_both p p' p'' (Ok y) h g = omega arith
pass_both p p' p'' (Err e) h g = tt

-- the rest of the group
pub parsed_then : {A B : Type 0} {r : Reader A} {x : A} {c c' : Cursor} (k : A → Reader B) (c'' : Cursor) (res : Result B Offence) → Parsed r c c' (Ok x) → Parsed (k x) c' c'' res → Parsed (then_read r k) c c'' res
parsed_then {r = r} {x = x} {c = c} {c' = c'} k c'' res h g = record {
  read = good_then (r c.place c.bytes.now) k x c'.place c'.bytes.now h.read ∙ g.read;
  passed = pass_both c.place c'.place c''.place res h.passed g.passed;
}

stopped_by : {A B : Type 0} (r : Reader A) (c c' : Cursor) (k : A → Reader B) (e d : Offence) → d ≡ e → Parsed r c c' (Err e) → Parsed (then_read r k) c c' (Err d)
stopped_by r c c' k e d is h = record { read = bad_then (r c.place c.bytes.now) k e.place e.why h.read ∙ ap (λ (o : Offence). Bad o.place o.why) (sym is); passed = tt }

-- the fault of its first part
pub stopped : {A B : Type 0} {r : Reader A} {c c' : Cursor} {e : Offence} (k : A → Reader B) (res : Result B Offence) → IsErrAnd res (λ d. d ≡ e) → Parsed r c c' (Err e) → Parsed (then_read r k) c c' res
stopped k (Ok y) is h = absurd is
stopped {r = r} {c = c} {c' = c'} {e = e} k (Err d) is h = stopped_by r c c' k e d is h

-- ---- counts

counted_by : (w limit : ℕ) (ok : ℕ → Bool) (n : ℕ) (o₀ : Option Offence) (p : ℕ) (b : List ℕ) (o : Option Offence) (p' : ℕ) (b' : List ℕ) (s : ℕ) (t : Bool) → before (count_field w limit) o₀ p b ≡ reading n o p' b' → IfNone o (s ≡ p) → t ≡ ok n → before (count_by w limit ok) o₀ p b ≡ reading n (fault_after o s dump_why.Field t) p' b'
unfolding after
counted_by w limit ok n (Some e) p b None p' b' s t h start is = absurd cc
counted_by w limit ok n (Some e) p b (Some d) p' b' s t h start is = h
counted_by w limit ok n None p b None p' b' s t h start is = rw h (judged_kept dump_why.Field ok n n p p' b' s t refl start is)
counted_by w limit ok n None p b (Some d) p' b' s t h start is = rw h refl

start_by : (o : Option Offence) (s s' p : ℕ) (why : DumpWhy) (t : Bool) → s' ≡ s → IfNone o (s ≡ p) → IfNone (fault_after o s why t) (s' ≡ p)
start_by None s s' p why true e h = e ∙ h
start_by None s s' p why false e h = tt
start_by (Some d) s s' p why t e h = tt

-- a count that also keeps a rule
pub counted : {w n : ℕ} {t t' : Bool} {f f' f'' l : Fields} (limit : ℕ) (ok : ℕ → Bool) → Number w n f f' → Keeps dump_why.Count t f' f'' → Keeps dump_why.Field t' f'' l → t ≡ nat_le n limit → t' ≡ ok n → Reads (count_by w limit ok) f l n
counted {w = w} {n = n} {t = t} {t' = t'} {f = f} {f' = f'} {f'' = f''} {l = l} limit ok h k g is is' =
    let count : Reads (count_field w limit) f f'' n = kept (λ m. nat_le m limit) h k is in
    let start : IfNone f''.fault (f''.start ≡ f.place) = rw k.fault (start_by f'.fault f'.start f''.start f.place dump_why.Count t k.start h.start) in
    record {
      read = rw (g.fault, g.place, g.bytes) (counted_by w limit ok n f.fault f.place f.bytes.now f''.fault f''.place f''.bytes.now f''.start t' count.read start is');
      passed = rw (g.fault, g.place) (kept_none (f.place < f''.place) f''.fault f''.start dump_why.Field t' count.passed);
    }

-- a rule that was kept
kept_true_by : (o : Option Offence) (s : ℕ) (why : DumpWhy) (t : Bool) → fault_after o s why t ≡ None → t ≡ true
kept_true_by None s why true e = refl
kept_true_by None s why false e = absurd cc
kept_true_by (Some d) s why t e = absurd cc

if_none : (P : Type 0) (o : Option Offence) → (o ≡ None → P) → IfNone o P
if_none P None h = h refl
if_none P (Some e) h = tt

-- what follows of it
pub kept_so : {why : DumpWhy} {t : Bool} {f f' : Fields} (P : Type 0) → Keeps why t f f' → (t ≡ true → P) → IfNone f'.fault P
kept_so {why = why} {t = t} {f = f} {f' = f'} P k h = if_none P f'.fault (λ e. h (kept_true_by f.fault f.start why t (sym k.fault ∙ e)))

-- ---- parts of a group

-- a part that took some bytes
pub onward : {A : Type 0} {r : Reader A} {f f' : Fields} {x : A} → Reads r f f' x → Onward r f f' x
onward {f = f} {f' = f'} h = record { read = h.read; passed = below_on f'.fault f.place f'.place h.passed }

module _ (rs : List Region) (domain : Name) (mtu : ℕ) {f f' : Fields} {x : Progress} where
  pub at_send : (code : ℕ) → code ≡ 1 → Reads (send_field rs domain mtu) f f' x → Onward (progress_by rs domain mtu code) f f' x
  unfolding progress_by
  at_send code e h = rw e (onward h)

  pub at_write : (code : ℕ) → code ≡ 2 → Reads (write_field rs domain mtu) f f' x → Onward (progress_by rs domain mtu code) f f' x
  unfolding progress_by
  at_write code e h = rw e (onward h)
