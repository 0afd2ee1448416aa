-- What the first found end keeps.
use Rattle.std.proofs.Common.{◌≡◌, ℕ, List, [], ◌∷◌, Some, None, true, false, refl, ap, subst, rules}
use Rattle.std.specs.Prelude.{Option, option_map}
use Rattle.device_core.specs.declared.finding.FoundEnd.{FoundEnd}
use Rattle.device_core.specs.Readings.{mark_pair}
use Rattle.protocol.specs.Bytes.{byte_at, number_at}
use Rattle.protocol.specs.DeviceStep.{Found, found_in}
use Rattle.protocol.specs.Readers.{marks_by, marks_of}
use Rattle.protocol.specs.State.{Device}
use Rattle.protocol.specs.WorldStep.{mark_of, now_at}
use Rattle.protocol.specs.Wire.{is_request}
use Rattle.world_core.specs.Sites.{IsFoundOn}
use Rattle.world_core.proofs.network.mark_of.Goals as goal

same_pair : (p q : ℕ × ℕ) → Some p ≡ Some q → p ≡ q
same_pair p q h = cc

expected_by : (fs : List Found) (opcode : ℕ) (a b : ℕ) → Some (a, b) ≡ option_map mark_pair (marks_by fs) → is_request opcode ≡ true → a ≡ mark_of fs opcode
expected_by [] opcode a b h r = absurd (cc)
expected_by (f ∷ fs) opcode a b h r = rw r (ap (λ (p : ℕ × ℕ). p.0) (same_pair (a, b) (f.link.receiver.expected, f.link.sender.top) h))

top_by : (fs : List Found) (opcode : ℕ) (a b : ℕ) → Some (a, b) ≡ option_map mark_pair (marks_by fs) → is_request opcode ≡ false → b ≡ mark_of fs opcode
top_by [] opcode a b h r = absurd (cc)
top_by (f ∷ fs) opcode a b h r = rw r (ap (λ (p : ℕ × ℕ). p.1) (same_pair (a, b) (f.link.receiver.expected, f.link.sender.top) h))

none_by : (fs : List Found) (opcode : ℕ) → None ≡ option_map mark_pair (marks_by fs) → 0 ≡ mark_of fs opcode
none_by [] opcode h = refl
none_by (f ∷ fs) opcode h = absurd (cc)

-- .. on the device, if there is one
expected_on : (o : Option Device) (bytes : List ℕ) (found : Option FoundEnd) (end : FoundEnd) → found ≡ Some end → IsFoundOn o bytes found → is_request (byte_at 0 bytes) ≡ true → end.expected ≡ now_at o bytes
unfolding marks_of
expected_on None bytes found end is h r = absurd (cc)
expected_on (Some d) bytes found end is h r = expected_by (found_in (number_at 5 3 bytes) d.contexts) (byte_at 0 bytes) end.expected end.top (subst (λ x. IsFoundOn (Some d) bytes x) is h).marks r

top_on : (o : Option Device) (bytes : List ℕ) (found : Option FoundEnd) (end : FoundEnd) → found ≡ Some end → IsFoundOn o bytes found → is_request (byte_at 0 bytes) ≡ false → end.top ≡ now_at o bytes
unfolding marks_of
top_on None bytes found end is h r = absurd (cc)
top_on (Some d) bytes found end is h r = top_by (found_in (number_at 5 3 bytes) d.contexts) (byte_at 0 bytes) end.expected end.top (subst (λ x. IsFoundOn (Some d) bytes x) is h).marks r

none_on : (o : Option Device) (bytes : List ℕ) (found : Option FoundEnd) → found ≡ None → IsFoundOn o bytes found → 0 ≡ now_at o bytes
unfolding marks_of
none_on None bytes found is h = refl
none_on (Some d) bytes found is h = none_by (found_in (number_at 5 3 bytes) d.contexts) (byte_at 0 bytes) (subst (λ x. IsFoundOn (Some d) bytes x) is h).marks

pub returns-in-Some : goal.returns-in-Some
returns-in-Some c = λ o h. expected_on o c.args.bytes.now c.args.found c.in-Some.end c.in-Some.is h (search rules)

pub returns-in-Some-2 : goal.returns-in-Some-2
returns-in-Some-2 c = λ o h. top_on o c.args.bytes.now c.args.found c.in-Some-2.end c.in-Some-2.is h (search rules)

pub returns-in-None : goal.returns-in-None
returns-in-None c = λ o h. none_on o c.args.bytes.now c.args.found c.in-None.is h
