-- Results that are errors, and what holds by the kind of error.
use Rattle.std.proofs.Common.{◌≡◌, refl, sym, ap, ◌∙◌, subst, List, length, ℕ, nat_lt, Bool, true, false, not, Some, None}
use Rattle.std.specs.Prelude.{IfErr, OnOk, Option, Result, Ok, Err, if◌then◌else◌}
use Rattle.std.specs.Result.{IsErrAnd}
use Rattle.mailbox_rules.specs.declared.faults.MailFault.{MailFault}
use Rattle.mailbox_rules.specs.declared.faults.MailFault.TheVariants as fault
use Rattle.rdma_types.specs.Limits.{most_bytes}
use Rattle.mailbox_rules.specs.State.{Mail, channel, is_away, is_sender}
use Rattle.mailbox_rules.specs.Calls.{is_full, send_fault}
use Rattle.mailbox.specs.Runs.{IsRefusal}
use Rattle.mailbox.specs.Steps.{ByFault}

pub if_err_is : {T E : Type 0} (P : E → Type 0) (r : Result T E) (e : E) → IsErrAnd r (λ x. x ≡ e) → P e → IfErr r P
if_err_is P (Ok x) e h p = tt
if_err_is P (Err y) e h p = subst P (sym h) p

pub always : {T E P : Type 0} (r : Result T E) → P → OnOk r P
always (Ok x) p = p
always (Err e) p = tt

pub if_err_weaker : {T E : Type 0} (r : Result T E) (P Q : E → Type 0) → ((e : E) → P e → Q e) → IfErr r P → IfErr r Q
if_err_weaker (Ok x) P Q weaker h = tt
if_err_weaker (Err e) P Q weaker h = weaker e h

pub by_fault_weaker : (f : MailFault) (cut refused cut' refused' : Type 0) → (cut → cut') → (refused → refused') → ByFault f cut refused → ByFault f cut' refused'
by_fault_weaker fault.NoSender cut refused cut' refused' one two h = two h
by_fault_weaker fault.TooLong cut refused cut' refused' one two h = two h
by_fault_weaker fault.Moving cut refused cut' refused' one two h = two h
by_fault_weaker fault.Ended cut refused cut' refused' one two h = two h
by_fault_weaker fault.Full cut refused cut' refused' one two h = two h
by_fault_weaker fault.NotNetwork cut refused cut' refused' one two h = two h
by_fault_weaker fault.OutOfMemory cut refused cut' refused' one two h = one h

-- a call that was not cut off is refused
pub by_refusal : (f : MailFault) (cut refused : Type 0) → (f ≡ fault.OutOfMemory → ⊥) → refused → ByFault f cut refused
by_refusal fault.NoSender cut refused other h = h
by_refusal fault.TooLong cut refused other h = h
by_refusal fault.Moving cut refused other h = h
by_refusal fault.Ended cut refused other h = h
by_refusal fault.Full cut refused other h = h
by_refusal fault.NotNetwork cut refused other h = h
by_refusal fault.OutOfMemory cut refused other h = absurd (other refl)

pub refusal_of : (f : MailFault) (cut refused : Type 0) → IsRefusal f → ByFault f cut refused → refused
refusal_of fault.NoSender cut refused is h = h
refusal_of fault.TooLong cut refused is h = h
refusal_of fault.Moving cut refused is h = h
refusal_of fault.Ended cut refused is h = h
refusal_of fault.Full cut refused is h = h
refusal_of fault.NotNetwork cut refused is h = h
refusal_of fault.OutOfMemory cut refused is h = absurd is

-- no letter is refused since memory ran out
by_reasons : Bool → Bool → Bool → Bool → Bool → Option MailFault
by_reasons a b c d e =
    if a then Some fault.NoSender
    else if b then Some fault.TooLong
    else if c then Some fault.Moving
    else if d then Some fault.Ended
    else if e then Some fault.Full
    else None

never : (f : MailFault) (a b c d e : Bool) → by_reasons a b c d e ≡ Some f → f ≡ fault.OutOfMemory → ⊥
unfolding by_reasons
never f true b c d e is out = let h : Some fault.NoSender ≡ Some fault.OutOfMemory = is ∙ ap (λ x. Some x) out in cc
never f false true c d e is out = let h : Some fault.TooLong ≡ Some fault.OutOfMemory = is ∙ ap (λ x. Some x) out in cc
never f false false true d e is out = let h : Some fault.Moving ≡ Some fault.OutOfMemory = is ∙ ap (λ x. Some x) out in cc
never f false false false true e is out = let h : Some fault.Ended ≡ Some fault.OutOfMemory = is ∙ ap (λ x. Some x) out in cc
never f false false false false true is out = let h : Some fault.Full ≡ Some fault.OutOfMemory = is ∙ ap (λ x. Some x) out in cc
never f false false false false false is out = let h : None ≡ Some fault.OutOfMemory = is ∙ ap (λ x. Some x) out in cc

pub never_out : (v : Mail) (i : ℕ) (body : List ℕ) (f : MailFault) → send_fault v i body ≡ Some f → f ≡ fault.OutOfMemory → ⊥
unfolding by_reasons
never_out v i body f is out = never f (not (is_sender v i)) (nat_lt most_bytes (length body)) (is_away v.world i) (channel v i).sender_ended (is_full v i body) is out

pub no_sender_fault : (v : Mail) (i : ℕ) (body : List ℕ) → is_sender v i ≡ false → send_fault v i body ≡ Some fault.NoSender
unfolding by_reasons
no_sender_fault v i body is = ap (λ b. by_reasons (not b) (nat_lt most_bytes (length body)) (is_away v.world i) (channel v i).sender_ended (is_full v i body)) is
