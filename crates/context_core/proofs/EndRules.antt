-- The device's rules on one end, in the words of an end's step.
use Rattle.std.proofs.Common.{◌≡◌, ◌+◌, refl, ap, sym, ◌∙◌, Bool, true, false}
use Rattle.std.specs.Prelude.{Option, Some, None, IfSome, IsSome, ◌==◌, if◌then◌else◌}
use Rattle.rdma_types.specs.declared.answers.Answer.TheVariants as answer
use Rattle.rdma_types.specs.declared.answers.ExpiryIgnored.{ExpiryIgnored}
use Rattle.rdma_types.specs.declared.requests.WcStatus.TheVariants as status
use Rattle.protocol.specs.DeviceStep.{answers, at_link, counts, expires, expires_by, rnr_over, waits_out, with_context}
use Rattle.protocol.specs.EndWords.{linked, with_end, with_link, with_sender}
use Rattle.protocol.specs.Requester.{counted, ended_with, not_counted, waited_out}
use Rattle.protocol.specs.State.{Context, Device, End, Link}
use Rattle.endpoint_core.specs.Answers.{expired_answer, expired_at, expired_by, expiry_of, waited_at}

by-reason : (d : Device) (c : Context) (e : End) (l : Link) (w : Option ExpiryIgnored) → with_context d c ≡ d → expires_by d c e l w ≡ answers (with_context d (expired_by c e l w)) (expired_answer l w)
unfolding counts
by-reason d c e l (Some w) same = ap (λ x. answers x (answer.NotCounted w)) (sym same)
by-reason d c e l None same = by (l.sender.spent == l.terms.retry)
  where
    by : (b : Bool) → (if b then answers (with_context d (ended_with c e l status.RetryExceeded)) answer.Spent else answers (with_context d (linked c e (with_sender l (counted l.sender)))) (answer.Expired (l.sender.spent + 1)))
        ≡ answers (with_context d (if b then ended_with c e l status.RetryExceeded else linked c e (with_sender l (counted l.sender)))) (if b then answer.Spent else answer.Expired (l.sender.spent + 1))
    by true = refl
    by false = refl

-- an expiry
pub expires-is : (d : Device) (c : Context) (e : End) → IsSome e.link → with_context d c ≡ d → expires d c e ≡ answers (with_context d (expired_at c e e.link)) (expiry_of e.link)
unfolding expires
expires-is d c e some same = by e.link some
  where
    by : (l : Option Link) → IsSome l → at_link d l (λ k. expires_by d c e k (not_counted k)) ≡ answers (with_context d (expired_at c e l)) (expiry_of l)
    by None s = absurd (cc)
    by (Some l) s = by-reason d c e l (not_counted l) same

-- the end of the RNR timer
pub over-is : (d : Device) (c : Context) (e : End) (l : Link) (was : Bool) → l.sender.rnr_wait ≡ was → with_context d c ≡ d → waits_out d c e l ≡ (if was then answers (with_context d (linked c e (with_sender l (waited_out l.sender)))) answer.Over else answers (with_context d c) answer.NotWaiting)
over-is d c e l true w same = rw w refl
over-is d c e l false w same = rw w (ap (λ x. answers x answer.NotWaiting) (sym same))

-- where an end did not wait, the end of the timer leaves it as it was
waited-none : (l : Link) → l.sender.rnr_wait ≡ false → with_sender l (waited_out l.sender) ≡ l
unfolding with_sender
waited-none l e = ap {A = Bool} (λ b. record l { sender = record l.sender { rnr_wait = b } }) (sym e)

pub rnr-is : (d : Device) (c : Context) (e : End) (was : Bool) → IsSome e.link → IfSome e.link (λ l. was ≡ l.sender.rnr_wait) → with_context d c ≡ d → with_end c e ≡ c → rnr_over d c e ≡ answers (with_context d (waited_at c e e.link)) (if was then answer.Over else answer.NotWaiting)
unfolding rnr_over with_link
rnr-is d c e was some w same there = by e.link refl some w
  where
    not-waiting : (l : Link) → e.link ≡ Some l → l.sender.rnr_wait ≡ false → c ≡ linked c e (with_sender l (waited_out l.sender))
    not-waiting l is none = sym there ∙ (ap {A = Option Link} (λ o. with_end c (record e { link = o })) is ∙ ap (λ k. with_end c (record e { link = Some k })) (sym (waited-none l none)))

    at : (l : Link) → e.link ≡ Some l → (b : Bool) → b ≡ l.sender.rnr_wait → waits_out d c e l ≡ answers (with_context d (linked c e (with_sender l (waited_out l.sender)))) (if b then answer.Over else answer.NotWaiting)
    at l is true q = over-is d c e l true (sym q) same
    at l is false q = over-is d c e l false (sym q) same ∙ ap (λ x. answers (with_context d x) answer.NotWaiting) (not-waiting l is (sym q))

    by : (l : Option Link) → e.link ≡ l → IsSome l → IfSome l (λ k. was ≡ k.sender.rnr_wait) → at_link d l (λ k. waits_out d c e k) ≡ answers (with_context d (waited_at c e l)) (if was then answer.Over else answer.NotWaiting)
    by None is s q = absurd (cc)
    by (Some l) is s q = at l is was q
