-- Expiries that are counted or not.
use Rattle.std.proofs.Common.{◌≡◌, ℕ, ◌+◌, Bool, true, false, refl, ap, sym, ◌∙◌}
use Rattle.std.specs.Prelude.{◌==◌, ◌||◌, Option, Some, None, if◌then◌else◌}
use Rattle.rdma_types.specs.declared.answers.Answer.TheVariants as answer
use Rattle.rdma_types.specs.declared.answers.ExpiryIgnored.{ExpiryIgnored}
use Rattle.rdma_types.specs.declared.answers.ExpiryIgnored.TheVariants as why
use Rattle.rdma_types.specs.declared.requests.WcStatus.TheVariants as status
use Rattle.page_pool.specs.Pool.{Pool}
use Rattle.protocol.specs.EndWords.{is_paused, is_resuming, linked, with_sender}
use Rattle.protocol.specs.Requester.{counted, ended_with, not_counted}
use Rattle.protocol.specs.State.{Context, End, Link}
use Rattle.requester.specs.declared.answers.Expiry.{Expiry}
use Rattle.requester.specs.declared.answers.Expiry.TheVariants as expiry
use Rattle.requester.specs.Sending.{Sending, sender_of}
use Rattle.endpoint_core.specs.declared.end.EndLink.{EndLink}
use Rattle.endpoint_core.specs.Answers.{IsExpiry, expired_answer, expired_by, is_spent, link_after_expiry}
use Rattle.endpoint_core.specs.Ends.{link_in}
use Rattle.endpoint_core.proofs.Rows.{sender-in}

pub expired-spent : (c : Context) (e : End) (l : Link) (w : Option ExpiryIgnored) → is_spent l w ≡ true → expired_by c e l w ≡ ended_with c e l status.RetryExceeded
expired-spent c e l (Some w) spent = absurd (cc)
expired-spent c e l None spent = rw spent refl

pub answer-spent : (l : Link) (w : Option ExpiryIgnored) → is_spent l w ≡ true → answer.Spent ≡ expired_answer l w
answer-spent l (Some w) spent = absurd (cc)
answer-spent l None spent = rw spent refl

pub expired-few : (c : Context) (e : End) (l : Link) (w : Option ExpiryIgnored) → is_spent l w ≡ false → linked c e l ≡ c → expired_by c e l w ≡ linked c e (link_after_expiry l w)
expired-few c e l (Some w) few same = sym same
expired-few c e l None few same = rw few refl

-- a reason not to count it
pub expiry-why : (l : Link) (w : ExpiryIgnored) → not_counted l ≡ Some w → IsExpiry l (answer.NotCounted w) l
expiry-why l w is = record {
  few = ap (is_spent l) is;
  answer = sym (ap (expired_answer l) is);
  next = sym (ap (link_after_expiry l) is);
}

-- the reasons in their order
reason : (ended paused resuming waits none : Bool) → Option ExpiryIgnored
reason ended paused resuming waits none =
    if ended then Some why.Ended else if paused then Some why.Paused else if resuming then Some why.Resuming else if waits then Some why.Rnr else if none then Some why.Nothing else None

reason-is : (l : Link) → not_counted l ≡ reason l.ended (is_paused l.moving.phase) (is_resuming l.moving.phase) l.sender.rnr_wait (l.sender.next == l.sender.una)
unfolding not_counted reason
reason-is l = refl

reason-none : (a b c d e : Bool) → reason a b c d e ≡ None → (d || e) ≡ false
unfolding reason
reason-none true b c d e is = absurd (cc)
reason-none false true c d e is = absurd (cc)
reason-none false false true d e is = absurd (cc)
reason-none false false false true e is = absurd (cc)
reason-none false false false false true is = absurd (cc)
reason-none false false false false false is = refl

-- what the requester answers where nothing is in the way
counting : (waits spent : Bool) (n : ℕ) → Expiry
counting waits spent n = if waits then expiry.NotCounted else if spent then expiry.Spent else expiry.Counted n

module _ (pool : Pool) (l : EndLink) (r : Expiry) (new : Sending) (none : not_counted (link_in pool l) ≡ None) (same : l.requester.terms ≡ l.terms)
    (answered : r ≡ (if l.requester.numbers.rnr_wait || l.requester.numbers.next == l.requester.numbers.una then expiry.NotCounted
    else if l.requester.numbers.spent == l.requester.terms.retry then expiry.Spent else expiry.Counted (l.requester.numbers.spent + 1))) where
  in-way : (l.requester.numbers.rnr_wait || l.requester.numbers.next == l.requester.numbers.una) ≡ false
  in-way = reason-none l.ended (is_paused (link_in pool l).moving.phase) (is_resuming (link_in pool l).moving.phase) l.requester.numbers.rnr_wait (l.requester.numbers.next == l.requester.numbers.una) (sym (reason-is (link_in pool l)) ∙ none)

  counted-by : r ≡ counting false (l.requester.numbers.spent == l.terms.retry) (l.requester.numbers.spent + 1)
  unfolding counting
  counted-by =
      answered
      ∙ (ap (λ b. if b then expiry.NotCounted else if l.requester.numbers.spent == l.requester.terms.retry then expiry.Spent else expiry.Counted (l.requester.numbers.spent + 1)) in-way
      ∙ ap (λ t. if l.requester.numbers.spent == t.retry then expiry.Spent else expiry.Counted (l.requester.numbers.spent + 1)) same)

  pub not-counted-never : r ≡ expiry.NotCounted → ⊥
  unfolding counting
  not-counted-never is = by_spent (l.requester.numbers.spent == l.terms.retry) (sym counted-by ∙ is)
    where
      by_spent : (b : Bool) → counting false b (l.requester.numbers.spent + 1) ≡ expiry.NotCounted → ⊥
      by_spent true e = cc
      by_spent false e = cc

  pub spent-is : r ≡ expiry.Spent → is_spent (link_in pool l) (not_counted (link_in pool l)) ≡ true
  unfolding counting
  spent-is is = ap (is_spent (link_in pool l)) none ∙ by_spent (l.requester.numbers.spent == l.terms.retry) (sym counted-by ∙ is)
    where
      by_spent : (b : Bool) → counting false b (l.requester.numbers.spent + 1) ≡ expiry.Spent → b ≡ true
      by_spent true e = refl
      by_spent false e = absurd (cc)

  pub counted-is : (n : ℕ) → r ≡ expiry.Counted n
      → sender_of new ≡ (if l.requester.numbers.rnr_wait || (l.requester.numbers.next == l.requester.numbers.una || l.requester.numbers.spent == l.requester.terms.retry) then sender_of l.requester else counted (sender_of l.requester))
      → new.items ≡ l.requester.items → IsExpiry (link_in pool l) (answer.Expired n) (link_in pool (record l { requester = new }))
  unfolding counting with_sender
  counted-is n is numbers items =
      let some : ((l.requester.numbers.spent == l.terms.retry) ≡ false) × (l.requester.numbers.spent + 1 ≡ n) = by_spent (l.requester.numbers.spent == l.terms.retry) (sym counted-by ∙ is) in
      let moved : sender_of new ≡ counted (sender_of l.requester) = numbers ∙ (ap (λ t. if l.requester.numbers.rnr_wait || (l.requester.numbers.next == l.requester.numbers.una || l.requester.numbers.spent == t.retry) then sender_of l.requester else counted (sender_of l.requester)) same
      ∙ by_way l.requester.numbers.rnr_wait (l.requester.numbers.next == l.requester.numbers.una) (l.requester.numbers.spent == l.terms.retry) in-way some.0) in
      record {
        few = ap (is_spent (link_in pool l)) none ∙ some.0;
        answer = sym (ap (expired_answer (link_in pool l)) none ∙ (ap (λ b. if b then answer.Spent else answer.Expired (l.requester.numbers.spent + 1)) some.0 ∙ ap answer.Expired some.1));
        next = ap (λ x. record (link_in pool l) { sender = x }) (sender-in pool l.requester new (counted (sender_of l.requester)) moved items) ∙ sym (ap (link_after_expiry (link_in pool l)) none);
      }
    where
      by_spent : (b : Bool) → counting false b (l.requester.numbers.spent + 1) ≡ expiry.Counted n → (b ≡ false) × (l.requester.numbers.spent + 1 ≡ n)
      by_spent true e = absurd (cc)
      by_spent false e = let m : l.requester.numbers.spent + 1 ≡ n = cc in (refl, m)

      by_way : (a b d : Bool) → (a || b) ≡ false → d ≡ false → (if a || (b || d) then sender_of l.requester else counted (sender_of l.requester)) ≡ counted (sender_of l.requester)
      by_way true b d way few = absurd (cc)
      by_way false true d way few = absurd (cc)
      by_way false false true way few = absurd (cc)
      by_way false false false way few = refl
