use Rattle.std.proofs.Common.{◌≡◌, ◌++◌, ℕ, List, ap, ◌∙◌, append_assoc}
use Rattle.protocol.specs.Bytes.{big_bytes}
use Rattle.roce_headers.proofs.writing.put_atomic.Goals as goal

-- four pieces behind others, one after the other
four : (o a b c d : List ℕ) → (((o ++ a) ++ b) ++ c) ++ d ≡ o ++ (((a ++ b) ++ c) ++ d)
four o a b c d =
    ap (λ xs. (xs ++ c) ++ d) (append_assoc o a b)
    ∙ (ap (λ xs. xs ++ d) (append_assoc o (a ++ b) c) ∙ append_assoc o ((a ++ b) ++ c) d)

pub returns-in-Some-clause-items : goal.returns-in-Some-clause-items
unfolding big_bytes
returns-in-Some-clause-items c =
    let h = c.in-Some.h in
    let one = c.put.ensures.items ∙ ap (λ xs. c.args.out.now.items ++ xs) c.to_be_bytes.ensures in
    let two = c.put-in-Some.ensures.items ∙ (ap (λ xs. xs ++ c.to_be_bytes-in-Some.result) one ∙ ap (λ xs. (c.args.out.now.items ++ big_bytes 8 h.address) ++ xs) c.to_be_bytes-in-Some.ensures) in
    let three = c.put-in-Some-2.ensures.items ∙ (ap (λ xs. xs ++ c.to_be_bytes-in-Some-2.result) two ∙ ap (λ xs. ((c.args.out.now.items ++ big_bytes 8 h.address) ++ big_bytes 4 h.rkey) ++ xs) c.to_be_bytes-in-Some-2.ensures) in
    let all = c.put-in-Some-3.ensures.items ∙ (ap (λ xs. xs ++ c.to_be_bytes-in-Some-3.result) three ∙ ap (λ xs. (((c.args.out.now.items ++ big_bytes 8 h.address) ++ big_bytes 4 h.rkey) ++ big_bytes 8 h.swap_add) ++ xs) c.to_be_bytes-in-Some-3.ensures) in
    rw c.in-Some.is (all ∙ four c.args.out.now.items (big_bytes 8 h.address) (big_bytes 4 h.rkey) (big_bytes 8 h.swap_add) (big_bytes 8 h.compare))
