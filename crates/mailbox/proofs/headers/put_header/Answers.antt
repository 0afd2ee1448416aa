use Rattle.std.proofs.Common.{◌≡◌, ◌∷◌, [], ◌++◌, ◌∙◌, ℕ, List, ap, refl, append_assoc, if◌then◌else◌}
use Rattle.std.specs.Prelude.{OnOk, Result, Ok, Err}
use Rattle.std.specs.Result.{is_ok}
use Rattle.std.proofs.lemmas.Result.{on_ok_weaker}
use Rattle.protocol.specs.Bytes.{big_bytes}
use Rattle.mailbox_rules.specs.Letters.{header_bytes}
use Rattle.mailbox.proofs.headers.put_header.Goals as goal

joined : (t0 t1 t2 t3 t4 k w1 w2 w3 : List ℕ) → t1 ≡ t0 ++ k → t2 ≡ t1 ++ w1 → t3 ≡ t2 ++ w2 → t4 ≡ t3 ++ w3 → t4 ≡ t0 ++ ((k ++ w1) ++ (w2 ++ w3))
joined t0 t1 t2 t3 t4 k w1 w2 w3 e1 e2 e3 e4 = (e4 ∙ ap (λ t. t ++ w3) (e3 ∙ ap (λ t. t ++ w2) (e2 ∙ ap (λ t. t ++ w1) e1))) ∙ simp append_assoc refl

appended : {T E : Type 0} (r : Result T E) (new whole rest : List ℕ) → new ≡ (if is_ok r then whole else rest) → OnOk r (new ≡ whole)
appended (Ok x) new whole rest is = is
appended (Err e) new whole rest is = tt

pub returns : goal.returns
unfolding header_bytes
returns c = on_ok_weaker c.extend_from_slice-4.result (λ last.
    joined c.args.out.now.items c.extend_from_slice.new.self.items c.extend_from_slice-2.new.self.items c.extend_from_slice-3.new.self.items c.extend_from_slice-4.new.self.items
    ((if c.args.header.now.fetched then 2 else 1) ∷ 0 ∷ 0 ∷ 0 ∷ []) (big_bytes 4 c.args.header.now.tag) (big_bytes 4 c.args.header.now.length) (big_bytes 4 c.args.header.now.rkey)
    (c.in_ok-extend_from_slice.ensures.items ∙ ap (λ b. c.args.out.now.items ++ b ∷ 0 ∷ 0 ∷ 0 ∷ []) c.kind_of.ensures)
    (c.in_ok-extend_from_slice-2.ensures.items ∙ ap (λ w. c.extend_from_slice.new.self.items ++ w) c.big_bytes.ensures)
    (c.in_ok-extend_from_slice-3.ensures.items ∙ ap (λ w. c.extend_from_slice-2.new.self.items ++ w) c.big_bytes-2.ensures)
    (last ∙ ap (λ w. c.extend_from_slice-3.new.self.items ++ w) c.big_bytes-3.ensures)) (appended c.extend_from_slice-4.result _ _ _ c.extend_from_slice-4.ensures.items)
