use Rattle.std.proofs.Common.{◌≡◌, ◌+◌, ◌++◌, length, replicate, take, ap, ◌∙◌, arith}
use Rattle.std.proofs.lemmas.List.{take-replicate}
use Rattle.protocol.specs.Wire.{base_bytes, extension_bytes, padding, wire_of}
use Rattle.roce_headers.specs.Packets.{packet}
use Rattle.roce_headers.proofs.writing.encode_in.Goals as goal

pub returns : goal.returns
unfolding wire_of
returns c =
    let d = packet c.args.d.now in
    let n = c.padding_len.result + 4 in
    let base : c.put.new.out.items ≡ base_bytes d = c.put.ensures.items ∙ (ap (λ xs. xs ++ c.base_as_bytes.result) c.requires.empty ∙ c.base_as_bytes.ensures) in
    let headers = c.put_headers.ensures.items ∙ ap (λ xs. xs ++ extension_bytes d) base in
    let payload = c.put-2.ensures.items ∙ ap (λ xs. xs ++ d.payload) headers in
    let zeros : take n (replicate 8 0) ≡ replicate (padding (length d.payload) + 4) 0 = take-replicate n 8 0 (omega (arith, c.padding_len.ensures.small)) ∙ ap (λ k. replicate (k + 4) 0) c.padding_len.ensures.len in
    c.put-3.ensures.items ∙ (ap (λ xs. xs ++ take n (replicate 8 0)) payload ∙ ap (λ xs. ((base_bytes d ++ extension_bytes d) ++ d.payload) ++ xs) zeros)
