use Rattle.std.proofs.Common.{◌≡◌, length, ap, sym, ◌∙◌}
use Rattle.rdma_types.specs.Memory.{word_bytes}
use Rattle.memory_keys.specs.Regions.{regions_of}
use Rattle.protocol.specs.Memory.{written}
use Rattle.responder.specs.Taking.{context_of}
use Rattle.responder.proofs.Granted.{spot-written, word-length}
use Rattle.responder.proofs.places.exchange.Goals as goal

pub returns-clause-written : goal.returns-clause-written
returns-clause-written c =
    let word = word_bytes c.next_word-word.result in
    let l : length word ≡ c.args.spot.length = word-length c.next_word-word.result ∙ sym c.requires.length in
    c.put_word.ensures.regions
    ∙ (spot-written c.args.pool.now c.args.regions.now c.args.spot word c.are_keyed.ensures c.requires.place l
    ∙ ap (λ w. (written (context_of (regions_of c.args.pool.now c.args.regions.now)) c.args.spot.region c.args.spot.off (word_bytes w)).regions) c.next_word-word.ensures)
