use Rattle.std.proofs.Common.{◌≡◌, List, [], ◌∷◌, rules, sym, ◌∙◌}
use Rattle.page_pool.specs.Held.{payload_bytes}
use Rattle.device_differences.specs.Differing.{between}
use Rattle.device_differences.specs.Differences.{posted_difference}
use Rattle.device_differences.specs.Numbers.{numbers_of_request}
use Rattle.device_differences.proofs.Found.{first-last, part-found, part-passed}
use Rattle.device_differences.proofs.requests.posted.Goals as goal

pub returns-then-is_some : goal.returns-then-is_some
unfolding posted_difference
returns-then-is_some c =
    let e : c.numbers-found.result ≡ between (numbers_of_request c.args.x.now.request) (numbers_of_request c.args.y.now.request) = cc in
    part-found c.numbers-found.result (between (numbers_of_request c.args.x.now.request) (numbers_of_request c.args.y.now.request)) (between (payload_bytes c.args.pool.now c.args.x.now.payload) (payload_bytes c.args.other_pool.now c.args.y.now.payload) ∷ []) e (search rules)

pub returns : goal.returns
unfolding posted_difference
returns c =
    let e : c.numbers-found.result ≡ between (numbers_of_request c.args.x.now.request) (numbers_of_request c.args.y.now.request) = cc in
    let bytes = between (payload_bytes c.args.pool.now c.args.x.now.payload) (payload_bytes c.args.other_pool.now c.args.y.now.payload) in
    c.payloads.ensures ∙ sym (part-passed c.numbers-found.result (between (numbers_of_request c.args.x.now.request) (numbers_of_request c.args.y.now.request)) (bytes ∷ []) e (search rules) ∙ first-last bytes)
