-- A dump from its first byte.
use Rattle.std.proofs.Common.{◌≡◌, ℕ, List, [], refl, sym, ◌∙◌}
use Rattle.protocol.specs.Dumps.{after, raw, is_magic, context_field, read_dump}
use Rattle.dump_reader.specs.Ahead.{opening_field, more_domains, more_regions, more_queues, more_ends, finished}
use Rattle.dump_reader.proofs.Split.{after_after, after_same, regroup, past}

-- the first fields, and the lists
pub dump_opens : (bs : List ℕ) → read_dump bs ≡ after (opening_field 0 bs) (λ o. more_domains o o.count [])
unfolding read_dump context_field opening_field more_domains more_regions more_queues more_ends finished
dump_opens bs =
    sym (after_after (raw 8 0 bs) is_magic _)
    ∙ regroup _ _ _ _ λ same p bs. regroup _ _ _ _ λ version p bs. regroup _ _ _ _ λ name p bs. after_after _ _ _ ∙ regroup _ _ _ _ λ count p bs.
    past _ _ _ _ (after_same _ _ _ λ ds p bs. after_after _ _ _ ∙ after_same _ _ _ λ k p bs. after_same _ _ _ λ rs p bs. after_after _ _ _
    ∙ after_same _ _ _ λ k p bs. after_same _ _ _ λ qs p bs. after_after _ _ _ ∙ after_same _ _ _ λ k p bs. refl)
