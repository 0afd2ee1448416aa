use Rattle.std.proofs.Common.{arith, ◌≡◌, ℕ, zero, suc, ◌<◌, List, [], ◌∷◌, refl, slice_get, Some}
use Rattle.completion_fanout.specs.declared.entry.FanEntry.{FanEntry}
use Rattle.completion_fanout.specs.Fanned.{IsRising, all_entries, places, times}
use Rattle.example_threads.specs.Handed.{drained, taken}
use Rattle.example_threads.proofs.Small.{none_rises, one_rises, two_rise}
use Rattle.example_threads.proofs.three_are_fanned.Goals as goal

same : (i : ℕ) (e : FanEntry) → slice_get (all_entries taken []) i ≡ Some e → slice_get drained e.place ≡ Some e.completion
same zero e h = cc
same (suc zero) e h = cc
same (suc (suc zero)) e h = cc
same (suc (suc (suc i))) e h = cc

once : (k : ℕ) → k < 3 → times k (places (all_entries taken [])) ≡ 1
once zero h = refl
once (suc zero) h = refl
once (suc (suc zero)) h = refl
once (suc (suc (suc k))) h = absurd (omega (arith, h))

rising : (i : ℕ) (es : List FanEntry) → slice_get taken i ≡ Some es → IsRising (places es)
rising zero es h = let p : places es ≡ 0 ∷ 2 ∷ [] = cc in rw p two_rise
rising (suc zero) es h = let p : places es ≡ 1 ∷ [] = cc in rw p (one_rises 1)
rising (suc (suc i)) es h = absurd (cc)

pub returns : goal.returns
returns c = record { same = same; once = once; rising = rising; left_rising = none_rises }
