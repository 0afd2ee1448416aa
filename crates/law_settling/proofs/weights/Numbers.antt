-- The numbers of a queue while its first requests are told.
use Rattle.std.proofs.Common.{arith, ◌≡◌, ◌+◌, ℕ, zero, suc, List, [], ◌∷◌, refl, drop}
use Rattle.rdma_types.specs.declared.requests.Terms.{Terms}
use Rattle.rdma_types.specs.Objects.{Posted}
use Rattle.rdma_types.specs.Spans.{end_number, first_number}
use Rattle.protocol.specs.State.{Sender}
use Rattle.protocol.specs.Requester.{after_telling, end_of_queue, told_count}

end_cut : (k : ℕ) (ps : List Posted) (mtu : ℕ) → first_number ps mtu k + end_number (drop k ps) mtu ≡ end_number ps mtu
unfolding first_number end_number
end_cut zero [] mtu = refl
end_cut (suc k) [] mtu = refl
end_cut zero (p ∷ ps) mtu = omega arith
end_cut (suc k) (p ∷ ps) mtu = omega (arith, end_cut k ps mtu)

-- telling leaves the end of the numbers as it is
pub told_end : (terms : Terms) (s : Sender) → end_of_queue terms (after_telling terms s) ≡ end_of_queue terms s
unfolding end_of_queue after_telling
told_end terms s = omega (arith, end_cut (told_count terms s) s.untold terms.mtu)

pub told_una : (terms : Terms) (s : Sender) → (after_telling terms s).una ≡ s.una
unfolding after_telling
told_una terms s = refl

pub told_spent : (terms : Terms) (s : Sender) → (after_telling terms s).spent ≡ s.spent
unfolding after_telling
told_spent terms s = refl

pub told_waits : (terms : Terms) (s : Sender) → (after_telling terms s).waits ≡ s.waits
unfolding after_telling
told_waits terms s = refl

pub told_wait : (terms : Terms) (s : Sender) → (after_telling terms s).rnr_wait ≡ s.rnr_wait
unfolding after_telling
told_wait terms s = refl
