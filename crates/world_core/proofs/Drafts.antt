-- The datagrams of a draft are sent one by one.
use Rattle.std.proofs.Common.{◌≡◌, ◌++◌, ◌∷◌, ◌∙◌, [], List, ap, refl, sym}
use Rattle.std.specs.Prelude.{IfNone, Option, Some, None}
use Rattle.std.specs.Option.{option_to_list}
use Rattle.std.proofs.lemmas.List.{append-nil}
use Rattle.protocol.specs.Fabric.{forgetting, sending}
use Rattle.protocol.proofs.Histories.{sending-one_by_one}
use Rattle.protocol.specs.State.{Flight}
use Rattle.rdma_types.specs.declared.answers.Sent.{Sent}
use Rattle.rdma_types.specs.declared.requests.Address.{Address}

pub none_sent : (s : List Flight) (from : Address) → sending s from [] ≡ s
unfolding sending
none_sent s from = append-nil s

-- the first of them is sent, and the rest is still to be sent
pub sent_first : (s s' : List Flight) (from : Address) (draft rest : List Sent) (d : Sent) → d ∷ rest ≡ draft → s' ≡ forgetting (sending s from (d ∷ [])) → forgetting (sending s' from rest) ≡ forgetting (sending s from draft)
sent_first s s' from draft rest d first one =
    ap (λ x. forgetting (sending x from rest)) one ∙ (sending-one_by_one s from (d ∷ []) rest ∙ ap (λ xs. forgetting (sending s from xs)) first)

-- where none is left, all are sent
pub sent_all : (s : List Flight) (from : Address) (draft : List Sent) → forgetting s ≡ s → draft ≡ [] → s ≡ forgetting (sending s from draft)
sent_all s from draft kept none = sym (ap (λ xs. forgetting (sending s from xs)) none ∙ (ap forgetting (none_sent s from) ∙ kept))

-- none is left where none was taken out
pub none_left : (o : Option Sent) (new old : List Sent) → option_to_list o ++ new ≡ old → IfNone o (old ≡ []) → ((d : Sent) → o ≡ Some d → ⊥) → (old ≡ []) × (new ≡ [])
none_left None new old taken none not = (none, taken ∙ none)
none_left (Some d) new old taken none not = absurd (not d refl)
