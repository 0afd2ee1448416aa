use Rattle.std.proofs.Common.{refl}
use Rattle.protocol.specs.Memory.{pages_of_context, pages_of_request, region_of_key}
use Rattle.endpoint_core.specs.Queues.{nothing}
use Rattle.context_core.specs.Context.{context_in, lists_of}
use Rattle.context_core.proofs.PoolAgreement.{context-same, holding-same, list-lives}
use Rattle.context_core.proofs.laws.a_context_looks_at_its_own_lists.Goals as goal

pub returns-clause-name : goal.returns-clause-name
unfolding context_in
returns-clause-name c = λ pool h n. refl

pub returns-clause-same : goal.returns-clause-same
returns-clause-same c = λ old new h n g. context-same old new h n g

pub returns-clause-stays : goal.returns-clause-stays
returns-clause-stays c = λ old new h g is. record { is = holding-same old new h nothing g is.is }

pub returns-clause-lives : goal.returns-clause-lives
returns-clause-lives c = λ pool h list is k. list-lives pool h nothing list is.is k

pub returns-clause-pages : goal.returns-clause-pages
unfolding pages_of_context context_in pages_of_request region_of_key
returns-clause-pages c = λ pool h n other. refl

pub returns-clause-nothing : goal.returns-clause-nothing
unfolding lists_of
returns-clause-nothing c = refl
