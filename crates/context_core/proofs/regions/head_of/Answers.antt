use Rattle.std.proofs.Common.{◌≡◌, true, ap, sym, ◌∙◌, refl, subst}
use Rattle.std.specs.Prelude.{not, Some, is_none}
use Rattle.rdma_types.specs.Causes.{first_cause}
use Rattle.rdma_types.specs.Lists.{has_word}
use Rattle.rdma_types.specs.declared.answers.Refusal.TheVariants.{NoSuch}
use Rattle.protocol.specs.Refusals.{region_causes}
use Rattle.context_core.proofs.NamedLookups.{word-any}
use Rattle.context_core.proofs.FirstCause.{first-holds}
use Rattle.context_core.proofs.RegisteredRegions.{keys-lack}
use Rattle.context_core.proofs.regions.head_of.Goals as goal

pub returns-in_default-clause-refused : goal.returns-in_default-clause-refused
returns-in_default-clause-refused c = λ pool x d domains regions keys.
    subst (λ o. first_cause (region_causes d x c.args.new.now.name o c.args.new.now.length) ≡ Some NoSuch) (sym c.in_default.is) (first-holds NoSuch true _ refl)

pub returns-then-not-contains-clause-refused : goal.returns-then-not-contains-clause-refused
returns-then-not-contains-clause-refused c = λ pool x d domains regions keys.
    subst (λ o. first_cause (region_causes d x c.args.new.now.name o c.args.new.now.length) ≡ Some NoSuch) (sym c.in-Some.is)
    (first-holds NoSuch (not (has_word c.in-Some.domain x.domains)) _ (ap (λ ks. not (has_word c.in-Some.domain ks)) domains ∙ ap not (sym (word-any c.in-Some.domain c.args.domains.now.keys) ∙ (sym c.contains.ensures ∙ c.if-not-contains.true))))

pub returns-clause-there : goal.returns-clause-there
returns-clause-there c = sym (word-any c.in-Some.domain c.args.domains.now.keys) ∙ (sym c.contains.ensures ∙ c.if-not-contains.false)

pub returns-in_default-keys-clause-refused : goal.returns-in_default-keys-clause-refused
returns-in_default-keys-clause-refused c = λ pool x d domains regions keys.
    subst (λ o. first_cause (region_causes d x c.args.new.now.name o c.args.new.now.length) ≡ Some c.without_keys.result) (sym c.in-Some.is)
    (keys-lack pool c.args.regions.now x d c.in-Some.domain c.args.new.now.name c.args.new.now.length c.without_keys.result regions (ap (has_word c.in-Some.domain) domains ∙ (sym (word-any c.in-Some.domain c.args.domains.now.keys) ∙ (sym c.contains.ensures ∙ c.if-not-contains.false))) (keys ∙ ap is_none c.in_default-keys.is) (c.without_keys.ensures pool))
