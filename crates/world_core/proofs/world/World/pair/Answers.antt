-- The first cause by what is found.
use Rattle.std.proofs.Common.{◌≡◌, ◌∙◌, ap, sym, is_some, true, false, ◌||◌}
use Rattle.std.specs.Prelude.{◌&&◌, not}
use Rattle.rdma_types.specs.declared.answers.Refusal.TheVariants as refusal
use Rattle.protocol.specs.WorldStep.{has_live_end, is_carried, is_live}
use Rattle.world_core.proofs.Causes.{holds_first, holds_not, known_no, no_cause, not_false, not_true, or_left, or_neither, or_right, unknown_yes}
use Rattle.world_core.proofs.Worlds.{lives, no_life}
use Rattle.world_core.proofs.world.World.pair.Goals as goal
use Rattle.world_core.proofs.world.World.pair.Goals.{then-not-is_known-via-then-not-is_known, then-not-is_known-via-else-not-is_known+then-not-is_known-2}
use Rattle.world_core.proofs.world.World.pair.Goals.{then-not-left-via-then-not-left, then-not-left-via-else-not-left+then-not-right, then-not-left-via-else-not-left+else-not-right+then-eq}

pub returns-then-not-is_known-clause-refusal : goal.returns-then-not-is_known-clause-refusal
returns-then-not-is_known-clause-refusal c =
    let w = c.args.self.now in
    let n1 = c.args.one.now.context in
    let n2 = c.args.two.now.context in
    elim c.then-not-is_known.branch [
      | then-not-is_known-via-then-not-is_known x ↦
          let gone : (not (is_live w n1) && not (is_carried w n1)) ≡ true = unknown_yes (is_live w n1) (is_carried w n1) (sym c.is_known.ensures ∙ x.if-not-is_known.true) in
          holds_first refusal.NoSuch ((not (is_live w n1) && not (is_carried w n1)) || (not (is_live w n2) && not (is_carried w n2))) _ (or_left (not (is_live w n1) && not (is_carried w n1)) (not (is_live w n2) && not (is_carried w n2)) gone)
      | then-not-is_known-via-else-not-is_known+then-not-is_known-2 x ↦
          let gone : (not (is_live w n2) && not (is_carried w n2)) ≡ true = unknown_yes (is_live w n2) (is_carried w n2) (sym x.is_known-else-not-is_known.ensures ∙ x.if-not-is_known-2.true) in
          holds_first refusal.NoSuch ((not (is_live w n1) && not (is_carried w n1)) || (not (is_live w n2) && not (is_carried w n2))) _ (or_right (not (is_live w n1) && not (is_carried w n1)) (not (is_live w n2) && not (is_carried w n2)) gone)
    ]

pub returns-in_default-clause-refusal : goal.returns-in_default-clause-refusal
returns-in_default-clause-refusal c =
    let w = c.args.self.now in
    let live2 : is_live w c.args.two.now.context ≡ false = no_life w c.args.two.now.context (sym c.home_of-2.ensures ∙ c.in_default.is-1) in
    holds_not refusal.NoSuch _ _ (or_neither _ _ (known_no _ _ (sym c.is_known.ensures ∙ c.if-not-is_known.false)) (known_no _ _ (sym c.is_known-else-not-is_known.ensures ∙ c.if-not-is_known-2.false)))
    ∙ holds_first refusal.Stopped _ _ (or_right _ _ (not_false _ live2))

pub returns-in_default-3-clause-refusal : goal.returns-in_default-3-clause-refusal
returns-in_default-3-clause-refusal c =
    let w = c.args.self.now in
    let live1 : is_live w c.args.one.now.context ≡ false = no_life w c.args.one.now.context (sym c.home_of.ensures ∙ c.in_default.is-0) in
    holds_not refusal.NoSuch _ _ (or_neither _ _ (known_no _ _ (sym c.is_known.ensures ∙ c.if-not-is_known.false)) (known_no _ _ (sym c.is_known-else-not-is_known.ensures ∙ c.if-not-is_known-2.false)))
    ∙ holds_first refusal.Stopped _ _ (or_left _ _ (not_false _ live1))

pub returns-in_default-2-clause-refusal : goal.returns-in_default-2-clause-refusal
returns-in_default-2-clause-refusal c =
    let w = c.args.self.now in
    let live1 : is_live w c.args.one.now.context ≡ true = (lives w c.args.one.now.context c.in-Some-Some.first (sym c.home_of.ensures ∙ c.in-Some-Some.is-0)).live in
    let live2 : is_live w c.args.two.now.context ≡ true = (lives w c.args.two.now.context c.in-Some-Some.second (sym c.home_of-2.ensures ∙ c.in-Some-Some.is-1)).live in
    let gone : has_live_end w c.args.two.now ≡ false = sym c.site-2.ensures.none ∙ ap (λ o. is_some o) c.in_default-2.is-1 in
    holds_not refusal.NoSuch _ _ (or_neither _ _ (known_no _ _ (sym c.is_known.ensures ∙ c.if-not-is_known.false)) (known_no _ _ (sym c.is_known-else-not-is_known.ensures ∙ c.if-not-is_known-2.false)))
    ∙ (holds_not refusal.Stopped _ _ (or_neither _ _ (not_true _ live1) (not_true _ live2))
    ∙ holds_first refusal.NoSuch _ _ (or_right _ _ (not_false _ gone)))

pub returns-in_default-2-2-clause-refusal : goal.returns-in_default-2-2-clause-refusal
returns-in_default-2-2-clause-refusal c =
    let w = c.args.self.now in
    let live1 : is_live w c.args.one.now.context ≡ true = (lives w c.args.one.now.context c.in-Some-Some.first (sym c.home_of.ensures ∙ c.in-Some-Some.is-0)).live in
    let live2 : is_live w c.args.two.now.context ≡ true = (lives w c.args.two.now.context c.in-Some-Some.second (sym c.home_of-2.ensures ∙ c.in-Some-Some.is-1)).live in
    let gone : has_live_end w c.args.one.now ≡ false = sym c.site.ensures.none ∙ ap (λ o. is_some o) c.in_default-2.is-0 in
    holds_not refusal.NoSuch _ _ (or_neither _ _ (known_no _ _ (sym c.is_known.ensures ∙ c.if-not-is_known.false)) (known_no _ _ (sym c.is_known-else-not-is_known.ensures ∙ c.if-not-is_known-2.false)))
    ∙ (holds_not refusal.Stopped _ _ (or_neither _ _ (not_true _ live1) (not_true _ live2))
    ∙ holds_first refusal.NoSuch _ _ (or_left _ _ (not_false _ gone)))

pub returns-then-not-left-clause-refusal : goal.returns-then-not-left-clause-refusal
returns-then-not-left-clause-refusal c =
    let w = c.args.self.now in
    let live1 : is_live w c.args.one.now.context ≡ true = (lives w c.args.one.now.context c.in-Some-Some.first (sym c.home_of.ensures ∙ c.in-Some-Some.is-0)).live in
    let live2 : is_live w c.args.two.now.context ≡ true = (lives w c.args.two.now.context c.in-Some-Some.second (sym c.home_of-2.ensures ∙ c.in-Some-Some.is-1)).live in
    let there1 : has_live_end w c.args.one.now ≡ true = sym c.site.ensures.none ∙ ap (λ o. is_some o) c.in-Some-Some-2.is-0 in
    let there2 : has_live_end w c.args.two.now ≡ true = sym c.site-2.ensures.none ∙ ap (λ o. is_some o) c.in-Some-Some-2.is-1 in
    holds_not refusal.NoSuch _ _ (or_neither _ _ (known_no _ _ (sym c.is_known.ensures ∙ c.if-not-is_known.false)) (known_no _ _ (sym c.is_known-else-not-is_known.ensures ∙ c.if-not-is_known-2.false)))
    ∙ (holds_not refusal.Stopped _ _ (or_neither _ _ (not_true _ live1) (not_true _ live2))
    ∙ (holds_not refusal.NoSuch _ _ (or_neither _ _ (not_true _ there1) (not_true _ there2))
    ∙ holds_first refusal.BadState _ _ (elim c.then-not-left.branch [
      | then-not-left-via-then-not-left x ↦ or_left _ _ (ap (λ b. not b) (sym c.in-Some-Some-2.ensures.init) ∙ x.if-not-left.true)
      | then-not-left-via-else-not-left+then-not-right x ↦ or_right _ _ (or_left _ _ (ap (λ b. not b) (sym c.in-Some-Some-2.ensures'.init) ∙ x.if-not-right.true))
      | then-not-left-via-else-not-left+else-not-right+then-eq x ↦ or_right _ _ (or_right _ _ (sym x.eq.ensures ∙ x.if-eq.true))
    ])))

pub returns-clause-free : goal.returns-clause-free
returns-clause-free c =
    let w = c.args.self.now in
    let live1 : is_live w c.args.one.now.context ≡ true = (lives w c.args.one.now.context c.in-Some-Some.first (sym c.home_of.ensures ∙ c.in-Some-Some.is-0)).live in
    let live2 : is_live w c.args.two.now.context ≡ true = (lives w c.args.two.now.context c.in-Some-Some.second (sym c.home_of-2.ensures ∙ c.in-Some-Some.is-1)).live in
    let there1 : has_live_end w c.args.one.now ≡ true = sym c.site.ensures.none ∙ ap (λ o. is_some o) c.in-Some-Some-2.is-0 in
    let there2 : has_live_end w c.args.two.now ≡ true = sym c.site-2.ensures.none ∙ ap (λ o. is_some o) c.in-Some-Some-2.is-1 in
    holds_not refusal.NoSuch _ _ (or_neither _ _ (known_no _ _ (sym c.is_known.ensures ∙ c.if-not-is_known.false)) (known_no _ _ (sym c.is_known-else-not-is_known.ensures ∙ c.if-not-is_known-2.false)))
    ∙ (holds_not refusal.Stopped _ _ (or_neither _ _ (not_true _ live1) (not_true _ live2))
    ∙ (holds_not refusal.NoSuch _ _ (or_neither _ _ (not_true _ there1) (not_true _ there2))
    ∙ (holds_not refusal.BadState _ _ (or_neither _ _ (ap (λ b. not b) (sym c.in-Some-Some-2.ensures.init) ∙ c.if-not-left.false) (or_neither _ _ (ap (λ b. not b) (sym c.in-Some-Some-2.ensures'.init) ∙ c.if-not-right.false) (sym c.eq.ensures ∙ c.if-eq.false)))
    ∙ no_cause)))
