-- What the device at the place knows of the end.
use Rattle.std.proofs.Common.{◌≡◌, ◌∙◌, ap, sym, is_some, Some}
use Rattle.protocol.specs.State.{Device, context_at, end_at}
use Rattle.protocol.specs.Readers.{view_of}
use Rattle.protocol.specs.WorldStep.{home, live_context}
use Rattle.device_core.specs.Readings.{end_named}
use Rattle.rdma_types.specs.declared.answers.EndView.{EndView}
use Rattle.world_core.specs.Sites.{is_init_state}
use Rattle.world_core.proofs.Views.{named_there, named_view, view_init, view_number}
use Rattle.world_core.proofs.Worlds.{Lives, lives, read_device}
use Rattle.world_core.proofs.world.World.site.Goals as goal

pub returns-in_err-view-clause-none : goal.returns-in_err-view-clause-none
unfolding live_context
returns-in_err-view-clause-none c =
    let w = c.args.self.now in
    let o = c.args.end.now in
    let at : Lives w o.context c.args.place = lives w o.context c.args.place c.requires in
    let device : c.index-device.result.now ≡ home w o.context = read_device _ w c.args.place c.index-device.result.now (home w o.context) c.self.view_is at.here c.index-device.ensures in
    ap (λ x. is_some x) c.from_residual.ensures
    ∙ (ap (λ x. is_some x) (sym c.in_err-view.was ∙ (c.end_named.ensures.view ∙ ap (λ x. end_named x o) device))
    ∙ named_there (home w o.context) o at.has)

pub returns-clause-there : goal.returns-clause-there
unfolding live_context
returns-clause-there c =
    let w = c.args.self.now in
    let o = c.args.end.now in
    let at : Lives w o.context c.args.place = lives w o.context c.args.place c.requires in
    let device : c.index-device.result.now ≡ home w o.context = read_device _ w c.args.place c.index-device.result.now (home w o.context) c.self.view_is at.here c.index-device.ensures in
    let seen : Some c.in_ok-view.view ≡ end_named (home w o.context) o = sym c.in_ok-view.was ∙ (c.end_named.ensures.view ∙ ap (λ x. end_named x o) device) in
    let view : c.in_ok-view.view ≡ view_of (context_at (home w o.context) o.context) (end_at (context_at (home w o.context) o.context) o.name) = named_view (home w o.context) o c.in_ok-view.view seen in
    record {
      place = c.requires;
      there = sym (named_there (home w o.context) o at.has) ∙ ap (λ x. is_some x) (sym seen);
      address = c.address.ensures ∙ ap (λ (x : Device). x.address) device;
      number = ap (λ (v : EndView). v.number) view ∙ view_number (context_at (home w o.context) o.context) (end_at (context_at (home w o.context) o.context) o.name);
      small = c.in_ok-view.ensures.number;
    }

pub returns-clause-none : goal.returns-clause-none
unfolding live_context
returns-clause-none c =
    let w = c.args.self.now in
    let o = c.args.end.now in
    let at : Lives w o.context c.args.place = lives w o.context c.args.place c.requires in
    let device : c.index-device.result.now ≡ home w o.context = read_device _ w c.args.place c.index-device.result.now (home w o.context) c.self.view_is at.here c.index-device.ensures in
    let seen : Some c.in_ok-view.view ≡ end_named (home w o.context) o = sym c.in_ok-view.was ∙ (c.end_named.ensures.view ∙ ap (λ x. end_named x o) device) in
    ap (λ x. is_some x) seen ∙ named_there (home w o.context) o at.has

pub returns-clause-init : goal.returns-clause-init
unfolding live_context
returns-clause-init c =
    let w = c.args.self.now in
    let o = c.args.end.now in
    let at : Lives w o.context c.args.place = lives w o.context c.args.place c.requires in
    let device : c.index-device.result.now ≡ home w o.context = read_device _ w c.args.place c.index-device.result.now (home w o.context) c.self.view_is at.here c.index-device.ensures in
    let seen : Some c.in_ok-view.view ≡ end_named (home w o.context) o = sym c.in_ok-view.was ∙ (c.end_named.ensures.view ∙ ap (λ x. end_named x o) device) in
    let view : c.in_ok-view.view ≡ view_of (context_at (home w o.context) o.context) (end_at (context_at (home w o.context) o.context) o.name) = named_view (home w o.context) o c.in_ok-view.view seen in
    c.is_in_init.ensures ∙ (ap (λ (v : EndView). is_init_state v.state) view ∙ view_init (context_at (home w o.context) o.context) (end_at (context_at (home w o.context) o.context) o.name))
