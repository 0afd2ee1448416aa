-- What is told of live ends, as their contexts tell it.
pub use Rattle.context_core.specs.declared.lives.LinkView.{LinkView}
pub use Rattle.context_core.specs.declared.lives.LiveEnd.{LiveEnd}
pub use Rattle.context_core.specs.Links.{link_view, live_end}
