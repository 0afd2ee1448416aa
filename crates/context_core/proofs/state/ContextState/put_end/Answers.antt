use Rattle.std.proofs.Common.{◌≡◌, ◌∙◌, [], ◌∷◌, ◌++◌, ap, subst, sym}
use Rattle.std.specs.Prelude.{bytes_eq}
use Rattle.std.specs.Map.{lookup}
use Rattle.context_core.specs.declared.state.EndSlot.{EndSlot}
use Rattle.context_core.specs.Context.{Holding, IsContext}
use Rattle.context_core.proofs.ContextFromImage.{kept-context, kept-moves}
use Rattle.context_core.proofs.NextEndFromImage.{alike-kept, next-absent, next-context, next-may, next-moves, next-of, next-own, next-part, next-receives, next-recv, next-room, next-send, next-sends, one-more, slot-same, slot_of}
use Rattle.context_core.proofs.state.ContextState.put_end.Goals as goal

pub returns-in_err-reserve-clause-is : goal.returns-in_err-reserve-clause-is
returns-in_err-reserve-clause-is c = kept-context c.args.pool.now _ c.args.self.now c.reserve.new.self.entries c.self.view_is c.reserve.ensures.entries c.requires.is

pub returns-in_err-reserve-clause-moves : goal.returns-in_err-reserve-clause-moves
returns-in_err-reserve-clause-moves c = kept-moves c.args.pool.now _ c.args.self.now c.reserve.new.self.entries c.self.view_is c.reserve.ensures.entries

pub endpoint_of-requires-clause-lawful : goal.endpoint_of-requires-clause-lawful
endpoint_of-requires-clause-lawful c = next-own (next-of c.args.pool.now c.args.image.now c.args.end.now _ c.args.self.now c.self.view_is c.requires.lawful c.requires.is c.requires.part c.requires.next)

pub endpoint_of-requires-clause-moves : goal.endpoint_of-requires-clause-moves
endpoint_of-requires-clause-moves c = c.requires.moves

pub endpoint_of-requires-clause-held : goal.endpoint_of-requires-clause-held
endpoint_of-requires-clause-held c = (subst (IsContext c.args.pool.now) (sym c.self.view_is) c.requires.is).is.held

pub endpoint_of-requires-clause-may : goal.endpoint_of-requires-clause-may
endpoint_of-requires-clause-may c = next-may (next-of c.args.pool.now c.args.image.now c.args.end.now _ c.args.self.now c.self.view_is c.requires.lawful c.requires.is c.requires.part c.requires.next)

pub returns-in_err-endpoint-clause-moves : goal.returns-in_err-endpoint-clause-moves
returns-in_err-endpoint-clause-moves c = alike-kept c.args.pool.now c.endpoint_of.new.pool _ c.args.self.now c.reserve.new.self.entries c.self.view_is c.reserve.ensures.entries c.requires.is c.in_err-endpoint.ensures.err

pub reserve_end-requires-clause-send : goal.reserve_end-requires-clause-send
reserve_end-requires-clause-send c = next-send (next-of c.args.pool.now c.args.image.now c.args.end.now _ c.args.self.now c.self.view_is c.requires.lawful c.requires.is c.requires.part c.requires.next)

pub reserve_end-requires-clause-recv : goal.reserve_end-requires-clause-recv
reserve_end-requires-clause-recv c = next-recv (next-of c.args.pool.now c.args.image.now c.args.end.now _ c.args.self.now c.self.view_is c.requires.lawful c.requires.is c.requires.part c.requires.next)

pub reserve_end-requires-clause-few_sends : goal.reserve_end-requires-clause-few_sends
reserve_end-requires-clause-few_sends c = next-sends (next-of c.args.pool.now c.args.image.now c.args.end.now _ c.args.self.now c.self.view_is c.requires.lawful c.requires.is c.requires.part c.requires.next)

pub reserve_end-requires-clause-few_receives : goal.reserve_end-requires-clause-few_receives
reserve_end-requires-clause-few_receives c = next-receives (next-of c.args.pool.now c.args.image.now c.args.end.now _ c.args.self.now c.self.view_is c.requires.lawful c.requires.is c.requires.part c.requires.next)

pub reserve_end-requires-clause-room : goal.reserve_end-requires-clause-room
reserve_end-requires-clause-room c = next-room (next-of c.args.pool.now c.args.image.now c.args.end.now _ c.args.self.now c.self.view_is c.requires.lawful c.requires.is c.requires.part c.requires.next)

pub append-requires-clause-absent : goal.append-requires-clause-absent
append-requires-clause-absent c =
    ap (lookup (bytes_eq c.args.end.now.name)) c.reserve.ensures.entries
    ∙ next-absent (next-of c.args.pool.now c.args.image.now c.args.end.now _ c.args.self.now c.self.view_is c.requires.lawful c.requires.is c.requires.part c.requires.next)

-- the ends as they are put
put : (c : goal.After-append) → c.append.new.ends.entries ≡ c.self.inside.ends.entries ++ slot_of c.args.end.now c.in_ok-endpoint.endpoint ∷ []
put c =
    let slot : EndSlot = record { send = c.from.result; recv = c.from-2.result; endpoint = c.in_ok-endpoint.endpoint } in
    c.append.ensures
    ∙ (ap (λ es. es ++ (c.args.end.now.name, slot) ∷ []) c.reserve.ensures.entries
    ∙ slot-same c.self.inside.ends.entries c.args.end.now c.in_ok-endpoint.endpoint c.from.result c.from-2.result c.from.ensures c.from-2.ensures)

pub returns-clause-is : goal.returns-clause-is
returns-clause-is c = next-context (next-of c.args.pool.now c.args.image.now c.args.end.now _ c.args.self.now c.self.view_is c.requires.lawful c.requires.is c.requires.part c.requires.next) c.in_ok-endpoint.ensures.ok c.reserve_end.ensures c.append.new.ends.entries (put c)

pub returns-clause-moves : goal.returns-clause-moves
returns-clause-moves c = next-moves (next-of c.args.pool.now c.args.image.now c.args.end.now _ c.args.self.now c.self.view_is c.requires.lawful c.requires.is c.requires.part c.requires.next) c.in_ok-endpoint.ensures.ok c.reserve_end.ensures c.append.new.ends.entries c.args.self.now c.self.view_is (put c)

pub returns-clause-part : goal.returns-clause-part
returns-clause-part c = next-part (next-of c.args.pool.now c.args.image.now c.args.end.now _ c.args.self.now c.self.view_is c.requires.lawful c.requires.is c.requires.part c.requires.next) c.in_ok-endpoint.ensures.ok c.reserve_end.ensures c.append.new.ends.entries (put c)

pub returns-clause-more : goal.returns-clause-more
returns-clause-more c = one-more c.self.inside.ends.entries c.append.new.ends.entries _ c.args.self.now.ends (put c) (ap (λ (h : Holding). h.ends) c.self.view_is)
