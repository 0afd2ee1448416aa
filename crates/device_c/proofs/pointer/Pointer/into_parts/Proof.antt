-- `into_parts` takes the pointer, and what lies there.
use Rattle.std.proofs.Common.{◌≡◌, ℕ, List, [], ◌∷◌, ◌++◌, refl, sym, subst, Option, Some, is_none, false}
use mir.Val.{Val, vptr, vstruct, vcons, vnil}
use base.Logic.{SProp, ent, emp, id⊢}
use base.Fml.{ftrue}
use prog.Wp.{WpFn}
use contract.Monad.{fact, fact_i}
use contract.Running.{tables}
use types.Kit.{‵, raw, ◌⊛◌, ◌$◌, ◌∵◌, !, qed, by, move, keep, drop, use0, split, join, fsplit, fjoin, suffices}
use types.Part.{agg, sub, whole}
use types.Run.{stop, fld, of_opd, no_more, and_then, returns, enter}
use types.ByLocal.{alloc_all, pass_all, free_all, look_at, get, get_in, sets}
use denote.RattleType.{RattleType, owns}
use denote.Signature.{types_at, plain}
use denote.RawPtr.{block_ptr}
use denote.Steps.{nothing, heard}
use denote.Triple.Walked.{Stays, stay_dropped, walk_of}
use Rattle.core.proofs.alloc.Calls.{Goes-blank, handle_tells}
use Rattle.std.proofs.raw_atomic.Walks.{proved_at, leaves}
use Rattle.device_c.proofs.Values.{both, Parts, al, parts_good, parts_in, pointer_out, some_of}
use Rattle.device_c.specs.contracts.content.Content as content
use Rattle.device_c.specs.contracts.pointer.Pointer as pointer
use Rattle.std.specs.contracts.alloc.Global as heap
use Rattle.std.proofs.alloc.Global.TheLaws as heap_laws
use Rattle.std.specs.contracts.impls.GlobalAllocator.TheImpl.{ghosts}
use Rattle.device_c.specs.contracts.pointer.Pointer.into_parts.{ended, clauses}
use Rattle.device_c.specs.contracts.pointer.Pointer.into_parts.Key.{name as #self}
use Rattle.device_c.proofs.pointer.Pointer.into_parts.Statement.{statement}
use Rattle.device_c.proofs.pointer.Pointer.into_parts.Code as code

pub into_parts_spec : {M : Type 1} → statement M
into_parts_spec 𝓤 𝓛 𝓜 𝓡 wired =
    let H = 𝓛.H in let 𝓣 = tables 𝓤 H 𝓜 𝓡 𝓡.env in let R : RattleType = content.the_row in let Z : RattleType = heap.the_row in let LZ = heap_laws.the_row_laws in let c = clauses 𝓛 𝓜.mem 𝓡.returns in
    let V : RattleType = pointer.the_row in let hs : Stays ended.signature.params ended.kept = (stay_dropped (plain (λ _. V)) ended.kept.0, (stay_dropped (plain (λ _. Z)) ended.kept.1.0, tt)) in let fn = code.function in
    proved_at 𝓛 ended hs c 𝓜 𝓡 (Goes-blank 𝓛 0 (plain (λ _. V)) ended.kept.0 (λ κs x f. tt), (Goes-blank 𝓛 0 (plain (λ _. Z)) ended.kept.1.0 (λ κs x f. tt), tt)) #self fn (code.unfolded 𝓤 H 𝓜 𝓡 wired) (λ z are.
    let κs = z.0.0 in let v = z.0.3.0 in let a = z.0.3.1.0 in let from : is_none v.value ≡ false → (x : R.Denot) × (v.value ≡ Some x) = some_of v.value in let Post : Val → SProp 𝓤 = (walk_of 𝓛 ended hs c).post z in let Run : List Val → SProp 𝓤 = λ ws. WpFn 𝓤 H 𝓣.C 𝓣.Λ fn ws Post in
    qed 𝓛 ((‵ ftrue ⊛ ‵ (owns (types_at ended.signature.params κs) z.0.3 z.0.4)) ∷ raw (fact 𝓤 (is_none v.value ≡ false)) ∷ []) ∵ move ! (1 ∷ []) $ heard ! (is_none v.value ≡ false) (λ there. let x : R.Denot = (from there).0 in let some : v.value ≡ Some x = (from there).1 in
    split ! $ move ! (1 ∷ []) $ fsplit ! $ pointer_out ! v x some z.0.4.0 (λ b o e ws.
    -- [what the box owns; the other parameters; the tokens]
    move ! (1 ∷ []) $ fsplit ! $ handle_tells (al R Z LZ ghosts) ! a z.0.4.1.0 (λ h eh fits.
    -- [the handle; nothing; what the box owns; the tokens]
    let out : Val = both (vptr b o) h in let typed = parts_good R Z LZ ghosts b o h fits in let w : Val = vstruct (vcons (vptr b o) vnil) in
    let Told : Type 0 = v.value ≡ Some x in
    suffices ! (Run (w ∷ h ∷ [])) (subst (λ (us : List Val). ent 𝓤 (Run (w ∷ h ∷ [])) (Run us)) (sym (λ i. ws i ++ (eh i ++ []))) (id⊢ 𝓤 (Run (w ∷ h ∷ [])))) $ keep ! (2 ∷ 0 ∷ 3 ∷ []) $
    enter ! 𝓣.C 𝓣.Λ fn (w ∷ h ∷ []) Post $ alloc_all ! (λ l. pass_all ! refl ((tt, (tt, tt)), (fits, tt)) $
    sets ! (of_opd ! (get_in ! (fld ! refl (stop !)) (sub ! 0 refl (whole !)))) refl (tt, tt) $ sets ! (of_opd ! (get ! refl)) refl (tt, tt) $
    sets ! (agg ! (and_then ! (get ! refl) (and_then ! (get ! refl) (no_more !)))) refl typed $
    returns ! (look_at ! 0 refl) $ free_all ! refl $
    -- [what the box owns; the handle; the tokens]
    parts_in R Z LZ ghosts ! b o h a x $ use0 𝓛 (raw (fact 𝓤 Told)) (fact_i 𝓤 Told (emp 𝓤) some) $ nothing ! $ nothing ! $ fjoin ! $ nothing ! $ fjoin ! $
    -- [nothing; the fact; what the struct owns; the tokens]
    move ! (3 ∷ 0 ∷ 2 ∷ 1 ∷ []) $ by ! (leaves 𝓛 ended hs c z out (record { at = block_ptr b o; alloc = a; value = x }) (tt, (tt, tt)) (tt, (tt, tt))))))))
