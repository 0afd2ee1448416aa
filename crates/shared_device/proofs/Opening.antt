-- Ends that are made and connected one after the other.
use Rattle.std.proofs.Common.{arith, ◌≡◌, ℕ, zero, suc, ◌+◌, List, [], ◌∷◌, ◌++◌, refl, ap, sym, ◌∙◌, append_assoc, add-one}
use Rattle.rdma_types.specs.declared.names.Name.{Name}
use Rattle.rdma_types.specs.declared.requests.Terms.{Terms}
use Rattle.protocol.specs.declared.events.Event.{Event}
use Rattle.protocol.specs.State.{Device}
use Rattle.protocol.specs.DeviceStep.{device_step}
use Rattle.protocol.specs.Replay.{replay}
use Rattle.order_rules.specs.Openings.{end_name, end_number_at, ends_of, joins_end}

-- the events of one end
abbrev pub joins : Name → ℕ → Terms → ℕ → List Event
joins context other terms i = joins_end (record { context = context; name = end_name i }) (end_number_at other i) other terms

replay-append : (d : Device) (xs ys : List Event) → replay d (xs ++ ys) ≡ replay (replay d xs) ys
unfolding replay
replay-append d [] ys = refl
replay-append d (x ∷ xs) ys = replay-append (device_step d x).device xs ys

ends_suc : (context : Name) (other : ℕ) (terms : Terms) (k i : ℕ) → ends_of context other terms k (suc i) ≡ ends_of context other terms k i ++ joins context other terms (k + i)
unfolding ends_of
ends_suc context other terms k zero = let e : k + 0 ≡ k = omega arith in ap (joins context other terms) (sym e)
ends_suc context other terms k (suc i) =
    let e : (k + 1) + i ≡ k + suc i = omega arith in
    ap (λ x. joins context other terms k ++ x) (ends_suc context other terms (k + 1) i ∙ ap (λ n. ends_of context other terms (k + 1) i ++ joins context other terms n) e)
    ∙ sym (append_assoc (joins context other terms k) (ends_of context other terms (k + 1) i) (joins context other terms (k + suc i)))

-- one end more
pub ended_more : (d now next : Device) (context : Name) (other : ℕ) (terms : Terms) (i worker : ℕ) → worker ≡ i + 1 → now ≡ replay d (ends_of context other terms 1 i) → next ≡ replay now (joins context other terms worker) → next ≡ replay d (ends_of context other terms 1 (i + 1))
ended_more d now next context other terms i worker w so more =
    let e : worker ≡ 1 + i = omega (arith, w) in
    let all : ends_of context other terms 1 (i + 1) ≡ ends_of context other terms 1 i ++ joins context other terms (1 + i) = rw add-one (ends_suc context other terms 1 i) in
    more ∙ (ap (λ x. replay x (joins context other terms worker)) so
    ∙ (ap (λ n. replay (replay d (ends_of context other terms 1 i)) (joins context other terms n)) e
    ∙ (sym (replay-append d (ends_of context other terms 1 i) (joins context other terms (1 + i))) ∙ ap (replay d) (sym all))))

pub ended_none : (d : Device) (context : Name) (other : ℕ) (terms : Terms) → d ≡ replay d (ends_of context other terms 1 0)
unfolding replay ends_of
ended_none d context other terms = refl
