-- How the groups of fields join.
use Rattle.std.proofs.Math.Seq.{take-length}
use Rattle.std.proofs.Common.{◌≡◌, ℕ, suc, ◌-◌, ◌≤◌, get_or, take, drop, arith, List, [], ◌∷◌, ◌++◌, length, Bool, true, false, Option, Some, None, refl, ap, sym, ◌∙◌, append_assoc}
use Rattle.std.specs.Prelude.{flat_map, if◌then◌else◌}
use Rattle.protocol.specs.declared.images.ContextImage.{ContextImage}
use Rattle.protocol.specs.declared.images.EndImage.{EndImage}
use Rattle.protocol.specs.declared.images.LinkImage.{LinkImage}
use Rattle.protocol.specs.Bytes.{big_bytes}
use Rattle.protocol.specs.Dumps.{dump_bytes, magic, text, region_bytes, queue_bytes, end_bytes, state_byte, linked_bytes, counted, request_bytes, receive_bytes}
use Rattle.dump_writer.specs.Groups.{opening, end_head}
use Rattle.dump_writer.specs.Left.{domains_left, link_left, ends_left}

state_by : (ended : Bool) → big_bytes 1 (if ended then 2 else 1) ≡ (if ended then 2 else 1) ∷ []
unfolding big_bytes
state_by true = refl
state_by false = refl

-- the state is one byte
pub state_one : (o : Option LinkImage) → big_bytes 1 (state_byte o) ≡ state_byte o ∷ []
unfolding big_bytes
state_one None = refl
state_one (Some l) = state_by l.ended

-- what stands behind the state, whatever the state
behind : (o : Option LinkImage) (e : EndImage) (es : List EndImage) → e.linked ≡ o → (linked_bytes o ++ (counted 2 request_bytes e.untold ++ counted 2 receive_bytes e.unused)) ++ ends_left es ≡ link_left o e es
behind None e es h = simp append_assoc
behind (Some l) e es h = simp append_assoc

-- the same bytes, grouped
end_grouped : (head linked untold unused more : List ℕ) (state : ℕ) → (head ++ (state ∷ [])) ++ ((linked ++ (untold ++ unused)) ++ more) ≡ (((head ++ (state ∷ linked)) ++ untold) ++ unused) ++ more
end_grouped head linked untold unused more state = simp append_assoc

-- a queue pair: its head, and what follows
pub end_parts : (e : EndImage) (es : List EndImage) → end_head e ++ link_left e.linked e es ≡ ends_left (e ∷ es)
end_parts e es =
    let head : List ℕ = text e.name ++ big_bytes 4 e.number ++ big_bytes 2 e.domain ++ big_bytes 2 e.send_cq ++ big_bytes 2 e.recv_cq ++ big_bytes 2 e.send_depth ++ big_bytes 2 e.recv_depth in
    ap (λ (xs : List ℕ). head ++ xs ++ link_left e.linked e es) (state_one e.linked)
    ∙ (ap (λ (xs : List ℕ). (head ++ (state_byte e.linked ∷ [])) ++ xs) (sym (behind e.linked e es refl))
    ∙ end_grouped head (linked_bytes e.linked) (counted 2 request_bytes e.untold) (counted 2 receive_bytes e.unused) (ends_left es) (state_byte e.linked))

-- the same bytes, grouped
whole_grouped : (a cd fd cr fr cq fq ce fe : List ℕ) → (a ++ cd) ++ (fd ++ (cr ++ (fr ++ (cq ++ (fq ++ (ce ++ fe)))))) ≡ (((a ++ (cd ++ fd)) ++ (cr ++ fr)) ++ (cq ++ fq)) ++ (ce ++ fe)
whole_grouped a cd fd cr fr cq fq ce fe = simp append_assoc

-- everything
pub whole : (c : ContextImage) → opening c ++ domains_left c c.domains ≡ dump_bytes 2 c
unfolding dump_bytes
whole c = whole_grouped (magic ++ big_bytes 2 2 ++ text c.name) (big_bytes 2 (length c.domains)) (flat_map text c.domains) (big_bytes 2 (length c.regions)) (flat_map region_bytes c.regions) (big_bytes 2 (length c.queues)) (flat_map queue_bytes c.queues) (big_bytes 2 (length c.ends)) (flat_map end_bytes c.ends)

-- a list that is not empty: its first item, and what follows
pub first_then : {A : Type 0} (xs : List A) (x : A) → 1 ≤ length xs → x ≡ get_or xs 0 x → x ∷ take (length xs - 1) (drop 1 xs) ≡ xs
first_then [] x h e = absurd (omega arith)
first_then (y ∷ ys) x h e =
    let all : suc (length ys) - 1 ≡ length ys = omega arith in
    rw (e, all, take-length ys) refl

-- a queue pair at the front
pub end_at_front : (bytes : List ℕ) (es : List EndImage) (e : EndImage) → 1 ≤ length es → e ≡ get_or es 0 e → bytes ≡ end_head e → bytes ++ link_left e.linked e (take (length es - 1) (drop 1 es)) ≡ ends_left es
end_at_front bytes es e h i b =
    let more : List EndImage = take (length es - 1) (drop 1 es) in
    ap (λ (xs : List ℕ). xs ++ link_left e.linked e more) b ∙ (end_parts e more ∙ ap ends_left (first_then es e h i))
