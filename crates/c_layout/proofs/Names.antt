-- A name that is copied to the front of sixteen zeros.
use Rattle.std.proofs.Common.{◌≡◌, ℕ, ◌-◌, List, ◌++◌, length, drop, true, ◌∙◌, sym, ap, ap₂}
use Rattle.rdma_types.specs.Spelled.{front_len, is_name, padded, zeros}
use Rattle.rdma_types.proofs.Held.{front_of, held_front}

-- .. is the name with zeros behind it
pub name_in_front : (text : List ℕ) → is_name text ≡ true → text ++ drop (length text) (zeros 16) ≡ padded text
name_in_front text h =
    let held = held_front text h in
    let long : front_len (text ++ drop (length text) (zeros 16)) ≡ length text = sym held.front ∙ ap length (front_of text h) in
    sym (ap₂ (λ front m. front ++ zeros (16 - m)) (sym (front_of text h)) (sym long) ∙ held.padded)
