-- Things under names that are copied one by one.
use Rattle.std.proofs.Common.{◌≡◌, ℕ, ◌+◌, List, [], ◌∷◌, ◌++◌, take, sym}
use Rattle.std.specs.Prelude.{Some, bytes_eq, slice_get, if◌then◌else◌}
use Rattle.std.specs.Cmp.Lexicographic.{bytes_decides}
use Rattle.std.specs.List.{IsDistinct, list_any}
use Rattle.std.specs.Map.{keys_of}
use Rattle.std.proofs.lemmas.Bool.Decides.{same_from_decides}
use Rattle.std.proofs.lemmas.Map.Made.{AllPairs-from_IsDistinct}
use Rattle.indexmap.specs.IndexMap.{insert_entry}
pub use Rattle.memory_keys.proofs.Copies.{inserted_more}
use Rattle.rdma_types.specs.declared.names.Name.{Name}
use Rattle.context_core.proofs.PlacesFromImage.{domain-more}
use Rattle.context_core.proofs.AppendedEndFromImage.{there-is}

names-flip : (a b : Name) → bytes_eq a b ≡ bytes_eq b a
names-flip a b = same_from_decides (bytes_eq a b) (bytes_eq b a) (bytes_decides a b) ((λ h. sym ((bytes_decides b a).0 h)), (λ h. (bytes_decides b a).1 (sym h)))

-- the next entry of a map, put into a copy of the entries before it
pub entry_more : {V : Type 0} (es : List (Name × V)) (n : ℕ) (k : Name) (v : V) → IsDistinct bytes_eq (keys_of es) → slice_get es n ≡ Some (k, v) → insert_entry bytes_eq (take n es) k v ≡ take (n + 1) es
entry_more es n k v distinct at = inserted_more bytes_eq names-flip es n k v distinct at

-- the next name of a set, put into a copy of the names before it
pub key_more : (ns ks next : List Name) (n : ℕ) (k : Name) → slice_get ns n ≡ Some k → IsDistinct bytes_eq ns → ks ≡ take n ns → next ≡ (if list_any (bytes_eq k) ks then ks else ks ++ k ∷ []) → next ≡ take (n + 1) ns
key_more ns ks next n k at distinct e put = domain-more ns ks next n k (there-is ns n k at).0 (there-is ns n k at).1 (AllPairs-from_IsDistinct bytes_decides ns distinct) e put
