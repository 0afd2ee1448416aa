-- The lines of verbs, which scripts of a world and of a node share, by the words behind the first (this project's choice).
use Rattle.std.specs.Prelude.{ℕ, ◌^◌, not, List, ◌∷◌, [], Option, None, codes, bytes_eq}
use Rattle.std.specs.Map.{lookup}
use Rattle.rdma_types.specs.declared.names.ObjName.{ObjName}
use Rattle.rdma_types.specs.declared.requests.Kind.TheVariants as kind
use Rattle.rdma_types.specs.declared.requests.Shape.{Shape}
use Rattle.rdma_types.specs.declared.verbs.Verb.{Verb}
use Rattle.rdma_types.specs.declared.verbs.Verb.TheVariants as verb
use Rattle.rdma_types.specs.Limits.{most_capacity, most_depth, most_region_bytes}
use Rattle.script_lang.specs.declared.forms.VerbForm.{VerbForm}
use Rattle.script_lang.specs.declared.forms.VerbForm.TheVariants as form
use Rattle.script_lang.specs.declared.verbs.PostHead.{PostHead}
use Rattle.script_lang.specs.Fields.{an_object, an_own, a_number, a_long, a_short, a_key, some_bytes, some_rights, an_immediate}
use Rattle.script_lang.specs.Words.{Reads, ◌>>=◌, done, an_option}

-- the first words of verbs
abbrev pub verb_words : List (List ℕ × VerbForm)
verb_words =
    (codes "domain", form.Domain)
    ∷ (codes "region", form.Region)
    ∷ (codes "cq", form.Cq)
    ∷ (codes "qp", form.Qp)
    ∷ (codes "drop", form.Drop)
    ∷ (codes "store", form.Store)
    ∷ (codes "load", form.Load)
    ∷ (codes "write", form.Write)
    ∷ (codes "send", form.Send)
    ∷ (codes "read", form.Read)
    ∷ (codes "cas", form.CompareSwap)
    ∷ (codes "add", form.FetchAdd)
    ∷ (codes "recv", form.Recv)
    ∷ (codes "poll", form.Poll)
    ∷ []

-- the verb that a first word names
unfoldable pub verb_form : List ℕ → Option VerbForm
verb_form w = lookup (λ text. bytes_eq w text) verb_words

-- ---- things

-- `domain` O
unfoldable pub domain_line : Reads Verb
domain_line = do
  o ← an_object
  done (verb.MakeDomain o)

-- `region` O domain base length rights
unfoldable pub region_line : Reads Verb
region_line = do
  o ← an_object
  domain ← an_own o
  base ← a_number 0 (2 ^ 63)
  size ← a_number 1 most_region_bytes
  rights ← some_rights
  done (verb.MakeRegion o domain base size rights)

-- `cq` O capacity
unfoldable pub cq_line : Reads Verb
cq_line = do
  o ← an_object
  capacity ← a_number 1 most_capacity
  done (verb.MakeCq o capacity)

-- `qp` O domain sendcq recvcq sdepth rdepth
unfoldable pub qp_line : Reads Verb
qp_line = do
  o ← an_object
  domain ← an_own o
  send_cq ← an_own o
  recv_cq ← an_own o
  send_depth ← a_number 1 most_depth
  recv_depth ← a_number 1 most_depth
  done (verb.MakeQp o domain send_cq recv_cq send_depth recv_depth)

-- `drop` O
unfoldable pub drop_line : Reads Verb
drop_line = do
  o ← an_object
  done (verb.DropRegion o)

-- `load` region address length
unfoldable pub load_line : Reads Verb
load_line = do
  region ← an_object
  at ← a_long
  size ← a_number 1 4096
  done (verb.Load region at size)

-- `store` region address bytes
unfoldable pub store_line : Reads Verb
store_line = do
  region ← an_object
  at ← a_long
  bytes ← some_bytes
  done (verb.Store region at bytes)

-- ---- requests

-- O id lkey address, and what follows
abbrev pub posting_then : (PostHead → Reads Verb) → Reads Verb
posting_then more = do
  end ← an_object
  id ← a_long
  lkey ← a_key
  local ← a_long
  more (record { end = end; id = id; lkey = lkey; local = local })

-- a request of this shape, with its options: `fence`, then `quiet` for an unsignaled one
unfoldable pub posted : ObjName → ℕ → ℕ → ℕ → Shape → Reads Verb
posted end id lkey local shape = do
  fence ← an_option (codes "fence")
  quiet ← an_option (codes "quiet")
  done (verb.PostSend end (record { id = id; shape = shape; lkey = lkey; local = local; signaled = not quiet; fence = fence }))

-- the shape of a Write, of a Send and of a Read
abbrev pub write_shape : ℕ → ℕ → ℕ → Option ℕ → Shape
write_shape size remote rkey imm = record { kind = kind.Write; length = size; remote = remote; rkey = rkey; imm = imm; swap_add = 0; compare = 0 }

abbrev pub send_shape : ℕ → Option ℕ → Shape
send_shape size imm = record { kind = kind.Send; length = size; remote = 0; rkey = 0; imm = imm; swap_add = 0; compare = 0 }

abbrev pub read_shape : ℕ → ℕ → ℕ → Shape
read_shape size remote rkey = record { kind = kind.Read; length = size; remote = remote; rkey = rkey; imm = None; swap_add = 0; compare = 0 }

-- the shape of a compare and swap, and of an addition: a word of eight bytes
abbrev pub swap_shape : ℕ → ℕ → ℕ → ℕ → Shape
swap_shape remote rkey compare swap = record { kind = kind.CompareSwap; length = 8; remote = remote; rkey = rkey; imm = None; swap_add = swap; compare = compare }

abbrev pub add_shape : ℕ → ℕ → ℕ → Shape
add_shape remote rkey value = record { kind = kind.FetchAdd; length = 8; remote = remote; rkey = rkey; imm = None; swap_add = value; compare = 0 }

-- `write` O id lkey address length raddress rkey, and perhaps `imm` i, `fence`, `quiet`
unfoldable pub write_line : Reads Verb
write_line = do
  end ← an_object
  id ← a_long
  lkey ← a_key
  local ← a_long
  size ← a_short
  remote ← a_long
  rkey ← a_key
  imm ← an_immediate
  posted end id lkey local (write_shape size remote rkey imm)

-- `send` O id lkey address length, and perhaps `imm` i, `fence`, `quiet`
unfoldable pub send_line : Reads Verb
send_line = do
  end ← an_object
  id ← a_long
  lkey ← a_key
  local ← a_long
  size ← a_short
  imm ← an_immediate
  posted end id lkey local (send_shape size imm)

-- `read` O id lkey address length raddress rkey, and perhaps `fence`, `quiet`
unfoldable pub read_line : Reads Verb
read_line = do
  end ← an_object
  id ← a_long
  lkey ← a_key
  local ← a_long
  size ← a_short
  remote ← a_long
  rkey ← a_key
  posted end id lkey local (read_shape size remote rkey)

-- `cas` O id lkey address raddress rkey compare swap, and perhaps `fence`, `quiet`
unfoldable pub cas_line : Reads Verb
cas_line = do
  end ← an_object
  id ← a_long
  lkey ← a_key
  local ← a_long
  remote ← a_long
  rkey ← a_key
  compare ← a_long
  swap ← a_long
  posted end id lkey local (swap_shape remote rkey compare swap)

-- `add` O id lkey address raddress rkey value, and perhaps `fence`, `quiet`
unfoldable pub add_line : Reads Verb
add_line = do
  end ← an_object
  id ← a_long
  lkey ← a_key
  local ← a_long
  remote ← a_long
  rkey ← a_key
  value ← a_long
  posted end id lkey local (add_shape remote rkey value)

-- `recv` O id lkey address length
unfoldable pub recv_line : Reads Verb
recv_line = do
  end ← an_object
  id ← a_long
  lkey ← a_key
  local ← a_long
  size ← a_short
  done (verb.PostRecv end (record { id = id; lkey = lkey; local = local; length = size }))

-- `poll` cq max
unfoldable pub poll_line : Reads Verb
poll_line = do
  cq ← an_object
  max ← a_number 1 256
  done (verb.Poll cq max)

-- ---- all of them

-- what the words behind the first say
abbrev pub verb_line : VerbForm → Reads Verb
verb_line form.Domain = domain_line
verb_line form.Region = region_line
verb_line form.Cq = cq_line
verb_line form.Qp = qp_line
verb_line form.Drop = drop_line
verb_line form.Store = store_line
verb_line form.Load = load_line
verb_line form.Write = write_line
verb_line form.Send = send_line
verb_line form.Read = read_line
verb_line form.CompareSwap = cas_line
verb_line form.FetchAdd = add_line
verb_line form.Recv = recv_line
verb_line form.Poll = poll_line
