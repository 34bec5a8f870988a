-- What a contract sees of a value that holds a text, and where such a text is stored.
use Rattle.std.specs.Prelude.{◌≡◌, ℕ, ◌+◌, ◌≤◌, ◌<◌, ◌^◌, List, Bool, true, false, ◌&&◌, ◌||◌, if◌then◌else◌, nat_le}
use Rattle.inlinable_string.specs.declared.string_ext.Storage.{Storage}
use Rattle.inlinable_string.specs.declared.string_ext.Storage.TheVariants.{Inline, Heap}
use Rattle.std.specs.Str.{all_scalars}
use Rattle.inlinable_string.specs.Text.{size}

-- what decides where a text is stored: whether the value demotes, which means that shrinking moves
-- a text back from the heap, and the greatest number of bytes that are stored inline
pub record Policy : Type 0 where
  pub demotes : Bool
  pub limit : ℕ

-- the characters, their storage, its capacity in bytes, and the policy
pub record TextState : Type 0 where
  pub text : List ℕ
  pub storage : Storage
  pub capacity : ℕ
  pub policy : Policy

-- what holds of every value in a program
pub record IsLawful (s : TextState) : Type 0 where
  pub scalars : all_scalars s.text ≡ true
  pub within : size s.text ≤ s.capacity
  pub bounded : s.capacity < 2 ^ 64
  pub inline_room : s.storage ≡ Inline → s.capacity ≡ s.policy.limit
  pub inline_demotes : s.storage ≡ Inline → s.policy.demotes ≡ true

-- neither the text nor its storage has changed
pub record IsSameText (old new : TextState) : Type 0 where
  pub text : new.text ≡ old.text
  pub storage : new.storage ≡ old.storage

-- the capacity suffices for n more bytes
abbrev pub HasRoom : TextState → ℕ → Type 0
HasRoom s n = size s.text + n ≤ s.capacity

-- the text is stored inline, and stays within the limit with n more bytes
abbrev pub HasInlineRoom : TextState → ℕ → Type 0
HasInlineRoom s n = (s.storage ≡ Inline) × (size s.text + n ≤ s.policy.limit)

abbrev pub is_inline : Storage → Bool
is_inline Inline = true
is_inline Heap = false

-- its storage with capacity for n more bytes
abbrev pub storage_with_room : TextState → ℕ → Storage
storage_with_room s n =
    if is_inline s.storage && nat_le (size s.text + n) s.policy.limit then Inline else Heap

-- its storage after `shrink_to_fit`
abbrev pub storage_when_shrunk : TextState → Storage
storage_when_shrunk s =
    if is_inline s.storage || (s.policy.demotes && nat_le (size s.text) s.policy.limit)
    then Inline else Heap

-- the storage of a text that was made with capacity for n bytes
abbrev pub storage_when_made : Policy → ℕ → Storage
storage_when_made policy n = if policy.demotes && nat_le n policy.limit then Inline else Heap
