-- What calls leave that append the items of an iterator to a text, one by one.
use Rattle.std.specs.Prelude.{◌≡◌, ℕ, ◌+◌, ◌<◌, List, [], ◌∷◌, ◌++◌, map}
use Rattle.std.specs.Borrow.{Bor}
use Rattle.std.specs.List.{flat_map, join_by}
use Rattle.std.specs.Str.{chars}
use Rattle.inlinable_string.specs.Text.{size}
use Rattle.inlinable_string.specs.State.{TextState, storage_with_room}

-- the text of characters
abbrev pub text_of_chars : List ℕ → List ℕ
text_of_chars items = items

-- the text of characters that references point to
abbrev pub text_of_char_refs : List (Bor ℕ) → List ℕ
text_of_char_refs items = map (λ c. c.now) items

-- the texts of strings, joined
abbrev pub text_of_strs : List (Bor (List ℕ)) → List ℕ
text_of_strs items = flat_map (λ s. chars s.now) items

-- the texts of strings, joined with a separator between each two
abbrev pub text_of_strs_with : List ℕ → List (Bor (List ℕ)) → List ℕ
text_of_strs_with separator items = join_by (λ s. chars s.now) separator items

-- u was appended to the text, whose storage is that with capacity for the bytes of u
pub record IsExtended (old : TextState) (u : List ℕ) (new : TextState) : Type 0 where
  pub text : new.text ≡ old.text ++ u
  pub storage : new.storage ≡ storage_with_room old (size u)

-- the items before the last were appended, and the last failed: with all of them the text would
-- exceed the capacity that it had at first
pub record IsRefusedLast {A : Type 0} (text_of : List A → List ℕ) (old : TextState)
    (items : List A) (new : TextState) : Type 0 where
  pub taken : List A
  pub refused : A
  pub whole : items ≡ taken ++ refused ∷ []
  pub extended : IsExtended old (text_of taken) new
  pub above : old.capacity < size old.text + size (text_of items)
