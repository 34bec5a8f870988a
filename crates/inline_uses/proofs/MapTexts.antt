-- The entries of a map from texts to texts, with their values as bytes.
use Rattle.inline_uses.proofs.Names.{AreInOrder, Entries, InlinableStringN, IsStrictlySortedBy, List, [], ap, bytes_at, key_order, refl, subst, sym, with_value, ℕ, ◌∷◌, ◌≡◌}
use Rattle.std.proofs.lemmas.Map.Made.{keys_of-map_values}
use Rattle.inline_uses.specs.TextMap.{texts_of}
use Rattle.inline_uses.proofs.Members.{by_order}
use Rattle.inline_uses.specs.Store as store

-- a key, and its value as bytes
abbrev pub with_bytes : List ℕ × InlinableStringN 30 → List ℕ × List ℕ
with_bytes e = (e.0, bytes_at e.1)

-- they are in the order of the same keys
pub texts_in_order : (entries : Entries (InlinableStringN 30)) → AreInOrder entries
    → store.AreInOrder (texts_of entries)
texts_in_order entries order = subst (IsStrictlySortedBy key_order)
    (sym (keys_of-map_values bytes_at entries)) order

-- a value that is put under a key is its bytes there
pub text_put : (entries : Entries (InlinableStringN 30)) (key : List ℕ)
    (value : InlinableStringN 30) → texts_of (with_value entries key value)
    ≡ store.with_value (texts_of entries) key (bytes_at value)
text_put [] key value = refl
text_put (e ∷ entries) key value = by_order texts_of (key_order key e.0) _ _ _ _
    (ap (λ rest. (e.0, bytes_at e.1) ∷ rest) (text_put entries key value))
