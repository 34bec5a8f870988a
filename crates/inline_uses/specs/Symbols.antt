-- What the contracts of a symbol table cite: its texts, each as its bytes, by their ids, and the
-- order of texts, in which it looks them up.
use Rattle.std.specs.Prelude.{◌≡◌, ◌↔◌, ◌<◌, ◌≤◌, ◌++◌, ℕ, List, [], ◌∷◌, Some, map, length, slice_get, slice_index_or}
use Rattle.std.specs.declared.cmp.Ordering.{Ordering}
use Rattle.std.specs.declared.cmp.Ordering.TheVariants.{Less, Greater}
use Rattle.std.specs.Cmp.Lexicographic.{slice_cmp}
use Rattle.std.specs.Borrow.{Bor}
use Rattle.std.specs.List.{AllByRecursion, AllZip, range_with_len}
use Rattle.std.specs.List.Sorted.{IsPermutation, IsStrictlySortedBy}
use Rattle.std.specs.Map.{keys_of, lookup}
use Rattle.std.specs.BTreeMap.{is_at}
use Rattle.std.specs.Ordering.{nat_cmp}
use Rattle.inlinable_string.specs.Text.{bytes_of}
use Rattle.inlinable_string.specs.Values.{inlinable_state}
use Rattle.inlinable_string.specs.declared.inlinable_string.InlinableStringN.{InlinableStringN}
use Rattle.inline_uses.specs.Index.{IsIndex, ids_in}
use Rattle.inline_uses.specs.declared.symbols.Symbols.TheInside.{Inside}

-- the bytes of a text, whatever its storage
abbrev pub bytes_at : InlinableStringN 30 → List ℕ
bytes_at t = bytes_of (inlinable_state 30 t).text

-- how keys are ordered: by their bytes, a front before the whole
abbrev pub key_order : List ℕ → List ℕ → Ordering
key_order = slice_cmp nat_cmp

-- the index at which a key goes among others: those before it are below the key, the others above
abbrev pub IsGap : List (List ℕ) → List ℕ → ℕ → Type 0
IsGap keys key at = (at ≤ length keys)
    × ((i : ℕ) → i < at → key_order key (slice_index_or keys i []) ≡ Greater)
    × ((i : ℕ) → at ≤ i → i < length keys → key_order key (slice_index_or keys i []) ≡ Less)

-- no text has two ids
abbrev pub HaveOneId : {X : Type 0} → List X → Type 0
HaveOneId texts = (i j : ℕ) (text : _)
    → slice_get texts i ≡ Some text → slice_get texts j ≡ Some text → i ≡ j

-- the text of an id, empty if there is none
abbrev pub text_at : List (List ℕ) → ℕ → List ℕ
text_at texts id = slice_index_or texts id []

-- the texts of ids, each with its id
abbrev pub with_ids : List (List ℕ) → List ℕ → List (List ℕ × ℕ)
with_ids texts ids = map (λ id. (text_at texts id, id)) ids

-- the texts of a table by their ids
abbrev pub texts_of : Inside → List (List ℕ)
texts_of a = map bytes_at a.texts.items

-- each of these ids is that of the text in its place
abbrev pub AreIdsOf : List (List ℕ) → List (Bor (List ℕ)) → List ℕ → Type 0
AreIdsOf texts items ids = AllZip (λ s id. slice_get texts id ≡ Some s.now) items ids

-- the list of ids became another by those of the items, one after the other
abbrev pub HasAppended : List (List ℕ) → List ℕ → List (Bor (List ℕ)) → List ℕ → Type 0
HasAppended texts old items new = (ids : List ℕ) × AreIdsOf texts items ids × (new ≡ old ++ ids)

-- it did so by the ids of all items but the last, which was refused
abbrev pub HasAppendedAllButLast : List (List ℕ) → List ℕ → List (Bor (List ℕ)) → List ℕ → Type 0
HasAppendedAllButLast texts old items new = (taken : List (Bor (List ℕ))) × (last : Bor (List ℕ))
    × (items ≡ taken ++ last ∷ []) × HasAppended texts old taken new

-- all ids are in the order of their texts, and each text is found under its own
pub record IsOrderOf (texts : List (List ℕ)) (ids : List ℕ) : Type 0 where
  pub sorted : IsStrictlySortedBy key_order (keys_of (with_ids texts ids))
  pub within : AllByRecursion (λ id. id < length texts) ids
  pub all : IsPermutation (range_with_len 0 (length texts)) ids
  pub found : (text : List ℕ) (id : ℕ)
      → (lookup (is_at (key_order text)) (with_ids texts ids) ≡ Some id)
      ↔ (slice_get texts id ≡ Some text)

abbrev pub IsIndexed : Inside → Type 0
IsIndexed a = IsOrderOf (texts_of a) (ids_in a.order) × IsIndex (text_at (texts_of a)) a.order
