-- What the contracts of a store cite: its whole state is a list of keys with their values, each as
-- its bytes, in which each key occurs once, in the order of the keys.
use Rattle.std.specs.Prelude.{◌&&◌, not, ℕ, List, [], Option, Some, map, filter, option_and_then}
use Rattle.std.specs.Ordering.{is_gt}
use Rattle.std.specs.List.Sorted.{IsStrictlySortedBy}
use Rattle.std.specs.Map.{keys_of, lookup, remove_entry}
use Rattle.std.specs.BTreeMap.{is_at, insert_entry}
use Rattle.serde_json.specs.Data.{Members, no_members, member}
use Rattle.serde_json.specs.Find.{as_object, as_str}
use Rattle.serde_json.specs.Read.{read}
use Rattle.inline_uses.specs.Symbols.{bytes_at, key_order}
use Rattle.inlinable_string.specs.declared.inlinable_string.InlinableStringN.{InlinableStringN}
use Rattle.inline_uses.specs.declared.store.Store.TheInside.{Inside}

-- keys with their values
abbrev pub Entries : Type 0
Entries = List (List ℕ × List ℕ)

-- each key is below those after it
abbrev pub AreInOrder : Entries → Type 0
AreInOrder entries = IsStrictlySortedBy key_order (keys_of entries)

-- the value under a key
abbrev pub value_of : Entries → List ℕ → Option (List ℕ)
value_of entries key = lookup (is_at (key_order key)) entries

-- the entries with a value under a key, instead of the one that it had
abbrev pub with_value : Entries → List ℕ → List ℕ → Entries
with_value entries key value = insert_entry key_order entries key value

-- the entries without a key
abbrev pub without : Entries → List ℕ → Entries
without entries key = remove_entry (is_at (key_order key)) entries

-- the entries whose keys are from one up to and not including another
abbrev pub entries_between : Entries → List ℕ → List ℕ → Entries
entries_between entries from to = filter
    (λ e. not (is_gt (key_order from e.0)) && is_gt (key_order to e.0)) entries

-- a key with its value, each inline or on the heap
abbrev pub entry_of : InlinableStringN 30 × InlinableStringN 30 → List ℕ × List ℕ
entry_of entry = (bytes_at entry.0, bytes_at entry.1)

-- the keys of a store with their values
abbrev pub entries_of : Inside → Entries
entries_of a = map entry_of a.entries

-- the entries with the members of a JSON object put in one after another, if each is a string
abbrev pub with_members : Entries → Members → Option Entries
with_members entries no_members = Some entries
with_members entries (member key datum members) = option_and_then
    (λ value. with_members (with_value entries key value) members) (as_str datum)

-- the entries that bytes tell: those of a JSON object of strings
abbrev pub entries_in : List ℕ → Option Entries
entries_in bytes = option_and_then (with_members []) (option_and_then as_object (read bytes))
