-- The names that proofs about a tree cite, passed on from one place.
pub use Rattle.std.proofs.Common.{All, BTreeMap, Bool, Bor, Decides, Equal, Err, Global, Greater, IfOk, IsSome, IsUtf8, Less, List, None, Ok, Option, Ordering, Result, Some, String, [], ap, append_assoc, arith, chars, cond, false, fold, inl, inr, is_eq, is_gt, is_le, is_ok, length, length-append, map, nat_cmp, nat_eq, option_and_then, option_map, refl, rules, slice_get, string_bytes, subst, suc, sym, true, unwrap_or, zero, ℕ, ◌++◌, ◌+◌, ◌-◌, ◌<◌, ◌↔◌, ◌∙◌, ◌∷◌, ◌≡◌, ◌≤◌, ◌⊎◌}
pub use Rattle.std.proofs.lemmas.Bool.{cases_Bool}
pub use Rattle.std.proofs.lemmas.Bool.Decides.{nat_tests, not_from_Decides}
pub use Rattle.std.proofs.lemmas.Cmp.{nat_cmp_total, nat_list_cmp_total, ranked, tied_itself}
pub use Rattle.std.proofs.lemmas.Grind.{fold-append}
pub use Rattle.std.proofs.lemmas.List.Elements.{All-append, All-cons, All-nil, All-weaker, recursion_from_All}
pub use Rattle.std.proofs.lemmas.Map.Entries.{lookup-filter-keys, place_from_lookup}
pub use Rattle.std.proofs.lemmas.Map.Keys.{sorted_head, sorted_tail}
pub use Rattle.std.proofs.lemmas.Map.Lookups.{exact_bytes, exact_pairs}
pub use Rattle.std.proofs.lemmas.Option.{slice_get-get_or, slice_get_within}
pub use Rattle.std.proofs.lemmas.Str.{encodes-chars}
pub use Rattle.std.specs.BTreeMap.{get as value_at, is_at}
pub use Rattle.std.specs.BTreeMap.Entry.{map_with_value}
pub use Rattle.std.specs.BTreeMap.Range.{IsEntryInRange, IsInRange, entries_between, range_contains}
pub use Rattle.std.specs.Cmp.{Equal-is, nat_cmp_is}
pub use Rattle.std.specs.Cmp.Lexicographic.{bytes_decides, options_total, pointwise, slice_cmp}
pub use Rattle.std.specs.List.{AllByRecursion}
unfoldable pub use Rattle.std.specs.List.Sorted.{IsStrictlySortedBy}
pub use Rattle.std.specs.Map.{keys_of, lookup}
pub use Rattle.std.specs.Option.{option_cmp}
pub use Rattle.std.specs.Ordering.{match_ordering, ordering_then}
pub use Rattle.std.specs.declared.ops.Bound.{Bound}
pub use Rattle.std.specs.declared.ops.Bound.TheVariants.{Excluded, Included}
pub use Rattle.inlinable_string.specs.Text.{bytes_of, size}
pub use Rattle.inlinable_string.specs.Values.{inlinable_state}
pub use Rattle.inline_uses.specs.PlacedKeys.{place_order_total}
pub use Rattle.inline_uses.specs.Symbols.{key_order}
pub use Rattle.inline_uses.specs.Tree.{AreFound, AreNested, HasShortKeys, HaveSamePaths, HaveShortKeys, IsFaultOf, IsNested, IsPlaceOf, IsReadable, IsShown, IsTree, Leads, joined, listed, listed_members, node_at, place_order, walk}
pub use Rattle.inline_uses.specs.declared.tree.Fault.{Fault}
pub use Rattle.inline_uses.specs.declared.tree.Fault.TheVariants.{LongKey, NoMemory, NoNode, NotObject, Taken, TooDeep}
pub use Rattle.inline_uses.specs.declared.tree.Node.{Node}
pub use Rattle.serde_json.proofs.Views.{get_member-put, get_member-put_other, view-Object}
pub use Rattle.serde_json.specs.Data.{Data, Members, array, boolean, depth, member, members_depth, no_members, null, number, object, put, string}
pub use Rattle.serde_json.specs.Find.{get, get_member}
pub use Rattle.serde_json.specs.View.{members_view, view}
pub use Rattle.serde_json.specs.declared.value.Value.{Value}
