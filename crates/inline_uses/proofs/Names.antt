-- The names that proofs about an index, and the tables over it, cite, passed on from one place.
pub use Rattle.std.proofs.Common.{Bool, Equal, Err, Fits, Global, Greater, IfOk, Less, List, None, Ok, OnErr, OnOk, Option, Ordering, Result, Some, Vec, [], add-mul, add-one, ap, append-nil, append_assoc, arith, cond, drop, false, get_or, inl, inr, is_eq, length, map, min, not, one-mul, option_map, refl, rules, set, slice_get, subst, suc, sym, take, true, unwrap_or, w8, zero, ℕ, ◌%◌, ◌&&◌, ◌*◌, ◌++◌, ◌+◌, ◌-◌, ◌/◌, ◌<◌, ◌^◌, ◌↔◌, ◌∙◌, ◌∷◌, ◌≡◌, ◌≢◌, ◌≤◌, ◌⊎◌}
pub use Rattle.std.proofs.Math.Nat.{pow-succ'}
pub use Rattle.std.proofs.Math.Path.{fun_ext}
pub use Rattle.std.proofs.Math.Seq.{drop-append_seam, drop-cons, get_or-append_seam, map-set_same, take-append_seam, take-nil, take-suc}
pub use Rattle.std.proofs.lemmas.Bool.{cases_eq, cases_lt}
pub use Rattle.std.proofs.lemmas.Cmp.{eq_by_cmp_equiv, nat_cmp_total, nat_list_cmp_total, ranked, tied_itself}
pub use Rattle.std.proofs.lemmas.Grind.{common_steps}
pub use Rattle.std.proofs.lemmas.List.{drop-map, flat_map_more, get_or-append-add, get_or-drop, get_or-map, get_or-take, get_or_append_left, length-append, length-drop, length-map, length-set, length-take, length-take-le, map-append, map-id, map-set, map_more, set-append_left, set-append_right, set-get_or, set_split, take-append-drop, take-map, take-set, take-take, take_all, take_more}
pub use Rattle.std.proofs.lemmas.List.Edits.{insert-append_left, insert-append_right, length-insert, length-remove, remove-append_left, remove-append_right}
pub use Rattle.std.proofs.lemmas.List.Elements.{All-append, All-drop, All-from_recursion, All-get_or, All-map, All-set, All-take, All-weaker, recursion_from_All}
pub use Rattle.std.proofs.lemmas.List.FromFn.{map-range_with_len_more}
pub use Rattle.std.proofs.lemmas.List.Sorted.{IsPermutation-insert, IsPermutation-push_more, IsPermutation-refl}
pub use Rattle.std.proofs.lemmas.Map.{lookup-insert, none_passes_from_lookup}
pub use Rattle.std.proofs.lemmas.Map.Keys.{Less-from_sorted, sorted_from_all_adjacent}
pub use Rattle.std.proofs.lemmas.Map.Lookups.{exact_bytes}
pub use Rattle.std.proofs.lemmas.Nat.{mul-le}
pub use Rattle.std.proofs.lemmas.Option.{get_or_from_slice_get, gets, slice_get-get_or, slice_get-map, slice_get_read, slice_get_within}
pub use Rattle.std.proofs.lemmas.Result.{IfOk-weaker}
pub use Rattle.std.proofs.lemmas.Simd.{map-map}
pub use Rattle.std.specs.BTreeMap.{is_at}
pub use Rattle.std.specs.Cmp.{Equal-is, unsigned_Decides}
pub use Rattle.std.specs.Cmp.Lexicographic.{bytes_decides}
pub use Rattle.std.specs.Int.{from_be_bytes, w64}
pub use Rattle.std.specs.List.{AllByRecursion, flat_map, insert, range_with_len, remove, swap_remove}
pub use Rattle.std.specs.List.Sorted.{IsPermutation}
unfoldable pub use Rattle.std.specs.List.Sorted.{IsStrictlySortedBy}
pub use Rattle.std.specs.Map.{keys_of, lookup}
pub use Rattle.std.specs.Ordering.{eq_by_cmp, is_gt, match_ordering, nat_cmp, ordering_reverse, ordering_then}
pub use Rattle.std.specs.Prelude.{⊤}
pub use Rattle.std.specs.Result.{IfErr}
pub use Rattle.std.specs.Vec.{with_item}
pub use Rattle.std.specs.declared.alloc.AllocError.{AllocError}
pub use Rattle.inlinable_string.specs.declared.inlinable_string.InlinableStringN.{InlinableStringN}
pub use Rattle.inline_uses.specs.Index.{HaveFirsts, IsAt, IsChanged, IsIndex, IsMark, IsOrdered, IsPlace, IsShared, IsSplit, IsSpot, common, compare_fronts, first_front, ids_at, ids_in, ids_of, index_of, last_of, longest_front, mark_order, runs_of, with_run}
pub use Rattle.inline_uses.specs.Symbols.{HaveOneId, IsGap, IsOrderOf, bytes_at, key_order, text_at, with_ids}
pub use Rattle.inline_uses.specs.TextMap.{AreInOrder, AreMapped, AreNumbers, AreOthers, Entries, Has, IsFound, IsMissing, IsRenumbered, by_number, entries_at, entries_between, entries_by, entries_in, entry_of, value_of, with_value, without}
pub use Rattle.inline_uses.specs.declared.index.Index.{Index}
pub use Rattle.inline_uses.specs.declared.index.Spot.{Spot}
pub use Rattle.inline_uses.specs.declared.index.mark.Mark.{Mark}
pub use Rattle.inline_uses.specs.declared.index.run.Run.{Run}
pub use Rattle.std.proofs.lemmas.List.Concat.{flat_map-append}
