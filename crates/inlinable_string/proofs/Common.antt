-- The names that most proofs of the library cite, passed on from one place.
pub use Rattle.std.proofs.Common.{Bool, Bor, Contains, Err, IfNone, IfOk, IfSome, IsAscii, IsCharBoundary, IsOk, IsSome, IsTrue, IsUtf8, List, MatchOption, MatchResult, None, Ok, OnErr, OnOk, Option, Result, Some, String, [], add-one, add-zero, ap, append-nil, append_assoc, arith, chars, cond, drop, drop-drop, drop_at, encode_utf8, encode_utf8_all, eqb-true, false, get_or, get_or-drop, if◌then◌else◌, inl, inr, is_ok, le-ltb, leb-true, length, length-append, length-drop, length-set, length-take, length-take-le, lt-ltb, ltb-true, map, nat_eq, nat_lt, not, refl, rules, set, slice_get, slice_index, slice_index_or, string_bytes, string_len, subst, suc, sym, take, take-append-drop, take-take, take_all, take_at, true, zero, ℕ, ⊎_elim, ◌%◌, ◌&&◌, ◌*◌, ◌++◌, ◌+◌, ◌-◌, ◌/◌, ◌<◌, ◌==◌, ◌^◌, ◌||◌, ◌↔◌, ◌∙◌, ◌∷◌, ◌≡◌, ◌≢◌, ◌≤◌, ◌⊎◌}
pub use Rattle.std.proofs.lemmas.Bool.{and_left, and_parts, and_right, cases_Bool, cases_lt, cond-false, cond-true, cond_both, lt-leb}
pub use Rattle.std.proofs.lemmas.Bool.Decides.{nat_tests}
pub use Rattle.std.proofs.lemmas.Grind.{common_steps}
pub use Rattle.std.proofs.lemmas.List.{drop-append-le, flat_map_more, get_or_past, length-map, map-append, nil_from_length, places, same_lists, take-append-le, take_more, take_more_set, take_rest}
pub use Rattle.std.proofs.lemmas.Result.{IfOk-weaker, on_ok_weaker}
pub use Rattle.std.proofs.lemmas.Str.{IsCharBoundary-at_seam, IsCharBoundary-from_take, IsUtf8-append, IsUtf8-encode, IsUtf8-from_ascii, IsUtf8-from_is_utf8, IsUtf8-string_bytes, IsUtf8-take, chars-IsAscii, chars-append, chars-nil, chars_from_encodes, encode_same, encodes-append, encodes-chars, encodes_same, is_utf8-from_IsUtf8, len_utf8_bounds, length-encode, length-le-encodes, scalars-chars}
pub use Rattle.std.specs.Char.{IsScalar, len_utf8}
pub use Rattle.std.specs.Cmp.{on_total}
pub use Rattle.std.specs.Cmp.Lexicographic.{bytes_decides, nat_list_cmp_total, pointwise, slice_cmp, texts_ties}
pub use Rattle.std.specs.List.{insert_slice, remove_range}
pub use Rattle.std.specs.Str.{IsValidUpTo, all_scalars, is_utf8}
pub use Rattle.std.specs.String.{string_vec}
pub use lib.Utf8.{scalar_cases}
pub use Rattle.inlinable_string.specs.Edit.{Outcome, becomes, edit, has_no_place, has_wrong_length, insertion, is_not_utf8, pop_result, removal, removal_behind, replacement, reply_of, split_last, text_after, text_after_step, text_left, truncation, with_char_in_front, yields}
pub use Rattle.inlinable_string.specs.Joins.{IsExtended, IsRefusedLast, text_of_char_refs, text_of_chars, text_of_strs, text_of_strs_with}
pub use Rattle.inlinable_string.specs.Laws.{LeavesWithin, PushesWithin, ReservesWithin, StaysWithin, is_refusal, replies_of, text_after_edits}
pub use Rattle.inlinable_string.specs.Lossy.{char_len, count_in, following, lossy_utf8, lossy_utf8_past, subpart_len}
pub use Rattle.inlinable_string.specs.Run.{AsksMemory, EachRun, IsCounted, IsFree, IsLegal, IsMet, IsRun, LegalReplies, Need, anywhere, at_end, credit, credit_after, credit_after_step, credit_when_met, need_of, no_room, reserved, state_after, state_after_step, storage_after, storage_after_step, storage_when_met, tight}
pub use Rattle.inlinable_string.specs.State.{HasInlineRoom, HasRoom, IsLawful, IsSameText, Policy, TextState, storage_when_made, storage_with_room}
pub use Rattle.inlinable_string.specs.Step.{Covers, IsStep}
pub use Rattle.inlinable_string.specs.Text.{IsCut, IsPlace, IsRemoval, IsSplice, bytes_of, cut, size, with_first}
pub use Rattle.inlinable_string.specs.Utf16.{HasUnpaired, is_high_at, is_high_before, is_low_at, is_unpaired, lossy_unit, lossy_utf16, lossy_utf16_before, units_of}
pub use Rattle.inlinable_string.specs.StringValues.{heap_state}
pub use Rattle.inlinable_string.specs.Values.{inlinable_policy, inlinable_state}
pub use Rattle.inlinable_string.specs.declared.run.Command.{Command}
pub use Rattle.inlinable_string.specs.declared.run.Command.TheVariants.{Clear, Insert, InsertStr, Pop, Push, PushStr, Remove, ReplaceBytes, Reserve, ReserveExact, ShrinkToFit, Truncate}
pub use Rattle.inlinable_string.specs.declared.run.Reply.{Reply}
pub use Rattle.inlinable_string.specs.declared.run.Reply.TheVariants.{BadPlace, Char, Done, NoChar, NoMemory, NotUtf8, WrongLength}
pub use Rattle.inlinable_string.specs.declared.string_ext.Storage.TheVariants.{Heap, Inline}
