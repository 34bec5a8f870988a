-- One step of a value, by its command and its reply.
use Rattle.inlinable_string.proofs.Common.{common_steps, ◌≡◌, ℕ, ◌+◌, ◌-◌, ◌≤◌, inl, true, false, List, [], ◌∷◌, ◌++◌, length, refl, sym, ap, ◌∙◌, arith, Bor, rules, chars_from_encodes, chars, IsUtf8, bytes_of, size, IsCut, IsPlace, IsSplice, IsRemoval, cut, TextState, IsLawful, IsSameText, HasRoom, HasInlineRoom, storage_with_room, becomes, has_no_place, reply_of, text_left, edit, insertion, text_after_step, need_of, storage_after_step, credit_after_step, AsksMemory, IsMet, IsCounted, IsStep, Command, PushStr, Insert, InsertStr, Truncate, Pop, Remove, ReplaceBytes, Reply, Done, Char, BadPlace, NotUtf8, NoMemory}
use Rattle.std.proofs.lemmas.Bool.{false≢true}
use Rattle.inlinable_string.proofs.Text.{size-append, size-chars, nil_from_size}
use Rattle.inlinable_string.proofs.Cut.{cut_is, no_cut}
use Rattle.inlinable_string.proofs.Edits.{insertion_is, pop_is, removal_is, replacement_is, not_utf8}

-- a command that was answered as `edit` says, after which no credit is certain
answered : (old new : TextState) (command : Command) (reply : Reply) → IsLawful new
    → reply ≡ reply_of (edit old.text command) → new.text ≡ text_after_step old.text command reply
    → ((n : ℕ) → new.storage ≡ storage_after_step (record old { capacity = n }) command reply)
    → ((n : ℕ) → IsCounted (record old { capacity = n }) (need_of command) reply)
    → ((k : ℕ) → credit_after_step k command reply ≡ 0) → new.policy ≡ old.policy
    → IsStep old command reply new
answered old new command reply laws answer text storage counted none policy =
    grind (arith, common_steps)

-- a command whose allocation failed
refused : (old new : TextState) (command : Command) → IsLawful new → IsSameText old new
    → AsksMemory old.text command
    → ((n : ℕ) → size old.text ≤ n → n ≤ old.capacity
    → ¬ (IsMet (record old { capacity = n }) (need_of command)))
    → ((n : ℕ) → IsCounted (record old { capacity = n }) (need_of command) NoMemory)
    → new.policy ≡ old.policy
    → IsStep old command NoMemory new
refused old new command laws same asks unmet counted policy = grind (arith, common_steps)

-- a command at a bad place
misplaced : (old : TextState) (command : Command) → edit old.text command ≡ has_no_place
    → ((n : ℕ) → IsCounted (record old { capacity = n }) (need_of command) BadPlace)
    → IsStep old command BadPlace old
misplaced old command is counted = grind (arith, common_steps)

-- what pushes have left of a credit
left : (t u : List ℕ) (a n old new : ℕ) → size u ≡ a → size (t ++ u) ≤ new → n ≤ old → old ≤ new
    → size (t ++ u) + (n - size t - a) ≤ new
left t u a n old new width within most more = search (rules, size-append)

pushed : (old new : TextState) (command : Command) (u : List ℕ) (a : ℕ) → IsLawful new → size u ≡ a
    → edit old.text command ≡ becomes (old.text ++ u)
    → ((k : ℕ) → credit_after_step k command Done ≡ k - a)
    → ((n : ℕ) → IsCounted (record old { capacity = n }) (need_of command) Done)
    → new.text ≡ old.text ++ u
    → ((n : ℕ) → new.storage ≡ storage_after_step (record old { capacity = n }) command Done)
    → old.capacity ≤ new.capacity → new.policy ≡ old.policy → IsStep old command Done new
pushed old new command u a laws width is credit counted text storage more policy =
    let within : size (old.text ++ u) ≤ new.capacity = rw text at laws.within in record {
      legal = λ n fits most. record { answer = inl (sym (ap reply_of is)); counted = counted n };
      next = λ n fits most.
          let room = left old.text u a n old.capacity new.capacity width within most more in
          grind (arith, storage n, room, credit (n - size old.text));
    }

pub push_str_done : (old new : TextState) (string : Bor (List ℕ)) → IsUtf8 string.now → IsLawful new
    → new.text ≡ old.text ++ chars string.now
    → new.storage ≡ storage_with_room old (length string.now) → old.capacity ≤ new.capacity
    → new.policy ≡ old.policy → IsStep old (PushStr string) Done new
push_str_done old new string u laws text storage more policy = search (rules, pushed, size-chars)

pub push_str_refused : (old new : TextState) (string : Bor (List ℕ)) → IsUtf8 string.now
    → IsLawful new → IsSameText old new
    → (HasRoom old (length string.now) → false ≡ true)
    → (HasInlineRoom old (length string.now) → false ≡ true) → new.policy ≡ old.policy
    → IsStep old (PushStr string) NoMemory new
push_str_refused old new string u laws same out inline_out policy =
    search (rules, size-chars, refused, false≢true)

-- insertions

-- a place has its parts, so an insertion there is carried out
insertion_done : (t u : List ℕ) (p : ℕ) → IsPlace t p → reply_of (insertion u (cut t p)) ≡ Done
insertion_done t u p at = ap (λ o. reply_of (insertion u o)) (cut_is t p at.0 at.1 at.2)

no_insertion : (t u : List ℕ) (p : ℕ) → (IsPlace t p → ⊥) → insertion u (cut t p) ≡ has_no_place
no_insertion t u p none = ap (insertion u) (no_cut t p none)

pub insert_done : (old new : TextState) (p c : ℕ) → IsLawful new
    → IsSplice old.text p (c ∷ []) new.text
    → new.storage ≡ storage_with_room old (size (c ∷ [])) → new.policy ≡ old.policy
    → IsStep old (Insert p c) Done new
insert_done old new p c laws s storage policy =
    let is = insertion_is old.text (c ∷ []) new.text p s in
    answered old new (Insert p c) Done laws (sym (ap reply_of is))
    (sym (ap (text_left old.text) is)) (λ n. storage) (λ n. tt) (λ k. refl) policy

pub insert_refused : (old new : TextState) (p c : ℕ) → IsLawful new → IsPlace old.text p
    → IsSameText old new
    → (HasInlineRoom old (size (c ∷ [])) → false ≡ true) → new.policy ≡ old.policy
    → IsStep old (Insert p c) NoMemory new
insert_refused old new p c laws at same out policy =
    search (rules, refused, insertion_done, false≢true)

pub insert_misplaced : (old : TextState) (p c : ℕ) → (IsPlace old.text p → ⊥)
    → IsStep old (Insert p c) BadPlace old
insert_misplaced old p c none = search (rules, misplaced, no_insertion)

pub insert_str_done : (old new : TextState) (p : ℕ) (string : Bor (List ℕ)) → IsUtf8 string.now
    → IsLawful new → IsSplice old.text p (chars string.now) new.text
    → new.storage ≡ storage_with_room old (length string.now) → new.policy ≡ old.policy
    → IsStep old (InsertStr p string) Done new
insert_str_done old new p string u laws s storage policy =
    let is = insertion_is old.text (chars string.now) new.text p s in
    answered old new (InsertStr p string) Done laws (sym (ap reply_of is))
    (sym (ap (text_left old.text) is)) (λ n. storage
    ∙ ap (storage_with_room old) (sym (size-chars string.now u))) (λ n. tt) (λ k. refl) policy

pub insert_str_refused : (old new : TextState) (p : ℕ) (string : Bor (List ℕ)) → IsUtf8 string.now
    → IsLawful new → IsPlace old.text p → IsSameText old new
    → (HasInlineRoom old (length string.now) → false ≡ true) → new.policy ≡ old.policy
    → IsStep old (InsertStr p string) NoMemory new
insert_str_refused old new p string u laws at same out policy =
    search (rules, refused, insertion_done, false≢true, size-chars)

pub insert_str_misplaced : (old : TextState) (p : ℕ) (string : Bor (List ℕ))
    → (IsPlace old.text p → ⊥) → IsStep old (InsertStr p string) BadPlace old
insert_str_misplaced old p string none = search (rules, misplaced, no_insertion)

-- cuts

pub truncate_done : (old new : TextState) (rest : List ℕ) (p : ℕ) → IsLawful new
    → IsCut old.text p new.text rest
    → new.storage ≡ old.storage → new.policy ≡ old.policy → IsStep old (Truncate p) Done new
truncate_done old new rest p laws at storage policy = search (rules, cut_is, answered)

pub truncate_misplaced : (old : TextState) (p : ℕ) → (IsPlace old.text p → ⊥)
    → IsStep old (Truncate p) BadPlace old
truncate_misplaced old p none = search (rules, misplaced, no_cut)

pub pop_char : (old new : TextState) (c : ℕ) → IsLawful new → old.text ≡ new.text ++ c ∷ []
    → new.storage ≡ old.storage → new.policy ≡ old.policy → IsStep old Pop (Char c) new
pop_char old new c laws text storage policy = search (rules, pop_is, answered)

pub remove_char : (old new : TextState) (p c : ℕ) → IsLawful new → IsRemoval old.text p c new.text
    → new.storage ≡ old.storage → new.policy ≡ old.policy → IsStep old (Remove p) (Char c) new
remove_char old new p c laws r storage policy =
    let is = removal_is old.text new.text p c r in
    answered old new (Remove p) (Char c) laws (sym (ap reply_of is))
    (sym (ap (text_left old.text) is)) (λ n. storage) (λ n. tt) (λ k. refl) policy

pub remove_misplaced : (old : TextState) (p : ℕ) → (IsPlace old.text p → ⊥)
    → IsStep old (Remove p) BadPlace old
remove_misplaced old p none = search (rules, misplaced, no_cut)

-- no character begins at the end
pub remove_at_end : (old : TextState) (p : ℕ) → IsPlace old.text p → size old.text ≤ p
    → IsStep old (Remove p) BadPlace old
remove_at_end old p at past = search (rules, nil_from_size, size-append, cut_is, misplaced)

-- replacements

pub replace_done : (old new : TextState) (bytes : Bor (List ℕ)) → IsLawful new
    → bytes_of new.text ≡ bytes.now → length bytes.now ≡ size old.text → IsUtf8 bytes.now
    → new.storage ≡ old.storage → new.policy ≡ old.policy → IsStep old (ReplaceBytes bytes) Done new
replace_done old new bytes laws text same u storage policy =
    search (rules, replacement_is, chars_from_encodes, answered)

pub replace_not_utf8 : (old new : TextState) (bytes : Bor (List ℕ)) → IsLawful new
    → IsSameText old new → length bytes.now ≡ size old.text → ¬ (IsUtf8 bytes.now)
    → new.policy ≡ old.policy → IsStep old (ReplaceBytes bytes) NotUtf8 new
replace_not_utf8 old new bytes laws same as_many not policy = search (rules, not_utf8, answered)

-- what a run's command does where it is carried out, or refused for its bytes
pub ruleset outcomes = (
  insert_done,
  truncate_done,
  pop_char,
  remove_char,
  replace_done,
  replace_not_utf8,
)
