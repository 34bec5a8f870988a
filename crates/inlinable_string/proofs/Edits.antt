-- What `edit` answers, against the relations of texts.
use Rattle.inlinable_string.proofs.Common.{cases_Bool, common_steps, ◌≡◌, ◌≢◌, ◌↔◌, ℕ, ◌+◌, ◌⊎◌, List, [], ◌∷◌, ◌++◌, length, refl, sym, ap, ◌∙◌, arith, Bor, Option, Some, None, rules, nat_tests, encodes-chars, chars_from_encodes, is_utf8-from_IsUtf8, IsUtf8-from_is_utf8, chars, IsUtf8, is_utf8, bytes_of, size, cut, IsCut, IsPlace, IsSplice, IsRemoval, Outcome, becomes, yields, is_not_utf8, has_wrong_length, reply_of, text_left, edit, insertion, split_last, with_char_in_front, pop_result, removal_behind, removal, replacement, text_after_step, Command, Push, PushStr, Insert, InsertStr, Pop, Remove, ReplaceBytes, Reply, Done, NoChar, NotUtf8, WrongLength, NoMemory}
use Rattle.inlinable_string.proofs.Text.{size-append}
use Rattle.inlinable_string.proofs.Cut.{cut_is, is_cut, no_cut, split_last-append}

-- places

-- `cut` answers the one cut at a place
pub cut_at_place : (t : List ℕ) (p : ℕ) (a b : List ℕ)
    → (cut t p ≡ Some (a, b)) ↔ IsCut t p a b
cut_at_place t p a b = (is_cut t p a b, cut_is t p a b)

-- and none elsewhere
pub cut_elsewhere : (t : List ℕ) (p : ℕ) → (cut t p ≡ None) ↔ (¬ IsPlace t p)
cut_elsewhere t p = (λ none at. let some = cut_is t p at.0 at.1 at.2 in cc, no_cut t p)

-- outcomes

-- no outcome is `NoMemory`
pub never_refused : (o : Outcome) → reply_of o ≢ NoMemory
never_refused (becomes v) h = cc
never_refused o h = cc

-- the text after a reply other than `NoMemory`
pub text_granted : (t : List ℕ) (command : Command) (reply : Reply) → reply ≢ NoMemory
    → text_after_step t command reply ≡ text_left t (edit t command)
text_granted t command NoMemory h = absurd (h refl)
text_granted t command reply h = refl

-- insertions

-- a splice is what `edit` answers
pub insertion_is : (t u v : List ℕ) (p : ℕ) → IsSplice t p u v
    → insertion u (cut t p) ≡ becomes v
insertion_is t u v p s = search (rules, cut_is)

-- and what it answers is a splice
splice_from : (t u v : List ℕ) (p : ℕ) (o : Option (List ℕ × List ℕ)) → cut t p ≡ o
    → insertion u o ≡ becomes v → IsSplice t p u v
splice_from t u v p None e h = cc
splice_from t u v p (Some parts) e h =
    let cut = is_cut t p parts.0 parts.1 e in
    record { front = parts.0; back = parts.1; cut = cut; joined = sym (ap (text_left t) h) }

-- the clauses on insertions
pub insert_splices : (t v : List ℕ) (p c : ℕ)
    → (edit t (Insert p c) ≡ becomes v) ↔ IsSplice t p (c ∷ []) v
insert_splices t v p c = (splice_from t (c ∷ []) v p (cut t p) refl, insertion_is t (c ∷ []) v p)

pub insert_str_splices : (t v : List ℕ) (p : ℕ) (u : Bor (List ℕ))
    → (edit t (InsertStr p u) ≡ becomes v) ↔ IsSplice t p (chars u.now) v
insert_str_splices t v p u = search (rules, splice_from, insertion_is)

-- the last character

-- a text is what stands before its last character, and that character
split_last_joined : (c : ℕ) (t : List ℕ) → c ∷ t
    ≡ (with_char_in_front c (split_last t)).0 ++ (with_char_in_front c (split_last t)).1 ∷ []
split_last_joined c [] = refl
split_last_joined c (d ∷ t) = ap (λ l. c ∷ l) (split_last_joined d t)

-- a character that `Pop` answers is the last
pop_from : (t v : List ℕ) (c : ℕ) → pop_result (split_last t) ≡ yields c v → t ≡ v ++ c ∷ []
pop_from [] v c h = cc
pop_from (d ∷ t) v c h = cc (split_last_joined d t)

-- `Pop` answers the last character
pub pop_is : (t v : List ℕ) (c : ℕ) → t ≡ v ++ c ∷ [] → pop_result (split_last t) ≡ yields c v
pop_is t v c e = ap pop_result (ap split_last e ∙ split_last-append v c)

-- the clauses on `Pop`
pub pop_takes_last : (t v : List ℕ) (c : ℕ) → (edit t Pop ≡ yields c v) ↔ (t ≡ v ++ c ∷ [])
pop_takes_last t v c = (pop_from t v c, pop_is t v c)

-- only the empty text has none
nil_from_no_char : (t : List ℕ) → reply_of (pop_result (split_last t)) ≡ NoChar → t ≡ []
nil_from_no_char [] h = refl
nil_from_no_char (d ∷ t) h = cc

pub pop_finds_none : (t : List ℕ) → (reply_of (edit t Pop) ≡ NoChar) ↔ (t ≡ [])
pop_finds_none t = (nil_from_no_char t, λ e. ap (λ x. reply_of (pop_result (split_last x))) e)

-- removals

-- a removal is what `edit` answers
pub removal_is : (t v : List ℕ) (p c : ℕ) → IsRemoval t p c v → removal (cut t p) ≡ yields c v
removal_is t v p c r = search (rules, cut_is)

-- and what it answers is a removal
removal_between : (t v a b : List ℕ) (p c : ℕ) → cut t p ≡ Some (a, b)
    → removal_behind a b ≡ yields c v → IsRemoval t p c v
removal_between t v a [] p c e h = cc
removal_between t v a (d ∷ b) p c e h =
    let same : d ≡ c = cc in
    let cut = is_cut t p a (c ∷ b) (e ∙ ap (λ x. Some (a, x ∷ b)) same) in
    record { front = a; back = b; cut = cut; joined = sym (ap (text_left t) h) }

removal_from : (t v : List ℕ) (p c : ℕ) (o : Option (List ℕ × List ℕ)) → cut t p ≡ o
    → removal o ≡ yields c v → IsRemoval t p c v
removal_from t v p c None e h = cc
removal_from t v p c (Some parts) e h = removal_between t v parts.0 parts.1 p c e h

-- the clause on `Remove`
pub remove_removes : (t v : List ℕ) (p c : ℕ)
    → (edit t (Remove p) ≡ yields c v) ↔ IsRemoval t p c v
remove_removes t v p c = (removal_from t v p c (cut t p) refl, removal_is t v p c)

-- a character that was put in is taken out again
pub put_in_and_out : (t : List ℕ) (p c : ℕ) → IsPlace t p
    → edit (text_left t (edit t (Insert p c))) (Remove p) ≡ yields c t
put_in_and_out t p c at = grind (arith, common_steps, cut_is, removal_is)

-- replacements

-- another number of bytes is tested first
wrong_length : (t bs : List ℕ) → length bs ≢ size t → replacement t bs ≡ has_wrong_length
wrong_length t bs other = grind (arith, common_steps)

-- then whether they are a text's
pub not_utf8 : (t bs : List ℕ) → length bs ≡ size t → ¬ (IsUtf8 bs)
    → replacement t bs ≡ is_not_utf8
not_utf8 t bs same ill = search (rules, nat_tests, cases_Bool, IsUtf8-from_is_utf8)

-- the text of the bytes takes the place of the other
pub replacement_is : (t bs : List ℕ) → length bs ≡ size t → IsUtf8 bs
    → replacement t bs ≡ becomes (chars bs)
replacement_is t bs same well = search (rules, nat_tests, is_utf8-from_IsUtf8)

-- the three ways of a replacement
ways : (t bs : List ℕ) → (length bs ≢ size t) ⊎ ((length bs ≡ size t) × ¬ (IsUtf8 bs))
    ⊎ ((length bs ≡ size t) × IsUtf8 bs)
ways t bs =
    let test = cases_Bool (is_utf8 bs) in
    grind (arith, nat_tests, test, IsUtf8-from_is_utf8 bs, is_utf8-from_IsUtf8 bs)

-- a replacement that is carried out has the bytes
replaced_from : (t v bs : List ℕ) → replacement t bs ≡ becomes v
    → (length bs ≡ size t) × IsUtf8 bs × (bytes_of v ≡ bs)
replaced_from t v bs h =
    grind (arith, common_steps, ways t bs, wrong_length, not_utf8, replacement_is, encodes-chars)

-- the clauses on `ReplaceBytes`
pub replaced_with : (t v : List ℕ) (b : Bor (List ℕ)) → (edit t (ReplaceBytes b) ≡ becomes v)
    ↔ ((length b.now ≡ size t) × IsUtf8 b.now × (bytes_of v ≡ b.now))
replaced_with t v b = (
  replaced_from t v b.now,
  λ h. replacement_is t b.now h.0 h.1
      ∙ ap becomes (sym (chars_from_encodes v b.now h.1 h.2)),
)

pub replaced_wrong_length : (t : List ℕ) (b : Bor (List ℕ))
    → (reply_of (edit t (ReplaceBytes b)) ≡ WrongLength) ↔ (length b.now ≢ size t)
replaced_wrong_length t b = grind (arith, common_steps)

-- bytes that are answered as ill are ill
ill_from : (t bs : List ℕ) → reply_of (replacement t bs) ≡ NotUtf8
    → (length bs ≡ size t) × ¬ (IsUtf8 bs)
ill_from t bs h = search (rules, ways, wrong_length, replacement_is)

pub replaced_not_utf8 : (t : List ℕ) (b : Bor (List ℕ))
    → (reply_of (edit t (ReplaceBytes b)) ≡ NotUtf8)
    ↔ ((length b.now ≡ size t) × ¬ (IsUtf8 b.now))
replaced_not_utf8 t b = (ill_from t b.now, λ h. ap reply_of (not_utf8 t b.now h.0 h.1))

-- growth

-- what an insertion that is carried out adds
insertion_grows : (t u : List ℕ) (p : ℕ) (o : Option (List ℕ × List ℕ)) → cut t p ≡ o
    → reply_of (insertion u o) ≡ Done → size (text_left t (insertion u o)) ≡ size t + size u
insertion_grows t u p None e h = cc
insertion_grows t u p (Some parts) e h =
    grind (arith, common_steps, is_cut t p parts.0 parts.1 e, size-append)

-- the clauses on growth
pub push_grows : (t : List ℕ) (c : ℕ)
    → size (text_left t (edit t (Push c))) ≡ size t + size (c ∷ [])
push_grows t c = size-append t (c ∷ [])

pub push_str_grows : (t : List ℕ) (u : Bor (List ℕ))
    → size (text_left t (edit t (PushStr u))) ≡ size t + size (chars u.now)
push_str_grows t u = size-append t (chars u.now)

pub insert_grows : (t : List ℕ) (p c : ℕ) → reply_of (edit t (Insert p c)) ≡ Done
    → size (text_left t (edit t (Insert p c))) ≡ size t + size (c ∷ [])
insert_grows t p c done = insertion_grows t (c ∷ []) p (cut t p) refl done

pub insert_str_grows : (t : List ℕ) (p : ℕ) (u : Bor (List ℕ))
    → reply_of (edit t (InsertStr p u)) ≡ Done
    → size (text_left t (edit t (InsertStr p u))) ≡ size t + size (chars u.now)
insert_str_grows t p u done = insertion_grows t (chars u.now) p (cut t p) refl done

pub ruleset edits = (cut_at_place, cut_elsewhere, pop_takes_last, pop_finds_none)

pub ruleset growths = (push_grows, push_str_grows, insert_grows, insert_str_grows)
