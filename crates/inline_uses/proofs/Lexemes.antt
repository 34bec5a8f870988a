-- What tokens begin with, what is written between quotes, and where a source may be cut.
use Rattle.std.proofs.Common.{◌≡◌, ◌≢◌, ℕ, ◌-◌, ◌≤◌, ◌<◌, List, [], ◌∷◌, ◌++◌, length, take, drop, Bool, true, false, cond, ◌==◌, Option, Some, None, IfSome, refl, sym, ap, ◌∙◌, arith, append_assoc, length-append, lit<}
use Rattle.std.specs.Char.{encode_utf8}
use Rattle.std.specs.Str.{chars, IsUtf8, IsCharBoundary}
use Rattle.std.specs.Prelude.{slice_get}
use Rattle.std.specs.Str.Pattern.{LacksTextAt}
use Rattle.std.specs.List.{take_while}
use Rattle.std.proofs.Math.Seq.{drop-append_seam, get_or-append_seam, take-append_seam}
use Rattle.std.proofs.lemmas.List.Sums.{take_while-cons}
use Rattle.std.proofs.lemmas.Option.{same_Some}
use Rattle.std.proofs.lemmas.Str.{encodes-chars, encodes-append, encodes_same, IsUtf8-take, IsUtf8-drop, IsUtf8-past_char, IsCharBoundary-at_seam, IsCharBoundary-before_ascii}
use Rattle.inlinable_string.specs.Text.{bytes_of}
use Rattle.inline_uses.specs.declared.tokens.Kind.{Kind}
use Rattle.inline_uses.specs.declared.tokens.Kind.TheVariants.{Space, Word, Number, LineComment, BlockComment, Text, Mark}
use Rattle.inline_uses.specs.Tokens.{kind_of, kind_at, continues, escape_of, with_char, unescaped_from, unescaped, HasNoClose, IsToken}

pub text_begins : (c : ℕ) (next : Option ℕ) → kind_of c next ≡ Text → c ≡ 34
text_begins c None is = grind arith
text_begins c (Some d) is = grind arith

pub comment_begins : (c : ℕ) (next : Option ℕ) → kind_of c next ≡ BlockComment
    → (c ≡ 47) × (next ≡ Some 42)
comment_begins c None is = grind arith
comment_begins c (Some d) is = grind arith

pub mark_begins : (c m : ℕ) (next : Option ℕ) → kind_of c next ≡ Mark m → c ≡ m
mark_begins c m None is = grind arith
mark_begins c m (Some d) is = grind arith

-- what a source begins with that has a token of the kind
pub text_is : (source after inside rest : List ℕ) (c : ℕ) → kind_at source ≡ Some Text
    → source ≡ c ∷ after → after ≡ inside ++ 34 ∷ rest
    → source ≡ (34 ∷ inside ++ 34 ∷ []) ++ rest
text_is source after inside rest c is whole ends =
    let quote : c ≡ 34 = text_begins c (slice_get after 0) (same_Some _ _ (rw whole at is)) in
    let all = append_assoc inside (34 ∷ []) rest in
    cc

pub mark_starts : (source rest : List ℕ) (c m : ℕ) → kind_at source ≡ Some (Mark m)
    → source ≡ c ∷ rest → source ≡ m ∷ rest
mark_starts source rest c m is whole =
    let same : c ≡ m = mark_begins c m (slice_get rest 0) (same_Some _ _ (rw whole at is)) in cc

-- with more characters after the first
more : (o : Option ℕ) (xs ys : Option (List ℕ)) (n : List ℕ)
    → IfSome xs (λ k. ys ≡ Some (k ++ n))
    → IfSome (with_char o xs) (λ m. with_char o ys ≡ Some (m ++ n))
more None xs ys n longer = tt
more (Some c) None ys n longer = tt
more (Some c) (Some k) ys n longer = rw longer refl

more_by : (quote slash : Bool) (c : ℕ) (tx fx ty fy : Option (List ℕ)) (n : List ℕ)
    → IfSome tx (λ k. ty ≡ Some (k ++ n)) → IfSome fx (λ k. fy ≡ Some (k ++ n))
    → IfSome (cond quote None (cond slash tx (with_char (Some c) fx)))
    (λ m. cond quote None (cond slash ty (with_char (Some c) fy)) ≡ Some (m ++ n))
more_by true slash c tx fx ty fy n escaped plain = tt
more_by false true c tx fx ty fy n escaped plain = escaped
more_by false false c tx fx ty fy n escaped plain = more (Some c) fx fy n plain

longer : (escaped : Bool) (xs ys n : List ℕ) → unescaped ys ≡ Some n
    → IfSome (unescaped_from escaped xs) (λ m. unescaped_from escaped (xs ++ ys) ≡ Some (m ++ n))
longer true [] ys n last = tt
longer false [] ys n last = last
longer true (c ∷ xs) ys n last = more (escape_of c) (unescaped_from false xs)
    (unescaped_from false (xs ++ ys)) n (longer false xs ys n last)
longer false (c ∷ xs) ys n last = more_by (c == 34) (c == 92) c (unescaped_from true xs)
    (unescaped_from false xs) (unescaped_from true (xs ++ ys)) (unescaped_from false (xs ++ ys)) n
    (longer true xs ys n last) (longer false xs ys n last)

-- a text that goes on
pub unescaped-append : (xs ys m n : List ℕ) → unescaped xs ≡ Some m → unescaped ys ≡ Some n
    → unescaped (xs ++ ys) ≡ Some (m ++ n)
unescaped-append xs ys m n is last = rw is at (longer false xs ys n last)

pub escaped_one : (letter c : ℕ) → escape_of letter ≡ Some c
    → unescaped (92 ∷ letter ∷ []) ≡ Some (c ∷ [])
escaped_one letter c is = ap (λ o. with_char o (Some [])) is

pub plain_one : (c : ℕ) → c ≢ 34 → c ≢ 92 → unescaped (c ∷ []) ≡ Some (c ∷ [])
plain_one c quote slash = grind arith

-- where the characters of a source fall into a front and those of a rest, so do its bytes
pub parts_at : (front source rest : List ℕ) → IsUtf8 source → IsUtf8 rest
    → chars source ≡ front ++ chars rest → let n = length source - length rest in
    (length rest ≤ length source) × IsCharBoundary source n × (chars (take n source) ≡ front)
    × (drop n source ≡ rest)
parts_at front source rest utf8 utf8_rest is =
    let n = length (bytes_of front) in
    let bytes : source ≡ bytes_of front ++ rest =
    sym (encodes-chars source utf8) ∙ ap bytes_of is ∙ encodes-append front (chars rest)
    ∙ ap (λ r. bytes_of front ++ r) (encodes-chars rest utf8_rest) in
    let count = ap length bytes ∙ length-append (bytes_of front) rest in
    let offset : length source - length rest ≡ n = omega (arith, count) in
    let at : IsCharBoundary source n
    = IsCharBoundary-at_seam source (bytes_of front) rest bytes utf8_rest in
    let cut = ap (take n) bytes ∙ take-append_seam (bytes_of front) rest in
    rw offset (
      omega (arith, count),
      at,
      encodes_same (chars (take n source)) front
          (encodes-chars (take n source) (IsUtf8-take source n utf8 at) ∙ cut),
      ap (drop n) bytes ∙ drop-append_seam (bytes_of front) rest,
    )

-- a close of the characters is one of the bytes
close_bytes : (cs front back : List ℕ) → cs ≡ front ++ 42 ∷ 47 ∷ back
    → bytes_of cs ≡ bytes_of front ++ 42 ∷ 47 ∷ bytes_of back
unfolding encode_utf8
close_bytes cs front back is = ap bytes_of is ∙ encodes-append front (42 ∷ 47 ∷ back)

pub no_close : (s : List ℕ) → IsUtf8 s → ((xs ys : List ℕ) → s ≢ xs ++ 42 ∷ 47 ∷ ys)
    → HasNoClose (chars s)
no_close s utf8 none front back is = none (bytes_of front) (bytes_of back)
    (sym (encodes-chars s utf8) ∙ close_bytes (chars s) front back is)

utf8_parts : (text rest : List ℕ) → IsUtf8 (text ++ 42 ∷ 47 ∷ rest)
    → IsUtf8 text × IsUtf8 rest
unfolding encode_utf8
utf8_parts text rest utf8 =
    let s = text ++ 42 ∷ 47 ∷ rest in
    let n = length text in
    let at : IsCharBoundary s n = IsCharBoundary-before_ascii s n
    (rw length-append (omega arith)) (rw get_or-append_seam (lit< tt)) in
    let after : IsUtf8 (42 ∷ 47 ∷ rest) = rw drop-append_seam at (IsUtf8-drop s n utf8 at) in (
      rw take-append_seam at (IsUtf8-take s n utf8 at),
      IsUtf8-past_char (47 ∷ rest) rest 47
          (IsUtf8-past_char (42 ∷ 47 ∷ rest) (47 ∷ rest) 42 after refl) refl,
    )

-- a source that begins with a block comment, up to its close and after it
pub comment_is : (source after s text rest : List ℕ) (c d : ℕ)
    → kind_at source ≡ Some BlockComment → source ≡ c ∷ after → after ≡ d ∷ chars s
    → IsUtf8 s → s ≡ text ++ 42 ∷ 47 ∷ rest
    → source ≡ (47 ∷ 42 ∷ chars text ++ 42 ∷ 47 ∷ []) ++ chars rest
comment_is source after s text rest c d is first second utf8 split =
    let (before, left) = utf8_parts text rest (rw split at utf8) in
    let whole : source ≡ c ∷ d ∷ chars s = first ∙ ap (λ l. c ∷ l) second in
    let begins : (c ≡ 47) × (Some d ≡ Some 42)
    = comment_begins c (Some d) (same_Some _ _ (rw whole at is)) in
    let inside : chars s ≡ chars text ++ 42 ∷ 47 ∷ chars rest
    = encodes_same (chars s) (chars text ++ 42 ∷ 47 ∷ chars rest) (encodes-chars s utf8 ∙ split
    ∙ sym (close_bytes _ (chars text) (chars rest) refl
    ∙ rw (encodes-chars text before, encodes-chars rest left) refl)) in
    let all = append_assoc (chars text) (42 ∷ 47 ∷ []) (chars rest) in
    cc

pub none_before : (s text rest : List ℕ) → IsUtf8 s → s ≡ text ++ 42 ∷ 47 ∷ rest
    → ((k : ℕ) → k < length text → LacksTextAt (42 ∷ 47 ∷ []) s k)
    → HasNoClose (chars text ++ 42 ∷ [])
unfolding encode_utf8
none_before s text rest utf8 whole none front back is =
    let bytes : text ++ 42 ∷ [] ≡ bytes_of front ++ 42 ∷ 47 ∷ bytes_of back =
    ap (λ l. l ++ 42 ∷ []) (sym (encodes-chars text (utf8_parts text rest (rw whole at utf8)).0))
    ∙ sym (encodes-append (chars text) (42 ∷ []))
    ∙ close_bytes (chars text ++ 42 ∷ []) front back is in
    let all : s ≡ bytes_of front ++ (42 ∷ 47 ∷ (bytes_of back ++ 47 ∷ rest)) =
    whole ∙ sym (append_assoc text (42 ∷ []) (47 ∷ rest)) ∙ ap (λ l. l ++ 47 ∷ rest) bytes
    ∙ append_assoc (bytes_of front) (42 ∷ 47 ∷ bytes_of back) (47 ∷ rest) in
    none (length (bytes_of front)) (omega (arith, simp length-append at (ap length bytes)))
    (bytes_of back ++ 47 ∷ rest) (ap (drop (length (bytes_of front))) all
    ∙ drop-append_seam (bytes_of front) (42 ∷ 47 ∷ (bytes_of back ++ 47 ∷ rest)))

pub some_here : (text rest : List ℕ) (c : ℕ) → text ≡ c ∷ rest → text ≢ []
some_here text rest c is none = cc

taken_some : (kind : Kind) (c : ℕ) (cs text : List ℕ) → continues kind c ≡ true
    → text ≡ take_while (continues kind) (c ∷ cs) → text ≢ []
taken_some kind c cs text holds is =
    some_here text (take_while (continues kind) cs) c (is ∙ rw (take_while-cons, holds) refl)

begun : (kind : Kind) (c : ℕ) (next : Option ℕ) (cs text word : List ℕ) → kind_of c next ≡ kind
    → IsToken kind (c ∷ cs) text word → text ≢ []
begun Space c None cs text word k is = taken_some Space c cs text (grind arith) is.0
begun Space c (Some d) cs text word k is = taken_some Space c cs text (grind arith) is.0
begun LineComment c None cs text word k is = taken_some LineComment c cs text (grind arith) is.0
begun LineComment c (Some d) cs text word k is = taken_some LineComment c cs text (grind arith) is.0
begun Word c None cs text word k is = taken_some Word c cs text (grind arith) is.0
begun Word c (Some d) cs text word k is = taken_some Word c cs text (grind arith) is.0
begun Number c None cs text word k is = taken_some Number c cs text (grind arith) is.0
begun Number c (Some d) cs text word k is = taken_some Number c cs text (grind arith) is.0
begun BlockComment c next cs text word k is = some_here text _ 47 is.1
begun Text c next cs text word k is = some_here text _ 34 is.1
begun (Mark m) c next cs text word k is = some_here text [] m is.0

-- a token is not empty
pub token_has_text : (kind : Kind) (source text word : List ℕ) → kind_at source ≡ Some kind
    → IsToken kind source text word → text ≢ []
token_has_text kind [] text word k is = cc
token_has_text kind (c ∷ cs) text word k is =
    begun kind c (slice_get cs 0) cs text word (same_Some _ _ k) is

none_at : (source : List ℕ) → kind_at source ≡ None → source ≡ []
none_at [] is = refl
none_at (c ∷ source) is = cc

pub nothing_left : (source : List ℕ) → IsUtf8 source → kind_at (chars source) ≡ None
    → source ≡ []
nothing_left source utf8 is =
    sym (encodes-chars source utf8) ∙ ap bytes_of (none_at (chars source) is)

pub some_length : (xs : List ℕ) → xs ≢ [] → 0 < length xs
some_length [] some = absurd (some refl)
some_length (x ∷ xs) some = omega arith
