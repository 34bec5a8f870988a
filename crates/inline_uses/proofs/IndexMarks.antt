-- How the bytes after a common front, as a number, decide the order of texts.
use Rattle.inline_uses.proofs.Names.{AllByRecursion, Equal, Fits, Greater, IsMark, Less, List, Mark, Ordering, [], add-mul, ap, arith, drop, exact_bytes, from_be_bytes, get_or, key_order, mark_order, match_ordering, mul-le, nat_cmp, nat_cmp_total, nat_list_cmp_total, one-mul, ordering_reverse, ordering_then, pow-succ', ranked, refl, suc, sym, take, tied_itself, w64, w8, zero, ℕ, ◌*◌, ◌+◌, ◌<◌, ◌^◌, ◌∙◌, ◌∷◌, ◌≡◌, ◌≢◌}
use Rattle.inline_uses.proofs.Each.{all_drop}
use Rattle.inline_uses.proofs.Gaps.{turned}

abbrev pub AreBytes : List ℕ → Type 0
AreBytes = AllByRecursion (λ b. b < 256)

-- the first k bytes as digits of a number, with zeros for those that are missing
abbrev number : ℕ → List ℕ → ℕ
number zero bytes = 0
number (suc k) [] = 0
number (suc k) (b ∷ bytes) = b * 256 ^ k + number k bytes

tied_number : (n : ℕ) → nat_cmp n n ≡ Equal
tied_number n = tied_itself nat_cmp_total n

number_most : (k : ℕ) (bs : List ℕ) → AreBytes bs → number k bs < 256 ^ k
number_most zero bs are = omega arith
number_most (suc k) [] are = rw pow-succ' (omega (arith, number_most k [] are))
number_most (suc k) (b ∷ bs) are =
    let rest = number_most k bs are.1 in
    let less = are.0 in
    let most = mul-le (b + 1) (256 ^ k) 256 (256 ^ k) (omega (arith, less)) (omega arith) in
    rw pow-succ' (omega (arith, rest, rw (add-mul, one-mul) at most))

-- eight bytes as a number
is_number : (bs : List ℕ) → from_be_bytes w64 bs ≡ number 8 bs
is_number [] = refl
is_number (a ∷ []) = omega arith
is_number (a ∷ b ∷ []) = omega arith
is_number (a ∷ b ∷ c ∷ []) = omega arith
is_number (a ∷ b ∷ c ∷ d ∷ []) = omega arith
is_number (a ∷ b ∷ c ∷ d ∷ e ∷ []) = omega arith
is_number (a ∷ b ∷ c ∷ d ∷ e ∷ f ∷ []) = omega arith
is_number (a ∷ b ∷ c ∷ d ∷ e ∷ f ∷ g ∷ []) = omega arith
is_number (a ∷ b ∷ c ∷ d ∷ e ∷ f ∷ g ∷ h ∷ rest) = omega arith

-- what is below as a number is below as bytes
number_decides : (k : ℕ) (xs ys : List ℕ) → AreBytes xs → AreBytes ys
    → number k xs < number k ys → key_order xs ys ≡ Less
number_decides zero xs ys are others less = absurd (omega (arith, less))
number_decides (suc k) xs [] are others less = absurd (omega (arith, less))
number_decides (suc k) [] (y ∷ ys) are others less = refl
number_decides (suc k) (x ∷ xs) (y ∷ ys) are others less =
    by (nat_cmp x y) refl (number_decides k xs ys are.1 others.1)
  where
    by : (o : Ordering) → nat_cmp x y ≡ o → (number k xs < number k ys → key_order xs ys ≡ Less)
        → ordering_then o (key_order xs ys) ≡ Less
    by Less is rest = refl
    by Equal is rest = rest (omega (arith, rw (ranked x y Equal (sym is)) at less))
    by Greater is rest =
        let most = number_most k ys others.1 in
        let more = mul-le (y + 1) (256 ^ k) x (256 ^ k)
        (omega (arith, ranked x y Greater (sym is))) (omega arith) in
        absurd (omega (arith, less, most, rw (add-mul, one-mul) at more))

-- texts with the same front compare as what follows it
pub past_front : (len : ℕ) (xs ys : List ℕ) → take len xs ≡ take len ys
    → key_order xs ys ≡ key_order (drop len xs) (drop len ys)
past_front zero xs ys same = refl
past_front (suc len) [] [] same = refl
past_front (suc len) (x ∷ xs) (y ∷ ys) same =
    let heads : x ≡ y = cc in
    rw (heads, tied_number y) (past_front len xs ys (cc))
past_front (suc len) xs ys same = cc

-- fronts that differ compare as the texts do
pub front_decides : (len : ℕ) (xs ys : List ℕ) (o : Ordering)
    → key_order (take len xs) (take len ys) ≡ o → o ≢ Equal → key_order xs ys ≡ o
front_decides zero xs ys o is differ = absurd (differ (sym is))
front_decides (suc len) [] [] o is differ = is
front_decides (suc len) (x ∷ xs) (y ∷ ys) o is differ =
    by (nat_cmp x y) is (λ rest. front_decides len xs ys o rest differ)
  where
    by : (p : Ordering) → ordering_then p (key_order (take len xs) (take len ys)) ≡ o
        → (key_order (take len xs) (take len ys) ≡ o → key_order xs ys ≡ o)
        → ordering_then p (key_order xs ys) ≡ o
    by Less is rest = is
    by Equal is rest = rest is
    by Greater is rest = is
front_decides (suc len) xs ys o is differ = is

-- a text between two with the same front has it too
pub between : (len : ℕ) (low text high : List ℕ) → take len low ≡ take len high
    → key_order low text ≡ Less → key_order text high ≡ Less → take len text ≡ take len low
between len low text high same above below = by (key_order (take len low) (take len text)) refl
  where
    by : (o : Ordering) → key_order (take len low) (take len text) ≡ o
        → take len text ≡ take len low
    by Less is =
        let more = front_decides len text high Greater
        (rw (← same) (turned (take len low) (take len text) is)) (λ e. cc) in
        cc
    by Equal is = sym (exact_bytes (take len low) (take len text) is)
    by Greater is = let more = front_decides len low text Greater is (λ e. cc) in cc

-- the bits of texts with the same front decide as the texts do, where they differ
bits_decide : (len : ℕ) (xs ys : List ℕ) → AreBytes xs → AreBytes ys → take len xs ≡ take len ys
    → from_be_bytes w64 (drop len xs) < from_be_bytes w64 (drop len ys) → key_order xs ys ≡ Less
bits_decide len xs ys are others same less = past_front len xs ys same
    ∙ number_decides 8 (drop len xs) (drop len ys) (all_drop _ len xs are)
    (all_drop _ len ys others) (rw (is_number, is_number) at less)

-- a mark compares as its text does to one with the same front
pub mark_decides : (text_of : ℕ → List ℕ) (len : ℕ) (front text : List ℕ) (mark : Mark)
    → IsMark text_of len front mark → AreBytes text → take len text ≡ front
    → mark_order text_of (from_be_bytes w64 (drop len text)) text mark
    ≡ key_order (text_of mark.id) text
mark_decides text_of len front text mark is are begins =
    by (nat_cmp mark.bits (from_be_bytes w64 (drop len text))) refl
  where
    known : List ℕ
    known = text_of mark.id

    same : take len known ≡ take len text
    same = is.begins ∙ sym begins

    by : (o : Ordering) → o ≡ nat_cmp mark.bits (from_be_bytes w64 (drop len text))
        → match_ordering o Less (key_order known text) Greater ≡ key_order known text
    by Less o = sym (bits_decide len known text is.bytes are same
        (rw is.bits at (ranked mark.bits (from_be_bytes w64 (drop len text)) Less o)))
    by Equal o = refl
    by Greater o = sym (nat_list_cmp_total.antisymm known text ∙ ap ordering_reverse
        (bits_decide len text known are is.bytes (sym same)
        (rw is.bits at (ranked mark.bits (from_be_bytes w64 (drop len text)) Greater o))))

-- what is read of a text is bytes
pub are_bytes : (bs : List ℕ) → ((i : ℕ) → Fits w8 (get_or bs i 0)) → AreBytes bs
are_bytes [] each = tt
are_bytes (b ∷ bs) each = (omega (arith, each 0), are_bytes bs (λ i. each (suc i)))
