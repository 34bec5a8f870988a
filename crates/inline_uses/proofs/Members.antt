-- The entries of a store, and the members of a JSON object.
use Rattle.inline_uses.proofs.Names.{AllByRecursion, Equal, Greater, IsStrictlySortedBy, Less, List, Ordering, Some, [], ap, append-nil, append_assoc, key_order, keys_of, map, map-append, match_ordering, nat_list_cmp_total, ordering_reverse, refl, subst, sym, ℕ, ◌++◌, ◌∙◌, ◌∷◌, ◌≡◌}
use Rattle.serde_json.specs.Data.{string, Members, no_members, member, put, members_depth}
use Rattle.inline_uses.specs.Store.{Entries, AreInOrder, with_value, with_members}

-- f of either of an order
pub by_order : {A B : Type 0} (f : A → B) (o : Ordering) (x y z : A) (w : B) → f z ≡ w
    → f (match_ordering o x y z) ≡ match_ordering o (f x) (f y) w
by_order f Less x y z w e = refl
by_order f Equal x y z w e = refl
by_order f Greater x y z w e = e

-- the members of a JSON object with the values as strings under their keys
abbrev pub members_of : Entries → Members
members_of [] = no_members
members_of (e ∷ entries) = member e.0 (string e.1) (members_of entries)

-- a key that is below all that follow it is below one of them
below : (key : List ℕ) (done : Entries) (e : List ℕ × List ℕ) (more : Entries)
    → AllByRecursion (λ k. key_order key k ≡ Less) (keys_of (done ++ e ∷ more))
    → key_order key e.0 ≡ Less
below key [] e more h = h.0
below key (d ∷ done) e more h = below key done e more h.1

-- a key that is above those before it goes last
goes_last : (done : Entries) (e : List ℕ × List ℕ) (more : Entries)
    → AreInOrder (done ++ e ∷ more) → with_value done e.0 e.1 ≡ done ++ e ∷ []
unfolding IsStrictlySortedBy
goes_last [] e more h = refl
goes_last (d ∷ done) e more h =
    let above : key_order e.0 d.0 ≡ Greater =
    nat_list_cmp_total.antisymm e.0 d.0 ∙ ap ordering_reverse (below d.0 done e more h.0) in
    rw above (ap (λ rest. d ∷ rest) (goes_last done e more h.1))

-- members are read as entries, where these go on in order
read_on : (done more : Entries) → AreInOrder (done ++ more)
    → with_members done (members_of more) ≡ Some (done ++ more)
read_on done [] order = ap Some (sym (append-nil done))
read_on done (e ∷ more) order =
    rw (goes_last done e more order) (read_on (done ++ e ∷ []) more (rw append_assoc order)
    ∙ ap Some (append_assoc done (e ∷ []) more))

-- a key that is below those after it goes first
goes_first : (before : Entries) (e : List ℕ × List ℕ) (after : Entries)
    → AreInOrder (before ++ e ∷ after) → with_value after e.0 e.1 ≡ e ∷ after
unfolding IsStrictlySortedBy
goes_first [] e [] h = refl
goes_first [] e (d ∷ after) h = rw h.0.0 refl
goes_first (b ∷ before) e after h = goes_first before e after h.1

-- a value that is put in is a member that is put in
put_in : (entries : Entries) (key value : List ℕ)
    → put key (string value) (members_of entries) ≡ members_of (with_value entries key value)
put_in [] key value = refl
put_in (e ∷ entries) key value = sym (by_order members_of (key_order key e.0) _ _ _ _
    (ap (λ rest. member e.0 (string e.1) rest) (sym (put_in entries key value))))

flat : (entries : Entries) → members_depth (members_of entries) ≡ 0
flat [] = refl
flat (e ∷ entries) = rw (flat entries) refl

-- the members have those entries that are not seen of the rest
abbrev pub ArePut : {X : Type 0} → (X → List ℕ × List ℕ) → List X → Entries → Members → Type 0
ArePut view rest all ms = (done : Entries) × (ms ≡ members_of done) × (map view rest ++ done ≡ all)

module _ {X : Type 0} (view : X → List ℕ × List ℕ) (rest : List X) (all : Entries) (ms : Members)
  where
    -- the last of the rest is put in before those after it
    pub one_put : (left : List X) (e : X) → rest ≡ left ++ e ∷ [] → AreInOrder all
        → ArePut view rest all ms → ArePut view left all (put (view e).0 (string (view e).1) ms)
    one_put left e last order (done, is, parts) =
        let more : map view left ++ view e ∷ done ≡ all
        = rw (last, map-append, append_assoc) at parts in (
          view e ∷ done,
          rw is (put_in done (view e).0 (view e).1 ∙ ap members_of
              (goes_first (map view left) (view e) done (subst AreInOrder (sym more) order))),
          more,
        )

    pub all_put : rest ≡ [] → AreInOrder all → ArePut view rest all ms
        → with_members [] ms ≡ Some all
    all_put end order (done, is, parts) =
        let same : done ≡ all = rw end at parts in
        rw (is, same) (read_on [] all order)

    -- strings have nothing in them
    pub flat_put : ArePut view rest all ms → members_depth ms ≡ 0
    flat_put (done, is, _) = rw is (flat done)
