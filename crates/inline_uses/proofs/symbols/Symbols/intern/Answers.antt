use Rattle.inline_uses.proofs.Names.{IsGap, Some, [], ap, bytes_at, ids_in, index_of, insert, keys_of, length, length-map, map, map-append, refl, rules, slice_get, take-append_seam, take-map, with_ids, ℕ, ◌++◌, ◌∷◌, ◌≡◌}
use Rattle.inline_uses.specs.Symbols.{texts_of}
use Rattle.inline_uses.proofs.Ids.{no_id, found_among, keys_are, added, gap_with, index_with, index_without}
use Rattle.inline_uses.proofs.Tables.{at_push, before_append}
use Rattle.inline_uses.proofs.symbols.Symbols.intern.Goals.{In-Err, In_ok-push-in-Err}
use Rattle.inline_uses.proofs.symbols.Symbols.intern.Goals as goal

pub returns-in-Ok-clause-id : goal.returns-in-Ok-clause-id
returns-in-Ok-clause-id c = rw (← c.self.view_is) ((found_among (texts_of c.self.inside)
    (ids_in c.self.inside.order) c.args.text.now c.in-Ok.ensures.found.0 c.in-Ok.id
    c.self.invariant.0 c.in-Ok.ensures.found.1 c.in-Ok.ensures.found.2 c.in-Ok.id).0 refl)

pub returns-in-Ok-clause-known : goal.returns-in-Ok-clause-known
returns-in-Ok-clause-known c = λ id is.
    let e : Some c.in-Ok.id ≡ Some id = (found_among (texts_of c.self.inside)
    (ids_in c.self.inside.order) c.args.text.now c.in-Ok.ensures.found.0 c.in-Ok.id
    c.self.invariant.0 c.in-Ok.ensures.found.1 c.in-Ok.ensures.found.2 id).1
    (rw c.self.view_is is) in
    (refl, cc)

pub returns-in-Ok-clause-new : goal.returns-in-Ok-clause-new
returns-in-Ok-clause-new c = λ none. absurd (none c.in-Ok.id (returns-in-Ok-clause-id c))

-- a text goes among the keys of the ids
gap : (c : In-Err) → IsGap (keys_of (with_ids (texts_of c.self.inside) (ids_in
    c.self.inside.order))) c.args.text.now (index_of c.self.inside.order c.in-Err.spot)
gap c = rw keys_are c.in-Err.ensures.gap

-- a text that goes among the others has no id
unknown : (c : In-Err) → (id : ℕ) → ¬ (slice_get c.args.self.now id ≡ Some c.args.text.now)
unknown c id is = no_id (texts_of c.self.inside) (ids_in c.self.inside.order) c.args.text.now
    (index_of c.self.inside.order c.in-Err.spot) c.self.invariant.0 (gap c) id
    (rw c.self.view_is is)

pub returns-in_err-text-in-Err-clause-known : goal.returns-in_err-text-in-Err-clause-known
returns-in_err-text-in-Err-clause-known c id is =
    absurd (unknown (goal.at.returns-in_err-text-in-Err-clause-known c).In-Err id is)

pub returns-in_err-push-in-Err-clause-known : goal.returns-in_err-push-in-Err-clause-known
returns-in_err-push-in-Err-clause-known c id is =
    absurd (unknown (goal.at.returns-in_err-push-in-Err-clause-known c).In-Err id is)

-- the texts with the new one
texts_are : (c : In_ok-push-in-Err) → map bytes_at c.push.new.self.items
    ≡ texts_of c.self.inside ++ c.args.text.now ∷ []
texts_are c = rw (c.in_ok-push-in-Err.ensures.items, map-append)
    (ap (λ b. texts_of c.self.inside ++ b ∷ []) (search rules))

count : (c : In_ok-push-in-Err) → c.len-id.result ≡ length (texts_of c.self.inside)
count c = rw (c.len-id.ensures, length-map) (search rules)

pub insert-requires-clause-index : goal.insert-requires-clause-index
insert-requires-clause-index c =
    index_with (texts_of c.self.inside) c.args.text.now
    (texts_are (goal.at.insert-requires-clause-index c).In_ok-push-in-Err)
    c.self.inside.order c.self.invariant.0.within c.self.invariant.1

pub insert-requires-clause-gap : goal.insert-requires-clause-gap
insert-requires-clause-gap c =
    let pushed = (goal.at.insert-requires-clause-gap c).In_ok-push-in-Err in
    gap_with (texts_of c.self.inside) c.args.text.now (texts_are pushed)
    (ids_in c.self.inside.order) (index_of c.self.inside.order c.in-Err.spot) (count pushed)
    c.self.invariant.0.within c.in-Err.ensures.gap

pub invariant_of-self-in-Ok-insert : goal.invariant_of-self-in-Ok-insert
invariant_of-self-in-Ok-insert c =
    let at = goal.at.invariant_of-self-in-Ok-insert c in
    let ids : ids_in c.insert.new.self ≡ insert (ids_in c.self.inside.order)
    (index_of c.self.inside.order c.in-Err.spot) (length (texts_of c.self.inside))
    = rw (c.in-Ok-insert.ensures.ok, count at.In_ok-push-in-Err) refl in (
      rw (texts_are at.In_ok-push-in-Err, ids) (added (texts_of c.self.inside)
          (ids_in c.self.inside.order) c.args.text.now
          (index_of c.self.inside.order c.in-Err.spot) c.self.invariant.0 (gap at.In-Err)),
      c.in-Ok-insert.ensures.index,
    )

pub invariant_of-self-in-Err-insert : goal.invariant_of-self-in-Err-insert
invariant_of-self-in-Err-insert c =
    let pushed = (goal.at.invariant_of-self-in-Err-insert c).In_ok-push-in-Err in
    let old = texts_of c.self.inside in
    let texts : map bytes_at c.truncate.new.self.items ≡ old
    = rw (c.truncate.ensures.items, ← take-map, texts_are pushed, count pushed, take-append_seam)
    refl in
    let ids : ids_in c.insert.new.self ≡ ids_in c.self.inside.order
    = c.in-Err-insert.ensures.err in (
      rw (texts, ids) c.self.invariant.0,
      rw texts (index_without old c.args.text.now (texts_are pushed) c.insert.new.self
          (rw ids c.self.invariant.0.within) c.in-Err-insert.ensures.index),
    )

pub returns-in-Ok-insert-clause-id : goal.returns-in-Ok-insert-clause-id
returns-in-Ok-insert-clause-id c =
    let pushed = (goal.at.returns-in-Ok-insert-clause-id c).In_ok-push-in-Err in
    rw (texts_are pushed, count pushed) (at_push (texts_of c.self.inside) c.args.text.now)

pub returns-in-Ok-insert-clause-known : goal.returns-in-Ok-insert-clause-known
returns-in-Ok-insert-clause-known c id is =
    absurd (unknown (goal.at.returns-in-Ok-insert-clause-known c).In-Err id is)

pub returns-in-Ok-insert-clause-kept : goal.returns-in-Ok-insert-clause-kept
returns-in-Ok-insert-clause-kept c = λ i known is.
    rw (texts_are (goal.at.returns-in-Ok-insert-clause-kept c).In_ok-push-in-Err)
    (before_append (texts_of c.self.inside) (c.args.text.now ∷ []) i known (rw c.self.view_is is))

pub returns-in-Err-insert-clause-known : goal.returns-in-Err-insert-clause-known
returns-in-Err-insert-clause-known c id is =
    absurd (unknown (goal.at.returns-in-Err-insert-clause-known c).In-Err id is)
