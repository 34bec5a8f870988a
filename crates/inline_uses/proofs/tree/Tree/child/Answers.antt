use Rattle.inline_uses.proofs.TreeNames.{IsPlaceOf, IsTree, None, ap, arith, chars, length, place_order, rules, size, subst, value_at, ◌<◌, ◌≡◌}
use Rattle.inline_uses.proofs.Trees.{is_place}
use Rattle.inline_uses.proofs.tree.Tree.child.Goals as goal

pub returns-in_err-key : goal.returns-in_err-key
returns-in_err-key c =
    let key = c.args.key.now in
    let long : 16 < length key = search rules in
    let bytes : size (chars key) ≡ length key
    = c.sizes_of_parts.ensures.string key c.utf8.key in
    let none : c.from_residual.result ≡ None = search rules in
    rw (← c.self.view_is) (λ id. (
      (λ h. cc),
      λ is. absurd (omega (arith, long, bytes, c.self.invariant.0.short id _ is)),
    ))

pub returns : goal.returns
returns c =
    let key : c.in_ok-key.key ≡ chars c.args.key.now = search rules in
    let is : value_at place_order c.self.inside.ids (c.args.place, chars c.args.key.now)
    ≡ c.copied.result = rw (← key, ← c.new.ensures) (search rules) in
    rw (← c.self.view_is, ← is) (λ id. c.self.invariant.1 c.args.place (chars c.args.key.now) id
    (ap chars (c.bytes_of_parts.ensures.string c.args.key.now c.utf8.key)))

pub returns-then-not-has : goal.returns-then-not-has
returns-then-not-has c =
    let none : ¬ (IsPlaceOf c.args.self.now c.args.place) = search rules in
    let tree : IsTree c.args.self.now = subst IsTree c.self.view_is c.self.invariant.0 in
    λ id. (
      (λ h. cc),
      λ is. absurd (none (is_place c.args.self.now c.args.place (chars c.args.key.now) id tree is)),
    )
