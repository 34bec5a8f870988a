use Rattle.inline_uses.proofs.Names.{bytes_decides, sym, take, ◌≡◌}
use Rattle.inline_uses.proofs.RunGrown.{first_id, shared_with_first}
use Rattle.inline_uses.proofs.index.run.Run.shared_front.Goals as goal

pub returns-then-eq-clause-shared : goal.returns-then-eq-clause-shared
returns-then-eq-clause-shared g c =
    let front = c.args.self.now.front in
    let same : take front c.as_bytes-known.result.now ≡ take front c.args.text.now
    = (bytes_decides _ _).0
    (rw (c.front_of.ensures, c.front_of-2.ensures, c.if-eq.true) at (sym c.eq.ensures)) in
    shared_with_first (g.T.Texts.text_of c.args.texts.now) front c.args.text.now
    c.args.self.now.marks.items c.in-Some.first.now
    (rw c.deref.ensures.value at c.in-Some.ensures.value)
    (rw (c.as_bytes-known.ensures.value, c.text.ensures) at same)

pub returns-clause-shared : goal.returns-clause-shared
returns-clause-shared g c = shared_with_first (g.T.Texts.text_of c.args.texts.now)
    c.shared_steps.result c.args.text.now c.args.self.now.marks.items c.in-Some.first.now
    (rw c.deref.ensures.value at c.in-Some.ensures.value)
    (rw (c.as_bytes-known.ensures.value, c.text.ensures) at c.shared_steps.ensures.shared)

pub returns-clause-least : goal.returns-clause-least
returns-clause-least g c = λ first is.
    let same = first_id c.args.self.now.marks.items c.in-Some.first.now first
    (rw c.deref.ensures.value at c.in-Some.ensures.value) is in
    rw (← same)
    (rw (c.as_bytes-known.ensures.value, c.text.ensures) at c.shared_steps.ensures.least)
