use Rattle.inlinable_string.proofs.Common.{rules, ap, ◌∙◌, chars, encodes-chars}
use Rattle.std.proofs.lemmas.Str.{IsUtf8-had}
use Rattle.inlinable_string.proofs.Window.{held, place_in, dropped}
use Rattle.inlinable_string.proofs.inline_string.InlineStringN.drop_front.Goals as goal

pub drop_front-requires : goal.drop_front-requires
drop_front-requires g c =
    let h = held c.self.inside.window c.self.view_is c.self.invariant in
    (search rules, ((c.self.invariant.0, c.self.invariant.1), place_in h c.requires))

pub invariant_of-self : goal.invariant_of-self
invariant_of-self g c =
    let h = held c.self.inside.window c.self.view_is c.self.invariant in
    let new = dropped h c.requires c.drop_front.ensures.text in
    (c.drop_front.ensures.inside.0, c.drop_front.ensures.inside.1, new.0)

pub returns : goal.returns
returns g c =
    let h = held c.self.inside.window c.self.view_is c.self.invariant in
    let new = dropped h c.requires c.drop_front.ensures.text in
    record { text = ap chars new.1; bytes = encodes-chars _ (IsUtf8-had _ new.0) ∙ new.1 }
