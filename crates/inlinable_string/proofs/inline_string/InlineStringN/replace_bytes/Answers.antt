use Rattle.std.proofs.Common.{sym, ◌∙◌}
use Rattle.inlinable_string.proofs.Text.{size_of}
use Rattle.inlinable_string.proofs.Window.{held}
use Rattle.std.proofs.lemmas.Str.{encodes-chars}
use Rattle.inlinable_string.proofs.inline_string.InlineStringN.replace_bytes.Goals as goal

pub returns-then-bytes-self-clause-wrong_length : goal.returns-then-bytes-self-clause-wrong_length
returns-then-bytes-self-clause-wrong_length g c _ e =
    let h = held c.self.inside.window c.self.view_is c.self.invariant in
    c.if-bytes-self.true (e ∙ size_of h)

pub returns-in_default-clause-not_utf8 : goal.returns-in_default-clause-not_utf8
returns-in_default-clause-not_utf8 g c _ =
    let h = held c.self.inside.window c.self.view_is c.self.invariant in
    (c.if-bytes-self.false ∙ sym (size_of h), c.in_default.ensures)

pub returns-clause-ok : goal.returns-clause-ok
returns-clause-ok g c =
    let utf8 = c.in-Some.ensures in
    rw (c.overwrite.ensures.text ∙ c.as_bytes.ensures.value ∙ utf8.0) (encodes-chars _ utf8.1)

pub returns-clause-same_length : goal.returns-clause-same_length
returns-clause-same_length g c =
    let h = held c.self.inside.window c.self.view_is c.self.invariant in
    c.if-bytes-self.false ∙ sym (size_of h)
