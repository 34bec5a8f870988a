use Rattle.inlinable_string.proofs.Common.{rules, ◌∙◌, Some}
use Rattle.inlinable_string.proofs.Window.{held, front_within, popped}
use Rattle.inlinable_string.proofs.Text.{nil_from_size, size-popped, size_bound}
use Rattle.inlinable_string.proofs.inline_string.InlineStringN.pop.Goals as goal

pub returns-in_err-last : goal.returns-in_err-last
returns-in_err-last g c = search (rules, nil_from_size)

pub overflow_sub-len : goal.overflow_sub-len
overflow_sub-len g c =
    let h = held c.self.inside.window c.self.view_is c.self.invariant in
    front_within h _ _ _ c.in_ok-last.last (c.chars-rest.ensures.rest ∙ c.as_str.ensures.value)
    c.in_ok-last.ensures.steps c.as_str-rest_len.ensures

pub invariant_of-self : goal.invariant_of-self
invariant_of-self g c =
    let h = held c.self.inside.window c.self.view_is c.self.invariant in
    let new = popped h _ _ _ c.in_ok-last.last (c.chars-rest.ensures.rest ∙ c.as_str.ensures.value)
    c.in_ok-last.ensures.steps c.as_str-rest_len.ensures c.as_str-rest_len.utf8
    c.drop_back.ensures.text in
    (c.drop_back.ensures.inside.0, c.drop_back.ensures.inside.1, new.0)

pub returns : goal.returns
returns g c =
    let h = held c.self.inside.window c.self.view_is c.self.invariant in
    let last = c.in_ok-last.last in
    let text = (popped h _ _ _ last (c.chars-rest.ensures.rest ∙ c.as_str.ensures.value)
    c.in_ok-last.ensures.steps c.as_str-rest_len.ensures c.as_str-rest_len.utf8
    c.drop_back.ensures.text).1 in
    record {
      text = text;
      len = size-popped (Some last) _ _ text;
      bound = size_bound (Some last) _ _ text;
    }
