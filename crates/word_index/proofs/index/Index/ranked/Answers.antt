use Rattle.std.proofs.Common.{rules, Bor, ◌≡◌, ◌-◌, ◌^◌, [], ◌++◌, map, append-nil, sym, subst, ◌∙◌}
use Rattle.std.specs.List.Sorted.{IsPermutation}
use Rattle.std.proofs.lemmas.List.{append_assoc, map-append}
use Rattle.std.proofs.lemmas.List.Sorted.{IsPermutation-map, IsNonDecreasingBy-from_sort_by_key}
use Rattle.inlinable_string.specs.declared.inlinable_string.InlinableStringN.{InlinableStringN}
use Rattle.word_index.specs.declared.index.Uses.{Uses}
use Rattle.word_index.specs.Index.{shown}
use Rattle.word_index.proofs.index.Index.ranked.Goals as goal

pub loop-word-init : goal.loop-word-init
loop-word-init c = search rules

pub loop-word-preserved : goal.loop-word-preserved
loop-word-preserved c =
    let items = c.loop-word.ranked.items in
    let left = rw c.in-Some.ensures.steps at c.loop-word.invariant in
    rw (c.in_ok-push.ensures.items, map-append)
    (append_assoc (map shown items) _ c.next.new.self ∙ left)

pub returns-clause-words : goal.returns-clause-words
returns-clause-words c =
    let items = c.loop-word.ranked.items in
    let all : map shown items ++ [] ≡ c.args.self.now
    = rw c.in-None.ensures.steps.0 at c.loop-word.invariant in
    subst (λ entries. IsPermutation entries (map shown c.sort_by_key.new.self.items))
    (sym (append-nil (map shown items)) ∙ all)
    (IsPermutation-map shown items c.sort_by_key.new.self.items c.sort_by_key.ensures.permutation)

pub returns-clause-order : goal.returns-clause-order
returns-clause-order c =
    IsNonDecreasingBy-from_sort_by_key
    (λ (e : Bor (InlinableStringN 30) × Uses). 2 ^ 64 - 1 - e.1.count) c.sort_by_key.new.self.items
    c.in_ok-sort_by_key.ensures.sorted (λ a r q k. search rules)
