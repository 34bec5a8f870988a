use Rattle.std.proofs.Common.{[], ◌∷◌, ap, refl, ◌∙◌}
use Rattle.std.specs.Str.Iter.{split_whitespace_rest}
use Rattle.word_index.specs.Index.{BeginsWith}
use Rattle.word_index.proofs.index.Index.add_line.Goals as goal

pub loop-word-init : goal.loop-word-init
loop-word-init c =
    let rest = ap split_whitespace_rest c.into_iter-word-iterator.ensures.into_iter_gives
    ∙ c.split_whitespace-word-items.ensures.rest in
    rw rest (λ words are. (words, are, refl))

pub loop-word-preserved : goal.loop-word-preserved
loop-word-preserved c =
    let (space, joined, some, blank, whole, ends) = c.in-Some.ensures.steps in
    let starts : BeginsWith (split_whitespace_rest c.loop-word.word-iterator) c.in-Some.word.now
    (split_whitespace_rest c.next.new.self) = record {
      space = space;
      joined = joined;
      some = some;
      blank = blank;
      whole = whole;
      ends = ends;
    } in
    λ words are. rw c.in_ok-add.ensures.ok
    (c.loop-word.invariant (c.in-Some.word.now ∷ words) (_, starts, are))

pub returns : goal.returns
returns c = c.loop-word.invariant [] c.in-None.ensures.steps.1
