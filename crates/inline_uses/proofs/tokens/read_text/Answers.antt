use Rattle.std.proofs.Common.{◌∷◌, [], ◌++◌, Some, sym, ap, ◌∙◌, append_assoc}
use Rattle.std.specs.Str.{chars}
use Rattle.inline_uses.proofs.Lexemes.{unescaped-append}
use Rattle.inline_uses.proofs.tokens.read_text.Goals as goal

pub loop-read-preserved : goal.loop-read-preserved
loop-read-preserved g c =
    let so_far = c.loop-read.invariant.1 in
    let next = rw c.in-Some.is at c.in-Ok.ensures.char in
    let rest = chars c.in-Ok.read.1.now in (
      c.in-Ok.ensures.utf8,
      (
        so_far.0 ++ next.0,
        so_far.1 ∙ ap (λ l. so_far.0 ++ l) next.1 ∙ sym (append_assoc so_far.0 next.0 rest),
        unescaped-append so_far.0 next.0 c.loop-read.word (c.in-Some.ch ∷ []) so_far.2 next.2
            ∙ ap Some (sym c.in-Ok-push.ensures.ok),
      ),
    )

pub returns-in-Err-push-clause-err : goal.returns-in-Err-push-clause-err
returns-in-Err-push-clause-err g c =
    let so_far = c.loop-read.invariant.1 in
    let next = rw c.in-Some.is at c.in-Ok.ensures.char in
    let rest = chars c.in-Ok.read.1.now in (
      so_far.0 ++ next.0,
      c.loop-read.word ++ c.in-Some.ch ∷ [],
      rest,
      so_far.1 ∙ ap (λ l. so_far.0 ++ l) next.1 ∙ sym (append_assoc so_far.0 next.0 rest),
      unescaped-append so_far.0 next.0 c.loop-read.word (c.in-Some.ch ∷ []) so_far.2 next.2,
      rw (c.sizes_of_parts.ensures.joined c.loop-read.word (c.in-Some.ch ∷ []))
          c.in-Err-push.ensures.fits,
    )
