-- A script whose output the prover works out: it pushes "a" on an inline text.
use Rattle.std.proofs.Common.{◌≡◌, ap, subst, ◌∙◌, ℕ, List, [], ◌∷◌, inl, inr, arith, codes, map, refl}
use lib.Utf8.{encode}
use Rattle.std.specs.Fmt.{digits}
use Rattle.std.specs.declared.string.String.{String}
use Rattle.inlinable_string.specs.State.{TextState}
use Rattle.inlinable_string.specs.Run.{IsLegal, IsRun, LegalReplies, state_after}
use Rattle.inlinable_string.specs.declared.run.Command.{Command}
use Rattle.inlinable_string.specs.declared.run.Command.TheVariants.{Push}
use Rattle.inlinable_string.specs.declared.run.Reply.{Reply}
use Rattle.inlinable_string.specs.declared.run.Reply.TheVariants.{Done}
use Rattle.script_language.specs.Output.{printed}
use Rattle.script_language.specs.Script.{LinesAskFor, IsMade, IsNamed, lines_of}
use Rattle.script_language.specs.declared.start.Start.{Start}
use Rattle.script_language.specs.declared.start.Start.TheVariants as start
use Rattle.script_language.proofs.PlainCommands.{asked_alike, one_plain, plain, plain_legal}
use Rattle.script_language.proofs.Outputs.{one_start, printed_plain}

-- the text has room for it inline, so that it cannot be refused
done : (s : TextState) (reply : Reply) → IsMade start.Inline s → IsLegal s (Push 97) reply
    → reply ≡ Done
unfolding encode
done s reply made legal = elim legal.answer [
  | inl same ↦ same
  | inr refused ↦ absurd (refused.1 (inr (inl (
    made.storage,
    rw (made.text, made.policy) (omega arith),
  ))))
]

one_reply : (s : TextState) (replies : List Reply) → IsMade start.Inline s
    → LegalReplies s (Push 97 ∷ []) replies → replies ≡ Done ∷ []
one_reply s [] made legal = absurd legal
one_reply s (r ∷ []) made legal = ap (λ x. x ∷ []) (done s r made legal.0)
one_reply s (r ∷ q ∷ rs) made legal = absurd legal.1

printed_after : (s : TextState) → IsMade start.Inline s
    → printed (Done ∷ []) (state_after s (Push 97 ∷ []) (Done ∷ []))
    ≡ codes "done\ntext a\nlength 1\nstorage inline\n"
unfolding digits encode
printed_after s made = rw (made.text, made.storage, made.policy) refl

pub push_prints : {Z : Type 0} (words : List (String Z)) (input output : List ℕ) {begun : Start}
    {asked : List Command} {old new : TextState} {replies : List Reply} → IsNamed words begun
    → LinesAskFor (lines_of input) asked → IsMade begun old → IsRun old asked replies new
    → output ≡ printed replies new → IsNamed words start.Inline
    → LinesAskFor (lines_of input) (Push 97 ∷ [])
    → output ≡ codes "done\ntext a\nlength 1\nstorage inline\n"
push_prints words input output {begun} {asked} {old} {new} {replies} named asks made_so ran shown
    known lines =
    let cs = Push 97 ∷ [] in
    let made = subst (λ b. IsMade b old) (one_start words begun start.Inline named known) made_so in
    let same : map plain asked ≡ cs =
    asked_alike plain one_plain (lines_of input) asked cs asks lines in
    let legal = subst (λ l. LegalReplies old l replies) same
    (plain_legal old asked replies ran.legal) in
    shown
    ∙ printed_plain old new asked replies ran
    ∙ ap (λ l. printed replies (state_after old l replies)) same
    ∙ ap (λ rs. printed rs (state_after old cs rs)) (one_reply old replies made legal)
    ∙ printed_after old made
