-- What is printed of a script is determined, except by where allocations fail.
use Rattle.std.proofs.Common.{◌≡◌, refl, sym, ap, subst, ◌∙◌, ℕ, List, codes, map, if◌then◌else◌}
use Rattle.std.specs.Str.{bytes_eq}
use Rattle.std.specs.declared.string.String.{String}
use Rattle.inlinable_string.specs.State.{TextState, storage_when_made}
use Rattle.inlinable_string.specs.Edit.{text_after}
use Rattle.inlinable_string.specs.Run.{IsRun, LegalReplies, state_after}
use Rattle.inlinable_string.specs.Laws.{is_refusal}
use Rattle.inlinable_string.specs.declared.run.Command.{Command}
use Rattle.inlinable_string.specs.declared.run.Reply.{Reply}
use Rattle.inlinable_string.proofs.RefusalsDecide.{same_replies, same_storage}
use Rattle.inlinable_string.proofs.Runs.{text_of}
use Rattle.script_language.specs.Output.{printed}
use Rattle.script_language.specs.Script.{IsNamed, Prints, PrintsFrom, policy_of, room_of, word_of_start}
use Rattle.script_language.specs.declared.start.Start.{Start}
use Rattle.script_language.specs.declared.start.Start.TheVariants as start
use Rattle.script_language.proofs.PlainCommands.{plain, plain_legal, plain_state}

-- the start of a word
abbrev start_of_word : List ℕ → Start
start_of_word word =
    if bytes_eq word (codes "inline") then start.Inline else
    if bytes_eq word (codes "string") then start.String else
    if bytes_eq word (codes "heap") then start.Heap else
    if bytes_eq word (codes "inline0") then start.Inline0 else
    start.Inline8

start_is : (start : Start) → start_of_word (word_of_start start) ≡ start
start_is start.Inline = refl
start_is other = refl

-- no words name two starts
pub one_start : {Z : Type 0} (words : List (String Z)) (one other : Start) → IsNamed words one
    → IsNamed words other → one ≡ other
one_start words one other named as_well =
    let word : word_of_start one ≡ word_of_start other = search (sym named ∙ as_well) in
    sym (start_is one) ∙ ap start_of_word word ∙ start_is other

-- the capacity is not printed, nor is the policy
same_printed : (replies : List Reply) (s t : TextState) → s.text ≡ t.text → s.storage ≡ t.storage
    → printed replies s ≡ printed replies t
same_printed replies s t text storage = rw (text, storage) refl

-- a run prints what the plain commands leave
pub printed_plain : (old new : TextState) (commands : List Command) (replies : List Reply)
    → IsRun old commands replies new
    → printed replies new ≡ printed replies (state_after old (map plain commands) replies)
printed_plain old new commands replies run =
    same_printed replies new (state_after old commands replies)
    (run.text ∙ sym (text_of old commands replies)) run.storage
    ∙ ap (printed replies) (plain_state old commands replies)

-- the same plain commands and the same replies print the same, from states that differ in capacity
same_end : (s t : TextState) (commands : List Command) (replies : List Reply) → s.text ≡ t.text
    → s.storage ≡ t.storage → s.policy ≡ t.policy
    → printed replies (state_after s commands replies) ≡ printed replies
    (state_after t commands replies)
same_end s t commands replies text storage policy =
    same_printed replies (state_after s commands replies) (state_after t commands replies)
    (text_of s commands replies ∙ ap (λ u. text_after u commands replies) text
    ∙ sym (text_of t commands replies))
    (same_storage s t commands replies text storage policy)

-- two outputs of the same plain commands are one where the refusals are the same
same_output : (s t : TextState) (one other : List Command) (output as_well : List ℕ)
    (first : Prints s one output) (second : Prints t other as_well) → s.text ≡ t.text
    → s.storage ≡ t.storage → s.policy ≡ t.policy → map plain one ≡ map plain other
    → map is_refusal first.replies ≡ map is_refusal second.replies → output ≡ as_well
same_output s t one other output as_well first second text storage policy same refusals =
    let legal = subst (λ cs. LegalReplies s cs first.replies) same
    (plain_legal s one first.replies first.ran.legal) in
    let also = plain_legal t other second.replies second.ran.legal in
    let replies = same_replies s t (map plain other) first.replies second.replies text legal also
    refusals in
    first.shown
    ∙ printed_plain s first.new one first.replies first.ran
    ∙ ap (λ cs. printed first.replies (state_after s cs first.replies)) same
    ∙ same_end s t (map plain other) first.replies text storage policy
    ∙ ap (λ rs. printed rs (state_after t (map plain other) rs)) replies
    ∙ sym (printed_plain t second.new other second.replies second.ran)
    ∙ sym second.shown

-- the same from one start
pub from_same_start : (start begun : Start) (one other : List Command) (output as_well : List ℕ)
    → start ≡ begun
    → (first : PrintsFrom start one output) (second : PrintsFrom begun other as_well)
    → map plain one ≡ map plain other
    → map is_refusal first.run.replies ≡ map is_refusal second.run.replies → output ≡ as_well
from_same_start start begun one other output as_well is first second same refusals =
    same_output first.made second.made one other output as_well first.run second.run
    (first.begun.text ∙ sym second.begun.text)
    (first.begun.storage ∙ ap (λ b. storage_when_made (policy_of b) (room_of b)) is
    ∙ sym second.begun.storage)
    (first.begun.policy ∙ ap policy_of is ∙ sym second.begun.policy)
    same refusals
