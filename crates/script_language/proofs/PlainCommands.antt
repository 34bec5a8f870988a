-- Commands told by their words and their arguments, wherever what they borrow stands.
use Rattle.std.proofs.Common.{◌≡◌, refl, sym, ap, subst, ◌∙◌, ℕ, List, [], ◌∷◌, map}
use Rattle.inlinable_string.specs.State.{TextState}
use Rattle.inlinable_string.specs.Edit.{edit}
use Rattle.inlinable_string.specs.Run.{need_of, state_after_step, state_after, IsLegal, LegalReplies}
use Rattle.inlinable_string.specs.declared.run.Command.{Command}
use Rattle.inlinable_string.specs.declared.run.Command.TheVariants.{Pop}
use Rattle.inlinable_string.specs.declared.run.Reply.{Reply}
use Rattle.script_language.specs.Line.{arguments_of, word_of}
use Rattle.script_language.specs.Script.{LinesAskFor}
use Rattle.script_language.proofs.OneCommand.{one_command}
use Rattle.script_language.proofs.Words.{plain_of}

-- a command by its word and its arguments alone
abbrev pub plain : Command → Command
plain command = plain_of (word_of command) (arguments_of command)

-- it does the same
plain_edit : (t : List ℕ) (command : Command) → edit t command ≡ edit t (plain command)
plain_edit t Pop = refl
plain_edit t command = refl

-- and needs the same room
plain_need : (command : Command) → need_of command ≡ need_of (plain command)
plain_need Pop = refl
plain_need command = refl

-- its step is the same
plain_step : (s : TextState) (command : Command) (reply : Reply)
    → state_after_step s command reply ≡ state_after_step s (plain command) reply
plain_step s Pop reply = refl
plain_step s command reply = refl

-- and the same replies are legal
plain_reply : (s : TextState) (command : Command) (reply : Reply) → IsLegal s command reply
    → IsLegal s (plain command) reply
plain_reply s Pop reply legal = legal
plain_reply s command reply legal = record { answer = legal.answer; counted = legal.counted }

-- one word and one list of arguments make one plain command
pub one_plain : (one other : Command) → word_of one ≡ word_of other
    → arguments_of one ≡ arguments_of other → plain one ≡ plain other
one_plain one other words args =
    ap (λ w. plain_of w (arguments_of one)) words ∙ ap (plain_of (word_of other)) args

pub same_edit : (t : List ℕ) (one other : Command) → word_of one ≡ word_of other
    → arguments_of one ≡ arguments_of other → edit t one ≡ edit t other
same_edit t one other words args =
    plain_edit t one ∙ ap (edit t) (one_plain one other words args) ∙ sym (plain_edit t other)

pub same_need : (one other : Command) → word_of one ≡ word_of other
    → arguments_of one ≡ arguments_of other → need_of one ≡ need_of other
same_need one other words args =
    plain_need one ∙ ap need_of (one_plain one other words args) ∙ sym (plain_need other)

-- replies to commands are legal as replies to the plain ones
pub plain_legal : (s : TextState) (commands : List Command) (replies : List Reply)
    → LegalReplies s commands replies → LegalReplies s (map plain commands) replies
plain_legal s [] [] legal = tt
plain_legal s [] (r ∷ replies) legal = absurd legal
plain_legal s (c ∷ commands) [] legal = absurd legal
plain_legal s (c ∷ commands) (r ∷ replies) legal = (
  plain_reply s c r legal.0,
  subst (λ u. LegalReplies u (map plain commands) replies) (plain_step s c r)
      (plain_legal (state_after_step s c r) commands replies legal.1),
)

-- and leave the same state
pub plain_state : (s : TextState) (commands : List Command) (replies : List Reply)
    → state_after s commands replies ≡ state_after s (map plain commands) replies
plain_state s [] replies = refl
plain_state s (c ∷ commands) [] = refl
plain_state s (c ∷ commands) (r ∷ replies) =
    plain_state (state_after_step s c r) commands replies
    ∙ ap (λ u. state_after u (map plain commands) replies) (plain_step s c r)

-- lines ask for one list of whatever is read from a command's word and its arguments
pub asked_alike : {A : Type 0} (read : Command → A)
    → ((one other : Command) → word_of one ≡ word_of other
    → arguments_of one ≡ arguments_of other → read one ≡ read other)
    → (lines : List (List ℕ)) (one other : List Command) → LinesAskFor lines one
    → LinesAskFor lines other → map read one ≡ map read other
asked_alike read same [] [] [] a b = refl
asked_alike read same [] [] (d ∷ other) a b = absurd b
asked_alike read same [] (c ∷ one) other a b = absurd a
asked_alike read same ([] ∷ lines) one other a b = asked_alike read same lines one other a b
asked_alike read same ((x ∷ line) ∷ lines) [] other a b = absurd a
asked_alike read same ((x ∷ line) ∷ lines) (c ∷ one) [] a b = absurd b
asked_alike read same ((x ∷ line) ∷ lines) (c ∷ one) (d ∷ other) a b =
    let alike = one_command (x ∷ line) c d a.0 b.0 in
    ap (λ y. y ∷ map read one) (same c d alike.0 alike.1)
    ∙ ap (λ ys. read d ∷ ys) (asked_alike read same lines one other a.1 b.1)
